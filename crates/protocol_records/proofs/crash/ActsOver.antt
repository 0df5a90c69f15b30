-- What is over of an ACT, after every run.
use Rattle.std.specs.Prelude.{◌≡◌, refl, ℕ, zero, suc, ◌==◌, not, Bool, true, false, if◌then◌else◌, Option, Some, None, List, [], ◌∷◌, length, find}
use Rattle.std.specs.List.{list_all}
use Rattle.std.proofs.Common.{arith, sym, ap, ◌∙◌}
use Rattle.std.proofs.lemmas.Bool.{and_parts, or_right}
use Rattle.std.proofs.lemmas.List.{length-replicate}
use Rattle.snap_base.specs.declared.transactions.Tx.{Tx}
use Rattle.snap_base.specs.declared.transactions.State.{State}
use Rattle.protocol.specs.Facts.{Alone}
use Rattle.protocol.specs.Fixed.{Fixed, IsText}
use Rattle.protocol.specs.Parts.{Act, Joined, Machine}
use Rattle.protocol.specs.Events.{Event}
use Rattle.protocol.specs.Words.{holds, act_of, joined_of, is_decided, is_sealed}
use Rattle.protocol.specs.Effects.{no_log}
use Rattle.protocol.specs.History.{history}
use Rattle.protocol.specs.Laws.{AfterEveryRunWithHistory}
use Rattle.protocol.specs.Rests.{IsRest, IsTxIn}
use Rattle.protocol.specs.Runs.{opening, IsRun, reached}
use Rattle.protocol_records.specs.Logged.{ActsSure, ActsStand, ActSure, ActStands}
use Rattle.protocol_records.specs.Overs.{EndsWhole, ActsEndWhole}
use Rattle.protocol_laws.proofs.first.Along.{along}
use Rattle.protocol_laws.proofs.first.Leaves.{logs_stay}
use Rattle.protocol_laws.proofs.machine.Good.{Given}
use Rattle.protocol_laws.proofs.machine.AllGood.{none_allowed}
use Rattle.protocol_theorems.proofs.quiet.ActsKnown as of_acts
use Rattle.protocol_records.proofs.crash.CrashParts.{logs_hold}

record Ended {C : Type 0} (w : Fixed C) (s : Machine C) : Type 0 where
  pub logs : length s.logs ≡ w.text.logs
  pub acts : of_acts.AllFit w s

ended_after : {C : Type 0} (w : Fixed C) (es : List Event) → IsText w.text → IsRun w es → Ended w (reached w es)
ended_after w es v run =
    along w (Ended w) (λ e s ok h. record { logs = logs_stay w e s h.logs; acts = of_acts.fit_kept w e s v.some_logs h.logs ok h.acts }) es (opening w) run
    (record { logs = length-replicate w.text.logs no_log; acts = of_acts.fit_opened w })

-- on each actor it is vouched
vouched_at : (a : ℕ) (ps : List Joined) (p : Joined) → list_all (λ q. q.vouched) ps ≡ true → find (λ q. q.actor == a) ps ≡ Some p → p.vouched ≡ true
vouched_at a [] p h e = absurd (cc e)
vouched_at a (q ∷ ps) p h e = by (q.actor == a) (and_parts q.vouched (list_all (λ q. q.vouched) ps) h) e (vouched_at a ps p)
  where
    by : (b : Bool) → (q.vouched ≡ true) × (list_all (λ q. q.vouched) ps ≡ true) → (if b then Some q else find (λ q. q.actor == a) ps) ≡ Some p → (list_all (λ q. q.vouched) ps ≡ true → find (λ q. q.actor == a) ps ≡ Some p → p.vouched ≡ true) → p.vouched ≡ true
    by true g i k = let same : q ≡ p = cc i in ap (λ z. z.vouched) (sym same) ∙ g.0
    by false g i k = k g.1 i

whole : {C : Type 0} (w : Fixed C) (Of : Tx → C → Type 0) (finish : C → List State → Alone) (es : List Event) → Given w Of finish → IsText w.text → IsRun w es → (t : ℕ) (x : Act) → act_of t (reached w es).book.acts ≡ Some x → EndsWhole x
unfolding ActsSure ActsStand
whole w Of finish es g v run t x e =
    let l = logs_hold w Of finish es g run in
    let sure : ActSure w.text.logs (reached w es).logs t x = l.acts t x e in
    let stand : ActStands (history w es).long t x = l.stand t x e in
    record {
      left = of_acts.over w (reached w es) (ended_after w es v run).acts t x e;
      prepared = λ sealed value a. by a (joined_of a x) refl (λ p i. stand.first a p i (vouched_at a x.places p (sure.everywhere (or_right (is_decided x.status) (is_sealed x.status) sealed) value) i));
    }
  where
    by : (a : ℕ) (o : Option Joined) → joined_of a x ≡ o → ((p : Joined) → joined_of a x ≡ Some p → p.prepared ≡ true) → holds (λ p. not p.prepared) (joined_of a x) ≡ false
    by a None i k = ap (holds (λ p. not p.prepared)) i
    by a (Some p) i k = ap (holds (λ p. not p.prepared)) i ∙ ap not (k p i)

pub acts_end_whole : {C : Type 0} → AfterEveryRunWithHistory (ActsEndWhole {C = C})
acts_end_whole {C} w finish es f v run = by es run (length w.text.opening.states) refl
  where
    by : (es : List Event) → IsRun w es → (n : ℕ) → length w.text.opening.states ≡ n → (t : ℕ) (x : Act) → act_of t (reached w es).book.acts ≡ Some x → EndsWhole x
    by es run (suc n) l t x e = whole w (IsRest w.code (IsTxIn w.text)) finish es (record { text = v; actors = omega (arith, l); facts = f }) v run t x e
    by [] run zero l t x e = absurd (cc e)
    by (e ∷ es) run zero l t x i = absurd (none_allowed w e v l run.0)
