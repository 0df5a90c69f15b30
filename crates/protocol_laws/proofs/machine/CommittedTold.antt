-- What committed is of the batches and the ACTs that have their places.
use Rattle.std.specs.Prelude.{◌≡◌, refl, ℕ, zero, suc, true, Option, Some, None, List, [], ◌∷◌, length, map}
use Rattle.std.specs.List.{list_all}
use Rattle.std.proofs.Common.{arith}
use Rattle.std.proofs.lemmas.Bool.{and_parts}
use Rattle.snap_base.specs.declared.transactions.State.{State}
use Rattle.snap_base.specs.declared.transactions.Tx.{Tx}
use Rattle.protocol.specs.Facts.{Alone}
use Rattle.protocol.specs.Fixed.{Fixed, IsText}
use Rattle.protocol.specs.Rests.{HasFacts, IsRest, IsTxIn}
use Rattle.protocol.specs.Parts.{Act, Batch, Pact, OfBatch, Machine}
use Rattle.protocol.specs.Events.{Event, Commit, Decide}
use Rattle.protocol.specs.Words.{holds, is_value, act_of, batch_of}
use Rattle.protocol.specs.Conditions.{IsAllowed, conditions}
use Rattle.protocol.specs.Runs.{IsRun, reached}
use Rattle.protocol.specs.History.{History, done_pact, done_batch, done_act, grown, history}
use Rattle.protocol_laws.specs.Told.{Valued, CommittedTold}
use Rattle.protocol_laws.proofs.first.Lists.{all_join}
use Rattle.protocol_laws.proofs.machine.ActsTold.{ActsTold, AllFrom}
use Rattle.protocol_laws.proofs.machine.AllGood.{all_good, along_good, none_allowed}
use Rattle.protocol_laws.proofs.machine.BatchesCommit.{Numbered}
use Rattle.protocol_laws.proofs.machine.Good.{Given}
use Rattle.protocol_laws.proofs.machine.Higher.{places_differ}
use Rattle.protocol_laws.proofs.machine.PactsTold.{PactsTold}
use Rattle.protocol_laws.proofs.machine.QuietTold.{PactsFrom}

pacts_valued : (k : ℕ) (h : History) (ps : List Pact) → list_all (λ p. is_value p.result) ps ≡ true → Valued (map (done_pact k h) ps)
pacts_valued k h [] e = tt
pacts_valued k h (p ∷ ps) e = let q = and_parts (is_value p.result) (list_all (λ p. is_value p.result) ps) e in ((λ j f. q.0), pacts_valued k h ps q.1)

batch_valued : (k : ℕ) (h : History) (o : Option Batch) → holds (λ b. list_all (λ p. is_value p.result) b.pacts) o ≡ true → Valued (done_batch k h o)
batch_valued k h None e = tt
batch_valued k h (Some b) e = pacts_valued k h b.pacts e

act_valued : (c : ℕ) (h : History) (o : Option Act) → Valued (done_act c h o)
act_valued c h None = tt
act_valued c h (Some x) = ((λ k e. absurd (cc e)), tt)

valued_kept : {C : Type 0} (w : Fixed C) (e : Event) (s : Machine C) (h : History) → IsAllowed w e s → Valued h.committed → Valued (grown w e s h).committed
unfolding conditions grown
valued_kept w (Commit k) s h ok v = all_join (λ d. (k : ℕ) → d.who ≡ OfBatch k → is_value d.result ≡ true) h.committed (done_batch k h (batch_of k s.desk.batches)) v (batch_valued k h (batch_of k s.desk.batches) ok.1.0)
valued_kept w (Decide t) s h ok v = all_join (λ d. (k : ℕ) → d.who ≡ OfBatch k → is_value d.result ≡ true) h.committed (done_act s.book.next_c h (act_of t s.book.acts)) v (act_valued s.book.next_c h (act_of t s.book.acts))
valued_kept w e s h ok v = v

told_by : {C : Type 0} (w : Fixed C) (Of : Tx → C → Type 0) (finish : C → List State → Alone) (ds : List Event) → Given w Of finish → IsRun w ds → CommittedTold (reached w ds) (history w ds)
unfolding ActsTold AllFrom PactsTold PactsFrom Numbered
told_by w Of finish ds v run =
    let g = all_good w Of finish ds v run in
    record {
      differ = places_differ w Of finish ds v run;
      values = along_good w Of finish (λ s h. Valued h.committed) v (λ e s h ok g k. valued_kept w e s h ok k) tt ds run;
      acts_told = g.told;
      acts_from = g.from;
      pacts_told = g.pacts_told;
      pacts_from = g.pacts_from;
      numbered = g.good.numbered;
    }

pub committed_told : {C : Type 0} (w : Fixed C) (finish : C → List State → Alone) (ds : List Event) → HasFacts w finish → IsText w.text → IsRun w ds → CommittedTold (reached w ds) (history w ds)
committed_told {C} w finish ds f text run = by (length w.text.opening.states) refl
  where
    none : (es : List Event) → length w.text.opening.states ≡ 0 → IsRun w es → CommittedTold (reached w es) (history w es)
    none [] l r = record { differ = tt; values = tt; acts_told = λ t x e. absurd (cc e); acts_from = tt; pacts_told = λ k b e. absurd (cc e); pacts_from = tt; numbered = λ k b e. absurd (cc e) }
    none (e ∷ es) l r = absurd (none_allowed w e text l r.0)

    by : (n : ℕ) → length w.text.opening.states ≡ n → CommittedTold (reached w ds) (history w ds)
    by (suc n) l = told_by w (IsRest w.code (IsTxIn w.text)) finish ds (record { text = text; actors = omega (arith, l); facts = f }) run
    by zero l = none ds l run
