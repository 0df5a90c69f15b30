-- The evidence of verdicts, over every run.
use Rattle.protocol.specs.Laws.{OfEveryRun}
use Rattle.std.specs.Prelude.{◌≡◌, refl, ℕ, zero, suc, Option, Some, None, List, [], ◌∷◌, ◌++◌, length}
use Rattle.std.proofs.Common.{arith, sym, ap, subst, inl, inr, ◌∙◌}
use Rattle.snap_base.specs.declared.verdicts.Verdict.TheVariants as verdicts
use Rattle.snap_base.specs.declared.transactions.State.{State}
use Rattle.snap_base.specs.declared.transactions.Tx.{Tx}
use Rattle.snap_base.specs.declared.verdicts.Verdict.{Verdict}
use Rattle.protocol.specs.Fixed.{Fixed}
use Rattle.protocol.specs.Facts.{Alone}
use Rattle.protocol.specs.Parts.{Act, Pact, Batch, Machine}
use Rattle.protocol.specs.Events.{Event}
use Rattle.protocol.specs.Verdicts.{verdict}
use Rattle.protocol.specs.Conditions.{IsAllowed}
use Rattle.protocol.specs.Effects.{after}
use Rattle.protocol.specs.Runs.{opening, state_after, EachAllowed, IsRun, reached}
use Rattle.protocol.specs.History.{History, no_history, grown}
use Rattle.protocol_verdicts.specs.Evidence.{IsActOfTransaction, IsPact, IsOfAct, IsOfPact, Gives, EvidenceStands, VerdictsStay, VerdictsStand}
use Rattle.protocol_laws.specs.Told.{EachAct}
use Rattle.protocol_laws.proofs.machine.Good.{Given}
use Rattle.protocol_laws.proofs.machine.AllGood.{AllGood, none_allowed}
use Rattle.protocol_laws.proofs.machine.AllGood as all
use Rattle.protocol_laws.proofs.first.OnePlace as once
use Rattle.protocol_laws.proofs.first.PairsFound.{Ascend, TidsAscend, tids_kept}
use Rattle.protocol_verdicts.proofs.evidence.EvidenceActs as acts
use Rattle.protocol_verdicts.proofs.evidence.EvidenceActs.{DecidedHaveValues}
use Rattle.protocol_verdicts.proofs.evidence.EvidencePacts as pacts
use Rattle.protocol_verdicts.proofs.evidence.EvidencePacts.{BatchesHaveValues}
use Rattle.protocol_verdicts.proofs.evidence.EvidenceSaid.{IsOnce, is_once, by_act, by_pact}
use Rattle.protocol_verdicts.proofs.evidence.EvidenceGiven as step
use Rattle.protocol_verdicts.proofs.evidence.EvidenceGiven.{Informed}
use Rattle.protocol_verdicts.proofs.evidence.EvidenceBack.{back}
use Rattle.protocol_verdicts.proofs.evidence.EvidenceBetween.{stands_between}
use Rattle.protocol.specs.Rests.{IsRest, IsTxIn}

-- ---- what is carried

pub record Carried {C : Type 0} (w : Fixed C) (Of : Tx → C → Type 0) (finish : C → List State → Alone) (s : Machine C) (h : History) : Type 0 where
  pub good : AllGood w Of finish s h
  pub tids : TidsAscend s
  pub decided : DecidedHaveValues s
  pub valued : BatchesHaveValues s
  pub placed : once.Placed w s

pub informed : {C : Type 0} (w : Fixed C) (Of : Tx → C → Type 0) (finish : C → List State → Alone) (s : Machine C) (h : History) → Carried w Of finish s h → Informed w Of finish s h
unfolding once.Placed
informed w Of finish s h g = record { good = g.good; tids = g.tids; decided = g.decided; valued = g.valued; once = λ n. is_once w s n g.placed.each }

pub kept : {C : Type 0} (w : Fixed C) (Of : Tx → C → Type 0) (finish : C → List State → Alone) (e : Event) (s : Machine C) (h : History) → Given w Of finish → IsAllowed w e s → Carried w Of finish s h → Carried w Of finish (after w e s) (grown w e s h)
kept w Of finish e s h v ok g = record {
  good = all.kept w Of finish e s h v ok g.good;
  tids = tids_kept w e s ok g.tids;
  decided = acts.values_kept w e s h ok g.good.none g.good.acts g.decided;
  valued = pacts.values_kept w e s ok g.good.good.settling g.good.good.none g.valued;
  placed = once.kept w v.text e s ok g.placed;
}

pub opened : {C : Type 0} (w : Fixed C) (Of : Tx → C → Type 0) (finish : C → List State → Alone) → Given w Of finish → Carried w Of finish (opening w) no_history
unfolding TidsAscend Ascend DecidedHaveValues BatchesHaveValues
opened w Of finish v = record { good = all.opened w Of finish v; tids = omega arith; decided = λ t x e. absurd (cc e); valued = tt; placed = once.opened w }

-- ---- along events

abbrev pub told : {C : Type 0} → ℕ → Machine C → Option Verdict
told n s = verdict n s.book s.desk

once_after : {C : Type 0} (w : Fixed C) (Of : Tx → C → Type 0) (finish : C → List State → Alone) (e : Event) (s : Machine C) (h : History) (n : ℕ) → Given w Of finish → IsAllowed w e s → Carried w Of finish s h → IsOnce n (after w e s)
once_after w Of finish e s h n v ok g = (informed w Of finish (after w e s) (grown w e s h) (kept w Of finish e s h v ok g)).once n

stay_along : {C : Type 0} (w : Fixed C) (Of : Tx → C → Type 0) (finish : C → List State → Alone) (n : ℕ) (u : Verdict) (es : List Event) (s : Machine C) (h : History) → Given w Of finish → EachAllowed w es s → Carried w Of finish s h → told n s ≡ Some u → told n (state_after w es s) ≡ Some u
stay_along w Of finish n u [] s h v run g q = q
stay_along w Of finish n u (e ∷ es) s h v run g q =
    stay_along w Of finish n u es (after w e s) (grown w e s h) v run.1 (kept w Of finish e s h v run.0 g) (step.stays w Of finish e s h n u run.0 (informed w Of finish s h g) (once_after w Of finish e s h n v run.0 g) q)

pub record GivenFrom {C : Type 0} (w : Fixed C) (n : ℕ) (v : Verdict) (es : List Event) (s : Machine C) : Type 0 where
  pub front : List Event
  pub event : Event
  pub later : List Event
  pub splits : es ≡ front ++ event ∷ later
  pub gives : Gives w n v event (state_after w front s)

given : {C : Type 0} (w : Fixed C) (Of : Tx → C → Type 0) (finish : C → List State → Alone) (n : ℕ) (u : Verdict) (es : List Event) (s : Machine C) (h : History) → Given w Of finish → EachAllowed w es s → Carried w Of finish s h → told n s ≡ None → told n (state_after w es s) ≡ Some u → GivenFrom w n u es s
given w Of finish n u [] s h v run g z q = absurd (cc (sym z ∙ q))
given w Of finish n u (e ∷ es) s h v run g z q =
    let more = kept w Of finish e s h v run.0 g in
    by (told n (after w e s)) refl (λ f. given w Of finish n u es (after w e s) (grown w e s h) v run.1 more f q) (λ x f. stay_along w Of finish n x es (after w e s) (grown w e s h) v run.1 more f)
    (λ f. step.cause w Of finish e s h n u run.0 (informed w Of finish s h g) more.tids z f)
  where
    by : (o : Option Verdict) → told n (after w e s) ≡ o → (told n (after w e s) ≡ None → GivenFrom w n u es (after w e s)) → ((x : Verdict) → told n (after w e s) ≡ Some x → told n (state_after w es (after w e s)) ≡ Some x)
        → (told n (after w e s) ≡ Some u → Gives w n u e s) → GivenFrom w n u (e ∷ es) s
    by None f r stay here = let k = r f in record { front = e ∷ k.front; event = k.event; later = k.later; splits = ap (λ l. e ∷ l) k.splits; gives = k.gives }
    by (Some x) f r stay here = let i : x ≡ u = cc (sym (stay x f) ∙ q) in record { front = []; event = e; later = es; splits = refl; gives = here (f ∙ ap Some i) }

back_along : {C : Type 0} (w : Fixed C) (Of : Tx → C → Type 0) (finish : C → List State → Alone) (n : ℕ) (u : Verdict) (front : List Event) (e : Event) (later : List Event) (s : Machine C) (h : History) → Given w Of finish → EachAllowed w (front ++ e ∷ later) s → Carried w Of finish s h
    → Gives w n u e (state_after w front s) → told n (state_after w (front ++ e ∷ later) s) ≡ Some u
back_along w Of finish n u [] e later s h v run g r =
    stay_along w Of finish n u later (after w e s) (grown w e s h) v run.1 (kept w Of finish e s h v run.0 g) (back w Of finish e s h n u run.0 (informed w Of finish s h g) (once_after w Of finish e s h n v run.0 g) r)
back_along w Of finish n u (f ∷ front) e later s h v run g r = back_along w Of finish n u front e later (after w f s) (grown w f s h) v run.1 (kept w Of finish f s h v run.0 g) r

stay_from : {C : Type 0} (w : Fixed C) (Of : Tx → C → Type 0) (finish : C → List State → Alone) (n : ℕ) (u : Verdict) (front later : List Event) (s : Machine C) (h : History) → Given w Of finish → EachAllowed w (front ++ later) s → Carried w Of finish s h
    → told n (state_after w front s) ≡ Some u → told n (state_after w (front ++ later) s) ≡ Some u
stay_from w Of finish n u [] later s h v run g q = stay_along w Of finish n u later s h v run g q
stay_from w Of finish n u (f ∷ front) later s h v run g q = stay_from w Of finish n u front later (after w f s) (grown w f s h) v run.1 (kept w Of finish f s h v run.0 g) q

-- ---- which verdicts there are

pub record Kinds {C : Type 0} (s : Machine C) : Type 0 where
  pub acts : EachAct (λ t x. (u : Verdict) → acts.said x ≡ Some u → IsOfAct u) s.book.acts
  pub pacts : pacts.EachBatch (λ k b. (n : ℕ) (u : Verdict) → pacts.said s.book.cascades n b ≡ Some u → IsOfPact u) s.desk.batches

act_kind : {C : Type 0} (e : Event) (s : Machine C) (t : ℕ) (x y : Act) (u : Verdict) → acts.Cause t x y e s u → IsOfAct u
act_kind e s t x y (verdicts.Committed p v) c = tt
act_kind e s t x y (verdicts.Code p k) c = tt
act_kind e s t x y (verdicts.BatchCode k d code) c = c
act_kind e s t x y (verdicts.Cascade k by) c = tt
act_kind e s t x y (verdicts.Died a older own) c = tt
act_kind e s t x y (verdicts.Order m k a) c = tt
act_kind e s t x y (verdicts.Unsure l) c = c

pact_kind : {C : Type 0} (e : Event) (s : Machine C) (n k : ℕ) (b : Batch) (u : Verdict) → pacts.Cause n k b e s u → IsOfPact u
pact_kind e s n k b (verdicts.Committed p v) c = tt
pact_kind e s n k b (verdicts.Code p d) c = c
pact_kind e s n k b (verdicts.BatchCode j d code) c = tt
pact_kind e s n k b (verdicts.Cascade j by) c = tt
pact_kind e s n k b (verdicts.Died a older own) c = c
pact_kind e s n k b (verdicts.Order m j a) c = c
pact_kind e s n k b (verdicts.Unsure l) c = c

kinds_kept : {C : Type 0} (w : Fixed C) (Of : Tx → C → Type 0) (finish : C → List State → Alone) (e : Event) (s : Machine C) (h : History) → IsAllowed w e s → Informed w Of finish s h → Kinds s → Kinds (after w e s)
kinds_kept w Of finish e s h ok g i = record {
  acts = λ t y f u q. act t y u q (step.became_acts w Of finish e s h ok g t y f);
  pacts = λ k c f n u q. pact k c n u q (step.became_batches w Of finish e s h ok g k c f);
}
  where
    one : (u v : Verdict) → Some u ≡ Some v → u ≡ v
    one u v e = cc e

    act : (t : ℕ) (y : Act) (u : Verdict) → acts.said y ≡ Some u → acts.Became e s t y → IsOfAct u
    act t y u q (inl m) = at (acts.said m.from) refl
      where
        at : (o : Option Verdict) → acts.said m.from ≡ o → IsOfAct u
        at None f = act_kind e s t m.from y u (m.moves.cause u f q)
        at (Some v) f = subst IsOfAct (one v u (sym (m.moves.stays v f) ∙ q)) (i.acts t m.from m.found v f)
    act t y u q (inr m) = absurd (step.none_some (acts.said y) u m.silent q)

    pact : (k : ℕ) (c : Batch) (n : ℕ) (u : Verdict) → pacts.said (after w e s).book.cascades n c ≡ Some u → pacts.Became e s (after w e s).book.cascades k c → IsOfPact u
    pact k c n u q (inl m) = at (pacts.said s.book.cascades n m.from) refl
      where
        at : (o : Option Verdict) → pacts.said s.book.cascades n m.from ≡ o → IsOfPact u
        at None f = pact_kind e s n k m.from u (m.moves.cause n u f q)
        at (Some v) f = subst IsOfPact (one v u (sym (m.moves.stays n v f) ∙ q)) (i.pacts k m.from m.found n v f)
    pact k c n u q (inr m) = absurd (step.none_some (pacts.said (after w e s).book.cascades n c) u (m.silent n) q)

record Ends {C : Type 0} (w : Fixed C) (Of : Tx → C → Type 0) (finish : C → List State → Alone) (s : Machine C) : Type 0 where
  pub once : (n : ℕ) → IsOnce n s
  pub kinds : Kinds s

ends : {C : Type 0} (w : Fixed C) (Of : Tx → C → Type 0) (finish : C → List State → Alone) (es : List Event) (s : Machine C) (h : History) → Given w Of finish → EachAllowed w es s → Carried w Of finish s h → Kinds s → Ends w Of finish (state_after w es s)
ends w Of finish [] s h v run g i = record { once = (informed w Of finish s h g).once; kinds = i }
ends w Of finish (e ∷ es) s h v run g i = ends w Of finish es (after w e s) (grown w e s h) v run.1 (kept w Of finish e s h v run.0 g) (kinds_kept w Of finish e s h run.0 (informed w Of finish s h g) i)

no_kinds : {C : Type 0} (w : Fixed C) → Kinds (opening w)
no_kinds w = record { acts = λ t x e. absurd (cc e); pacts = λ k b e. absurd (cc e) }

of_pacts : {C : Type 0} (w : Fixed C) (Of : Tx → C → Type 0) (finish : C → List State → Alone) (s : Machine C) → Ends w Of finish s → (n k : ℕ) (b : Batch) (p : Pact) (u : Verdict) → IsPact n k b p s → told n s ≡ Some u → IsOfPact u
of_pacts w Of finish s e n k b p u i q = e.kinds.pacts k b i.found n u (sym (by_pact s n k b p (e.once n) i.found i.named) ∙ q)

of_acts : {C : Type 0} (w : Fixed C) (Of : Tx → C → Type 0) (finish : C → List State → Alone) (s : Machine C) → Ends w Of finish s → (n t : ℕ) (x : Act) (u : Verdict) → IsActOfTransaction n t x s → told n s ≡ Some u → IsOfAct u
of_acts w Of finish s e n t x u i q = e.kinds.acts t x i.found u (sym (by_act s n t x (e.once n) i.found i.tx) ∙ q)

-- ---- the law

pub evidence : {C : Type 0} (w : Fixed C) (Of : Tx → C → Type 0) (finish : C → List State → Alone) (es : List Event) → Given w Of finish → IsRun w es → EvidenceStands w es
evidence w Of finish es v run n u = record {
  0 = λ q. let g = given w Of finish n u es (opening w) no_history v run (opened w Of finish v) refl q in record { front = g.front; event = g.event; later = g.later; splits = g.splits; gives = g.gives };
  1 = λ g. subst (λ z. told n (reached w z) ≡ Some u) (sym g.splits) (back_along w Of finish n u g.front g.event g.later (opening w) no_history v (subst (λ z. EachAllowed w z (opening w)) g.splits run) (opened w Of finish v) g.gives);
}

pub stay : {C : Type 0} (w : Fixed C) (Of : Tx → C → Type 0) (finish : C → List State → Alone) (es : List Event) → Given w Of finish → IsRun w es → VerdictsStay w es
stay w Of finish es v run front later e n u q = subst (λ z. told n (reached w z) ≡ Some u) (sym e) (stay_from w Of finish n u front later (opening w) no_history v (subst (λ z. EachAllowed w z (opening w)) e run) (opened w Of finish v) q)

no_split : (front later : List Event) (e : Event) → [] ≡ front ++ e ∷ later → ⊥
no_split [] later e q = cc q
no_split (f ∷ front) later e q = cc q

-- Of every run of every accepted text.
pub verdicts_stand : {C : Type 0} → OfEveryRun (VerdictsStand {C = C})
verdicts_stand {C} w finish es f t run = by es run (length w.text.opening.states) refl
  where
    at_start : VerdictsStand w finish []
    at_start = record {
      evidence = λ n u. record { 0 = λ q. absurd (cc q); 1 = λ g. absurd (no_split g.front g.later g.event g.splits) };
      stay = λ front later e n u q. one front later e n u q;
      between = λ n m k a q. absurd (cc q);
      of_pacts = λ n k b p v i q. absurd (cc q);
      of_acts = λ n t x v i q. absurd (cc q);
    }
      where
        one : (front later : List Event) → [] ≡ front ++ later → (n : ℕ) (u : Verdict) → told n (reached w front) ≡ Some u → told n (reached w []) ≡ Some u
        one [] later e n u q = q
        one (f ∷ front) later e n u q = absurd (cc e)

    by : (es : List Event) → IsRun w es → (n : ℕ) → length w.text.opening.states ≡ n → VerdictsStand w finish es
    by es run (suc n) l =
        let v : Given w (IsRest w.code (IsTxIn w.text)) finish = record { text = t; actors = omega (arith, l); facts = f } in
        let end = ends w (IsRest w.code (IsTxIn w.text)) finish es (opening w) no_history v run (opened w (IsRest w.code (IsTxIn w.text)) finish v) (no_kinds w) in
        record {
          evidence = evidence w (IsRest w.code (IsTxIn w.text)) finish es v run;
          stay = stay w (IsRest w.code (IsTxIn w.text)) finish es v run;
          between = λ n m k a q. stands_between w (IsRest w.code (IsTxIn w.text)) finish n m k a es v run ((evidence w (IsRest w.code (IsTxIn w.text)) finish es v run n _).0 q);
          of_pacts = of_pacts w (IsRest w.code (IsTxIn w.text)) finish (reached w es) end;
          of_acts = of_acts w (IsRest w.code (IsTxIn w.text)) finish (reached w es) end;
        }
    by [] run zero l = at_start
    by (e ∷ es) run zero l = absurd (none_allowed w e t l run.0)
