-- Who is given up for its two numbers stood between the batches of its sets.
use Rattle.std.specs.Prelude.{◌≡◌, refl, ℕ, true, Some, List, [], ◌∷◌, ◌++◌}
use Rattle.std.specs.List.{AllByRecursion}
use Rattle.std.proofs.Common.{sym, subst, inl, inr, ◌∙◌}
use Rattle.snap_base.specs.declared.transactions.State.{State}
use Rattle.snap_base.specs.declared.transactions.Tx.{Tx}
use Rattle.snap_base.specs.declared.verdicts.Verdict.TheVariants as verdicts
use Rattle.protocol.specs.Fixed.{Fixed}
use Rattle.protocol.specs.Facts.{Alone}
use Rattle.protocol.specs.Parts.{Act, Machine}
use Rattle.protocol.specs.Events.{Event}
use Rattle.protocol.specs.Words.{greatest, is_live_status, act_of}
use Rattle.protocol.specs.Conditions.{IsAllowed}
use Rattle.protocol.specs.Effects.{after}
use Rattle.protocol.specs.Runs.{opening, state_after, EachAllowed, IsRun, reached}
use Rattle.protocol.specs.History.{History, no_history, history, history_after, grown}
use Rattle.protocol_verdicts.specs.Evidence.{PlacesOn, Crosses, IsGiven, StandsBetween}
use Rattle.protocol_theorems.specs.Sets.{least_in, StandsBehind}
use Rattle.protocol_laws.proofs.machine.Good.{Given}
use Rattle.protocol_laws.proofs.machine.AllGood.{AllGood, all_good}
use Rattle.protocol_laws.proofs.first.PairsFound.{found_tid}
use Rattle.protocol_theorems.proofs.sets.BeforeStand.{BeforeStand, before_stand}
use Rattle.protocol_theorems.proofs.sets.AfterStand.{AfterStand, after_stand}
use Rattle.protocol_theorems.proofs.sets.AtPlacing.{AtEnds, arrive_ends, ask_ends}

-- ---- one more event

one_more : {C : Type 0} (w : Fixed C) (front : List Event) (e : Event) (s : Machine C) → state_after w (front ++ e ∷ []) s ≡ after w e (state_after w front s)
one_more w [] e s = refl
one_more w (f ∷ front) e s = one_more w front e (after w f s)

one_grown : {C : Type 0} (w : Fixed C) (front : List Event) (e : Event) (s : Machine C) (h : History) → history_after w (front ++ e ∷ []) s h ≡ grown w e (state_after w front s) (history_after w front s h)
one_grown w [] e s h = refl
one_grown w (f ∷ front) e s h = one_grown w front e (after w f s) (grown w f s h)

pub first_ones : {C : Type 0} (w : Fixed C) (front : List Event) (e : Event) (later : List Event) (s : Machine C) → EachAllowed w (front ++ e ∷ later) s → EachAllowed w front s × IsAllowed w e (state_after w front s)
first_ones w [] e later s run = (tt, run.0)
first_ones w (f ∷ front) e later s run = let r = first_ones w front e later (after w f s) run.1 in ((run.0, r.0), r.1)

-- ---- at the event

at_event : {C : Type 0} (w : Fixed C) (Of : Tx → C → Type 0) (finish : C → List State → Alone) (a t : ℕ) (e : Event) (s : Machine C) (h : History) (x y : Act) → Given w Of finish → PlacesOn a e s → IsAllowed w e s → AllGood w Of finish s h → BeforeStand w s h → AfterStand w s h
    → act_of t s.book.acts ≡ Some x → is_live_status x.status ≡ true → act_of t (after w e s).book.acts ≡ Some y → AtEnds (after w e s) (grown w e s h) y
at_event w Of finish a t e s h x y v (inl p) ok g b f i live j =
    subst (λ e. IsAllowed w e s → act_of t (after w e s).book.acts ≡ Some y → AtEnds (after w e s) (grown w e s h) y) (sym p.1) (λ ok j. arrive_ends w Of finish p.0 a t s h x y ok g b f i live j) ok j
at_event w Of finish a t e s h x y v (inr p) ok g b f i live j =
    subst (λ e. IsAllowed w e s → act_of t (after w e s).book.acts ≡ Some y → AtEnds (after w e s) (grown w e s h) y) (sym p.1.0) (λ ok j. ask_ends w Of finish p.0 a t s h x y v ok g b f p.1.1 i live j) ok j

same_number : (x y z : ℕ) → x ≡ y → x ≡ z → y ≡ z
same_number x y z p q = sym p ∙ q

-- ---- over every run

pub stands_between : {C : Type 0} (w : Fixed C) (Of : Tx → C → Type 0) (finish : C → List State → Alone) (n m k a : ℕ) (es : List Event) → Given w Of finish → IsRun w es
    → IsGiven w n (verdicts.Order (record { 0 = m }) (record { 0 = k }) (record { 0 = a })) es → StandsBetween w n m k a es
stands_between w Of finish n m k a es v run g =
    let c : Crosses w n m k a g.event (reached w g.front) = g.gives in
    let r = first_ones w g.front g.event g.later (opening w) (subst (λ z. EachAllowed w z (opening w)) g.splits run) in
    let q = at_event w Of finish a c.tid g.event (reached w g.front) (history w g.front) c.act c.next v c.event r.1 (all_good w Of finish g.front v r.0) (before_stand w Of finish g.front v r.0) (after_stand w Of finish g.front v r.0) c.is_act.found c.live c.found in
    let i = found_tid c.tid (after w g.event (reached w g.front)).book.acts c.next c.found in
    let now : reached w (g.front ++ g.event ∷ []) ≡ after w g.event (reached w g.front) = one_more w g.front g.event (opening w) in
    let then : history w (g.front ++ g.event ∷ []) ≡ grown w g.event (reached w g.front) (history w g.front) = one_grown w g.front g.event (opening w) no_history in
    record {
      front = g.front;
      event = g.event;
      later = g.later;
      splits = g.splits;
      crosses = c;
      greatest_before = subst (λ (h : History). m ≡ greatest (h.before c.tid)) (sym then) (subst (λ t. m ≡ greatest ((grown w g.event (reached w g.front) (history w g.front)).before t)) i (sym c.before_is ∙ q.m));
      least_behind = subst (λ (h : History). Some k ≡ least_in (h.behind c.tid)) (sym then) (subst (λ t. Some k ≡ least_in ((grown w g.event (reached w g.front) (history w g.front)).behind t)) i (sym c.after_is ∙ q.n));
      stand = subst (λ (s : Machine _). AllByRecursion (StandsBehind s.book.cascades (history w (g.front ++ g.event ∷ [])).long c.tid) ((history w (g.front ++ g.event ∷ [])).behind c.tid)) (sym now)
          (subst (λ (h : History). AllByRecursion (StandsBehind (after w g.event (reached w g.front)).book.cascades h.long c.tid) (h.behind c.tid)) (sym then)
          (subst (λ t. AllByRecursion (StandsBehind (after w g.event (reached w g.front)).book.cascades (grown w g.event (reached w g.front) (history w g.front)).long t) ((grown w g.event (reached w g.front) (history w g.front)).behind t)) i q.there));
    }
