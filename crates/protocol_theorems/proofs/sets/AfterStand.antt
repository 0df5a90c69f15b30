-- Over every run: the after number of a live ACT is the least of its set, and above its before number.
use Rattle.std.specs.Prelude.{◌≡◌, ℕ, ◌<◌, ◌==◌, true, false, ◌&&◌, Some, List}
use Rattle.std.specs.List.{AllByRecursion}
use Rattle.std.proofs.Common.{arith, sym, subst, inl, inr, ◌∙◌}
use Rattle.std.proofs.lemmas.Bool.{le-leb, true≢false, cases_lt}
use Rattle.snap_base.specs.declared.transactions.State.{State}
use Rattle.snap_base.specs.declared.transactions.Tx.{Tx}
use Rattle.protocol.specs.Fixed.{Fixed}
use Rattle.protocol.specs.Facts.{Alone}
use Rattle.protocol.specs.Parts.{Act, Machine}
use Rattle.protocol.specs.Events.{Event}
use Rattle.protocol.specs.Words.{is_live_status, act_of}
use Rattle.protocol.specs.Spread.{reaches}
use Rattle.protocol.specs.Conditions.{IsAllowed}
use Rattle.protocol.specs.Effects.{after}
use Rattle.protocol.specs.Runs.{opening, IsRun, reached}
use Rattle.protocol.specs.History.{History, no_history, history, grown}
use Rattle.protocol_theorems.specs.Sets.{least_in, StandsBehind, AfterIsLeast, IsUncrossed}
use Rattle.protocol_theorems.proofs.sets.AfterSets as sets
use Rattle.protocol_laws.proofs.machine.Good.{Given}
use Rattle.protocol_laws.proofs.machine.AllGood as all
use Rattle.protocol_laws.proofs.machine.AllGood.{AllGood}
use Rattle.protocol_laws.proofs.machine.Higher as higher
use Rattle.protocol_laws.proofs.machine.Higher.{Higher}
use Rattle.protocol_laws.proofs.first.Lists.{all_found}

pub record AfterStand {C : Type 0} (w : Fixed C) (s : Machine C) (h : History) : Type 0 where
  pub high : Higher w s h
  pub after_sets : sets.AfterSets s h
  pub uncrossed : sets.Uncrossed s

pub kept : {C : Type 0} (w : Fixed C) (Of : Tx → C → Type 0) (finish : C → List State → Alone) (e : Event) (s : Machine C) (h : History) → Given w Of finish → IsAllowed w e s → AllGood w Of finish s h → AfterStand w s h → AfterStand w (after w e s) (grown w e s h)
kept w Of finish e s h v ok g i = record {
  high = higher.kept w Of finish e s h v ok g i.high;
  after_sets = sets.after_kept w e s h ok (record { beside = higher.beside w Of finish s h g; placed = g.good.placed; tids = i.high.tids; none_live = i.high.none_live }) i.after_sets;
  uncrossed = sets.uncrossed_kept w e s i.uncrossed;
}

pub opened : {C : Type 0} (w : Fixed C) (Of : Tx → C → Type 0) (finish : C → List State → Alone) → Given w Of finish → AfterStand w (opening w) no_history
unfolding sets.AfterSets sets.Uncrossed
opened w Of finish v = record { high = higher.opened w Of finish v; after_sets = tt; uncrossed = tt }

pub after_stand : {C : Type 0} (w : Fixed C) (Of : Tx → C → Type 0) (finish : C → List State → Alone) (es : List Event) → Given w Of finish → IsRun w es → AfterStand w (reached w es) (history w es)
after_stand w Of finish es v run = all.along_good w Of finish (AfterStand w) v (λ e s h ok g i. kept w Of finish e s h v ok g i) (opened w Of finish v) es run

-- The after number of a live ACT is the least of its set; each of the set is not aborted, and behind the ACT on some actor
pub n_is_least : {C : Type 0} (w : Fixed C) (Of : Tx → C → Type 0) (finish : C → List State → Alone) (es : List Event) → Given w Of finish → IsRun w es → (t : ℕ) (x : Act) → act_of t (reached w es).book.acts ≡ Some x → is_live_status x.status ≡ true
    → (x.n ≡ least_in ((history w es).behind x.tid)) × AllByRecursion (StandsBehind (reached w es).book.cascades (history w es).long x.tid) ((history w es).behind x.tid)
unfolding sets.AfterSets
n_is_least w Of finish es v run t x e l = (all_found (AfterIsLeast (reached w es).book.cascades (history w es).long (history w es).behind) (λ y. y.tid == t) (reached w es).book.acts x (after_stand w Of finish es v run).after_sets e).0 l

-- No live ACT has a before number that reaches its after number
pub m_below_n : {C : Type 0} (w : Fixed C) (Of : Tx → C → Type 0) (finish : C → List State → Alone) (es : List Event) → Given w Of finish → IsRun w es → (t k : ℕ) (x : Act) → act_of t (reached w es).book.acts ≡ Some x → is_live_status x.status ≡ true → x.n ≡ Some k → x.m < k
unfolding sets.Uncrossed
m_below_n w Of finish es v run t k x e l n =
    let u = (all_found IsUncrossed (λ y. y.tid == t) (reached w es).book.acts x (after_stand w Of finish es v run).uncrossed e).0 in
    let q : (true && reaches x.m (Some k)) ≡ false = subst (λ o. (true && reaches x.m o) ≡ false) n (subst (λ b. (b && reaches x.m x.n) ≡ false) l u) in
    elim (cases_lt x.m k) [ inl i ↦ i | inr i ↦ absurd (true≢false (sym (le-leb k x.m (omega (arith, i))) ∙ q)) ]
