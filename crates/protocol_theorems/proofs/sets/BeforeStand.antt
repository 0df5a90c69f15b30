-- Over every run: the before number of an ACT that is not doomed is the greatest of its set.
use Rattle.std.specs.List.{AllByRecursion}
use Rattle.std.specs.Prelude.{◌≡◌, refl, ℕ, ◌==◌, not, true, false, ◌&&◌, Option, Some, None, is_some, List}
use Rattle.std.proofs.Common.{sym, subst, inl, inr, ◌∙◌}
use Rattle.std.proofs.lemmas.Bool.{and_parts, true≢false}
use Rattle.snap_base.specs.declared.transactions.State.{State}
use Rattle.snap_base.specs.declared.transactions.Tx.{Tx}
use Rattle.protocol.specs.Fixed.{Fixed}
use Rattle.protocol.specs.Facts.{Alone}
use Rattle.protocol.specs.Parts.{Act, Batch, Declared, OfBatch, Machine}
use Rattle.protocol.specs.Events.{Event, Trim}
use Rattle.protocol.specs.Words.{holds, greatest, is_doomed, is_settled, act_of, batch_of, declared_of}
use Rattle.protocol.specs.Conditions.{IsAllowed, conditions}
use Rattle.protocol.specs.Effects.{after, cell_at}
use Rattle.protocol.specs.Runs.{opening, IsRun, reached}
use Rattle.protocol.specs.History.{History, no_history, history, grown}
use Rattle.protocol_laws.specs.Highs.{doomed_at}
use Rattle.protocol_theorems.specs.Sets.{HoldsAll}
use Rattle.protocol_laws.proofs.machine.BatchesCommit as commits
use Rattle.protocol_laws.proofs.machine.BeforesKept.{Numbers}
use Rattle.protocol_laws.proofs.machine.TurnsKept.{Turned}
use Rattle.protocol_theorems.proofs.sets.GainsKept as gaining
use Rattle.protocol_theorems.proofs.sets.LastsTight as tight
use Rattle.protocol_theorems.proofs.sets.FloorsKept as flooring
use Rattle.protocol_theorems.proofs.sets.FloorsKept.{FloorsStand}
use Rattle.protocol_theorems.proofs.sets.PairsAhead as ahead
use Rattle.protocol_theorems.proofs.sets.BeforeSets as greatest_sets
use Rattle.protocol_theorems.proofs.sets.ClosedSets as closing
use Rattle.protocol_theorems.proofs.sets.ClosedSets.{Closed, ClosedOver, over_pairs}
use Rattle.protocol_laws.proofs.machine.Good.{Given}
use Rattle.protocol_laws.proofs.machine.AllGood as all
use Rattle.protocol_laws.proofs.machine.AllGood.{AllGood}
use Rattle.protocol_laws.proofs.machine.Higher as higher
use Rattle.protocol_laws.proofs.machine.Higher.{Higher}
use Rattle.protocol_laws.proofs.first.Lists.{all_found}

pub record BeforeStand {C : Type 0} (w : Fixed C) (s : Machine C) (h : History) : Type 0 where
  pub high : Higher w s h
  pub floors : FloorsStand w s h
  pub gains : gaining.GainsAre s h
  pub pairs_in : gaining.PairsIn s
  pub tights : tight.Tights w s h
  pub pairs_ahead : ahead.AheadStand w s h
  pub sets : greatest_sets.Sets s h
  pub closed : Closed s h

trims_done : {C : Type 0} (w : Fixed C) (Of : Tx → C → Type 0) (finish : C → List State → Alone) (e : Event) (s : Machine C) (h : History) → IsAllowed w e s → AllGood w Of finish s h → tight.TrimsDone e s h
unfolding conditions
trims_done w Of finish (Trim k a) s h ok g =
    let q = commits.trims_kept w k a s h ok g.good.marked in
    elim (commits.kept_over s h k a g.good.known g.good.marked q (declared (batch_of k s.desk.batches) ok.0)) [
      | inl v ↦ absurd (true≢false (sym q ∙ commits.cuts_fresh w s h g.good.settling g.good.known g.good.marked (OfBatch k) v))
      | inr v ↦ v
    ]
  where
    some : (o : Option Declared) → holds (λ p. not p.trimmed) o ≡ true → is_some o ≡ true
    some None e = e
    some (Some x) e = refl

    declared : (o : Option Batch) → holds (λ b. is_settled b.stage && (not b.aborted && holds (λ p. not p.trimmed) (declared_of a b))) o ≡ true → holds (λ b. is_some (declared_of a b)) o ≡ true
    declared None e = e
    declared (Some b) e = some (declared_of a b) (and_parts (not b.aborted) (holds (λ p. not p.trimmed) (declared_of a b)) (and_parts (is_settled b.stage) (not b.aborted && holds (λ p. not p.trimmed) (declared_of a b)) e).1).1
trims_done w Of finish e s h ok g = tt

pub sets_with : {C : Type 0} (w : Fixed C) (Of : Tx → C → Type 0) (finish : C → List State → Alone) (e : Event) (s : Machine C) (h : History) → IsAllowed w e s → AllGood w Of finish s h → BeforeStand w s h → Higher w (after w e s) (grown w e s h) → greatest_sets.SetsWith w e s h
unfolding Turned Numbers
sets_with w Of finish e s h ok g i high' = record {
  pairs_stand = i.high.pairs_stand;
  pairs_then = high'.pairs_stand;
  tids = i.high.tids;
  tids_then = high'.tids;
  gains = i.gains;
  pairs_in = i.pairs_in;
  none_ahead = ahead.none_ahead s h i.pairs_ahead.ahead;
  new_in = λ t a. gaining.new_in t a (cell_at s a) s.book.acts (h.long a) (g.good.turned a) (g.good.numbers a);
  tights = i.tights;
  lasts = g.good.lasts;
  floors = i.floors.floors;
}

pub kept : {C : Type 0} (w : Fixed C) (Of : Tx → C → Type 0) (finish : C → List State → Alone) (e : Event) (s : Machine C) (h : History) → Given w Of finish → IsAllowed w e s → AllGood w Of finish s h → BeforeStand w s h → BeforeStand w (after w e s) (grown w e s h)
unfolding Turned Numbers
kept w Of finish e s h v ok g i =
    let o = higher.owed w Of finish e s h v ok g in
    let high' = higher.kept w Of finish e s h v ok g i.high in
    record {
      high = high';
      floors = record { floors = flooring.floors_kept w e s h ok o i.floors.floors; based = flooring.based_kept w e s h ok o i.floors.based };
      gains = gaining.gains_kept w e s h i.gains;
      pairs_in = gaining.in_kept w e s h g.good.turned g.good.numbers i.pairs_in;
      tights = tight.tights_kept w e s h ok o (trims_done w Of finish e s h ok g) g.good.placed g.good.turned i.tights;
      pairs_ahead = ahead.step w Of finish e s h v ok g i.pairs_ahead;
      sets = greatest_sets.sets_kept w e s h ok o (sets_with w Of finish e s h ok g i high') i.sets;
      closed = closing.kept w e s h ok (sets_with w Of finish e s h ok g i high') i.closed;
    }

pub opened : {C : Type 0} (w : Fixed C) (Of : Tx → C → Type 0) (finish : C → List State → Alone) → Given w Of finish → BeforeStand w (opening w) no_history
unfolding gaining.GainsAre gaining.PairsIn greatest_sets.Sets
opened w Of finish v = record {
  high = higher.opened w Of finish v;
  floors = flooring.opened w;
  gains = refl;
  pairs_in = tt;
  tights = tight.tights_opened w;
  pairs_ahead = ahead.ahead_opened w;
  sets = tt;
  closed = record { behind_in = tt; closed = tt };
}

pub before_stand : {C : Type 0} (w : Fixed C) (Of : Tx → C → Type 0) (finish : C → List State → Alone) (es : List Event) → Given w Of finish → IsRun w es → BeforeStand w (reached w es) (history w es)
before_stand w Of finish es v run = all.along_good w Of finish (BeforeStand w) v (λ e s h ok g i. kept w Of finish e s h v ok g i) (opened w Of finish v) es run

-- Over every run the before number of an ACT that is not doomed is the greatest of its set
pub m_is_greatest : {C : Type 0} (w : Fixed C) (Of : Tx → C → Type 0) (finish : C → List State → Alone) (es : List Event) → Given w Of finish → IsRun w es → (t : ℕ) (x : Act) → act_of t (reached w es).book.acts ≡ Some x → is_doomed x.status ≡ false → x.m ≡ greatest ((history w es).before x.tid)
unfolding greatest_sets.Sets
m_is_greatest w Of finish es v run t x e d = (all_found _ (λ y. y.tid == t) (reached w es).book.acts x (before_stand w Of finish es v run).sets e).0 d

-- Over every run the sets are closed along the pairs whose ACT ahead is not doomed
pub before_closed : {C : Type 0} (w : Fixed C) (Of : Tx → C → Type 0) (finish : C → List State → Alone) (es : List Event) → Given w Of finish → IsRun w es
    → AllByRecursion (λ p. doomed_at (reached w es).book.acts p.ahead ≡ false → HoldsAll ((history w es).before p.behind) ((history w es).before p.ahead)) (reached w es).book.pairs
unfolding gaining.GainsAre
before_closed w Of finish es v run = let b = before_stand w Of finish es v run in over_pairs (history w es).before (reached w es).book.acts (reached w es).book.pairs (subst (ClosedOver (history w es).before) b.gains b.closed.closed)
