-- To what logs lead, and with which opening a run begins there.
use Rattle.std.specs.Prelude.{◌≡◌, refl, ℕ, ◌+◌, ◌<◌, ◌≤◌, ◌⊎◌, List, [], ◌∷◌, ◌++◌, length}
use Rattle.std.proofs.Common.{inl, inr, arith, sym, ap, subst, ◌∙◌}
use Rattle.machine_recovery.specs.compact_laws.log_compact.declared.folds.Folded.{Folded}
use Rattle.machine_recovery.specs.compact_laws.log_compact.Folds.{BegunListsFold, FoldsAreBegun, fresh_fold}
use Rattle.machine_recovery.specs.compact_laws.log_compact.Sets.{IsFolded, IsSameFold, OneFold}
use Rattle.run_opening.specs.Begins.{AreEmpty, BeganWith, Begins, IsUnspent}
use Rattle.run_opening.specs.Opens.{HasRoomToBegin, with_first}
use Rattle.run_opening.specs.Starts.{IsStart, first_record}
use Rattle.snap_base.specs.declared.ids.Bid.{Bid}
use Rattle.snap_base.specs.declared.ids.Tid.{Tid}
use Rattle.snap_base.specs.declared.transactions.State.{State}
use Rattle.snap_recover.specs.declared.openings.Kept.{Kept}
use Rattle.snap_recover.specs.declared.openings.Opening.{Opening}
use Rattle.snap_work.specs.Works.{Work}
use Rattle.record_log.specs.txn_records.declared.records.Record.{Record}
use Rattle.record_log.specs.txn_records.declared.records.Record.TheVariants.{Genesis}
use Rattle.run_recovery.specs.Between.{AreOfStates, BeginsBehind, Call, Compaction, HasCompaction, IsFoldBehind, IsSameOpening, LeadTo, Unbegun, compacted, still}
use Rattle.run_recovery.specs.Runs.{machine_of}
use Rattle.run_recovery.proofs.FoundFour.{with_none}
use Rattle.run_recovery.proofs.NextRuns.{began_some, one_opening}

-- ---- one choice

pub one_lead : OneFold → (lists : List (List Record)) (states : List State) (f g : Folded) → LeadTo lists states f → LeadTo lists states g → f ≡ g
one_lead one lists states f g (inl a) (inl b) = a.1 ∙ sym b.1
one_lead one lists states f g (inl a) (inr b) = absurd (began_some lists states b.0 a.0)
one_lead one lists states f g (inr a) (inl b) = absurd (began_some lists states a.0 b.0)
one_lead one lists states f g (inr a) (inr b) = one lists f g a.1 b.1

pub alone_of : OneFold → (lists : List (List Record)) (states : List State) (f : Folded) (q : Opening) → LeadTo lists states f → Begins lists states q → q ≡ f.opening
alone_of one lists states f q (inl a) (inl b) = b.1 ∙ sym (ap (λ (x : Folded). x.opening) a.1)
alone_of one lists states f q (inl a) (inr b) = absurd (b.some a.0)
alone_of one lists states f q (inr a) (inl b) = absurd (began_some lists states a.0 b.0)
alone_of one lists states f q (inr a) (inr b) = one_opening one lists q f.opening b.folded (f, a.1, refl)

pub states_of : (lists : List (List Record)) (states : List State) (f : Folded) → LeadTo lists states f → AreOfStates lists states
states_of lists states f (inl a) = inl a.0
states_of lists states f (inr a) = inr a.0

-- ---- what a run begins with

pub lead_begins : (lists : List (List Record)) (states : List State) (f : Folded) → LeadTo lists states f → IsUnspent f.opening → Begins lists states f.opening
lead_begins lists states f (inl a) unspent = inl (a.0, ap (λ (x : Folded). x.opening) a.1)
lead_begins lists states f (inr a) unspent = inr (record { some = began_some lists states a.0; folded = (f, a.1, refl); same = a.0; unspent = unspent })

-- where a run begins with an opening, this is what the logs lead to
record IsLed (lists : List (List Record)) (states : List State) (o : Opening) : Type 0 where
  fold : Folded
  leads : LeadTo lists states fold
  opens : fold.opening ≡ o
  unspent : IsUnspent fold.opening

led : (lists : List (List Record)) (states : List State) (o : Opening) → Begins lists states o → IsLed lists states o
led lists states o (inl new) = record { fold = fresh_fold states; leads = inl (new.0, refl); opens = sym new.1; unspent = record { tid = omega arith; bid = omega arith; c = omega arith } }
led lists states o (inr on) = record { fold = on.folded.0; leads = inr (on.same, on.folded.1); opens = on.folded.2; unspent = subst IsUnspent (sym on.folded.2) on.unspent }

-- logs that hold no record, with Genesis on the first of them, fold to what the first run begins with
pub written_folds : BegunListsFold → FoldsAreBegun → (lists : List (List Record)) (states : List State) → 1 ≤ length lists → AreEmpty lists
    → BeganWith (with_first lists (first_record (length lists) states ∷ [])) states × IsFolded (with_first lists (first_record (length lists) states ∷ [])) (fresh_fold states)
written_folds law begun [] states some empty = absurd (omega (arith, some))
written_folds law begun (rs ∷ lists) states some empty =
    let first : List Record = Genesis (length (rs ∷ lists)) states ∷ [] in
    let here : rs ++ first ≡ first = ap (λ (l : List Record). l ++ first) empty.0 in
    let size : length (rs ∷ lists) ≡ length lists + 1 = omega arith in
    let folded : IsFolded (first ∷ lists) (fresh_fold states) = law (length (rs ∷ lists)) lists states size empty.1 in
    subst (λ (l : List Record). BeganWith (l ∷ lists) states × IsFolded (l ∷ lists) (fresh_fold states)) (sym here) ((begun (first ∷ lists) (fresh_fold states) folded).one, folded)

-- what the records of a run lead to is what they fold to as it begins
pub run_leads : OneFold → BegunListsFold → FoldsAreBegun → (records : List (List Record)) (states : List State) (o : Opening) (added : List Record) (f : Folded) → 1 ≤ length records → IsStart records states o added
    → IsFolded (with_first records added) f → LeadTo records states f
run_leads one law begun records states o added f some (inl new) folded =
    let w = written_folds law begun records states some new.0 in
    inl (new.0, one (with_first records (first_record (length records) states ∷ [])) f (fresh_fold states) (subst (λ (rs : List Record). IsFolded (with_first records rs) f) new.2 folded) w.1)
run_leads one law begun records states o added f some (inr on) folded =
    inr (on.0.same, subst (λ (l : List (List Record)). IsFolded l f) (with_none records) (subst (λ (rs : List Record). IsFolded (with_first records rs) f) on.1 folded))

-- where Genesis is there, it is the same
pub begun_leads : OneFold → BegunListsFold → FoldsAreBegun → (lists : List (List Record)) (states : List State) (f : Folded) → 1 ≤ length lists → AreEmpty lists → LeadTo lists states f
    → LeadTo (with_first lists (first_record (length lists) states ∷ [])) states f
begun_leads one law begun lists states f some empty (inl a) =
    let w = written_folds law begun lists states some empty in
    inr (w.0, subst (λ (g : Folded). IsFolded (with_first lists (first_record (length lists) states ∷ [])) g) (sym a.1) w.1)
begun_leads one law begun lists states f some empty (inr a) = absurd (began_some lists states a.0 empty)

-- ---- behind calls

front_compacts : (c : Call) (calls : List Call) → HasCompaction (c ∷ []) → HasCompaction (c ∷ calls)
front_compacts (Unbegun left) calls has = absurd has
front_compacts (Compaction left) calls has = tt

more_compacts : (c : Call) (calls : List Call) → HasCompaction calls → HasCompaction (c ∷ calls)
more_compacts (Unbegun left) calls has = has
more_compacts (Compaction left) calls has = tt

then : (f g h : Folded) → IsSameFold f g → IsSameFold g h → IsSameFold f h
then f g h x y = record { states = y.states ∙ x.states; next_tid = y.next_tid ∙ x.next_tid; next_bid = y.next_bid ∙ x.next_bid; next_c = y.next_c ∙ x.next_c; batches = y.batches ∙ x.batches; acts = y.acts ∙ x.acts; first = y.first ∙ x.first }

-- behind one call, and then behind the others
pub fold_on : (c : Call) (calls : List Call) (f g h : Folded) → IsFoldBehind (c ∷ []) f g → IsFoldBehind calls g h → IsFoldBehind (c ∷ calls) f h
fold_on c calls f g h (still a) (still b) = still (b ∙ a)
fold_on c calls f g h (still a) (compacted among same later since) =
    compacted (more_compacts c calls among) (subst (λ (x : Folded). IsSameFold x h) a same) (subst (λ (x : Folded). x.generation < h.generation) a later) since
fold_on c calls f g h (compacted among same later since) (still b) =
    compacted (front_compacts c calls among) (subst (λ (x : Folded). IsSameFold f x) (sym b) same) (subst (λ (x : Folded). f.generation < x.generation) (sym b) later)
    (subst (λ (x : Folded). x.opening.committed ≡ []) (sym b) since)
fold_on c calls f g h (compacted among same later since) (compacted more again last none) =
    compacted (more_compacts c calls more) (then f g h same again) (omega (arith, later, last)) none

pub same_opening : (calls : List Call) (f g : Folded) → IsFoldBehind calls f g → IsSameOpening f.opening g.opening
same_opening calls f g (still e) = record {
  states = ap (λ (x : Folded). x.opening.states) e;
  next_tid = ap (λ (x : Folded). x.opening.next_tid) e;
  next_bid = ap (λ (x : Folded). x.opening.next_bid) e;
  next_c = ap (λ (x : Folded). x.opening.next_c) e;
}
same_opening calls f g (compacted among same later since) = record { states = same.states; next_tid = same.next_tid; next_bid = same.next_bid; next_c = same.next_c }

still_unspent : (o q : Opening) → IsSameOpening o q → IsUnspent o → IsUnspent q
still_unspent o q same u =
    let tid : q.next_tid.0 ≡ o.next_tid.0 = ap (λ (t : Tid). t.0) same.next_tid in
    let bid : q.next_bid.0 ≡ o.next_bid.0 = ap (λ (b : Bid). b.0) same.next_bid in
    record { tid = omega (arith, tid, u.tid); bid = omega (arith, bid, u.bid); c = omega (arith, same.next_c, u.c) }

pub same_counts : (calls : List Call) (f g : Folded) → IsFoldBehind calls f g → (g.batches ≡ f.batches) × (g.acts ≡ f.acts)
same_counts calls f g (still e) = (ap (λ (x : Folded). x.batches) e, ap (λ (x : Folded). x.acts) e)
same_counts calls f g (compacted among same later since) = (same.batches, same.acts)

which_opening : (calls : List Call) (f g : Folded) (o : Opening) → f.opening ≡ o → IsFoldBehind calls f g → (g.opening ≡ o) ⊎ (HasCompaction calls × (g.opening.committed ≡ []))
which_opening calls f g o opens (still e) = inl (ap (λ (x : Folded). x.opening) e ∙ opens)
which_opening calls f g o opens (compacted among same later since) = inr (among, since)

-- what the logs led to before the calls is what they lead to behind them
abbrev pub FoldsOn : List Call → List (List Record) → List (List Record) → List State → Type 0
FoldsOn calls lists behind states = (f : Folded) → LeadTo lists states f → (g : Folded) × LeadTo behind states g × IsFoldBehind calls f g

pub begins_behind : OneFold → (calls : List Call) (lists behind : List (List Record)) (states : List State) → FoldsOn calls lists behind states → (o : Opening) → Begins lists states o → BeginsBehind calls behind states o
begins_behind one calls lists behind states folds o begins =
    let l = led lists states o begins in
    let next = folds l.fold l.leads in
    let same = same_opening calls l.fold next.0 next.2 in
    record {
      opening = next.0.opening;
      begins = lead_begins behind states next.0 next.1 (still_unspent l.fold.opening next.0.opening same l.unspent);
      same = subst (λ (x : Opening). IsSameOpening x next.0.opening) l.opens same;
      which = which_opening calls l.fold next.0 o l.opens next.2;
      alone = λ q other. alone_of one behind states next.0 q next.1 other;
    }

-- ---- the machine

-- an opening of these numbers
abbrev with_numbers : List Kept → List State → Tid → Bid → ℕ → Opening
with_numbers ks states tid bid c = record { states = states; committed = ks; next_tid = tid; next_bid = bid; next_c = c }

same_numbers : (o q : Opening) → IsSameOpening o q → q ≡ with_numbers q.committed o.states o.next_tid o.next_bid o.next_c
same_numbers o q same =
    ap (λ (s : List State). with_numbers q.committed s q.next_tid q.next_bid q.next_c) same.states
    ∙ (ap (λ (t : Tid). with_numbers q.committed o.states t q.next_bid q.next_c) same.next_tid
    ∙ (ap (λ (b : Bid). with_numbers q.committed o.states o.next_tid b q.next_c) same.next_bid
    ∙ ap (λ (c : ℕ). with_numbers q.committed o.states o.next_tid o.next_bid c) same.next_c))

pub same_machine : (w : Work) (o q : Opening) → IsSameOpening o q → (machine_of w q ≡ machine_of w o) × (HasRoomToBegin o → HasRoomToBegin q)
same_machine w o q same = (ap (λ (x : Opening). machine_of w x) (same_numbers o q same), λ room. room_of room)
  where
    room_of : HasRoomToBegin o → HasRoomToBegin q
    room_of r =
        let tid : q.next_tid.0 ≡ o.next_tid.0 = ap (λ (t : Tid). t.0) same.next_tid in
        let bid : q.next_bid.0 ≡ o.next_bid.0 = ap (λ (b : Bid). b.0) same.next_bid in
        record {
          some_tid = omega (arith, tid, r.some_tid);
          some_bid = omega (arith, bid, r.some_bid);
          some_c = omega (arith, same.next_c, r.some_c);
          tids = omega (arith, tid, r.tids);
          bids = omega (arith, bid, r.bids);
          cs = omega (arith, same.next_c, r.cs);
        }
