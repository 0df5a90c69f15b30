-- What lists fold to is begun by one Genesis, and has states, one for each actor.
use Rattle.std.proofs.Common.{◌≡◌, ℕ, ◌≤◌, inl, inr, List, [], ◌∷◌, ◌++◌, length, refl, sym, ap, subst, ◌∙◌, arith, filter, Some}
use Rattle.std.specs.List.{AllByRecursion}
use Rattle.snap_base.specs.declared.transactions.State.{State}
use Rattle.txn_records.specs.declared.limits.TheConstants.{MOST_LISTED}
use Rattle.txn_records.specs.declared.records.Record.{Record}
use Rattle.txn_records.specs.declared.records.Record.TheVariants.{Genesis, Checkpoint}
use Rattle.txn_records.specs.Records.{IsRecord, IsState}
use Rattle.snap_recover.specs.declared.openings.Opening.{Opening}
use Rattle.snap_recover.specs.Logs.{all_of, is_genesis}
use Rattle.snap_recover.specs.Opening.{IsRecovered}
use Rattle.log_compact.specs.Folds.{FoldsAreOfRecords, FoldsAreBegun, PlainListsFold, BegunListsFold}
use Rattle.log_compact.specs.Points.{Point, point_told, IsPlain}
use Rattle.log_compact.specs.Sets.{HasNoStray, IsFirstList, IsPointInRange, OfPoint, plain_lists, number_of}
use Rattle.log_compact.proofs.FoldShapes.{Shape, shape}
use Rattle.log_compact.proofs.Moments.{Begun}
use Rattle.log_compact.proofs.OneGenesis.{one_of, first_is, as_many_in}
use Rattle.log_compact.proofs.PlainFolds.{no_point, no_points, same_lists}

pub folds_are_begun : FoldsAreBegun
folds_are_begun lists f x = record {
  one = (one_of lists f x).one ∙ ap (λ z. Genesis (length lists) z ∷ []) (sym (first_is lists f x));
  some_tid = omega (arith, x.next_tid, x.recovered.next_tid);
  some_bid = omega (arith, x.next_bid, x.recovered.next_bid);
  some_c = omega (arith, x.next_c, x.recovered.next_c);
}

-- ---- records

-- the records of all lists are records, and so are those of them that are Genesis
all_join : (a b : List Record) → AllByRecursion IsRecord a → AllByRecursion IsRecord b → AllByRecursion IsRecord (a ++ b)
all_join [] b h k = k
all_join (r ∷ a) b h k = (h.0, all_join a b h.1 k)

all_flat : (lists : List (List Record)) → AllByRecursion (AllByRecursion IsRecord) lists → AllByRecursion IsRecord (all_of lists)
all_flat [] h = tt
all_flat (rs ∷ lists) h = all_join rs (all_of lists) h.0 (all_flat lists h.1)

all_kept : (rs : List Record) → AllByRecursion IsRecord rs → AllByRecursion IsRecord (filter is_genesis rs)
all_kept [] h = tt
all_kept (Genesis count states ∷ rs) h = (h.0, all_kept rs h.1)
all_kept (r ∷ rs) h = all_kept rs h.1

-- a Genesis that gets the states of a checkpoint is a record
restated_is : (count : ℕ) (first : List State) (x : Record) (p : Point) → IsRecord (Genesis count first) → IsRecord x → point_told x ≡ Some p → IsRecord (Genesis count p.states)
restated_is count first (Checkpoint generation next_tid next_bid next_c batches acts states) p g h e =
    let i : states ≡ p.states = cc e in
    subst (λ z. IsRecord (Genesis count z)) i (record { some_logs = g.some_logs; few_logs = g.few_logs; some = h.some; few = h.few; each = h.each })
restated_is count first x p g h e = absurd (cc e)

plain_are : (lists : List (List Record)) → AllByRecursion (AllByRecursion IsRecord) lists → Shape lists → AllByRecursion (AllByRecursion IsRecord) (plain_lists lists)
plain_are lists h (inl none) = subst (AllByRecursion (AllByRecursion IsRecord)) (sym (same_lists lists none)) h
plain_are lists h (inr (p, k)) =
    let at = subst (AllByRecursion (AllByRecursion IsRecord)) k.is h in
    subst (AllByRecursion (AllByRecursion IsRecord)) (sym k.plain) ((restated_is k.count k.first k.told p at.0.0 at.0.1.0 k.tells, at.0.1.1), at.1)

-- what recovery promises of states
pub record StatesStand : Type 0 where
  pub states : (logs : List (List Record)) (o : Opening) → AllByRecursion (AllByRecursion IsRecord) logs → IsRecovered logs o → AllByRecursion IsState o.states
  pub few : (logs : List (List Record)) (o : Opening) → AllByRecursion (AllByRecursion IsRecord) logs → IsRecovered logs o → length o.states ≤ MOST_LISTED

pub folds_are_of_records : StatesStand → FoldsAreOfRecords
folds_are_of_records stand lists f h x =
    let plain = plain_are lists h (shape lists x.no_stray) in
    let one = one_of lists f x in
    let first = first_is lists f x in
    let genesis : AllByRecursion IsRecord (Genesis (length lists) one.first ∷ []) = subst (AllByRecursion IsRecord) one.one (all_kept (all_of lists) (all_flat lists h)) in
    record {
      states = subst (AllByRecursion IsState) (sym x.states) (stand.states (plain_lists lists) x.found plain x.recovered);
      first = subst (AllByRecursion IsState) (sym first) genesis.0.each;
      few = subst (λ z. length z ≤ MOST_LISTED) (sym x.states) (stand.few (plain_lists lists) x.found plain x.recovered);
      as_many = as_many_in lists f x;
    }

-- ---- lists without a checkpoint

none_stray : (lists : List (List Record)) → AllByRecursion (AllByRecursion IsPlain) lists → HasNoStray lists
none_stray [] h = tt
none_stray (rs ∷ lists) h = (subst (IsFirstList rs) (sym (no_point rs h.0)) h.0, h.1)

pub plain_lists_fold : PlainListsFold
plain_lists_fold lists o h k =
    let none = no_points lists h in
    record {
      no_stray = none_stray lists h;
      in_range = subst (OfPoint IsPointInRange) (sym none) tt;
      found = o;
      recovered = subst (λ z. IsRecovered z o) (sym (same_lists lists h)) k;
      states = refl;
      next_tid = omega (arith, ap (number_of (λ p. p.next_tid)) none);
      next_bid = omega (arith, ap (number_of (λ p. p.next_bid)) none);
      next_c = omega (arith, ap (number_of (λ p. p.next_c)) none);
      batches = omega (arith, ap (number_of (λ p. p.batches)) none);
      acts = omega (arith, ap (number_of (λ p. p.acts)) none);
      first = refl;
      generation = sym (ap (number_of (λ p. p.generation)) none);
      since = refl;
    }

plain_others : (others : List (List Record)) → AllByRecursion (λ (rs : List Record). rs ≡ []) others → AllByRecursion (AllByRecursion IsPlain) others
plain_others [] h = tt
plain_others (rs ∷ others) h = (subst (AllByRecursion IsPlain) (sym h.0) tt, plain_others others h.1)

pub begun_lists_fold : Begun → BegunListsFold
begun_lists_fold begun count others states many empty =
    plain_lists_fold ((Genesis count states ∷ []) ∷ others) (record { states = states; committed = []; next_tid = record { 0 = 1 }; next_bid = record { 0 = 1 }; next_c = 1 })
    ((refl, tt), plain_others others empty) (begun count others states many empty)
