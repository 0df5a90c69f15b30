-- What holds of every fold. A law of `src/fold_laws.rt` says each of these.
use Rattle.std.specs.Prelude.{◌≡◌, ◌≢◌, ℕ, ◌+◌, ◌≤◌, List, [], ◌∷◌, length}
use Rattle.std.specs.List.{AllByRecursion}
use Rattle.snap_base.specs.declared.transactions.State.{State}
use Rattle.txn_records.specs.declared.limits.TheConstants.{MOST_LISTED}
use Rattle.txn_records.specs.declared.records.Record.{Record}
use Rattle.txn_records.specs.declared.records.Record.TheVariants.{Genesis}
use Rattle.txn_records.specs.Records.{IsRecord, IsState}
use Rattle.snap_recover.specs.Logs.{geneses}
use Rattle.snap_recover.specs.Opening.{IsRecovered}
use Rattle.snap_recover.specs.declared.openings.Opening.{Opening}
use Rattle.log_compact.specs.declared.folds.Folded.{Folded}
use Rattle.log_compact.specs.declared.refusals.FoldNo.{FoldNo}
use Rattle.log_compact.specs.declared.refusals.FoldNo.TheVariants.{Memory}
use Rattle.log_compact.specs.Points.{IsPlain}
use Rattle.log_compact.specs.Refusals.{IsNotFolded}
use Rattle.log_compact.specs.Sets.{IsFolded, count_batches, count_acts, first_of}

-- ---- one answer

-- lists that are refused fold to nothing, want of memory aside
abbrev pub RefusedAreNotFolded : Type 0
RefusedAreNotFolded = (lists : List (List Record)) (no : FoldNo) (f : Folded) → no ≢ Memory → IsNotFolded lists no → ¬ IsFolded lists f

-- and with one answer at most
abbrev pub OneFoldRefusal : Type 0
OneFoldRefusal = (lists : List (List Record)) (x y : FoldNo) → x ≢ Memory → y ≢ Memory → IsNotFolded lists x → IsNotFolded lists y → x ≡ y

-- ---- what is folded

-- states, one for each actor, now and at first, and no more than Genesis may tell
pub record IsOfRecords (f : Folded) : Type 0 where
  pub states : AllByRecursion IsState f.opening.states
  pub first : AllByRecursion IsState f.first
  pub few : length f.opening.states ≤ MOST_LISTED
  pub as_many : length f.first ≡ length f.opening.states

abbrev pub FoldsAreOfRecords : Type 0
FoldsAreOfRecords = (lists : List (List Record)) (f : Folded) → AllByRecursion (AllByRecursion IsRecord) lists → IsFolded lists f → IsOfRecords f

-- There is one Genesis, which tells how many lists there are, and the states with which the first run began; and all next numbers are
-- at least 1.
pub record IsBegun (lists : List (List Record)) (f : Folded) : Type 0 where
  pub one : geneses lists ≡ Genesis (length lists) f.first ∷ []
  pub some_tid : 1 ≤ f.opening.next_tid.0
  pub some_bid : 1 ≤ f.opening.next_bid.0
  pub some_c : 1 ≤ f.opening.next_c

abbrev pub FoldsAreBegun : Type 0
FoldsAreBegun = (lists : List (List Record)) (f : Folded) → IsFolded lists f → IsBegun lists f

-- ---- lists without a checkpoint

-- the fold of lists that have no checkpoint and recover to this
abbrev pub plain_fold : List (List Record) → Opening → Folded
plain_fold lists o = record { opening = o; first = first_of lists; generation = 0; batches = count_batches o.committed; acts = count_acts o.committed }

abbrev pub PlainListsFold : Type 0
PlainListsFold = (lists : List (List Record)) (o : Opening) → AllByRecursion (AllByRecursion IsPlain) lists → IsRecovered lists o → IsFolded lists (plain_fold lists o)

-- what the first run begins with
abbrev pub fresh_fold : List State → Folded
fresh_fold states = record {
  opening = record { states = states; committed = []; next_tid = record { 0 = 1 }; next_bid = record { 0 = 1 }; next_c = 1 };
  first = states;
  generation = 0;
  batches = 0;
  acts = 0;
}

-- lists of which the first one holds Genesis alone, and the others no record, fold to just that
abbrev pub BegunListsFold : Type 0
BegunListsFold =
    (count : ℕ) (others : List (List Record)) (states : List State) → count ≡ length others + 1 → AllByRecursion (λ (rs : List Record). rs ≡ []) others
    → IsFolded ((Genesis count states ∷ []) ∷ others) (fresh_fold states)
