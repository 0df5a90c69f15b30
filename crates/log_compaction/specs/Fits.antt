-- What logs of records fold to fits into a checkpoint. A law of `src/laws.rt` says this.
use Rattle.std.specs.Prelude.{◌≡◌, ℕ, ◌+◌, ◌≤◌, List, length}
use Rattle.std.specs.List.{AllByRecursion}
use Rattle.gate_log.specs.Bytes.{FIRST_GATE}
use Rattle.txn_records.specs.declared.records.Record.{Record}
use Rattle.txn_records.specs.Records.{IsRecord}
use Rattle.record_log.specs.Growth.{MayAppendGroup}
use Rattle.snap_recover.specs.declared.ranges.TheConstants.{GREATEST_NUMBER}
use Rattle.log_compact.specs.declared.folds.Folded.{Folded}
use Rattle.log_compact.specs.Compacting.{group_for}
use Rattle.log_compact.specs.Sets.{IsFolded}

-- no number of the checkpoint that would stand for this is spent
pub record AreNoneSpent (f : Folded) : Type 0 where
  pub generation : f.generation + 1 ≤ GREATEST_NUMBER
  pub next_tid : f.opening.next_tid.0 ≤ GREATEST_NUMBER
  pub next_bid : f.opening.next_bid.0 ≤ GREATEST_NUMBER
  pub next_c : f.opening.next_c ≤ GREATEST_NUMBER
  pub batches : f.batches ≤ GREATEST_NUMBER
  pub acts : f.acts ≤ GREATEST_NUMBER

-- The two records of a checkpoint are records, and may be appended to a log that has no item.
abbrev pub CompactionFits : Type 0
CompactionFits =
    (lists : List (List Record)) (count : ℕ) (f : Folded)
    → AllByRecursion (AllByRecursion IsRecord) lists → IsFolded lists f → length lists ≡ count → 1 ≤ count → count ≤ 4 → AreNoneSpent f
    → AllByRecursion IsRecord (group_for count f) × MayAppendGroup FIRST_GATE (group_for count f)
