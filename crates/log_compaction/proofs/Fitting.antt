-- The checkpoint of what logs of records fold to is one.
use Rattle.std.proofs.Common.{◌≡◌, ℕ, ◌+◌, ◌≤◌, List, [], ◌∷◌, length, subst, arith}
use Rattle.std.specs.List.{AllByRecursion}
use Rattle.gate_log.specs.Bytes.{FIRST_GATE}
use Rattle.txn_records.specs.declared.records.Record.{Record}
use Rattle.txn_records.specs.declared.records.Record.TheVariants.{Genesis}
use Rattle.txn_records.specs.Records.{IsRecord, IsGenesis, IsCheckpoint}
use Rattle.record_log.specs.RecordLogLaws.{FewMayBeAppended}
use Rattle.snap_base.proofs.Lists.{all_join, all_filter}
use Rattle.snap_recover.specs.Logs.{all_of, is_genesis, geneses}
use Rattle.log_compact.specs.declared.folds.Folded.{Folded}
use Rattle.log_compact.specs.Compacting.{group_for}
use Rattle.log_compact.specs.Folds.{FoldsAreOfRecords, FoldsAreBegun, IsOfRecords}
use Rattle.log_compaction.specs.Fits.{AreNoneSpent, CompactionFits}

all_joined : (lists : List (List Record)) → AllByRecursion (AllByRecursion IsRecord) lists → AllByRecursion IsRecord (all_of lists)
all_joined [] all = tt
all_joined (rs ∷ lists) all = all_join IsRecord rs (all_of lists) all.0 (all_joined lists all.1)

-- the Genesis among records is a record
genesis_is : (lists : List (List Record)) (g : Record) → AllByRecursion (AllByRecursion IsRecord) lists → geneses lists ≡ g ∷ [] → IsRecord g
genesis_is lists g all one = (subst (AllByRecursion IsRecord) one (all_filter IsRecord is_genesis (all_of lists) (all_joined lists all))).0

checkpoint_is : (f : Folded) → 1 ≤ length f.first → IsOfRecords f → AreNoneSpent f → 1 ≤ f.opening.next_tid.0 → 1 ≤ f.opening.next_bid.0 → 1 ≤ f.opening.next_c
    → IsCheckpoint (f.generation + 1) f.opening.next_tid f.opening.next_bid f.opening.next_c f.batches f.acts f.opening.states
checkpoint_is f some is low tid bid c = record {
  some_generation = omega arith;
  generation_fits = omega (arith, low.generation);
  some_tid = tid;
  tid_fits = omega (arith, low.next_tid);
  some_bid = bid;
  bid_fits = omega (arith, low.next_bid);
  some_c = c;
  c_fits = omega (arith, low.next_c);
  batches_fit = omega (arith, low.batches);
  acts_fit = omega (arith, low.acts);
  some = omega (arith, is.as_many, some);
  few = is.few;
  each = is.states;
}

pub fits : FoldsAreOfRecords → FoldsAreBegun → FewMayBeAppended → CompactionFits
fits of_records begun few lists count f all folded many some four low = (are, record { records = are; may = few FIRST_GATE (group_for count f) are (omega arith) (omega arith) })
  where
    first : IsGenesis count f.first
    first = subst (λ (n : ℕ). IsGenesis n f.first) many (genesis_is lists (Genesis (length lists) f.first) all (begun lists f folded).one)

    are : AllByRecursion IsRecord (group_for count f)
    are = (first, (checkpoint_is f first.some (of_records lists f all folded) low (begun lists f folded).some_tid (begun lists f folded).some_bid (begun lists f folded).some_c, tt))
