-- What is known of the logs in use once they are opened and fold.
use Rattle.std.proofs.Common.{◌≡◌, ℕ, ◌+◌, ◌≤◌, inl, inr, List, [], ◌∷◌, length, subst, sym, arith}
use Rattle.std.specs.Prelude.{◌⊎◌}
use Rattle.std.specs.List.{AllByRecursion}
use Rattle.gate_log.specs.declared.logs.LogItem.{LogItem}
use Rattle.gate_log.specs.State.{LogState, AreAllOpen}
use Rattle.txn_records.specs.declared.records.Record.{Record}
use Rattle.txn_records.specs.Records.{IsRecord}
use Rattle.log_compact.specs.declared.folds.Folded.{Folded}
use Rattle.log_compact.specs.Compacting.{group_for}
use Rattle.log_compact.specs.Finding.{IsUsed}
use Rattle.log_compact.specs.Folds.{FoldsAreBegun}
use Rattle.log_compact.specs.Sets.{IsFolded}
use Rattle.snap_recover.specs.Logs.{geneses}
use Rattle.log_opening.specs.Devices.{Device}
use Rattle.log_opening.specs.Found.{AreAllFound}
use Rattle.log_opening.specs.Kept.{AreGiven}
use Rattle.log_opening.proofs.AllFound.{ready_at}
use Rattle.log_compaction.specs.Compacted.{IsUnspentFold}
use Rattle.log_compaction.specs.Fits.{CompactionFits}
use Rattle.log_compaction.specs.Ready.{AreOfFormat}
use Rattle.log_compaction.proofs.Safe.{none_spent}

pub all_open : (before : List Device) (logs : List LogState) (found : List (List LogItem)) → AreAllFound before logs found → AreAllOpen logs
all_open before logs found all = λ l lt. (ready_at before logs found all l (omega (arith, lt, all.many))).ready

pub all_formats : (before : List Device) (logs : List LogState) (found : List (List LogItem)) → AreAllFound before logs found → AreOfFormat logs
all_formats before logs found all = λ l lt. let at = ready_at before logs found all l (omega (arith, lt, all.many)) in record { formatted = at.formatted; known = at.known }

-- logs that fold are some
pub some_lists : FoldsAreBegun → (lists : List (List Record)) (f : Folded) → IsFolded lists f → 1 ≤ length lists
some_lists begun [] f is = absurd (none (begun [] f is).one)
  where
    none : {r : Record} → geneses [] ≡ r ∷ [] → ⊥
    none same = cc
some_lists begun (rs ∷ lists) f is = omega arith

-- they are those of one side
pub one_side : (before : List Device) (head : ℕ) (lists : List (List Record)) → AreGiven before head lists → (head ≡ 0) ⊎ (head ≡ length lists)
one_side before head lists given = by given.used.used
  where
    by : IsUsed given.used.fronts 1 head (length lists) given.generation → (head ≡ 0) ⊎ (head ≡ length lists)
    by (inl set) = elim (set.is_head.side) [ inl first ↦ inl first | inr second ↦ inr (sym second) ]
    by (inr none) = inl none.1

-- where nothing is spent, their checkpoint is one
pub group_is : CompactionFits → FoldsAreBegun → (before : List Device) (head count : ℕ) (lists : List (List Record)) (f : Folded) → AreGiven before head lists → head + length lists ≤ 4 → length lists ≡ count → IsFolded lists f
    → IsUnspentFold f → AllByRecursion IsRecord (group_for count f)
group_is fits begun before head count lists f given within many is low =
    (fits lists count f given.each is many (subst (λ (n : ℕ). 1 ≤ n) many (some_lists begun lists f is)) (omega (arith, within, many)) (none_spent f low)).0
