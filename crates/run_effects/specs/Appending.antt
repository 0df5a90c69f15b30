-- One append to an open journal.
use Rattle.std.specs.Prelude.{◌≡◌, ℕ, ◌≤◌, true, false, List}
use Rattle.record_log.specs.gate_log.Appends.{append_ops, end_behind}
use Rattle.record_log.specs.gate_log.State.{LogState, IsUntouched}
use Rattle.record_log.specs.gate_log.declared.logs.AppendNo.{AppendNo}
use Rattle.record_log.specs.gate_log.declared.logs.AppendNo.TheVariants as append
use Rattle.snap_outside.specs.Causes.{Rose}
use Rattle.snap_outside.specs.Disk.{AddsAll, AddsUpToFault}

-- the pieces were appended
pub record IsAppended (old new : LogState) (pieces : List (List ℕ)) : Type 0 where
  pub adds : AddsAll old.told new.told (append_ops old.end pieces)
  pub gate : new.end ≡ end_behind old.end pieces
  pub format : new.format ≡ old.format
  pub ready : new.shut ≡ false
  pub later : old.faults ≤ new.faults

-- the device failed in their append
pub record IsCutOff (old new : LogState) (pieces : List (List ℕ)) : Type 0 where
  pub adds : AddsUpToFault old.told new.told (append_ops old.end pieces)
  pub gate : new.end ≡ old.end
  pub format : new.format ≡ old.format
  pub shut : new.shut ≡ true
  pub rose : Rose old.faults new.faults
  pub later : old.faults ≤ new.faults

abbrev pub IsNotAppended : LogState → LogState → List (List ℕ) → AppendNo → Type 0
IsNotAppended old new pieces append.Device = IsCutOff old new pieces
IsNotAppended old new pieces append.Shut = ⊥
IsNotAppended old new pieces append.Memory = IsUntouched old new
