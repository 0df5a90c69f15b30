-- What a crash leaves of a device that a run does not use: what it held, or, where it was to be cleared, that or none.
use Rattle.std.specs.Prelude.{◌≡◌, ℕ, ◌⊎◌, Option, None, Some, List, [], ◌++◌}
use Rattle.std.proofs.Common.{inl, inr, sym, ap, subst, ◌∙◌}
use Rattle.std.proofs.lemmas.List.{append_cancel_left}
use Rattle.record_log.specs.gate_log.declared.logs.LogItem.{LogItem}
use Rattle.record_log.specs.gate_log.Appends.{clear_ops}
use Rattle.record_log.specs.gate_log.Bytes.{IsLog}
use Rattle.record_log.specs.gate_log.Device.{DeviceLog}
use Rattle.record_log.specs.gate_log.LogLaws.{ClearKeeps, OneList, OpeningAdds, OpeningGives, OpeningKeeps, PlacedIsLogAt}
use Rattle.record_log.specs.gate_log.Opened.{Opened, bytes_of, opening_ops}
use Rattle.record_log.specs.Records.{HoldsRecords, spelled}
use Rattle.record_log.proofs.Holding.{opened_log}
use Rattle.record_log.specs.snap_outside.declared.devices.DevOp.{DevOp}
use Rattle.record_log.specs.snap_outside.Disk.{AddsAll, DeviceHistory, EachMoment, IsImage, content, disk, disk_after, settled, with_ops}
use Rattle.record_log.specs.snap_outside.Moments.{adds_join, disk_join, moment_between, moments_join, moments_weaker}
use Rattle.record_log.specs.txn_records.declared.records.Record.{Record}
use Rattle.run_opening.specs.log_opening.Cuts.{IsCutCall, IsFrontOfCall}
use Rattle.run_opening.specs.log_opening.Devices.{Device, IsEmptied, IsOpened}

-- what the laws of one log say
pub record LogLaws : Type 0 where
  pub adds : OpeningAdds
  pub gives : OpeningGives
  pub keeps : OpeningKeeps
  pub clears : ClearKeeps
  pub list : OneList
  pub found : PlacedIsLogAt

-- ---- the operations of a call

ops_of : Option DeviceHistory → List DevOp
ops_of None = []
ops_of (Some g) = g.ops

-- the operations of a call are known by what its device tells
same_ops : (h : DeviceHistory) (ops made more : List DevOp) (new : Option DeviceHistory) → new ≡ Some (with_ops h ops) → new ≡ Some (with_ops h (made ++ more)) → ops ≡ made ++ more
unfolding ops_of
same_ops h ops made more new a b = append_cancel_left h.ops ops (made ++ more) (ap ops_of (sym a ∙ b))

-- where a fact holds at each moment of a call, it holds of what a crash leaves
pub left_so : (P : List ℕ → Type 0) (h : DeviceHistory) (ops made more : List DevOp) (new : Option DeviceHistory) (image : List ℕ) → new ≡ Some (with_ops h ops) → new ≡ Some (with_ops h (made ++ more))
    → EachMoment (disk h) ops P → IsImage (disk_after made (disk h)) image → P image
left_so P h ops made more new image a b each left =
    moment_between (disk h) made more P (subst (λ (xs : List DevOp). EachMoment (disk h) xs P) (same_ops h ops made more new a b) each) image left

-- ---- an opening, and a clearing behind it

held_still : (rs : List Record) (bytes image : List ℕ) → HoldsRecords bytes rs → IsLog image (spelled rs) → HoldsRecords image rs
held_still rs bytes image held log = record { log = log; each = held.each }

pub opened_left : LogLaws → (before after : Device) (rs : List Record) (made : List DevOp) (image : List ℕ) (cut : IsCutCall before rs made image) → IsFrontOfCall after cut.history made → IsOpened before after → HoldsRecords image rs
opened_left laws before after rs made image cut front opened =
    held_still rs (content h) image cut.holds
    (left_so (λ i. IsLog i (spelled rs)) h (opening_ops (content h)) made front.0 after.told image (laws.adds h after.told opened.0 opened.1 is) front.1 (laws.keeps h (spelled rs) cut.durable cut.holds.log) cut.left)
  where
    h : DeviceHistory
    h = cut.history

    is : Opened (Some h) after.told opened.0 opened.1
    is = subst (λ (t : Option DeviceHistory). Opened t after.told opened.0 opened.1) cut.told opened.2

disk_with : (h : DeviceHistory) (ops : List DevOp) → disk (with_ops h ops) ≡ disk_after ops (disk h)
disk_with h ops = disk_join h.ops ops (settled h.first)

-- the items that are found are the records
found_are : LogLaws → (h : DeviceHistory) (new : Option DeviceHistory) (end : ℕ) (found : List LogItem) (rs : List Record) → Opened (Some h) new end found → HoldsRecords (content h) rs → bytes_of found ≡ spelled rs
found_are laws h new end found rs opened held = laws.list (content h) (bytes_of found) (spelled rs) (opened_log laws.found h new end found opened) held.log

abbrev OldOrNone : List Record → List ℕ → Type 0
OldOrNone rs image = IsLog image (spelled rs) ⊎ IsLog image []

pub emptied_left : LogLaws → (before after : Device) (rs : List Record) (made : List DevOp) (image : List ℕ) (cut : IsCutCall before rs made image) → IsFrontOfCall after cut.history made → IsEmptied before after
    → HoldsRecords image rs ⊎ HoldsRecords image []
emptied_left laws before after rs made image cut front emptied =
    old_or_none (left_so (OldOrNone rs) h (opening ++ clearing) made front.0 after.told image all_added front.1 each cut.left)
  where
    h : DeviceHistory
    h = cut.history

    end : ℕ
    end = emptied.0

    opening : List DevOp
    opening = opening_ops (content h)

    clearing : List DevOp
    clearing = clear_ops end

    is : Opened (Some h) emptied.2 end emptied.1
    is = subst (λ (t : Option DeviceHistory). Opened t emptied.2 end emptied.1) cut.told emptied.3

    all_added : AddsAll (Some h) after.told (opening ++ clearing)
    all_added = adds_join (Some h) emptied.2 after.told opening clearing (laws.adds h emptied.2 end emptied.1 is) emptied.4

    open_log : DeviceLog (with_ops h opening) end (spelled rs)
    open_log = subst (λ (items : List (List ℕ)). DeviceLog (with_ops h opening) end items) (found_are laws h emptied.2 end emptied.1 rs is cut.holds) (laws.gives h emptied.2 end emptied.1 is)

    each : EachMoment (disk h) (opening ++ clearing) (OldOrNone rs)
    each =
        moments_join (disk h) opening clearing (OldOrNone rs) (moments_weaker (λ i. IsLog i (spelled rs)) (OldOrNone rs) (λ i log. inl log) (disk h) opening (laws.keeps h (spelled rs) cut.durable cut.holds.log))
        (subst (λ d. EachMoment d clearing (OldOrNone rs)) (disk_with h opening) (laws.clears (with_ops h opening) end (spelled rs) open_log))

    old_or_none : OldOrNone rs image → HoldsRecords image rs ⊎ HoldsRecords image []
    old_or_none (inl log) = inl (record { log = log; each = cut.holds.each })
    old_or_none (inr log) = inr (record { log = log; each = tt })
