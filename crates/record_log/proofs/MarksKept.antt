-- The mark of a log to which groups are appended, at each moment behind its opening.
use Rattle.std.proofs.Common.{◌≡◌, ℕ, List, [], ◌∷◌, ◌++◌, Option, Some, refl, sym, ap, subst, ◌∙◌, append_assoc, append-nil, arith}
use Rattle.snap_outside.specs.declared.devices.DevOp.{DevOp}
use Rattle.snap_outside.specs.Disk.{DeviceHistory, Disk, disk, disk_after, content, with_ops, IsImage, EachMoment}
use Rattle.snap_outside.specs.Moments.{moment_between}
use Rattle.gate_log.specs.declared.logs.LogItem.{LogItem}
use Rattle.gate_log.specs.Appends.{append_ops, end_behind}
use Rattle.gate_log.specs.Bytes.{IsOld, marked_format}
use Rattle.gate_log.specs.LogLaws.{OneList, LogAtIsLog, PlacedIsLogAt, AppendGives, AppendKeeps, AppendKeepsFormat, AppendKeepsMark, BeginningGives, BeginningKeeps, BeginningMakesSecond, MarkedIsSecond}
use Rattle.gate_log.specs.Opened.{beginning_ops, Opened}
use Rattle.txn_records.specs.declared.records.Record.{Record}
use Rattle.record_log.specs.Growth.{all_records, groups_ops, end_behind_groups, MayAppendGroups, IsNextBegun}
use Rattle.record_log.specs.Records.{spelled, HoldsRecords, RecordLog}
use Rattle.record_log.proofs.Holding.{ImagesOfSettled}
use Rattle.record_log.proofs.WholeGroups.{disk_behind, may_split, grown, groups_give, opened_gives}

module _ (gives : AppendGives) (keeps : AppendKeeps) (log_at : LogAtIsLog) (images : ImagesOfSettled) (placed : PlacedIsLogAt) (lists : OneList)
    (beginning_gives : BeginningGives) (beginning_keeps : BeginningKeeps) (format : AppendKeepsFormat) (marks : AppendKeepsMark) (makes : BeginningMakesSecond) (second : MarkedIsSecond) where
  -- while the next append is made
  next_mark : (h : DeviceHistory) (end : ℕ) (rs : List Record) (later : List (List Record)) (begun : List DevOp) → MayAppendGroups end later → RecordLog h end rs
      → IsNextBegun end later begun → (image : List ℕ) → IsImage (disk_after begun (disk h)) image → marked_format image ≡ marked_format (content h)
  next_mark h end rs [] begun may log next image is =
      let here : IsImage (disk h) image = subst (λ (made : List DevOp). IsImage (disk_after made (disk h)) image) next is in
      ap marked_format (images (content h) image (subst (λ (d : Disk). IsImage d image) log.log.quiet here))
  next_mark h end rs (group ∷ groups) begun may log next image is =
      let P : List ℕ → Type 0 = λ bytes. marked_format bytes ≡ marked_format (content h) in
      let all = subst (λ (ops : List DevOp). EachMoment (disk h) ops P) next.1 (marks h end (spelled rs) (spelled group) may.0.may log.log) in
      moment_between (disk h) begun next.0 P all image is

  -- behind whole ones
  groups_mark : (h : DeviceHistory) (end : ℕ) (rs : List Record) (groups : List (List Record)) → MayAppendGroups end groups → RecordLog h end rs
      → marked_format (content (with_ops h (groups_ops end groups))) ≡ marked_format (content h)
  groups_mark h end rs [] may log = ap (λ (ops : List DevOp). marked_format (content (record { first = h.first; ops = ops }))) (append-nil h.ops)
  groups_mark h end rs (group ∷ groups) may log =
      let first = append_ops end (spelled group) in
      let behind = end_behind end (spelled group) in
      let ops = groups_ops behind groups in
      ap (λ (l : List DevOp). marked_format (content (record { first = h.first; ops = l }))) (sym (append_assoc h.ops first ops))
      ∙ (groups_mark (with_ops h first) behind (rs ++ group) groups may.1 (grown gives keeps log_at images h end rs group may.0 log)
      ∙ format h end (spelled rs) (spelled group) may.0.may log.log)

  pub moment_is_recent : (h : DeviceHistory) (opened : Option DeviceHistory) (end : ℕ) (found : List LogItem) (rs : List Record) (whole later : List (List Record)) (begun : List DevOp)
      → Opened (Some h) opened end found → HoldsRecords (content h) rs → MayAppendGroups end (whole ++ later) → IsNextBegun (end_behind_groups end whole) later begun
      → (image : List ℕ) → IsImage (disk_after (beginning_ops (content h) ++ (groups_ops end whole ++ begun)) (disk h)) image
      → ¬ IsOld image
  moment_is_recent h opened end found rs whole later begun opens held may next image is old =
      let beginning = beginning_ops (content h) in
      let appends = groups_ops end whole in
      let more = appends ++ begun in
      let split = may_split end whole later may in
      let log = opened_gives gives keeps log_at images placed lists beginning_gives beginning_keeps h opened end found rs opens held in
      let behind = groups_give gives keeps log_at images (with_ops h beginning) end rs whole split.0 log in
      let there = subst (λ (d : Disk). IsImage d image) (disk_behind h (beginning ++ more) beginning more refl) is in
      let left = subst (λ (d : Disk). IsImage d image) (disk_behind (with_ops h beginning) more appends begun refl) there in
      let mark : marked_format image ≡ 2 =
      next_mark (with_ops (with_ops h beginning) appends) (end_behind_groups end whole) (rs ++ all_records whole) later begun split.1 behind next image left
      ∙ (groups_mark (with_ops h beginning) end rs whole split.0 log ∙ makes h opened end found opens) in
      let one : 1 ≡ 2 = old.1.1 ∙ second image mark in
      absurd (omega (arith, one))
