-- A log that was opened and is upgraded, at each moment of it.
use Rattle.std.proofs.Common.{◌≡◌, ℕ, List, [], ◌++◌, Option, Some, None, append-nil, arith, refl, subst, sym, ◌∙◌}
use Rattle.std.specs.Prelude.{IfSome}
use Rattle.snap_outside.specs.declared.devices.DevOp.{DevOp}
use Rattle.snap_outside.specs.Disk.{DeviceHistory, Disk, disk, content, settled, with_ops, EachMoment, IsImage}
use Rattle.snap_outside.specs.Moments.{adds_join, disk_join, moment_between, moments_join, moments_weaker}
use Rattle.gate_log.specs.declared.logs.LogItem.{LogItem}
use Rattle.gate_log.specs.Bytes.{format_in, IsLog, IsOld}
use Rattle.gate_log.specs.Device.{DeviceLog, UpgradesSafely}
use Rattle.gate_log.specs.LogLaws.{OneList, PlacedIsLogAt}
use Rattle.gate_log.specs.Opened.{bytes_of, Opened}
use Rattle.txn_records.specs.declared.records.Record.{Record}
use Rattle.record_log.specs.Records.{spelled, HoldsRecords, IsKeptImage, KeepsRecords}
use Rattle.record_log.proofs.Holding.{opened_log}

own_image : (bytes : List ℕ) → IsImage (settled bytes) bytes
own_image bytes = record { no_shorter = omega arith; no_longer = omega arith; fixed = λ i lt fixed. refl }

-- what holds at each moment of some operations holds of what a device holds behind them, where nothing of it is loose
at_end : (h : DeviceHistory) (ops : List DevOp) (P : List ℕ → Type 0) → EachMoment (disk h) ops P → disk (with_ops h ops) ≡ settled (content (with_ops h ops)) → P (content (with_ops h ops))
at_end h ops P all quiet =
    moment_between (disk h) ops [] P (subst (λ (l : List DevOp). EachMoment (disk h) l P) (sym (append-nil ops)) all) (content (with_ops h ops))
    (subst (λ (d : Disk). IsImage d (content (with_ops h ops))) (sym quiet ∙ disk_join h.ops ops (settled h.first)) (own_image (content (with_ops h ops))))

module _ (lists : OneList) where
  -- a log of format 1 that holds these, and is no log of format 1 with an item, holds none; so what is left with these is none either
  recent_still : (bytes : List ℕ) (rs : List Record) → HoldsRecords bytes rs → format_in bytes ≡ 1 → ¬ IsOld bytes → (image : List ℕ) → IsLog image (spelled rs) → ¬ IsOld image
  recent_still bytes rs held one recent image log = λ old.
      let same : old.0 ≡ spelled rs = lists image old.0 (spelled rs) old.1.0 log in
      recent (old.0, (subst (λ (l : List (List ℕ)). IsLog bytes l) (sym same) held.log, sym one), old.2)

  module _ (placed : PlacedIsLogAt) where
    pub upgraded_keeps : (old opened new : Option DeviceHistory) (found_end end : ℕ) (items : List LogItem) → Opened old opened found_end items → IfSome opened (λ g. DeviceLog g end (bytes_of items))
        → IfSome opened (λ g. format_in (content g) ≡ 1) → KeepsRecords old opened → UpgradesSafely opened new end → KeepsRecords old new
    upgraded_keeps None opened new found_end end items is log first keeps safe = tt
    upgraded_keeps (Some h) opened new found_end end items is log first keeps safe =
        let g = with_ops h keeps.0 in
        let there : DeviceLog g end (bytes_of items) = subst (λ (t : Option DeviceHistory). IfSome t (λ x. DeviceLog x end (bytes_of items))) keeps.1 log in
        let one : format_in (content g) ≡ 1 = subst (λ (t : Option DeviceHistory). IfSome t (λ x. format_in (content x) ≡ 1)) keeps.1 first in
        let later : UpgradesSafely (Some g) new end = subst (λ (t : Option DeviceHistory). UpgradesSafely t new end) keeps.1 safe in (
          keeps.0 ++ later.0,
          adds_join (Some h) (Some g) new keeps.0 later.0 refl later.1,
          (λ quiet rs held.
              let same : bytes_of items ≡ spelled rs = lists (content h) (bytes_of items) (spelled rs) (opened_log placed h opened found_end items is) held.log in
              let last : IsKeptImage (content h) rs (content g) = at_end h keeps.0 (IsKeptImage (content h) rs) (keeps.2 quiet rs held) there.quiet in
              let kept : (image : List ℕ) → IsLog image (spelled rs) → IsKeptImage (content h) rs image =
              λ image log. (record { log = log; each = held.each }, (λ recent. recent_still (content g) rs last.0 one (last.1 recent) image log)) in
              moments_join (disk h) keeps.0 later.0 (IsKeptImage (content h) rs) (keeps.2 quiet rs held)
              (subst (λ (d : Disk). EachMoment d later.0 (IsKeptImage (content h) rs)) (disk_join h.ops keeps.0 (settled h.first))
              (moments_weaker (λ image. IsLog image (spelled rs)) (IsKeptImage (content h) rs) kept (disk g) later.0 (later.2 (spelled rs) (subst (λ (xs : List (List ℕ)). DeviceLog g end xs) same there))))),
        )
