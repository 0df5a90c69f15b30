-- An opening, and an upgrade where the log is of format 1.
use Rattle.std.proofs.Common.{◌≡◌, ℕ, inl, inr, Bool, true, false, List, [], ◌∷◌, ◌++◌, Option, Some, sym, subst, append_assoc, append-nil}
use Rattle.std.specs.Prelude.{◌==◌, if◌then◌else◌}
use Rattle.snap_outside.specs.declared.devices.DevOp.{DevOp}
use Rattle.snap_outside.specs.declared.devices.DevOp.TheVariants.{Write, Sync}
use Rattle.snap_outside.specs.Disk.{DeviceHistory, Disk, disk, content, settled, with_ops, EachMoment}
use Rattle.snap_outside.specs.Moments.{disk_join, moments_join}
use Rattle.gate_log.specs.declared.logs.LogItem.{LogItem}
use Rattle.gate_log.specs.Appends.{upgrade_ops}
use Rattle.gate_log.specs.Bytes.{format_in, IsLog}
use Rattle.gate_log.specs.Device.{DeviceLog}
use Rattle.gate_log.specs.Opened.{bytes_of, new_log, opening_ops, beginning_ops, Opened}
use Rattle.gate_log.proofs.OpenDisks.{settled_log}
use Rattle.gate_log.proofs.Openings.{gives, keeps, made_log, short_ops, long_ops}
use Rattle.gate_log.proofs.Upgrades.{upgrade_gives, upgrade_keeps}

abbrev pub upgrade_where : Bool → List DevOp
upgrade_where old = if old then upgrade_ops else []

-- what is opened is still there when it is upgraded
still_there : (h : DeviceHistory) (opening : List DevOp) (end : ℕ) (items : List (List ℕ)) (old : Bool) → DeviceLog (with_ops h opening) end items
    → DeviceLog (with_ops h (opening ++ upgrade_where old)) end items
still_there h opening end items true log =
    subst (λ (ops : List DevOp). DeviceLog (record { first = h.first; ops = ops }) end items) (append_assoc h.ops opening upgrade_ops)
    (upgrade_gives (with_ops h opening) end items log).0
still_there h opening end items false log = subst (λ (ops : List DevOp). DeviceLog (with_ops h ops) end items) (sym (append-nil opening)) log

pub begun_gives : (h : DeviceHistory) (new : Option DeviceHistory) (end : ℕ) (found : List LogItem) → Opened (Some h) new end found
    → DeviceLog (with_ops h (beginning_ops (content h))) end (bytes_of found)
begun_gives h new end found opened =
    still_there h (opening_ops (content h)) end (bytes_of found) (format_in (content h) == 1) (gives h new end found opened)

-- the log is there when its device is opened
opened_at : (h : DeviceHistory) (items : List (List ℕ)) → IsLog (content h) items → (end : ℕ) × DeviceLog (with_ops h (opening_ops (content h))) end items
opened_at h items (inl short) = (
  8,
  subst (λ (ops : List DevOp). DeviceLog (with_ops h ops) 8 items) (short_ops (content h) short.0)
      (subst (λ (xs : List (List ℕ)). DeviceLog (with_ops h (Write 0 new_log ∷ Sync ∷ [])) 8 xs) (sym short.1) (made_log h short.0)),
)
opened_at h items (inr long) = (
  long.1.0,
  subst (λ (ops : List DevOp). DeviceLog (with_ops h ops) long.1.0 items) (long_ops (content h) long.0)
      (settled_log (with_ops h (Sync ∷ [])) (content h) long.1.0 items (disk_join h.ops (Sync ∷ []) (settled h.first)) long.1.1),
)

moments_with : (h : DeviceHistory) (opening : List DevOp) (end : ℕ) (items : List (List ℕ)) (old : Bool) → DeviceLog (with_ops h opening) end items
    → EachMoment (disk h) opening (λ image. IsLog image items) → EachMoment (disk h) (opening ++ upgrade_where old) (λ image. IsLog image items)
moments_with h opening end items true log all =
    moments_join (disk h) opening upgrade_ops (λ image. IsLog image items) all
    (subst (λ (d : Disk). EachMoment d upgrade_ops (λ image. IsLog image items)) (disk_join h.ops opening (settled h.first)) (upgrade_keeps (with_ops h opening) end items log))
moments_with h opening end items false log all = subst (λ (ops : List DevOp). EachMoment (disk h) ops (λ image. IsLog image items)) (sym (append-nil opening)) all

pub begun_keeps : (h : DeviceHistory) (items : List (List ℕ)) → disk h ≡ settled (content h) → IsLog (content h) items
    → EachMoment (disk h) (beginning_ops (content h)) (λ image. IsLog image items)
begun_keeps h items quiet log =
    let at = opened_at h items log in
    moments_with h (opening_ops (content h)) at.0 items (format_in (content h) == 1) at.1 (keeps h items quiet log)
