-- The two operations of an upgrade on a log.
use Rattle.std.proofs.Common.{◌≡◌, ℕ, Bool, true, false, List, [], ◌∷◌, ◌++◌, length, refl, sym, ap, subst, ◌∙◌}
use Rattle.std.specs.Prelude.{nat_le, if◌then◌else◌}
use Rattle.std.proofs.lemmas.List.{append-nil}
use Rattle.snap_outside.specs.declared.devices.DevOp.{DevOp}
use Rattle.snap_outside.specs.Disk.{DeviceHistory, Disk, settled, disk, disk_after, content, EachMoment, with_ops}
use Rattle.snap_outside.specs.Moments.{disk_join}
use Rattle.gate_log.specs.declared.limits.TheConstants.{NEW_LOG_SIZE}
use Rattle.gate_log.specs.Appends.{append_ops, upgrade_ops}
use Rattle.gate_log.specs.Bytes.{magic, blocks, marked_format, format_in, IsLog, IsLogAt}
use Rattle.gate_log.specs.Device.{DeviceLog, MayAppend}
use Rattle.gate_log.proofs.AppendBytes.{log_of}
use Rattle.gate_log.proofs.AppendDisks.{written_gate, gate_moments}
use Rattle.gate_log.proofs.AppendLogs.{mark_stays}
use Rattle.gate_log.proofs.OpenDisks.{settled_log}

-- ---- over plain lists

mark_end : (mark : ℕ) (tail : List ℕ) → disk_after upgrade_ops (settled (magic ++ mark ∷ tail)) ≡ settled (magic ++ 50 ∷ tail)
mark_end mark tail = ap settled (written_gate magic mark 7 refl 50 tail)

either : (b : Bool) (n : ℕ) → n ≡ 2 → (if b then 2 else n) ≡ 2
either true n e = refl
either false n e = e

pub second : (bytes : List ℕ) → marked_format bytes ≡ 2 → format_in bytes ≡ 2
second bytes e = either (nat_le (length bytes) NEW_LOG_SIZE) (marked_format bytes) e

-- ---- on a device

-- the same log with another mark
marked_log : (bytes : List ℕ) (end : ℕ) (items : List (List ℕ)) (log : IsLogAt bytes end items) (x : ℕ) → IsLogAt (magic ++ x ∷ (blocks log.parts.0 ++ log.parts.1 ∷ log.parts.2)) end items
marked_log bytes end items log x = let p = log.parts in record { mark = x; parts = (p.0, p.1, p.2, p.3, p.4, refl, p.6, p.7) }

pub upgrade_gives : (h : DeviceHistory) (end : ℕ) (items : List (List ℕ)) → DeviceLog h end items
    → DeviceLog (with_ops h upgrade_ops) end items × (marked_format (content (with_ops h upgrade_ops)) ≡ 2)
upgrade_gives h end items log =
    let p = log.log.parts in
    let tail : List ℕ = blocks p.0 ++ p.1 ∷ p.2 in
    let there : disk (with_ops h upgrade_ops) ≡ settled (magic ++ 50 ∷ tail) =
    disk_join h.ops upgrade_ops (settled h.first) ∙ ap (λ (d : Disk). disk_after upgrade_ops d) log.quiet ∙ ap (λ (b : List ℕ). disk_after upgrade_ops (settled b)) p.5 ∙ mark_end log.log.mark tail in (
      settled_log (with_ops h upgrade_ops) (magic ++ 50 ∷ tail) end items there (marked_log (content h) end items log.log 50),
      ap (λ (d : Disk). marked_format d.now) there,
    )

pub upgrade_keeps : (h : DeviceHistory) (end : ℕ) (items : List (List ℕ)) → DeviceLog h end items → EachMoment (disk h) upgrade_ops (λ image. IsLog image items)
upgrade_keeps h end items log =
    let p = log.log.parts in
    let tail : List ℕ = blocks p.0 ++ p.1 ∷ p.2 in
    subst (λ (d : Disk). EachMoment d upgrade_ops (λ image. IsLog image items)) (sym log.quiet)
    (subst (λ (b : List ℕ). EachMoment (settled b) upgrade_ops (λ image. IsLog image items)) (sym p.5)
    (gate_moments magic log.log.mark 7 refl 50 tail (λ image. IsLog image items) (λ x. log_of (magic ++ x ∷ tail) end items (marked_log (content h) end items log.log x))))

pub append_keeps_format : (h : DeviceHistory) (end : ℕ) (items added : List (List ℕ)) → MayAppend end added → DeviceLog h end items
    → marked_format (content (with_ops h (append_ops end added))) ≡ marked_format (content h)
append_keeps_format h end items [] may log = ap (λ (ops : List DevOp). marked_format (content (record { first = h.first; ops = ops }))) (append-nil h.ops)
append_keeps_format h end items (item ∷ more) may log =
    let ops = append_ops end (item ∷ more) in
    let there : disk (with_ops h ops) ≡ disk_after ops (settled (content h)) = disk_join h.ops ops (settled h.first) ∙ ap (λ (d : Disk). disk_after ops d) log.quiet in
    ap (λ (d : Disk). marked_format d.now) there ∙ mark_stays (content h) end items (item ∷ more) log.log
