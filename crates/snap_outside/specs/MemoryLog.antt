-- A device in memory as its fields show it.
use Rattle.std.specs.Prelude.{◌≡◌, ℕ, length, take, vec_len, Some}
use Rattle.std.proofs.Common.{sym, ap, ◌∙◌}
use Rattle.snap_outside.specs.Disk.{DeviceHistory, Disk, settled, disk_after, content}
use Rattle.snap_outside.specs.Fakes.{FailsNext}
use Rattle.snap_outside.specs.declared.memory.MemLog.{MemLog}

-- the device's history: the bytes that it began with, and its operations since
abbrev pub history_of : MemLog → DeviceHistory
history_of d = record { first = d.first; ops = d.ops.items }

-- the device's disk after so many of its operations
abbrev pub disk_at : MemLog → ℕ → Disk
disk_at d n = disk_after (take n d.ops.items) (settled d.first)

-- the device's next call is one of those that are to fail
abbrev pub LogFailsNext : MemLog → Type 0
LogFailsNext d = FailsNext d.schedule

-- the length is that of what a read gives
pub length_is : (d : MemLog) (h : DeviceHistory) (n : ℕ)
    → Some (history_of d) ≡ Some h → Some (vec_len d.bytes) ≡ Some n → n ≡ length (content h)
length_is d h n told told_length =
    let same : history_of d ≡ h = cc told in
    let counted : vec_len d.bytes ≡ n = cc told_length in
    sym counted ∙ d.bytes.ok.0 ∙ ap length d.same ∙ ap (λ (x : DeviceHistory). length (content x)) same
