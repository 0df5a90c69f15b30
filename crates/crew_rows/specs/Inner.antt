-- The counts and the length of the fakes inside the slow ones.
use Rattle.std.specs.Prelude.{ℕ, vec_len}
use Rattle.snap_outside.specs.declared.memory.MemLog.{MemLog}
use Rattle.snap_outside.specs.declared.sinks.MemSink.{MemSink}

abbrev pub device_length : MemLog → ℕ
device_length d = vec_len d.bytes

abbrev pub device_faults : MemLog → ℕ
device_faults d = d.schedule.faults

abbrev pub sink_faults : MemSink → ℕ
sink_faults s = s.schedule.faults

abbrev pub sink_late : MemSink → ℕ
sink_late s = s.schedule.late
