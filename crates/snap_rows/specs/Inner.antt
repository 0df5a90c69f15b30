-- The counts of the fakes inside the wrappers.
use Rattle.std.specs.Prelude.{ℕ}
use Rattle.snap_outside.specs.declared.sources.MemSource.{MemSource}
use Rattle.snap_outside.specs.declared.sinks.MemSink.{MemSink}

abbrev pub source_faults : MemSource → ℕ
source_faults s = s.schedule.faults

abbrev pub source_late : MemSource → ℕ
source_late s = s.schedule.late

abbrev pub sink_faults : MemSink → ℕ
sink_faults s = s.schedule.faults

abbrev pub sink_late : MemSink → ℕ
sink_late s = s.schedule.late
