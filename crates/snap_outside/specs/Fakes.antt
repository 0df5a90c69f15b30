-- What the fakes in memory hold.
use Rattle.std.specs.Prelude.{◌≡◌, ℕ, ◌+◌, ◌-◌, ◌^◌, min, List, drop, Contains}
use Rattle.snap_outside.specs.declared.schedules.Schedule.{Schedule}
use Rattle.snap_outside.specs.declared.sources.MemSource.{MemSource}
use Rattle.snap_outside.specs.declared.sinks.MemSink.{MemSink}

-- the next call is one of those that are to fail
abbrev pub FailsNext : Schedule → Type 0
FailsNext s = Contains s.fails.items (min (s.calls + 1) (2 ^ 64 - 1))

-- one call more is counted, and the calls that are to fail stay the same
abbrev pub OneCall : Schedule → Schedule → Type 0
OneCall before now = (now.fails ≡ before.fails) × (now.calls ≡ min (before.calls + 1) (2 ^ 64 - 1))

-- the bytes that the source has not given yet
abbrev pub source_left : MemSource → List ℕ
source_left s = drop s.at s.bytes.items

-- the source's next call is one of those that are to fail
abbrev pub SourceFailsNext : MemSource → Type 0
SourceFailsNext s = FailsNext s.schedule

-- the sink's next call is one of those that are to fail
abbrev pub SinkFailsNext : MemSink → Type 0
SinkFailsNext s = FailsNext s.schedule
