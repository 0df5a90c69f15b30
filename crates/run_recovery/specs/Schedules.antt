-- How the events of a run are picked: by one thread, as the schedule of a seed has it; or by several workers, as they come to them.
use Rattle.std.specs.Prelude.{ℕ, List}
use Rattle.protocol.specs.Events.{Event}
use Rattle.protocol.specs.Fixed.{Fixed}
use Rattle.protocol.specs.Runs.{IsRun}
use Rattle.protocol_schedule.specs.Draw.{IsFrontOfSeed}

-- the schedule of this seed; or any order that the machine allows
pub data Schedule : Type 0 where
  seeded : (seed : ℕ) → Schedule
  free : Schedule

-- what was taken is a front of the seed's schedule; or any run of the machine
abbrev pub IsTakenBy : {C : Type 0} → Fixed C → Schedule → List Event → Type 0
IsTakenBy w (seeded seed) es = IsFrontOfSeed w seed es
IsTakenBy w free es = IsRun w es
