-- What a crash at a step of a crew's table recovers to, and what was printed by then.
use Rattle.std.specs.Prelude.{◌≡◌, ℕ, Option, List}
use Rattle.crew_parts.specs.Outputs.{OutputStands}
use Rattle.crew_recovery.specs.Told.{ToldAreAmong}
use Rattle.protocol.specs.Events.{Event}
use Rattle.run_recovery.specs.Crashes.{Recovers}
use Rattle.run_recovery.specs.OneRun.{TheRun, MomentOf, machine_in}
use Rattle.run_recovery.specs.Several.{members_left}

-- At a moment of the run, behind the events that were recorded by then, what the crash left recovers. By then the output had taken the
-- lines of the replies of these events, and perhaps a front of one more; and each transaction of which a whole line of it says that it
-- committed is among those that are recovered.
pub record RecoversThen (r : TheRun) (events : List Event) (before taken : Option (List ℕ)) (images : ℕ → List ℕ) : Type 0 where
  pub moment : MomentOf r
  pub so_far : moment.events ≡ events
  pub recovers : Recovers r.work.program r moment images
  pub output : OutputStands (machine_in r) moment.events before taken
  pub told : ToldAreAmong before taken (members_left recovers)
