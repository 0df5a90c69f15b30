use Rattle.std.proofs.Common.{Option, subst, sym}
use Rattle.crew_host.specs.Stops.{IsStopBy}
use Rattle.crew_workers.specs.declared.ends.Fault.{Fault}
use Rattle.snap_hand.specs.Tables.{fixed_of}
use Rattle.crew_host.proofs.drives.stop_of.Goals as goal

pub returns-in-None : goal.returns-in-None
returns-in-None c = λ es at.
    subst (λ (f : Option Fault). IsStopBy (fixed_of c.args.core.now.tables) es f c.quiet_or_memory.result) (sym c.in-None.is) (c.quiet_or_memory.ensures es at)
