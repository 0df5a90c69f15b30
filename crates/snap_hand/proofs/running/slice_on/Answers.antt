use Rattle.std.proofs.Common.{sym, ap}
use Rattle.machine_laws.specs.MethodCode.{as_sliced}
use Rattle.snap_hand.proofs.running.slice_on.Goals as goal

pub returns-clause-slice : goal.returns-clause-slice
returns-clause-slice c = ap as_sliced (sym c.slice-next.ensures.exactly)
