use Rattle.std.proofs.Common.{[]}
use Rattle.protocol.specs.Runs.{opening}
use Rattle.snap_hand.specs.Tables.{fixed_of}
use Rattle.snap_core.proofs.cores.Core.open.Goals as goal

pub invariant_of-result : goal.invariant_of-result
invariant_of-result c = record {
  tables = c.requires;
  places = c.in_ok-hand.ensures.places;
  whole = c.in_ok-hand.ensures.whole;
  some = record { state = opening (fixed_of c.args.tables); run = c.runs_lead.ensures [] tt; fits = c.in_ok-hand.ensures.fits };
}
