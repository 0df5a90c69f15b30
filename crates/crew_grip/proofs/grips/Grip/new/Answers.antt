use Rattle.std.proofs.Common.{length}
use Rattle.snap_hand.specs.Tables.{fixed_of}
use Rattle.crew_grip.proofs.Beginning.{nothing_yet}
use Rattle.crew_grip.proofs.grips.Grip.new.Goals as goal

pub returns : goal.returns
returns g c held idle =
    nothing_yet (fixed_of c.args.tables.now) c.args.tables.now.work.logs (length c.args.tables.now.opening.states) c.parts_of.result held (record { hand = c.in_ok-hand.hand; besides = c.in_ok-besides.besides.items })
    c.in_ok-hand.ensures.places c.in_ok-hand.ensures.none c.in_ok-besides.ensures c.parts_of.ensures idle
