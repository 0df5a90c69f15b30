use Rattle.snap_hand.proofs.Held.{ring_there}
use Rattle.snap_hand.proofs.on_ring.pass_refusal.Goals as goal

pub ring-requires : goal.ring-requires
ring-requires c = ring_there c.args.hand.now c.requires.asked.parts.0

pub returns : goal.returns
returns c s r f = c.pass_refusal.ensures _ s r (f.ring _ c.ring.ensures)
