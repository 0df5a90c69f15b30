use Rattle.snap_hand.specs.Tables.{fixed_of}
use Rattle.snap_hand.proofs.Held.{ring_there, desk_there}
use Rattle.snap_hand.proofs.beginning.form_refusal.Goals as goal
use Rattle.std.proofs.Common.{refl}

pub ring-requires : goal.ring-requires
ring-requires c = ring_there c.args.hand.now c.requires.asked.parts.0

pub desk-requires : goal.desk-requires
desk-requires c = desk_there c.args.hand.now c.requires.asked.parts.1.1.0

pub returns : goal.returns
returns c s r f = c.form_refusal.ensures (fixed_of c.args.tables.now) s r (refl, f.ring _ c.ring.ensures, f.desk _ c.desk.ensures)
