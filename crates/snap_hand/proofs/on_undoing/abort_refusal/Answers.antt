use Rattle.snap_hand.proofs.Held.{desk_there}
use Rattle.snap_hand.proofs.on_undoing.abort_refusal.Goals as goal

pub desk-requires : goal.desk-requires
desk-requires c = desk_there c.args.hand.now c.requires.asked.parts.1.1.0

pub returns : goal.returns
returns c s r f = c.abort_refusal.ensures _ s r (f.desk _ c.desk.ensures)
