use Rattle.snap_hand.specs.Tables.{fixed_of}
use Rattle.snap_hand.proofs.Held.{desk_there}
use Rattle.snap_hand.proofs.LogSteps.{log_shown}
use Rattle.snap_hand.proofs.on_logs.note_refusal.Goals as goal
use Rattle.snap_hand.proofs.Begins.{log_is_there}

pub desk-requires : goal.desk-requires
desk-requires c = desk_there c.args.hand.now c.requires.asked.parts.0

pub log-requires : goal.log-requires
log-requires c = log_is_there (fixed_of c.args.tables.now) c.args.hand.now c.args.a.0 c.log_of-place.result c.requires.tables.accepted c.requires.asked.places c.log_of-place.ensures c.requires.asked.parts.1.0

pub returns : goal.returns
returns c s r f = c.note_refusal.ensures (fixed_of c.args.tables.now) s r (f.desk _ c.desk.ensures, log_shown c.args.hand.now s f c.log_of-place.result _ c.log_of-place.ensures c.log.result.now c.log.ensures)
