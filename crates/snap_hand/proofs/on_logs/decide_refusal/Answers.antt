use Rattle.snap_hand.specs.Tables.{fixed_of}
use Rattle.snap_hand.proofs.Held.{book_there, desk_there}
use Rattle.snap_hand.proofs.on_logs.decide_refusal.Goals as goal

pub book-requires : goal.book-requires
book-requires c = book_there c.args.hand.now c.requires.asked.parts.0

pub desk-requires : goal.desk-requires
desk-requires c = desk_there c.args.hand.now c.requires.asked.parts.1.0

pub returns : goal.returns
returns c s r f = c.decide_refusal.ensures (fixed_of c.args.tables.now) s r (c.base-first.ensures, f.book _ c.book.ensures, f.desk _ c.desk.ensures)
