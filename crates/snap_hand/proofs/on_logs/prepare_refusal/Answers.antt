use Rattle.snap_hand.proofs.Held.{book_there}
use Rattle.snap_hand.proofs.on_logs.prepare_refusal.Goals as goal

pub book-requires : goal.book-requires
book-requires c = book_there c.args.hand.now c.requires.asked.parts.0

pub returns : goal.returns
returns c s r f = c.prepare_refusal.ensures _ s r (f.book _ c.book.ensures)
