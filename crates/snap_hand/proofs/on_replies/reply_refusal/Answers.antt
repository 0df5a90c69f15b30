use Rattle.snap_hand.proofs.Held.{book_there, desk_there}
use Rattle.snap_hand.proofs.on_replies.reply_refusal.Goals as goal

pub book-requires : goal.book-requires
book-requires c = book_there c.args.hand.now c.requires.asked.parts.0

pub desk-requires : goal.desk-requires
desk-requires c = desk_there c.args.hand.now c.requires.asked.parts.1.0

pub returns : goal.returns
returns c s r f = c.reply_refusal.ensures _ s r (f.book _ c.book.ensures, f.desk _ c.desk.ensures)
