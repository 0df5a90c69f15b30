use Rattle.snap_hand.proofs.Held.{book_there, post_there}
use Rattle.snap_hand.proofs.on_undoing.drop_sub_refusal.Goals as goal

pub book-requires : goal.book-requires
book-requires c = book_there c.args.hand.now c.requires.asked.parts.0

pub post-requires : goal.post-requires
post-requires c = post_there c.args.hand.now c.requires.asked.parts.1.0

pub returns : goal.returns
returns c s r f = c.drop_sub_refusal.ensures _ s r (f.book _ c.book.ensures, f.post _ c.post.ensures)
