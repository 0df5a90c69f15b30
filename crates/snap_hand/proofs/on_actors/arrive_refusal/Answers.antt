use Rattle.snap_hand.specs.Tables.{fixed_of}
use Rattle.snap_hand.proofs.AtActors.{cell_held}
use Rattle.snap_hand.proofs.Nowhere.{no_actor}
use Rattle.snap_hand.proofs.Held.{book_there, post_there}
use Rattle.snap_hand.proofs.on_actors.arrive_refusal.Goals as goal

pub book-requires : goal.book-requires
book-requires c = book_there c.args.hand.now c.requires.asked.parts.0

pub book-requires-2 : goal.book-requires-2
book-requires-2 c = book_there c.args.hand.now c.requires.asked.parts.0

pub post-requires : goal.post-requires
post-requires c = post_there c.args.hand.now c.requires.asked.parts.1.0

pub post-requires-2 : goal.post-requires-2
post-requires-2 c = post_there c.args.hand.now c.requires.asked.parts.1.0

pub returns-then-not-has_actor : goal.returns-then-not-has_actor
returns-then-not-has_actor c s r f =
    c.arrive_nowhere.ensures _ s r (no_actor (fixed_of c.args._tables.now) s c.args.hand.now c.args.a.0 _ (c.rows_may.ensures (fixed_of c.args._tables.now) s r) c.requires.asked.places c.has_actor.ensures c.if-not-has_actor.true, f.book _ c.book.ensures, f.post _ c.post.ensures)

pub cell-requires : goal.cell-requires
cell-requires c = cell_held (fixed_of c.args._tables.now) c.args.hand.now c.args.a.0 _ c.requires.asked.places c.requires.asked.parts.1.1.0 c.has_actor.ensures c.if-not-has_actor.false

pub returns : goal.returns
returns c s r f = c.arrive_refusal.ensures _ s r (f.book _ c.book-2.ensures, f.post _ c.post-2.ensures, f.cells _ _ c.cell.ensures)
