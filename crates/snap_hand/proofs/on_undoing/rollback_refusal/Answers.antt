use Rattle.snap_hand.specs.Tables.{fixed_of}
use Rattle.snap_hand.proofs.AtActors.{cell_held}
use Rattle.snap_hand.proofs.Nowhere.{no_actor}
use Rattle.snap_hand.proofs.Held.{book_there}
use Rattle.snap_hand.proofs.on_undoing.rollback_refusal.Goals as goal

pub returns-then-not-has_actor : goal.returns-then-not-has_actor
returns-then-not-has_actor c s r f =
    c.nothing_happens_nowhere.ensures.rollback (fixed_of c.args._tables.now) s c.args.a.0 (no_actor (fixed_of c.args._tables.now) s c.args.hand.now c.args.a.0 _ (c.rows_may.ensures (fixed_of c.args._tables.now) s r) c.requires.asked.places c.has_actor.ensures c.if-not-has_actor.true)

pub book-requires : goal.book-requires
book-requires c = book_there c.args.hand.now c.requires.asked.parts.0

pub cell-requires : goal.cell-requires
cell-requires c = cell_held (fixed_of c.args._tables.now) c.args.hand.now c.args.a.0 _ c.requires.asked.places c.requires.asked.parts.1.0 c.has_actor.ensures c.if-not-has_actor.false

pub returns : goal.returns
returns c s r f = c.rollback_refusal.ensures _ s r (f.book _ c.book.ensures, f.cells _ _ c.cell.ensures)
