use Rattle.snap_hand.specs.Tables.{fixed_of, text_of}
use Rattle.snap_hand.proofs.Held.{cell_there}
use Rattle.snap_hand.proofs.Nowhere.{below, no_actor}
use Rattle.snap_hand.proofs.on_logs.complete_refusal.Goals as goal

pub returns-then-not-has_actor : goal.returns-then-not-has_actor
returns-then-not-has_actor c s r f = c.nothing_happens_nowhere.ensures.complete (fixed_of c.args._tables.now) s c.args.k.0 c.args.a.0 (no_actor (fixed_of c.args._tables.now) s c.args.hand.now c.args.a.0 c.has_actor.result (c.rows_may.ensures (fixed_of c.args._tables.now) s r) c.requires.asked.places c.has_actor.ensures c.if-not-has_actor.true)

pub cell-requires : goal.cell-requires
cell-requires c = cell_there c.args.hand.now (text_of c.args._tables.now).logs c.args.a.0 c.requires.asked.places.logs c.requires.asked.parts.1.0 (below c.args.a.0 _ c.has_actor.result c.has_actor.ensures c.if-not-has_actor.false)

pub returns : goal.returns
returns c s r f = c.complete_refusal.ensures _ s r (f.cells c.args.a.0 _ c.cell.ensures)
