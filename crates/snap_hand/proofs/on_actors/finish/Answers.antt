use Rattle.std.proofs.Common.{slice_get, refl, ap, ◌∙◌}
use Rattle.protocol.specs.Effects.{after}
use Rattle.protocol.specs.Events.{Finish}
use Rattle.snap_hand.specs.Tables.{fixed_of}
use Rattle.snap_hand.proofs.AtActors.{cell_held, err_same, finishes_somewhere, on_book_and_cell, place_kept, refused_at_none}
use Rattle.snap_hand.proofs.Held.{book_there}
use Rattle.snap_hand.proofs.InBoxes.{lent, lent_cell}
use Rattle.snap_hand.proofs.on_actors.finish.Goals as goal

pub returns-then-not-has_actor : goal.returns-then-not-has_actor
returns-then-not-has_actor c =
    refused_at_none (fixed_of c.args.tables.now) (Finish c.args.t.0 c.args.a.0) c.args.hand.now c.args.a.0 _ _ c.requires.asked (finishes_somewhere (fixed_of c.args.tables.now) c.args.t.0 c.args.a.0) c.numbers_are_in_range.ensures c.allowed_or_refused.ensures c.has_actor.ensures c.if-not-has_actor.true c.finish_refusal-rule.ensures

pub take_book-book-requires : goal.take_book-book-requires
take_book-book-requires c = book_there c.args.hand.now c.requires.asked.parts.0

pub take_cell-cell-requires : goal.take_cell-cell-requires
take_cell-cell-requires c =
    let x = cell_held (fixed_of c.args.tables.now) c.args.hand.now c.args.a.0 _ c.requires.asked.places c.requires.asked.parts.1.0 c.has_actor.ensures c.if-not-has_actor.false in
    (x.0, ap (λ z. slice_get z.cells c.args.a.0) c.take_book-book.ensures.taken ∙ x.1)

pub put_cell-requires : goal.put_cell-requires
put_cell-requires c = place_kept c.take_book-book.new.self c.take_cell-cell.new.self c.put_book.new.self c.args.a.0 _ c.take_cell-cell.ensures.there c.take_cell-cell.ensures.taken (ap (λ z. z.cells) c.put_book.ensures)

pub returns : goal.returns
unfolding after
returns c =
    on_book_and_cell (fixed_of c.args.tables.now) (Finish c.args.t.0 c.args.a.0) c.args.hand.now c.take_book-book.new.self c.take_cell-cell.new.self c.put_book.new.self c.put_cell.new.self c.args.a.0
    c.deref_mut.result.now c.finish-step.new.book c.deref_mut-2.result.now c.finish-step.new.cell _ c.finish-step.result
    (λ s. refl) c.requires.asked.places
    (lent _ _ _ c.take_book-book.ensures.there c.deref_mut.ensures.value) c.take_book-book.ensures.taken (lent_cell _ _ _ c.take_cell-cell.ensures.there c.deref_mut-2.ensures.value) c.take_cell-cell.ensures.taken
    c.put_book.ensures c.put_cell.ensures
    c.finish-step.ensures.ok c.finish-step.ensures.room c.finish-step.ensures.no c.finish-step.ensures.rule c.finish-step.ensures.book (err_same (λ z. z.cell) _ _ _ c.finish-step.ensures.cell)
