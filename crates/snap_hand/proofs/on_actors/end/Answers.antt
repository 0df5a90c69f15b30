use Rattle.std.proofs.Common.{slice_get, refl, ap, ◌∙◌}
use Rattle.protocol.specs.Effects.{after}
use Rattle.protocol.specs.Events.{End}
use Rattle.snap_hand.specs.Tables.{fixed_of}
use Rattle.snap_hand.proofs.AtActors.{book_desk_and_cell_shown, cell_held, err_same, on_book_desk_and_cell, place_kept, refused_first}
use Rattle.snap_hand.proofs.Held.{book_there, desk_there}
use Rattle.snap_hand.proofs.InBoxes.{lent, lent_cell}
use Rattle.snap_hand.proofs.on_actors.end.Goals as goal

pub returns-then-not-has_actor : goal.returns-then-not-has_actor
returns-then-not-has_actor c =
    refused_first (fixed_of c.args._tables.now) (End c.args.t.0 c.args.a.0) c.args.hand.now c.args.a.0 _ c.requires.asked (λ s. c.nothing_happens_nowhere.ensures.end (fixed_of c.args._tables.now) s c.args.t.0 c.args.a.0) c.rows_may.ensures c.has_actor.ensures c.if-not-has_actor.true

pub take_book-book-requires : goal.take_book-book-requires
take_book-book-requires c = book_there c.args.hand.now c.requires.asked.parts.0

pub take_desk-desk-requires : goal.take_desk-desk-requires
take_desk-desk-requires c = let x = desk_there c.args.hand.now c.requires.asked.parts.1.0 in (x.0, ap (λ z. z.desk) c.take_book-book.ensures.taken ∙ x.1)

pub take_cell-cell-requires : goal.take_cell-cell-requires
take_cell-cell-requires c =
    let x = cell_held (fixed_of c.args._tables.now) c.args.hand.now c.args.a.0 _ c.requires.asked.places c.requires.asked.parts.1.1.0 c.has_actor.ensures c.if-not-has_actor.false in
    (x.0, ap (λ z. slice_get z.cells c.args.a.0) c.take_desk-desk.ensures.taken ∙ (ap (λ z. slice_get z.cells c.args.a.0) c.take_book-book.ensures.taken ∙ x.1))

pub end-step-requires : goal.end-step-requires
end-step-requires c = book_desk_and_cell_shown (fixed_of c.args._tables.now) c.args.hand.now c.take_book-book.new.self c.take_desk-desk.new.self c.args.a.0 c.deref_mut.result.now c.deref_mut-2.result.now c.deref_mut-3.result.now c.requires.asked.some (lent _ _ _ c.take_book-book.ensures.there c.deref_mut.ensures.value) c.take_book-book.ensures.taken (lent _ _ _ c.take_desk-desk.ensures.there c.deref_mut-2.ensures.value) c.take_desk-desk.ensures.taken (lent_cell _ _ _ c.take_cell-cell.ensures.there c.deref_mut-3.ensures.value)

pub put_cell-requires : goal.put_cell-requires
put_cell-requires c = place_kept c.take_desk-desk.new.self c.take_cell-cell.new.self c.put_desk.new.self c.args.a.0 _ c.take_cell-cell.ensures.there c.take_cell-cell.ensures.taken (ap (λ z. z.cells) c.put_desk.ensures ∙ ap (λ z. z.cells) c.put_book.ensures)

pub returns : goal.returns
unfolding after
returns c =
    on_book_desk_and_cell (fixed_of c.args._tables.now) (End c.args.t.0 c.args.a.0) c.args.hand.now c.take_book-book.new.self c.take_desk-desk.new.self c.take_cell-cell.new.self c.put_book.new.self c.put_desk.new.self c.put_cell.new.self c.args.a.0
    c.deref_mut.result.now c.end-step.new.book c.deref_mut-2.result.now c.end-step.new.desk c.deref_mut-3.result.now c.end-step.new.cell _ c.end-step.result
    (λ s. refl) c.requires.asked.places refl
    (lent _ _ _ c.take_book-book.ensures.there c.deref_mut.ensures.value) c.take_book-book.ensures.taken (lent _ _ _ c.take_desk-desk.ensures.there c.deref_mut-2.ensures.value) c.take_desk-desk.ensures.taken (lent_cell _ _ _ c.take_cell-cell.ensures.there c.deref_mut-3.ensures.value) c.take_cell-cell.ensures.taken
    c.put_book.ensures c.put_desk.ensures c.put_cell.ensures
    c.end-step.ensures.ok c.end-step.ensures.room c.end-step.ensures.no c.end-step.ensures.book c.end-step.ensures.desk (err_same (λ z. z.cell) _ _ _ c.end-step.ensures.cell)
