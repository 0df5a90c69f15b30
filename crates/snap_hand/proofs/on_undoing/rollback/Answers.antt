use Rattle.std.proofs.Common.{Some, slice_get, refl, sym, ap, ◌∙◌}
use Rattle.protocol.specs.Effects.{after}
use Rattle.protocol.specs.Events.{Rollback}
use Rattle.snap_hand.specs.Tables.{fixed_of}
use Rattle.snap_hand.proofs.AtActors.{cell_held, err_nothing, err_same, on_book_and_cell, place_kept, refused_first}
use Rattle.snap_hand.proofs.Held.{book_there}
use Rattle.snap_hand.proofs.Stepping.{of_run}
use Rattle.snap_hand.proofs.InBoxes.{lent, lent_cell}
use Rattle.snap_hand.proofs.on_undoing.rollback.Goals as goal

pub returns-then-not-has_actor : goal.returns-then-not-has_actor
returns-then-not-has_actor c =
    refused_first (fixed_of c.args._tables.now) (Rollback c.args.a.0) c.args.hand.now c.args.a.0 _ c.requires.asked (λ s. c.nothing_happens_nowhere.ensures.rollback (fixed_of c.args._tables.now) s c.args.a.0) c.rows_may.ensures c.has_actor.ensures c.if-not-has_actor.true

pub take_book-book-requires : goal.take_book-book-requires
take_book-book-requires c = book_there c.args.hand.now c.requires.asked.parts.0

pub take_cell-cell-requires : goal.take_cell-cell-requires
take_cell-cell-requires c =
    let x = cell_held (fixed_of c.args._tables.now) c.args.hand.now c.args.a.0 _ c.requires.asked.places c.requires.asked.parts.1.0 c.has_actor.ensures c.if-not-has_actor.false in
    (x.0, ap (λ z. slice_get z.cells c.args.a.0) c.take_book-book.ensures.taken ∙ x.1)

pub rollback-step-requires : goal.rollback-step-requires
rollback-step-requires c =
    let here = sym (ap (λ z. slice_get z.cells c.args.a.0) c.take_book-book.ensures.taken) ∙ (lent_cell _ _ _ c.take_cell-cell.ensures.there c.deref_mut.ensures.value) in
    of_run (fixed_of c.args._tables.now) c.args.hand.now _ (λ s f. (f.book _ (lent _ _ _ c.take_book-book.ensures.there c.deref.ensures), f.cells _ _ here)) c.requires.asked.some

pub put_cell-requires : goal.put_cell-requires
put_cell-requires c = place_kept c.take_book-book.new.self c.take_cell-cell.new.self c.put_book.new.self c.args.a.0 _ c.take_cell-cell.ensures.there c.take_cell-cell.ensures.taken (ap (λ z. z.cells) c.put_book.ensures)

pub returns : goal.returns
unfolding after
returns c =
    on_book_and_cell (fixed_of c.args._tables.now) (Rollback c.args.a.0) c.args.hand.now c.take_book-book.new.self c.take_cell-cell.new.self c.put_book.new.self c.put_cell.new.self c.args.a.0
    c.deref.result.now c.deref.result.now c.deref_mut.result.now c.rollback-step.new.cell _ c.rollback-step.result
    (λ s. refl) c.requires.asked.places
    (lent _ _ _ c.take_book-book.ensures.there c.deref.ensures) c.take_book-book.ensures.taken (lent_cell _ _ _ c.take_cell-cell.ensures.there c.deref_mut.ensures.value) c.take_cell-cell.ensures.taken
    (c.put_book.ensures ∙ ap (λ x. record c.take_cell-cell.new.self { book = Some x }) (sym c.deref.ensures)) c.put_cell.ensures
    c.rollback-step.ensures.ok refl c.rollback-step.ensures.no c.rollback-step.ensures.rule (err_nothing _ _) (err_same (λ z. z.cell) _ _ _ c.rollback-step.ensures.unchanged)
