use Rattle.std.proofs.Common.{slice_get, refl, ap, ◌∙◌}
use Rattle.protocol.specs.Effects.{after}
use Rattle.protocol.specs.Events.{Ask}
use Rattle.snap_hand.specs.Tables.{fixed_of}
use Rattle.snap_hand.proofs.AtActors.{book_post_and_cell_shown, cell_held, err_same, never_asks, on_book_post_and_cell, place_kept, refused_nowhere}
use Rattle.snap_hand.proofs.Held.{book_there, post_there}
use Rattle.snap_hand.proofs.InBoxes.{lent, lent_cell, lent_post}
use Rattle.snap_hand.proofs.on_actors.ask.Goals as goal

pub returns-then-not-has_actor : goal.returns-then-not-has_actor
returns-then-not-has_actor c =
    refused_nowhere (fixed_of c.args.tables.now) (Ask c.args.t.0 c.args.a.0) c.args.hand.now c.args.a.0 _ _ c.requires.asked (never_asks (fixed_of c.args.tables.now) c.args.t.0 c.args.a.0) c.rows_may.ensures c.allowed_or_refused.ensures c.has_actor.ensures c.if-not-has_actor.true c.ask_refusal-rule.ensures

pub take_book-book-requires : goal.take_book-book-requires
take_book-book-requires c = book_there c.args.hand.now c.requires.asked.parts.0

pub take_post-post-requires : goal.take_post-post-requires
take_post-post-requires c = let x = post_there c.args.hand.now c.requires.asked.parts.1.0 in (x.0, ap (λ z. z.post) c.take_book-book.ensures.taken ∙ x.1)

pub take_cell-cell-requires : goal.take_cell-cell-requires
take_cell-cell-requires c =
    let x = cell_held (fixed_of c.args.tables.now) c.args.hand.now c.args.a.0 _ c.requires.asked.places c.requires.asked.parts.1.1.0 c.has_actor.ensures c.if-not-has_actor.false in
    (x.0, ap (λ z. slice_get z.cells c.args.a.0) c.take_post-post.ensures.taken ∙ (ap (λ z. slice_get z.cells c.args.a.0) c.take_book-book.ensures.taken ∙ x.1))

pub ask-step-requires : goal.ask-step-requires
ask-step-requires c = book_post_and_cell_shown (fixed_of c.args.tables.now) c.args.hand.now c.take_book-book.new.self c.take_post-post.new.self c.args.a.0 c.deref_mut.result.now c.deref_mut-2.result.now c.deref_mut-3.result.now c.requires.asked.some (lent _ _ _ c.take_book-book.ensures.there c.deref_mut.ensures.value) c.take_book-book.ensures.taken (lent_post _ _ _ c.take_post-post.ensures.there c.deref_mut-2.ensures.value) c.take_post-post.ensures.taken (lent_cell _ _ _ c.take_cell-cell.ensures.there c.deref_mut-3.ensures.value)

pub put_cell-requires : goal.put_cell-requires
put_cell-requires c = place_kept c.take_post-post.new.self c.take_cell-cell.new.self c.put_post.new.self c.args.a.0 _ c.take_cell-cell.ensures.there c.take_cell-cell.ensures.taken (ap (λ z. z.cells) c.put_post.ensures ∙ ap (λ z. z.cells) c.put_book.ensures)

pub returns : goal.returns
unfolding after
returns c =
    on_book_post_and_cell (fixed_of c.args.tables.now) (Ask c.args.t.0 c.args.a.0) c.args.hand.now c.take_book-book.new.self c.take_post-post.new.self c.take_cell-cell.new.self c.put_book.new.self c.put_post.new.self c.put_cell.new.self c.args.a.0
    c.deref_mut.result.now c.ask-step.new.book c.deref_mut-2.result.now c.ask-step.new.post c.deref_mut-3.result.now c.ask-step.new.cell _ c.ask-step.result
    (λ s. refl) c.requires.asked.places refl
    (lent _ _ _ c.take_book-book.ensures.there c.deref_mut.ensures.value) c.take_book-book.ensures.taken (lent_post _ _ _ c.take_post-post.ensures.there c.deref_mut-2.ensures.value) c.take_post-post.ensures.taken (lent_cell _ _ _ c.take_cell-cell.ensures.there c.deref_mut-3.ensures.value) c.take_cell-cell.ensures.taken
    c.put_book.ensures c.put_post.ensures c.put_cell.ensures
    c.ask-step.ensures.ok c.ask-step.ensures.room c.ask-step.ensures.no c.ask-step.ensures.book (err_same (λ z. z.messages) _ _ _ c.ask-step.ensures.post) c.ask-step.ensures.cell
