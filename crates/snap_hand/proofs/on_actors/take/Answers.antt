use Rattle.std.proofs.Common.{slice_get, refl, ap, ◌∙◌}
use Rattle.protocol.specs.Effects.{after}
use Rattle.protocol.specs.Events.{Take}
use Rattle.snap_hand.specs.Tables.{fixed_of}
use Rattle.snap_hand.proofs.AtActors.{cell_held, err_same, never_taken, on_post_and_cell, place_kept, post_and_cell_shown, refused_nowhere}
use Rattle.snap_hand.proofs.Held.{post_there}
use Rattle.snap_hand.proofs.InBoxes.{lent_cell, lent_post}
use Rattle.snap_hand.proofs.on_actors.take.Goals as goal

pub returns-then-not-has_actor : goal.returns-then-not-has_actor
returns-then-not-has_actor c =
    refused_nowhere (fixed_of c.args.tables.now) (Take c.args.t.0 c.args.a.0) c.args.hand.now c.args.a.0 _ _ c.requires.asked (never_taken (fixed_of c.args.tables.now) c.args.t.0 c.args.a.0) c.rows_may.ensures c.allowed_or_refused.ensures c.has_actor.ensures c.if-not-has_actor.true c.take_refusal-rule.ensures

pub take_post-post-requires : goal.take_post-post-requires
take_post-post-requires c = post_there c.args.hand.now c.requires.asked.parts.0

pub take_cell-cell-requires : goal.take_cell-cell-requires
take_cell-cell-requires c =
    let x = cell_held (fixed_of c.args.tables.now) c.args.hand.now c.args.a.0 _ c.requires.asked.places c.requires.asked.parts.1.0 c.has_actor.ensures c.if-not-has_actor.false in
    (x.0, ap (λ z. slice_get z.cells c.args.a.0) c.take_post-post.ensures.taken ∙ x.1)

pub take-step-requires : goal.take-step-requires
take-step-requires c = post_and_cell_shown (fixed_of c.args.tables.now) c.args.hand.now c.take_post-post.new.self c.args.a.0 c.deref_mut.result.now c.deref_mut-2.result.now c.requires.asked.some (lent_post _ _ _ c.take_post-post.ensures.there c.deref_mut.ensures.value) c.take_post-post.ensures.taken (lent_cell _ _ _ c.take_cell-cell.ensures.there c.deref_mut-2.ensures.value)

pub put_cell-requires : goal.put_cell-requires
put_cell-requires c = place_kept c.take_post-post.new.self c.take_cell-cell.new.self c.put_post.new.self c.args.a.0 _ c.take_cell-cell.ensures.there c.take_cell-cell.ensures.taken (ap (λ z. z.cells) c.put_post.ensures)

pub returns : goal.returns
unfolding after
returns c =
    on_post_and_cell (fixed_of c.args.tables.now) (Take c.args.t.0 c.args.a.0) c.args.hand.now c.take_post-post.new.self c.take_cell-cell.new.self c.put_post.new.self c.put_cell.new.self c.args.a.0
    c.deref_mut.result.now c.take-step.new.post c.deref_mut-2.result.now c.take-step.new.cell _ c.take-step.result
    (λ s. refl) c.requires.asked.places refl
    (lent_post _ _ _ c.take_post-post.ensures.there c.deref_mut.ensures.value) c.take_post-post.ensures.taken (lent_cell _ _ _ c.take_cell-cell.ensures.there c.deref_mut-2.ensures.value) c.take_cell-cell.ensures.taken
    c.put_post.ensures c.put_cell.ensures
    c.take-step.ensures.ok c.take-step.ensures.no (err_same (λ z. z.messages) _ _ _ c.take-step.ensures.post) c.take-step.ensures.cell
