use Rattle.std.proofs.Common.{slice_get, refl, ap, ◌∙◌}
use Rattle.protocol.specs.Effects.{after}
use Rattle.protocol.specs.Events.{Trim}
use Rattle.snap_hand.specs.Tables.{fixed_of}
use Rattle.snap_hand.proofs.AtActors.{cell_held, desk_and_cell_shown, err_same, on_desk_and_cell, place_kept, refused_at_none, trims_somewhere}
use Rattle.snap_hand.proofs.Held.{desk_there}
use Rattle.snap_hand.proofs.InBoxes.{lent, lent_cell}
use Rattle.snap_hand.proofs.on_actors.trim.Goals as goal

pub returns-then-not-has_actor : goal.returns-then-not-has_actor
returns-then-not-has_actor c =
    refused_at_none (fixed_of c.args.tables.now) (Trim c.args.k.0 c.args.a.0) c.args.hand.now c.args.a.0 _ _ c.requires.asked (trims_somewhere (fixed_of c.args.tables.now) c.args.k.0 c.args.a.0) c.numbers_are_in_range.ensures c.allowed_or_refused.ensures c.has_actor.ensures c.if-not-has_actor.true c.trim_refusal-rule.ensures

pub take_desk-desk-requires : goal.take_desk-desk-requires
take_desk-desk-requires c = desk_there c.args.hand.now c.requires.asked.parts.0

pub take_cell-cell-requires : goal.take_cell-cell-requires
take_cell-cell-requires c =
    let x = cell_held (fixed_of c.args.tables.now) c.args.hand.now c.args.a.0 _ c.requires.asked.places c.requires.asked.parts.1.0 c.has_actor.ensures c.if-not-has_actor.false in
    (x.0, ap (λ z. slice_get z.cells c.args.a.0) c.take_desk-desk.ensures.taken ∙ x.1)

pub trim-step-requires : goal.trim-step-requires
trim-step-requires c = desk_and_cell_shown (fixed_of c.args.tables.now) c.args.hand.now c.take_desk-desk.new.self c.args.a.0 c.deref_mut.result.now c.deref_mut-2.result.now c.requires.asked.some (lent _ _ _ c.take_desk-desk.ensures.there c.deref_mut.ensures.value) c.take_desk-desk.ensures.taken (lent_cell _ _ _ c.take_cell-cell.ensures.there c.deref_mut-2.ensures.value)

pub put_cell-requires : goal.put_cell-requires
put_cell-requires c = place_kept c.take_desk-desk.new.self c.take_cell-cell.new.self c.put_desk.new.self c.args.a.0 _ c.take_cell-cell.ensures.there c.take_cell-cell.ensures.taken (ap (λ z. z.cells) c.put_desk.ensures)

pub returns : goal.returns
unfolding after
returns c =
    on_desk_and_cell (fixed_of c.args.tables.now) (Trim c.args.k.0 c.args.a.0) c.args.hand.now c.take_desk-desk.new.self c.take_cell-cell.new.self c.put_desk.new.self c.put_cell.new.self c.args.a.0
    c.deref_mut.result.now c.trim-step.new.desk c.deref_mut-2.result.now c.trim-step.new.cell _ c.trim-step.result
    (λ s. refl) c.requires.asked.places
    (lent _ _ _ c.take_desk-desk.ensures.there c.deref_mut.ensures.value) c.take_desk-desk.ensures.taken (lent_cell _ _ _ c.take_cell-cell.ensures.there c.deref_mut-2.ensures.value) c.take_cell-cell.ensures.taken
    c.put_desk.ensures c.put_cell.ensures
    c.trim-step.ensures.ok c.trim-step.ensures.no c.trim-step.ensures.rule c.trim-step.ensures.desk (err_same (λ z. z.cell) _ _ _ c.trim-step.ensures.cell)
