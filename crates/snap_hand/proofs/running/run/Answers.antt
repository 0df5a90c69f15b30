use Rattle.std.proofs.Common.{◌≡◌, Some, length, refl, sym, ap, subst, ◌∙◌, rules}
use Rattle.aml_check.specs.Checked.{methods_of}
use Rattle.aml_slice.specs.Controls.{IsRest}
use Rattle.core_rows.specs.Showing.{ShowsCell}
use Rattle.machine_laws.specs.MethodCode.{method_code}
use Rattle.protocol.specs.Meant.{next_meant}
use Rattle.protocol.specs.Effects.{after}
use Rattle.protocol.specs.Events.{Run}
use Rattle.protocol.specs.OnCell.{is_through}
use Rattle.snap_hand.specs.Hands.{Fits, IsHandOf, are_there}
use Rattle.snap_hand.specs.Tables.{fixed_of}
use Rattle.snap_hand.proofs.AtActors.{cell_held, place_kept, refused_first}
use Rattle.snap_hand.proofs.Refits.{cell_back, hand_with_cell, there_with_cell}
use Rattle.snap_hand.proofs.SlicesHere.{waits_may_run, sliced_so, put_back, same_cell}
use Rattle.snap_hand.proofs.Stepping.{of_run, stepped_freely}
use Rattle.snap_hand.proofs.InBoxes.{lent_cell}
use Rattle.snap_hand.proofs.running.run.Goals as goal

pub returns-then-not-has_actor : goal.returns-then-not-has_actor
returns-then-not-has_actor c =
    let w = fixed_of c.args.tables.now in
    refused_first w (Run c.args.t.0 c.args.a.0) c.args.hand.now c.args.a.0 _ c.requires.asked (λ s. c.nothing_happens_nowhere.ensures.run w s c.args.t.0 c.args.a.0) c.rows_may.ensures c.has_actor.ensures c.if-not-has_actor.true

pub take_cell-cell-requires : goal.take_cell-cell-requires
take_cell-cell-requires c = cell_held (fixed_of c.args.tables.now) c.args.hand.now c.args.a.0 _ c.requires.asked.places c.requires.asked.parts.0 c.has_actor.ensures c.if-not-has_actor.false

pub run-step-requires-clause-of_run : goal.run-step-requires-clause-of_run
run-step-requires-clause-of_run c =
    of_run (fixed_of c.args.tables.now) c.args.hand.now (λ w s. ShowsCell c.args.a.0 c.deref_mut.result.now s) (λ s f. f.cells c.args.a.0 _ (lent_cell _ _ _ c.take_cell-cell.ensures.there c.deref_mut.ensures.value)) c.requires.asked.some

-- the control that waits is a rest of the program
pub run-step-requires-clause-callable : goal.run-step-requires-clause-callable
run-step-requires-clause-callable c x waits state now =
    let p = methods_of c.args.tables.now.work.program in
    let may : IsRest p c.actors_of-actors.result x.control =
    subst (λ n. IsRest p n x.control) (sym c.actors_of-actors.ensures)
    (waits_may_run c.args.tables.now c.requires.asked.some.state c.args.t.0 c.args.a.0 c.deref_mut.result.now.cell x c.requires.tables c.controls_may_run.ensures c.requires.asked.some.run
    (c.requires.asked.some.fits.cells c.args.a.0 _ (lent_cell _ _ _ c.take_cell-cell.ensures.there c.deref_mut.ensures.value)) waits)
    in search rules

pub put_cell-requires : goal.put_cell-requires
put_cell-requires c = place_kept c.args.hand.now c.take_cell-cell.new.self c.take_cell-cell.new.self c.args.a.0 _ c.take_cell-cell.ensures.there c.take_cell-cell.ensures.taken refl

pub returns : goal.returns
unfolding after
returns c =
    let w = fixed_of c.args.tables.now in
    let put = put_back c.args.hand.now c.take_cell-cell.new.self c.put_cell.new.self c.args.a.0 c.run-step.new.cell.cell c.take_cell-cell.ensures.taken c.put_cell.ensures in
    let there = (lent_cell _ _ _ c.take_cell-cell.ensures.there c.deref_mut.ensures.value) in
    stepped_freely w (Run c.args.t.0 c.args.a.0) c.args.hand.now c.put_cell.new.self (λ w s. ShowsCell c.args.a.0 c.deref_mut.result.now s) _ _ c.run-step.result
    (λ s f. f.cells c.args.a.0 _ there)
    c.run-step.ensures.rule
    c.run-step.ensures.ok
    (λ taken. (
      λ s r f. (
          let shows = f.cells c.args.a.0 _ there in
          let did = taken w s r (
            (λ x waits state left next through now called.
                let p = methods_of c.args.tables.now.work.program in
                let actors = c.actors_of-actors.result in
                let ran : (method_code p actors).slice x.control state.now ≡ record { state = left.now; next = next_meant next } = search rules in
                let told : is_through (method_code p actors) c.args.a.0 (next_meant next) ≡ through = search rules in
                sliced_so p actors (length c.args.tables.now.opening.states) c.args.a.0 x.control state.now c.deref_mut.result.now.cell.state left.now (next_meant next) through c.actors_of-actors.ensures now ran told),
            shows,
          ) in
          (did.0, subst (λ h. Fits h (after w (Run c.args.t.0 c.args.a.0) s)) (sym put) (cell_back c.args.hand.now s f c.args.a.0 c.run-step.new.cell.cell _ did.1))),
      subst (IsHandOf w) (sym put) (hand_with_cell w c.args.hand.now c.requires.asked.places c.args.a.0 (Some c.run-step.new.cell.cell)),
      ap are_there put ∙ there_with_cell c.args.hand.now c.args.a.0 c.run-step.new.cell.cell c.deref_mut.result.now.cell there,
    ))
    c.run-step.ensures.no
    c.run-step.ensures.unchanged
    (λ same. same_cell c.args.hand.now c.put_cell.new.self c.args.a.0 c.deref_mut.result.now.cell c.run-step.new.cell.cell there put (ap (λ x. x.cell) same))
