use Rattle.std.proofs.Common.{length, rules, w64, FitsSigned, arith, ap, ◌∙◌}
use Rattle.std.proofs.lemmas.Int.{to_z-of_z}
use Rattle.std.proofs.lemmas.List.{length-append}
use Rattle.aml_flat.specs.Flat.{flat_tree}
use Rattle.aml_check.specs.Closed.{IsClosedExpression}
use Rattle.aml_values.proofs.RowValues.{view_at}
use Rattle.aml_resume.proofs.Passing.{values_next}
use Rattle.aml_resume.proofs.arguments.pass.Goals as goal

pub value-requires-clause-closed : goal.value-requires-clause-closed
value-requires-clause-closed c = view_at (IsClosedExpression (length c.args.variables.now)) flat_tree c.args.es.now c.loop-e.e-index c.e-item.result c.loop-e-test.true c.e-item.is c.requires.closed

pub loop-e-preserved : goal.loop-e-preserved
loop-e-preserved c =
    let fits : FitsSigned w64 c.in_ok-next.next = search rules in
    let new = rw to_z-of_z at c.put_value.ensures.items in
    record {
      so_far = values_next c.args.own c.args.variables.now c.args.state.now c.args.es.now c.loop-e.arguments.items c.put_value.new.values.items c.loop-e.e-index c.e-item.result c.in_ok-next.next c.loop-e-test.true c.e-item.is c.in_ok-next.ensures new c.loop-e.invariant.so_far;
      each = ap length new ∙ (simp length-append (omega (arith, c.loop-e.invariant.each)));
      room = c.put_value.ensures.room ∙ c.loop-e.invariant.room;
    }
