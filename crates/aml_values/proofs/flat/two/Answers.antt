use Rattle.std.proofs.Common.{◌∙◌, rules, FitsSigned, w64}
use Rattle.std.proofs.lemmas.Int.{to_z-of_z}
use Rattle.aml_flat.specs.Flat.{operand_tree}
use Rattle.aml_values.proofs.TwoValues.{two_value}
use Rattle.aml_values.proofs.flat.two.Goals as goal

pub returns : goal.returns
returns c =
    let left : FitsSigned w64 c.operand-first.result = search rules in
    let right : FitsSigned w64 c.operand-second.result = search rules in
    (rw (to_z-of_z w64 c.operand-first.result left, to_z-of_z w64 c.operand-second.result right) at c.joined.ensures) ∙ two_value c.args.own c.args.variables.now c.args.state.now c.args.operator (operand_tree c.args.left) (operand_tree c.args.right) c.operand-first.result c.operand-second.result c.operand-first.ensures c.operand-second.ensures
