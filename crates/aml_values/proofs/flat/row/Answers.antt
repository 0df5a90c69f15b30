use Rattle.std.proofs.Common.{rules, w64, FitsSigned, arith}
use Rattle.std.proofs.lemmas.Int.{to_z-of_z}
use Rattle.aml_flat.specs.Flat.{operand_tree}
use Rattle.aml_values.proofs.RowValues.{whole_value}
use Rattle.aml_values.proofs.flat.row.Goals as goal

pub loop-at-init : goal.loop-at-init
loop-at-init c =
    let first : FitsSigned w64 c.operand-so_far.result = search rules in
    (rw (to_z-of_z w64 c.operand-so_far.result first) (whole_value c.args.own c.args.variables.now c.args.state.now (operand_tree c.args.first) c.operand-so_far.result c.args.parts.now c.operand-so_far.ensures), omega arith)
