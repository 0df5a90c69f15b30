use Rattle.std.proofs.lemmas.Result.{err_from_is_err_and}
use Rattle.aml_tree.specs.Tree.{expression_tree}
use Rattle.aml_resolver.specs.Faults.{faults}
use Rattle.aml_resolver.proofs.Chains.{mapped_refuse}
use Rattle.aml_resolver.proofs.expressions.arguments.Goals as goal

pub returns-in_err-resolved : goal.returns-in_err-resolved
returns-in_err-resolved c =
    let p = err_from_is_err_and c.from_residual.result c.from_residual.ensures.1 in
    rw (p.1, p.2) (mapped_refuse (faults c.args.names.now) expression_tree c.args.values.now c.loop-value.value-index c.value-item.result c.in_err-resolved.field-0.0 c.loop-value-test.true c.value-item.is c.loop-value.invariant.faultless c.in_err-resolved.ensures)
