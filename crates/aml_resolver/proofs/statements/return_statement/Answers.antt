use Rattle.std.proofs.Common.{map}
use Rattle.std.proofs.lemmas.Result.{err_from_is_err_and}
use Rattle.aml_tree.specs.Tree.{expression_tree, method_tree, statement_tree}
use Rattle.aml_resolver.specs.Faults.{faults, block_faults}
use Rattle.aml_resolver.proofs.Chains.{refuses_more}
use Rattle.aml_resolver.proofs.StatementSteps.{return_goes}
use Rattle.aml_resolver.proofs.statements.return_statement.Goals as goal

pub returns-in_err-resolved : goal.returns-in_err-resolved
returns-in_err-resolved c =
    let p = err_from_is_err_and c.from_residual.result c.from_residual.ensures.1 in
    rw (p.1, p.2) (λ r rest. refuses_more (faults c.args.names.now (expression_tree c.args.value.now)) (block_faults (map method_tree c.args.methods.now) r c.args.names.now rest) c.in_err-resolved.field-0.0 c.in_err-resolved.ensures)

pub returns : goal.returns
returns c = λ r. return_goes (map method_tree c.args.methods.now) r c.args.names.now (expression_tree c.args.value.now) (statement_tree c.return_statement.result) (expression_tree c.in_ok-resolved.resolved) c.in_ok-resolved.ensures c.return_statement.ensures
