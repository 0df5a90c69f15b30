use Rattle.std.proofs.Common.{map, ◌++◌}
use Rattle.std.proofs.lemmas.Result.{err_from_is_err_and}
use Rattle.aml_tree.specs.Tree.{expression_tree, method_tree, statement_tree}
use Rattle.aml_resolver.specs.Faults.{faults, promise_faults, block_faults}
use Rattle.aml_resolver.proofs.Chains.{refuses_more, refuses_behind}
use Rattle.aml_resolver.proofs.StatementSteps.{field_goes}
use Rattle.aml_resolver.proofs.statements.field_statement.Goals as goal

pub returns-in_err-promised : goal.returns-in_err-promised
returns-in_err-promised c =
    let p = err_from_is_err_and c.from_residual.result c.from_residual.ensures.1 in
    rw (p.1, p.2) (λ rest. refuses_more (promise_faults c.args.is_read c.args.line) (faults c.args.names.now (expression_tree c.args.value.now) ++ block_faults (map method_tree c.args.methods.now) c.args.is_read c.args.names.now rest) c.in_err-promised.field-0.0 c.in_err-promised.ensures)

pub returns-in_err-resolved : goal.returns-in_err-resolved
returns-in_err-resolved c =
    let p = err_from_is_err_and c.from_residual-in_err-resolved.result c.from_residual-in_err-resolved.ensures.1 in
    rw (p.1, p.2) (λ rest. refuses_behind (promise_faults c.args.is_read c.args.line) (faults c.args.names.now (expression_tree c.args.value.now) ++ block_faults (map method_tree c.args.methods.now) c.args.is_read c.args.names.now rest) c.in_err-resolved.field-0.0 c.in_ok-promised.ensures
    (refuses_more (faults c.args.names.now (expression_tree c.args.value.now)) (block_faults (map method_tree c.args.methods.now) c.args.is_read c.args.names.now rest) c.in_err-resolved.field-0.0 c.in_err-resolved.ensures))

pub returns : goal.returns
returns c = field_goes (map method_tree c.args.methods.now) c.args.is_read c.args.names.now c.args.line c.args.field (expression_tree c.args.value.now) (statement_tree c.field_statement.result) (expression_tree c.in_ok-resolved.resolved) c.in_ok-promised.ensures c.in_ok-resolved.ensures c.field_statement.ensures
