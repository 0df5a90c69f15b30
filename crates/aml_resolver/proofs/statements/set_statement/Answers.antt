use Rattle.std.proofs.Common.{map, ◌++◌}
use Rattle.std.proofs.lemmas.Result.{err_from_is_err_and}
use Rattle.aml_tree.specs.Tree.{expression_tree, method_tree, statement_tree}
use Rattle.aml_resolver.specs.Faults.{faults, unknown, block_faults}
use Rattle.aml_resolver.proofs.Chains.{refuses_more, refuses_behind}
use Rattle.aml_resolver.proofs.StatementSteps.{set_goes}
use Rattle.aml_resolver.proofs.statements.set_statement.Goals as goal

pub returns-in_err-place : goal.returns-in_err-place
returns-in_err-place c =
    let p = err_from_is_err_and c.from_residual.result c.from_residual.ensures.1 in
    rw (p.1, p.2) (λ r rest. refuses_more (unknown c.args.names.now c.args.word.now) (faults c.args.names.now (expression_tree c.args.value.now) ++ block_faults (map method_tree c.args.methods.now) r c.args.names.now rest) c.in_err-place.field-0.0 c.in_err-place.ensures)

pub returns-in_err-resolved : goal.returns-in_err-resolved
returns-in_err-resolved c =
    let p = err_from_is_err_and c.from_residual-in_err-resolved.result c.from_residual-in_err-resolved.ensures.1 in
    rw (p.1, p.2) (λ r rest. refuses_behind (unknown c.args.names.now c.args.word.now) (faults c.args.names.now (expression_tree c.args.value.now) ++ block_faults (map method_tree c.args.methods.now) r c.args.names.now rest) c.in_err-resolved.field-0.0 c.in_ok-place.ensures.0 (refuses_more (faults c.args.names.now (expression_tree c.args.value.now)) (block_faults (map method_tree c.args.methods.now) r c.args.names.now rest) c.in_err-resolved.field-0.0 c.in_err-resolved.ensures))

pub returns : goal.returns
returns c = λ r. set_goes (map method_tree c.args.methods.now) r c.args.names.now c.args.word.now (expression_tree c.args.value.now) (statement_tree c.set_statement.result) c.in_ok-place.place (expression_tree c.in_ok-resolved.resolved) c.in_ok-place.ensures c.in_ok-resolved.ensures c.set_statement.ensures
