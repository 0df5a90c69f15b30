use Rattle.std.proofs.Common.{rules, map, ◌++◌, ◌∷◌, []}
use Rattle.std.proofs.lemmas.Result.{err_from_is_err_and}
use Rattle.aml_tree.specs.Tree.{expression_tree, method_tree, statement_tree}
use Rattle.aml_resolver.specs.Faults.{faults, duplicate, block_faults}
use Rattle.aml_resolver.proofs.Chains.{refuses_more, refuses_behind}
use Rattle.aml_resolver.proofs.StatementSteps.{let_goes}
use Rattle.aml_resolver.proofs.statements.let_statement.Goals as goal

pub returns-in_err-new_name : goal.returns-in_err-new_name
returns-in_err-new_name c =
    let p = err_from_is_err_and c.from_residual.result c.from_residual.ensures.1 in
    rw (p.1, p.2) (λ r rest. refuses_more (duplicate c.args.names.now.items c.args.word.now) (faults c.args.names.now.items (expression_tree c.args.value.now) ++ block_faults (map method_tree c.args.methods.now) r (c.args.names.now.items ++ c.args.word.now.name ∷ []) rest) c.in_err-new_name.field-0.0 (rw c.as_slice.ensures.value at c.in_err-new_name.ensures))

pub returns-in_err-resolved : goal.returns-in_err-resolved
returns-in_err-resolved c =
    let p = err_from_is_err_and c.from_residual-in_err-resolved.result c.from_residual-in_err-resolved.ensures.1 in
    rw (p.1, p.2) (λ r rest. refuses_behind (duplicate c.args.names.now.items c.args.word.now) (faults c.args.names.now.items (expression_tree c.args.value.now) ++ block_faults (map method_tree c.args.methods.now) r (c.args.names.now.items ++ c.args.word.now.name ∷ []) rest) c.in_err-resolved.field-0.0 (rw c.as_slice.ensures.value at c.in_ok-new_name.ensures) (refuses_more (faults c.args.names.now.items (expression_tree c.args.value.now)) (block_faults (map method_tree c.args.methods.now) r (c.args.names.now.items ++ c.args.word.now.name ∷ []) rest) c.in_err-resolved.field-0.0 (rw c.as_slice-2.ensures.value at c.in_err-resolved.ensures)))

pub returns : goal.returns
returns c = λ r. let_goes (map method_tree c.args.methods.now) r c.args.names.now.items c.put_name.new.names.items c.args.line c.args.word.now (expression_tree c.args.value.now) (statement_tree c.let_statement.result) _ (expression_tree c.in_ok-resolved.resolved) (rw c.as_slice.ensures.value at c.in_ok-new_name.ensures) (rw c.as_slice-2.ensures.value at c.in_ok-resolved.ensures) (search rules) c.in_ok-put_name.ensures c.let_statement.ensures
