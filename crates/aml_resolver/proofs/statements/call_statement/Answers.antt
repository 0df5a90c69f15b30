use Rattle.std.proofs.Common.{rules, map, length, ◌++◌, ◌∷◌, [], ◌&&◌}
use Rattle.std.specs.List.{flat_map}
use Rattle.std.proofs.lemmas.Result.{err_from_is_err_and}
use Rattle.aml_tree.specs.Tree.{expression_tree, method_tree, statement_tree}
use Rattle.aml_resolver.specs.Faults.{faults, duplicate, is_writer, promise_faults, call_faults, block_faults}
use Rattle.aml_resolver.proofs.Chains.{refuses_more, refuses_behind}
use Rattle.std.proofs.lemmas.List.{length-map}
use Rattle.aml_resolver.proofs.StatementSteps.{call_goes}
use Rattle.aml_resolver.proofs.statements.call_statement.Goals as goal

pub returns-in_err-promised_call : goal.returns-in_err-promised_call
returns-in_err-promised_call c =
    let p = err_from_is_err_and c.from_residual.result c.from_residual.ensures.1 in
    rw (p.1, p.2) (λ rest. refuses_more (promise_faults (c.args.is_read && is_writer (map method_tree c.args.methods.now) c.args.method.now) c.args.line) (duplicate c.args.names.now.items c.args.word.now ++ ((faults c.args.names.now.items (expression_tree c.args.target.now)) ++ ((call_faults (map method_tree c.args.methods.now) c.args.method.now (length (map expression_tree c.args.values.now))) ++ ((flat_map (faults c.args.names.now.items) (map expression_tree c.args.values.now)) ++ block_faults (map method_tree c.args.methods.now) c.args.is_read (c.args.names.now.items ++ c.args.word.now.name ∷ []) rest)))) c.in_err-promised_call.field-0.0 c.in_err-promised_call.ensures)

pub returns-in_err-new_name : goal.returns-in_err-new_name
returns-in_err-new_name c =
    let p = err_from_is_err_and c.from_residual-in_err-new_name.result c.from_residual-in_err-new_name.ensures.1 in
    rw (p.1, p.2) (λ rest. refuses_behind (promise_faults (c.args.is_read && is_writer (map method_tree c.args.methods.now) c.args.method.now) c.args.line) (duplicate c.args.names.now.items c.args.word.now ++ ((faults c.args.names.now.items (expression_tree c.args.target.now)) ++ ((call_faults (map method_tree c.args.methods.now) c.args.method.now (length (map expression_tree c.args.values.now))) ++ ((flat_map (faults c.args.names.now.items) (map expression_tree c.args.values.now)) ++ block_faults (map method_tree c.args.methods.now) c.args.is_read (c.args.names.now.items ++ c.args.word.now.name ∷ []) rest)))) c.in_err-new_name.field-0.0 c.in_ok-promised_call.ensures (refuses_more (duplicate c.args.names.now.items c.args.word.now) ((faults c.args.names.now.items (expression_tree c.args.target.now)) ++ ((call_faults (map method_tree c.args.methods.now) c.args.method.now (length (map expression_tree c.args.values.now))) ++ ((flat_map (faults c.args.names.now.items) (map expression_tree c.args.values.now)) ++ block_faults (map method_tree c.args.methods.now) c.args.is_read (c.args.names.now.items ++ c.args.word.now.name ∷ []) rest))) c.in_err-new_name.field-0.0 (rw c.as_slice.ensures.value at c.in_err-new_name.ensures)))

pub returns-in_err-actor : goal.returns-in_err-actor
returns-in_err-actor c =
    let p = err_from_is_err_and c.from_residual-in_err-actor.result c.from_residual-in_err-actor.ensures.1 in
    rw (p.1, p.2) (λ rest. refuses_behind (promise_faults (c.args.is_read && is_writer (map method_tree c.args.methods.now) c.args.method.now) c.args.line) (duplicate c.args.names.now.items c.args.word.now ++ ((faults c.args.names.now.items (expression_tree c.args.target.now)) ++ ((call_faults (map method_tree c.args.methods.now) c.args.method.now (length (map expression_tree c.args.values.now))) ++ ((flat_map (faults c.args.names.now.items) (map expression_tree c.args.values.now)) ++ block_faults (map method_tree c.args.methods.now) c.args.is_read (c.args.names.now.items ++ c.args.word.now.name ∷ []) rest)))) c.in_err-actor.field-0.0 c.in_ok-promised_call.ensures (refuses_behind (duplicate c.args.names.now.items c.args.word.now) ((faults c.args.names.now.items (expression_tree c.args.target.now)) ++ ((call_faults (map method_tree c.args.methods.now) c.args.method.now (length (map expression_tree c.args.values.now))) ++ ((flat_map (faults c.args.names.now.items) (map expression_tree c.args.values.now)) ++ block_faults (map method_tree c.args.methods.now) c.args.is_read (c.args.names.now.items ++ c.args.word.now.name ∷ []) rest))) c.in_err-actor.field-0.0 (rw c.as_slice.ensures.value at c.in_ok-new_name.ensures) (refuses_more (faults c.args.names.now.items (expression_tree c.args.target.now)) ((call_faults (map method_tree c.args.methods.now) c.args.method.now (length (map expression_tree c.args.values.now))) ++ ((flat_map (faults c.args.names.now.items) (map expression_tree c.args.values.now)) ++ block_faults (map method_tree c.args.methods.now) c.args.is_read (c.args.names.now.items ++ c.args.word.now.name ∷ []) rest)) c.in_err-actor.field-0.0 (rw c.as_slice-2.ensures.value at c.in_err-actor.ensures))))

pub returns-in_err-callee : goal.returns-in_err-callee
returns-in_err-callee c =
    let p = err_from_is_err_and c.from_residual-in_err-callee.result c.from_residual-in_err-callee.ensures.1 in
    rw (p.1, p.2) (λ rest. refuses_behind (promise_faults (c.args.is_read && is_writer (map method_tree c.args.methods.now) c.args.method.now) c.args.line) (duplicate c.args.names.now.items c.args.word.now ++ ((faults c.args.names.now.items (expression_tree c.args.target.now)) ++ ((call_faults (map method_tree c.args.methods.now) c.args.method.now (length (map expression_tree c.args.values.now))) ++ ((flat_map (faults c.args.names.now.items) (map expression_tree c.args.values.now)) ++ block_faults (map method_tree c.args.methods.now) c.args.is_read (c.args.names.now.items ++ c.args.word.now.name ∷ []) rest)))) c.in_err-callee.field-0.0 c.in_ok-promised_call.ensures (refuses_behind (duplicate c.args.names.now.items c.args.word.now) ((faults c.args.names.now.items (expression_tree c.args.target.now)) ++ ((call_faults (map method_tree c.args.methods.now) c.args.method.now (length (map expression_tree c.args.values.now))) ++ ((flat_map (faults c.args.names.now.items) (map expression_tree c.args.values.now)) ++ block_faults (map method_tree c.args.methods.now) c.args.is_read (c.args.names.now.items ++ c.args.word.now.name ∷ []) rest))) c.in_err-callee.field-0.0 (rw c.as_slice.ensures.value at c.in_ok-new_name.ensures) (refuses_behind (faults c.args.names.now.items (expression_tree c.args.target.now)) ((call_faults (map method_tree c.args.methods.now) c.args.method.now (length (map expression_tree c.args.values.now))) ++ ((flat_map (faults c.args.names.now.items) (map expression_tree c.args.values.now)) ++ block_faults (map method_tree c.args.methods.now) c.args.is_read (c.args.names.now.items ++ c.args.word.now.name ∷ []) rest)) c.in_err-callee.field-0.0 (rw c.as_slice-2.ensures.value at c.in_ok-actor.ensures).0 (rw (length-map c.args.values.now (expression_tree)) (refuses_more (call_faults (map method_tree c.args.methods.now) c.args.method.now (length c.args.values.now)) ((flat_map (faults c.args.names.now.items) (map expression_tree c.args.values.now)) ++ block_faults (map method_tree c.args.methods.now) c.args.is_read (c.args.names.now.items ++ c.args.word.now.name ∷ []) rest) c.in_err-callee.field-0.0 c.in_err-callee.ensures)))))

pub returns-in_err-given : goal.returns-in_err-given
returns-in_err-given c =
    let p = err_from_is_err_and c.from_residual-in_err-given.result c.from_residual-in_err-given.ensures.1 in
    rw (p.1, p.2) (λ rest. refuses_behind (promise_faults (c.args.is_read && is_writer (map method_tree c.args.methods.now) c.args.method.now) c.args.line) (duplicate c.args.names.now.items c.args.word.now ++ ((faults c.args.names.now.items (expression_tree c.args.target.now)) ++ ((call_faults (map method_tree c.args.methods.now) c.args.method.now (length (map expression_tree c.args.values.now))) ++ ((flat_map (faults c.args.names.now.items) (map expression_tree c.args.values.now)) ++ block_faults (map method_tree c.args.methods.now) c.args.is_read (c.args.names.now.items ++ c.args.word.now.name ∷ []) rest)))) c.in_err-given.field-0.0 c.in_ok-promised_call.ensures (refuses_behind (duplicate c.args.names.now.items c.args.word.now) ((faults c.args.names.now.items (expression_tree c.args.target.now)) ++ ((call_faults (map method_tree c.args.methods.now) c.args.method.now (length (map expression_tree c.args.values.now))) ++ ((flat_map (faults c.args.names.now.items) (map expression_tree c.args.values.now)) ++ block_faults (map method_tree c.args.methods.now) c.args.is_read (c.args.names.now.items ++ c.args.word.now.name ∷ []) rest))) c.in_err-given.field-0.0 (rw c.as_slice.ensures.value at c.in_ok-new_name.ensures) (refuses_behind (faults c.args.names.now.items (expression_tree c.args.target.now)) ((call_faults (map method_tree c.args.methods.now) c.args.method.now (length (map expression_tree c.args.values.now))) ++ ((flat_map (faults c.args.names.now.items) (map expression_tree c.args.values.now)) ++ block_faults (map method_tree c.args.methods.now) c.args.is_read (c.args.names.now.items ++ c.args.word.now.name ∷ []) rest)) c.in_err-given.field-0.0 (rw c.as_slice-2.ensures.value at c.in_ok-actor.ensures).0 (refuses_behind (call_faults (map method_tree c.args.methods.now) c.args.method.now (length (map expression_tree c.args.values.now))) ((flat_map (faults c.args.names.now.items) (map expression_tree c.args.values.now)) ++ block_faults (map method_tree c.args.methods.now) c.args.is_read (c.args.names.now.items ++ c.args.word.now.name ∷ []) rest) c.in_err-given.field-0.0 (rw length-map c.in_ok-callee.ensures.0) (refuses_more (flat_map (faults c.args.names.now.items) (map expression_tree c.args.values.now)) (block_faults (map method_tree c.args.methods.now) c.args.is_read (c.args.names.now.items ++ c.args.word.now.name ∷ []) rest) c.in_err-given.field-0.0 (rw c.as_slice-3.ensures.value at c.in_err-given.ensures))))))

pub returns : goal.returns
returns c = call_goes (map method_tree c.args.methods.now) c.args.is_read c.args.names.now.items c.put_name.new.names.items c.args.line c.args.word.now (expression_tree c.args.target.now) c.args.method.now (map expression_tree c.args.values.now) (statement_tree c.call_statement.result) _ (expression_tree c.in_ok-actor.actor) c.in_ok-callee.callee (map expression_tree c.in_ok-given.given.items) c.in_ok-promised_call.ensures (rw c.as_slice.ensures.value at c.in_ok-new_name.ensures) (rw c.as_slice-2.ensures.value at c.in_ok-actor.ensures) (rw length-map c.in_ok-callee.ensures) (rw c.as_slice-3.ensures.value at c.in_ok-given.ensures) (search rules) c.in_ok-put_name.ensures c.call_statement.ensures
