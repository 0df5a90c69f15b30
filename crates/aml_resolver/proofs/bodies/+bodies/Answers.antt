use Rattle.std.proofs.Common.{◌≡◌, ◌<◌, map, ◌++◌, length, get_or, subst, sym}
use Rattle.std.proofs.lemmas.Result.{err_from_is_err_and}
use Rattle.aml_tokens.specs.declared.tokens.Word.{Word}
use Rattle.aml_tree.specs.Tree.{Onto, expression_tree, method_tree, statement_tree, block_tree}
use Rattle.aml_resolver.specs.Faults.{faults, block_faults}
use Rattle.aml_resolver.specs.Resolving.{StepsTo}
use Rattle.aml_resolver.proofs.Chains.{refuses_more, refuses_behind}
use Rattle.aml_resolver.proofs.StatementSteps.{none_yet, block_goes, block_refuses, room_first, room_next, if_goes, if_else_goes, while_goes, fail_goes}
use Rattle.aml_tree.specs.TreeRules.{tree_of_let, tree_of_call, tree_of_set, tree_of_field, tree_of_if, tree_of_if_else, tree_of_while, tree_of_fail, tree_of_return}
use Rattle.aml_resolver.proofs.bodies.+bodies.Goals as goal

pub block-returns-in_err-next-clause-resolved : goal.block-returns-in_err-next-clause-resolved
block-returns-in_err-next-clause-resolved t c =
    let ss = c.args.code.now.statements.items in
    let i = c.loop-at.at in
    let h : i < length ss = rw c.deref-each-items.ensures.value at c.loop-at-test.true in
    let is : c.each-item.result ≡ get_or ss i c.each-item.result = rw c.deref-each-items.ensures.value at c.each-item.is in
    let p = err_from_is_err_and c.from_residual.result c.from_residual.ensures.1 in
    rw (p.1, p.2) (block_refuses (map method_tree c.args.methods.now) c.args.is_read c.args.names.now.items c.loop-at.names.items ss i c.each-item.result c.loop-at.resolved.items c.args.code.now.last_line c.in_err-next.field-0.0 h is c.loop-at.invariant.goes c.in_err-next.ensures)

pub block-loop-at-preserved : goal.block-loop-at-preserved
block-loop-at-preserved t c =
    let ss = c.args.code.now.statements.items in
    let i = c.loop-at.at in
    let h : i < length ss = rw c.deref-each-items.ensures.value at c.loop-at-test.true in
    let is : c.each-item.result ≡ get_or ss i c.each-item.result = rw c.deref-each-items.ensures.value at c.each-item.is in
    record { goes = block_goes (map method_tree c.args.methods.now) c.args.is_read c.args.names.now.items c.loop-at.names.items c.statement.new.names.items ss i c.each-item.result c.loop-at.resolved.items c.put_statement.new.block.items c.in_ok-next.next h is c.loop-at.invariant.goes c.in_ok-next.ensures c.in_ok-put_statement.ensures; room = room_next (length c.loop-at.names.items) (length c.statement.new.names.items) ss i c.each-item.result h is c.loop-at.invariant.room c.in_ok-next.ensures.room }

pub statement-returns-in-Let : goal.statement-returns-in-Let
statement-returns-in-Let t c =
    let P : Onto Word Word → Type 0 = λ o. StepsTo (map method_tree c.args.methods.now) c.args.is_read c.args.names.now.items c.let_statement.new.names.items o c.let_statement.result in
    rw c.in-Let.is (subst P (sym (tree_of_let c.in-Let.line c.in-Let.variable c.in-Let.value)) (c.let_statement.ensures c.args.is_read))

pub statement-returns-in-Call : goal.statement-returns-in-Call
statement-returns-in-Call t c =
    let P : Onto Word Word → Type 0 = λ o. StepsTo (map method_tree c.args.methods.now) c.args.is_read c.args.names.now.items c.call_statement.new.names.items o c.call_statement.result in
    rw c.in-Call.is (subst P (sym (tree_of_call c.in-Call.line c.in-Call.variable c.in-Call.target c.in-Call.method c.in-Call.arguments)) (rw c.deref.ensures.value at c.call_statement.ensures))

pub statement-returns-in-Set : goal.statement-returns-in-Set
statement-returns-in-Set t c =
    let P : Onto Word Word → Type 0 = λ o. StepsTo (map method_tree c.args.methods.now) c.args.is_read c.args.names.now.items c.args.names.now.items o c.set_statement.result in
    rw c.in-Set.is (subst P (sym (tree_of_set c.in-Set.variable c.in-Set.value)) ((rw c.as_slice.ensures.value at c.set_statement.ensures) c.args.is_read))

pub statement-returns-in-SetField : goal.statement-returns-in-SetField
statement-returns-in-SetField t c =
    let P : Onto Word Word → Type 0 = λ o. StepsTo (map method_tree c.args.methods.now) c.args.is_read c.args.names.now.items c.args.names.now.items o c.field_statement.result in
    rw c.in-SetField.is (subst P (sym (tree_of_field c.in-SetField.line c.in-SetField.field c.in-SetField.value)) (rw c.as_slice-in-SetField.ensures.value at c.field_statement.ensures))

pub statement-returns-in-Return : goal.statement-returns-in-Return
statement-returns-in-Return t c =
    let P : Onto Word Word → Type 0 = λ o. StepsTo (map method_tree c.args.methods.now) c.args.is_read c.args.names.now.items c.args.names.now.items o c.return_statement.result in
    rw c.in-Return.is (subst P (sym (tree_of_return c.in-Return.value)) ((rw c.as_slice-in-Return.ensures.value at c.return_statement.ensures) c.args.is_read))

pub statement-returns-in-Fail : goal.statement-returns-in-Fail
statement-returns-in-Fail t c = rw (c.in-Fail.is) (rw (tree_of_fail c.in-Fail.code) (fail_goes (map method_tree c.args.methods.now) c.args.is_read c.args.names.now.items c.in-Fail.code (statement_tree c.fail_statement.result) c.fail_statement.ensures))

pub block-loop-at-init : goal.block-loop-at-init
block-loop-at-init t c = record {
  goes = rw c.new-resolved.ensures.items (none_yet (map method_tree c.args.methods.now) c.args.is_read c.args.names.now.items);
  room = room_first (length c.args.names.now.items) c.args.code.now.statements.items c.args.code.now.last_line c.requires.room;
}

pub statement-returns-in_err-holds-in-If : goal.statement-returns-in_err-holds-in-If
statement-returns-in_err-holds-in-If t c =
    let p = err_from_is_err_and c.from_residual.result c.from_residual.ensures.1 in
    rw (p.1, p.2, c.in-If.is) (rw (tree_of_if c.in-If.condition c.in-If.first) (λ rest. refuses_more (faults c.args.names.now.items (expression_tree c.in-If.condition)) ((block_faults (map method_tree c.args.methods.now) c.args.is_read c.args.names.now.items (block_tree c.in-If.first)) ++ block_faults (map method_tree c.args.methods.now) c.args.is_read c.args.names.now.items rest) c.in_err-holds-in-If.field-0.0 (rw c.as_slice-in-If.ensures.value at c.in_err-holds-in-If.ensures)))

pub statement-returns-in_err-then-in-If : goal.statement-returns-in_err-then-in-If
statement-returns-in_err-then-in-If t c =
    let p = err_from_is_err_and c.from_residual-in_err-then-in-If.result c.from_residual-in_err-then-in-If.ensures.1 in
    rw (p.1, p.2, c.in-If.is) (rw (tree_of_if c.in-If.condition c.in-If.first) (λ rest. refuses_behind (faults c.args.names.now.items (expression_tree c.in-If.condition)) ((block_faults (map method_tree c.args.methods.now) c.args.is_read c.args.names.now.items (block_tree c.in-If.first)) ++ block_faults (map method_tree c.args.methods.now) c.args.is_read c.args.names.now.items rest) c.in_err-then-in-If.field-0.0 (rw c.as_slice-in-If.ensures.value at c.in_ok-holds-in-If.ensures).0 (refuses_more (block_faults (map method_tree c.args.methods.now) c.args.is_read c.args.names.now.items (block_tree c.in-If.first)) (block_faults (map method_tree c.args.methods.now) c.args.is_read c.args.names.now.items rest) c.in_err-then-in-If.field-0.0 c.in_err-then-in-If.ensures.resolved)))

pub statement-returns-in_ok-then-in-If : goal.statement-returns-in_ok-then-in-If
statement-returns-in_ok-then-in-If t c =
    rw (c.in_ok-then-in-If.ensures.names, c.in-If.is) (rw (tree_of_if c.in-If.condition c.in-If.first) (if_goes (map method_tree c.args.methods.now) c.args.is_read c.args.names.now.items (expression_tree c.in-If.condition) (block_tree c.in-If.first) (statement_tree c.if_statement.result) (expression_tree c.in_ok-holds-in-If.holds) (block_tree c.in_ok-then-in-If.then) (rw c.as_slice-in-If.ensures.value at c.in_ok-holds-in-If.ensures) c.in_ok-then-in-If.ensures.resolved c.if_statement.ensures))

pub statement-returns-in_err-holds-in-IfElse : goal.statement-returns-in_err-holds-in-IfElse
statement-returns-in_err-holds-in-IfElse t c =
    let p = err_from_is_err_and c.from_residual-in_err-holds-in-IfElse.result c.from_residual-in_err-holds-in-IfElse.ensures.1 in
    rw (p.1, p.2, c.in-IfElse.is) (rw (tree_of_if_else c.in-IfElse.condition c.in-IfElse.first c.in-IfElse.other) (λ rest. refuses_more (faults c.args.names.now.items (expression_tree c.in-IfElse.condition)) ((block_faults (map method_tree c.args.methods.now) c.args.is_read c.args.names.now.items (block_tree c.in-IfElse.first)) ++ ((block_faults (map method_tree c.args.methods.now) c.args.is_read c.args.names.now.items (block_tree c.in-IfElse.other)) ++ block_faults (map method_tree c.args.methods.now) c.args.is_read c.args.names.now.items rest)) c.in_err-holds-in-IfElse.field-0.0 (rw c.as_slice-in-IfElse.ensures.value at c.in_err-holds-in-IfElse.ensures)))

pub statement-returns-in_err-then-in-IfElse : goal.statement-returns-in_err-then-in-IfElse
statement-returns-in_err-then-in-IfElse t c =
    let p = err_from_is_err_and c.from_residual-in_err-then-in-IfElse.result c.from_residual-in_err-then-in-IfElse.ensures.1 in
    rw (p.1, p.2, c.in-IfElse.is) (rw (tree_of_if_else c.in-IfElse.condition c.in-IfElse.first c.in-IfElse.other) (λ rest. refuses_behind (faults c.args.names.now.items (expression_tree c.in-IfElse.condition)) ((block_faults (map method_tree c.args.methods.now) c.args.is_read c.args.names.now.items (block_tree c.in-IfElse.first)) ++ ((block_faults (map method_tree c.args.methods.now) c.args.is_read c.args.names.now.items (block_tree c.in-IfElse.other)) ++ block_faults (map method_tree c.args.methods.now) c.args.is_read c.args.names.now.items rest)) c.in_err-then-in-IfElse.field-0.0 (rw c.as_slice-in-IfElse.ensures.value at c.in_ok-holds-in-IfElse.ensures).0 (refuses_more (block_faults (map method_tree c.args.methods.now) c.args.is_read c.args.names.now.items (block_tree c.in-IfElse.first)) ((block_faults (map method_tree c.args.methods.now) c.args.is_read c.args.names.now.items (block_tree c.in-IfElse.other)) ++ block_faults (map method_tree c.args.methods.now) c.args.is_read c.args.names.now.items rest) c.in_err-then-in-IfElse.field-0.0 c.in_err-then-in-IfElse.ensures.resolved)))

pub statement-returns-in_err-otherwise-in-IfElse : goal.statement-returns-in_err-otherwise-in-IfElse
statement-returns-in_err-otherwise-in-IfElse t c =
    let p = err_from_is_err_and c.from_residual-in_err-otherwise-in-IfElse.result c.from_residual-in_err-otherwise-in-IfElse.ensures.1 in
    rw (p.1, p.2, c.in-IfElse.is) (rw (tree_of_if_else c.in-IfElse.condition c.in-IfElse.first c.in-IfElse.other) (λ rest. refuses_behind (faults c.args.names.now.items (expression_tree c.in-IfElse.condition)) ((block_faults (map method_tree c.args.methods.now) c.args.is_read c.args.names.now.items (block_tree c.in-IfElse.first)) ++ ((block_faults (map method_tree c.args.methods.now) c.args.is_read c.args.names.now.items (block_tree c.in-IfElse.other)) ++ block_faults (map method_tree c.args.methods.now) c.args.is_read c.args.names.now.items rest)) c.in_err-otherwise-in-IfElse.field-0.0 (rw c.as_slice-in-IfElse.ensures.value at c.in_ok-holds-in-IfElse.ensures).0 (refuses_behind (block_faults (map method_tree c.args.methods.now) c.args.is_read c.args.names.now.items (block_tree c.in-IfElse.first)) ((block_faults (map method_tree c.args.methods.now) c.args.is_read c.args.names.now.items (block_tree c.in-IfElse.other)) ++ block_faults (map method_tree c.args.methods.now) c.args.is_read c.args.names.now.items rest) c.in_err-otherwise-in-IfElse.field-0.0 c.in_ok-then-in-IfElse.ensures.resolved.0 (refuses_more (block_faults (map method_tree c.args.methods.now) c.args.is_read c.args.names.now.items (block_tree c.in-IfElse.other)) (block_faults (map method_tree c.args.methods.now) c.args.is_read c.args.names.now.items rest) c.in_err-otherwise-in-IfElse.field-0.0 (rw c.in_ok-then-in-IfElse.ensures.names at c.in_err-otherwise-in-IfElse.ensures.resolved)))))

pub statement-returns-in_ok-otherwise-in-IfElse : goal.statement-returns-in_ok-otherwise-in-IfElse
statement-returns-in_ok-otherwise-in-IfElse t c =
    rw (c.in_ok-otherwise-in-IfElse.ensures.names, c.in_ok-then-in-IfElse.ensures.names, c.in-IfElse.is) (rw (tree_of_if_else c.in-IfElse.condition c.in-IfElse.first c.in-IfElse.other) (if_else_goes (map method_tree c.args.methods.now) c.args.is_read c.args.names.now.items (expression_tree c.in-IfElse.condition) (block_tree c.in-IfElse.first) (block_tree c.in-IfElse.other) (statement_tree c.if_else_statement.result) (expression_tree c.in_ok-holds-in-IfElse.holds) (block_tree c.in_ok-then-in-IfElse.then) (block_tree c.in_ok-otherwise-in-IfElse.otherwise) (rw c.as_slice-in-IfElse.ensures.value at c.in_ok-holds-in-IfElse.ensures) c.in_ok-then-in-IfElse.ensures.resolved (rw c.in_ok-then-in-IfElse.ensures.names at c.in_ok-otherwise-in-IfElse.ensures.resolved) c.if_else_statement.ensures))

pub statement-returns-in_err-holds-in-While : goal.statement-returns-in_err-holds-in-While
statement-returns-in_err-holds-in-While t c =
    let p = err_from_is_err_and c.from_residual-in_err-holds-in-While.result c.from_residual-in_err-holds-in-While.ensures.1 in
    rw (p.1, p.2, c.in-While.is) (rw (tree_of_while c.in-While.condition c.in-While.body) (λ rest. refuses_more (faults c.args.names.now.items (expression_tree c.in-While.condition)) ((block_faults (map method_tree c.args.methods.now) c.args.is_read c.args.names.now.items (block_tree c.in-While.body)) ++ block_faults (map method_tree c.args.methods.now) c.args.is_read c.args.names.now.items rest) c.in_err-holds-in-While.field-0.0 (rw c.as_slice-in-While.ensures.value at c.in_err-holds-in-While.ensures)))

pub statement-returns-in_err-turn-in-While : goal.statement-returns-in_err-turn-in-While
statement-returns-in_err-turn-in-While t c =
    let p = err_from_is_err_and c.from_residual-in_err-turn-in-While.result c.from_residual-in_err-turn-in-While.ensures.1 in
    rw (p.1, p.2, c.in-While.is) (rw (tree_of_while c.in-While.condition c.in-While.body) (λ rest. refuses_behind (faults c.args.names.now.items (expression_tree c.in-While.condition)) ((block_faults (map method_tree c.args.methods.now) c.args.is_read c.args.names.now.items (block_tree c.in-While.body)) ++ block_faults (map method_tree c.args.methods.now) c.args.is_read c.args.names.now.items rest) c.in_err-turn-in-While.field-0.0 (rw c.as_slice-in-While.ensures.value at c.in_ok-holds-in-While.ensures).0 (refuses_more (block_faults (map method_tree c.args.methods.now) c.args.is_read c.args.names.now.items (block_tree c.in-While.body)) (block_faults (map method_tree c.args.methods.now) c.args.is_read c.args.names.now.items rest) c.in_err-turn-in-While.field-0.0 c.in_err-turn-in-While.ensures.resolved)))

pub statement-returns-in_ok-turn-in-While : goal.statement-returns-in_ok-turn-in-While
statement-returns-in_ok-turn-in-While t c =
    rw (c.in_ok-turn-in-While.ensures.names, c.in-While.is) (rw (tree_of_while c.in-While.condition c.in-While.body) (while_goes (map method_tree c.args.methods.now) c.args.is_read c.args.names.now.items (expression_tree c.in-While.condition) (block_tree c.in-While.body) (statement_tree c.while_statement.result) (expression_tree c.in_ok-holds-in-While.holds) (block_tree c.in_ok-turn-in-While.turn) (rw c.as_slice-in-While.ensures.value at c.in_ok-holds-in-While.ensures) c.in_ok-turn-in-While.ensures.resolved c.while_statement.ensures))
