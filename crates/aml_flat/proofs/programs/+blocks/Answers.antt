use Rattle.std.proofs.Common.{◌≡◌, ℕ, ◌<◌, ◌≤◌, length, get_or, map, sym, ◌∙◌, subst}
use Rattle.std.proofs.lemmas.List.{take_all}
use Rattle.aml_tree.specs.Tree.{Onto, expression_tree, block_tree, statement_tree}
use Rattle.aml_tree.specs.TreeRules.{tree_of_if, tree_of_if_else, tree_of_while}
use Rattle.aml_flat.specs.declared.operations.Operation.TheVariants as op
use Rattle.aml_flat.specs.Flat.{SaysStatement, SayStatements}
use Rattle.aml_flat.proofs.Laying.{says_if, says_if_else, says_while, at_extended, counted_statements, extends_on, next_says, block_lies}
use Rattle.aml_flat.proofs.programs.+blocks.Goals as goal

pub statement-returns-in_ok-block-in-If-clause-says : goal.statement-returns-in_ok-block-in-If-clause-says
statement-returns-in_ok-block-in-If-clause-says t c =
    let P : Onto ℕ ℕ → Type 0 = λ o. SaysStatement c.block.new.operations.items c.args.at (op.If c.args.at c.in_ok-flat-in-If.field-0 c.in_ok-block-in-If.field-0) o in
    rw c.in-If.is (subst P (sym (tree_of_if c.in-If.condition c.in-If.first)) (says_if c.block.new.operations.items c.args.at c.in_ok-block-in-If.field-0 c.in_ok-flat-in-If.field-0 (expression_tree c.in-If.condition) (block_tree c.in-If.first) c.in_ok-flat-in-If.ensures c.in_ok-block-in-If.ensures.lies))

pub statement-returns-in_ok-block-in-IfElse-2-clause-says : goal.statement-returns-in_ok-block-in-IfElse-2-clause-says
statement-returns-in_ok-block-in-IfElse-2-clause-says t c =
    let P : Onto ℕ ℕ → Type 0 = λ o. SaysStatement c.block-in-IfElse-2.new.operations.items c.args.at (op.IfElse c.args.at c.in_ok-flat-in-IfElse.field-0 c.in_ok-block-in-IfElse.field-0 c.in_ok-block-in-IfElse-2.field-0) o in
    let first = at_extended c.block-in-IfElse.new.operations.items c.block-in-IfElse-2.new.operations.items c.in_ok-block-in-IfElse.field-0 (block_tree c.in-IfElse.first) c.in_ok-block-in-IfElse-2.ensures.more c.in_ok-block-in-IfElse.ensures.lies in
    rw c.in-IfElse.is (subst P (sym (tree_of_if_else c.in-IfElse.condition c.in-IfElse.first c.in-IfElse.other)) (says_if_else c.block-in-IfElse-2.new.operations.items c.args.at c.in_ok-block-in-IfElse.field-0 c.in_ok-block-in-IfElse-2.field-0 c.in_ok-flat-in-IfElse.field-0 (expression_tree c.in-IfElse.condition) (block_tree c.in-IfElse.first) (block_tree c.in-IfElse.other) c.in_ok-flat-in-IfElse.ensures first c.in_ok-block-in-IfElse-2.ensures.lies))

pub statement-returns-in_ok-block-in-While-clause-says : goal.statement-returns-in_ok-block-in-While-clause-says
statement-returns-in_ok-block-in-While-clause-says t c =
    let P : Onto ℕ ℕ → Type 0 = λ o. SaysStatement c.block-in-While.new.operations.items c.args.at (op.While c.args.at c.in_ok-flat-in-While.field-0 c.in_ok-block-in-While.field-0) o in
    rw c.in-While.is (subst P (sym (tree_of_while c.in-While.condition c.in-While.body)) (says_while c.block-in-While.new.operations.items c.args.at c.in_ok-block-in-While.field-0 c.in_ok-flat-in-While.field-0 (expression_tree c.in-While.condition) (block_tree c.in-While.body) c.in_ok-flat-in-While.ensures c.in_ok-block-in-While.ensures.lies))

pub block-loop-at-preserved : goal.block-loop-at-preserved
block-loop-at-preserved t c =
    let ss = c.args.code.now.statements.items in
    let i = c.loop-at.at in
    let h : i < length ss = rw c.deref-one-items.ensures.value at c.loop-at-test.true in
    let is : c.one-item.result ≡ get_or ss i c.one-item.result = rw c.deref-one-items.ensures.value at c.one-item.is in
    record {
      more = extends_on c.args.operations.now.items c.loop-at.operations.items c.statement.new.operations.items c.loop-at.invariant.more c.in_ok-operation.ensures.more;
      says = next_says c.loop-at.operations.items c.statement.new.operations.items c.loop-at.row.items c.put.new.row.items c.in_ok-operation.operation ss i c.one-item.result h is c.in_ok-operation.ensures.more c.loop-at.invariant.says c.in_ok-operation.ensures.says c.in_ok-put.ensures;
    }

pub block-returns-clause-lies : goal.block-returns-clause-lies
block-returns-clause-lies t c =
    let ss = c.args.code.now.statements.items in
    let past : length ss ≤ c.loop-at.at = rw c.deref-one-items.ensures.value at c.loop-at-test.false in
    let P : _ → Type 0 = λ ts. SayStatements c.loop-at.operations.items 0 c.loop-at.row.items (map statement_tree ts) in
    let all = subst P (take_all c.loop-at.at ss past) c.loop-at.invariant.says in (
      c.statement_count-count.ensures ∙ counted_statements ss c.args.code.now.last_line,
      block_lies c.loop-at.operations.items c.place.new.operations.items c.loop-at.row.items c.in_ok-first.first c.args.code.now.last_line (map statement_tree ss) c.in_ok-first.ensures.start c.in_ok-first.ensures.placed all,
    )
