use Rattle.std.proofs.Common.{◌++◌, sym, ap, ◌∙◌, map, take}
use Rattle.aml_tree.specs.Tree.{expression_tree}
use Rattle.aml_tree.specs.Grammar.{listed, spelling}
use Rattle.aml_print.specs.Printing.{after, comma_before}
use Rattle.aml_print.proofs.PrintingSteps.{none_written, and_then, listed_more_of}
use Rattle.aml_print.proofs.expressions.write_arguments.Goals as goal

pub loop-at-init : goal.loop-at-init
loop-at-init c = none_written c.args.writer.now

pub loop-at-preserved : goal.loop-at-preserved
loop-at-preserved c =
    let given = c.args.arguments.now in
    let at = c.loop-at.at in
    let argument = c.index-arguments-at.result in
    and_then c.args.writer.now c.loop-at.writer c.write_expression.new.writer (listed (map spelling (map expression_tree (take at given)))) (comma_before at ++ spelling (expression_tree argument)) c.loop-at.invariant
    (and_then c.loop-at.writer c.write_comma.new.writer c.write_expression.new.writer (comma_before at) (spelling (expression_tree argument)) c.in_ok-write_comma.ensures c.in_ok-write_expression.ensures)
    ∙ ap (after c.args.writer.now) (sym (listed_more_of spelling expression_tree given at argument c.loop-at-test.true c.index-arguments-at.is))
