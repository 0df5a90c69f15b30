use Rattle.std.proofs.Common.{sym, ap, ◌∙◌, map, take}
use Rattle.aml_tree.specs.Tree.{method_tree}
use Rattle.aml_tree.specs.Grammar.{method_spelling, program_spelling}
use Rattle.aml_print.specs.Printing.{after}
use Rattle.aml_print.proofs.PrintingSteps.{none_written, and_then, flat_more}
use Rattle.aml_print.proofs.print.write_methods.Goals as goal

pub loop-method-init : goal.loop-method-init
loop-method-init c = none_written c.args.writer.now

pub loop-method-preserved : goal.loop-method-preserved
loop-method-preserved c =
    let ms = c.args.methods.now in
    let i = c.loop-method.method-index in
    let m = c.method-item.result in
    and_then c.args.writer.now c.loop-method.writer c.write_method.new.writer (program_spelling (map method_tree (take i ms))) (method_spelling (method_tree m)) c.loop-method.invariant c.in_ok-write_method.ensures
    ∙ ap (after c.args.writer.now) (sym (flat_more method_spelling method_tree ms i m c.loop-method-test.true c.method-item.is))
