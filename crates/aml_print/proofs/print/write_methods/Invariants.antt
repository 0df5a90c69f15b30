use Rattle.std.proofs.Common.{◌≡◌, take, map}
use Rattle.aml_tree.specs.Tree.{method_tree}
use Rattle.aml_tree.specs.Grammar.{program_spelling}
use Rattle.aml_print.specs.Printing.{after}
use Rattle.aml_print.proofs.print.write_methods.Given as goal

abbrev pub invariant-loop-method : goal.invariant-loop-method
invariant-loop-method l = l.writer ≡ after l.initial.writer (program_spelling (map method_tree (take l.method-index l.methods)))
