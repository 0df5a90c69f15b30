use Rattle.std.proofs.Common.{◌≡◌, take, map}
use Rattle.aml_tree.specs.Tree.{expression_tree}
use Rattle.aml_tree.specs.Grammar.{listed, spelling}
use Rattle.aml_print.specs.Printing.{after}
use Rattle.aml_print.proofs.expressions.write_arguments.Given as goal

abbrev pub invariant-loop-at : goal.invariant-loop-at
invariant-loop-at l = l.writer ≡ after l.initial.writer (listed (map spelling (map expression_tree (take l.at l.arguments))))
