use Rattle.std.proofs.Common.{◌≡◌, take, map}
use Rattle.aml_tree.specs.Grammar.{listed, name_spelling}
use Rattle.aml_print.specs.Printing.{after}
use Rattle.aml_print.proofs.print.write_parameters.Given as goal

abbrev pub invariant-loop-at : goal.invariant-loop-at
invariant-loop-at l = l.writer ≡ after l.initial.writer (listed (map name_spelling (take l.at l.words)))
