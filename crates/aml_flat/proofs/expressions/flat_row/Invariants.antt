use Rattle.std.proofs.Common.{◌≡◌, take, map}
use Rattle.aml_tree.specs.Tree.{expression_tree}
use Rattle.aml_flat.specs.Flat.{flat_tree}
use Rattle.aml_flat.proofs.expressions.flat_row.Given as goal

abbrev pub invariant-loop-e : goal.invariant-loop-e
invariant-loop-e l = map flat_tree l.row.items ≡ map expression_tree (take l.e-index l.es)
