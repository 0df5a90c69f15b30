use Rattle.std.proofs.Common.{take, map}
use Rattle.aml_tree.specs.Tree.{method_tree}
use Rattle.aml_flat.specs.Flat.{AllLie}
use Rattle.aml_flat.proofs.programs.flatten.Given as goal

abbrev pub invariant-loop-method : goal.invariant-loop-method
invariant-loop-method l = AllLie l.operations.items l.bodies.items (map method_tree (take l.method-index l.program.methods))
