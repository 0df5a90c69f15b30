-- What contracts see of a checked program: its methods, as trees.
use Rattle.std.specs.Prelude.{ℕ, List}
use Rattle.aml_tree.specs.declared.trees.Program.{Program}
use Rattle.aml_tree.specs.Tree.{CheckedMethod, program_tree}

abbrev pub methods_of : Program ℕ ℕ → List CheckedMethod
methods_of c = program_tree c
