use Rattle.std.proofs.Common.{◌≡◌, [], take, map}
use Rattle.std.specs.List.{flat_map}
use Rattle.aml_tree.specs.Tree.{expression_tree}
use Rattle.aml_resolver.specs.Names.{checked_expression}
use Rattle.aml_resolver.specs.Faults.{faults}
use Rattle.aml_resolver.proofs.expressions.arguments.Given as goal

abbrev pub invariant-loop-value : goal.invariant-loop-value
invariant-loop-value l = record {
  faultless : flat_map (faults l.names) (map expression_tree (take l.value-index l.values)) ≡ [];
  resolved : map expression_tree l.given.items ≡ map (checked_expression l.names) (map expression_tree (take l.value-index l.values));
}
