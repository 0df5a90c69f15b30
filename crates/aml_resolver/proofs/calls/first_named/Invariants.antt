use Rattle.std.proofs.Common.{◌≡◌, drop, map}
use Rattle.aml_tree.specs.Tree.{method_tree}
use Rattle.aml_resolver.specs.Names.{place_from, place_of}
use Rattle.aml_check.specs.Names.{method_names}
use Rattle.aml_resolver.proofs.calls.first_named.Given as goal

abbrev pub invariant-loop-place : goal.invariant-loop-place
invariant-loop-place l = place_from l.place (method_names (map method_tree (drop l.place l.methods))) l.name ≡ place_of (method_names (map method_tree l.methods)) l.name
