use Rattle.std.proofs.Common.{◌+◌, ◌≤◌, length, take, drop, map}
use Rattle.aml_tree.specs.Limits.{lets}
use Rattle.aml_tree.specs.Tree.{End, statements_tree, method_tree}
use Rattle.aml_resolver.specs.Resolving.{Continues}
use Rattle.aml_resolver.proofs.bodies.+bodies.Given as goal

abbrev pub invariant-block-loop-at : goal.invariant-block-loop-at
invariant-block-loop-at l = record {
  goes : Continues (map method_tree l.methods) l.is_read l.initial.names.items l.names.items (statements_tree (take l.at l.code.statements.items)) (statements_tree l.resolved.items);
  room : length l.names.items + lets (statements_tree (drop l.at l.code.statements.items) (End 0)) ≤ 32;
}
