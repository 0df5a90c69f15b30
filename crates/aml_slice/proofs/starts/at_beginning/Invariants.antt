use Rattle.std.proofs.Common.{◌≡◌, ◌≤◌, [], take, vec_capacity}
use Rattle.aml_slice.proofs.starts.at_beginning.Given as goal

abbrev pub invariant-loop-argument : goal.invariant-loop-argument
invariant-loop-argument l = record {
  values : l.activation.variables.items ≡ take l.argument-index l.arguments;
  variables : 32 ≤ vec_capacity l.activation.variables;
  path : 32 ≤ vec_capacity l.activation.path;
  none : l.activation.path.items ≡ [];
  first : l.activation.next ≡ 0;
}
