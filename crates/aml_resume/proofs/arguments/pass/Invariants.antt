use Rattle.std.proofs.Common.{◌≡◌, Ok, ◌++◌, length, drop, map, vec_capacity}
use Rattle.aml_flat.specs.Flat.{flat_tree}
use Rattle.aml_check.specs.Meaning.{◌>>=◌, values_of}
use Rattle.aml_resume.proofs.arguments.pass.Given as goal

abbrev pub invariant-loop-e : goal.invariant-loop-e
invariant-loop-e l = record {
  so_far : values_of l.own l.variables l.state (map flat_tree l.es) ≡ (values_of l.own l.variables l.state (map flat_tree (drop l.e-index l.es)) >>= λ xs. Ok (l.arguments.items ++ xs));
  each : length l.arguments.items ≡ l.e-index;
  room : vec_capacity l.arguments ≡ vec_capacity l.fn.arguments;
}
