use Rattle.std.proofs.Common.{◌≡◌, [], take, drop, map}
use Rattle.aml_tree.specs.Tree.{method_tree, program_tree}
use Rattle.aml_resolver.specs.Faults.{faults_behind}
use Rattle.aml_check.specs.Names.{method_names}
use Rattle.aml_resolver.specs.Names.{checked_method}
use Rattle.aml_resolver.proofs.checks.check.Given as goal

abbrev pub invariant-loop-one : goal.invariant-loop-one
invariant-loop-one l = record {
  faultless : faults_behind (program_tree l.fn.program) l.names.items (map method_tree (drop l.one-index l.fn.program.methods)) ≡ faults_behind (program_tree l.fn.program) [] (program_tree l.fn.program);
  resolved : map method_tree l.checked ≡ map (checked_method (method_names (program_tree l.fn.program))) (map method_tree (take l.one-index l.fn.program.methods));
}
