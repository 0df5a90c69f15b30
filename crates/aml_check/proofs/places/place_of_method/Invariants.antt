use Rattle.std.proofs.Common.{ℕ, ◌<◌, ◌≢◌, slice_index_or}
use Rattle.aml_tree.specs.declared.trees.Method.{Method}
use Rattle.aml_check.proofs.places.place_of_method.Given as goal

abbrev pub invariant-loop-place : goal.invariant-loop-place
invariant-loop-place l = (k : ℕ) (m : Method ℕ ℕ) → k < l.place → (slice_index_or l.methods k m).name.name ≢ l.name
