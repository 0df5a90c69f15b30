use Rattle.std.proofs.Common.{take}
use Rattle.snap_recover.specs.declared.kinds.Kind.TheVariants as kinds
use Rattle.snap_recover.specs.Passes.{commit_key, AddsInfos}
use Rattle.snap_recover.proofs.commits.add_commits.Given as goal

abbrev pub invariant-loop-at : goal.invariant-loop-at
invariant-loop-at l = AddsInfos (commit_key kinds.Batch) l.log l.logs (take l.at l.rs) l.initial.places.items l.places.items
