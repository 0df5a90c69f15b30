use Rattle.std.proofs.Common.{◌≡◌, take}
use Rattle.run_opening.proofs.comparisons.compare_fields.Given as goal

abbrev pub invariant-loop-field : goal.invariant-loop-field
invariant-loop-field l = take l.field l.kept ≡ take l.field l.text
