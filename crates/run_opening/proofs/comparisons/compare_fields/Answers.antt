use Rattle.std.proofs.Common.{rules, w64, pos}
use Rattle.std.proofs.Math.Facts.{to_z-of_z}
use Rattle.run_opening.proofs.Differing.{field_differs}
use Rattle.run_opening.proofs.comparisons.compare_fields.Goals as goal

pub returns-then-kept-field : goal.returns-then-kept-field
returns-then-kept-field c =
    field_differs c.args.kept.now c.args.text.now c.loop-field.field (pos 0) _ _ (search rules) (search rules) c.loop-field.invariant
    (to_z-of_z {w = w64} (search rules)) (to_z-of_z {w = w64} (search rules)) (search rules)
