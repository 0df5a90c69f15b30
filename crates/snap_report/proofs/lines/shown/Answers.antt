use Rattle.std.proofs.Common.{◌≡◌, ◌+◌, ◌<◌, ◌∷◌, ◌++◌, [], pos, take, length, get_or, rules, arith, ap, sym, ◌∙◌}
use Rattle.std.proofs.lemmas.List.{take_more, length-take}
use Rattle.snap_report.specs.Lines.{shown_fields}
use Rattle.snap_report.proofs.ShownFields.{shown_fields-push, shown_fields-zero, zero_is, not_zero_is}
use Rattle.snap_report.proofs.lines.shown.Goals as goal
use Rattle.snap_report.proofs.lines.shown.Goals.{then-field-ne0, else-field-ne0}

pub loop-at-preserved : goal.loop-at-preserved
loop-at-preserved c =
    let fields = c.args.fields.now in
    let at = c.loop-at.at in
    let more : take (at + 1) fields ≡ take at fields ++ get_or fields at (pos 0) ∷ [] = take_more fields at (pos 0) (omega arith) in
    let some : 0 < length (take at fields) = omega (arith, length-take at fields) in
    elim c.if-field-ne0.branch [
      | then-field-ne0 w ↦ record {
        within = omega arith;
        shown = ap (λ n. take n fields) w.count-is ∙ more ∙ sym (shown_fields-push _ _ some (not_zero_is _ w.if-field-ne0.true)) ∙ ap shown_fields (sym more);
      }
      | else-field-ne0 w ↦ record {
        within = omega arith;
        shown = ap (λ n. take n fields) w.count-is ∙ c.loop-at.invariant.shown ∙ sym (shown_fields-zero _ _ some (zero_is _ (search rules) w.if-field-ne0.false)) ∙ ap shown_fields (sym more);
      }
    ]
