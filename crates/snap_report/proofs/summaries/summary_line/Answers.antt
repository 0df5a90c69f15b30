use Rattle.std.proofs.Common.{◌++◌, [], ◌∷◌, ap, ◌∙◌}
use Rattle.serde_json.specs.Written.{has_float, compact_text}
use Rattle.snap_report.proofs.JsonTexts.{object_is}
use Rattle.snap_report.proofs.summaries.summary_line.Goals as goal

pub returns : goal.returns
returns c =
    c.in_ok-push_str.ensures.bytes
    ∙ ap (λ l. l ++ 10 ∷ [])
    (c.in_ok-line.ensures.text (ap has_float c.in_ok-value.ensures.data) ∙ ap compact_text c.in_ok-value.ensures.data ∙ object_is c.args.summary.now c.in_ok-value.ensures.range)
