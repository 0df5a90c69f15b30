use Rattle.std.proofs.Common.{◌++◌, take, ap, ◌∙◌, append_assoc}
use Rattle.std.specs.Prelude.{string_bytes}
use Rattle.snap_report.specs.Lines.{all_kept_text, lines_of}
use Rattle.snap_run.proofs.KeptLines.{all_kept_more}
use Rattle.snap_run.proofs.recoveries.push_all_kept.Goals as goal

pub loop-kept-preserved : goal.loop-kept-preserved
loop-kept-preserved c =
    let n = c.loop-kept.kept-index in
    let all = c.args.committed.now in
    let kept = c.kept-item.result in
    c.in_ok-push_kept.ensures
    ∙ (ap (λ l. l ++ lines_of kept) c.loop-kept.invariant
    ∙ (append_assoc (string_bytes c.args.text.now) (all_kept_text (take n all)) (lines_of kept)
    ∙ ap (λ l. string_bytes c.args.text.now ++ l)
    (ap (λ k. all_kept_text (take n all) ++ lines_of k) c.kept-item.is ∙ all_kept_more all n kept c.loop-kept-test.true)))
