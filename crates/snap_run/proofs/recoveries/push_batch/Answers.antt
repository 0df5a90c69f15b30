use Rattle.std.proofs.Common.{◌≡◌, ◌≤◌, ◌++◌, length, take, get_or, slice_get, ap, ◌∙◌, append_assoc, arith}
use Rattle.std.specs.Prelude.{string_bytes}
use Rattle.snap_report.specs.Lines.{batch_text, kept_text, pact_place}
use Rattle.snap_run.proofs.KeptLines.{batch_more, batch_whole, copied_at}
use Rattle.snap_run.proofs.recoveries.push_batch.Goals as goal

pub loop-number-preserved : goal.loop-number-preserved
loop-number-preserved c =
    let n = c.loop-number.number in
    let tids = c.args.tids.now in
    let values = c.args.values.now in
    let tid = get_or tids n (record { 0 = 0 }) in
    let line = kept_text (pact_place c.args.bid tid) (slice_get values n) in
    let place : c.pact_place.result ≡ pact_place c.args.bid tid = c.pact_place.ensures in
    let value : c.copied.result ≡ slice_get values n = c.copied.ensures ∙ copied_at values n c.get.result c.get.ensures.lookup.3 in
    c.in_ok-push_line.ensures
    ∙ (ap (λ p. string_bytes c.loop-number.text ++ kept_text p c.copied.result) place
    ∙ (ap (λ v. string_bytes c.loop-number.text ++ kept_text (pact_place c.args.bid tid) v) value
    ∙ (ap (λ l. l ++ line) c.loop-number.invariant
    ∙ (append_assoc (string_bytes c.args.text.now) (batch_text c.args.bid (take n tids) (take n values)) line
    ∙ ap (λ l. string_bytes c.args.text.now ++ l) (batch_more c.args.bid tids values n (record { 0 = 0 }) (omega arith))))))

pub returns : goal.returns
returns c =
    let past : length c.args.tids.now ≤ c.loop-number.number = omega arith in
    c.loop-number.invariant ∙ ap (λ l. string_bytes c.args.text.now ++ l) (batch_whole c.args.bid c.args.tids.now c.args.values.now c.loop-number.number past)
