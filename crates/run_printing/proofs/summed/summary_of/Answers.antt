use Rattle.std.proofs.Common.{◌≡◌, FitsSigned, length, map, sym, ap, ◌∙◌, rules}
use Rattle.std.specs.Int.{w128}
use Rattle.std.proofs.lemmas.Int.{to_z-of_z}
use Rattle.std.proofs.lemmas.List.{length-map}
use Rattle.core_events.specs.Meant.{event_meant}
use Rattle.run_printing.proofs.Sums.{same_summary}
use Rattle.run_printing.proofs.summed.summary_of.Goals as goal

pub returns : goal.returns
returns c =
    let es = map event_meant c.args.kept.now in
    let txs : length c.tables.result.now.work.txs ≡ length c.args.core.now.tables.work.txs = ap (λ t. length t.work.txs) c.tables.ensures.same in
    let fits : FitsSigned w128 c.total_of.result = search rules in
    same_summary _ _ _ _ _ _ _ _ _ _ _ _ (c.len.ensures ∙ txs) c.counts_of-counts.ensures.committed c.counts_of-counts.ensures.aborted c.counts_of-counts.ensures.batches
    (sym (length-map c.args.kept.now event_meant)) (to_z-of_z w128 c.total_of.result fits ∙ c.total_of.ensures es c.requires)
