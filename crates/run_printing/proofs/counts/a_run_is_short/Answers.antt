use Rattle.std.proofs.Common.{◌≤◌, ◌*◌, length, map, sym, subst, arith}
use Rattle.std.proofs.lemmas.List.{length-map}
use Rattle.core_events.specs.Meant.{event_meant}
use Rattle.protocol.specs.Runs.{IsRun}
use Rattle.snap_core.specs.snap_hand.Tables.{fixed_of, text_of}
use Rattle.run_printing.proofs.counts.a_run_is_short.Goals as goal

pub returns : goal.returns
returns c =
    let t = c.tables.result.now in
    let es = map event_meant c.args.kept.now in
    let run : IsRun (fixed_of t) es = subst (λ u. IsRun (fixed_of u) es) (sym c.tables.ensures.same) c.requires.run in
    let short : length es ≤ 1024 * length t.work.txs = (c.every_run_ends.ensures (text_of t) es c.tables.ensures.accepted run).short in
    let few : length t.work.txs ≤ 20000 = c.tables.ensures.accepted.accepted.few_txs in
    omega (arith, short, few, length-map c.args.kept.now event_meant)
