use Rattle.std.proofs.Common.{◌≡◌, ◌≤◌, ◌∙◌, length, arith}
use Rattle.snap_core.proofs.InOrder.{one_more_verdict, all_verdicts}
use Rattle.snap_core.proofs.cores.Core.verdicts.Goals as goal

pub loop-n-preserved : goal.loop-n-preserved
loop-n-preserved c =
    one_more_verdict c.args.self.now c.loop-n.n c.loop-n.all.items c.push.new.self.items c.verdict.result c.loop-n.invariant c.in_ok-push.ensures.items c.verdict.ensures

pub returns : goal.returns
returns c =
    let past : c.tx_count-count.result ≤ c.loop-n.n = c.loop-n-test.false in
    let within : c.loop-n.n ≤ c.tx_count-count.result = c.loop-n.auto.n-end in
    let e : c.loop-n.n ≡ c.tx_count-count.result = omega (arith, past, within) in
    all_verdicts c.args.self.now c.loop-n.all.items c.loop-n.n (length c.args.self.now.tables.work.txs) c.loop-n.invariant (e ∙ c.tx_count-count.ensures)
