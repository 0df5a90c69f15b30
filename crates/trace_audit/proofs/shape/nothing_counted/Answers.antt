use Rattle.std.proofs.Common.{◌≡◌, false, replicate, rules}
use Rattle.trace_audit.proofs.Shapes.{nothing_counted}
use Rattle.trace_audit.proofs.shape.nothing_counted.Goals as goal

pub returns : goal.returns
returns c =
    let none : c.in_ok-answered.answered.items ≡ replicate c.args.txs false = search rules in
    rw none (nothing_counted c.args.txs)
