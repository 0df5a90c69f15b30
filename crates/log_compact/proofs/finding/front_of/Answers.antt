use Rattle.log_compact.proofs.ReadFronts.{two_read, stopped}
use Rattle.log_compact.proofs.finding.front_of.Goals as goal

pub returns-then-len-eq2 : goal.returns-then-len-eq2
returns-then-len-eq2 c = two_read c.args.items.now c.loop-item.item-index c.loop-item.front c.loop-item.invariant (cc (c.len.ensures, c.if-len-eq2.true))

pub returns-in-None : goal.returns-in-None
returns-in-None c =
    stopped c.args.items.now c.loop-item.item-index c.item-item.result c.loop-item.front c.loop-item.invariant c.loop-item-test.true c.item-item.is
    (rw c.in-None.is at c.in_ok-record.ensures)
