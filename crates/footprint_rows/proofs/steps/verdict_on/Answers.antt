use Rattle.footprint_rows.proofs.Moved.{has_it}
use Rattle.footprint_rows.proofs.steps.verdict_on.Goals as goal

pub verdict-requires-clause-book : goal.verdict-requires-clause-book
verdict-requires-clause-book c = has_it c.args.hand.now 1 c.has.result c.has.ensures c.if-not-has.false

pub verdict-requires-clause-desk : goal.verdict-requires-clause-desk
verdict-requires-clause-desk c = has_it c.args.hand.now 3 c.has-2.result c.has-2.ensures c.if-not-has-2.false
