use Rattle.std.proofs.Common.{arith, ap, length, eq-eqb}
use Rattle.gate_log.proofs.ReadingItems.{items_more, items_torn, length-item_begins}
use Rattle.gate_log.proofs.reads.push_items.Goals as goal

pub returns-in_default : goal.returns-in_default
returns-in_default c =
    items_torn _ _ _ _ _ _ c.loop-rest.invariant.0 (λ e. let yes = eq-eqb (length c.loop-rest.rest.now) 0 (ap length e) in cc (yes, c.is_empty.ensures, c.loop-rest-test.true)) c.in_default.ensures

pub loop-rest-preserved : goal.loop-rest-preserved
loop-rest-preserved c = (
  items_more _ _ _ _ _ _ _ _ _ c.loop-rest.invariant.0 c.in-Some.ensures c.in_ok-push_item.ensures,
  omega (arith, c.loop-rest.invariant.1, length-item_begins _ _ _ c.in-Some.ensures),
)
