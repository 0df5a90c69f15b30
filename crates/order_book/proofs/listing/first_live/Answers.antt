use Rattle.std.proofs.Common.{◌≤◌, ap, arith}
use Rattle.order_book.specs.Kept.{is_live_kept}
use Rattle.protocol.specs.Numbers.{one_if}
use Rattle.order_book.proofs.Living.{none_before, some_left, counted_before}
use Rattle.order_book.proofs.listing.first_live.Goals as goal

pub overflow_add-found : goal.overflow_add-found
overflow_add-found c =
    let rows = c.args.rows.now in
    let first = c.loop-found.first in
    let some : 1 ≤ first = some_left is_live_kept first rows c.loop-found.found c.args.live c.requires c.loop-found.invariant.counted (omega (arith, c.loop-found-test.true)) in
    let all = counted_before is_live_kept first rows c.index-rows-first.result some c.loop-found.invariant.within in
    omega (arith, all, c.loop-found.invariant.counted, c.requires, c.ranges.live.fits, ap one_if (ap is_live_kept c.index-rows-first.is), ap one_if c.is_live.ensures, ap one_if c.if-is_live.true)

pub returns-clause-none : goal.returns-clause-none
returns-clause-none c = none_before is_live_kept c.loop-found.first c.args.rows.now c.loop-found.found c.args.live c.requires c.loop-found.invariant.counted (omega (arith, c.loop-found-test.false))
