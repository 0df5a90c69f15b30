use Rattle.std.proofs.Common.{◌≤◌, arith}
use Rattle.ready_list.proofs.FirstNumbers.{found_between, in_order, none_found}
use Rattle.ready_list.proofs.numbered.with_number.Goals as goal

pub returns-then-not-stands_at : goal.returns-then-not-stands_at
returns-then-not-stands_at c =
    none_found c.args.events.now c.args.number c.count_below-start.result c.requires c.count_below-start.ensures.bound c.count_below-start.ensures.point (c.stands_at.ensures c.if-not-stands_at.true)

pub slice_bounds-result-count : goal.slice_bounds-result-count
slice_bounds-result-count c =
    in_order c.args.events.now c.args.number c.count_below-start.result c.count_up_to-end.result c.count_below-start.ensures.bound c.count_below-start.ensures.point c.count_up_to-end.ensures.point

pub slice_bounds-result-start : goal.slice_bounds-result-start
slice_bounds-result-start c =
    let order : c.count_below-start.result ≤ c.count_up_to-end.result =
    in_order c.args.events.now c.args.number c.count_below-start.result c.count_up_to-end.result c.count_below-start.ensures.bound c.count_below-start.ensures.point c.count_up_to-end.ensures.point in
    omega (arith, order, c.count_up_to-end.ensures.bound)

pub returns : goal.returns
returns c =
    found_between c.args.events.now c.args.number c.count_below-start.result c.count_up_to-end.result
    (in_order c.args.events.now c.args.number c.count_below-start.result c.count_up_to-end.result c.count_below-start.ensures.bound c.count_below-start.ensures.point c.count_up_to-end.ensures.point)
    c.count_up_to-end.ensures.bound c.count_below-start.ensures.point c.count_up_to-end.ensures.point
