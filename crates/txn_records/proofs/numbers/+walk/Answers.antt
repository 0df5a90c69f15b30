use Rattle.std.proofs.Common.{◌<◌, inl, inr, arith}
use Rattle.txn_records.proofs.Walks.{walk_empty, walk_digit, walk_last, walk_some, walk_next, smaller_unit}
use Rattle.txn_records.proofs.numbers.+walk.Goals as goal
use Rattle.txn_records.proofs.numbers.+walk.Goals.{then-digit-low-via-then-digit-low, then-digit-low-via-else-digit-low+then-high-unit}

pub returns-in_default : goal.returns-in_default
returns-in_default t c = walk_empty _ _ _ _ _ c.requires.unit c.requires.some c.requires.fits c.in_default.ensures.cases

pub returns-then-digit-low : goal.returns-then-digit-low
returns-then-digit-low t c =
    elim c.then-digit-low.branch [
      | then-digit-low-via-then-digit-low w ↦ walk_digit _ _ _ _ _ _ _ c.requires.unit c.requires.some c.requires.fits c.in-Some.ensures.cases.0 (inl w.if-digit-low.true)
      | then-digit-low-via-else-digit-low+then-high-unit w ↦ walk_digit _ _ _ _ _ _ _ c.requires.unit c.requires.some c.requires.fits c.in-Some.ensures.cases.0 (inr w.if-high-unit.true)
    ]

pub returns-then-more-eq0 : goal.returns-then-more-eq0
returns-then-more-eq0 t c = walk_last _ _ _ _ _ _ _ c.requires.unit c.if-more-eq0.true (omega arith) c.in-Some.ensures.cases.0 c.if-digit-low.false c.if-high-unit.false

pub walk-requires : goal.walk-requires
walk-requires t c =
    let some : 0 < c.args.more = omega arith in
    let both = walk_some _ _ _ _ _ _ _ c.requires.unit some c.requires.some c.requires.fits c.if-digit-low.false c.if-high-unit.false c.saturating_sub.ensures c.min-most.ensures in
    (omega arith, ((smaller_unit _ _ c.requires.unit some).0, (both.0, both.1)))

pub returns : goal.returns
returns t c =
    let some : 0 < c.args.more = omega arith in
    walk_next _ _ _ _ _ _ _ _ _ _ c.requires.unit some c.requires.fits c.if-digit-low.false c.if-high-unit.false c.saturating_sub.ensures c.min-most.ensures c.in-Some.ensures.cases.0 c.walk.ensures
