use Rattle.std.proofs.Common.{◌<◌, ◌≤◌, ◌⊎◌, inl, inr, ap, arith}
use Rattle.protocol.specs.Words.{is_live_batch}
use Rattle.protocol.specs.Numbers.{one_if}
use Rattle.batch_table.proofs.Unfinished.{none_going, none_live_before, some_left, counted_before}
use Rattle.batch_table.proofs.listing.first_going.Goals.{then-front-first, else-front-first+then-found-live}
use Rattle.batch_table.proofs.listing.first_going.Goals as goal

pub overflow_add-found : goal.overflow_add-found
overflow_add-found c =
    let bs = c.args.batches.now in
    let first = c.loop-first.first in
    let left : (c.args.front < first) ⊎ (c.loop-first.found < c.args.live) = elim c.if-front-first.branch [ then-front-first w ↦ inl (omega (arith, w.if-front-first.true)) | else-front-first+then-found-live w ↦ inr (omega (arith, w.if-found-live.true)) ] in
    let some : 1 ≤ first = some_left first c.args.front c.loop-first.found c.args.live bs c.requires.counted c.loop-first.invariant.counted left in
    let all = counted_before first bs c.index-batches-first.result some c.loop-first.invariant.within in
    omega (arith, all, c.loop-first.invariant.counted, c.requires.counted, c.ranges.live.fits, ap one_if (ap is_live_batch c.index-batches-first.is), ap one_if c.is_live.ensures, ap one_if c.if-is_live.true)

pub returns-clause-over : goal.returns-clause-over
returns-clause-over c =
    none_going c.loop-first.first c.args.front c.args.batches.now (omega (arith, c.if-front-first.false)) c.requires.parted
    (none_live_before c.loop-first.first c.args.batches.now c.loop-first.found c.args.live c.requires.counted c.loop-first.invariant.counted (omega (arith, c.if-found-live.false)))
