use Rattle.std.proofs.Common.{◌≡◌, map, take}
use Rattle.snap_base.specs.declared.ids.Bid.{Bid}
use Rattle.hybrid_schedule.specs.Listed.{incomplete_on}
use Rattle.hybrid_schedule.proofs.listing.incomplete_among.Given as goal

abbrev pub invariant-loop-entry : goal.invariant-loop-entry
invariant-loop-entry l = map (λ (k : Bid). k.0) l.bids.items ≡ incomplete_on (take l.entry-index l.entries)
