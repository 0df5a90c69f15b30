use Rattle.std.proofs.Common.{◌≡◌, map, take}
use Rattle.protocol.specs.Meant.{tid_number}
use Rattle.hybrid_schedule.specs.Listed.{rivals_among}
use Rattle.hybrid_schedule.proofs.listing.rivals_among.Given as goal

abbrev pub invariant-loop-entry : goal.invariant-loop-entry
invariant-loop-entry l = map tid_number l.tids.items ≡ rivals_among l.reader (take l.entry-index l.entries)
