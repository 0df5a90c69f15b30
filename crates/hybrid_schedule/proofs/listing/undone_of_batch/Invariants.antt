use Rattle.std.proofs.Common.{◌≡◌, map, take}
use Rattle.protocol.specs.Meant.{tid_number}
use Rattle.hybrid_schedule.specs.Listed.{undone_by}
use Rattle.hybrid_schedule.proofs.listing.undone_of_batch.Given as goal

abbrev pub invariant-loop-entry : goal.invariant-loop-entry
invariant-loop-entry l = map tid_number l.tids.items ≡ undone_by l.k.0 (take l.entry-index l.entries)
