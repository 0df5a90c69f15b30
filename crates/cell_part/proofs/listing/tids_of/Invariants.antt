use Rattle.std.proofs.Common.{◌≡◌, map, take}
use Rattle.protocol.specs.Meant.{tid_number}
use Rattle.cell_part.proofs.listing.tids_of.Given as goal

abbrev pub invariant-loop-item : goal.invariant-loop-item
invariant-loop-item g l = map tid_number l.tids.items ≡ map g.T.Kept.number (take l.item-index l.items)
