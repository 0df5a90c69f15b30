use Rattle.std.specs.List.{flat_map}
use Rattle.std.proofs.Common.{map, take}
use Rattle.ready_listing.specs.Listed.{Adds}
use Rattle.protocol.specs.Meant.{tid_number}
use Rattle.ready_news.specs.InCells.{of_late}
use Rattle.ready_news.proofs.at_hand.AtHand.list_late.Given as goal

abbrev pub invariant-loop-t : goal.invariant-loop-t
invariant-loop-t l = Adds l.fn.news.items l.news.items (flat_map (of_late l.a.0 l.desk) (map tid_number (take l.t-index l.t-items)))
