use Rattle.std.specs.List.{flat_map}
use Rattle.std.proofs.Common.{map, take}
use Rattle.book_part.specs.Halves.{Shows}
use Rattle.ready_listing.specs.Listed.{Adds}
use Rattle.protocol.specs.Meant.{tid_number}
use Rattle.protocol.specs.Parts.{Book}
use Rattle.ready_news.specs.ByEvent.{of_gone}
use Rattle.ready_news.proofs.at_hand.AtHand.list_all_gone.Given as goal

abbrev pub invariant-loop-t : goal.invariant-loop-t
invariant-loop-t l = (b : Book) → Shows l.self.book.now b → Adds l.fn.news.items l.news.items (flat_map (of_gone b) (map tid_number (take l.t-index l.t-items)))
