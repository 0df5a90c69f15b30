use Rattle.std.specs.List.{flat_map}
use Rattle.std.proofs.Common.{map, take}
use Rattle.book_part.specs.Halves.{Shows}
use Rattle.ready_listing.specs.Listed.{Adds}
use Rattle.protocol.specs.Meant.{actor_number}
use Rattle.protocol.specs.Parts.{Book}
use Rattle.ready_news.specs.InBook.{leaving_on}
use Rattle.ready_news.proofs.at_hand.AtHand.list_leaving.Given as goal

abbrev pub invariant-loop-a : goal.invariant-loop-a
invariant-loop-a l = (b : Book) → Shows l.self.book.now b → Adds l.fn.news.items l.news.items (flat_map (leaving_on b l.t.0) (map actor_number (take l.a-index l.a-items)))
