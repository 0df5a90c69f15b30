use Rattle.std.specs.List.{flat_map}
use Rattle.std.proofs.Common.{map, take}
use Rattle.book_part.specs.Halves.{Shows}
use Rattle.protocol.specs.Parts.{Book}
use Rattle.ready_listing.specs.Listed.{Adds}
use Rattle.snap_hand.specs.Tables.{text_of}
use Rattle.ready_news.specs.ByEvent.{of_look}
use Rattle.ready_news.proofs.at_hand.AtHand.list_by_event.Given as goal

abbrev pub invariant-loop-look : goal.invariant-loop-look
invariant-loop-look l = (b : Book) → Shows l.self.book.now b → Adds l.fn.news.items l.news.items (flat_map (of_look (text_of l.self.tables.now) l.self.hand.now l.self.next l.self.ring.now b l.self.post.now.messages l.self.desk.now l.names) (map (λ x. x) (take l.look-index l.look-items)))
