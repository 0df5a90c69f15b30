use Rattle.std.specs.List.{flat_map}
use Rattle.std.proofs.Common.{map, take}
use Rattle.ready_listing.specs.Listed.{Adds}
use Rattle.protocol.specs.Meant.{tid_number}
use Rattle.ready_news.specs.InPost.{takes_at}
use Rattle.ready_news.proofs.at_hand.AtHand.list_takes.Given as goal

abbrev pub invariant-loop-t : goal.invariant-loop-t
invariant-loop-t l = Adds l.fn.news.items l.news.items (flat_map (takes_at l.a.0 l.self.post.now.messages) (map tid_number (take l.t-index l.t-items)))
