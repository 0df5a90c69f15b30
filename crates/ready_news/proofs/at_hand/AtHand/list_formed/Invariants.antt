use Rattle.std.specs.List.{flat_map}
use Rattle.std.proofs.Common.{map, take}
use Rattle.ready_listing.specs.Listed.{Adds}
use Rattle.protocol.specs.Meant.{actor_number}
use Rattle.ready_news.specs.InPost.{arrives_at}
use Rattle.ready_news.proofs.at_hand.AtHand.list_formed.Given as goal

abbrev pub invariant-loop-a : goal.invariant-loop-a
invariant-loop-a l = Adds l.fn.news.items l.news.items (flat_map (arrives_at l.k.0) (map actor_number (take l.a-index l.a-items)))
