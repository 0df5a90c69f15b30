use Rattle.std.specs.List.{flat_map}
use Rattle.std.proofs.Common.{map, take}
use Rattle.ready_listing.specs.Listed.{Adds}
use Rattle.listing_facts.specs.post_box.Listed.{control_listed}
use Rattle.ready_news.specs.InPost.{of_coming}
use Rattle.ready_news.proofs.at_hand.AtHand.list_comings.Given as goal

abbrev pub invariant-loop-p : goal.invariant-loop-p
invariant-loop-p l = Adds l.fn.news.items l.news.items (flat_map of_coming (map control_listed (take l.p-index l.p-items)))
