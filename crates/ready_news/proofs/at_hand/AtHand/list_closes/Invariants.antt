use Rattle.std.specs.List.{flat_map}
use Rattle.std.proofs.Common.{map, take}
use Rattle.ready_listing.specs.Listed.{Adds}
use Rattle.ready_news.specs.InCells.{close_at}
use Rattle.ready_news.proofs.at_hand.AtHand.list_closes.Given as goal

abbrev pub invariant-loop-declared : goal.invariant-loop-declared
invariant-loop-declared l = Adds l.fn.news.items l.news.items (flat_map (close_at l.t.0 l.self.hand.now) (map (λ u. u.0.0) (take l.declared-index l.declared-items)))
