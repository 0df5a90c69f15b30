use Rattle.std.proofs.Common.{subst}
use Rattle.ready_listing.specs.Listed.{Adds}
use Rattle.ready_listing.proofs.Adding.{adds_none}
use Rattle.ready_news.specs.InCells.{of_shown, wakes}
use Rattle.ready_news.proofs.Common.{at_none}
use Rattle.ready_news.proofs.at_hand.AtHand.list_woken.Goals as goal

pub returns-in_default : goal.returns-in_default
returns-in_default c =
    subst (λ o. Adds c.args.news.now.items c.args.news.now.items (of_shown (wakes c.args.a.0) o)) (at_none (λ x. x.now.cell) _ _ c.cell.ensures c.in_default.not-Some) (adds_none c.args.news.now.items)
