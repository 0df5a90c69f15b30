use Rattle.std.proofs.Common.{subst, OnOk}
use Rattle.ready_listing.specs.Listed.{Adds}
use Rattle.protocol.specs.Events.{Ask}
use Rattle.ready_news.specs.InBook.{only}
use Rattle.ready_news.proofs.at_hand.AtHand.list_again.Goals as goal

pub returns : goal.returns
returns c = subst (λ p. OnOk c.push_if.result (Adds c.args.news.now.items c.push_if.new.news.items (only p (Ask c.args.t.0 c.args.a.0)))) c.goes_to.ensures c.push_if.ensures
