use Rattle.std.proofs.Common.{subst, OnOk}
use Rattle.ready_listing.specs.Listed.{Adds}
use Rattle.protocol.specs.Events.{Decide}
use Rattle.ready_news.specs.InBook.{only}
use Rattle.ready_news.proofs.at_hand.AtHand.list_deciding.Goals as goal

pub returns : goal.returns
returns c b s = subst (λ p. OnOk c.push_if.result (Adds c.args.news.now.items c.push_if.new.news.items (only p (Decide c.args.t.0)))) (c.may_decide.ensures b s) c.push_if.ensures
