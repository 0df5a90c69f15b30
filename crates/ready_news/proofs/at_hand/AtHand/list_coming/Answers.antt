use Rattle.std.proofs.Common.{subst, OnOk}
use Rattle.ready_listing.specs.Listed.{Adds}
use Rattle.protocol.specs.Events.{Take, Ask}
use Rattle.ready_news.specs.InBook.{only}
use Rattle.ready_news.proofs.Common.{ok_both}
use Rattle.ready_news.proofs.at_hand.AtHand.list_coming.Goals as goal

pub returns : goal.returns
returns c b s =
    let t = c.args.t.0 in
    let a = c.args.a.0 in
    let old = c.args.news.now.items in
    let asked = c.push_if.new.news.items in
    let new = c.push_if-2.new.news.items in
    ok_both c.push_if-2.result old asked new _ _ (subst (λ p. Adds old asked (only p (Ask t a))) (c.may_ask.ensures b s) c.in_ok-push_if.ensures)
    (subst (λ p. OnOk c.push_if-2.result (Adds asked new (only p (Take t a)))) c.is_placed_at.ensures c.push_if-2.ensures)
