use Rattle.std.proofs.Common.{subst, ◌∙◌, OnOk}
use Rattle.ready_listing.specs.Listed.{Adds}
use Rattle.protocol.specs.Events.{Abort}
use Rattle.ready_news.specs.InBook.{only}
use Rattle.ready_news.proofs.Common.{ok_both}
use Rattle.ready_news.proofs.at_hand.AtHand.list_ends.Goals as goal

pub returns : goal.returns
returns c =
    let middle = c.list_commit.new.news.items in
    ok_both c.push_if.result c.args.news.now.items middle c.push_if.new.news.items _ _ c.in_ok-list_commit.ensures
    (subst (λ p. OnOk c.push_if.result (Adds middle c.push_if.new.news.items (only p (Abort c.args.k.0)))) (c.is_some.ensures ∙ c.first_failed-failed.ensures.some) c.push_if.ensures)
