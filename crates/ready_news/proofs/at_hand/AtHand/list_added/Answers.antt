use Rattle.std.proofs.Common.{slice_get, subst, OnOk}
use Rattle.ready_listing.specs.Listed.{Adds}
use Rattle.protocol.specs.Events.{Sync}
use Rattle.ready_news.specs.InBook.{only}
use Rattle.ready_news.specs.InRing.{is_lone_in}
use Rattle.ready_news.proofs.at_hand.AtHand.list_added.Goals as goal

pub returns : goal.returns
returns c =
    let old = c.args.news.now.items in
    let new = c.push_if.new.news.items in
    subst (λ n. OnOk c.push_if.result (Adds old new (only (is_lone_in (slice_get c.args.self.now.hand.now.logs n)) (Sync n)))) c.log_at-l.ensures
    (subst (λ p. OnOk c.push_if.result (Adds old new (only p (Sync c.log_at-l.result)))) c.is_lone.ensures c.push_if.ensures)
