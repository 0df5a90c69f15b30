use Rattle.std.proofs.Common.{subst, OnOk}
use Rattle.ready_listing.specs.Listed.{Adds}
use Rattle.ready_listing.proofs.Adding.{adds_none}
use Rattle.protocol.specs.Events.{Send, End}
use Rattle.ready_news.specs.InBook.{only}
use Rattle.ready_news.specs.InCells.{of_shown, left_by}
use Rattle.ready_news.proofs.Common.{ok_both, at_none, at_some}
use Rattle.ready_news.proofs.at_hand.AtHand.list_left.Goals as goal

pub returns-in_default : goal.returns-in_default
returns-in_default c =
    subst (λ o. Adds c.args.news.now.items c.args.news.now.items (of_shown (left_by c.args.t.0 c.args.a.0) o)) (at_none (λ x. x.now.cell) _ _ c.cell.ensures c.in_default.not-Some) (adds_none c.args.news.now.items)

pub returns : goal.returns
returns c =
    let t = c.args.t.0 in
    let a = c.args.a.0 in
    let old = c.args.news.now.items in
    let sent = c.push_if.new.news.items in
    let ended = c.push_if-2.new.news.items in
    let send = subst (λ p. Adds old sent (only p (Send t a))) c.has_going.ensures c.in_ok-push_if.ensures in
    let end = subst (λ p. OnOk c.push_if-2.result (Adds sent ended (only p (End t a)))) c.has_ended.ensures c.push_if-2.ensures in
    subst (λ o. OnOk c.push_if-2.result (Adds old ended (of_shown (left_by t a) o))) (at_some (λ y. y.now.cell) _ _ _ c.cell.ensures c.in-Some.is)
    (ok_both c.push_if-2.result old sent ended _ _ send end)
