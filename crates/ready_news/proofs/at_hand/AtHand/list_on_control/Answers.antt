use Rattle.std.specs.Option.{option_map}
use Rattle.std.proofs.Common.{subst, OnOk}
use Rattle.ready_listing.specs.Listed.{Adds}
use Rattle.protocol.specs.Conditions.{is_not_doomed}
use Rattle.protocol.specs.Events.{DropControl}
use Rattle.protocol.specs.Words.{control_of}
use Rattle.listing_facts.specs.post_box.Posting.{message_to}
use Rattle.ready_news.specs.InBook.{only}
use Rattle.ready_news.specs.InPost.{comes_to, is_dropped}
use Rattle.ready_news.proofs.Common.{ok_both}
use Rattle.ready_news.proofs.at_hand.AtHand.list_on_control.Goals as goal

pub returns : goal.returns
returns c b s =
    let t = c.args.t.0 in
    let p = c.args.self.now.post.now.messages in
    let to = option_map message_to (control_of t p.controls) in
    let old = c.args.news.now.items in
    let sent = c.list_control.new.news.items in
    ok_both c.push_if.result old sent c.push_if.new.news.items (comes_to t c.args.self.now.hand.now.cells (is_not_doomed t b.acts) to) (only (is_dropped t b p) (DropControl t)) (c.in_ok-list_control.ensures b s)
    (subst (λ q. OnOk c.push_if.result (Adds sent c.push_if.new.news.items (only q (DropControl t)))) (c.is_dropped.ensures b s) c.push_if.ensures)
