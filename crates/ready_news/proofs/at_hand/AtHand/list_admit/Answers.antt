use Rattle.std.proofs.Common.{◌&&◌, sym, subst, OnOk}
use Rattle.ready_listing.specs.Listed.{Adds}
use Rattle.ready_listing.proofs.Adding.{adds_none}
use Rattle.protocol.specs.Conditions.{has_room_for_act}
use Rattle.protocol.specs.Events.{Admit}
use Rattle.snap_hand.specs.Tables.{text_of}
use Rattle.ready_news.specs.InBook.{only}
use Rattle.ready_news.proofs.at_hand.AtHand.list_admit.Goals as goal

pub returns-then-not-waits : goal.returns-then-not-waits
returns-then-not-waits c b s =
    subst (λ p. Adds c.args.news.now.items c.args.news.now.items (only (p && has_room_for_act (text_of c.args.self.now.tables.now) b) (Admit c.args.self.now.ring.now.next_tid))) (sym c.if-not-waits.true) (adds_none c.args.news.now.items)

pub returns : goal.returns
returns c b s =
    let old = c.args.news.now.items in
    let new = c.push_if.new.news.items in
    subst (λ p. OnOk c.push_if.result (Adds old new (only (p && has_room_for_act (text_of c.args.self.now.tables.now) b) (Admit c.args.self.now.ring.now.next_tid)))) (sym c.if-not-waits.false)
    (subst (λ p. OnOk c.push_if.result (Adds old new (only p (Admit c.args.self.now.ring.now.next_tid)))) (c.has_room_for_act.ensures b s)
    (subst (λ n. OnOk c.push_if.result (Adds old new (only c.has_room_for_act.result (Admit n)))) c.next_tid-next.ensures c.push_if.ensures))
