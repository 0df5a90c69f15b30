use Rattle.std.specs.List.{flat_map}
use Rattle.std.proofs.Common.{◌++◌, [], length, sym, subst, OnOk}
use Rattle.ready_listing.specs.Listed.{Adds}
use Rattle.protocol.specs.Words.{below}
use Rattle.snap_hand.specs.Tables.{text_of}
use Rattle.ready_news.specs.InAnswers.{of_later}
use Rattle.ready_news.specs.ByEvent.{of_all_gone}
use Rattle.ready_news.proofs.Common.{ok_both}
use Rattle.std.proofs.Common.{append-nil}
use Rattle.ready_listing.specs.Listed.{on_ring, on_desk, on_place, on_post}
use Rattle.ready_news.proofs.at_hand.AtHand.list_aborted.Goals as goal

pub returns : goal.returns
returns c b s =
    let at = c.args.self.now in
    let w = text_of at.tables.now in
    let h = at.hand.now in
    let r = at.ring.now in
    let p = at.post.now.messages in
    let d = at.desk.now in
    let k = c.args.k.0 in
    let cells = flat_map (on_place h) (below (length h.cells)) in
    let end = c.list_all_gone.new.news.items in
    let done = c.list_all_gone.result in
    let gone = subst (λ v. OnOk done (Adds c.list_later.new.news.items end v)) (sym (append-nil (of_all_gone b))) (c.list_all_gone.ensures b s) in
    let from_later = ok_both done c.list_going.new.events.items c.list_later.new.news.items end (of_later k r.next_bid d) (of_all_gone b ++ []) c.in_ok-list_later.ensures gone in
    let from_desk = ok_both done c.list_messages.new.events.items c.list_going.new.events.items end (on_desk d) (of_later k r.next_bid d ++ (of_all_gone b ++ [])) c.in_ok-list_going.ensures from_later in
    let from_post = ok_both done c.list_cells.new.events.items c.list_messages.new.events.items end (on_post p) (on_desk d ++ (of_later k r.next_bid d ++ (of_all_gone b ++ []))) c.in_ok-list_messages.ensures from_desk in
    let from_cells = ok_both done c.list_next.new.events.items c.list_cells.new.events.items end cells (on_post p ++ (on_desk d ++ (of_later k r.next_bid d ++ (of_all_gone b ++ [])))) c.in_ok-list_cells.ensures from_post in
    ok_both done c.args.news.now.items c.list_next.new.events.items end (on_ring w.coordinators r) (cells ++ (on_post p ++ (on_desk d ++ (of_later k r.next_bid d ++ (of_all_gone b ++ []))))) c.in_ok-list_next.ensures from_cells
