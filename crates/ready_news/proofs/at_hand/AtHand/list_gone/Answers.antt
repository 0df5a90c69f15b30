use Rattle.std.proofs.Common.{◌++◌, [], ◌∷◌}
use Rattle.protocol.specs.Events.{DropControl}
use Rattle.ready_news.specs.InBook.{leaving_of}
use Rattle.ready_news.specs.InAnswers.{of_tx}
use Rattle.ready_news.proofs.Common.{ok_both}
use Rattle.ready_news.proofs.at_hand.AtHand.list_gone.Goals as goal

pub returns : goal.returns
returns c b s =
    let t = c.args.t.0 in
    let old = c.args.news.now.items in
    let dropped = c.push_one.new.events.items in
    let left = c.list_leaving.new.news.items in
    let new = c.list_tx.new.news.items in
    ok_both c.list_tx.result old dropped new (DropControl t ∷ []) (leaving_of b t ++ of_tx b t) c.in_ok-push_one.ensures
    (ok_both c.list_tx.result dropped left new (leaving_of b t) (of_tx b t) (c.in_ok-list_leaving.ensures b s) (c.list_tx.ensures b s))
