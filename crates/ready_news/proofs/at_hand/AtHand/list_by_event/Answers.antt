use Rattle.std.specs.List.{flat_map}
use Rattle.std.proofs.Common.{subst, ◌∙◌}
use Rattle.std.proofs.lemmas.List.{map-id}
use Rattle.core_events.specs.Meant.{event_meant}
use Rattle.ready_listing.specs.Listed.{Adds}
use Rattle.snap_hand.specs.Tables.{text_of}
use Rattle.ready_news.specs.ByEvent.{of_look}
use Rattle.ready_news.specs.Looks.{looks_of}
use Rattle.ready_news.proofs.Common.{adds_next, adds_each}
use Rattle.ready_news.proofs.at_hand.AtHand.list_by_event.Goals as goal

pub loop-look-preserved : goal.loop-look-preserved
loop-look-preserved c b s =
    let at = c.args.self.now in
    adds_next (of_look (text_of at.tables.now) at.hand.now at.next at.ring.now b at.post.now.messages at.desk.now c.names_of-names.result) (λ x. x) c.looks_of-look-items.result.now c.loop-look.look-index _ c.args.news.now.items c.loop-look.news.items c.list_look.new.news.items c.loop-look-test.true (c.loop-look.invariant b s)
    (c.in_ok-list_look.ensures b s)

pub returns : goal.returns
returns c b s =
    let at = c.args.self.now in
    let of_names = of_look (text_of at.tables.now) at.hand.now at.next at.ring.now b at.post.now.messages at.desk.now in
    let old = c.args.news.now.items in
    let new = c.loop-look.news.items in
    let looks = c.looks_of-look-items.result.now in
    subst (λ n. Adds old new (flat_map (of_names n) (looks_of (event_meant c.args.e)))) c.names_of-names.ensures
    (adds_each (of_names c.names_of-names.result) (λ x. x) looks _ c.loop-look.look-index old new (map-id looks ∙ c.looks_of-look-items.ensures) c.loop-look-test.false (c.loop-look.invariant b s))
