use Rattle.std.proofs.Common.{map, sym, ap, subst, ◌∙◌}
use Rattle.ready_listing.specs.Listed.{Adds}
use Rattle.ready_listing.proofs.Adding.{adds_none}
use Rattle.protocol.specs.Meant.{actor_number}
use Rattle.ready_news.specs.InBook.{preparing_on, preparing_if}
use Rattle.ready_news.proofs.Common.{adds_next, adds_each, adds_if}
use Rattle.ready_news.proofs.at_hand.AtHand.list_preparing.Goals as goal

pub returns-then-not-has_value : goal.returns-then-not-has_value
returns-then-not-has_value c b s = subst (λ p. Adds c.args.news.now.items c.args.news.now.items (preparing_if p b c.args.t.0)) (sym c.if-not-has_value.true ∙ c.has_value.ensures b s) (adds_none c.args.news.now.items)

pub loop-a-preserved : goal.loop-a-preserved
loop-a-preserved c b s =
    adds_next (preparing_on b c.args.t.0) actor_number c.deref-a-items.result.now c.loop-a.a-index _ c.args.news.now.items c.loop-a.news.items c.push_if.new.news.items c.loop-a-test.true (c.loop-a.invariant b s)
    (adds_if _ c.loop-a.news.items c.push_if.new.news.items _ _ (c.is_unprepared.ensures b s) c.in_ok-push_if.ensures)

pub returns : goal.returns
returns c b s =
    subst (λ p. Adds c.args.news.now.items c.loop-a.news.items (preparing_if p b c.args.t.0)) (sym c.if-not-has_value.false ∙ c.has_value.ensures b s)
    (adds_each (preparing_on b c.args.t.0) actor_number c.deref-a-items.result.now _ c.loop-a.a-index c.args.news.now.items c.loop-a.news.items (ap (map actor_number) c.deref-a-items.ensures.value ∙ c.in_ok-actors.ensures b s) c.loop-a-test.false (c.loop-a.invariant b s))
