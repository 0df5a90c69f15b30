use Rattle.std.proofs.Common.{◌++◌, length, map, sym, ap, ◌∙◌}
use Rattle.std.proofs.lemmas.Bool.{ltb-true}
use Rattle.core_events.specs.Meant.{event_meant}
use Rattle.ready_listing.proofs.Adding.{adds_none}
use Rattle.ready_news.proofs.InCells.{not_there}
use Rattle.ready_listing.specs.Listed.{of_place}
use Rattle.ready_news.proofs.at_hand.AtHand.list_here.Goals as goal

pub returns-then-not-has_actor : goal.returns-then-not-has_actor
returns-then-not-has_actor c =
    adds_none c.args.news.now.items
    ∙ ap (λ o. map event_meant c.args.news.now.items ++ of_place c.args.a.0 o) (sym (not_there c.args.self.now.hand.now c.args.a.0 (sym c.has_actor.ensures ∙ c.if-not-has_actor.true)))

pub list_place-requires : goal.list_place-requires
list_place-requires c = ltb-true c.args.a.0 (length c.args.self.now.hand.now.cells) (sym c.has_actor.ensures ∙ c.if-not-has_actor.false)
