use Rattle.std.proofs.Common.{map, ap, ◌∙◌}
use Rattle.core_events.specs.Meant.{event_meant}
use Rattle.snap_hand.specs.Tables.{fixed_of}
use Rattle.ready_listing.proofs.Picking.{are_offers}
use Rattle.ready_listing.proofs.offering.offers.Goals as goal

pub returns : goal.returns
returns c =
    are_offers (fixed_of c.args.tables.now) c.args.hand.now (map event_meant c.deref.result.now) c.in_ok-list.list.events c.requires.places
    (λ b shows. ap (map event_meant) c.deref.ensures.value ∙ c.in_ok-events.ensures b shows)
    c.allowed_or_refused.ensures c.sizes_hold.ensures c.parts_list_all.ensures.post c.parts_list_all.ensures.cell c.parts_list_all.ensures.desk c.run_parts_list_all.ensures c.parts_tell_all.ensures.told
    c.in_ok-list.ensures
