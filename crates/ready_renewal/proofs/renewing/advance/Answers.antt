use Rattle.std.proofs.Common.{arith, map, subst, ap, ◌∙◌}
use Rattle.core_events.specs.Meant.{event_meant}
use Rattle.protocol_ready.specs.Ready.{without}
use Rattle.ready_list.specs.Order.{kind_of}
use Rattle.snap_hand.specs.Tables.{fixed_of}
use Rattle.ready_renewal.specs.Asked.{IsWithAll}
use Rattle.ready_renewal.proofs.Advanced.{advanced}
use Rattle.ready_renewal.proofs.renewing.advance.Goals as goal

pub put_all-requires : goal.put_all-requires
put_all-requires c = λ f there. omega (arith, c.in_ok-room.ensures.ok f there, c.take.ensures.no_less (kind_of f))

pub returns-clause-advanced : goal.returns-clause-advanced
returns-clause-advanced c =
    let e = event_meant c.args.e in
    let old = c.args.list.now.events in
    let new = c.put_all.new.list.events in
    let news = c.touched.new.events.items in
    let more : IsWithAll (map event_meant news) (without e old) new =
    subst (λ v. IsWithAll (map event_meant v) (without e old) new) c.as_slice-listed.ensures.value
    (subst (λ v. IsWithAll (map event_meant c.as_slice-listed.result.now) v new) (c.take.ensures.events ∙ ap (without e) c.room.ensures.unchanged) c.put_all.ensures) in
    advanced (fixed_of c.args.tables.now) c.args.hand.now e (map event_meant c.args.news.now.items) (map event_meant news) old new
    c.allowed_or_refused.ensures c.parts_tell_all.ensures.told c.untouched_stay.ensures c.states_are_sound.ensures
    c.in_ok-touched.ensures c.no_event_is_allowed_again.ensures c.one_is_taken.ensures.kept c.events_stay_in_order.ensures.without more
