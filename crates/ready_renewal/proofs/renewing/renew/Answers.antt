use Rattle.std.proofs.Common.{arith, map, subst, ap, ◌∙◌}
use Rattle.protocol_ready.specs.Ready.{without}
use Rattle.core_events.specs.Meant.{event_meant}
use Rattle.ready_list.specs.Order.{kind_of}
use Rattle.snap_hand.specs.Tables.{fixed_of}
use Rattle.ready_renewal.specs.Asked.{IsWith, IsWithout}
use Rattle.ready_renewal.proofs.KeptEvents.{renewed}
use Rattle.ready_renewal.proofs.renewing.renew.Goals as goal

pub put_in-requires-clause-room : goal.put_in-requires-clause-room
put_in-requires-clause-room c = λ f there. omega (arith, c.in_ok-room.ensures.ok f there, c.take.ensures.no_less (kind_of f), c.take_out.ensures.no_less (kind_of f))

pub returns-clause-renewed : goal.returns-clause-renewed
returns-clause-renewed c =
    let w = fixed_of c.args.tables.now in
    let h = c.args.hand.now in
    let news = c.touched.new.events.items in
    let middle = c.take_out.new.list.events in
    let e = event_meant c.args.e in
    let old = c.args.list.now.events in
    let out : IsWithout (map event_meant c.in_ok-gone.gone.items) (without e old) middle =
    subst (λ v. IsWithout (map event_meant v) (without e old) middle) c.deref.ensures.value
    (subst (λ v. IsWithout (map event_meant c.deref.result.now) v middle) (c.take.ensures.events ∙ ap (without e) c.room.ensures.unchanged) c.take_out.ensures.without) in
    let in_again : IsWith w h (map event_meant news) middle c.put_in.new.list.events =
    subst (λ v. IsWith w h (map event_meant v) middle c.put_in.new.list.events) c.as_slice-listed.ensures.value c.put_in.ensures in
    renewed w h e (map event_meant c.args.news.now.items) (map event_meant news) (map event_meant c.in_ok-gone.gone.items) old middle c.put_in.new.list.events
    c.runs_go_on.ensures c.allowed_or_refused.ensures c.parts_tell_all.ensures.told c.renewed_are_enabled.ensures c.no_event_is_allowed_again.ensures c.one_is_taken.ensures.others c.one_is_taken.ensures.kept c.events_stay_in_order.ensures.without
    c.in_ok-touched.ensures c.in_ok-gone.ensures out in_again
