use Rattle.std.proofs.Common.{◌<◌, ◌≤◌, length, map, arith, subst, Contains, Err, Ok}
use Rattle.std.specs.Result.{OnErr}
use Rattle.std.specs.declared.result.Result.{Result}
use Rattle.core_events.specs.Meant.{event_meant}
use Rattle.protocol.specs.Events.{Event}
use Rattle.ready_list.specs.Order.{kind_of}
use Rattle.ready_list.specs.Rings.{spare_at}
use Rattle.ready_list.proofs.AmongRings.{roomier_through}
use Rattle.ready_list.proofs.Roomed.{meant_among, room_all, room_more}
use Rattle.ready_list.proofs.rings.room_for.Goals as goal

given : {T E : Type 0} (r : Result T E) (P : Type 0) → P → OnErr r P
given (Ok x) P p = tt
given (Err e) P p = p

pub returns-in_err-room_at-clause-needed : goal.returns-in_err-room_at-clause-needed
returns-in_err-room_at-clause-needed c =
    let less : spare_at c.args.kinds.now.items c.kind_of.result < length c.args.news.now = omega (arith, c.in_err-room_at.ensures.needed, c.loop-e.invariant.kept.spare c.kind_of.result) in
    let found : (f : Event) × Contains (map event_meant c.args.news.now) f × (spare_at c.args.kinds.now.items (kind_of f) < length c.args.news.now) =
    (_, meant_among c.args.news.now c.loop-e.e-index _ c.loop-e-test.true, subst (λ k. spare_at c.args.kinds.now.items k < length c.args.news.now) c.kind_of.ensures.value less) in
    given _ _ found

pub loop-e-preserved : goal.loop-e-preserved
loop-e-preserved c = record {
  kept = roomier_through c.args.kinds.now.items c.loop-e.kinds.items c.room_at.new.kinds.items c.loop-e.invariant.kept c.room_at.ensures.kept;
  room = room_more c.args.news.now c.loop-e.e-index _ (length c.args.news.now) c.loop-e.kinds.items c.room_at.new.kinds.items c.loop-e-test.true c.loop-e.invariant.room c.room_at.ensures.kept
      (subst (λ k. length c.args.news.now ≤ spare_at c.room_at.new.kinds.items k) c.kind_of.ensures.value c.in_ok-room_at.ensures.ok);
}

pub returns-clause-ok : goal.returns-clause-ok
returns-clause-ok c = room_all c.args.news.now c.loop-e.e-index (length c.args.news.now) c.loop-e.kinds.items c.loop-e-test.false c.loop-e.invariant.room
