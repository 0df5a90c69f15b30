use Rattle.std.proofs.Common.{◌<◌, get_or, arith}
use Rattle.snap_base.specs.declared.ids.ActorId.{ActorId}
use Rattle.snap_base.proofs.Lists.{each_here}
use Rattle.std.proofs.lemmas.List.{get_or_default}
use Rattle.snap_recover.proofs.Steps.{mapped}
use Rattle.snap_recover.proofs.ranges.all_actors_below.Goals as goal

pub returns-then-a-actors : goal.returns-then-a-actors
returns-then-a-actors c = (
  λ bad. absurd (cc),
  λ all.
      let a : ActorId = get_or c.args.named.now c.loop-a.a-index (record { 0 = 0 }) in
      let low = each_here (λ (a : ActorId). a.0 < c.args.actors) c.args.named.now c.loop-a.a-index a c.loop-a-test.true (get_or_default c.args.named.now c.loop-a.a-index (record { 0 = 0 }) a c.loop-a-test.true)
      (mapped (λ (a : ActorId). a.0) (λ n. n < c.args.actors) c.args.named.now all) in
      absurd (omega (arith, low, c.if-a-actors.true)),
)
