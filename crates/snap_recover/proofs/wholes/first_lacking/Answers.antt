use Rattle.std.proofs.Common.{◌≡◌, ◌+◌, true, false, take, drop, get_or, sym, ◌∙◌}
use Rattle.snap_base.specs.declared.ids.ActorId.{ActorId}
use Rattle.std.proofs.lemmas.List.{get_or_default}
use Rattle.snap_recover.specs.Passes.{InPair}
use Rattle.snap_recover.proofs.Steps.{split_at, all_step}
use Rattle.snap_recover.proofs.wholes.first_lacking.Goals as goal

pub returns-then-not-has_pair : goal.returns-then-not-has_pair
returns-then-not-has_pair c =
    let i = c.loop-actor.actor-index in
    let a : ActorId = get_or c.args.actors.now i (record { 0 = 0 }) in (
      take i c.args.actors.now,
      drop (i + 1) c.args.actors.now,
      split_at c.args.actors.now i a c.loop-actor-test.true (get_or_default c.args.actors.now i (record { 0 = 0 }) a c.loop-actor-test.true),
      c.loop-actor.invariant,
      λ h. let bad : true ≡ false = sym (c.has_pair.ensures.1 h) ∙ c.if-not-has_pair.true in absurd (cc),
    )

pub loop-actor-preserved : goal.loop-actor-preserved
loop-actor-preserved c =
    let i = c.loop-actor.actor-index in
    let a : ActorId = get_or c.args.actors.now i (record { 0 = 0 }) in
    all_step (λ (b : ActorId). InPair c.args.parts.now (c.args.number, b.0)) c.args.actors.now i a c.loop-actor-test.true (get_or_default c.args.actors.now i (record { 0 = 0 }) a c.loop-actor-test.true)
    c.loop-actor.invariant (c.has_pair.ensures.0 c.if-not-has_pair.false)
