use Rattle.std.proofs.Common.{◌++◌, string_bytes, ap, sym, ◌∙◌}
use Rattle.work_gen.specs.Generated.{actor_line}
use Rattle.work_gen.proofs.Growing.{one_more, whole_line}
use Rattle.work_gen.proofs.texts.push_actors.Goals as goal

pub loop-actor-preserved : goal.loop-actor-preserved
loop-actor-preserved c =
    let i = c.loop-actor.actor in
    c.in_ok-push_actor.ensures ∙ ap (λ t. string_bytes c.loop-actor.text ++ t) (sym (whole_line i)) ∙ one_more (string_bytes c.args.text.now) (string_bytes c.loop-actor.text) actor_line i c.loop-actor.invariant
