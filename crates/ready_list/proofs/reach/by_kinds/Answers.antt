use Rattle.core_events.specs.Meant.{event_meant}
use Rattle.ready_list.proofs.Reaches.{reached}
use Rattle.ready_list.proofs.reach.by_kinds.Goals as goal

pub invariant_of-result : goal.invariant_of-result
invariant_of-result c = record {
  reached = λ f. reached (event_meant c.args.event) f c.args.wholly.now c.args.on_actor.now c.args.numbered.now c.args.actor c.args.number
      c.requires.wholly c.requires.on_actor c.requires.actor c.requires.numbered c.requires.number;
}
