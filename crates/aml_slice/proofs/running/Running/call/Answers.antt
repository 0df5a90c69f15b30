use Rattle.std.proofs.Common.{[], ◌-◌, length, option_map, vec_capacity, arith}
use Rattle.aml_slice.specs.Views.{progress_with}
use Rattle.aml_slice.proofs.SpareFrames.{IsSpared, spared}
use Rattle.aml_slice.proofs.running.Running.call.Goals as goal

-- there is room for the call that was admitted
is_spared : (c : goal.After-enter-arg-1) → IsSpared (length c.args.self.now.waiting.frames.items) (vec_capacity c.args.self.now.waiting.frames - length c.args.self.now.waiting.frames.items) (option_map (λ us. us.items) c.admit.new.self.left)
is_spared c =
    spared (length c.args.self.now.waiting.frames.items) (vec_capacity c.args.self.now.waiting.frames - length c.args.self.now.waiting.frames.items) c.in_ok-actor.actor (progress_with c.args.self.now.allowance 0 []) (progress_with c.admit.new.self 0 []) (omega (arith, c.if-len-ge-MOST_OPEN_CALLS.false, c.len.ensures.here)) c.requires.rooms.frames (c.in_ok-admit.ensures.moves 0 [])

pub enter-requires-clause-rooms : goal.enter-requires-clause-rooms
enter-requires-clause-rooms c = record {
  top = c.requires.rooms.top;
  kept = c.requires.rooms.kept;
  frames = (is_spared c).still;
  few = c.requires.rooms.few;
  arguments = c.requires.rooms.arguments;
  actors = omega (arith, c.requires.rooms.actors, c.in_ok-admit.ensures.room);
  calls = c.in_ok-admit.ensures.few;
}

pub enter-requires-clause-spare : goal.enter-requires-clause-spare
enter-requires-clause-spare c = omega (arith, (is_spared c).some)

pub enter-requires-clause-enough : goal.enter-requires-clause-enough
enter-requires-clause-enough c = (is_spared c).enough
