use Rattle.std.proofs.Common.{◌≡◌, ◌≤◌, ◌-◌, [], length}
use Rattle.work_text.specs.Actors.{states_in}
use Rattle.work_text.proofs.states.zero_states.Given as goal

abbrev pub invariant-loop-states : goal.invariant-loop-states
invariant-loop-states l = record { zeros : l.states.items ≡ states_in [] 0 (length l.states.items); few : length l.states.items ≤ l.actors }

abbrev pub decreases-loop-states : goal.decreases-loop-states
decreases-loop-states l = l.actors - length l.states.items
