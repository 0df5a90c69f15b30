use Rattle.std.proofs.Common.{◌≡◌, ◌++◌, ◌==◌, map, take, drop}
use Rattle.protocol.specs.OnDesk as desk
use Rattle.batch_table.proofs.actors.trim.Given as goal

abbrev pub invariant-loop-entry : goal.invariant-loop-entry
invariant-loop-entry l = l.actors ≡ map (λ p. desk.mark_if (p.actor == l.actor.0) desk.is_trimmed p) (take l.entry-index l.initial.actors) ++ drop l.entry-index l.initial.actors
