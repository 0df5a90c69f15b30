use Rattle.std.proofs.Common.{◌≡◌, map, take}
use Rattle.protocol.specs.Meant.{actor_number}
use Rattle.batch_table.proofs.actors.ids.Given as goal

abbrev pub invariant-loop-entry : goal.invariant-loop-entry
invariant-loop-entry l = map actor_number l.ids.items ≡ map (λ p. p.actor) (take l.entry-index l.actors)
