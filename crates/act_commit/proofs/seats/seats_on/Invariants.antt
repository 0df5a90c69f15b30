use Rattle.std.proofs.Common.{◌≡◌, map, take}
use Rattle.protocol.specs.BookParts.{not_voted}
use Rattle.act_commit.specs.Words.{actor_numbers}
use Rattle.act_commit.proofs.seats.seats_on.Given as goal

abbrev pub invariant-loop-actor : goal.invariant-loop-actor
invariant-loop-actor l = l.seats.items ≡ map not_voted (actor_numbers (take l.actor-index l.actors))
