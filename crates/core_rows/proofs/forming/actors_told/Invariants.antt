use Rattle.std.proofs.Common.{◌≡◌, map, take}
use Rattle.protocol.specs.Meant.{subs_actor}
use Rattle.log_set.specs.Told.{actor_of}
use Rattle.core_rows.proofs.forming.actors_told.Given as goal

abbrev pub invariant-loop-sub : goal.invariant-loop-sub
invariant-loop-sub l = l.actors.items ≡ map actor_of (map subs_actor (take l.sub-index l.subs))
