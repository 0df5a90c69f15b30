use Rattle.std.proofs.Common.{◌≡◌, map, take}
use Rattle.protocol.specs.Meant.{subs_actor}
use Rattle.protocol.specs.OnDesk as desk
use Rattle.batch_table.proofs.batches.new_actors.Given as goal

abbrev pub invariant-loop-sub : goal.invariant-loop-sub
invariant-loop-sub l = l.actors.items ≡ map desk.new_declared (map subs_actor (take l.sub-index l.subs))
