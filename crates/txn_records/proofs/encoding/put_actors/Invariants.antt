use Rattle.std.proofs.Common.{◌≡◌, ◌++◌, take}
use Rattle.txn_records.specs.Records.{actors_bytes}
use Rattle.txn_records.proofs.encoding.put_actors.Given as goal

abbrev pub invariant-loop-actor : goal.invariant-loop-actor
invariant-loop-actor l = l.out.items ≡ l.fn.out.items ++ actors_bytes (take l.actor-index l.actors)
