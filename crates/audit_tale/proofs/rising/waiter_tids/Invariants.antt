use Rattle.std.proofs.Common.{◌≡◌, map, take}
use Rattle.audit_tale.proofs.rising.waiter_tids.Given as goal

abbrev pub invariant-loop-waiter : goal.invariant-loop-waiter
invariant-loop-waiter l = l.tids.items ≡ map (λ x. x.tid) (take l.waiter-index l.waiters)
