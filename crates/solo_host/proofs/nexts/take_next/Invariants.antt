use Rattle.std.proofs.Common.{◌≡◌, length}
use Rattle.solo_host.proofs.Trying.{KeepsFor}
use Rattle.solo_host.proofs.nexts.take_next.Given as goal

-- each that was tried so far was refused, and is out
abbrev pub invariant-tries : goal.invariant-tries
invariant-tries l = record {
  same : l.core ≡ l.fn.core;
  kept : KeepsFor l.seed l.fn.core l.fn.list.events l.list.events;
}

-- one is taken out each time
abbrev pub decreases-tries : goal.decreases-tries
decreases-tries l = length l.list.events
