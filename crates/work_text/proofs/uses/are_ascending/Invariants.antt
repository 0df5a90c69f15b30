use Rattle.std.proofs.Common.{ℕ, ◌+◌, ◌<◌, get_or}
use Rattle.snap_base.specs.declared.ids.ActorId.{ActorId}
use Rattle.work_text.proofs.uses.are_ascending.Given as goal

abbrev pub invariant-loop-at : goal.invariant-loop-at
invariant-loop-at l = (d : ActorId × ℕ) (k : ℕ) → k + 1 < l.at → (get_or l.uses k d).0.0 < (get_or l.uses (k + 1) d).0.0
