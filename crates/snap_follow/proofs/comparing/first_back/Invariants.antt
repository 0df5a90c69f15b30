use Rattle.std.proofs.Common.{ℕ, ◌<◌}
use Rattle.snap_follow.specs.Rounds.{StartsWith, list_at}
use Rattle.snap_follow.proofs.comparing.first_back.Given as goal

abbrev pub invariant-loop-log : goal.invariant-loop-log
invariant-loop-log l = (n : ℕ) → n < l.log → StartsWith (list_at l.lists n) (list_at l.before n)
