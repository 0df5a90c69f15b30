use Rattle.std.proofs.Common.{◌≡◌, length}
use Rattle.follow_rows.proofs.rounds.answers_otherwise.Given as goal

abbrev pub invariant-loop-at : goal.invariant-loop-at
invariant-loop-at l = record {
  many : length l.follower.before ≡ l.logs;
}
