use Rattle.std.proofs.Common.{◌≡◌, ◌-◌, true, take, length}
use Rattle.std.specs.List.{list_all}
use Rattle.batch_table.proofs.replies.end_of_replied.Given as goal

abbrev pub invariant-loop-end : goal.invariant-loop-end
invariant-loop-end l = list_all (λ m. m) (take l.end l.marks) ≡ true

abbrev pub decreases-loop-end : goal.decreases-loop-end
decreases-loop-end l = length l.marks - l.end
