use Rattle.std.proofs.Common.{◌≡◌, ◌≤◌, drop, length}
use Rattle.std.specs.Option.{option_map}
use Rattle.protocol.specs.Meant.{tid_number}
use Rattle.protocol.specs.Words.{least_older}
use Rattle.audit_words.specs.Seen.{Seen}
use Rattle.audit_tale.specs.Rivalry.{locks}
use Rattle.audit_tale.proofs.tail_group.least_older.Given as goal

abbrev pub invariant-loop-left : goal.invariant-loop-left
invariant-loop-left l = (l.left ≤ length l.met) × ((s : Seen) → option_map tid_number l.least ≡ least_older l.t.0 (locks s (drop l.left l.met)))

abbrev pub decreases-loop-left : goal.decreases-loop-left
decreases-loop-left l = l.left
