use Rattle.std.proofs.Common.{◌≡◌, ◌≤◌, true, drop, length}
use Rattle.std.specs.List.{AllByRecursion}
use Rattle.protocol.specs.Fixed.{Text}
use Rattle.protocol.specs.History.{sets_of}
use Rattle.protocol.specs.Words.{greatest}
use Rattle.audit_words.specs.Seen.{Seen, was_admitted}
use Rattle.audit_tale.specs.Knows.{Knows}
use Rattle.audit_tale.specs.Rivalry.{locks}
use Rattle.audit_tale.proofs.tail_group.greatest_before.Given as goal

abbrev pub invariant-loop-left : goal.invariant-loop-left
invariant-loop-left l =
    (l.left ≤ length l.ts) × ((w : Text) (s : Seen) → Knows w l.tale s → AllByRecursion (λ x. was_admitted x.tid s ≡ true) (locks s l.ts) → l.most.0 ≡ greatest (sets_of s.before (locks s (drop l.left l.ts))))

abbrev pub decreases-loop-left : goal.decreases-loop-left
decreases-loop-left l = l.left
