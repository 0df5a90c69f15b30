use Rattle.std.proofs.Common.{◌≡◌, true, ◌++◌, drop}
use Rattle.std.specs.Prelude.{filter, not}
use Rattle.std.specs.List.{AllByRecursion}
use Rattle.protocol.specs.Fixed.{Text}
use Rattle.audit_words.specs.Seen.{Seen, was_admitted, was_given_up}
use Rattle.audit_tale.specs.Knows.{Knows}
use Rattle.audit_tale.specs.Rivalry.{locks}
use Rattle.audit_tale.proofs.tail_group.not_given_up.Given as goal

abbrev pub invariant-loop-t : goal.invariant-loop-t
invariant-loop-t l =
    (w : Text) (s : Seen) → Knows w l.tale s → AllByRecursion (λ x. was_admitted x.tid s ≡ true) (locks s l.met)
    → locks s l.ahead.items ++ filter (λ x. not (was_given_up s.dooms x.tid)) (locks s (drop l.t-index l.met)) ≡ filter (λ x. not (was_given_up s.dooms x.tid)) (locks s l.met)
