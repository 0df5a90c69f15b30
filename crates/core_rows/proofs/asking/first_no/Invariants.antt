use Rattle.std.proofs.Common.{◌≡◌, ◌+◌, drop}
use Rattle.protocol.specs.Conditions.{first_false}
use Rattle.core_rows.proofs.asking.first_no.Given as goal

abbrev pub invariant-loop-answer : goal.invariant-loop-answer
invariant-loop-answer l = (l.rule ≡ l.answer-index + 1) × (first_false 1 l.answers ≡ first_false l.rule (drop l.answer-index l.answers))
