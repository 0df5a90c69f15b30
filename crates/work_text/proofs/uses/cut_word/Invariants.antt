use Rattle.std.proofs.Common.{length, ◌-◌, ◌≤◌, take}
use Rattle.work_text.specs.Parts.{IsWithoutColon}
use Rattle.work_text.proofs.uses.cut_word.Given as goal

abbrev pub invariant-loop-at : goal.invariant-loop-at
invariant-loop-at l = record { within : l.at ≤ length l.word; free : IsWithoutColon (take l.at l.word) }

abbrev pub decreases-loop-at : goal.decreases-loop-at
decreases-loop-at l = length l.word - l.at
