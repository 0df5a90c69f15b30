use Rattle.work_text.proofs.WordCuts.{AreFound}
use Rattle.work_text.proofs.numbers.words_of.Given as goal

abbrev pub invariant-loop-at : goal.invariant-loop-at
invariant-loop-at l = AreFound (λ word. word.now) l.line l.words.items l.from l.at
