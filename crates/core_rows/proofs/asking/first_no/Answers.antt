use Rattle.std.proofs.Common.{◌≡◌, ℕ, ◌+◌, ◌<◌, Bool, true, false, List, length, drop, get_or, sym, ◌∙◌, refl, arith, add-one, drop-cons}
use Rattle.protocol.specs.Conditions.{first_false}
use Rattle.core_rows.proofs.asking.first_no.Goals as goal

no_at : (bs : List Bool) (i rule : ℕ) → i < length bs → get_or bs i false ≡ false → first_false rule (drop i bs) ≡ rule
no_at bs i rule inside is = rw (drop-cons bs i false, is) refl

yes_at : (bs : List Bool) (i rule : ℕ) → i < length bs → get_or bs i false ≡ true → first_false rule (drop i bs) ≡ first_false (rule + 1) (drop (i + 1) bs)
yes_at bs i rule inside is = rw (add-one i, drop-cons bs i false, is) refl

pub returns-then-not-answer : goal.returns-then-not-answer
returns-then-not-answer c = sym (c.loop-answer.invariant.1 ∙ no_at c.args.answers.now c.loop-answer.answer-index c.loop-answer.rule c.loop-answer-test.true c.if-not-answer.true)

pub loop-answer-preserved : goal.loop-answer-preserved
loop-answer-preserved c = (omega arith, c.loop-answer.invariant.1 ∙ yes_at c.args.answers.now c.loop-answer.answer-index c.loop-answer.rule c.loop-answer-test.true c.if-not-answer.false)
