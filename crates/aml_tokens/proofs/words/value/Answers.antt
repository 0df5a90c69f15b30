use Rattle.std.proofs.Common.{arith}
use Rattle.aml_tokens.proofs.Numerals.{one_digit_more}
use Rattle.aml_tokens.proofs.words.value.Goals as goal

pub loop-digit-preserved : goal.loop-digit-preserved
loop-digit-preserved c =
    one_digit_more c.args.digits.now c.loop-digit.digit-index _ _ _ _ _ c.requires (omega arith) c.from.ensures c.loop-digit.invariant c.saturating_mul.ensures c.saturating_add.ensures c.min-n.ensures
