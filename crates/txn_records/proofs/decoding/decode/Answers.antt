use Rattle.std.proofs.Common.{sym, ◌∙◌, arith}
use Rattle.txn_records.proofs.FirstBad.{first_bad, not_bad}
use Rattle.txn_records.proofs.OneRecord.{one_record}
use Rattle.txn_records.proofs.RecordSizes.{gone_is_short}
use Rattle.txn_records.proofs.decoding.decode.Goals as goal

pub returns-in-Ok-clause-only : goal.returns-in-Ok-clause-only
returns-in-Ok-clause-only c = λ r p e. one_record _ r c.in-Ok.ensures.0 p (sym c.in-Ok.ensures.1 ∙ e)

pub returns-in-Err-Left-clause-bad : goal.returns-in-Err-Left-clause-bad
returns-in-Err-Left-clause-bad c = first_bad _ _ (rw c.in-Err-Left.field-0-is at c.in-Err-Left.ensures)

pub returns-in-Err-Left-clause-only : goal.returns-in-Err-Left-clause-only
returns-in-Err-Left-clause-only c = λ r p e. absurd (not_bad _ _ r p e (rw c.in-Err-Left.field-0-is at c.in-Err-Left.ensures))

pub overflow_cast-result : goal.overflow_cast-result
overflow_cast-result c =
    omega (arith, gone_is_short c.args.bytes.now c.in-Err-Left.left (rw c.in-Err-Left.field-0-is at c.in-Err-Left.ensures))
