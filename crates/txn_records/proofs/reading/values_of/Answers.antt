use Rattle.std.proofs.Common.{arith, FitsSigned}
use Rattle.std.specs.Int.{w64}
use Rattle.std.proofs.lemmas.Int.{to_z-of_z}
use Rattle.std.proofs.lemmas.Result.{err_from_is_err_and}
use Rattle.txn_records.specs.Records.{field_bytes}
use Rattle.txn_records.proofs.OneRecord.{fields_apart}
use Rattle.txn_records.proofs.SoFar.{list_begins, list_more, list_fails}
use Rattle.txn_records.proofs.reading.values_of.Goals as goal

pub loop-i-init : goal.loop-i-init
loop-i-init c = list_begins (FitsSigned w64) field_bytes _ _ _ c.new-values.ensures

pub returns-in_err-value : goal.returns-in_err-value
returns-in_err-value c =
    let p = err_from_is_err_and c.from_residual.result c.from_residual.ensures.1 in
    rw (p.1, p.2) (list_fails (FitsSigned w64) field_bytes _ _ _ _ _ _ _ c.loop-i-test.true c.loop-i.invariant c.in_err-value.ensures)

pub loop-i-preserved : goal.loop-i-preserved
loop-i-preserved c =
    list_more (FitsSigned w64) field_bytes fields_apart _ _ _ _ _ _ _ _ _ c.loop-i-test.true c.in_ok-value.ensures.0 c.in_ok-value.ensures.1
    (rw (to_z-of_z w64 c.in_ok-value.value c.in_ok-value.ensures.0) at c.in_ok-push.ensures) c.loop-i.invariant

pub returns : goal.returns
returns c = ((omega (arith, c.loop-i.invariant.len), c.loop-i.invariant.each), c.loop-i.invariant.spelled)
