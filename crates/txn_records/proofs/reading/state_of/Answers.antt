use Rattle.std.proofs.Common.{[], refl, FitsSigned}
use Rattle.std.specs.Int.{w64}
use Rattle.std.proofs.lemmas.Result.{err_from_is_err_and}
use Rattle.txn_records.specs.Records.{field_bytes}
use Rattle.txn_records.proofs.Parts.{fails_field, state_begins, state_more, state_found}
use Rattle.txn_records.proofs.SoFar.{list_fails}
use Rattle.txn_records.proofs.reading.state_of.Goals as goal

pub loop-i-init : goal.loop-i-init
loop-i-init c = (state_begins _ [], refl)

pub returns-in_err-bits : goal.returns-in_err-bits
returns-in_err-bits c =
    let p = err_from_is_err_and c.from_residual.result c.from_residual.ensures.1 in
    rw (p.1, p.2) (list_fails (FitsSigned w64) field_bytes _ _ _ _ _ 16 _ c.loop-i-test.true c.loop-i.invariant.0 (fails_field _ _ c.in_err-bits.ensures))

pub loop-i-preserved : goal.loop-i-preserved
loop-i-preserved c = state_more _ _ _ _ _ _ _ c.loop-i-test.true c.loop-i.invariant.1 c.in_ok-bits.ensures.0 c.cast_signed.ensures c.in_ok-bits.ensures.1 c.loop-i.invariant.0

pub returns : goal.returns
returns c = state_found _ _ _ _ c.loop-i-test.false c.loop-i.auto.i-end c.loop-i.invariant.1 c.loop-i.invariant.0
