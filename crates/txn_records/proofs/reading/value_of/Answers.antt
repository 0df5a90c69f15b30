use Rattle.std.proofs.Common.{◌≡◌, ℤ, ◌++◌, sym, subst, FitsSigned}
use Rattle.std.proofs.Math.Facts.{to_z-of_z}
use Rattle.std.specs.Int.{w64}
use Rattle.std.proofs.lemmas.Result.{err_from_is_err_and}
use Rattle.txn_records.specs.Records.{field_bytes}
use Rattle.txn_records.proofs.Parts.{fails_field, field_found}
use Rattle.txn_records.proofs.reading.value_of.Goals as goal

pub returns-in_err-bits : goal.returns-in_err-bits
returns-in_err-bits c =
    let p = err_from_is_err_and c.from_residual.result c.from_residual.ensures.1 in
    rw (p.1, p.2) (fails_field _ _ c.in_err-bits.ensures)

pub returns : goal.returns
returns c =
    let found = field_found _ _ _ _ c.in_ok-bits.ensures c.cast_signed.ensures in
    subst (λ (v : ℤ). FitsSigned w64 v × (c.args.bytes.now ≡ field_bytes v ++ c.in_ok-bits.rest.now)) (sym (to_z-of_z {w = w64} found.0)) found
