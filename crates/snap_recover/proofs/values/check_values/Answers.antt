use Rattle.std.proofs.Common.{ℕ, get_or, subst, sym}
use Rattle.std.proofs.lemmas.List.{get_or_default}
use Rattle.std.proofs.lemmas.Result.{err_from_is_err_and}
use Rattle.snap_recover.specs.declared.kinds.Kind.TheVariants as kinds
use Rattle.snap_recover.specs.Passes.{IsFirstValuesLackOf}
use Rattle.snap_recover.proofs.Checking.{are_numbers, number_in}
use Rattle.snap_recover.proofs.Valuing.{values_refused, values_end}
use Rattle.snap_recover.proofs.values.check_values.Goals as goal

pub check_batch-requires-clause-is_in : goal.check_batch-requires-clause-is_in
check_batch-requires-clause-is_in c =
    let numbers = c.args.committed.now in
    let i = c.loop-i.i in
    let n : ℕ = get_or numbers i 0 in
    let at = get_or_default numbers i 0 n c.loop-i-test.true in
    number_in kinds.Batch c.args.logs.now numbers i n c.loop-i-test.true at
    (are_numbers kinds.Batch c.args.logs.now numbers c.requires.committed)

pub check_batch-requires-clause-whole : goal.check_batch-requires-clause-whole
check_batch-requires-clause-whole c =
    let numbers = c.args.committed.now in
    let i = c.loop-i.i in
    let n : ℕ = get_or numbers i 0 in
    let at = get_or_default numbers i 0 n c.loop-i-test.true in
    c.requires.whole n (number_in kinds.Batch c.args.logs.now numbers i n c.loop-i-test.true at
    (are_numbers kinds.Batch c.args.logs.now numbers c.requires.committed))

pub returns-in_err-check_batch : goal.returns-in_err-check_batch
returns-in_err-check_batch c =
    let numbers = c.args.committed.now in
    let i = c.loop-i.i in
    let n : ℕ = get_or numbers i 0 in
    let at = get_or_default numbers i 0 n c.loop-i-test.true in
    let p = err_from_is_err_and c.from_residual.result c.from_residual.ensures.1 in
    let refused : IsFirstValuesLackOf c.args.logs.now c.in_err-check_batch.field-0.0 =
    values_refused c.args.logs.now numbers i n c.in_err-check_batch.field-0.0 c.loop-i-test.true at
    (are_numbers kinds.Batch c.args.logs.now numbers c.requires.committed) c.loop-i.invariant c.in_err-check_batch.ensures in
    rw p.1 (subst (IsFirstValuesLackOf c.args.logs.now) (sym p.2) refused)

pub returns : goal.returns
returns c =
    let numbers = c.args.committed.now in
    values_end c.args.logs.now numbers c.loop-i.i c.loop-i-test.false
    (are_numbers kinds.Batch c.args.logs.now numbers c.requires.committed) c.loop-i.invariant
