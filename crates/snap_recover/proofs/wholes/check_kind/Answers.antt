use Rattle.std.proofs.Common.{ℕ, get_or, subst, sym}
use Rattle.std.proofs.lemmas.List.{get_or_default}
use Rattle.std.proofs.lemmas.Result.{err_from_is_err_and}
use Rattle.snap_recover.specs.Passes.{IsFirstLackOfKind}
use Rattle.snap_recover.proofs.Checking.{are_numbers, check_refused, check_end, number_in}
use Rattle.snap_recover.proofs.wholes.check_kind.Goals as goal

pub check-requires-clause-is_in : goal.check-requires-clause-is_in
check-requires-clause-is_in c =
    let numbers = c.args.committed.now in
    let i = c.loop-i.i in
    let n : ℕ = get_or numbers i 0 in
    let at = get_or_default numbers i 0 n c.loop-i-test.true in
    number_in c.args.kind c.args.logs.now numbers i n c.loop-i-test.true at
    (are_numbers c.args.kind c.args.logs.now numbers c.requires.committed)

pub returns-in_err-check : goal.returns-in_err-check
returns-in_err-check c =
    let numbers = c.args.committed.now in
    let i = c.loop-i.i in
    let n : ℕ = get_or numbers i 0 in
    let at = get_or_default numbers i 0 n c.loop-i-test.true in
    let p = err_from_is_err_and c.from_residual.result c.from_residual.ensures.1 in
    let refused : IsFirstLackOfKind c.args.kind c.args.logs.now c.in_err-check.field-0.0 =
    check_refused c.args.kind c.args.logs.now numbers i n c.in_err-check.field-0.0 c.loop-i-test.true at
    (are_numbers c.args.kind c.args.logs.now numbers c.requires.committed) c.loop-i.invariant c.in_err-check.ensures in
    rw p.1 (subst (IsFirstLackOfKind c.args.kind c.args.logs.now) (sym p.2) refused)

pub returns : goal.returns
returns c =
    let numbers = c.args.committed.now in
    check_end c.args.kind c.args.logs.now numbers c.loop-i.i c.loop-i-test.false
    (are_numbers c.args.kind c.args.logs.now numbers c.requires.committed) c.loop-i.invariant
