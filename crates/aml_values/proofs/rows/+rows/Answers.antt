use Rattle.std.proofs.Common.{◌≡◌, ◌+◌, ℤ, Some, Ok, Err, drop, sym, subst, arith, rules, to_z, w64, FitsSigned}
use Rattle.std.proofs.lemmas.Int.{to_z-of_z}
use Rattle.std.proofs.lemmas.Result.{err_from_is_err_and}
use Rattle.aml_flat.specs.declared.operations.Part.TheVariants as part
use Rattle.aml_check.specs.Meaning.{decided, joined}
use Rattle.aml_values.specs.Rows.{Becomes, EndsAs, Fails, negated}
use Rattle.aml_values.proofs.RowValues.{becomes_here, closes, ends_on, fails_on, join_fails, joins, negate_fails, opened_fails, part_here, passed_over}
use Rattle.aml_values.proofs.rows.+rows.Goals as goal

pub along-returns-in_err-so_far-in-Join-clause-fails : goal.along-returns-in_err-so_far-in-Join-clause-fails
along-returns-in_err-so_far-in-Join-clause-fails t c =
    let begun : FitsSigned w64 c.args.first = search rules in
    let p = err_from_is_err_and c.from_residual.result c.from_residual.ensures.1 in
    let right : FitsSigned w64 c.operand.result = search rules in
    let ps = c.args.parts.now in
    let x : ℤ = to_z w64 c.loop-at.so_far-bits in
    let code = c.in_err-so_far-in-Join.field-0.0 in
    let is : Err code ≡ joined c.in-Join.operator x c.operand.result = rw to_z-of_z at c.in_err-so_far-in-Join.ensures in
    let so_far : Becomes c.args.own c.args.variables.now c.args.state.now c.args.first (drop c.args.from ps) x (drop c.loop-at.at ps) = rw (to_z-of_z w64 c.args.first begun) at c.loop-at.invariant.0 in
    let here = part_here ps c.loop-at.at _ (part.Join c.in-Join.operator c.in-Join.right) c.loop-at-test.true c.in-Join.is in
    rw (p.1, p.2) (fails_on c.args.own c.args.variables.now c.args.state.now c.args.first x (drop c.args.from ps) (drop c.loop-at.at ps) code so_far (subst (λ qs. Fails c.args.own c.args.variables.now c.args.state.now x qs code) (sym here) (join_fails c.args.own c.args.variables.now c.args.state.now c.in-Join.operator c.in-Join.right x c.operand.result code (drop (c.loop-at.at + 1) ps) c.operand.ensures is)))

pub opened-returns-in-Some-clause-ends : goal.opened-returns-in-Some-clause-ends
opened-returns-in-Some-clause-ends t c =
    let left : FitsSigned w64 c.args.left = search rules in
    let truth : FitsSigned w64 c.in-Some.truth = search rules in
    let is : Some c.in-Some.truth ≡ decided c.args.operator c.args.left = rw to_z-of_z at c.in-Some.ensures in
    rw (to_z-of_z w64 c.in-Some.truth truth) (passed_over c.args.own c.args.variables.now c.args.state.now c.args.operator c.args.start c.args.left c.in-Some.truth (drop c.args.from c.args.parts.now) (drop c.position_behind.result c.args.parts.now) is c.position_behind.ensures.behind)

pub along-returns-in_err-so_far-in-Negate-clause-fails : goal.along-returns-in_err-so_far-in-Negate-clause-fails
along-returns-in_err-so_far-in-Negate-clause-fails t c =
    let begun : FitsSigned w64 c.args.first = search rules in
    let p = err_from_is_err_and c.from_residual-in_err-so_far-in-Negate.result c.from_residual-in_err-so_far-in-Negate.ensures.1 in
    let ps = c.args.parts.now in
    let x : ℤ = to_z w64 c.loop-at.so_far-bits in
    let code = c.in_err-so_far-in-Negate.field-0.0 in
    let is : Err code ≡ negated (Ok x) = c.in_err-so_far-in-Negate.ensures in
    let so_far : Becomes c.args.own c.args.variables.now c.args.state.now c.args.first (drop c.args.from ps) x (drop c.loop-at.at ps) = rw (to_z-of_z w64 c.args.first begun) at c.loop-at.invariant.0 in
    let here = part_here ps c.loop-at.at _ part.Negate c.loop-at-test.true c.in-Negate.is in
    rw (p.1, p.2) (fails_on c.args.own c.args.variables.now c.args.state.now c.args.first x (drop c.args.from ps) (drop c.loop-at.at ps) code so_far (subst (λ qs. Fails c.args.own c.args.variables.now c.args.state.now x qs code) (sym here) (negate_fails c.args.own c.args.variables.now c.args.state.now x code (drop (c.loop-at.at + 1) ps) is)))

pub along-returns-in_err-value-in-Open-clause-fails : goal.along-returns-in_err-value-in-Open-clause-fails
along-returns-in_err-value-in-Open-clause-fails t c =
    let begun : FitsSigned w64 c.args.first = search rules in
    let p = err_from_is_err_and c.from_residual-in_err-value-in-Open.result c.from_residual-in_err-value-in-Open.ensures.1 in
    let ps = c.args.parts.now in
    let x : ℤ = to_z w64 c.loop-at.so_far-bits in
    let code = c.in_err-value-in-Open.field-0.0 in
    let so_far : Becomes c.args.own c.args.variables.now c.args.state.now c.args.first (drop c.args.from ps) x (drop c.loop-at.at ps) = rw (to_z-of_z w64 c.args.first begun) at c.loop-at.invariant.0 in
    let here = part_here ps c.loop-at.at _ (part.Open c.in-Open.operator c.in-Open.start) c.loop-at-test.true c.in-Open.is in
    rw (p.1, p.2) (fails_on c.args.own c.args.variables.now c.args.state.now c.args.first x (drop c.args.from ps) (drop c.loop-at.at ps) code so_far (subst (λ qs. Fails c.args.own c.args.variables.now c.args.state.now x qs code) (sym here) c.in_err-value-in-Open.ensures.fails))

pub along-returns-in-Close-clause-ends : goal.along-returns-in-Close-clause-ends
along-returns-in-Close-clause-ends t c =
    let begun : FitsSigned w64 c.args.first = search rules in
    let ps = c.args.parts.now in
    let x : ℤ = to_z w64 c.loop-at.so_far-bits in
    let so_far : Becomes c.args.own c.args.variables.now c.args.state.now c.args.first (drop c.args.from ps) x (drop c.loop-at.at ps) = rw (to_z-of_z w64 c.args.first begun) at c.loop-at.invariant.0 in
    let here = part_here ps c.loop-at.at _ part.Close c.loop-at-test.true c.in-Close.is in
    let rest = drop (c.loop-at.at + 1) ps in
    ends_on c.args.own c.args.variables.now c.args.state.now c.args.first x x (drop c.args.from ps) (drop c.loop-at.at ps) rest so_far (subst (λ qs. EndsAs c.args.own c.args.variables.now c.args.state.now x qs x rest) (sym here) (closes c.args.own c.args.variables.now c.args.state.now x rest))

pub along-loop-at-preserved-in-Join : goal.along-loop-at-preserved-in-Join
along-loop-at-preserved-in-Join t c =
    let begun : FitsSigned w64 c.args.first = search rules in
    let right : FitsSigned w64 c.operand.result = search rules in
    let next : FitsSigned w64 c.in_ok-so_far-in-Join.so_far = search rules in
    let ps = c.args.parts.now in
    let x : ℤ = to_z w64 c.loop-at.so_far-bits in
    let y : ℤ = c.in_ok-so_far-in-Join.so_far in
    let is : Ok y ≡ joined c.in-Join.operator x c.operand.result = rw to_z-of_z at c.in_ok-so_far-in-Join.ensures in
    let so_far : Becomes c.args.own c.args.variables.now c.args.state.now c.args.first (drop c.args.from ps) x (drop c.loop-at.at ps) = rw (to_z-of_z w64 c.args.first begun) at c.loop-at.invariant.0 in
    let here = part_here ps c.loop-at.at _ (part.Join c.in-Join.operator c.in-Join.right) c.loop-at-test.true c.in-Join.is in
    let rest = drop (c.loop-at.at + 1) ps in
    let on = becomes_here c.args.own c.args.variables.now c.args.state.now c.args.first x y (drop c.args.from ps) (drop c.loop-at.at ps) rest (part.Join c.in-Join.operator c.in-Join.right) here so_far (joins c.args.own c.args.variables.now c.args.state.now c.in-Join.operator c.in-Join.right x c.operand.result y rest c.operand.ensures is) in
    (rw (to_z-of_z w64 c.args.first begun, to_z-of_z w64 y next) on, omega (arith, c.loop-at.invariant.1), omega (arith, c.loop-at-test.true))

pub opened-returns-in_err-joined-in-None-clause-fails : goal.opened-returns-in_err-joined-in-None-clause-fails
opened-returns-in_err-joined-in-None-clause-fails t c =
    let p = err_from_is_err_and c.from_residual-in_err-joined-in-None.result c.from_residual-in_err-joined-in-None.ensures.1 in
    let left : FitsSigned w64 c.args.left = search rules in
    let first : FitsSigned w64 c.operand-first.result = search rules in
    let side : FitsSigned w64 c.in_ok-right-in-None.right = search rules in
    let ps = c.args.parts.now in
    let code = c.in_err-joined-in-None.field-0.0 in
    let right = c.in_ok-right-in-None.right in
    let is : Err code ≡ joined c.args.operator c.args.left right = rw (to_z-of_z w64 c.args.left left, to_z-of_z w64 right side) at c.in_err-joined-in-None.ensures in
    let ends : EndsAs c.args.own c.args.variables.now c.args.state.now c.operand-first.result (drop c.args.from ps) right (drop c.in_ok-right-in-None.behind ps) = rw (to_z-of_z w64 c.operand-first.result first) at c.in_ok-right-in-None.ensures.ends in
    rw (p.1, p.2) (opened_fails c.args.own c.args.variables.now c.args.state.now c.args.operator c.args.start c.args.left c.operand-first.result right code (drop c.args.from ps) (drop c.in_ok-right-in-None.behind ps) c.operand-first.ensures ends is)
