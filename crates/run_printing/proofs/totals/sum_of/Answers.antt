use Rattle.std.proofs.Common.{rules, ◌≡◌, ◌≤◌, ◌^◌, unsigned_abs, slice_index_or, ℤ, pos, ◌+ℤ◌, FitsSigned, to_z, of_z, w64, sym, ap, ◌∙◌, arith}
use Rattle.std.specs.Int.{w128}
use Rattle.std.proofs.lemmas.Int.{ints}
use Rattle.run_printing.proofs.Sums.{abs_add, sum_more}
use Rattle.run_printing.proofs.totals.sum_of.Goals as goal

pub loop-value-preserved : goal.loop-value-preserved
loop-value-preserved c =
    let i = c.loop-value.value-index in
    let z : ℤ = to_z w128 c.loop-value.sum-bits in
    let x : ℤ = slice_index_or c.args.values.now i (pos 0) in
    let fits : FitsSigned w64 x = search rules in
    let added : to_z w128 (of_z w128 (z +ℤ to_z w128 (of_z w128 (to_z w64 (of_z w64 x))))) ≡ z +ℤ x = omega (arith, ints, fits) in
    let size : unsigned_abs x ≤ 2 ^ 63 = omega (arith, ints, fits) in
    rw added (record {
      sum = ap (λ (y : ℤ). y +ℤ x) c.loop-value.invariant.sum ∙ sym (sum_more c.args.values.now i (pos 0) c.loop-value-test.true);
      small = omega (arith, abs_add z x, c.loop-value.invariant.small, size);
    })
