use Rattle.std.proofs.Common.{◌≡◌, ◌+◌, ◌*◌, ◌<◌, ◌≤◌, length, map, take, unsigned_abs, ℤ, ◌+ℤ◌, FitsSigned, to_z, of_z, sym, ap, ◌∙◌, subst, arith}
use Rattle.std.specs.Int.{w128}
use Rattle.std.proofs.Math.Seq.{take-length}
use Rattle.std.proofs.lemmas.Int.{fits_signed_from_abs, to_z-of_z}
use Rattle.aml_slice.specs.Controls.{Rest}
use Rattle.protocol.specs.Parts.{Cell}
use Rattle.run_printing.specs.Summed.{sum_of, total_of}
use Rattle.run_printing.proofs.Sums.{abs_add, total_more}
use Rattle.run_printing.proofs.totals.total_of.Goals as goal
use Rattle.snap_base.specs.declared.transactions.State.{State}
use Rattle.snap_core.specs.Cores.{state_at}
use Rattle.snap_core.specs.snap_hand.Tables.{AreTables, fixed_of}

pub loop-number-preserved : goal.loop-number-preserved
loop-number-preserved c =
    let n = c.loop-number.number in
    let z : ℤ = to_z w128 c.loop-number.total-bits in
    let x : ℤ = c.sum_of-total.result in
    let states : length c.tables.result.now.opening.states ≡ length c.args.core.now.tables.opening.states = ap (λ t. length t.opening.states) c.tables.ensures.same in
    let few : length c.tables.result.now.opening.states ≤ 256 = c.tables.ensures.accepted.accepted.few_actors in
    let size : unsigned_abs (z +ℤ x) ≤ (n + 1) * 147573952589676412928 = omega (arith, abs_add z x, c.sum_of-total.ensures.small, c.loop-number.invariant.small) in
    let one : FitsSigned w128 x = fits_signed_from_abs w128 x (omega (arith, c.sum_of-total.ensures.small)) in
    let both : FitsSigned w128 (z +ℤ x) = fits_signed_from_abs w128 (z +ℤ x) (omega (arith, size, c.loop-number-test.true, c.len-count.ensures, few)) in
    let added : to_z w128 (of_z w128 (z +ℤ to_z w128 (of_z w128 x))) ≡ z +ℤ x =
    ap (λ (y : ℤ). to_z w128 (of_z w128 (z +ℤ y))) (to_z-of_z w128 x one) ∙ to_z-of_z w128 (z +ℤ x) both in
    rw added (record {
      sum = λ es at.
          let s = state_at c.args.core.now es in
          let sizes = c.sizes_hold.ensures (fixed_of c.args.core.now.tables) es (subst (λ t. AreTables t) c.tables.ensures.same c.tables.ensures.accepted).accepted at.run in
          let within : n < length s.cells = omega (arith, c.loop-number-test.true, c.len-count.ensures, states, sizes.cells) in
          ap (λ (y : ℤ). y +ℤ x) (c.loop-number.invariant.sum es at)
          ∙ ap (λ (y : ℤ). total_of (map (λ (d : Cell Rest). d.state) (take n s.cells)) +ℤ y)
          (c.sum_of-total.ensures.sum ∙ ap sum_of c.as_slice.ensures ∙ ap (λ (t : State). sum_of t.0) (c.state-state.ensures es at))
          ∙ sym (total_more s n within);
      small = size;
    })

pub returns : goal.returns
returns c = λ es at.
    let s = state_at c.args.core.now es in
    let sizes = c.sizes_hold.ensures (fixed_of c.args.core.now.tables) es (subst (λ t. AreTables t) c.tables.ensures.same c.tables.ensures.accepted).accepted at.run in
    let states : length c.tables.result.now.opening.states ≡ length c.args.core.now.tables.opening.states = ap (λ t. length t.opening.states) c.tables.ensures.same in
    let end : c.loop-number.number ≡ length s.cells = omega (arith, c.loop-number-test.false, c.loop-number.auto.number-end, c.len-count.ensures, states, sizes.cells) in
    c.loop-number.invariant.sum es at ∙ ap (λ xs. total_of (map (λ (d : Cell Rest). d.state) xs)) (ap (λ m. take m s.cells) end ∙ take-length s.cells)
