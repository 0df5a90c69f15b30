use Rattle.std.proofs.Common.{◌≡◌, ◌≤◌, ℕ, ◌+◌, ◌-◌, ◌==◌, ◌∷◌, List, ap, arith, drop, get_or, map, refl, subst, sym, ◌∙◌}
use Rattle.std.specs.List.{AllByRecursion}
use Rattle.std.proofs.lemmas.List.{drop_more}
use Rattle.snap_base.specs.declared.ids.Bid.{Bid}
use Rattle.protocol.specs.Words.{is_among}
use Rattle.audit_tale.specs.Cutting.{marked_cut}
use Rattle.audit_tale.specs.Knows.{bid_number}
use Rattle.audit_tale.proofs.CutOff.{or_turned}
use Rattle.audit_tale.proofs.Touched.{touched_on}
use Rattle.audit_tale.proofs.aborting.cut_ways.Goals as goal

pub loop-left-preserved : goal.loop-left-preserved
loop-left-preserved c =
    let uncut : List Bid = c.args.uncut.now in
    let at : ℕ = c.loop-left.left - 1 in
    let none : Bid = record { 0 = 0 } in
    let next : at + 1 ≡ c.loop-left.left = omega arith in
    let one : drop at uncut ≡ get_or uncut at none ∷ drop c.loop-left.left uncut = drop_more uncut at none (omega (arith, c.loop-left.invariant.within)) ∙ ap (λ (n : ℕ). get_or uncut at none ∷ drop n uncut) next in
    record {
      within = omega (arith, c.loop-left.invariant.within);
      from = subst (AllByRecursion (λ b. c.args.k.0 ≤ b.0)) (sym one) (c.if-last-k.false, c.loop-left.invariant.from);
      ways = touched_on marked_cut (λ i. is_among (i + 1) (map bid_number (drop c.loop-left.left uncut))) (λ i. (get_or uncut at none).0 == (i + 1)) (λ i. is_among (i + 1) (map bid_number (drop at uncut))) c.args.ways.now c.loop-left.ways c.cut_way.new.ways (λ x. refl)
          (λ i. ap (λ (bs : List Bid). is_among (i + 1) (map bid_number bs)) one ∙ or_turned ((get_or uncut at none).0 == (i + 1)) (is_among (i + 1) (map bid_number (drop c.loop-left.left uncut)))) c.loop-left.invariant.ways c.cut_way.ensures;
    }
