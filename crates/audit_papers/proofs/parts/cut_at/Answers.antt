use Rattle.std.proofs.Common.{◌+◌, ◌≤◌, length, arith, sym, subst, ◌∙◌}
use Rattle.std.proofs.lemmas.Bool.{true≢false}
use Rattle.std.proofs.lemmas.Slice.Eq.{bytes_eq-Decides}
use Rattle.audit_papers.specs.Found.{SearchedTo}
use Rattle.audit_papers.proofs.CutLines.{StandsNext, in_the_end, rest_is, step_here, step_past}
use Rattle.audit_papers.proofs.parts.cut_at.Goals as goal
use Rattle.audit_papers.proofs.parts.cut_at.Goals.{then-eq, else-eq}

pub loop-at-preserved : goal.loop-at-preserved
loop-at-preserved c =
    let rest = rest_is c.args.bytes.now c.loop-at.at in
    let within = subst (λ z. c.first_line-next.result.1 ≤ length z) rest c.first_line-next.ensures.onward.1 in
    let stands = subst (λ z. StandsNext z c.first_line-next.result.0.now c.first_line-next.result.1) rest c.first_line-next.ensures.cut in
    record {
      within = omega arith;
      so_far = elim c.if-eq.branch [
        | then-eq w ↦ subst (λ z. SearchedTo (c.loop-at.at + c.first_line-next.result.1) c.args.divider.now c.args.bytes.now z) (sym w.found-is)
            (step_here c.args.bytes.now c.args.divider.now c.first_line-next.result.0.now c.loop-at.at c.first_line-next.result.1 c.loop-at.found c.loop-at-test.true c.loop-at.invariant.so_far
            ((bytes_eq-Decides c.first_line-next.result.0.now c.args.divider.now).0 (sym c.eq.ensures ∙ w.if-eq.true)) within stands)
        | else-eq w ↦ subst (λ z. SearchedTo (c.loop-at.at + c.first_line-next.result.1) c.args.divider.now c.args.bytes.now z) (sym w.found-is)
            (step_past c.args.bytes.now c.args.divider.now c.first_line-next.result.0.now c.loop-at.at c.first_line-next.result.1 c.loop-at.found c.loop-at-test.true c.loop-at.invariant.so_far c.first_line-next.ensures.line
            (λ q. true≢false (sym ((bytes_eq-Decides c.first_line-next.result.0.now c.args.divider.now).1 q) ∙ (sym c.eq.ensures ∙ w.if-eq.false))) within stands)
      ];
    }

pub returns-in-Some : goal.returns-in-Some
returns-in-Some c = in_the_end c.args.bytes.now c.args.divider.now c.loop-at.at c.in-Some.front c.in-Some.behind c.loop-at-test.false (subst (λ z. SearchedTo c.loop-at.at c.args.divider.now c.args.bytes.now z) c.in-Some.is c.loop-at.invariant.so_far)
