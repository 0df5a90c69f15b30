use Rattle.std.proofs.Common.{◌∙◌, arith, append_assoc, [], ◌∷◌}
use Rattle.std.specs.Fmt.{decimal}
use Rattle.work_text.proofs.Words.{decimal_free}
use Rattle.work_text.proofs.uses.use_of.Goals as goal

pub returns-in_err-actor-clause-only : goal.returns-in_err-actor-clause-only
returns-in_err-actor-clause-only c u e h =
    absurd (omega (arith, c.in_err-actor.ensures.only (decimal u.0.0) (decimal u.1) (decimal_free u.0.0 (omega (arith, h.actor))) (e ∙ append_assoc (decimal u.0.0) (58 ∷ []) (decimal u.1))))

pub returns-clause-only : goal.returns-clause-only
returns-clause-only c u e h =
    let cut = c.in_ok-actor.ensures.only (decimal u.0.0) (decimal u.1) (decimal_free u.0.0 (omega (arith, h.actor))) (e ∙ append_assoc (decimal u.0.0) (58 ∷ []) (decimal u.1)) in
    c.declared.ensures.only u cut.0 cut.1 h
