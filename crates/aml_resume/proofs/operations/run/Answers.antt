use Rattle.std.proofs.Common.{◌∙◌, arith, rules, FitsSigned, w64}
use Rattle.std.proofs.lemmas.Int.{to_z-of_z}
use Rattle.std.proofs.lemmas.Result.{err_from_is_err_and}
use Rattle.aml_resume.proofs.operations.run.Goals as goal

pub step-requires-clause-ready : goal.step-requires-clause-ready
step-requires-clause-ready c =
    let i = c.steps.invariant.keeps in
    record { room = i.room; arguments_room = omega (arith, i.arguments_room, c.requires.ready.arguments_room); count = i.count }

pub step-requires-clause-stands : goal.step-requires-clause-stands
step-requires-clause-stands c = (c.requires.stands.0, c.steps.invariant.stands c.requires.stands.0 c.requires.stands.1)

pub steps-preserved : goal.steps-preserved
steps-preserved c =
    let i = c.steps.invariant.keeps in
    let k = c.in_ok-next.ensures.keeps in
    record {
      stands = λ whole h. (rw c.in-Goes.is at c.in_ok-next.ensures.runs) whole (c.steps.invariant.stands whole h);
      keeps = record { room = k.room; arguments_room = k.arguments_room ∙ i.arguments_room; risen = omega (arith, k.risen, i.risen); count = k.count };
    }

pub steps-smaller : goal.steps-smaller
steps-smaller c = rw c.in-Goes.is at c.in_ok-next.ensures.nearer

pub returns-in_err-next-clause-runs : goal.returns-in_err-next-clause-runs
returns-in_err-next-clause-runs c whole h =
    let p = err_from_is_err_and c.from_residual.result c.from_residual.ensures.1 in
    rw (p.1, p.2) (c.in_err-next.ensures.runs whole (c.steps.invariant.stands whole h))

pub returns-in-Gives-clause-runs : goal.returns-in-Gives-clause-runs
returns-in-Gives-clause-runs c whole h =
    let fits : FitsSigned w64 c.in-Gives.value = search rules in
    let runs = rw c.in-Gives.is at c.in_ok-next.ensures.runs in
    rw to_z-of_z (runs whole (c.steps.invariant.stands whole h))

pub returns-in-Asks-clause-runs : goal.returns-in-Asks-clause-runs
returns-in-Asks-clause-runs c whole h =
    let fits : FitsSigned w64 c.in-Asks.target = search rules in
    let runs = rw c.in-Asks.is at c.in_ok-next.ensures.runs in
    rw to_z-of_z (runs whole (c.steps.invariant.stands whole h))
