use Rattle.std.proofs.Common.{refl, inl, inr, subst}
use Rattle.std.proofs.KnownBytes.{Keeps-refl}
use Rattle.run_work.specs.run_opening.Opens.{MayOpen}
use Rattle.snap_run.proofs.solo.run_generated.Goals as goal
use Rattle.snap_work.specs.Works.{Work, work_of}

pub returns-in-Ok-clause-answer : goal.returns-in-Ok-clause-answer
returns-in-Ok-clause-answer g c = λ words reading. inr (work_of c.in-Ok.work, c.in-Ok.ensures.work, c.in-Ok.ensures.count, c.run_work.ensures.answer)

pub returns-in-Ok-clause-opens : goal.returns-in-Ok-clause-opens
returns-in-Ok-clause-opens g c = λ words reading w records o may.
    let same = c.one_work.ensures _ w (work_of c.in-Ok.work) may.work c.in-Ok.ensures.work in
    c.run_work.ensures.opens records o (subst (λ (x : Work). MayOpen x.logs x.states c.args.call.devices c.run_work.result.call.devices records o) same may.opens)

pub returns-in-Err-clause-answer : goal.returns-in-Err-clause-answer
returns-in-Err-clause-answer g c = λ words reading. inl (refl, (record { kept = c.new.ensures.items; trace = Keeps-refl _; devices = refl }, Keeps-refl _))
