use Rattle.std.proofs.Common.{◌∙◌, rules, subst}
use Rattle.std.proofs.KnownBytes.{Keeps-refl}
use Rattle.run_work.specs.Writings.{Writing, Writes, writing_of}
use Rattle.snap_report.specs.declared.statuses.Status.TheVariants as status
use Rattle.snap_run.specs.Answers.{IsGenAnswer, gen_done, gen_memory, gen_out_fault}
use Rattle.snap_run.proofs.works.print_generated.Goals as goal

pub returns-then-is_err-clause-answer : goal.returns-then-is_err-clause-answer
returns-then-is_err-clause-answer g c =
    let out : Writing = writing_of g.O.Sink c.args.out.now c.write_all.new.out in
    subst (λ bytes. IsGenAnswer bytes out status.OutFault) (c.as_slice.ensures.value ∙ c.in-Ok.ensures) (gen_out_fault (search rules) (search rules))

pub returns-clause-answer : goal.returns-clause-answer
returns-clause-answer g c =
    let out : Writing = writing_of g.O.Sink c.args.out.now c.write_all.new.out in
    gen_done (subst (λ bytes. Writes out bytes) (c.as_slice.ensures.value ∙ c.in-Ok.ensures) (search rules))

pub returns-in_default-clause-answer : goal.returns-in_default-clause-answer
returns-in_default-clause-answer g c = gen_memory (Keeps-refl _)
