use Rattle.aml_slice.specs.aml_check.Checked.{methods_of}
use Rattle.machine_laws.specs.Programs.{finish_of, with_code}
use Rattle.run_effects.proofs.ProgramsLeave.{program_leaves}
use Rattle.run_effects.proofs.RecordsKept.{groups_hold}
use Rattle.run_effects.proofs.SlicesFit.{FitRest}
use Rattle.run_effects.proofs.recorded.groups_are_records.Goals as goal

pub returns : goal.returns
returns c w es l is opens run =
    let p = methods_of c.args.program.now in
    groups_hold (with_code p w) FitRest es l (c.frame.ensures (with_code p w)) (program_leaves p w c.methods.ensures.closed is opens)
    (λ fs run. c.rows_may_be_taken.ensures (with_code p w) (finish_of p w) fs (c.texts_have_the_facts.ensures w is) is.accepted run)
    run (c.groups_grow.ensures.durable (with_code p w) l es run)
