use Rattle.std.proofs.Common.{◌∙◌, inl, rules, subst}
use Rattle.std.proofs.KnownBytes.{Keeps-refl}
use Rattle.log_following.specs.log_opening.Devices.{devices_of}
use Rattle.run_work.specs.Writings.{Writing, Writes, WritesFront, writing_of}
use Rattle.snap_run.proofs.Recovering.{recovery_refused}
use Rattle.snap_run.proofs.recoveries.print_recovered.Goals as goal
use Rattle.snap_run.specs.Recoveries.{AreRecovered, recover_done, recover_memory, recover_out_fault}

pub returns-in-Err-clause-answer : goal.returns-in-Err-clause-answer
returns-in-Err-clause-answer g c =
    let out : Writing = writing_of g.O.Sink c.args.out.now c.args.out.now in
    recovery_refused (devices_of g.D.LogDev.told g.D.LogDev.faults c.args.devices.now.items) (devices_of g.D.LogDev.told g.D.LogDev.faults c.recover_kept.new.devices.items) out
    c.in-Err.no c.status_of.result c.status_of.ensures c.in-Err.ensures.refused (Keeps-refl _)

-- the lines found no memory: what they tell was folded when all logs had been opened
pub returns-in_default-clause-answer : goal.returns-in_default-clause-answer
returns-in_default-clause-answer g c = recover_memory (inl (4, (λ log lt. lt), c.in-Ok.ensures.recovered.4)) (Keeps-refl _)

pub returns-then-is_err-clause-answer : goal.returns-then-is_err-clause-answer
returns-then-is_err-clause-answer g c =
    let before = devices_of g.D.LogDev.told g.D.LogDev.faults c.args.devices.now.items in
    let after = devices_of g.D.LogDev.told g.D.LogDev.faults c.recover_kept.new.devices.items in
    let out : Writing = writing_of g.O.Sink c.args.out.now c.write_all.new.out in
    let is = c.in-Ok.ensures.recovered in
    let are : AreRecovered before after c.in-Ok.folded = record { head = is.0; lists = is.1; given = is.2; folded = is.3; opened = is.4 } in
    recover_out_fault c.in-Ok.folded are (subst (λ bytes. WritesFront out bytes) (c.as_bytes.ensures.value ∙ c.in-Ok-report_of.ensures) (search rules)) (search rules)

pub returns-clause-answer : goal.returns-clause-answer
returns-clause-answer g c =
    let before = devices_of g.D.LogDev.told g.D.LogDev.faults c.args.devices.now.items in
    let after = devices_of g.D.LogDev.told g.D.LogDev.faults c.recover_kept.new.devices.items in
    let out : Writing = writing_of g.O.Sink c.args.out.now c.write_all.new.out in
    let is = c.in-Ok.ensures.recovered in
    let are : AreRecovered before after c.in-Ok.folded = record { head = is.0; lists = is.1; given = is.2; folded = is.3; opened = is.4 } in
    recover_done c.in-Ok.folded are (subst (λ bytes. Writes out bytes) (c.as_bytes.ensures.value ∙ c.in-Ok-report_of.ensures) (search rules))
