use Rattle.std.proofs.Common.{◌∙◌, rules, subst}
use Rattle.std.proofs.KnownBytes.{Keeps-refl}
use Rattle.log_following.specs.log_opening.Devices.{devices_of}
use Rattle.run_work.specs.Writings.{Writing, Writes, WritesFront, writing_of}
use Rattle.snap_run.proofs.Recovering.{following_refused}
use Rattle.snap_run.proofs.followings.print_followed.Goals as goal
use Rattle.snap_run.specs.Followings.{follow_done, follow_memory, follow_out_fault}

pub returns-in-Err-clause-answer : goal.returns-in-Err-clause-answer
returns-in-Err-clause-answer g c =
    let out : Writing = writing_of g.O.Sink c.args.out.now c.args.out.now in
    following_refused c.args.rounds (devices_of g.D.LogDev.told g.D.LogDev.faults c.args.devices.now.items) (devices_of g.D.LogDev.told g.D.LogDev.faults c.follow.new.devices.items) out
    c.in-Err.no c.status_of.result c.status_of.ensures c.in-Err.ensures.refused (Keeps-refl _)

pub returns-in_default-clause-answer : goal.returns-in_default-clause-answer
returns-in_default-clause-answer g c = follow_memory (Keeps-refl _)

pub returns-then-is_err-clause-answer : goal.returns-then-is_err-clause-answer
returns-then-is_err-clause-answer g c =
    let out : Writing = writing_of g.O.Sink c.args.out.now c.write_all.new.out in
    follow_out_fault c.in-Ok.followed c.in-Ok.ensures.followed (subst (λ bytes. WritesFront out bytes) (c.as_bytes.ensures.value ∙ c.in-Ok-report_of.ensures) (search rules)) (search rules)

pub returns-clause-answer : goal.returns-clause-answer
returns-clause-answer g c =
    let out : Writing = writing_of g.O.Sink c.args.out.now c.write_all.new.out in
    follow_done c.in-Ok.followed c.in-Ok.ensures.followed (subst (λ bytes. Writes out bytes) (c.as_bytes.ensures.value ∙ c.in-Ok-report_of.ensures) (search rules))
