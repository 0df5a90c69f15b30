use Rattle.std.proofs.Common.{◌∙◌, subst, rules}
use Rattle.std.proofs.KnownBytes.{Keeps-refl}
use Rattle.log_following.specs.log_opening.Devices.{devices_of}
use Rattle.run_work.specs.Writings.{Writing, Writes, WritesFront, writing_of}
use Rattle.snap_run.proofs.Recovering.{migration_refused}
use Rattle.snap_run.proofs.migrations.print_migrated.Goals as goal
use Rattle.snap_run.specs.Migrations.{migrate_done, migrate_out_fault}

pub returns-in-Err-clause-answer : goal.returns-in-Err-clause-answer
returns-in-Err-clause-answer g c =
    let out : Writing = writing_of g.O.Sink c.args.out.now c.args.out.now in
    migration_refused (devices_of g.D.LogDev.told g.D.LogDev.faults c.args.devices.now.items) (devices_of g.D.LogDev.told g.D.LogDev.faults c.migrate.new.devices.items) out
    c.in-Err.no c.status_of.result c.status_of.ensures c.in-Err.ensures.refused (Keeps-refl _)

pub returns-then-is_err-clause-answer : goal.returns-then-is_err-clause-answer
returns-then-is_err-clause-answer g c =
    let out : Writing = writing_of g.O.Sink c.args.out.now c.write_all.new.out in
    let is = c.in-Ok.ensures.migrated in
    migrate_out_fault is.0 is.2 (subst (λ bytes. WritesFront out bytes) (c.as_bytes.ensures.value ∙ is.1) (search rules)) (search rules)

pub returns-clause-answer : goal.returns-clause-answer
returns-clause-answer g c =
    let out : Writing = writing_of g.O.Sink c.args.out.now c.write_all.new.out in
    let is = c.in-Ok.ensures.migrated in
    migrate_done is.0 is.2 (subst (λ bytes. Writes out bytes) (c.as_bytes.ensures.value ∙ is.1) (search rules))
