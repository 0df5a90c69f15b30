use Rattle.log_opening.proofs.AllFound.{open_opened, open_touched}
use Rattle.log_migration.proofs.Migrating.{touched_kept}
use Rattle.log_migration.proofs.migrations.tell_and_upgrade.Goals as goal

pub returns-in_default-clause-failed : goal.returns-in_default-clause-failed
returns-in_default-clause-failed g c = λ before is. open_opened before c.args.logs.now.items is

pub returns-in_default-clause-safe : goal.returns-in_default-clause-safe
returns-in_default-clause-safe g c = λ before is. touched_kept before _ (open_touched before c.args.logs.now.items is)
