use Rattle.log_opening.specs.Devices.{devices_of}
use Rattle.log_opening.proofs.Opening.{touched_opened, touched_safe, touched_later}
use Rattle.log_opening.proofs.Flow.{fold_few, fold_given, fold_refused}
use Rattle.log_opening.proofs.recovery.recover_kept.Goals as goal

pub fold_records-requires : goal.fold_records-requires
fold_records-requires g c = c.in-Ok.ensures.within.0

pub returns-in-Ok-clause-recovered : goal.returns-in-Ok-clause-recovered
returns-in-Ok-clause-recovered g c =
    fold_given (devices_of g.D.LogDev.told g.D.LogDev.faults c.args.devices.now.items) (devices_of g.D.LogDev.told g.D.LogDev.faults c.all_records.new.devices.items)
    c.in-Ok.found.head c.in-Ok.lists c.in-Ok.ensures.read c.fold_records.result c.fold_records.ensures

pub returns-in-Ok-clause-refused : goal.returns-in-Ok-clause-refused
returns-in-Ok-clause-refused g c =
    fold_refused (devices_of g.D.LogDev.told g.D.LogDev.faults c.args.devices.now.items) (devices_of g.D.LogDev.told g.D.LogDev.faults c.all_records.new.devices.items)
    c.in-Ok.found.head c.in-Ok.lists c.in-Ok.ensures.read c.fold_records.result c.fold_records.ensures

pub returns-in-Ok-clause-actors : goal.returns-in-Ok-clause-actors
returns-in-Ok-clause-actors g c =
    fold_few (devices_of g.D.LogDev.told g.D.LogDev.faults c.args.devices.now.items) (devices_of g.D.LogDev.told g.D.LogDev.faults c.all_records.new.devices.items)
    c.in-Ok.found.head c.in-Ok.lists c.in-Ok.ensures.read c.folds_are_of_records.ensures c.fold_records.result c.fold_records.ensures

pub returns-in-Ok-clause-opened : goal.returns-in-Ok-clause-opened
returns-in-Ok-clause-opened g c = touched_opened _ _ c.in-Ok.ensures.read.touched

pub returns-in-Ok-clause-safe : goal.returns-in-Ok-clause-safe
returns-in-Ok-clause-safe g c = touched_safe _ _ c.in-Ok.ensures.read.touched

pub returns-in-Ok-clause-later : goal.returns-in-Ok-clause-later
returns-in-Ok-clause-later g c = touched_later _ _ c.in-Ok.ensures.read.touched

pub returns-in-Err-clause-opened : goal.returns-in-Err-clause-opened
returns-in-Err-clause-opened g c = touched_opened _ _ c.in-Err.ensures.read.touched

pub returns-in-Err-clause-safe : goal.returns-in-Err-clause-safe
returns-in-Err-clause-safe g c = touched_safe _ _ c.in-Err.ensures.read.touched

pub returns-in-Err-clause-later : goal.returns-in-Err-clause-later
returns-in-Err-clause-later g c = touched_later _ _ c.in-Err.ensures.read.touched
