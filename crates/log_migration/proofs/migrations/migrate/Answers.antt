use Rattle.std.proofs.Common.{List, ap, inl}
use Rattle.log_opening.proofs.Flow.{ended_for_memory}
use Rattle.log_opening.proofs.Opening.{all_untouched, touched_later, touched_safe}
use Rattle.log_opening.specs.Devices.{devices_of, devices_now}
use Rattle.log_migration.proofs.Migrating.{safe_back, safe_later, safe_records}
use Rattle.log_migration.proofs.migrations.migrate.Goals as goal

-- ---- no memory for open logs: no device got a call

pub returns-in_default-clause-refused : goal.returns-in_default-clause-refused
returns-in_default-clause-refused g c = inl (ended_for_memory (devices_of g.D.LogDev.told g.D.LogDev.faults c.args.devices.now.items)).cause

pub returns-in_default-clause-safe : goal.returns-in_default-clause-safe
returns-in_default-clause-safe g c = touched_safe _ _ (all_untouched (devices_of g.D.LogDev.told g.D.LogDev.faults c.args.devices.now.items))

pub returns-in_default-clause-later : goal.returns-in_default-clause-later
returns-in_default-clause-later g c = touched_later _ _ (all_untouched (devices_of g.D.LogDev.told g.D.LogDev.faults c.args.devices.now.items))

-- ---- the devices come back from the open logs

pub returns-clause-safe : goal.returns-clause-safe
returns-clause-safe g c =
    let told = g.D.LogDev.told in
    let faults = g.D.LogDev.faults in
    safe_records (devices_of told faults c.args.devices.now.items) (devices_of told faults c.close.new.devices.items)
    (safe_back (devices_of told faults c.args.devices.now.items) (devices_of told faults c.close.new.devices.items)
    (devices_now told faults c.recover_and_upgrade-answer.new.opened.logs.items c.recover_and_upgrade-answer.new.devices.items)
    (devices_now told faults c.in-Ok.opened.logs.items c.args.devices.now.items)
    (ap (λ (l : List _). devices_now told faults l c.args.devices.now.items) c.in-Ok.ensures.logs) c.close.ensures.devices c.recover_and_upgrade-answer.ensures.safe)

pub returns-clause-later : goal.returns-clause-later
returns-clause-later g c =
    let told = g.D.LogDev.told in
    let faults = g.D.LogDev.faults in
    safe_later (devices_of told faults c.args.devices.now.items) (devices_of told faults c.close.new.devices.items)
    (safe_back (devices_of told faults c.args.devices.now.items) (devices_of told faults c.close.new.devices.items)
    (devices_now told faults c.recover_and_upgrade-answer.new.opened.logs.items c.recover_and_upgrade-answer.new.devices.items)
    (devices_now told faults c.in-Ok.opened.logs.items c.args.devices.now.items)
    (ap (λ (l : List _). devices_now told faults l c.args.devices.now.items) c.in-Ok.ensures.logs) c.close.ensures.devices c.recover_and_upgrade-answer.ensures.safe)
