use Rattle.std.proofs.Common.{◌≡◌, List, length, sym, subst, arith, rules}
use Rattle.std.specs.Prelude.{string_bytes}
use Rattle.std.specs.List.{AllZip}
use Rattle.log_opening.specs.Devices.{Device, devices_now}
use Rattle.log_opening.specs.Found.{IsKeptSafe}
use Rattle.log_opening.proofs.AllFound.{open_ready}
use Rattle.log_opening.proofs.Places.{now_all}
use Rattle.log_migration.proofs.Migrating.{not_recovered, told_migrated, touched_kept}
use Rattle.log_migration.proofs.migrations.recover_and_upgrade.Goals as goal

pub tell_and_upgrade-requires-clause-within : goal.tell_and_upgrade-requires-clause-within
tell_and_upgrade-requires-clause-within g c = omega (arith, c.in-Ok.ensures.recovered.2.within, c.in-Ok.ensures.recovered.1, c.in-Ok.ensures.all)

pub tell_and_upgrade-requires-clause-open : goal.tell_and_upgrade-requires-clause-open
tell_and_upgrade-requires-clause-open g c =
    open_ready (devices_now g.D.LogDev.told g.D.LogDev.faults c.args.opened.now.logs.items c.args.devices.now.items) c.open_and_recover.new.opened.logs.items c.in-Ok.ensures.recovered.2.open_logs

pub returns-in-Ok-clause-answered : goal.returns-in-Ok-clause-answered
returns-in-Ok-clause-answered g c =
    let told = g.D.LogDev.told in
    let faults = g.D.LogDev.faults in
    let rest = c.open_and_recover.new.devices.items in
    let none : length rest ≡ 0 = search rules in
    told_migrated (devices_now told faults c.args.opened.now.logs.items c.args.devices.now.items) c.open_and_recover.new.opened.logs.items c.in-Ok.found.head c.in-Ok.ensures.recovered.0 c.in-Ok._folded
    c.in-Ok.ensures.recovered.2 string_bytes c.tell_and_upgrade.new.logs.items (devices_now told faults c.tell_and_upgrade.new.logs.items rest) c.in-Ok.found.logs c.tell_and_upgrade.result
    c.in-Ok.ensures.recovered.1 (now_all told faults c.tell_and_upgrade.new.logs.items rest none) c.tell_and_upgrade.ensures.told c.tell_and_upgrade.ensures.failed

pub returns-in-Ok-clause-safe : goal.returns-in-Ok-clause-safe
returns-in-Ok-clause-safe g c =
    let told = g.D.LogDev.told in
    let faults = g.D.LogDev.faults in
    let before : List Device = devices_now told faults c.args.opened.now.logs.items c.args.devices.now.items in
    let rest = c.open_and_recover.new.devices.items in
    let none : length rest ≡ 0 = search rules in
    subst (λ (ds : List Device). AllZip IsKeptSafe before ds) (sym (now_all told faults c.tell_and_upgrade.new.logs.items rest none))
    (c.tell_and_upgrade.ensures.safe before c.in-Ok.ensures.recovered.2.open_logs)

pub returns-in-Err-clause-answered : goal.returns-in-Err-clause-answered
returns-in-Err-clause-answered g c = not_recovered _ _ c.in-Err.no c.in-Err.ensures.refused

pub returns-in-Err-clause-safe : goal.returns-in-Err-clause-safe
returns-in-Err-clause-safe g c = touched_kept _ _ c.in-Err.ensures.refused.touched
