use Rattle.std.proofs.Common.{◌≡◌, List, length, rules}
use Rattle.log_opening.specs.Devices.{Device, devices_now}
use Rattle.log_opening.proofs.Flow.{fold_ended, fold_open}
use Rattle.log_opening.proofs.Places.{now_all}
use Rattle.log_opening.proofs.recovery.open_and_recover.Goals as goal

pub fold_records-requires : goal.fold_records-requires
fold_records-requires g c = c.in-Ok.ensures.within.0

pub returns-in-Ok-fold_records-clause-recovered : goal.returns-in-Ok-fold_records-clause-recovered
returns-in-Ok-fold_records-clause-recovered g c =
    let told = g.D.LogDev.told in
    let faults = g.D.LogDev.faults in
    let before : List Device = devices_now told faults c.args.opened.now.logs.items c.args.devices.now.items in
    let logs = c.open_and_read.new.opened.logs.items in
    let rest = c.open_and_read.new.devices.items in
    let none : length rest ≡ 0 = search rules in
    let read = c.in-Ok.read in (
      read.0,
      c.in-Ok.ensures.within.1,
      fold_open before (devices_now told faults logs rest) logs read.1.head read.0 c.in-Ok-fold_records.folded c.in-Ok.ensures.read (now_all told faults logs rest none) c.in-Ok.ensures.within.0
          c.in-Ok.ensures.open c.in-Ok-fold_records.ensures,
    )

pub returns-in-Err-fold_records-clause-refused : goal.returns-in-Err-fold_records-clause-refused
returns-in-Err-fold_records-clause-refused g c =
    fold_ended (devices_now g.D.LogDev.told g.D.LogDev.faults c.args.opened.now.logs.items c.args.devices.now.items)
    (devices_now g.D.LogDev.told g.D.LogDev.faults c.open_and_read.new.opened.logs.items c.open_and_read.new.devices.items) c.in-Ok.read.1.head c.in-Ok.read.0 c.in-Ok.ensures.read
    c.in-Err-fold_records.no c.in-Err-fold_records.ensures
