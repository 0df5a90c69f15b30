use Rattle.std.proofs.Common.{◌≡◌, ℕ, List, length, sym, subst, rules}
use Rattle.std.specs.List.{AllZip}
use Rattle.log_opening.specs.Counted.{AreNotRead}
use Rattle.log_opening.specs.declared.refusals.LogsNo.{LogsNo}
use Rattle.log_opening.specs.Devices.{Device, devices_now}
use Rattle.log_opening.specs.Found.{IsHandled}
use Rattle.log_opening.specs.Kept.{AreUsed}
use Rattle.log_opening.proofs.Counting.{halted_read, opened_handled, other_count}
use Rattle.log_opening.proofs.Places.{now_all}
use Rattle.log_opening.proofs.counted.open_and_decode.Goals as goal

pub ready_records-requires-clause-ready : goal.ready_records-requires-clause-ready
ready_records-requires-clause-ready g c = c.in-Ok.ensures.found.ready

pub returns-in-Err-clause-read : goal.returns-in-Err-clause-read
returns-in-Err-clause-read g c =
    let before : List Device = devices_now g.D.LogDev.told g.D.LogDev.faults c.args.opened.now.logs.items c.args.devices.now.items in
    let after : List Device = devices_now g.D.LogDev.told g.D.LogDev.faults c.open_all.new.opened.logs.items c.open_all.new.devices.items in
    (halted_read c.args.count before after c.in-Err.no c.in-Err.ensures.halted, opened_handled before after c.in-Err.ensures.halted.touched)

pub returns-in-Some-clause-read : goal.returns-in-Some-clause-read
returns-in-Some-clause-read g c =
    let told = g.D.LogDev.told in
    let faults = g.D.LogDev.faults in
    let before : List Device = devices_now told faults c.args.opened.now.logs.items c.args.devices.now.items in
    let logs = c.open_all.new.opened.logs.items in
    let rest = c.open_all.new.devices.items in
    let after : List Device = devices_now told faults logs rest in
    let none : length rest ≡ 0 = search rules in
    let f = c.in-Ok.found in
    subst (λ (no : LogsNo). AreNotRead c.args.count before after no × AllZip IsHandled before after) (sym c.in-Some.ensures.1)
    (other_count c.args.count before after logs c.open_all.new.opened.found f.head f.logs f.generation c.in-Ok.ensures.found (now_all told faults logs rest none) c.in-Ok.ensures.used c.in-Some.ensures.0)

pub returns-in-Ok-ready_records-clause-read : goal.returns-in-Ok-ready_records-clause-read
returns-in-Ok-ready_records-clause-read g c =
    let before : List Device = devices_now g.D.LogDev.told g.D.LogDev.faults c.args.opened.now.logs.items c.args.devices.now.items in
    let f = c.in-Ok.found in
    let used : AreUsed c.args.count before f.head c.args.count f.generation = subst (λ (n : ℕ). AreUsed c.args.count before f.head n f.generation) c.in-None.ensures c.in-Ok.ensures.used in
    (c.in-Ok-ready_records.ensures.read before f.generation used c.in-Ok.ensures.found c.in-Ok.ensures.set).0

pub returns-in-Ok-ready_records-clause-count : goal.returns-in-Ok-ready_records-clause-count
returns-in-Ok-ready_records-clause-count g c =
    let before : List Device = devices_now g.D.LogDev.told g.D.LogDev.faults c.args.opened.now.logs.items c.args.devices.now.items in
    let f = c.in-Ok.found in
    let used : AreUsed c.args.count before f.head c.args.count f.generation = subst (λ (n : ℕ). AreUsed c.args.count before f.head n f.generation) c.in-None.ensures c.in-Ok.ensures.used in
    ((c.in-Ok-ready_records.ensures.read before f.generation used c.in-Ok.ensures.found c.in-Ok.ensures.set).1, c.in-None.ensures)

pub returns-in-Err-ready_records-clause-read : goal.returns-in-Err-ready_records-clause-read
returns-in-Err-ready_records-clause-read g c =
    let told = g.D.LogDev.told in
    let faults = g.D.LogDev.faults in
    let before : List Device = devices_now told faults c.args.opened.now.logs.items c.args.devices.now.items in
    let logs = c.ready_records.new.opened.logs.items in
    let rest = c.open_all.new.devices.items in
    let none : length rest ≡ 0 = search rules in
    let f = c.in-Ok.found in
    let used : AreUsed c.args.count before f.head c.args.count f.generation = subst (λ (n : ℕ). AreUsed c.args.count before f.head n f.generation) c.in-None.ensures c.in-Ok.ensures.used in
    subst (λ (ds : List Device). AreNotRead c.args.count before ds c.in-Err-ready_records.no × AllZip IsHandled before ds) (sym (now_all told faults logs rest none))
    (c.in-Err-ready_records.ensures.read before f.generation used c.in-Ok.ensures.found c.in-Ok.ensures.set)
