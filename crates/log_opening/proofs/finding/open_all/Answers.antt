use Rattle.std.proofs.Common.{◌≡◌, List, length, subst, arith, rules}
use Rattle.std.specs.List.{AllZip}
use Rattle.gate_log.specs.declared.logs.LogItem.{LogItem}
use Rattle.log_compact.specs.Finding.{lists_at}
use Rattle.log_opening.specs.Devices.{Device, devices_now}
use Rattle.log_opening.specs.Found.{AreAllFound, AreFound, IsReadyLog}
use Rattle.log_opening.proofs.AllFound.{HasFront, all_placed, now_found, set_has_items, used_by, used_fits}
use Rattle.log_opening.proofs.Opening.{halted_for_memory, none_found, none_ready}
use Rattle.log_opening.proofs.finding.open_all.Goals as goal

pub returns-in-Ok-find-clause-used : goal.returns-in-Ok-find-clause-used
returns-in-Ok-find-clause-used g c =
    let told = g.D.LogDev.told in
    let faults = g.D.LogDev.faults in
    let before : List Device = devices_now told faults c.args.opened.now.logs.items c.args.devices.now.items in
    let logs = c.open_logs.new.opened.logs.items in
    let found : List (List LogItem) = c.open_logs.new.opened.found in
    let are : AreFound before (devices_now told faults logs c.open_logs.new.devices.items) found = c.in-Ok.ensures.found before (none_found before c.args.opened.now.found c.requires.none.0) in
    let ready : AllZip IsReadyLog logs found = c.in-Ok.ensures.ready (none_ready c.args.opened.now.logs.items c.args.opened.now.found (search rules) c.requires.none.0) in
    let many : length logs ≡ 4 = search rules in
    let none : length c.open_logs.new.devices.items ≡ 0 = search rules in
    let all : AreAllFound before logs found = now_found told faults before logs c.open_logs.new.devices.items found many none are ready in
    let said = c.in-Ok-find.ensures in
    let fronts : AllZip HasFront found said.0 = subst (λ (l : List (List LogItem)). AllZip HasFront l said.0) c.as_slice.ensures said.1 in
    used_by c.logs_are_lists.ensures.placed c.args.many before logs found said.0 c.in_use.result.head c.in_use.result.logs c.in_use.result.generation all fronts (c.in_use.ensures (lists_at said.0) said.2)

pub returns-in-Ok-find-clause-within : goal.returns-in-Ok-find-clause-within
returns-in-Ok-find-clause-within g c =
    let found : List (List LogItem) = c.open_logs.new.opened.found in
    let said = c.in-Ok-find.ensures in
    let fronts : AllZip HasFront found said.0 = subst (λ (l : List (List LogItem)). AllZip HasFront l said.0) c.as_slice.ensures said.1 in
    used_fits c.args.many found said.0 c.in_use.result.head c.in_use.result.logs c.in_use.result.generation c.requires.many c.in-Ok.ensures.count.0 fronts (c.in_use.ensures (lists_at said.0) said.2)

pub returns-in-Ok-find-clause-set : goal.returns-in-Ok-find-clause-set
returns-in-Ok-find-clause-set g c =
    let found : List (List LogItem) = c.open_logs.new.opened.found in
    let said = c.in-Ok-find.ensures in
    let fronts : AllZip HasFront found said.0 = subst (λ (l : List (List LogItem)). AllZip HasFront l said.0) c.as_slice.ensures said.1 in
    set_has_items c.args.many found said.0 c.in_use.result.head c.in_use.result.logs c.in_use.result.generation c.in-Ok.ensures.count.0 fronts (c.in_use.ensures (lists_at said.0) said.2)

pub returns-in-Ok-find-clause-found : goal.returns-in-Ok-find-clause-found
returns-in-Ok-find-clause-found g c =
    let told = g.D.LogDev.told in
    let faults = g.D.LogDev.faults in
    let before : List Device = devices_now told faults c.args.opened.now.logs.items c.args.devices.now.items in
    let logs = c.open_logs.new.opened.logs.items in
    let found : List (List LogItem) = c.open_logs.new.opened.found in
    let are : AreFound before (devices_now told faults logs c.open_logs.new.devices.items) found = c.in-Ok.ensures.found before (none_found before c.args.opened.now.found c.requires.none.0) in
    let ready : AllZip IsReadyLog logs found = c.in-Ok.ensures.ready (none_ready c.args.opened.now.logs.items c.args.opened.now.found (search rules) c.requires.none.0) in
    let many : length logs ≡ 4 = search rules in
    let none : length c.open_logs.new.devices.items ≡ 0 = search rules in
    now_found told faults before logs c.open_logs.new.devices.items found many none are ready

pub returns-in-Ok-find-clause-placed : goal.returns-in-Ok-find-clause-placed
returns-in-Ok-find-clause-placed g c =
    let told = g.D.LogDev.told in
    let faults = g.D.LogDev.faults in
    let before : List Device = devices_now told faults c.args.opened.now.logs.items c.args.devices.now.items in
    all_placed before (devices_now told faults c.open_logs.new.opened.logs.items c.open_logs.new.devices.items) c.open_logs.new.opened.found
    (c.in-Ok.ensures.found before (none_found before c.args.opened.now.found c.requires.none.0))

pub returns-in-Err-find-clause-halted : goal.returns-in-Err-find-clause-halted
returns-in-Err-find-clause-halted g c =
    let told = g.D.LogDev.told in
    let faults = g.D.LogDev.faults in
    let before : List Device = devices_now told faults c.args.opened.now.logs.items c.args.devices.now.items in
    halted_for_memory 4 before (devices_now told faults c.open_logs.new.opened.logs.items c.open_logs.new.devices.items) c.open_logs.new.opened.found (omega (arith, c.in-Ok.ensures.count.0))
    (c.in-Ok.ensures.found before (none_found before c.args.opened.now.found c.requires.none.0))

pub returns-in-Err-clause-halted : goal.returns-in-Err-clause-halted
returns-in-Err-clause-halted g c =
    let before : List Device = devices_now g.D.LogDev.told g.D.LogDev.faults c.args.opened.now.logs.items c.args.devices.now.items in
    c.in-Err.ensures.halted before (none_found before c.args.opened.now.found c.requires.none.0)
