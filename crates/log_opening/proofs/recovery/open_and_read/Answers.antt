use Rattle.std.proofs.Common.{◌≡◌, ◌+◌, ◌≤◌, List, length, sym, ap, subst, arith, rules}
use Rattle.std.specs.Prelude.{slice_range}
use Rattle.std.specs.List.{AllByRecursion}
use Rattle.gate_log.specs.declared.logs.LogItem.{LogItem}
use Rattle.log_opening.specs.Devices.{Device, devices_now}
use Rattle.log_opening.specs.Found.{ArePlaced}
use Rattle.log_opening.proofs.AllFound.{open_on}
use Rattle.log_opening.proofs.Flow.{halted_ended, lists_ended, lists_read}
use Rattle.log_opening.proofs.Numbers.{all_part, part_long}
use Rattle.log_opening.proofs.Places.{now_all}
use Rattle.log_opening.proofs.Reading.{IsPart, lists_many}
use Rattle.log_opening.proofs.recovery.open_and_read.Goals as goal

pub read_logs-requires-clause-placed : goal.read_logs-requires-clause-placed
read_logs-requires-clause-placed g c =
    all_part ArePlaced c.in-Ok.found.head (c.in-Ok.found.head + c.in-Ok.found.logs) c.as_slice.result.now
    (subst (λ (l : List (List LogItem)). AllByRecursion ArePlaced l) (sym c.as_slice.ensures) c.in-Ok.ensures.placed)

pub read_logs-requires-clause-few : goal.read_logs-requires-clause-few
read_logs-requires-clause-few g c =
    let size : length c.as_slice.result.now ≡ length c.open_all.new.opened.found = ap (λ (l : List (List LogItem)). length l) c.as_slice.ensures in
    let there : c.in-Ok.found.head + c.in-Ok.found.logs ≤ length c.as_slice.result.now = omega (arith, size, c.in-Ok.ensures.items, c.in-Ok.ensures.within) in
    omega (arith, part_long c.as_slice.result.now c.in-Ok.found.head c.in-Ok.found.logs there, c.in-Ok.ensures.within)

pub returns-in-Ok-read_logs-clause-read : goal.returns-in-Ok-read_logs-clause-read
returns-in-Ok-read_logs-clause-read g c =
    let told = g.D.LogDev.told in
    let faults = g.D.LogDev.faults in
    let before : List Device = devices_now told faults c.args.opened.now.logs.items c.args.devices.now.items in
    let logs = c.open_all.new.opened.logs.items in
    let rest = c.open_all.new.devices.items in
    let none : length rest ≡ 0 = search rules in
    let f = c.in-Ok.found in
    let is : IsPart c.open_all.new.opened.found (slice_range c.as_slice.result.now f.head (f.head + f.logs)) f.head f.logs =
    record { is = ap (λ (l : List (List LogItem)). slice_range l f.head (f.head + f.logs)) c.as_slice.ensures; within = c.in-Ok.ensures.within } in
    lists_read c.opened_holds.ensures.before before (devices_now told faults logs rest) logs c.open_all.new.opened.found (slice_range c.as_slice.result.now f.head (f.head + f.logs)) f.head f.logs f.generation
    c.in-Ok.ensures.used c.in-Ok.ensures.found is (now_all told faults logs rest none) c.records_are_held.ensures.items c.in-Ok-read_logs.lists c.in-Ok-read_logs.ensures

pub returns-in-Ok-read_logs-clause-within : goal.returns-in-Ok-read_logs-clause-within
returns-in-Ok-read_logs-clause-within g c =
    let before : List Device = devices_now g.D.LogDev.told g.D.LogDev.faults c.args.opened.now.logs.items c.args.devices.now.items in
    let f = c.in-Ok.found in
    let is : IsPart c.open_all.new.opened.found (slice_range c.as_slice.result.now f.head (f.head + f.logs)) f.head f.logs =
    record { is = ap (λ (l : List (List LogItem)). slice_range l f.head (f.head + f.logs)) c.as_slice.ensures; within = c.in-Ok.ensures.within } in
    let many : length c.in-Ok-read_logs.lists ≡ f.logs =
    lists_many c.opened_holds.ensures.before before c.open_all.new.opened.logs.items c.open_all.new.opened.found (slice_range c.as_slice.result.now f.head (f.head + f.logs)) f.head f.logs
    c.in-Ok.ensures.found is c.in-Ok-read_logs.lists c.in-Ok-read_logs.ensures in
    (omega (arith, many, c.in-Ok.ensures.within), many)

pub returns-in-Ok-read_logs-clause-open : goal.returns-in-Ok-read_logs-clause-open
returns-in-Ok-read_logs-clause-open g c =
    let before : List Device = devices_now g.D.LogDev.told g.D.LogDev.faults c.args.opened.now.logs.items c.args.devices.now.items in
    open_on before c.open_all.new.opened.logs.items c.open_all.new.opened.found c.in-Ok.ensures.found

pub returns-in-Err-read_logs-clause-read : goal.returns-in-Err-read_logs-clause-read
returns-in-Err-read_logs-clause-read g c =
    let told = g.D.LogDev.told in
    let faults = g.D.LogDev.faults in
    let before : List Device = devices_now told faults c.args.opened.now.logs.items c.args.devices.now.items in
    let logs = c.open_all.new.opened.logs.items in
    let rest = c.open_all.new.devices.items in
    let none : length rest ≡ 0 = search rules in
    let f = c.in-Ok.found in
    let is : IsPart c.open_all.new.opened.found (slice_range c.as_slice.result.now f.head (f.head + f.logs)) f.head f.logs =
    record { is = ap (λ (l : List (List LogItem)). slice_range l f.head (f.head + f.logs)) c.as_slice.ensures; within = c.in-Ok.ensures.within } in
    lists_ended c.opened_holds.ensures.before before (devices_now told faults logs rest) logs c.open_all.new.opened.found (slice_range c.as_slice.result.now f.head (f.head + f.logs)) f.head f.logs f.generation
    c.in-Ok.ensures.used c.in-Ok.ensures.found is (now_all told faults logs rest none) c.in-Err-read_logs.no c.in-Err-read_logs.ensures

pub returns-in-Err-clause-read : goal.returns-in-Err-clause-read
returns-in-Err-clause-read g c = halted_ended _ _ c.in-Err.no c.in-Err.ensures.halted
