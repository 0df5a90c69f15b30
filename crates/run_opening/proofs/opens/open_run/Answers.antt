use Rattle.std.proofs.Common.{List, sym, subst, rules, length, ◌+◌, ◌≤◌}
use Rattle.gate_log.specs.State.{LogState}
use Rattle.log_opening.specs.Devices.{Device, devices_of, devices_now}
use Rattle.run_opening.specs.Writes.{HasOpenedNoRun}
use Rattle.run_opening.proofs.RunOpening.{nothing_done}
use Rattle.run_opening.proofs.Completing as completing
use Rattle.run_opening.proofs.Taking.{run_taken}
use Rattle.run_opening.proofs.opens.open_run.Goals as goal

pub returns-in_default-clause-refused : goal.returns-in_default-clause-refused
returns-in_default-clause-refused g c =
    let told = g.D.LogDev.told in
    let faults = g.D.LogDev.faults in
    let nothing = nothing_done c.no_call_is_safe.ensures c.args.count c.args.states.now (devices_of told faults c.args.devices.now.items) in
    nothing.why

pub returns-in_default-clause-safe : goal.returns-in_default-clause-safe
returns-in_default-clause-safe g c =
    let told = g.D.LogDev.told in
    let faults = g.D.LogDev.faults in
    let nothing = nothing_done c.no_call_is_safe.ensures c.args.count c.args.states.now (devices_of told faults c.args.devices.now.items) in
    nothing.safe

pub returns-in_default-clause-later : goal.returns-in_default-clause-later
returns-in_default-clause-later g c =
    let told = g.D.LogDev.told in
    let faults = g.D.LogDev.faults in
    let nothing = nothing_done c.no_call_is_safe.ensures c.args.count c.args.states.now (devices_of told faults c.args.devices.now.items) in
    nothing.later

pub returns-in-Ok-begin_on-clause-opens : goal.returns-in-Ok-begin_on-clause-opens
returns-in-Ok-begin_on-clause-opens g c =
    let told = g.D.LogDev.told in
    let faults = g.D.LogDev.faults in
    let logs = c.begin_on.new.opened.logs.items in
    let head = c.in-Ok-begin_on.head in
    let within : head + c.args.count ≤ length logs = search rules in
    let begun = run_taken told faults c.args.count head c.args.states.now c.in-Ok-begin_on.opening c.in-Ok.opened.logs.items logs c.take_out-logs.result.items c.args.devices.now.items c.begin_on.new.devices.items c.take_out-logs.new.devices.items
    c.in-Ok.ensures.logs (search rules) within c.take_out-logs.ensures.devices c.take_out-logs.ensures.logs c.in-Ok-begin_on.ensures.begun in
    begun.opens

pub returns-in-Ok-begin_on-clause-room : goal.returns-in-Ok-begin_on-clause-room
returns-in-Ok-begin_on-clause-room g c =
    let told = g.D.LogDev.told in
    let faults = g.D.LogDev.faults in
    let logs = c.begin_on.new.opened.logs.items in
    let head = c.in-Ok-begin_on.head in
    let within : head + c.args.count ≤ length logs = search rules in
    let begun = run_taken told faults c.args.count head c.args.states.now c.in-Ok-begin_on.opening c.in-Ok.opened.logs.items logs c.take_out-logs.result.items c.args.devices.now.items c.begin_on.new.devices.items c.take_out-logs.new.devices.items
    c.in-Ok.ensures.logs (search rules) within c.take_out-logs.ensures.devices c.take_out-logs.ensures.logs c.in-Ok-begin_on.ensures.begun in
    begun.room

pub returns-in-Ok-begin_on-clause-actors : goal.returns-in-Ok-begin_on-clause-actors
returns-in-Ok-begin_on-clause-actors g c =
    let told = g.D.LogDev.told in
    let faults = g.D.LogDev.faults in
    let logs = c.begin_on.new.opened.logs.items in
    let head = c.in-Ok-begin_on.head in
    let within : head + c.args.count ≤ length logs = search rules in
    let begun = run_taken told faults c.args.count head c.args.states.now c.in-Ok-begin_on.opening c.in-Ok.opened.logs.items logs c.take_out-logs.result.items c.args.devices.now.items c.begin_on.new.devices.items c.take_out-logs.new.devices.items
    c.in-Ok.ensures.logs (search rules) within c.take_out-logs.ensures.devices c.take_out-logs.ensures.logs c.in-Ok-begin_on.ensures.begun in
    begun.actors

pub returns-in-Ok-begin_on-clause-kept : goal.returns-in-Ok-begin_on-clause-kept
returns-in-Ok-begin_on-clause-kept g c =
    let told = g.D.LogDev.told in
    let faults = g.D.LogDev.faults in
    let logs = c.begin_on.new.opened.logs.items in
    let head = c.in-Ok-begin_on.head in
    let within : head + c.args.count ≤ length logs = search rules in
    let begun = run_taken told faults c.args.count head c.args.states.now c.in-Ok-begin_on.opening c.in-Ok.opened.logs.items logs c.take_out-logs.result.items c.args.devices.now.items c.begin_on.new.devices.items c.take_out-logs.new.devices.items
    c.in-Ok.ensures.logs (search rules) within c.take_out-logs.ensures.devices c.take_out-logs.ensures.logs c.in-Ok-begin_on.ensures.begun in
    begun.kept

pub returns-in-Ok-begin_on-clause-ends : goal.returns-in-Ok-begin_on-clause-ends
returns-in-Ok-begin_on-clause-ends g c =
    let told = g.D.LogDev.told in
    let faults = g.D.LogDev.faults in
    let logs = c.begin_on.new.opened.logs.items in
    let head = c.in-Ok-begin_on.head in
    let within : head + c.args.count ≤ length logs = search rules in
    let begun = run_taken told faults c.args.count head c.args.states.now c.in-Ok-begin_on.opening c.in-Ok.opened.logs.items logs c.take_out-logs.result.items c.args.devices.now.items c.begin_on.new.devices.items c.take_out-logs.new.devices.items
    c.in-Ok.ensures.logs (search rules) within c.take_out-logs.ensures.devices c.take_out-logs.ensures.logs c.in-Ok-begin_on.ensures.begun in
    begun.ends

pub returns-in-Ok-begin_on-clause-safe : goal.returns-in-Ok-begin_on-clause-safe
returns-in-Ok-begin_on-clause-safe g c =
    let told = g.D.LogDev.told in
    let faults = g.D.LogDev.faults in
    let logs = c.begin_on.new.opened.logs.items in
    let head = c.in-Ok-begin_on.head in
    let within : head + c.args.count ≤ length logs = search rules in
    let begun = run_taken told faults c.args.count head c.args.states.now c.in-Ok-begin_on.opening c.in-Ok.opened.logs.items logs c.take_out-logs.result.items c.args.devices.now.items c.begin_on.new.devices.items c.take_out-logs.new.devices.items
    c.in-Ok.ensures.logs (search rules) within c.take_out-logs.ensures.devices c.take_out-logs.ensures.logs c.in-Ok-begin_on.ensures.begun in
    begun.safe

pub returns-in-Ok-begin_on-clause-later : goal.returns-in-Ok-begin_on-clause-later
returns-in-Ok-begin_on-clause-later g c =
    let told = g.D.LogDev.told in
    let faults = g.D.LogDev.faults in
    let logs = c.begin_on.new.opened.logs.items in
    let head = c.in-Ok-begin_on.head in
    let within : head + c.args.count ≤ length logs = search rules in
    let begun = run_taken told faults c.args.count head c.args.states.now c.in-Ok-begin_on.opening c.in-Ok.opened.logs.items logs c.take_out-logs.result.items c.args.devices.now.items c.begin_on.new.devices.items c.take_out-logs.new.devices.items
    c.in-Ok.ensures.logs (search rules) within c.take_out-logs.ensures.devices c.take_out-logs.ensures.logs c.in-Ok-begin_on.ensures.begun in
    begun.later

pub returns-in-Err-clause-refused : goal.returns-in-Err-clause-refused
returns-in-Err-clause-refused g c =
    let told = g.D.LogDev.told in
    let faults = g.D.LogDev.faults in
    let before : List Device = devices_of told faults c.args.devices.now.items in
    let after : List Device = devices_now told faults c.begin_on.new.opened.logs.items c.begin_on.new.devices.items in
    let ended : HasOpenedNoRun c.args.count c.args.states.now before (devices_of told faults c.close.new.devices.items) c.in-Err.no =
    subst (λ (l : List Device). HasOpenedNoRun c.args.count c.args.states.now before l c.in-Err.no) (sym c.close.ensures.devices)
    (subst (λ (l : List LogState). HasOpenedNoRun c.args.count c.args.states.now (devices_now told faults l c.args.devices.now.items) after c.in-Err.no)
    c.in-Ok.ensures.logs c.in-Err.ensures.begun) in
    ended.why

pub returns-in-Err-clause-safe : goal.returns-in-Err-clause-safe
returns-in-Err-clause-safe g c =
    let told = g.D.LogDev.told in
    let faults = g.D.LogDev.faults in
    let before : List Device = devices_of told faults c.args.devices.now.items in
    let after : List Device = devices_now told faults c.begin_on.new.opened.logs.items c.begin_on.new.devices.items in
    let ended : HasOpenedNoRun c.args.count c.args.states.now before (devices_of told faults c.close.new.devices.items) c.in-Err.no =
    subst (λ (l : List Device). HasOpenedNoRun c.args.count c.args.states.now before l c.in-Err.no) (sym c.close.ensures.devices)
    (subst (λ (l : List LogState). HasOpenedNoRun c.args.count c.args.states.now (devices_now told faults l c.args.devices.now.items) after c.in-Err.no)
    c.in-Ok.ensures.logs c.in-Err.ensures.begun) in
    ended.safe

pub returns-in-Err-clause-later : goal.returns-in-Err-clause-later
returns-in-Err-clause-later g c =
    let told = g.D.LogDev.told in
    let faults = g.D.LogDev.faults in
    let before : List Device = devices_of told faults c.args.devices.now.items in
    let after : List Device = devices_now told faults c.begin_on.new.opened.logs.items c.begin_on.new.devices.items in
    let ended : HasOpenedNoRun c.args.count c.args.states.now before (devices_of told faults c.close.new.devices.items) c.in-Err.no =
    subst (λ (l : List Device). HasOpenedNoRun c.args.count c.args.states.now before l c.in-Err.no) (sym c.close.ensures.devices)
    (subst (λ (l : List LogState). HasOpenedNoRun c.args.count c.args.states.now (devices_now told faults l c.args.devices.now.items) after c.in-Err.no)
    c.in-Ok.ensures.logs c.in-Err.ensures.begun) in
    ended.later

pub returns-in-Err-clause-complete : goal.returns-in-Err-clause-complete
returns-in-Err-clause-complete g c =
    let told = g.D.LogDev.told in
    let faults = g.D.LogDev.faults in
    let before : List Device = devices_of told faults c.args.devices.now.items in
    let after : List Device = devices_now told faults c.begin_on.new.opened.logs.items c.begin_on.new.devices.items in
    let ended : HasOpenedNoRun c.args.count c.args.states.now before (devices_of told faults c.close.new.devices.items) c.in-Err.no =
    subst (λ (l : List Device). HasOpenedNoRun c.args.count c.args.states.now before l c.in-Err.no) (sym c.close.ensures.devices)
    (subst (λ (l : List LogState). HasOpenedNoRun c.args.count c.args.states.now (devices_now told faults l c.args.devices.now.items) after c.in-Err.no)
    c.in-Ok.ensures.logs c.in-Err.ensures.begun) in
    let laws : completing.Laws = record {
      lists = c.one_list.ensures;
      differs = c.one_difference.ensures.no_log;
      damaged = c.damage_is_no_log.ensures;
      one_record = c.one_record.ensures;
      one_list = c.one_list_of_records.ensures;
      bad = c.no_more_records.ensures.bad;
      one_set = c.one_set.ensures;
      one_fold = c.one_fold.ensures;
      never_both = c.refused_are_not_folded.ensures;
    } in
    λ records o may. completing.completed laws c.args.count c.args.states.now before (devices_of told faults c.close.new.devices.items) records o c.requires.some_logs c.requires.few_logs may c.in-Err.no ended.why
