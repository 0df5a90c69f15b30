use Rattle.std.proofs.Common.{◌≤◌, List, ap, inl}
use Rattle.std.specs.List.{AllZip}
use Rattle.log_opening.proofs.Flow.{ended_for_memory}
use Rattle.log_opening.proofs.Opening.{all_untouched, touched_later}
use Rattle.log_opening.specs.Devices.{Device, devices_of, devices_now}
use Rattle.log_compaction.specs.Steps.{IsGuarded}
use Rattle.log_compaction.proofs.Compacting.{between}
use Rattle.log_compaction.proofs.compaction.compact.Goals as goal

-- ---- no memory for open logs: no device got a call

pub returns-in_default-clause-refused : goal.returns-in_default-clause-refused
returns-in_default-clause-refused g c = inl (ended_for_memory (devices_of g.D.LogDev.told g.D.LogDev.faults c.args.devices.now.items)).cause

pub returns-in_default-clause-safe : goal.returns-in_default-clause-safe
returns-in_default-clause-safe g c =
    let before : List Device = devices_of g.D.LogDev.told g.D.LogDev.faults c.args.devices.now.items in
    c.guarded_is_safe.ensures before before (inl (all_untouched before))

pub returns-in_default-clause-later : goal.returns-in_default-clause-later
returns-in_default-clause-later g c = touched_later _ _ (all_untouched (devices_of g.D.LogDev.told g.D.LogDev.faults c.args.devices.now.items))

-- ---- the devices come back from the open logs

pub returns-clause-safe : goal.returns-clause-safe
returns-clause-safe g c =
    let told = g.D.LogDev.told in
    let faults = g.D.LogDev.faults in
    let before : List Device = devices_of told faults c.args.devices.now.items in
    let after : List Device = devices_of told faults c.close.new.devices.items in
    c.guarded_is_safe.ensures before after
    (between IsGuarded before after (devices_now told faults c.open_and_compact-answer.new.opened.logs.items c.open_and_compact-answer.new.devices.items)
    (devices_now told faults c.in-Ok.opened.logs.items c.args.devices.now.items)
    (ap (λ (l : List _). devices_now told faults l c.args.devices.now.items) c.in-Ok.ensures.logs) c.close.ensures.devices c.open_and_compact-answer.ensures.guarded)

pub returns-clause-later : goal.returns-clause-later
returns-clause-later g c =
    let told = g.D.LogDev.told in
    let faults = g.D.LogDev.faults in
    let before : List Device = devices_of told faults c.args.devices.now.items in
    let after : List Device = devices_of told faults c.close.new.devices.items in
    between (λ (b a : List Device). AllZip (λ (x y : Device). x.faults ≤ y.faults) b a) before after
    (devices_now told faults c.open_and_compact-answer.new.opened.logs.items c.open_and_compact-answer.new.devices.items)
    (devices_now told faults c.in-Ok.opened.logs.items c.args.devices.now.items)
    (ap (λ (l : List _). devices_now told faults l c.args.devices.now.items) c.in-Ok.ensures.logs) c.close.ensures.devices c.open_and_compact-answer.ensures.later
