use Rattle.std.proofs.Common.{◌≡◌, ◌++◌, ◌<◌, ◌∷◌, [], length, set, rules, subst}
use Rattle.log_opening.specs.Devices.{Device, device_at, devices_of}
use Rattle.log_following.specs.Readings.{IsToldOfLog, IsReadOn, IsLeftAsItWas, no_memory}
use Rattle.log_following.proofs.OneDevice.{all_read, all_same, device_of, device_put, device_there, none_read, not_read_here, read_more}
use Rattle.log_following.proofs.Since.{untouched_since}
use Rattle.log_following.proofs.reading.read_all.Goals as goal

pub loop-log-init : goal.loop-log-init
loop-log-init g c = record { read = none_read (devices_of g.D.LogDev.told g.D.LogDev.faults c.args.devices.now.items) c.new-found.result c.new-found.ensures; four = c.requires }

pub loop-log-preserved : goal.loop-log-preserved
loop-log-preserved g c =
    let told = g.D.LogDev.told in
    let faults = g.D.LogDev.faults in
    let before = devices_of told faults c.args.devices.now.items in
    let xs = c.loop-log.devices.items in
    let n = c.loop-log.log in
    let x = c.read_one.new.dev in
    let there : n < length xs = search rules in
    let is = device_there told faults xs n c.index_mut.result.now there c.index_mut.ensures.value in
    let same = all_same told faults xs n x (subst (λ (d : Device). IsLeftAsItWas d (device_of told faults x)) is c.read_one.ensures.untouched) in
    let pushed : c.push.new.self ≡ c.loop-log.found ++ c.in-Ok.items ∷ [] = search rules in
    record {
      read = read_more before (devices_of told faults xs) (devices_of told faults (set xs n x)) n c.loop-log.found c.push.new.self c.in-Ok.items c.loop-log.invariant.read pushed same
          (subst (λ (d : Device). IsReadOn d c.in-Ok.items) is c.in-Ok.ensures.read.0) c.in-Ok.ensures.read.1;
      four = search rules;
    }

pub returns-then-is_err-clause-refused : goal.returns-then-is_err-clause-refused
returns-then-is_err-clause-refused g c = no_memory

pub returns-then-is_err-clause-untouched : goal.returns-then-is_err-clause-untouched
returns-then-is_err-clause-untouched g c =
    let told = g.D.LogDev.told in
    let faults = g.D.LogDev.faults in
    let xs = c.loop-log.devices.items in
    let n = c.loop-log.log in
    let x = c.read_one.new.dev in
    let there : n < length xs = search rules in
    let is = device_there told faults xs n c.index_mut.result.now there c.index_mut.ensures.value in
    untouched_since (devices_of told faults c.args.devices.now.items) (devices_of told faults xs) (devices_of told faults (set xs n x)) c.loop-log.invariant.read.untouched
    (all_same told faults xs n x (subst (λ (d : Device). IsLeftAsItWas d (device_of told faults x)) is c.read_one.ensures.untouched))

pub returns-in-Err-clause-untouched : goal.returns-in-Err-clause-untouched
returns-in-Err-clause-untouched g c =
    let told = g.D.LogDev.told in
    let faults = g.D.LogDev.faults in
    let xs = c.loop-log.devices.items in
    let n = c.loop-log.log in
    let x = c.read_one.new.dev in
    let there : n < length xs = search rules in
    let is = device_there told faults xs n c.index_mut.result.now there c.index_mut.ensures.value in
    untouched_since (devices_of told faults c.args.devices.now.items) (devices_of told faults xs) (devices_of told faults (set xs n x)) c.loop-log.invariant.read.untouched
    (all_same told faults xs n x (subst (λ (d : Device). IsLeftAsItWas d (device_of told faults x)) is c.read_one.ensures.untouched))

pub returns-in-Err-clause-refused : goal.returns-in-Err-clause-refused
returns-in-Err-clause-refused g c =
    let told = g.D.LogDev.told in
    let faults = g.D.LogDev.faults in
    let before = devices_of told faults c.args.devices.now.items in
    let xs = c.loop-log.devices.items in
    let n = c.loop-log.log in
    let x = c.read_one.new.dev in
    let there : n < length xs = search rules in
    let is = device_there told faults xs n c.index_mut.result.now there c.index_mut.ensures.value in
    let put = device_put told faults xs n x there in
    not_read_here before (devices_of told faults xs) (devices_of told faults (set xs n x)) n c.loop-log.found c.in-Err.no c.loop-log.invariant.read (search rules)
    (subst (λ (d : Device). IsToldOfLog n (device_at (devices_of told faults xs) n) d c.in-Err.no) put
    (subst (λ (d : Device). IsToldOfLog n d (device_of told faults x) c.in-Err.no) is c.in-Err.ensures.read))

pub returns-clause-read : goal.returns-clause-read
returns-clause-read g c =
    let told = g.D.LogDev.told in
    let faults = g.D.LogDev.faults in
    all_read (devices_of told faults c.args.devices.now.items) (devices_of told faults c.loop-log.devices.items) c.loop-log.log c.loop-log.found c.loop-log.invariant.read (search rules)

pub returns-clause-placed : goal.returns-clause-placed
returns-clause-placed g c = c.loop-log.invariant.read.placed

pub returns-clause-untouched : goal.returns-clause-untouched
returns-clause-untouched g c = c.loop-log.invariant.read.untouched
