use Rattle.std.proofs.Common.{rules, ◌≡◌, ◌+◌, ◌<◌, ◌++◌, arith, length-append, ◌∷◌, [], length, List, subst, sym, ◌∙◌, ap}
use Rattle.std.specs.List.{AllZip, insert}
use Rattle.log_opening.specs.Devices.{Device, devices_now, as_device}
use Rattle.log_opening.specs.Found.{AreFound, IsReadyLog, IsFoundOn, IsLeftClosed, no_of_opening}
use Rattle.log_opening.proofs.Opening.{one_more, halted_for_memory, halted_at}
use Rattle.log_opening.proofs.Places.{now_at, now_long, now_opened, now_back, zip_last}
use Rattle.log_opening.proofs.openings.open_next.Goals as goal

pub returns-then-is_err-clause-halted : goal.returns-then-is_err-clause-halted
returns-then-is_err-clause-halted g c = λ before are.
    let told = g.D.LogDev.told in
    let faults = g.D.LogDev.faults in
    let logs = c.args.opened.now.logs.items in
    let xs = c.args.devices.now.items in
    let lt : 0 < length xs = search rules in
    let at : c.len-number.result ≡ length logs = search rules in
    let same : length c.args.opened.now.found ≡ length logs = search rules in
    halted_for_memory (length c.args.opened.now.found + 1) before (devices_now told faults c.put.new.objects.items c.remove-dev.new.self.items) (c.args.opened.now.found ++ c.in-Ok.items ∷ [])
    (omega (arith, length-append c.args.opened.now.found (c.in-Ok.items ∷ [])))
    (one_more before (devices_now told faults logs xs) (devices_now told faults c.put.new.objects.items c.remove-dev.new.self.items)
    c.args.opened.now.found (length logs) (as_device c.in-Ok.log) c.in-Ok.items (sym same) (now_long told faults logs xs lt)
    (now_opened told faults logs c.put.new.objects.items c.in-Ok.log xs c.remove-dev.new.self.items lt c.remove-dev.ensures.items (c.put.ensures.items ∙ ap (λ n. insert logs n c.in-Ok.log) at))
    (subst (λ (d : Device). IsFoundOn d (as_device c.in-Ok.log) c.in-Ok.items) (now_at told faults logs xs c.remove-dev.result lt c.remove-dev.ensures.value) c.in-Ok.ensures.0) are)

pub returns-else-is_err-clause-found : goal.returns-else-is_err-clause-found
returns-else-is_err-clause-found g c = λ before are.
    let told = g.D.LogDev.told in
    let faults = g.D.LogDev.faults in
    let logs = c.args.opened.now.logs.items in
    let xs = c.args.devices.now.items in
    let lt : 0 < length xs = search rules in
    let at : c.len-number.result ≡ length logs = search rules in
    let same : length c.args.opened.now.found ≡ length logs = search rules in
    let grown : c.push.new.self ≡ c.args.opened.now.found ++ c.in-Ok.items ∷ [] = search rules in
    subst (λ (l : List _). AreFound before (devices_now told faults c.put.new.objects.items c.remove-dev.new.self.items) l) (sym grown)
    (one_more before (devices_now told faults logs xs) (devices_now told faults c.put.new.objects.items c.remove-dev.new.self.items)
    c.args.opened.now.found (length logs) (as_device c.in-Ok.log) c.in-Ok.items (sym same) (now_long told faults logs xs lt)
    (now_opened told faults logs c.put.new.objects.items c.in-Ok.log xs c.remove-dev.new.self.items lt c.remove-dev.ensures.items (c.put.ensures.items ∙ ap (λ n. insert logs n c.in-Ok.log) at))
    (subst (λ (d : Device). IsFoundOn d (as_device c.in-Ok.log) c.in-Ok.items) (now_at told faults logs xs c.remove-dev.result lt c.remove-dev.ensures.value) c.in-Ok.ensures.0) are)

pub returns-else-is_err-clause-ready : goal.returns-else-is_err-clause-ready
returns-else-is_err-clause-ready g c = λ all.
    let logs = c.args.opened.now.logs.items in
    let at : c.len-number.result ≡ length logs = search rules in
    let grown : c.push.new.self ≡ c.args.opened.now.found ++ c.in-Ok.items ∷ [] = search rules in
    subst (λ (l : List _). AllZip IsReadyLog c.put.new.objects.items l) (sym grown)
    (zip_last IsReadyLog logs c.put.new.objects.items c.args.opened.now.found c.in-Ok.log c.in-Ok.items
    (c.put.ensures.items ∙ ap (λ n. insert logs n c.in-Ok.log) at) all c.in-Ok.ensures.1)

pub returns-in-Err-clause-halted : goal.returns-in-Err-clause-halted
returns-in-Err-clause-halted g c = λ before are.
    let told = g.D.LogDev.told in
    let faults = g.D.LogDev.faults in
    let logs = c.args.opened.now.logs.items in
    let xs = c.args.devices.now.items in
    let lt : 0 < length xs = search rules in
    let at : c.len-number.result ≡ length c.args.opened.now.found = search rules in
    let same : length c.args.opened.now.found ≡ length logs = search rules in
    let new : Device = record { told = told c.in-Err.dev; faults = faults c.in-Err.dev } in
    halted_at before (devices_now told faults logs xs) (devices_now told faults logs c.put-in-Err.new.objects.items)
    c.args.opened.now.found (length logs) new c.in-Err.no c.of_opening.result (sym same) (now_long told faults logs xs lt)
    (now_back told faults logs c.in-Err.dev xs c.remove-dev.new.self.items c.put-in-Err.new.objects.items lt c.remove-dev.ensures.items c.put-in-Err.ensures.items)
    (subst (λ (d : Device). IsLeftClosed d new c.in-Err.no) (now_at told faults logs xs c.remove-dev.result lt c.remove-dev.ensures.value) c.in-Err.ensures)
    (c.of_opening.ensures ∙ ap (λ n. no_of_opening n c.in-Err.no) (at ∙ same)) are
