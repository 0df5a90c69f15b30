use Rattle.std.proofs.Common.{◌+◌, ◌≤◌, arith, rules}
use Rattle.log_opening.proofs.ReadyOne.{ready_laws}
use Rattle.log_opening.proofs.Upgrading.{all_begun_safely, fails_safely, stopped_many}
use Rattle.log_opening.proofs.upgrades.upgrade_all.Goals as goal

pub returns-in-Ok-clause-begun : goal.returns-in-Ok-clause-begun
returns-in-Ok-clause-begun g c = λ before is.
    let laws = ready_laws c.logs_are_lists.ensures.placed c.one_list.ensures c.opening_is_safe.ensures.adds c.opening_is_safe.ensures.format c.upgrade_keeps.ensures in
    let within : c.args.head + c.args.count ≤ 4 = omega (arith, c.requires.within, c.requires.few) in
    (all_begun_safely laws before c.args.logs.now.items c.upgrade_logs.new.logs.items c.args.head c.args.count is within c.in-Ok.ensures.ready.many c.as_slice.result.now (search rules) c.in-Ok.ensures.ready).0

pub returns-in-Ok-clause-safe : goal.returns-in-Ok-clause-safe
returns-in-Ok-clause-safe g c = λ before is.
    let laws = ready_laws c.logs_are_lists.ensures.placed c.one_list.ensures c.opening_is_safe.ensures.adds c.opening_is_safe.ensures.format c.upgrade_keeps.ensures in
    let within : c.args.head + c.args.count ≤ 4 = omega (arith, c.requires.within, c.requires.few) in
    (all_begun_safely laws before c.args.logs.now.items c.upgrade_logs.new.logs.items c.args.head c.args.count is within c.in-Ok.ensures.ready.many c.as_slice.result.now (search rules) c.in-Ok.ensures.ready).1

pub returns-clause-failed : goal.returns-clause-failed
returns-clause-failed g c = λ before is.
    let laws = ready_laws c.logs_are_lists.ensures.placed c.one_list.ensures c.opening_is_safe.ensures.adds c.opening_is_safe.ensures.format c.upgrade_keeps.ensures in
    let within : c.args.head + c.args.count ≤ 4 = omega (arith, c.requires.within, c.requires.few) in
    let many = stopped_many c.args.head c.args.count c.in-Err.log c.args.logs.now.items c.upgrade_logs.new.logs.items c.as_slice.result.now c.in-Err.ensures.ready in
    (fails_safely laws before c.args.logs.now.items c.upgrade_logs.new.logs.items c.args.head c.args.count is within many c.as_slice.result.now c.in-Err.log (search rules) c.in-Err.ensures.ready).0

pub returns-clause-safe : goal.returns-clause-safe
returns-clause-safe g c = λ before is.
    let laws = ready_laws c.logs_are_lists.ensures.placed c.one_list.ensures c.opening_is_safe.ensures.adds c.opening_is_safe.ensures.format c.upgrade_keeps.ensures in
    let within : c.args.head + c.args.count ≤ 4 = omega (arith, c.requires.within, c.requires.few) in
    let many = stopped_many c.args.head c.args.count c.in-Err.log c.args.logs.now.items c.upgrade_logs.new.logs.items c.as_slice.result.now c.in-Err.ensures.ready in
    (fails_safely laws before c.args.logs.now.items c.upgrade_logs.new.logs.items c.args.head c.args.count is within many c.as_slice.result.now c.in-Err.log (search rules) c.in-Err.ensures.ready).1
