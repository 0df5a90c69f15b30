use Rattle.std.proofs.Common.{refl}
use Rattle.run_opening.specs.log_opening.Devices.{devices_of}
use Rattle.run_recovery.specs.Runs.{meant}
use Rattle.run_recovery.specs.Schedules.{seeded}
use Rattle.run_work.proofs.Called.{answer_of, once_of, opens_of}
use Rattle.run_work.proofs.Hosting.{core_of, named_of}
use Rattle.run_work.proofs.runs.run_work.Goals as goal
use Rattle.run_work.specs.Printings.{printing_of}
use Rattle.run_work.specs.Writings.{writing_of}
use Rattle.snap_work.specs.Works.{work_of}

pub end_run-kept-requires-clause-core : goal.end_run-kept-requires-clause-core
end_run-kept-requires-clause-core g c =
    let call = c.call.inside in
    let ran = c.host_work-hosted in
    let before = devices_of g.D.LogDev.told g.D.LogDev.faults call.logs.items in
    let after = devices_of g.D.LogDev.told g.D.LogDev.faults ran.result.devices.items in
    core_of (printing_of c.args.told) (work_of c.args.work) (seeded c.args.seed) before after (writing_of g.O.Sink call.out ran.result.out) ran.result.hosted ran.ensures.left

pub end_run-kept-requires-clause-named : goal.end_run-kept-requires-clause-named
end_run-kept-requires-clause-named g c =
    let call = c.call.inside in
    let ran = c.host_work-hosted in
    let before = devices_of g.D.LogDev.told g.D.LogDev.faults call.logs.items in
    let after = devices_of g.D.LogDev.told g.D.LogDev.faults ran.result.devices.items in
    named_of (printing_of c.args.told) (work_of c.args.work) (seeded c.args.seed) before after (writing_of g.O.Sink call.out ran.result.out) ran.result.hosted ran.ensures.left

pub returns-clause-answer : goal.returns-clause-answer
returns-clause-answer g c =
    let call = c.call.inside in
    let ran = c.host_work-hosted in
    let end = c.end_run-kept in
    let before = devices_of g.D.LogDev.told g.D.LogDev.faults call.logs.items in
    let after = devices_of g.D.LogDev.told g.D.LogDev.faults ran.result.devices.items in
    answer_of g.D.LogDev g.O.Sink g.T.Sink c.args.call call.logs ran.result.devices call.out ran.result.out end.new.out call.trace end.new.trace c.call.view_is (printing_of c.args.told)
    (work_of c.args.work) (seeded c.args.seed) ran.result.hosted c.len-count.result end.result.0.items end.result.1 c.len-count.ensures ran.ensures.left end.ensures.ended end.ensures.silent
    (λ o failed run. c.runs_stand.ensures (work_of c.args.work) (seeded c.args.seed) o (meant end.result.0.items) failed before after refl c.requires.limits run) c.marks_are_replies.ensures end.ensures.none

pub returns-clause-out_once : goal.returns-clause-out_once
returns-clause-out_once g c =
    let call = c.call.inside in
    let ran = c.host_work-hosted in
    let end = c.end_run-kept in
    once_of g.D.LogDev g.O.Sink g.T.Sink c.args.call call.logs ran.result.devices call.out ran.result.out end.new.out call.trace end.new.trace c.call.view_is (printing_of c.args.told)
    (work_of c.args.work) (seeded c.args.seed) ran.result.hosted c.len-count.result end.result.0.items end.result.1 c.len-count.ensures ran.ensures.left end.ensures.ended end.ensures.silent
    ran.ensures.once end.ensures.out_once

pub returns-clause-opens : goal.returns-clause-opens
returns-clause-opens g c =
    let call = c.call.inside in
    let ran = c.host_work-hosted in
    let end = c.end_run-kept in
    opens_of g.D.LogDev g.O.Sink g.T.Sink c.args.call call.logs ran.result.devices call.out ran.result.out end.new.out call.trace end.new.trace c.call.view_is (printing_of c.args.told)
    (work_of c.args.work) (seeded c.args.seed) ran.result.hosted c.len-count.result end.result.0.items end.result.1 c.len-count.ensures ran.ensures.left end.ensures.ended end.ensures.silent
