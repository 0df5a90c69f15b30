use Rattle.std.proofs.Common.{sym, ◌∙◌, ap}
use Rattle.std.proofs.lemmas.Bool.{true≢false}
use Rattle.run_recovery.specs.Runs.{meant}
use Rattle.run_recovery.specs.Schedules.{seeded}
use Rattle.run_work.proofs.Hosting.{hosted, whole, stops}
use Rattle.run_work.proofs.hosts.host_on_logs.Goals as goal
use Rattle.run_work.specs.Writings.{Writing, writing_of}
use Rattle.snap_core.specs.snap_hand.Tables.{fixed_of}
use Rattle.snap_core.specs.snap_hand.declared.tables.Tables.{Tables}
use Rattle.snap_outside.proofs.AtFault.{surely}
use Rattle.snap_work.specs.Works.{work_of}

pub open-requires : goal.open-requires
open-requires g c = c.works_are_texts.ensures (work_of c.args.work) c.args.opening c.requires.limits c.requires.begins

pub returns-in_default-clause-hosted : goal.returns-in_default-clause-hosted
returns-in_default-clause-hosted g c = c.without_core.ensures.hosted (work_of c.args.work) (seeded c.args.seed) c.args.opening c.requires.open

pub returns-clause-hosted : goal.returns-clause-hosted
returns-clause-hosted g c =
    let w = work_of c.args.work in
    let o = c.args.opening in
    let seed = c.args.seed in
    let made = c.drive-stop.result in
    let old = c.args.logs.items in
    let new = c.drive-stop.new.logs.items in
    let es = meant made.kept.items in
    let is = c.drive-stop.ensures in
    let failed = c.is_of_output-failed in
    let out : Writing = writing_of g.O.Sink c.args.out c.drive-stop.new.out in
    let same = ap (λ (t : Tables). fixed_of t) c.in-Ok.ensures.tables in
    record {
      ends = hosted w seed o es old new out made.stop _ same is.front is.why is.logs is.printed is.later;
      core = (ap (λ (t : Tables). fixed_of t) is.tables ∙ same, is.core);
      whole = whole w seed o es out made.stop failed.result _ same failed.ensures.failed is.printed;
      stops = stops made.stop failed.result failed.ensures.failed failed.ensures.stood;
    }

pub returns-clause-once : goal.returns-clause-once
returns-clause-once g c =
    surely _ _ _ _ (λ stood by. true≢false (sym (c.is_of_output-failed.ensures.failed by) ∙ stood)) c.drive-stop.ensures.once
