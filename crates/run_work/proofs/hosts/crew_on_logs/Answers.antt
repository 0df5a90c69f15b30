use Rattle.std.proofs.Common.{◌∙◌, ap, subst}
use Rattle.protocol.specs.Runs.{IsRun}
use Rattle.run_recovery.specs.Runs.{meant}
use Rattle.run_recovery.specs.Schedules.{free}
use Rattle.run_work.proofs.CrewHosting.{crew_hosted, crew_whole, stops}
use Rattle.run_work.proofs.hosts.crew_on_logs.Goals as goal
use Rattle.run_work.specs.Writings.{Writing, writing_of}
use Rattle.snap_core.specs.snap_hand.Tables.{fixed_of}
use Rattle.snap_core.specs.snap_hand.declared.tables.Tables.{Tables}
use Rattle.snap_work.specs.Works.{work_of}

pub open-requires : goal.open-requires
open-requires g c = c.works_are_texts.ensures (work_of c.args.work) c.args.opening c.requires.limits c.requires.begins

pub returns-in_default-clause-hosted : goal.returns-in_default-clause-hosted
returns-in_default-clause-hosted g c = c.without_core.ensures.hosted (work_of c.args.work) free c.args.opening c.requires.open

pub returns-clause-hosted : goal.returns-clause-hosted
returns-clause-hosted g c =
    let w = work_of c.args.work in
    let o = c.args.opening in
    let end = c.drive_crew-core.result in
    let is = c.drive_crew-core.ensures in
    let es = meant end.kept.items in
    let old = c.args.logs.items in
    let new = end.logs.items in
    let out : Writing = writing_of g.O.Sink c.args.out end.out in
    let same = ap (λ (t : Tables). fixed_of t) c.in-Ok.ensures.tables in
    let now = ap (λ (t : Tables). fixed_of t) is.tables in
    record {
      ends = crew_hosted w o es old new end.failed out end.stop _ same (g.O.Sink.late c.args.out, g.O.Sink.late end.out, is.printed) (subst (λ m. IsRun m es) now is.core.run) is.logs is.due is.stop;
      core = (now ∙ same, is.core);
      whole = crew_whole w o es old new end.failed out end.stop _ same (g.O.Sink.late c.args.out, g.O.Sink.late end.out, is.printed);
      stops = stops _ es new end.failed end.stop is.stop;
    }

pub returns-clause-once : goal.returns-clause-once
returns-clause-once g c = c.drive_crew-core.ensures.printed.2
