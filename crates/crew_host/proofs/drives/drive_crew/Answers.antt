use Rattle.std.proofs.Common.{◌≡◌, false, List, [], Some, map, refl, sym, ap, subst, ◌∙◌}
use Rattle.core_events.specs.Meant.{event_meant}
use Rattle.crew_ends.specs.Ends.{AreDue}
use Rattle.crew_host.proofs.Beginning.{are_open, nothing_driven, nothing_printed}
use Rattle.crew_parts.specs.Crews.{HasCome, OutputIs, kept}
use Rattle.crew_parts.specs.Shares.{OutputState, output_seen}
use Rattle.gate_log.specs.State.{LogState, is_log_shut}
use Rattle.protocol.specs.Events.{Event}
use Rattle.run_effects.specs.Driven.{AreDriven}
use Rattle.snap_hand.specs.Tables.{fixed_of}
use Rattle.snap_hand.specs.declared.tables.Tables.{Tables}
use Rattle.crew_host.proofs.drives.drive_crew.Goals as goal

pub returns-in-Ok-clause-logs : goal.returns-in-Ok-clause-logs
returns-in-Ok-clause-logs g c =
    let m = fixed_of c.args.core.tables in
    let begun = c.in-Ok.begun in
    let ending = c.run_or_stay-ending.result in
    let end = c.ended.result in
    let es = kept ending.acts.items in
    let same = c.run_or_stay-ending.ensures.tables ∙ c.in-Ok.ensures.tables.0 in
    let come : HasCome m begun.shares.items es ending.shares.items =
    subst (λ (t : Tables). HasCome (fixed_of t) begun.shares.items es ending.shares.items) c.in-Ok.ensures.tables.0 c.run_or_stay-ending.ensures.come in
    subst (λ (ds : List Event). AreDriven m ds (is_log_shut end.logs.items) c.args.logs.items end.logs.items) (sym c.ended.ensures.kept)
    (c.crews_drive.ensures.journals m begun.shares.items ending.shares.items es c.args.logs.items end.logs.items _ _ c.in-Ok.ensures.begins come c.in-Ok.ensures.beside c.ended.ensures.beside
    c.requires.logs (c.ended.ensures.many ∙ ap (λ (t : Tables). t.work.logs) same))

pub returns-in-Ok-clause-due : goal.returns-in-Ok-clause-due
returns-in-Ok-clause-due g c =
    let m = fixed_of c.args.core.tables in
    let begun = c.in-Ok.begun in
    let ending = c.run_or_stay-ending.result in
    let end = c.ended.result in
    let es = kept ending.acts.items in
    let same = c.run_or_stay-ending.ensures.tables ∙ c.in-Ok.ensures.tables.0 in
    let come : HasCome m begun.shares.items es ending.shares.items =
    subst (λ (t : Tables). HasCome (fixed_of t) begun.shares.items es ending.shares.items) c.in-Ok.ensures.tables.0 c.run_or_stay-ending.ensures.come in
    subst (λ (ds : List Event). AreDue m ds end.logs.items) (sym c.ended.ensures.kept)
    (c.crews_drive.ensures.due m begun.shares.items ending.shares.items es end.logs.items _ c.in-Ok.ensures.begins come c.ended.ensures.beside
    (c.ended.ensures.many ∙ ap (λ (t : Tables). t.work.logs) same))

pub returns-in-Ok-clause-printed : goal.returns-in-Ok-clause-printed
returns-in-Ok-clause-printed g c =
    let m = fixed_of c.args.core.tables in
    let begun = c.in-Ok.begun in
    let ending = c.run_or_stay-ending.result in
    let end = c.ended.result in
    let es = kept ending.acts.items in
    let before : OutputState = output_seen g.O.Sink.taken g.O.Sink.faults g.O.Sink.late false c.args.out in
    let after : OutputState = output_seen g.O.Sink.taken g.O.Sink.faults g.O.Sink.late end.failed end.out in
    let come : HasCome m begun.shares.items es ending.shares.items =
    subst (λ (t : Tables). HasCome (fixed_of t) begun.shares.items es ending.shares.items) c.in-Ok.ensures.tables.0 c.run_or_stay-ending.ensures.come in
    subst (λ (ds : List Event). OutputIs m ds (Some before) (Some after)) (sym c.ended.ensures.kept)
    (c.crews_drive.ensures.output m begun.shares.items ending.shares.items es c.args.logs.items end.logs.items before after c.in-Ok.ensures.begins come c.in-Ok.ensures.beside c.ended.ensures.beside)

pub returns-in-Err-clause-logs : goal.returns-in-Err-clause-logs
returns-in-Err-clause-logs g c =
    let m = fixed_of c.args.core.tables in
    let logs = c.args.logs.items in
    let same : c.not_begun.result.logs.items ≡ logs = c.not_begun.ensures.logs ∙ ap (λ v. v.items) c.in-Err.ensures.back.1.0 in
    let none : map event_meant c.not_begun.result.kept.items ≡ [] = ap (λ es. map event_meant es) c.not_begun.ensures.kept in
    subst (λ (es : List Event). AreDriven m es (is_log_shut c.not_begun.result.logs.items) logs c.not_begun.result.logs.items) (sym none)
    (subst (λ (new : List LogState). AreDriven m [] (is_log_shut new) logs new) (sym same) (nothing_driven c.appends_drive.ensures.nothing m logs (are_open logs c.requires.open)))

pub returns-in-Err-clause-printed : goal.returns-in-Err-clause-printed
returns-in-Err-clause-printed g c =
    let m = fixed_of c.args.core.tables in
    let none : map event_meant c.not_begun.result.kept.items ≡ [] = ap (λ es. map event_meant es) c.not_begun.ensures.kept in
    let before : OutputState = output_seen g.O.Sink.taken g.O.Sink.faults g.O.Sink.late false c.args.out in
    let same : c.not_begun.result.out ≡ c.args.out = c.not_begun.ensures.out.0 ∙ c.in-Err.ensures.back.1.1 in
    let after : before ≡ output_seen g.O.Sink.taken g.O.Sink.faults g.O.Sink.late c.not_begun.result.failed c.not_begun.result.out =
    ap (λ o. output_seen g.O.Sink.taken g.O.Sink.faults g.O.Sink.late false o) (sym same) ∙ ap (λ b. output_seen g.O.Sink.taken g.O.Sink.faults g.O.Sink.late b c.not_begun.result.out) (sym c.not_begun.ensures.out.1) in
    subst (λ (es : List Event). OutputIs m es (Some before) (Some (output_seen g.O.Sink.taken g.O.Sink.faults g.O.Sink.late c.not_begun.result.failed c.not_begun.result.out))) (sym none)
    (subst (λ (o : OutputState). OutputIs m [] (Some before) (Some o)) after (nothing_printed m before refl))
