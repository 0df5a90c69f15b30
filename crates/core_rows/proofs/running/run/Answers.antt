use Rattle.std.proofs.Common.{◌≡◌, ◌<◌, is_some, false, Some, length, ap, sym, subst, ◌∙◌}
use Rattle.std.specs.Option.{option_map}
use Rattle.snap_base.proofs.Options.{somebody}
use Rattle.protocol.specs.Events.{Run}
use Rattle.protocol.specs.Conditions.{conditions}
use Rattle.protocol.specs.Effects.{after}
use Rattle.protocol.specs.OnCell.{reads_on, slice_run}
use Rattle.protocol.specs.Words.{holds, image_of, waiting_of, who_on}
use Rattle.cell_part.specs.Contents.{waiting_control}
use Rattle.core_rows.proofs.Rules.{allowed_where}
use Rattle.core_rows.proofs.Placing.{is_at, put_there}
use Rattle.core_rows.proofs.Slices.{ran}
use Rattle.core_rows.proofs.running.run.Goals as goal

pub begin-control-requires-clause-waits : goal.begin-control-requires-clause-waits
unfolding conditions
begin-control-requires-clause-waits g c =
    let ok = allowed_where c.requires.of_run.text (Run c.args.t.0 c.args.a.0) c.requires.of_run.state (c.run_refusal-rule.ensures c.requires.of_run.text c.requires.of_run.state c.requires.of_run.run c.requires.of_run.shows ∙ c.if-rule-ne0.false) in
    ap (holds (λ x. is_some (waiting_of c.args.t.0 x.inbox))) (sym c.requires.of_run.shows) ∙ ok.0

pub begin-control-requires-clause-images : goal.begin-control-requires-clause-images
begin-control-requires-clause-images g c =
    let ok = allowed_where c.requires.of_run.text (Run c.args.t.0 c.args.a.0) c.requires.of_run.state (c.run_refusal-rule.ensures c.requires.of_run.text c.requires.of_run.state c.requires.of_run.run c.requires.of_run.shows ∙ c.if-rule-ne0.false) in
    subst (λ y. reads_on c.args.t.0 y.entries ≡ false → is_some (image_of (who_on c.args.t.0 y.entries) y.images) ≡ false → length y.images < 64) (is_at c.requires.of_run.state c.args.a.0 c.args.cell.now.cell c.requires.of_run.shows)
    (λ writes. (c.rows_may.ensures c.requires.of_run.text c.requires.of_run.state c.requires.of_run.run).runs_image c.args.t.0 c.args.a.0 ok)

pub returns-clause-ok : goal.returns-clause-ok
unfolding conditions after
returns-clause-ok g c w s r shows =
    let ok = allowed_where w (Run c.args.t.0 c.args.a.0) s (c.run_refusal-rule.ensures w s r shows.1 ∙ c.if-rule-ne0.false) in
    let there = ap (holds (λ y. is_some (waiting_of c.args.t.0 y.inbox))) (sym shows.1) ∙ ok.0 in
    let x = somebody (waiting_of c.args.t.0 c.args.cell.now.cell.inbox) there in
    let control : Some x.0.control ≡ Some c.begin-control.result = sym (c.begin-control.ensures.control ∙ ap (option_map waiting_control) x.1) in
    let same : x.0.control ≡ c.begin-control.result = cc control in
    let lent = c.state_mut.ensures.value ∙ ap (λ y. y.state) c.begin-control.ensures.begun in
    let law = c.run_is_begin_slice_end.ensures w.code c.args.t.0 c.args.a.0 c.args.cell.now.cell x.0 x.1 in
    let run = ran g.F.FnOnce c.args.slice w.code c.args.t.0 c.args.a.0 c.args.cell.now.cell c.begin-control.new.self.cell c.end.new.self.cell x.0 c.begin-control.result c.state_mut.result _ c.slice-next.result.0 c.slice-next.result.1
    shows.0 x.1 same lent c.slice-next.ensures c.begin-control.ensures.begun c.end.ensures.ended law in
    (ok, put_there s c.args.a.0 c.args.cell.now.cell c.end.new.self.cell (slice_run w.code c.args.t.0 c.args.a.0) shows.1 run)
