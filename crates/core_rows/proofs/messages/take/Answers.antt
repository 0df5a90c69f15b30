use Rattle.std.proofs.Common.{◌≡◌, is_some, Some, ap, sym, ◌∙◌}
use Rattle.protocol.specs.Events.{Take}
use Rattle.protocol.specs.Conditions.{conditions}
use Rattle.protocol.specs.Effects.{after}
use Rattle.protocol.specs.Words.{control_of}
use Rattle.protocol.specs.OnPost.{control_taken}
use Rattle.protocol.specs.OnCell.{control_came}
use Rattle.post_box.specs.Posting.{message_control}
use Rattle.core_rows.proofs.Rules.{allowed_where}
use Rattle.core_rows.proofs.Placing.{put_there}
use Rattle.core_rows.proofs.Found.{held, is_there}
use Rattle.core_rows.proofs.messages.take.Goals as goal

pub unwrap-control-requires : goal.unwrap-control-requires
unfolding conditions
unwrap-control-requires g c =
    let ok = allowed_where c.requires.text (Take c.args.t.0 c.args.a.0) c.requires.state (c.take_refusal-rule.ensures c.requires.text c.requires.state c.requires.run c.requires.shows ∙ c.if-rule-ne0.false) in
    let m = held _ _ ok.0 in
    let is = is_there message_control c.take_control.result _ m.0 c.take_control.ensures.value (ap (λ p. control_of c.args.t.0 p.controls) (sym c.requires.shows.0) ∙ m.1) in
    ap is_some is

pub returns-clause-ok : goal.returns-clause-ok
unfolding conditions after
returns-clause-ok g c w s r shows =
    let ok = allowed_where w (Take c.args.t.0 c.args.a.0) s (c.take_refusal-rule.ensures w s r shows ∙ c.if-rule-ne0.false) in
    let m = held _ _ ok.0 in
    let is = is_there message_control c.take_control.result _ m.0 c.take_control.ensures.value (ap (λ p. control_of c.args.t.0 p.controls) (sym shows.0) ∙ m.1) in
    let control : Some m.0.control ≡ Some c.unwrap-control.result = sym is ∙ c.unwrap-control.ensures in
    let came = c.take.ensures.came m.0 (c.what_is_found_has_its_number.ensures.control c.args.t.0 s.post.controls m.0 m.1) (cc control) in (
      ok,
      (
        ap (control_taken c.args.t.0) shows.0 ∙ sym c.take_control.ensures.messages,
        put_there s c.args.a.0 c.args.cell.now.cell _ (control_came (control_of c.args.t.0 s.post.controls)) shows.1
            (came ∙ (ap (control_came (Some m.0)) c.room.ensures.unchanged ∙ ap (λ o. control_came o c.args.cell.now.cell) (sym m.1))),
      ),
    )
