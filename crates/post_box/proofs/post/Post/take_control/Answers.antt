use Rattle.std.proofs.Common.{map, ap, sym, ◌∙◌}
use Rattle.std.specs.Option.{option_map}
use Rattle.protocol.specs.OnPost.{control_taken}
use Rattle.protocol.specs.Words.{control_of}
use Rattle.post_box.specs.Posting.{message_control}
use Rattle.post_box.specs.Shown.{sub_shown, control_shown}
use Rattle.post_box.specs.declared.kept.Control.{Control}
use Rattle.post_box.proofs.Machine.{asks_control, control_of-shown, without_control-shown, option_map-twice, post_of}
use Rattle.post_box.proofs.post.Post.take_control.Goals as goal

pub returns-in_err-kept-clause-value : goal.returns-in_err-kept-clause-value
returns-in_err-kept-clause-value g c =
    c.from_residual.ensures
    ∙ ap (option_map (λ (k : Control g.row.C.Denot). k.control)) c.in_err-kept.ensures.value
    ∙ sym (option_map-twice message_control _ _) ∙ ap (option_map message_control) (sym (control_of-shown _ c.args.tid.0 (asks_control c.args.tid) c.self.inside.controls.entries))
    ∙ ap (λ v. option_map message_control (control_of c.args.tid.0 v.messages.controls)) c.self.view_is

pub returns-in_err-kept-clause-messages : goal.returns-in_err-kept-clause-messages
returns-in_err-kept-clause-messages g c =
    ap (λ es. post_of (map sub_shown c.self.inside.subs.entries) (map control_shown es)) c.in_err-kept.ensures.entries
    ∙ ap (post_of (map sub_shown c.self.inside.subs.entries)) (without_control-shown _ c.args.tid.0 (asks_control c.args.tid) c.self.inside.controls.entries)
    ∙ ap (λ v. control_taken c.args.tid.0 v.messages) c.self.view_is

pub returns-clause-value : goal.returns-clause-value
returns-clause-value g c =
    ap (option_map (λ (k : Control g.row.C.Denot). k.control)) c.in_ok-kept.ensures.value
    ∙ sym (option_map-twice message_control _ _) ∙ ap (option_map message_control) (sym (control_of-shown _ c.args.tid.0 (asks_control c.args.tid) c.self.inside.controls.entries))
    ∙ ap (λ v. option_map message_control (control_of c.args.tid.0 v.messages.controls)) c.self.view_is

pub returns-clause-messages : goal.returns-clause-messages
returns-clause-messages g c =
    ap (λ es. post_of (map sub_shown c.self.inside.subs.entries) (map control_shown es)) c.in_ok-kept.ensures.entries
    ∙ ap (post_of (map sub_shown c.self.inside.subs.entries)) (without_control-shown _ c.args.tid.0 (asks_control c.args.tid) c.self.inside.controls.entries)
    ∙ ap (λ v. control_taken c.args.tid.0 v.messages) c.self.view_is
