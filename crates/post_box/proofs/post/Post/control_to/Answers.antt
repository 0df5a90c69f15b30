use Rattle.std.proofs.Common.{ap, sym, ◌∙◌}
use Rattle.std.specs.Option.{option_map}
use Rattle.protocol.specs.Meant.{actor_number}
use Rattle.protocol.specs.Words.{control_of}
use Rattle.post_box.specs.Posting.{message_to}
use Rattle.post_box.specs.declared.kept.Control.{Control}
use Rattle.post_box.proofs.Machine.{asks_control, control_of-shown, option_map-twice}
use Rattle.post_box.proofs.post.Post.control_to.Goals as goal

pub returns-in_err-kept : goal.returns-in_err-kept
returns-in_err-kept g c =
    ap (option_map actor_number) c.from_residual.ensures
    ∙ ap (option_map (λ (k : Control g.row.C.Denot). actor_number k.to)) c.in_err-kept.ensures
    ∙ sym (option_map-twice message_to _ _) ∙ ap (option_map message_to) (sym (control_of-shown _ c.args.tid.0 (asks_control c.args.tid) c.self.inside.controls.entries))
    ∙ ap (λ v. option_map message_to (control_of c.args.tid.0 v.messages.controls)) c.self.view_is

pub returns : goal.returns
returns g c =
    ap (option_map (λ (k : Control g.row.C.Denot). actor_number k.to)) c.in_ok-kept.ensures
    ∙ sym (option_map-twice message_to _ _) ∙ ap (option_map message_to) (sym (control_of-shown _ c.args.tid.0 (asks_control c.args.tid) c.self.inside.controls.entries))
    ∙ ap (λ v. option_map message_to (control_of c.args.tid.0 v.messages.controls)) c.self.view_is
