use Rattle.std.proofs.Common.{ap, sym, ◌∙◌}
use Rattle.snap_base.proofs.Options.{none_mapped}
use Rattle.protocol.specs.Words.{control_of}
use Rattle.post_box.specs.Shown.{control_whole}
use Rattle.post_box.proofs.Machine.{asks_control, control_of-shown}
use Rattle.post_box.proofs.post.Post.put_control.Goals as goal

pub put-requires : goal.put-requires
put-requires g c =
    none_mapped (control_whole c.args.tid.0) _
    (sym (control_of-shown _ c.args.tid.0 (asks_control c.args.tid) c.self.inside.controls.entries)
    ∙ ap (λ v. control_of c.args.tid.0 v.messages.controls) c.self.view_is
    ∙ c.requires)
