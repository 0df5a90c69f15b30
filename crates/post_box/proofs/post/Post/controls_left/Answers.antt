use Rattle.std.proofs.Common.{◌-◌, ◌^◌, min, ap, sym, ◌∙◌}
use Rattle.protocol.specs.Left.{control_left, total}
use Rattle.post_box.specs.Shown.{control_shown}
use Rattle.protocol.proofs.Totals.{total-map}
use Rattle.post_box.proofs.post.Post.controls_left.Goals as goal

pub returns : goal.returns
returns g c =
    let code = g.W.Visits.code c.args.visits.now in
    let acts = g.W.Visits.acts c.args.visits.now in
    c.controls_left.ensures
    ∙ ap (λ n. min n (2 ^ 64 - 1)) (sym (total-map (control_left code acts) control_shown c.self.inside.controls.entries))
    ∙ ap (λ v. min (total (control_left code acts) v.messages.controls) (2 ^ 64 - 1)) c.self.view_is
