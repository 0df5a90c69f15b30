use Rattle.std.proofs.Common.{◌-◌, ◌^◌, min, ap, sym, ◌∙◌}
use Rattle.protocol.specs.Left.{control_left, total}
use Rattle.post_box.specs.Shown.{control_shown}
use Rattle.post_box.proofs.Totals.{total-posting_order}
use Rattle.post_box.proofs.left.Posted+Tid+Control+C.controls_left.Goals as goal

pub returns : goal.returns
returns g c =
    let code = g.W.Visits.code c.args.visits.now in
    let acts = g.W.Visits.acts c.args.visits.now in
    c.controls_left.ensures
    ∙ ap (λ n. min n (2 ^ 64 - 1)) (sym (total-posting_order (λ e. control_left code acts (control_shown e)) c.self.inside.next c.self.inside.messages.entries c.self.invariant.1))
    ∙ ap (λ v. min (total (λ e. control_left code acts (control_shown e)) v.entries) (2 ^ 64 - 1)) c.self.view_is
