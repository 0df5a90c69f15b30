use Rattle.std.proofs.Common.{◌-◌, ◌^◌, min, ap, sym, ◌∙◌}
use Rattle.protocol.specs.Left.{sub_left, total}
use Rattle.post_box.specs.Shown.{sub_shown}
use Rattle.post_box.proofs.Totals.{total-posting_order}
use Rattle.post_box.proofs.left.Posted+SubKey+SubRest.subs_left.Goals as goal

pub returns : goal.returns
returns c =
    c.subs_left.ensures
    ∙ ap (λ n. min n (2 ^ 64 - 1)) (sym (total-posting_order (λ e. sub_left (sub_shown e)) c.self.inside.next c.self.inside.messages.entries c.self.invariant.1))
    ∙ ap (λ v. min (total (λ e. sub_left (sub_shown e)) v.entries) (2 ^ 64 - 1)) c.self.view_is
