use Rattle.std.proofs.Common.{◌-◌, ◌^◌, min, ap, sym, ◌∙◌}
use Rattle.protocol.specs.Left.{sub_left, total}
use Rattle.post_box.specs.Shown.{sub_shown}
use Rattle.protocol.proofs.Totals.{total-map}
use Rattle.post_box.proofs.post.Post.subs_left.Goals as goal

pub returns : goal.returns
returns g c =
    c.subs_left.ensures
    ∙ ap (λ n. min n (2 ^ 64 - 1)) (sym (total-map sub_left sub_shown c.self.inside.subs.entries))
    ∙ ap (λ v. min (total sub_left v.messages.subs) (2 ^ 64 - 1)) c.self.view_is
