use Rattle.std.proofs.Common.{is_some, ap, sym, ◌∙◌}
use Rattle.snap_base.proofs.Options.{is_some_map}
use Rattle.protocol.specs.Words.{sub_of}
use Rattle.post_box.proofs.Machine.{asks_sub, sub_of-shown}
use Rattle.post_box.proofs.post.Post.has_sub.Goals as goal

pub returns : goal.returns
returns g c =
    c.contains.ensures ∙ sym (is_some_map _ _)
    ∙ ap is_some (sym (sub_of-shown _ c.args.bid.0 c.args.a.0 (asks_sub (record { bid = c.args.bid; actor = c.args.a })) c.self.inside.subs.entries))
    ∙ ap (λ v. is_some (sub_of c.args.bid.0 c.args.a.0 v.messages.subs)) c.self.view_is
