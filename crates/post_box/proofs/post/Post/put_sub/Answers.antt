use Rattle.std.proofs.Common.{ap, sym, ◌∙◌}
use Rattle.snap_base.proofs.Options.{none_mapped}
use Rattle.protocol.specs.Words.{sub_of}
use Rattle.post_box.specs.Shown.{sub_whole}
use Rattle.post_box.proofs.Machine.{asks_sub, sub_of-shown}
use Rattle.post_box.proofs.post.Post.put_sub.Goals as goal

pub put-requires : goal.put-requires
put-requires g c =
    let key = c.parted-rest.result.0 in
    none_mapped (sub_whole key.bid.0 key.actor.0) _
    (sym (sub_of-shown _ key.bid.0 key.actor.0 (asks_sub key) c.self.inside.subs.entries)
    ∙ ap (λ v. sub_of key.bid.0 key.actor.0 v.messages.subs) c.self.view_is
    ∙ (λ j. sub_of (c.parted-rest.ensures.key.0 j).0 (c.parted-rest.ensures.key.1 j).0 c.args.self.now.messages.subs)
    ∙ c.requires)
