use Rattle.std.proofs.Common.{length, ap, sym, ◌∙◌}
use Rattle.post_box.proofs.ByKey.{length-posting_order}
use Rattle.post_box.proofs.posted.Posted.len.Goals as goal

pub returns-clause-len : goal.returns-clause-len
returns-clause-len g c =
    c.len.ensures.len ∙ sym (length-posting_order c.self.inside.next c.self.inside.messages.entries c.self.invariant.1) ∙ ap (λ v. length v.entries) c.self.view_is
