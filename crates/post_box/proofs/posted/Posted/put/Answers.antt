use Rattle.std.proofs.Common.{◌+◌, ◌∷◌, [], ◌++◌, ap, sym, ◌∙◌, subst}
use Rattle.std.specs.Map.{lookup}
use Rattle.post_box.specs.Order.{IsNumbered}
use Rattle.post_box.specs.Kept.{entry_number, in_posting_order}
use Rattle.post_box.proofs.ByKey.{put, put_numbered}
use Rattle.post_box.proofs.posted.Posted.put.Goals as goal

pub invariant_of-self : goal.invariant_of-self
invariant_of-self g c =
    let none = ap (λ v. lookup (g.K.PartialEq.eq c.args.key) v.entries) c.self.view_is ∙ c.requires in
    (c.in-Ok.ensures.unique, subst (IsNumbered entry_number (c.self.inside.next + 1)) (sym c.in-Ok.ensures.entries) (put_numbered g.met.K.Eq.laws c.args.key c.self.inside.next c.self.inside.messages.entries c.self.invariant.0 c.self.invariant.1 c.args.message none))

pub returns-in-Ok-clause-ok : goal.returns-in-Ok-clause-ok
returns-in-Ok-clause-ok g c =
    let none = ap (λ v. lookup (g.K.PartialEq.eq c.args.key) v.entries) c.self.view_is ∙ c.requires in
    ap (in_posting_order (c.self.inside.next + 1)) c.in-Ok.ensures.entries
    ∙ put g.met.K.Eq.laws c.args.key c.self.inside.next c.self.inside.messages.entries c.self.invariant.0 c.self.invariant.1 c.args.message none
    ∙ ap (λ v. v.entries ++ (c.args.key, c.args.message) ∷ []) c.self.view_is
