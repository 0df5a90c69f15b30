use Rattle.std.proofs.Common.{is_some, ap, sym, ◌∙◌}
use Rattle.std.specs.Map.{lookup}
use Rattle.snap_base.proofs.Options.{is_some_map}
use Rattle.post_box.proofs.ByKey.{found}
use Rattle.post_box.proofs.posted.Posted.contains.Goals as goal

pub returns : goal.returns
returns g c =
    c.contains_key.ensures ∙ sym (is_some_map _ _)
    ∙ ap is_some (sym (found g.met.K.Eq.laws c.args.key.now c.self.inside.next c.self.inside.messages.entries c.self.invariant.0 c.self.invariant.1))
    ∙ ap (λ v. is_some (lookup (g.K.PartialEq.eq c.args.key.now) v.entries)) c.self.view_is
