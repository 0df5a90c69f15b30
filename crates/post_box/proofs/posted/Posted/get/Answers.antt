use Rattle.std.proofs.Common.{ap, sym, ◌∙◌}
use Rattle.std.specs.Map.{lookup}
use Rattle.std.specs.Option.{option_map}
use Rattle.post_box.proofs.ByKey.{found}
use Rattle.post_box.proofs.posted.Posted.get.Goals as goal

pub returns-in-Some : goal.returns-in-Some
returns-in-Some g c =
    ap (option_map (λ v. v.message)) c.in-Some.ensures.value
    ∙ sym (found g.met.K.Eq.laws c.args.key.now c.self.inside.next c.self.inside.messages.entries c.self.invariant.0 c.self.invariant.1)
    ∙ ap (λ v. lookup (g.K.PartialEq.eq c.args.key.now) v.entries) c.self.view_is

pub returns-in-None : goal.returns-in-None
returns-in-None g c =
    ap (option_map (λ v. v.message)) c.in-None.ensures.value
    ∙ sym (found g.met.K.Eq.laws c.args.key.now c.self.inside.next c.self.inside.messages.entries c.self.invariant.0 c.self.invariant.1)
    ∙ ap (λ v. lookup (g.K.PartialEq.eq c.args.key.now) v.entries) c.self.view_is
