use Rattle.std.proofs.Common.{◌==◌, ap, sym, ◌∙◌}
use Rattle.std.specs.List.{list_any}
use Rattle.protocol.specs.Meant.{subs_actor}
use Rattle.protocol.specs.OnRing.{Formed}
use Rattle.protocol.specs.Words.{is_among}
use Rattle.audit_tale.proofs.Touched.{any_map}
use Rattle.audit_tale.proofs.arriving.goes_to.Goals as goal

pub returns : goal.returns
returns c =
    c.is_told.ensures
    ∙ (ap (list_any (λ sub. sub.actor.0 == c.args.a.0)) c.as_slice.ensures.value ∙ (sym (any_map (λ b. b == c.args.a.0) subs_actor c.formed.inside.subs.items) ∙ ap (λ (f : Formed). is_among c.args.a.0 f.actors) c.formed.view_is))
