use Rattle.std.proofs.Common.{ap, sym, is_some, ◌∙◌}
use Rattle.crew_grip.specs.Grips.{GripState}
use Rattle.turn_table.specs.Places.{at}
use Rattle.crew_grip.proofs.ByNumber.{got_none, got_some}
use Rattle.crew_grip.proofs.grips.Grip.holds.Goals as goal

pub returns-in-Some : goal.returns-in-Some
returns-in-Some g c =
    c.is_some.ensures
    ∙ (ap is_some (sym (got_some c.self.inside.besides.items c.deref.result.now c.args.part c.in-Some.beside.now c.deref.ensures.value c.in-Some.ensures.lookup.0 c.in-Some.ensures.lookup.1))
    ∙ ap (λ (g : GripState). is_some (at g.besides c.args.part)) c.self.view_is)

pub returns-in-None : goal.returns-in-None
returns-in-None g c =
    ap is_some (sym (got_none c.self.inside.besides.items c.deref.result.now c.args.part c.deref.ensures.value c.in-None.ensures.lookup.0)) ∙ ap (λ (g : GripState). is_some (at g.besides c.args.part)) c.self.view_is
