use Rattle.std.proofs.Common.{sym, ap, ◌∙◌, subst, arith}
use Rattle.std.proofs.lemmas.List.{length-reverse}
use Rattle.aml_check.specs.Checked.{methods_of}
use Rattle.aml_slice.specs.Controls.{Frame, Rest}
use Rattle.aml_slice.specs.Views.{HasPlace, rest_of}
use Rattle.aml_slice.proofs.Following.{asks_small, frames_have_place}
use Rattle.aml_slice.proofs.slices.advance.Goals as goal

pub give-requires-clause-places : goal.give-requires-clause-places
give-requires-clause-places c =
    subst HasPlace (sym (ap (λ (z : Rest). z.waiting) c.in-Ok-Gives.ensures.others)) (frames_have_place (methods_of c.args.program.now) c.args.actors (rest_of c.args.running.now).waiting c.requires.rest.waiting)

pub returns-in-Some-clause-stands : goal.returns-in-Some-clause-stands
returns-in-Some-clause-stands c = ap (λ (z : Rest). z.top.actor) c.in-Some.ensures.given.2 ∙ sym c.in-Some.ensures.given.3

pub returns-in-Ok-clause-stands : goal.returns-in-Ok-clause-stands
returns-in-Ok-clause-stands c = ap (λ (f : Frame). f.actor) c.in-Ok.ensures.called.frames.0

pub call-requires-clause-small : goal.call-requires-clause-small
call-requires-clause-small c =
    let small = asks_small (methods_of c.args.program.now) c.args.actors (rest_of c.args.running.now) c.args.state.now c.run.new.state (rest_of c.run.new.self).top.standing (rest_of c.run.new.self).statements c.in-Ok-Asks.target c.in-Ok-Asks.method c.run.new.self.arguments.items c.requires.allowed c.requires.closed c.requires.rest (rw c.in-Ok-Asks.field-0-is at c.in-Ok-Asks.ensures.runs) in
    (small.0, omega (arith, small.1, length-reverse c.run.new.self.top.activation.path.items))
