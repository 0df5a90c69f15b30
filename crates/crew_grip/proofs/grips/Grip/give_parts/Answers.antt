use Rattle.std.proofs.Common.{◌≡◌, ◌∙◌, inl, inr, None, subst}
use Rattle.turn_table.specs.Places.{at}
use Rattle.crew_grip.proofs.Footprints.{among_next}
use Rattle.crew_grip.proofs.grips.Grip.give_parts.Goals as goal

pub loop-i-preserved : goal.loop-i-preserved
loop-i-preserved g c =
    let before = c.loop-i.invariant in (
      c.give.ensures.work,
      (
        λ j among. elim (among_next j c.args.footprint.now c.loop-i.i c.part.result c.part.ensures among) [
          | inl h ↦ c.give.ensures.others j (before.1.0 j h)
          | inr h ↦ subst (λ k. at c.give.new.pass.seat.me.0.held k ≡ None) h c.give.ensures.given
        ],
        (
          λ j none. c.give.ensures.others j (before.1.1.0 j none),
          (c.give.ensures.rest.0 ∙ before.1.1.1.0, c.give.ensures.rest.1 ∙ before.1.1.1.1),
        ),
      ),
    )
