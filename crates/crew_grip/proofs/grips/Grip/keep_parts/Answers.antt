use Rattle.std.proofs.Common.{◌≡◌, ℕ, ◌∙◌, Bool, true, false, inl, inr, None, refl, subst, sym, arith}
use Rattle.protocol.specs.Words.{is_among}
use Rattle.turn_table.specs.Places.{at}
use Rattle.crew_grip.proofs.Footprints.{all_taken, among_next}
use Rattle.crew_grip.proofs.grips.Grip.keep_parts.Goals as goal

pub loop-i-preserved : goal.loop-i-preserved
loop-i-preserved g c =
    let before = c.loop-i.invariant in (
      c.give_unless.ensures.work,
      (
        λ j among out. elim (among_next j c.args.held.now c.loop-i.i c.part.result c.part.ensures among) [
          | inl h ↦ c.give_unless.ensures.others j (before.1.0 j h out)
          | inr h ↦ subst (λ k. at c.give_unless.new.pass.seat.me.0.held k ≡ None) h (c.give_unless.ensures.given (subst (λ k. is_among k c.args.footprint.now ≡ false) (sym h) out))
        ],
        (
          λ j none. c.give_unless.ensures.others j (before.1.1.0 j none),
          (c.give_unless.ensures.rest.0 ∙ before.1.1.1.0, c.give_unless.ensures.rest.1 ∙ before.1.1.1.1),
        ),
      ),
    )

-- what was held is given back, and what was not held is not held
pub returns-clause-kept : goal.returns-clause-kept
returns-clause-kept g c j out =
    let after = c.loop-i.invariant in
    either (is_among j c.args.held.now)
    (λ among. after.1.0 j (subst (λ ps. is_among j ps ≡ true) (sym (all_taken c.args.held.now c.loop-i.i (omega (arith, c.len-i-end.ensures.count, c.loop-i-test.false)))) among) out)
    (λ no. after.1.1.0 j (c.requires.within j no)) where
      either : {X : Type 0} (b : Bool) → (b ≡ true → X) → (b ≡ false → X) → X
      either true f g = f refl
      either false f g = g refl
