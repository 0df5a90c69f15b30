use Rattle.std.proofs.Common.{◌∙◌, ℕ, inl, inr, IsSome, sym, subst, true≢false}
use Rattle.std.proofs.lemmas.Bool.Decides.{eqb_tells}
use Rattle.snap_base.proofs.Lists.{all_next, weaker}
use Rattle.turn_table.specs.Places.{at}
use Rattle.crew_grip.proofs.Footprints.{found}
use Rattle.crew_grip.proofs.grips.Grip.take_parts.Goals as goal

pub loop-i-preserved : goal.loop-i-preserved
loop-i-preserved g c =
    let before = c.loop-i.invariant in
    let old = c.loop-i.pass.seat.me.0.held in
    let new = c.take.new.pass.seat.me.0.held in
    let part = c.part-part.result in
    let this = c.take.ensures.held c.if-not-take.false in
    let still : (j : ℕ) → IsSome (at old j) → IsSome (at new j) = λ j there. elim (eqb_tells part j) [
      | inl h ↦ subst (λ k. IsSome (at new k)) h.1 this
      | inr h ↦ subst IsSome (sym (c.take.ensures.others j (λ same. h.1 (sym same)))) there
    ] in (
      c.take.ensures.work,
      (
        all_next (λ j. IsSome (at new j)) c.args.footprint.now c.loop-i.i part c.part-part.ensures (weaker (λ j. IsSome (at old j)) (λ j. IsSome (at new j)) _ still before.1.0) this,
        (
          λ j out. c.take.ensures.others j (λ same. true≢false (sym (found j c.args.footprint.now c.loop-i.i part c.part-part.ensures (sym same)) ∙ out)) ∙ before.1.1.0 j out,
          (c.take.ensures.rest.0 ∙ before.1.1.1.0, c.take.ensures.rest.1 ∙ before.1.1.1.1),
        ),
      ),
    )
