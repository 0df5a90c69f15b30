use Rattle.std.proofs.Common.{◌≡◌, List, ℤ, refl, sym, ◌∙◌, subst, rules, w64}
use Rattle.std.proofs.Math.Facts.{to_z-of_z}
use Rattle.snap_base.specs.declared.transactions.State.{State}
use Rattle.snap_recover.specs.declared.causes.What.{What}
use Rattle.run_opening.specs.Begins.{BeganWith, IsDifference}
use Rattle.run_opening.proofs.starts.objection.Goals as goal

differs_as_said : (kept first text : List State) (what : What) (k t k' t' : ℤ) → kept ≡ first → k' ≡ k → t' ≡ t → IsDifference kept text what k t → IsDifference first text what k' t'
differs_as_said kept first text what k t k' t' same k_is t_is differs =
    subst (λ (z : ℤ). IsDifference first text what z t') (sym k_is)
    (subst (λ (z : ℤ). IsDifference first text what k z) (sym t_is) (subst (λ (l : List State). IsDifference l text what k t) same differs))

pub returns-in-Some-compare_states : goal.returns-in-Some-compare_states
returns-in-Some-compare_states c =
    let d = c.in-Some-compare_states.d in
    λ logs is. (
      refl,
      (
        c.args.folded.now,
        is,
        c.in_default.ensures,
        (c.folds_are_begun.ensures logs c.args.folded.now is).one,
        differs_as_said c.as_slice.result.now c.args.folded.now.first c.args.states.now d.what d.kept d.text _ _ c.as_slice.ensures
            (to_z-of_z {w = w64} (search rules)) (to_z-of_z {w = w64} (search rules)) c.in-Some-compare_states.ensures,
      ),
    )

pub returns-in-None : goal.returns-in-None
returns-in-None c = λ logs is. (
  subst (λ (first : List State). BeganWith logs first) (sym c.as_slice.ensures ∙ c.in-None.ensures) (c.folds_are_begun.ensures logs c.args.folded.now is).one,
  c.in_default.ensures,
)
