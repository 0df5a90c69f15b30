-- What is kept, as the machine's words find it.
use Rattle.std.proofs.Common.{◌≡◌, ℕ, Bool, true, not, ◌&&◌, eqb, List, [], ◌∷◌, map, filter, Option, None, Some, refl, sym, ap, ◌∙◌, inl, inr, true≢false, eq-eqb, ne_eqb, eqb-true}
use Rattle.std.proofs.lemmas.Bool.{cases_Bool, cond-true, cond-false, and_parts}
use Rattle.std.proofs.lemmas.List.Elements.{filter_agree}
use Rattle.std.specs.Map.{lookup}
use Rattle.std.specs.Option.{option_map}
use Rattle.snap_base.specs.declared.ids.Tid.{Tid}
use Rattle.protocol.specs.Parts.{SubBatch, ControlMessage, Post}
use Rattle.protocol.specs.Words.{sub_of, control_of, without_sub, without_control}
use Rattle.post_box.specs.declared.keys.SubKey.{SubKey}
use Rattle.post_box.specs.declared.kept.SubRest.{SubRest}
use Rattle.post_box.specs.declared.kept.Control.{Control}
use Rattle.post_box.specs.contracts.keys.SubKeyPartialEq.TheImpl as eq_sub
use Rattle.snap_base.specs.contracts.ids.TidPartialEq.TheImpl as eq_tid
use Rattle.post_box.specs.Shown.{sub_whole, sub_shown, control_whole, control_shown}
use Rattle.post_box.proofs.ByKey.{filter-map}

pub eqb-turned : (a b : ℕ) → eqb a b ≡ eqb b a
eqb-turned a b =
    elim (cases_Bool (eqb b a)) [
      | inl q ↦ eq-eqb a b (sym (eqb-true b a q)) ∙ sym q
      | inr q ↦ ne_eqb a b (λ e. true≢false (sym (eq-eqb b a (sym e)) ∙ q)) ∙ sym q
    ]

-- what the tests of keys ask for
pub asks_sub : (key x : SubKey) → eq_sub.eq-value.it key x ≡ (eqb x.bid.0 key.bid.0 && eqb x.actor.0 key.actor.0)
asks_sub key x = λ j. eqb-turned key.bid.0 x.bid.0 j && eqb-turned key.actor.0 x.actor.0 j

pub asks_control : (key x : Tid) → eq_tid.eq-value.it key x ≡ eqb x.0 key.0
asks_control key x = eqb-turned key.0 x.0

-- a test of keys that asks for a batch and an actor
module _ (t : SubKey → Bool) (k a : ℕ) (asks : (x : SubKey) → t x ≡ (eqb x.bid.0 k && eqb x.actor.0 a)) where
  pub sub_of-shown : (es : List (SubKey × SubRest)) → sub_of k a (map sub_shown es) ≡ option_map (sub_whole k a) (lookup t es)
  sub_of-shown [] = refl
  sub_of-shown (e ∷ es) =
      elim (cases_Bool (t e.0)) [
        | inl q ↦
            let both : (eqb e.0.bid.0 k && eqb e.0.actor.0 a) ≡ true = sym (asks e.0) ∙ q in
            let parts = and_parts (eqb e.0.bid.0 k) (eqb e.0.actor.0 a) both in
            cond-true (eqb e.0.bid.0 k && eqb e.0.actor.0 a) _ _ both
            ∙ (λ j. Some (sub_whole (eqb-true e.0.bid.0 k parts.0 j) (eqb-true e.0.actor.0 a parts.1 j) e.1))
            ∙ sym (ap (option_map (sub_whole k a)) (cond-true (t e.0) (Some e.1) (lookup t es) q))
        | inr q ↦
            cond-false (eqb e.0.bid.0 k && eqb e.0.actor.0 a) _ _ (sym (asks e.0) ∙ q)
            ∙ sub_of-shown es ∙ sym (ap (option_map (sub_whole k a)) (cond-false (t e.0) (Some e.1) (lookup t es) q))
      ]

  pub without_sub-shown : (es : List (SubKey × SubRest)) → map sub_shown (filter (λ e. not (t e.0)) es) ≡ without_sub k a (map sub_shown es)
  without_sub-shown es =
      ap (map sub_shown) (filter_agree (λ e. not (t e.0)) (λ e. not (eqb e.0.bid.0 k && eqb e.0.actor.0 a)) (λ e. ap not (asks e.0)) es)
      ∙ sym (filter-map (λ m. not (eqb m.bid k && eqb m.actor a)) sub_shown es)

-- a test of tids that asks for a number
module _ {C : Type 0} (t : Tid → Bool) (n : ℕ) (asks : (x : Tid) → t x ≡ eqb x.0 n) where
  pub control_of-shown : (es : List (Tid × Control C)) → control_of n (map control_shown es) ≡ option_map (control_whole n) (lookup t es)
  control_of-shown [] = refl
  control_of-shown (e ∷ es) =
      elim (cases_Bool (t e.0)) [
        | inl q ↦
            let same : eqb e.0.0 n ≡ true = sym (asks e.0) ∙ q in
            cond-true (eqb e.0.0 n) _ _ same
            ∙ (λ j. Some (control_whole (eqb-true e.0.0 n same j) e.1))
            ∙ sym (ap (option_map (control_whole n)) (cond-true (t e.0) (Some e.1) (lookup t es) q))
        | inr q ↦
            cond-false (eqb e.0.0 n) _ _ (sym (asks e.0) ∙ q)
            ∙ control_of-shown es ∙ sym (ap (option_map (control_whole n)) (cond-false (t e.0) (Some e.1) (lookup t es) q))
      ]

  pub without_control-shown : (es : List (Tid × Control C)) → map control_shown (filter (λ e. not (t e.0)) es) ≡ without_control n (map control_shown es)
  without_control-shown es =
      ap (map control_shown) (filter_agree (λ e. not (t e.0)) (λ e. not (eqb e.0.0 n)) (λ e. ap not (asks e.0)) es)
      ∙ sym (filter-map (λ m. not (eqb m.tid n)) control_shown es)

module _ {C : Type 0} where
  abbrev pub post_of : List SubBatch → List (ControlMessage C) → Post C
  post_of subs controls = record { subs = subs; controls = controls }

pub option_map-twice : {X Y Z : Type 0} (f : Y → Z) (g : X → Y) (o : Option X) → option_map f (option_map g o) ≡ option_map (λ x. f (g x)) o
option_map-twice f g None = refl
option_map-twice f g (Some x) = refl

-- what a sub-batch tells, from what is kept of it
pub told_of_sub : {X : Type 0} (f : SubBatch → X) (t : SubKey → Bool) (k a : ℕ) (asks : (x : SubKey) → t x ≡ (eqb x.bid.0 k && eqb x.actor.0 a)) (es : List (SubKey × SubRest))
    → option_map (λ r. f (sub_whole k a r)) (lookup t es) ≡ option_map f (sub_of k a (map sub_shown es))
told_of_sub f t k a asks es = sym (option_map-twice f (sub_whole k a) (lookup t es)) ∙ ap (option_map f) (sym (sub_of-shown t k a asks es))
