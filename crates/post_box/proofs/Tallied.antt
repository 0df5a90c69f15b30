-- What is counted of the sub-batches under way, when one goes.
use Rattle.std.proofs.Common.{◌≡◌, ℕ, ◌+◌, ◌≤◌, Bool, true, false, cond, not, eqb, List, [], ◌∷◌, length, map, filter, ◌&&◌, Some, is_some, sym, ap, ◌∙◌, subst, arith, inl, inr}
use Rattle.std.proofs.lemmas.Bool.{cases_Bool, cond-true, cond-false, and_parts, true≢false}
use Rattle.std.specs.Map.{lookup}
use Rattle.protocol.specs.Numbers.{one_if}
use Rattle.post_box.specs.Tally.{IsLeftOf, IsTally, count_to}
use Rattle.post_box.specs.Listed.{is_to, sub_kept}
use Rattle.post_box.specs.declared.keys.SubKey.{SubKey}
use Rattle.post_box.specs.declared.kept.SubRest.{SubRest}
use Rattle.snap_base.specs.declared.ids.ActorId.{ActorId}
use Rattle.post_box.proofs.ByKey.{filter-map}
use Rattle.post_box.proofs.InOrder.{filter-filter, length-filter_le, nil_from_length}

length_if : {X : Type 0} (b : Bool) (x : X) (xs : List X) → length (cond b (x ∷ xs) xs) ≡ one_if b + length xs
length_if true x xs = omega arith
length_if false x xs = omega arith

-- ---- one less

module _ (t : SubKey → Bool) (q : SubKey × SubRest → Bool) where
  no_more : (es : List (SubKey × SubRest)) → length (filter q (filter (λ e. not (t e.0)) es)) ≤ length (filter q es)
  no_more es = omega (arith, ap length (filter-filter q (λ (e : SubKey × SubRest). not (t e.0)) es), length-filter_le (λ (e : SubKey × SubRest). not (t e.0)) (filter q es))

  one_less : ((e : SubKey × SubRest) → t e.0 ≡ true → q e ≡ true) → (es : List (SubKey × SubRest)) → is_some (lookup t es) ≡ true → length (filter q (filter (λ e. not (t e.0)) es)) + 1 ≤ length (filter q es)
  one_less passes [] there = absurd (true≢false (sym there))
  one_less passes (e ∷ es) there =
      elim (cases_Bool (t e.0)) [
        | inl p ↦
            let gone : filter (λ x. not (t x.0)) (e ∷ es) ≡ filter (λ x. not (t x.0)) es = cond-false (not (t e.0)) (e ∷ filter (λ x. not (t x.0)) es) (filter (λ x. not (t x.0)) es) (ap not p) in
            omega (arith, ap (λ xs. length (filter q xs)) gone, no_more es, length_if (q e) e (filter q es), ap one_if (passes e p))
        | inr p ↦
            let stays : filter (λ x. not (t x.0)) (e ∷ es) ≡ e ∷ filter (λ x. not (t x.0)) es = cond-true (not (t e.0)) (e ∷ filter (λ x. not (t x.0)) es) (filter (λ x. not (t x.0)) es) (ap not p) in
            let later : is_some (lookup t es) ≡ true = sym (ap is_some (cond-false (t e.0) (Some e.1) (lookup t es) p)) ∙ there in
            omega (
              arith,
              ap (λ xs. length (filter q xs)) stays,
              one_less passes es later,
              length_if (q e) e (filter q es),
              length_if (q e) e (filter q (filter (λ x. not (t x.0)) es)),
            )
      ]

left_without : (t : SubKey → Bool) (k a : ℕ) → ((x : SubKey) → t x ≡ (eqb x.bid.0 k && eqb x.actor.0 a)) → (es : List (SubKey × SubRest)) → is_some (lookup t es) ≡ true → IsLeftOf a es (filter (λ e. not (t e.0)) es)
left_without t k a asks es there = record {
  fewer = one_less t (λ e. eqb e.0.actor.0 a) (λ e p. (and_parts (eqb e.0.bid.0 k) (eqb e.0.actor.0 a) (sym (asks e.0) ∙ p)).1) es there;
  others = λ n. no_more t (λ e. eqb e.0.actor.0 n) es;
}

-- where the one that is asked for was there, it is gone
pub left_of : (t : SubKey → Bool) (k a : ℕ) → ((x : SubKey) → t x ≡ (eqb x.bid.0 k && eqb x.actor.0 a)) → (es left : List (SubKey × SubRest)) → left ≡ filter (λ e. not (t e.0)) es → (rest : SubRest) → Some rest ≡ lookup t es → IsLeftOf a es left
left_of t k a asks es left e rest there = subst (λ l. IsLeftOf a es l) (sym e) (left_without t k a asks es (sym (ap is_some there)))

-- whoever goes, what is counted is enough for those left
pub tally_left : (t : SubKey → Bool) (counts : List ℕ) (es left : List (SubKey × SubRest)) → left ≡ filter (λ e. not (t e.0)) es → IsTally counts es → IsTally counts left
tally_left t counts es left e tally a within = omega (arith, ap (count_to a) e, no_more t (λ x. eqb x.0.actor.0 a) es, tally a within)

-- ---- none

pub none_to : (a : ActorId) (es : List (SubKey × SubRest)) → count_to a.0 es ≡ 0 → filter (is_to a) (map sub_kept es) ≡ []
none_to a es none = filter-map (is_to a) sub_kept es ∙ ap (map sub_kept) (nil_from_length (filter (λ e. is_to a (sub_kept e)) es) (omega (arith, none)))
