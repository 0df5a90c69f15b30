-- The allowed events in order, revised one by one.
use Rattle.std.specs.Prelude.{◌≡◌, refl, ◌==◌, Bool, true, false, ◌||◌, List, [], ◌∷◌, ◌⊎◌, ◌↔◌, Contains}
use Rattle.std.proofs.Common.{sym, subst, inl, inr}
use Rattle.std.proofs.lemmas.Bool.{eqb-true, eq-eqb, or_left, or_right, or_cases, true≢false}
use Rattle.protocol.specs.Fixed.{Fixed}
use Rattle.protocol.specs.Parts.{Machine}
use Rattle.protocol.specs.Events.{Event, Abort}
use Rattle.protocol.specs.Conditions.{IsAllowed, refusal}
use Rattle.protocol.specs.Effects.{after}
use Rattle.protocol.specs.Schedule.{rank, is_rank_below, AscendByRank, IsEnabled}
use Rattle.protocol_laws.proofs.first.Ordered.{filtered}
use Rattle.protocol_ready.specs.Touched.{IsSound, is_touched}
use Rattle.protocol_ready.specs.Lying.{live}
use Rattle.protocol_ready.specs.Ready.{put_or_take, without, revised, touched, looked, AreEnough, AreRenewed, AreAll}
use Rattle.protocol_ready.proofs.Cited.{Framed, Ruled}
use Rattle.protocol_ready.proofs.Listing.{Has, from_has, to_has, has_left, has_right, has_filter, from_filter}
use Rattle.protocol_ready.proofs.TouchedParts.{control_stays}
use Rattle.protocol_ready.proofs.AllListed.{listed_all, live_all, stays_allowed}
use Rattle.protocol_ready.proofs.Ordered.{is_less, compared, one_event, put_has, put_from, ascends_put, not_itself}

-- ---- two events are the same or not

pub are_apart : Event → Event → Bool
are_apart x e = is_rank_below (rank x) (rank e) || is_rank_below (rank e) (rank x)

pub apart : (x e : Event) → are_apart x e ≡ true → x ≡ e → ⊥
unfolding are_apart
apart x e h q = elim (or_cases _ _ (subst (λ y. (is_rank_below (rank y) (rank e) || is_rank_below (rank e) (rank y)) ≡ true) q h)) [ inl a ↦ not_itself (rank e) a | inr b ↦ not_itself (rank e) b ]

pub same_or_apart : (x e : Event) → (x ≡ e) ⊎ (are_apart x e ≡ true)
unfolding are_apart
same_or_apart x e = elim (compared (rank x) (rank e)) [
  | inl a ↦ inr (or_left _ _ (is_less (rank x) (rank e) a))
  | inr o ↦ elim o [ inl b ↦ inr (or_right (is_rank_below (rank x) (rank e)) _ (is_less (rank e) (rank x) b)) | inr q ↦ inl (one_event x e q) ]
]

pub from_without : (e : Event) (es : List Event) (f : Event) → Contains (without e es) f → Contains es f × (f ≡ e → ⊥)
unfolding are_apart
from_without e es f h =
    let r = from_filter (λ x. is_rank_below (rank x) (rank e) || is_rank_below (rank e) (rank x)) es f (to_has (without e es) f h) in
    (from_has es f r.0, apart f e r.1)

pub in_without : (e : Event) (es : List Event) (f : Event) → Contains es f → Contains (without e es) f ⊎ (f ≡ e)
unfolding are_apart
in_without e es f h = elim (same_or_apart f e) [
  | inl q ↦ inr q
  | inr d ↦ inl (from_has (without e es) f (has_filter (λ x. is_rank_below (rank x) (rank e) || is_rank_below (rank e) (rank x)) es f (to_has es f h) d))
]

has_or_not : (es : List Event) (g : Event) → Has es g ⊎ (Has es g → ⊥)
has_or_not [] g = inr (λ h. h)
has_or_not (e ∷ es) g = elim (same_or_apart e g) [
  | inl q ↦ inl (inl q)
  | inr d ↦ elim (has_or_not es g) [ inl a ↦ inl (inr a) | inr n ↦ inr (λ h. elim h [ inl q ↦ apart e g d q | inr a ↦ n a ]) ]
]

-- ---- one event is looked at

-- what is in, where another one was looked at
from_one : (b : Bool) (e : Event) (xs : List Event) (g : Event) → Has (put_or_take b e xs) g → (e ≡ g) ⊎ Has xs g
from_one true e xs g h = put_from e xs g h
from_one false e xs g h = inr (from_filter (λ x. is_rank_below (rank x) (rank e) || is_rank_below (rank e) (rank x)) xs g h).0

-- who is taken out is not in
taken : (e : Event) (xs : List Event) (g : Event) → Has (put_or_take false e xs) g → e ≡ g → ⊥
unfolding are_apart
taken e xs g h q = apart g e (from_filter (λ x. is_rank_below (rank x) (rank e) || is_rank_below (rank e) (rank x)) xs g h).1 (sym q)

left_by_one : (b : Bool) (e : Event) (xs : List Event) (g : Event) → Has xs g → (e ≡ g → ⊥) → Has (put_or_take b e xs) g
unfolding are_apart
left_by_one true e xs g h n = put_has e xs g (inr h)
left_by_one false e xs g h n = elim (same_or_apart g e) [ inl q ↦ absurd (n (sym q)) | inr d ↦ has_filter (λ x. is_rank_below (rank x) (rank e) || is_rank_below (rank e) (rank x)) xs g h d ]

ascends_one : (b : Bool) (e : Event) (xs : List Event) → AscendByRank xs → AscendByRank (put_or_take b e xs)
ascends_one true e xs h = ascends_put e xs h
ascends_one false e xs h = filtered _ xs h

-- ---- one by one

from_revised : {C : Type 0} (w : Fixed C) (t : Machine C) (es xs : List Event) (g : Event) → Ruled w → Has (revised w t es xs) g → IsAllowed w g t ⊎ (Has xs g × (Has es g → ⊥))
from_revised w t [] xs g ruled h = inr (h, λ n. n)
from_revised w t (e ∷ es) xs g ruled h = elim (from_revised w t es (put_or_take (refusal w e t == 0) e xs) g ruled h) [ inl a ↦ inl a | inr b ↦ by (refusal w e t == 0) refl b.0 b.1 ]
  where
    more : (e ≡ g → ⊥) → (Has es g → ⊥) → Has (e ∷ es) g → ⊥
    more n m (inl q) = n q
    more n m (inr a) = m a

    by : (b : Bool) → (refusal w e t == 0) ≡ b → Has (put_or_take b e xs) g → (Has es g → ⊥) → IsAllowed w g t ⊎ (Has xs g × (Has (e ∷ es) g → ⊥))
    by true q k n = elim (same_or_apart e g) [
      | inl y ↦ inl (subst (λ f. IsAllowed w f t) y ((ruled e t).0 (eqb-true (refusal w e t) 0 q)))
      | inr d ↦ elim (from_one true e xs g k) [ inl y ↦ absurd (apart e g d y) | inr r ↦ inr (r, more (apart e g d) n) ]
    ]
    by false q k n = elim (from_one false e xs g k) [ inl y ↦ absurd (taken e xs g k y) | inr r ↦ inr (r, more (taken e xs g k) n) ]

left_alone : {C : Type 0} (w : Fixed C) (t : Machine C) (es xs : List Event) (g : Event) → Has xs g → (Has es g → ⊥) → Has (revised w t es xs) g
left_alone w t [] xs g h n = h
left_alone w t (e ∷ es) xs g h n = left_alone w t es (put_or_take (refusal w e t == 0) e xs) g (left_by_one (refusal w e t == 0) e xs g h (λ q. n (inl q))) (λ a. n (inr a))

put_in : {C : Type 0} (w : Fixed C) (t : Machine C) (es xs : List Event) (g : Event) → Ruled w → Has es g → IsAllowed w g t → Has (revised w t es xs) g
put_in w t [] xs g ruled h ok = absurd h
put_in w t (e ∷ es) xs g ruled (inr a) ok = put_in w t es (put_or_take (refusal w e t == 0) e xs) g ruled a ok
put_in w t (e ∷ es) xs g ruled (inl y) ok = elim (has_or_not es g) [
  | inl a ↦ put_in w t es (put_or_take (refusal w e t == 0) e xs) g ruled a ok
  | inr n ↦ left_alone w t es (put_or_take (refusal w e t == 0) e xs) g (there (refusal w e t == 0) (eq-eqb (refusal w e t) 0 ((ruled e t).1 (subst (λ f. IsAllowed w f t) (sym y) ok)))) n
]
  where
    there : (b : Bool) → b ≡ true → Has (put_or_take b e xs) g
    there true q = put_has e xs g (inl y)
    there false q = absurd (true≢false (sym q))

ascends_revised : {C : Type 0} (w : Fixed C) (t : Machine C) (es xs : List Event) → AscendByRank xs → AscendByRank (revised w t es xs)
ascends_revised w t [] xs h = h
ascends_revised w t (e ∷ es) xs h = ascends_revised w t es (put_or_take (refusal w e t == 0) e xs) (ascends_one (refusal w e t == 0) e xs h)

-- ---- what is looked at is enough

touched_before : {C : Type 0} (w : Fixed C) (e : Event) (s : Machine C) (f : Event) → IsAllowed w f s → is_touched w e s f ≡ true → Has (touched w e s s) f
touched_before w (Abort k) s f ok h = live_all w s f ok
touched_before w e s f ok h = listed_all w e s s (λ u q. refl) f ok h

touched_after : {C : Type 0} (w : Fixed C) (e : Event) (s : Machine C) (f : Event) → IsAllowed w f (after w e s) → is_touched w e s f ≡ true → Has (touched w e s (after w e s)) f
touched_after w (Abort k) s f ok h = live_all w (after w (Abort k) s) f ok
touched_after w e s f ok h = listed_all w e s (after w e s) (λ u. control_stays w e s u) f ok h

-- who is touched, and is allowed before or after, is looked at
looked_before : {C : Type 0} (w : Fixed C) (e : Event) (s : Machine C) (f : Event) → IsAllowed w f s → is_touched w e s f ≡ true → Contains (looked w e s) f
looked_before w e s f ok h = from_has (looked w e s) f (has_left (touched w e s s) _ f (touched_before w e s f ok h))

looked_after : {C : Type 0} (w : Fixed C) (e : Event) (s : Machine C) (f : Event) → IsAllowed w f (after w e s) → is_touched w e s f ≡ true → Contains (looked w e s) f
looked_after w e s f ok h = from_has (looked w e s) f (has_right (touched w e s s) _ f (touched_after w e s f ok h))

-- what is not looked at is allowed where it was
pub unlooked : {C : Type 0} (w : Fixed C) (e : Event) (s : Machine C) (f : Event) → Framed w → IsSound w s → IsAllowed w e s → (Contains (looked w e s) f → ⊥) → IsAllowed w f s ↔ IsAllowed w f (after w e s)
unlooked w e s f framed ok al n = by (is_touched w e s f) refl
  where
    by : (b : Bool) → is_touched w e s f ≡ b → IsAllowed w f s ↔ IsAllowed w f (after w e s)
    by true q = (λ h. absurd (n (looked_before w e s f h q)), λ h. absurd (n (looked_after w e s f h q)))
    by false q = stays_allowed w e s f framed ok al q

-- what was in and is touched is looked at, and what is listed now and is allowed
alike : {C : Type 0} (w : Fixed C) (e : Event) (s : Machine C) (all es : List Event) (f : Event) → Framed w → IsSound w s → IsAllowed w e s → AreRenewed w e s all es → IsEnabled w s all → (Has es f → ⊥) → IsAllowed w f s ↔ IsAllowed w f (after w e s)
alike w e s all es f framed ok al more en n = by (is_touched w e s f) refl
  where
    by : (b : Bool) → is_touched w e s f ≡ b → IsAllowed w f s ↔ IsAllowed w f (after w e s)
    by true q = (
      λ h. absurd (n (to_has es f (more.had f ((en.all f).1 h) q))),
      λ h. absurd (n (to_has es f (more.listed f q (from_has (touched w e s (after w e s)) f (touched_after w e s f h q)) h))),
    )
    by false q = stays_allowed w e s f framed ok al q

pub renewed_enabled : {C : Type 0} (w : Fixed C) (e : Event) (s : Machine C) (es all : List Event) → Framed w → Ruled w → IsSound w s → IsAllowed w e s → AreRenewed w e s all es → IsEnabled w s all → IsEnabled w (after w e s) (revised w (after w e s) es all)
renewed_enabled w e s es all framed ruled ok al more en = record {
  all = λ f. (λ h. from f (to_has (revised w (after w e s) es all) f h), λ h. from_has (revised w (after w e s) es all) f (to f h));
  ascends = ascends_revised w (after w e s) es all en.ascends;
}
  where
    still : (f : Event) → (Has es f → ⊥) → IsAllowed w f s ↔ IsAllowed w f (after w e s)
    still f n = alike w e s all es f framed ok al more en n

    from : (f : Event) → Has (revised w (after w e s) es all) f → IsAllowed w f (after w e s)
    from f h = elim (from_revised w (after w e s) es all f ruled h) [ inl a ↦ a | inr b ↦ (still f b.1).0 ((en.all f).0 (from_has all f b.0)) ]

    to : (f : Event) → IsAllowed w f (after w e s) → Has (revised w (after w e s) es all) f
    to f h = elim (has_or_not es f) [ inl a ↦ put_in w (after w e s) es all f ruled a h | inr n ↦ left_alone w (after w e s) es all f (to_has all f ((en.all f).1 ((still f n).1 h))) n ]

-- who lists before and after has what it had
listed_twice : {C : Type 0} (w : Fixed C) (e : Event) (s : Machine C) (es all : List Event) → AreEnough w e s es → IsEnabled w s all → AreRenewed w e s all es
listed_twice w e s es all more en = record {
  had = λ f h q. let ok = (en.all f).0 h in more f q (looked_before w e s f ok q) (inl ok);
  listed = λ f q h ok. more f q (from_has (looked w e s) f (has_right (touched w e s s) _ f (to_has (touched w e s (after w e s)) f h))) (inr ok);
}

pub revised_enabled : {C : Type 0} (w : Fixed C) (e : Event) (s : Machine C) (es all : List Event) → Framed w → Ruled w → IsSound w s → IsAllowed w e s → AreEnough w e s es → IsEnabled w s all → IsEnabled w (after w e s) (revised w (after w e s) es all)
revised_enabled w e s es all framed ruled ok al more en = renewed_enabled w e s es all framed ruled ok al (listed_twice w e s es all more en) en

-- ---- all of them, looked for anew

pub found_enabled : {C : Type 0} (w : Fixed C) (s : Machine C) (es : List Event) → Ruled w → AreAll w s es → IsEnabled w s (revised w s es [])
found_enabled w s es ruled more = record {
  all = λ f. (λ h. from f (to_has (revised w s es []) f h), λ ok. from_has (revised w s es []) f (put_in w s es [] f ruled (to_has es f (more f (from_has (live w s) f (live_all w s f ok)) ok)) ok));
  ascends = ascends_revised w s es [] tt;
}
  where
    from : (f : Event) → Has (revised w s es []) f → IsAllowed w f s
    from f h = elim (from_revised w s es [] f ruled h) [ inl a ↦ a | inr b ↦ absurd b.0 ]
