-- A stop of a part is a stop of the whole.
use Rattle.std.proofs.Common.{◌≡◌, ◌≢◌, ℕ, List, [], ◌∷◌, ◌++◌, length, take, refl, sym, ap, subst, ◌∙◌, append_assoc, ◌⊎◌, inl, inr}
use Rattle.std.proofs.lemmas.List.{append-nil}
use Rattle.txn_records.specs.Stops.{Stops, Any, Seq}
use Rattle.txn_records.proofs.OneRecord.{SpelledApart}

-- two languages with the same texts stop alike
pub stops_alike : (F G : List ℕ → Type 0) (bytes : List ℕ) (left : ℕ) → ((f : List ℕ) → F f → G f) → ((f : List ℕ) → G f → F f) → Stops F bytes left → Stops G bytes left
stops_alike F G bytes left there back s = record {
  front = s.front;
  behind = s.behind;
  parts = s.parts;
  left_is = s.left_is;
  goes = (s.goes.0, s.goes.1, there s.goes.0 s.goes.2, s.goes.3);
  stops = λ f y p e. s.stops f y (back f p) e;
}

-- of two fronts of the same bytes one begins the other
pub fronts : (a b x y : List ℕ) → a ++ x ≡ b ++ y → ((t : List ℕ) × (b ≡ a ++ t)) ⊎ ((t : List ℕ) × (a ≡ b ++ t))
fronts [] b x y e = inl (b, refl)
fronts (c ∷ a) [] x y e = inr (c ∷ a, refl)
fronts (c ∷ a) (d ∷ b) x y e =
    let same : c ≡ d = cc in
    let tails : a ++ x ≡ b ++ y = cc in
    elim (fronts a b x y tails) [
      | inl w ↦ inl (w.0, ap (λ (z : ℕ). z ∷ b) (sym same) ∙ ap (λ (z : List ℕ). c ∷ z) w.1)
      | inr w ↦ inr (w.0, ap (λ (z : ℕ). z ∷ a) same ∙ ap (λ (z : List ℕ). d ∷ z) w.1)
    ]

-- where the first thing stops, its language does
pub stops_first : {X : Type 0} (Is : X → Type 0) (spell : X → List ℕ) (G : X → List ℕ → Type 0) (bytes : List ℕ) (left : ℕ)
    → ((x : X) → Is x → (g : List ℕ) × G x g)
    → Stops (Seq Is spell (λ x. Any)) bytes left → Stops (Seq Is spell G) bytes left
stops_first {X} Is spell G bytes left some s =
    let x : X = s.goes.2.0 in
    let rest : List ℕ = (some x s.goes.2.2).0 in
    let beyond : (t : List ℕ) × (s.front ≡ spell x ++ t) → ⊥ = λ w.
    (s.stops (spell x ++ (w.0 ++ take 1 s.behind)) [] (x, w.0 ++ take 1 s.behind, s.goes.2.2, tt, refl)
    (sym (append_assoc (spell x) w.0 (take 1 s.behind)) ∙ ap (λ (z : List ℕ). z ++ take 1 s.behind) (sym w.1) ∙ ap (λ (z : List ℕ). s.front ++ z) (sym (append-nil (take 1 s.behind))))).1 refl in
    let within : (t : List ℕ) × (spell x ≡ s.front ++ t) = elim (fronts (spell x) s.front s.goes.2.1 s.goes.1 (sym s.goes.2.4 ∙ s.goes.3)) [ inl w ↦ absurd (beyond w) | inr w ↦ w ] in
    record {
      front = s.front;
      behind = s.behind;
      parts = s.parts;
      left_is = s.left_is;
      goes = (spell x ++ rest, within.0 ++ rest, (x, rest, s.goes.2.2, (some x s.goes.2.2).1, refl), ap (λ (z : List ℕ). z ++ rest) within.1 ∙ append_assoc s.front within.0 rest);
      stops = λ f y q h. s.stops f y (q.0, q.1, q.2, tt, q.4) h;
    }

-- what stops behind the first thing
pub stops_after : {X : Type 0} (Is : X → Type 0) (spell : X → List ℕ) (G : X → List ℕ → Type 0) → SpelledApart Is spell
    → (x : X) (bytes rest : List ℕ) (left : ℕ) → Is x → bytes ≡ spell x ++ rest
    → Stops (G x) rest left → Stops (Seq Is spell G) bytes left
stops_after {X} Is spell G each x bytes rest left p e s = record {
  front = spell x ++ s.front;
  behind = s.behind;
  parts = e ∙ ap (λ (z : List ℕ). spell x ++ z) s.parts ∙ sym (append_assoc (spell x) s.front s.behind);
  left_is = s.left_is;
  goes = (spell x ++ s.goes.0, s.goes.1, (x, s.goes.0, p, s.goes.2, refl), ap (λ (z : List ℕ). spell x ++ z) s.goes.3 ∙ sym (append_assoc (spell x) s.front s.goes.1));
  stops = λ f y q h.
      let r = each.apart q.0 x q.1 (s.front ++ (take 1 s.behind ++ y)) q.2 p (sym q.4 ∙ h ∙ append_assoc (spell x) s.front (take 1 s.behind ++ y)) in
      let there : G x q.1 = subst (λ (z : X). G z q.1) r.0 q.3 in
      s.stops q.1 y there r.1;
}

-- bytes of which no text goes on behind the empty front
pub stops_here : (F : List ℕ → Type 0) (bytes : List ℕ) → ((f : List ℕ) × F f)
    → ((f y : List ℕ) → F f → f ≡ take 1 bytes ++ y → (bytes ≡ []) × (y ≢ []))
    → Stops F bytes (length bytes)
stops_here F bytes some none = record {
  front = [];
  behind = bytes;
  parts = refl;
  left_is = refl;
  goes = (some.0, some.0, some.1, refl);
  stops = none;
}
