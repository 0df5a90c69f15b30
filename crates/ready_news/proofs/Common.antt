-- What the listers have in common: a list that grows tells what it told, all parts are at hand, and what is new is touched.
use Rattle.std.specs.List.{flat_map}
use Rattle.std.proofs.Common.{◌≡◌, ◌≢◌, ◌↔◌, refl, ℕ, zero, suc, ◌+◌, ◌-◌, ◌<◌, ◌≤◌, ◌==◌, Bool, not, true, false, ◌&&◌, get_or, take, Result, OnOk, Option, Some, None, is_some, List, [], ◌∷◌, ◌++◌, length, map, slice_get, option_map, Contains, arith, sym, ap, subst, ◌∙◌, append-nil}
use Rattle.std.proofs.lemmas.Bool.{and_parts, not-true, eqb-true}
use Rattle.std.proofs.lemmas.Grind.{flat_map-append}
use Rattle.std.proofs.lemmas.List.{get_or_default}
use Rattle.std.proofs.lemmas.List.Elements.{Contains-append_right}
use Rattle.std.proofs.lemmas.Option.{slice_get-map}
use Rattle.std.proofs.lemmas.Result.{on_ok_weaker}
use Rattle.snap_base.proofs.Lists.{one_at}
use Rattle.aml_slice.specs.Controls.{Rest}
use Rattle.book_part.specs.Halves.{Halves}
use Rattle.core_events.specs.Meant.{event_meant}
use Rattle.core_events.specs.declared.events.Event as code
use Rattle.ready_listing.specs.Listed.{Adds}
use Rattle.ready_listing.proofs.Adding.{adds_all, adds_both, adds_more}
use Rattle.ready_listing.proofs.Parts.{cell_shown}
use Rattle.protocol.specs.Conditions.{IsAllowed, refusal}
use Rattle.protocol.specs.Effects.{after}
use Rattle.protocol.specs.Events.{Event, cell}
use Rattle.protocol.specs.Fixed.{Fixed}
use Rattle.protocol.specs.Numbers.{from}
use Rattle.protocol.specs.Parts.{Ring, Post, Desk, Cell, Machine}
use Rattle.protocol_ready.specs.Touched.{is_touched}
use Rattle.snap_hand.specs.Hands.{Parts, IsWhole, are_there}
use Rattle.ready_news.specs.InBook.{only}
use Rattle.ready_news.specs.New.{is_new}

-- ---- lists that grow

pub has_added : (old new : List code.Event) (more : List Event) → Adds old new more → (f : Event) → Contains more f → Contains (map event_meant new) f
has_added old new more h f c = subst (λ v. Contains v f) (sym h) (Contains-append_right (map event_meant old) more f c)

-- ---- three lists

pub adds_three : (o u v n : List code.Event) (xs ys zs : List Event) → Adds o u xs → Adds u v ys → Adds v n zs → Adds o n (xs ++ (ys ++ zs))
adds_three o u v n xs ys zs f g h = adds_both o u n xs (ys ++ zs) f (adds_both u v n ys zs g h)

-- ---- where memory sufficed

-- two lists, of which the second is the last
pub ok_both : {T E : Type 0} (r : Result T E) (o u n : List code.Event) (xs ys : List Event) → Adds o u xs → OnOk r (Adds u n ys) → OnOk r (Adds o n (xs ++ ys))
ok_both r o u n xs ys h = on_ok_weaker r (adds_both o u n xs ys h)

-- one event, where this is so
pub adds_if : (e : Event) (o n : List code.Event) (p q : Bool) → p ≡ q → Adds o n (only p e) → Adds o n (only q e)
adds_if e o n p q same = subst (λ b. Adds o n (only b e)) same

-- ---- loops

-- over a list that is lent, one element further
pub adds_next : {X A : Type 0} (f : A → List Event) (g : X → A) (xs : List X) (i : ℕ) (x : X) (base now next : List code.Event) → i < length xs → Adds base now (flat_map f (map g (take i xs))) → Adds now next (f (g (get_or xs i x))) → Adds base next (flat_map f (map g (take (i + 1) xs)))
adds_next f g xs i x base now next within = adds_more f g xs i (get_or xs i x) base now next within (get_or_default xs i x (get_or xs i x) within)

-- and at its end, where these are the elements
pub adds_each : {X A : Type 0} (f : A → List Event) (g : X → A) (xs : List X) (all : List A) (i : ℕ) (base now : List code.Event) → map g xs ≡ all → length xs ≤ i → Adds base now (flat_map f (map g (take i xs))) → Adds base now (flat_map f all)
adds_each f g xs all i base now are past so_far = subst (λ v. Adds base now (flat_map f v)) are (adds_all f g xs i base now past so_far)

from_last : (k m : ℕ) → from k (suc m) ≡ from k m ++ (k + m) ∷ []
from_last k zero = ap (λ n. n ∷ []) (omega arith)
from_last k (suc m) = ap (λ ns. k ∷ ns) (from_last (k + 1) m ∙ ap (λ n. from (k + 1) m ++ n ∷ []) (omega arith))

-- over numbers from one on
pub adds_number : (f : ℕ → List Event) (k j : ℕ) (base now next : List code.Event) → k ≤ j → Adds base now (flat_map f (from k (j - k))) → Adds now next (f j) → Adds base next (flat_map f (from k (j + 1 - k)))
adds_number f k j base now next low so_far one =
    let count : j + 1 - k ≡ suc (j - k) = omega (arith, low) in
    let last : k + (j - k) ≡ j = omega (arith, low) in
    let front = from k (j - k) in
    adds_both base now next (flat_map f front) (f j) so_far one
    ∙ ap (λ v. map event_meant base ++ v)
    (sym (ap (λ m. flat_map f (from k m)) count ∙ (ap (flat_map f) (from_last k (j - k)) ∙ (flat_map-append f front ((k + (j - k)) ∷ []) ∙ ap (λ v. flat_map f front ++ v) (append-nil (f (k + (j - k))) ∙ ap f last)))))

-- all of these are among those
abbrev pub Among : List Event → List Event → Type 0
Among xs ys = (f : Event) → Contains xs f → Contains ys f

-- ---- what is new

module _ (w : Fixed Rest) (e : Event) (s : Machine Rest) (f : Event) (h : is_new w e s f ≡ true) where
  both : (is_touched w e s f ≡ true) × ((not (refusal w f s == 0) && (refusal w f (after w e s) == 0)) ≡ true)
  both = and_parts (is_touched w e s f) _ h

  pub new_is_touched : is_touched w e s f ≡ true
  new_is_touched = both.0

  pub new_was_refused : (refusal w f s == 0) ≡ false
  new_was_refused = not-true (refusal w f s == 0) (and_parts (not (refusal w f s == 0)) (refusal w f (after w e s) == 0) both.1).0

  pub new_is_due : (refusal w f (after w e s) == 0) ≡ true
  new_is_due = (and_parts (not (refusal w f s == 0)) (refusal w f (after w e s) == 0) both.1).1

  -- by the law of the rows
  pub new_is_allowed : ((w : Fixed Rest) (e : Event) (s : Machine Rest) → (refusal w e s ≡ 0) ↔ IsAllowed w e s) → IsAllowed w f (after w e s)
  new_is_allowed ruled = (ruled w f (after w e s)).0 (eqb-true (refusal w f (after w e s)) 0 (and_parts (not (refusal w f s == 0)) (refusal w f (after w e s) == 0) both.1).1)

-- ---- the cell of an actor, where there is such an actor

module _ {X : Type 0} (view : X → Cell Rest) (shown : Option (Option (Cell Rest))) where
  pub at_some : (o : Option X) (x : X) → option_map (λ c. Some (view c)) o ≡ shown → o ≡ Some x → Some (Some (view x)) ≡ shown
  at_some o x is e = ap (option_map (λ c. Some (view c))) (sym e) ∙ is

  pub at_none : (o : Option X) → option_map (λ c. Some (view c)) o ≡ shown → ((x : X) → o ≢ Some x) → None ≡ shown
  at_none None is other = is
  at_none (Some x) is other = absurd (other x refl)

-- ---- all parts are at hand

-- what is there is at its place
there : {X : Type 0} (o : Option X) → (is_some o ≡ false → ⊥) → (x : X) × (o ≡ Some x)
there None h = absurd (h refl)
there (Some x) h = (x, refl)

module _ (h : Parts) (whole : IsWhole h) where
  pub ring_there : (x : Ring) × (h.ring ≡ Some x)
  ring_there = there h.ring (λ e. whole 0 (ap Some e))

  pub book_there : (x : Halves) × (h.book ≡ Some x)
  book_there = there h.book (λ e. whole 1 (ap Some e))

  pub post_there : (x : Post Rest) × (h.post ≡ Some x)
  post_there = there h.post (λ e. whole 2 (ap Some e))

  pub desk_there : (x : Desk) × (h.desk ≡ Some x)
  desk_there = there h.desk (λ e. whole 3 (ap Some e))

  pub cell_is_there : (logs a : ℕ) → length h.logs ≡ logs → a < length h.cells → (x : Cell Rest) × (slice_get h.cells a ≡ Some (Some x))
  cell_is_there logs a same within = by (one_at h.cells a within).0 (one_at h.cells a within).1
    where
      shown : (o : Option (Cell Rest)) → slice_get h.cells a ≡ Some o → slice_get (are_there h) (cell logs a) ≡ Some (is_some o)
      shown o e = cell_shown h logs a same ∙ (slice_get-map is_some h.cells a ∙ ap (option_map is_some) e)

      by : (o : Option (Cell Rest)) → slice_get h.cells a ≡ Some o → (x : Cell Rest) × (slice_get h.cells a ≡ Some (Some x))
      by None e = absurd (whole (cell logs a) (shown None e))
      by (Some x) e = (x, e)
