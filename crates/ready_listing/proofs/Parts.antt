-- Which parts are at hand.
use Rattle.std.specs.List.{list_all, AllByRecursion}
use Rattle.std.proofs.Common.{◌≡◌, ℕ, ◌+◌, ◌<◌, Bool, true, false, ◌&&◌, Option, Some, None, is_some, List, [], ◌∷◌, ◌++◌, length, map, option_map, slice_get, refl, sym, ap, ◌∙◌, arith}
use Rattle.std.proofs.lemmas.Bool.{true≢false, and_parts}
use Rattle.std.proofs.lemmas.List.{length-map}
use Rattle.std.proofs.lemmas.Option.{slice_get-map}
use Rattle.snap_base.proofs.Lists.{one_at, get_behind}
use Rattle.aml_slice.specs.Controls.{Rest}
use Rattle.protocol.specs.Events.{Event, footprint, cell}
use Rattle.protocol.specs.Fixed.{Fixed}
use Rattle.protocol.specs.Parts.{Cell}
use Rattle.snap_hand.proofs.InLists.{behind_four}
use Rattle.snap_hand.specs.Hands.{Parts, Has, HasFootprint, are_there, is_at_hand, is_not_out}
use Rattle.ready_listing.specs.Chosen.{is_asked}

-- ---- a test and what it says

not_out : (o : Option Bool) → (o ≡ Some false → ⊥) → is_not_out o ≡ true
not_out None h = refl
not_out (Some true) h = refl
not_out (Some false) h = absurd (h refl)

is_in : (o : Option Bool) → is_not_out o ≡ true → o ≡ Some false → ⊥
is_in o h e = true≢false (sym h ∙ ap is_not_out e)

pub has_all : (h : Parts) (is : List ℕ) → AllByRecursion (Has h) is → list_all (is_at_hand h) is ≡ true
has_all h [] a = refl
has_all h (i ∷ is) a = both (is_at_hand h i) (list_all (is_at_hand h) is) (not_out (slice_get (are_there h) i) a.0) (has_all h is a.1)
  where
    both : (b c : Bool) → b ≡ true → c ≡ true → (b && c) ≡ true
    both true c e f = f
    both false c e f = e

pub all_had : (h : Parts) (is : List ℕ) → list_all (is_at_hand h) is ≡ true → AllByRecursion (Has h) is
all_had h [] a = tt
all_had h (i ∷ is) a = let b = and_parts (is_at_hand h i) (list_all (is_at_hand h) is) a in (is_in (slice_get (are_there h) i) b.0, all_had h is b.1)

pub asked_is : (w : Fixed Rest) (h : Parts) (e : Event) → HasFootprint w e h → is_asked w h e ≡ true
asked_is w h e a = has_all h (footprint w.text.logs e) a

pub is_had : (w : Fixed Rest) (h : Parts) (e : Event) → is_asked w h e ≡ true → HasFootprint w e h
is_had w h e a = all_had h (footprint w.text.logs e) a

-- ---- single parts

-- the cell of an actor, by the place of its part
pub cell_shown : (h : Parts) (logs a : ℕ) → length h.logs ≡ logs → slice_get (are_there h) (cell logs a) ≡ slice_get (map is_some h.cells) a
cell_shown h logs a same =
    behind_four (is_some h.ring) (is_some h.book) (is_some h.post) (is_some h.desk) (map is_some h.logs ++ map is_some h.cells) (logs + a) (cell logs a) (omega arith)
    ∙ get_behind (map is_some h.logs) (map is_some h.cells) a (logs + a) (ap (λ n. n + a) (sym same ∙ sym (length-map h.logs is_some)))

-- the actor is there, and its cell is or is not
pub cell_is_out : (h : Parts) (a : ℕ) → slice_get h.cells a ≡ Some None → is_not_out (slice_get (map is_some h.cells) a) ≡ false
cell_is_out h a e = ap is_not_out (slice_get-map is_some h.cells a ∙ ap (option_map is_some) e)

pub cell_there : (h : Parts) (a : ℕ) → a < length h.cells → is_not_out (slice_get (map is_some h.cells) a) ≡ true → (x : Cell Rest) × (slice_get h.cells a ≡ Some (Some x))
cell_there h a within q = by (one_at h.cells a within).0 (one_at h.cells a within).1
  where
    by : (o : Option (Cell Rest)) → slice_get h.cells a ≡ Some o → (x : Cell Rest) × (slice_get h.cells a ≡ Some (Some x))
    by None e = absurd (true≢false (sym q ∙ cell_is_out h a e))
    by (Some x) e = (x, e)

pub cell_lacks : (h : Parts) (a : ℕ) → a < length h.cells → is_not_out (slice_get (map is_some h.cells) a) ≡ false → slice_get h.cells a ≡ Some None
cell_lacks h a within q = by (one_at h.cells a within).0 (one_at h.cells a within).1
  where
    by : (o : Option (Cell Rest)) → slice_get h.cells a ≡ Some o → slice_get h.cells a ≡ Some None
    by None e = e
    by (Some x) e = absurd (true≢false (sym (ap is_not_out (slice_get-map is_some h.cells a ∙ ap (option_map is_some) e)) ∙ q))
