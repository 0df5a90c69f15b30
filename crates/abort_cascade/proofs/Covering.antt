-- Among cascades that ascend, the one that covers a batch is found by its place.
use Rattle.std.proofs.Common.{◌≡◌, ℕ, zero, suc, ◌+◌, ◌<◌, ◌≤◌, Bool, true, false, cond, leb, Option, Some, None, List, [], ◌∷◌, length, get_or, refl, arith, Bor}
use Rattle.std.proofs.lemmas.Bool.{leb-false, le-leb, lt-leb, and_left, and_right}
use Rattle.std.specs.Prelude.{◌&&◌, ◌||◌, find, is_some, option_copied, slice_get}
use Rattle.std.specs.List.{list_any}
use Rattle.std.specs.List.Sorted.{IsNonDecreasingBy}
use Rattle.protocol.specs.Parts.{Cascade}
use Rattle.protocol.specs.Words.{covers, is_aborted}
use Rattle.protocol.specs.Settling.{CascadesAscend}
use Rattle.abort_cascade.specs.Kept.{begun_by}

-- a batch below all of them is not covered
find_below : (k low : ℕ) (cs : List Cascade) → CascadesAscend low cs → k < low → find (covers k) cs ≡ None
find_below k low [] h lt = refl
find_below k low (c ∷ cs) h lt =
    rw (and_left (leb c.first k) (leb k c.upto) (lt-leb c.first k (omega (arith, h.0)))) (find_below k (c.upto + 1) cs h.2 (omega (arith, h.0, h.1)))

only_first : (b : Bool) (c : Cascade) (rest : Option Cascade) → (b ≡ false → rest ≡ None) → cond (b && true) (Some c) rest ≡ cond b (Some c) None
only_first true c rest h = refl
only_first false c rest h = h refl

-- where those before a place end below the batch, and those from it on do not
pub find_at : (k low : ℕ) (cs : List Cascade) (place : ℕ) → CascadesAscend low cs
    → ((i : ℕ) (d : Cascade) → i < place → (get_or cs i d).upto < k)
    → ((i : ℕ) (d : Cascade) → place ≤ i → i < length cs → k ≤ (get_or cs i d).upto)
    → find (covers k) cs ≡ begun_by k (slice_get cs place)
find_at k low [] place h below above = refl
find_at k low (c ∷ cs) zero h below above =
    rw (le-leb k c.upto (above 0 c (omega arith) (omega arith)))
    (only_first (leb c.first k) c (find (covers k) cs) (λ e. find_below k (c.upto + 1) cs h.2 (omega (arith, leb-false c.first k e, h.1))))
find_at k low (c ∷ cs) (suc place) h below above =
    rw (and_right (leb c.first k) (leb k c.upto) (lt-leb k c.upto (below 0 c (omega arith))))
    (find_at k (c.upto + 1) cs place h.2 (λ i d lt. below (suc i) d (omega (arith, lt))) (λ i d le lt. above (suc i) d (omega (arith, le)) (omega (arith, lt))))

ends_above : (low : ℕ) (cs : List Cascade) (i : ℕ) (d : Cascade) → CascadesAscend low cs → i < length cs → low ≤ (get_or cs i d).upto
ends_above low [] i d h lt = absurd (omega (arith, lt))
ends_above low (c ∷ cs) zero d h lt = omega (arith, h.0, h.1)
ends_above low (c ∷ cs) (suc i) d h lt = omega (arith, h.0, h.1, ends_above (c.upto + 1) cs i d h.2 (omega (arith, lt)))

-- they end one above the other
pub ends_rise : (low : ℕ) (cs : List Cascade) → CascadesAscend low cs → IsNonDecreasingBy (λ c. c.upto) cs
ends_rise low [] h i j d le lt = absurd (omega (arith, lt))
ends_rise low (c ∷ cs) h zero zero d le lt = omega arith
ends_rise low (c ∷ cs) h zero (suc j) d le lt = omega (arith, ends_above (c.upto + 1) cs j d h.2 (omega (arith, lt)))
ends_rise low (c ∷ cs) h (suc i) zero d le lt = absurd (omega (arith, le))
ends_rise low (c ∷ cs) h (suc i) (suc j) d le lt = ends_rise (c.upto + 1) cs h.2 i j d (omega (arith, le)) (omega (arith, lt))

one_more : (b : Bool) (c : Cascade) (rest : Option Cascade) (r : Bool) → r ≡ is_some rest → (b || r) ≡ is_some (cond b (Some c) rest)
one_more true c rest r h = refl
one_more false c rest r h = h

pub aborted_found : (k : ℕ) (cs : List Cascade) → is_aborted k cs ≡ is_some (find (covers k) cs)
aborted_found k [] = refl
aborted_found k (c ∷ cs) = one_more (covers k c) c (find (covers k) cs) (list_any (covers k) cs) (aborted_found k cs)

pub copied_some : {X : Type 0} (r : Option (Bor X)) → is_some r ≡ is_some (option_copied r)
copied_some None = refl
copied_some (Some x) = refl
