-- A hand with one part less or more: it fits the states that it fitted, and has places for all.
use Rattle.std.proofs.Common.{◌≡◌, ℕ, zero, suc, ◌+◌, ◌-◌, ◌<◌, ◌≤◌, nat_lt, Bool, true, false, option_map, Option, Some, None, List, [], ◌∷◌, length, map, replicate, slice_get, slice_set, refl, sym, ap, subst, ◌∙◌, arith}
use Rattle.std.proofs.lemmas.Bool.{ltb-true, ltb-false}
use Rattle.std.proofs.lemmas.List.{length-set}
use Rattle.std.proofs.lemmas.Option.{slice_get_within}
use Rattle.aml_slice.specs.Controls.{Rest}
use Rattle.core_rows.specs.book_part.Halves.{Shows}
use Rattle.core_rows.specs.log_set.Shown.{ShowsLog}
use Rattle.core_rows.specs.log_set.Logs.{LogList}
use Rattle.protocol.specs.Fixed.{Fixed}
use Rattle.protocol.specs.Parts.{Log, Cell, Machine}
use Rattle.snap_hand.specs.Hands.{Parts, Fits, IsHandOf}
use Rattle.snap_hand.specs.Shown.{Shown, TheRing, TheBook, ThePost, TheDesk, TheLog, TheCell, no_parts, part_at, without, without_behind, with_part, Belongs, IsPartOf}
use Rattle.snap_hand.proofs.Numbered.{Stands, AtRing, AtBook, AtPost, AtDesk, AtLog, AtCell, stands, none_shown, without_log_behind, without_cell_behind}

some_is : {X : Type 0} {x y : X} → Some x ≡ Some y → x ≡ y
some_is h = cc h

-- ---- a hand with no part

not_there : {X : Type 0} (n i : ℕ) (x : X) → slice_get (replicate n None) i ≡ Some (Some x) → ⊥
not_there zero i x h = cc h
not_there (suc n) zero x h = cc h
not_there (suc n) (suc i) x h = not_there n i x h

pub nothing_fits : (logs cells : ℕ) (s : Machine Rest) → Fits (no_parts logs cells) s
nothing_fits logs cells s = record {
  ring = λ x e. absurd (cc e);
  book = λ x e. absurd (cc e);
  post = λ x e. absurd (cc e);
  desk = λ x e. absurd (cc e);
  logs = λ l x e. absurd (not_there logs l x e);
  cells = λ a x e. absurd (not_there cells a x e);
}

abbrev pub none_with : List (Option LogList) → List (Option (Cell Rest)) → Parts
none_with ls cs = record { ring = None; book = None; post = None; desk = None; logs = ls; cells = cs }

pub none_is : {A B : Type 0} (f : A → LogList) (g : B → Cell Rest) (ls : List (Option A)) (cs : List (Option B)) (n m : ℕ)
    → ls ≡ replicate n None → cs ≡ replicate m None → none_with (map (option_map f) ls) (map (option_map g) cs) ≡ no_parts n m
none_is f g ls cs n m logs cells =
    ap (λ xs. none_with xs (map (option_map g) cs)) (ap (map (option_map f)) logs ∙ none_shown f n)
    ∙ ap (λ xs. none_with (replicate n None) xs) (ap (map (option_map g)) cells ∙ none_shown g m)

-- ---- one part less

not_taken : {X : Type 0} (xs : List (Option X)) (i j : ℕ) (x : X) → slice_get (slice_set xs i None) j ≡ Some (Some x) → slice_get xs j ≡ Some (Some x)
not_taken [] i j x h = absurd (cc h)
not_taken (o ∷ xs) zero zero x h = absurd (cc h)
not_taken (o ∷ xs) zero (suc j) x h = h
not_taken (o ∷ xs) (suc i) zero x h = h
not_taken (o ∷ xs) (suc i) (suc j) x h = not_taken xs i j x h

fits_behind : (h : Parts) (s : Machine Rest) (i : ℕ) (b : Bool) → nat_lt i (length h.logs) ≡ b → Fits h s → Fits (without_behind i h) s
fits_behind h s i true lt f = subst (λ z. Fits z s) (sym (without_log_behind h i (ltb-true i (length h.logs) lt))) (record {
  ring = f.ring;
  book = f.book;
  post = f.post;
  desk = f.desk;
  logs = λ l x e. f.logs l x (not_taken h.logs i l x e);
  cells = f.cells;
})
fits_behind h s i false lt f = subst (λ z. Fits z s) (sym (without_cell_behind h i (ltb-false i (length h.logs) lt))) (record {
  ring = f.ring;
  book = f.book;
  post = f.post;
  desk = f.desk;
  logs = f.logs;
  cells = λ a x e. f.cells a x (not_taken h.cells (i - length h.logs) a x e);
})

pub fits_without : (h : Parts) (s : Machine Rest) (i : ℕ) → Fits h s → Fits (without i h) s
fits_without h s zero f = record { ring = λ x e. absurd (cc e); book = f.book; post = f.post; desk = f.desk; logs = f.logs; cells = f.cells }
fits_without h s (suc zero) f = record { ring = f.ring; book = λ x e. absurd (cc e); post = f.post; desk = f.desk; logs = f.logs; cells = f.cells }
fits_without h s (suc (suc zero)) f = record { ring = f.ring; book = f.book; post = λ x e. absurd (cc e); desk = f.desk; logs = f.logs; cells = f.cells }
fits_without h s (suc (suc (suc zero))) f = record { ring = f.ring; book = f.book; post = f.post; desk = λ x e. absurd (cc e); logs = f.logs; cells = f.cells }
fits_without h s (suc (suc (suc (suc i)))) f = fits_behind h s i (nat_lt i (length h.logs)) refl f

places_behind : (w : Fixed Rest) (h : Parts) (i : ℕ) (b : Bool) → nat_lt i (length h.logs) ≡ b → IsHandOf w h → IsHandOf w (without_behind i h)
places_behind w h i true lt is = subst (IsHandOf w) (sym (without_log_behind h i (ltb-true i (length h.logs) lt)))
    (record { logs = length-set h.logs i None ∙ is.logs; cells = is.cells; room = is.room })
places_behind w h i false lt is = subst (IsHandOf w) (sym (without_cell_behind h i (ltb-false i (length h.logs) lt)))
    (record { logs = is.logs; cells = length-set h.cells (i - length h.logs) None ∙ is.cells; room = is.room })

pub places_stay_without : (w : Fixed Rest) (h : Parts) (i : ℕ) → IsHandOf w h → IsHandOf w (without i h)
places_stay_without w h zero is = record { logs = is.logs; cells = is.cells; room = is.room }
places_stay_without w h (suc zero) is = record { logs = is.logs; cells = is.cells; room = λ x e. absurd (cc e) }
places_stay_without w h (suc (suc zero)) is = record { logs = is.logs; cells = is.cells; room = is.room }
places_stay_without w h (suc (suc (suc zero))) is = record { logs = is.logs; cells = is.cells; room = is.room }
places_stay_without w h (suc (suc (suc (suc i)))) is = places_behind w h i (nat_lt i (length h.logs)) refl is

-- ---- one part more

-- what is so of what was put, and of what was there, is so of all
filled : {X : Type 0} (Q : ℕ → X → Type 0) (xs : List (Option X)) (i : ℕ) (x : X) → Q i x → ((j : ℕ) (y : X) → slice_get xs j ≡ Some (Some y) → Q j y)
    → (j : ℕ) (y : X) → slice_get (slice_set xs i (Some x)) j ≡ Some (Some y) → Q j y
filled Q [] i x here there j y h = absurd (cc h)
filled Q (o ∷ xs) zero x here there zero y h = subst (Q zero) (some_is (some_is h)) here
filled Q (o ∷ xs) zero x here there (suc j) y h = there (suc j) y h
filled Q (o ∷ xs) (suc i) x here there zero y h = there zero y h
filled Q (o ∷ xs) (suc i) x here there (suc j) y h = filled (λ k z. Q (suc k) z) xs i x here (λ k z e. there (suc k) z e) j y h

pub fits_with : (w : Fixed Rest) (h : Parts) (s : Machine Rest) (i : ℕ) (p : Shown) → IsHandOf w h → Fits h s → IsPartOf w s i p → Fits (with_part i p h) s
fits_with w h s i (TheRing x) is f of = record { ring = λ y e. of.1 ∙ some_is e; book = f.book; post = f.post; desk = f.desk; logs = f.logs; cells = f.cells }
fits_with w h s i (TheBook x) is f of = record { ring = f.ring; book = λ y e. subst (λ z. Shows z s.book) (some_is e) of.1.0; post = f.post; desk = f.desk; logs = f.logs; cells = f.cells }
fits_with w h s i (ThePost x) is f of = record { ring = f.ring; book = f.book; post = λ y e. of.1 ∙ some_is e; desk = f.desk; logs = f.logs; cells = f.cells }
fits_with w h s i (TheDesk x) is f of = record { ring = f.ring; book = f.book; post = f.post; desk = λ y e. of.1 ∙ some_is e; logs = f.logs; cells = f.cells }
fits_with w h s i (TheLog x) is f of = record {
  ring = f.ring;
  book = f.book;
  post = f.post;
  desk = f.desk;
  logs = filled (λ l z. (y : Log) × ((slice_get s.logs l ≡ Some y) × ShowsLog z y)) h.logs (i - 4) x of.1 f.logs;
  cells = f.cells;
}
fits_with w h s i (TheCell x) is f of = record {
  ring = f.ring;
  book = f.book;
  post = f.post;
  desk = f.desk;
  logs = f.logs;
  cells = filled (λ a z. slice_get s.cells a ≡ Some z) h.cells (i - (4 + length h.logs)) x (subst (λ n. slice_get s.cells (i - (4 + n)) ≡ Some x) (sym is.logs) of.1) f.cells;
}

pub places_stay_with : (w : Fixed Rest) (h : Parts) (s : Machine Rest) (i : ℕ) (p : Shown) → IsHandOf w h → IsPartOf w s i p → IsHandOf w (with_part i p h)
places_stay_with w h s i (TheRing x) is of = record { logs = is.logs; cells = is.cells; room = is.room }
places_stay_with w h s i (TheBook x) is of = record { logs = is.logs; cells = is.cells; room = λ y e. subst (λ z. length w.text.txs ≤ z.most) (some_is e) of.1.1 }
places_stay_with w h s i (ThePost x) is of = record { logs = is.logs; cells = is.cells; room = is.room }
places_stay_with w h s i (TheDesk x) is of = record { logs = is.logs; cells = is.cells; room = is.room }
places_stay_with w h s i (TheLog x) is of = record { logs = length-set h.logs (i - 4) (Some x) ∙ is.logs; cells = is.cells; room = is.room }
places_stay_with w h s i (TheCell x) is of = record { logs = is.logs; cells = length-set h.cells (i - (4 + length h.logs)) (Some x) ∙ is.cells; room = is.room }

pub belongs : (w : Fixed Rest) (h : Parts) (s : Machine Rest) (i : ℕ) (p : Shown) → IsHandOf w h → IsPartOf w s i p → Belongs h i p
belongs w h s i (TheRing x) is of = of.0
belongs w h s i (TheBook x) is of = of.0
belongs w h s i (ThePost x) is of = of.0
belongs w h s i (TheDesk x) is of = of.0
belongs w h s i (TheLog x) is of = subst (λ n. (4 ≤ i) × (i < 4 + n)) (sym is.logs) of.0
belongs w h s i (TheCell x) is of =
    subst (λ m. (4 + length h.logs ≤ i) × (i < 4 + length h.logs + m)) (sym is.cells) (subst (λ n. (4 + n ≤ i) × (i < 4 + n + length w.text.opening.states)) (sym is.logs) of.0)

-- ---- a part of a hand is one of the state

part_of : (w : Fixed Rest) (h : Parts) (s : Machine Rest) (i : ℕ) (p : Shown) → IsHandOf w h → Fits h s → Stands h i p → IsPartOf w s i p
part_of w h s i p is f (AtRing x at there same) = subst (IsPartOf w s i) (sym same) (at, f.ring x there)
part_of w h s i p is f (AtBook x at there same) = subst (IsPartOf w s i) (sym same) (at, (f.book x there, is.room x there))
part_of w h s i p is f (AtPost x at there same) = subst (IsPartOf w s i) (sym same) (at, f.post x there)
part_of w h s i p is f (AtDesk x at there same) = subst (IsPartOf w s i) (sym same) (at, f.desk x there)
part_of w h s i p is f (AtLog l x at within there same) =
    let less : l < w.text.logs = subst (λ n. l < n) is.logs within in
    let e : l ≡ i - 4 = omega (arith, at) in
    subst (IsPartOf w s i) (sym same) (
      (omega (arith, at), omega (arith, at, less)),
      subst (λ n. (y : Log) × ((slice_get s.logs n ≡ Some y) × ShowsLog x y)) e (f.logs l x there),
    )
part_of w h s i p is f (AtCell a x at there same) =
    let less : a < length w.text.opening.states = subst (λ n. a < n) is.cells (slice_get_within h.cells a (Some x) there) in
    let at_text : i ≡ 4 + w.text.logs + a = subst (λ n. i ≡ 4 + n + a) is.logs at in
    let e : a ≡ i - (4 + w.text.logs) = omega (arith, at_text) in
    subst (IsPartOf w s i) (sym same) (
      (omega (arith, at_text), omega (arith, at_text, less)),
      subst (λ n. slice_get s.cells n ≡ Some x) e (f.cells a x there),
    )

pub taken_is_of_state : (w : Fixed Rest) (h : Parts) (s : Machine Rest) (i : ℕ) (p : Shown) → IsHandOf w h → Fits h s → part_at h i ≡ Some p → IsPartOf w s i p
taken_is_of_state w h s i p is f there = part_of w h s i p is f (stands h i p there)
