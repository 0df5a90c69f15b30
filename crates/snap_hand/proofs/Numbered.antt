-- Parts by their numbers: what is taken out of a place of a list, and put into one.
use Rattle.std.proofs.Common.{◌≡◌, ℕ, zero, suc, ◌+◌, ◌-◌, ◌<◌, ◌≤◌, nat_lt, if◌then◌else◌, Bool, true, false, get_or, option_map, Option, Some, None, is_some, List, [], ◌∷◌, ◌++◌, length, map, replicate, slice_get, slice_set, refl, sym, ap, subst, ◌∙◌, arith}
use Rattle.std.specs.Option.{option_flatten}
use Rattle.std.proofs.lemmas.Bool.{lt-ltb, le-ltb, ltb-true, ltb-false}
use Rattle.std.proofs.lemmas.List.{length-map, map-set, set-append_left, set-append_right}
use Rattle.std.proofs.lemmas.Option.{slice_get_past, slice_get_read}
use Rattle.snap_base.proofs.Lists.{get_left, get_behind}
use Rattle.snap_base.proofs.Options.{is_some_map}
use Rattle.aml_slice.specs.Controls.{Rest}
use Rattle.core_rows.specs.book_part.Halves.{Halves}
use Rattle.core_rows.specs.log_set.Logs.{LogList}
use Rattle.protocol.specs.Parts.{Ring, Post, Desk, Cell}
use Rattle.snap_hand.specs.Hands.{Parts, are_there}
use Rattle.snap_hand.specs.Shown.{Shown, TheRing, TheBook, ThePost, TheDesk, TheLog, TheCell, places, part_at, without, without_behind, with_part, Belongs}
use Rattle.snap_hand.proofs.InLists.{behind_four}
use Rattle.snap_hand.proofs.Refits.{same_back}

-- ---- places that show something

module _ {X Y Z : Type 0} (f : X → Y) (g : Y → Z) where
  pub twice : (o : Option X) → option_map g (option_map f o) ≡ option_map (λ x. g (f x)) o
  twice None = refl
  twice (Some x) = refl

  taken_at : (xs : List (Option X)) (i : ℕ) (o : Option X) → slice_get xs i ≡ Some o
      → option_map (λ x. g (f x)) o ≡ option_flatten (slice_get (map (option_map g) (map (option_map f) xs)) i)
  taken_at [] i o h = absurd (cc h)
  taken_at (x ∷ xs) zero o h = ap (option_map (λ z. g (f z))) (sym (cc h)) ∙ sym (twice x)
  taken_at (x ∷ xs) (suc i) o h = taken_at xs i o h

  -- what is read in a place, as it shows
  pub taken_read : (xs : List (Option X)) (i : ℕ) (o : Option X) → i < length (map (option_map f) xs) → o ≡ get_or xs i o
      → option_map (λ x. g (f x)) o ≡ option_flatten (slice_get (map (option_map g) (map (option_map f) xs)) i)
  taken_read xs i o within is = taken_at xs i o (slice_get_read xs (length xs) i o refl (subst (λ n. i < n) (length-map xs (option_map f)) within) is)

pub none_past : {Y Z : Type 0} (g : Y → Z) (ys : List (Option Y)) (i : ℕ) → length ys ≤ i → None ≡ option_flatten (slice_get (map (option_map g) ys) i)
none_past g ys i past = ap option_flatten (sym (slice_get_past (map (option_map g) ys) i (subst (λ n. n ≤ i) (sym (length-map ys (option_map g))) past)))

pub none_shown : {X Y : Type 0} (f : X → Y) (n : ℕ) → map (option_map f) (replicate n None) ≡ replicate n None
none_shown f zero = refl
none_shown f (suc n) = ap (λ os. None ∷ os) (none_shown f n)

-- what shows in a place is there
shown_there : {Y Z : Type 0} (g : Y → Z) (ys : List (Option Y)) (i : ℕ) (z : Z) → option_flatten (slice_get (map (option_map g) ys) i) ≡ Some z
    → (y : Y) × ((slice_get ys i ≡ Some (Some y)) × (z ≡ g y))
shown_there g [] i z h = absurd (cc h)
shown_there g (None ∷ ys) zero z h = absurd (cc h)
shown_there g (Some y ∷ ys) zero z h = (y, (refl, cc h))
shown_there g (o ∷ ys) (suc i) z h = shown_there g ys i z h

one_there : {Y Z : Type 0} (g : Y → Z) (o : Option Y) (z : Z) → option_map g o ≡ Some z → (y : Y) × ((o ≡ Some y) × (z ≡ g y))
one_there g None z h = absurd (cc h)
one_there g (Some y) z h = (y, (refl, cc h))

-- ---- where a part stands

pub data Stands (h : Parts) (i : ℕ) (p : Shown) : Type 0 where
  AtRing : (x : Ring) → i ≡ 0 → h.ring ≡ Some x → p ≡ TheRing x → Stands h i p
  AtBook : (x : Halves) → i ≡ 1 → h.book ≡ Some x → p ≡ TheBook x → Stands h i p
  AtPost : (x : Post Rest) → i ≡ 2 → h.post ≡ Some x → p ≡ ThePost x → Stands h i p
  AtDesk : (x : Desk) → i ≡ 3 → h.desk ≡ Some x → p ≡ TheDesk x → Stands h i p
  AtLog : (l : ℕ) (x : LogList) → i ≡ 4 + l → l < length h.logs → slice_get h.logs l ≡ Some (Some x) → p ≡ TheLog x → Stands h i p
  AtCell : (a : ℕ) (x : Cell Rest) → i ≡ 4 + length h.logs + a → slice_get h.cells a ≡ Some (Some x) → p ≡ TheCell x → Stands h i p

abbrev log_places : Parts → List (Option Shown)
log_places h = map (option_map (λ x. TheLog x)) h.logs

abbrev cell_places : Parts → List (Option Shown)
cell_places h = map (option_map (λ x. TheCell x)) h.cells

log_count : (h : Parts) → length (log_places h) ≡ length h.logs
log_count h = length-map h.logs (option_map (λ x. TheLog x))

stands_behind : (h : Parts) (i n : ℕ) (p : Shown) → n ≡ 4 + i → (b : Bool) → nat_lt i (length h.logs) ≡ b → option_flatten (slice_get (log_places h ++ cell_places h) i) ≡ Some p → Stands h n p
stands_behind h i n p at true lt is =
    let here = shown_there (λ x. TheLog x) h.logs i p
    (ap option_flatten (sym (get_left (log_places h) (cell_places h) i (subst (λ m. i < m) (sym (log_count h)) (ltb-true i (length h.logs) lt)))) ∙ is) in
    AtLog i here.0 at (ltb-true i (length h.logs) lt) here.1.0 here.1.1
stands_behind h i n p at false lt is =
    let le : length h.logs ≤ i = ltb-false i (length h.logs) lt in
    let here = shown_there (λ x. TheCell x) h.cells (i - length h.logs) p
    (ap option_flatten (sym (get_behind (log_places h) (cell_places h) (i - length h.logs) i
    (let e : i ≡ length h.logs + (i - length h.logs) = omega (arith, le) in e ∙ ap (λ m. m + (i - length h.logs)) (sym (log_count h))))) ∙ is) in
    AtCell (i - length h.logs) here.0 (let e : n ≡ 4 + length h.logs + (i - length h.logs) = omega (arith, le, at) in e) here.1.0 here.1.1

pub stands : (h : Parts) (i : ℕ) (p : Shown) → part_at h i ≡ Some p → Stands h i p
stands h zero p is = let here = one_there (λ x. TheRing x) h.ring p is in AtRing here.0 refl here.1.0 here.1.1
stands h (suc zero) p is = let here = one_there (λ x. TheBook x) h.book p is in AtBook here.0 refl here.1.0 here.1.1
stands h (suc (suc zero)) p is = let here = one_there (λ x. ThePost x) h.post p is in AtPost here.0 refl here.1.0 here.1.1
stands h (suc (suc (suc zero))) p is = let here = one_there (λ x. TheDesk x) h.desk p is in AtDesk here.0 refl here.1.0 here.1.1
stands h (suc (suc (suc (suc i)))) p is = stands_behind h i (suc (suc (suc (suc i)))) p (omega arith) (nat_lt i (length h.logs)) refl is

-- ---- the hand without a part

pub without_log_behind : (h : Parts) (l : ℕ) → l < length h.logs → without_behind l h ≡ record h { logs = slice_set h.logs l None }
without_log_behind h l within =
    ap (λ b. if b then record h { logs = slice_set h.logs l None } else record h { cells = slice_set h.cells (l - length h.logs) None }) (lt-ltb l (length h.logs) within)

pub without_cell_behind : (h : Parts) (i : ℕ) → length h.logs ≤ i → without_behind i h ≡ record h { cells = slice_set h.cells (i - length h.logs) None }
without_cell_behind h i past =
    ap (λ b. if b then record h { logs = slice_set h.logs i None } else record h { cells = slice_set h.cells (i - length h.logs) None }) (le-ltb i (length h.logs) past)

pub without_from_four : (h : Parts) (i : ℕ) → 4 ≤ i → without i h ≡ without_behind (i - 4) h
without_from_four h zero four = absurd (omega (arith, four))
without_from_four h (suc zero) four = absurd (omega (arith, four))
without_from_four h (suc (suc zero)) four = absurd (omega (arith, four))
without_from_four h (suc (suc (suc zero))) four = absurd (omega (arith, four))
without_from_four h (suc (suc (suc (suc i)))) four = ap (λ n. without_behind n h) (let e : i ≡ suc (suc (suc (suc i))) - 4 = omega arith in e)

pub part_from_four : (h : Parts) (i : ℕ) → 4 ≤ i → part_at h i ≡ option_flatten (slice_get (map (option_map (λ x. TheLog x)) h.logs ++ map (option_map (λ x. TheCell x)) h.cells) (i - 4))
part_from_four h i four =
    ap option_flatten (behind_four (option_map (λ x. TheRing x) h.ring) (option_map (λ x. TheBook x) h.book) (option_map (λ x. ThePost x) h.post) (option_map (λ x. TheDesk x) h.desk)
    (map (option_map (λ x. TheLog x)) h.logs ++ map (option_map (λ x. TheCell x)) h.cells) (i - 4) i (let e : i ≡ 4 + (i - 4) = omega (arith, four) in e))

pub without_log : (h : Parts) (i l : ℕ) → i ≡ 4 + l → l < length h.logs → without i h ≡ record h { logs = slice_set h.logs l None }
without_log h i l at within =
    without_from_four h i (omega (arith, at)) ∙ (ap (λ n. without_behind n h) (let e : i - 4 ≡ l = omega (arith, at) in e) ∙ without_log_behind h l within)

pub without_cell : (h : Parts) (i a : ℕ) → i ≡ 4 + length h.logs + a → without i h ≡ record h { cells = slice_set h.cells a None }
without_cell h i a at =
    without_from_four h i (omega (arith, at))
    ∙ (without_cell_behind h (i - 4) (let e : length h.logs ≤ i - 4 = omega (arith, at) in e)
    ∙ ap (λ n. record h { cells = slice_set h.cells n None }) (let e : (i - 4) - length h.logs ≡ a = omega (arith, at) in e))

-- ---- what was taken is put back

back : (h : Parts) (i : ℕ) (p : Shown) → Stands h i p → with_part i p (without i h) ≡ h
back h i p (AtRing x at is same) =
    ap (λ q. with_part i q (without i h)) same ∙ (ap (λ n. record (without n h) { ring = Some x }) at ∙ ap (λ o. record h { ring = o }) (sym is))
back h i p (AtBook x at is same) =
    ap (λ q. with_part i q (without i h)) same ∙ (ap (λ n. record (without n h) { book = Some x }) at ∙ ap (λ o. record h { book = o }) (sym is))
back h i p (AtPost x at is same) =
    ap (λ q. with_part i q (without i h)) same ∙ (ap (λ n. record (without n h) { post = Some x }) at ∙ ap (λ o. record h { post = o }) (sym is))
back h i p (AtDesk x at is same) =
    ap (λ q. with_part i q (without i h)) same ∙ (ap (λ n. record (without n h) { desk = Some x }) at ∙ ap (λ o. record h { desk = o }) (sym is))
back h i p (AtLog l x at within is same) =
    ap (λ q. with_part i q (without i h)) same
    ∙ (ap (with_part i (TheLog x)) (without_log h i l at within)
    ∙ (ap (λ n. record h { logs = slice_set (slice_set h.logs l None) n (Some x) }) (let e : i - 4 ≡ l = omega (arith, at) in e)
    ∙ ap (λ ls. record h { logs = ls }) (same_back h.logs l (Some x) None is)))
back h i p (AtCell a x at is same) =
    ap (λ q. with_part i q (without i h)) same
    ∙ (ap (with_part i (TheCell x)) (without_cell h i a at)
    ∙ (ap (λ n. record h { cells = slice_set (slice_set h.cells a None) n (Some x) }) (let e : i - (4 + length h.logs) ≡ a = omega (arith, at) in e)
    ∙ ap (λ cs. record h { cells = cs }) (same_back h.cells a (Some x) None is)))

pub put_back : (h : Parts) (i : ℕ) (p : Shown) → part_at h i ≡ Some p → with_part i p (without i h) ≡ h
put_back h i p is = back h i p (stands h i p is)

-- ---- the places of a hand with a part and without it

set_behind_four : {X : Type 0} (a b c d : X) (xs : List X) (i n : ℕ) (v : X) → n ≡ 4 + i → slice_set (a ∷ b ∷ c ∷ d ∷ xs) n v ≡ a ∷ b ∷ c ∷ d ∷ slice_set xs i v
set_behind_four a b c d xs i zero v e = absurd (omega (arith, e))
set_behind_four a b c d xs i (suc zero) v e = absurd (omega (arith, e))
set_behind_four a b c d xs i (suc (suc zero)) v e = absurd (omega (arith, e))
set_behind_four a b c d xs i (suc (suc (suc zero))) v e = absurd (omega (arith, e))
set_behind_four a b c d xs i (suc (suc (suc (suc n)))) v e = ap (λ m. a ∷ b ∷ c ∷ d ∷ slice_set xs m v) (omega (arith, e))

abbrev four_places : Parts → List (Option Shown) → List (Option Shown)
four_places h xs = option_map (λ x. TheRing x) h.ring ∷ option_map (λ x. TheBook x) h.book ∷ option_map (λ x. ThePost x) h.post ∷ option_map (λ x. TheDesk x) h.desk ∷ xs

set_from_four : (h : Parts) (xs : List (Option Shown)) (i n : ℕ) (v : Option Shown) → n ≡ 4 + i → four_places h (slice_set xs i v) ≡ slice_set (four_places h xs) n v
set_from_four h xs i n v at =
    sym (set_behind_four (option_map (λ x. TheRing x) h.ring) (option_map (λ x. TheBook x) h.book) (option_map (λ x. ThePost x) h.post) (option_map (λ x. TheDesk x) h.desk) xs i n v at)

-- a log, and a cell, in its place
log_in_place : (h : Parts) (l n : ℕ) (o : Option LogList) → n ≡ 4 + l → l < length h.logs
    → places (record h { logs = slice_set h.logs l o }) ≡ slice_set (places h) n (option_map (λ x. TheLog x) o)
log_in_place h l n o at within =
    ap (λ xs. four_places h (xs ++ cell_places h)) (map-set (option_map (λ x. TheLog x)) h.logs l o)
    ∙ (ap (four_places h) (sym (set-append_left (log_places h) (cell_places h) l (option_map (λ x. TheLog x) o) (subst (λ m. l < m) (sym (log_count h)) within)))
    ∙ set_from_four h (log_places h ++ cell_places h) l n (option_map (λ x. TheLog x) o) at)

cell_in_place : (h : Parts) (a n : ℕ) (o : Option (Cell Rest)) → n ≡ 4 + length h.logs + a
    → places (record h { cells = slice_set h.cells a o }) ≡ slice_set (places h) n (option_map (λ x. TheCell x) o)
cell_in_place h a n o at =
    ap (λ xs. four_places h (log_places h ++ xs)) (map-set (option_map (λ x. TheCell x)) h.cells a o)
    ∙ (ap (λ m. four_places h (log_places h ++ slice_set (cell_places h) m (option_map (λ x. TheCell x) o))) (let e : a ≡ (length h.logs + a) - length h.logs = omega arith in e)
    ∙ (ap (four_places h) (sym (set-append_right (log_places h) (cell_places h) (length h.logs) (length h.logs + a) (option_map (λ x. TheCell x) o) (log_count h) (let e : length h.logs ≤ length h.logs + a = omega arith in e)))
    ∙ set_from_four h (log_places h ++ cell_places h) (length h.logs + a) n (option_map (λ x. TheCell x) o) (omega (arith, at))))

pub places_with : (h : Parts) (i : ℕ) (p : Shown) → Belongs h i p → places (with_part i p h) ≡ slice_set (places h) i (Some p)
places_with h i (TheRing x) at = ap (λ n. slice_set (places h) n (Some (TheRing x))) (sym at)
places_with h i (TheBook x) at = ap (λ n. slice_set (places h) n (Some (TheBook x))) (sym at)
places_with h i (ThePost x) at = ap (λ n. slice_set (places h) n (Some (ThePost x))) (sym at)
places_with h i (TheDesk x) at = ap (λ n. slice_set (places h) n (Some (TheDesk x))) (sym at)
places_with h i (TheLog x) at = log_in_place h (i - 4) i (Some x) (let e : i ≡ 4 + (i - 4) = omega (arith, at.0) in e) (let e : i - 4 < length h.logs = omega (arith, at.0, at.1) in e)
places_with h i (TheCell x) at = cell_in_place h (i - (4 + length h.logs)) i (Some x) (let e : i ≡ 4 + length h.logs + (i - (4 + length h.logs)) = omega (arith, at.0) in e)

places_behind : (h : Parts) (i n : ℕ) → n ≡ 4 + i → (b : Bool) → nat_lt i (length h.logs) ≡ b → places (without_behind i h) ≡ slice_set (places h) n None
places_behind h i n at true lt =
    ap places (without_log_behind h i (ltb-true i (length h.logs) lt)) ∙ log_in_place h i n None at (ltb-true i (length h.logs) lt)
places_behind h i n at false lt =
    let le : length h.logs ≤ i = ltb-false i (length h.logs) lt in
    ap places (without_cell_behind h i le) ∙ cell_in_place h (i - length h.logs) n None (let e : n ≡ 4 + length h.logs + (i - length h.logs) = omega (arith, at, le) in e)

pub places_without : (h : Parts) (i : ℕ) → places (without i h) ≡ slice_set (places h) i None
places_without h zero = refl
places_without h (suc zero) = refl
places_without h (suc (suc zero)) = refl
places_without h (suc (suc (suc zero))) = refl
places_without h (suc (suc (suc (suc i)))) = places_behind h i (suc (suc (suc (suc i)))) (omega arith) (nat_lt i (length h.logs)) refl

-- as tests, the places are those that tell which parts are there
there_shown : {Y Z : Type 0} (g : Y → Z) (ys : List (Option Y)) → map is_some (map (option_map g) ys) ≡ map is_some ys
there_shown g [] = refl
there_shown g (None ∷ ys) = ap (λ bs. false ∷ bs) (there_shown g ys)
there_shown g (Some y ∷ ys) = ap (λ bs. true ∷ bs) (there_shown g ys)

map_both : (ls cs : List (Option Shown)) (xs ys : List Bool) → map is_some ls ≡ xs → map is_some cs ≡ ys → map is_some (ls ++ cs) ≡ xs ++ ys
map_both [] cs xs ys front rest = rest ∙ ap (λ z. z ++ ys) front
map_both (o ∷ ls) cs xs ys front rest = ap (λ bs. is_some o ∷ bs) (map_both ls cs (map is_some ls) ys refl rest) ∙ ap (λ z. z ++ ys) front

pub places_tell : (h : Parts) → map is_some (places h) ≡ are_there h
places_tell h =
    let behind_four : map is_some (log_places h ++ cell_places h) ≡ map is_some h.logs ++ map is_some h.cells =
    map_both (log_places h) (cell_places h) (map is_some h.logs) (map is_some h.cells) (there_shown (λ x. TheLog x) h.logs) (there_shown (λ x. TheCell x) h.cells) in
    ap (λ b. b ∷ is_some (option_map (λ x. TheBook x) h.book) ∷ is_some (option_map (λ x. ThePost x) h.post) ∷ is_some (option_map (λ x. TheDesk x) h.desk) ∷ map is_some (log_places h ++ cell_places h)) (is_some_map (λ x. TheRing x) h.ring)
    ∙ (ap (λ b. is_some h.ring ∷ b ∷ is_some (option_map (λ x. ThePost x) h.post) ∷ is_some (option_map (λ x. TheDesk x) h.desk) ∷ map is_some (log_places h ++ cell_places h)) (is_some_map (λ x. TheBook x) h.book)
    ∙ (ap (λ b. is_some h.ring ∷ is_some h.book ∷ b ∷ is_some (option_map (λ x. TheDesk x) h.desk) ∷ map is_some (log_places h ++ cell_places h)) (is_some_map (λ x. ThePost x) h.post)
    ∙ (ap (λ b. is_some h.ring ∷ is_some h.book ∷ is_some h.post ∷ b ∷ map is_some (log_places h ++ cell_places h)) (is_some_map (λ x. TheDesk x) h.desk)
    ∙ ap (λ bs. is_some h.ring ∷ is_some h.book ∷ is_some h.post ∷ is_some h.desk ∷ bs) behind_four)))
