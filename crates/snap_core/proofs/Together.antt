-- The parts of a whole hand one after the other, and a hand that gets them back.
use Rattle.std.proofs.Common.{◌≡◌, ℕ, zero, suc, ◌+◌, ◌<◌, ◌≤◌, option_map, false, Option, Some, None, is_some, List, [], ◌∷◌, ◌++◌, length, map, take, drop, replicate, slice_get, slice_set, refl, sym, ap, subst, ◌∙◌, arith}
use Rattle.std.specs.Option.{option_flatten}
use Rattle.std.proofs.lemmas.List.{length-map, length-append}
use Rattle.std.proofs.lemmas.Option.{slice_get-map}
use Rattle.snap_base.proofs.Lists.{take_next, one_at}
use Rattle.snap_base.proofs.Options.{there_at}
use Rattle.aml_slice.specs.Controls.{Rest}
use Rattle.protocol.specs.Events.{Event}
use Rattle.protocol.specs.Fixed.{Fixed}
use Rattle.protocol.specs.Parts.{Machine}
use Rattle.snap_core.specs.Apart.{AreItsParts, ShowSomeRun}
use Rattle.snap_core.specs.Cores.{CoreState, IsCore, IsAt, state_at}
use Rattle.snap_hand.specs.Hands.{Parts, Fits, IsHandOf, IsWhole, are_there}
use Rattle.snap_hand.specs.Shown.{Shown, TheLog, TheCell, shown, AreAllParts, Belongs, IsPartOf, no_parts, part_at, places, with_part, without}
use Rattle.snap_hand.specs.Tables.{AreTables, fixed_of}
use Rattle.snap_hand.specs.declared.tables.Tables.{Tables}
use Rattle.snap_hand.specs.declared.parts.Part.{Part}

-- ---- lists

first_of : {X : Type 0} (xs : List X) (i : ℕ) → slice_get xs i ≡ slice_get (drop i xs) 0
first_of [] zero = refl
first_of [] (suc i) = refl
first_of (x ∷ xs) zero = refl
first_of (x ∷ xs) (suc i) = first_of xs i

same_first : {X : Type 0} (xs ys : List X) (i : ℕ) → drop i xs ≡ drop i ys → slice_get xs i ≡ slice_get ys i
same_first xs ys i same = first_of xs i ∙ (ap (λ zs. slice_get zs 0) same ∙ sym (first_of ys i))

drop_set : {X : Type 0} (xs : List X) (i : ℕ) (v : X) → drop (suc i) (slice_set xs i v) ≡ drop (suc i) xs
drop_set [] i v = refl
drop_set (x ∷ xs) zero v = refl
drop_set (x ∷ xs) (suc i) v = drop_set xs i v

one_less : {X : Type 0} (xs : List X) (i : ℕ) → drop (suc i) xs ≡ drop 1 (drop i xs)
one_less [] zero = refl
one_less [] (suc i) = refl
one_less (x ∷ xs) zero = refl
one_less (x ∷ xs) (suc i) = one_less xs i

drop_more : {X : Type 0} (xs ys : List X) (i : ℕ) → drop i xs ≡ drop i ys → drop (suc i) xs ≡ drop (suc i) ys
drop_more xs ys i same = one_less xs i ∙ (ap (drop 1) same ∙ sym (one_less ys i))

length_take : {X : Type 0} (xs : List X) (i : ℕ) → i ≤ length xs → length (take i xs) ≡ i
length_take xs zero h = refl
length_take [] (suc i) h = absurd (omega (arith, h))
length_take (x ∷ xs) (suc i) h = ap suc (length_take xs i (omega (arith, h)))

all_taken : {X : Type 0} (xs : List X) (n : ℕ) → n ≡ length xs → take n xs ≡ xs
all_taken [] zero e = refl
all_taken [] (suc n) e = absurd (omega (arith, e))
all_taken (x ∷ xs) zero e = absurd (omega (arith, e))
all_taken (x ∷ xs) (suc n) e = ap (λ zs. x ∷ zs) (all_taken xs n (omega (arith, e)))

-- ---- taken apart

-- all from the i-th place on are as they were
abbrev pub RestStands : Parts → ℕ → Parts → Type 0
RestStands whole i h = drop i (places h) ≡ drop i (places whole)

next_place : (whole h : Parts) (i : ℕ) → ((g : Parts) → map is_some (places g) ≡ are_there g) → IsWhole whole → i < length (places whole) → RestStands whole i h
    → (p : Shown) × (slice_get (places h) i ≡ Some (Some p))
next_place whole h i tells is within rest =
    let here = there_at (places whole) i within (λ e. is i (ap (λ bs. slice_get bs i) (sym (tells whole)) ∙ e)) in
    (here.0, same_first (places h) (places whole) i rest ∙ here.1)

pub next_there : (whole h : Parts) (i : ℕ) → ((g : Parts) → map is_some (places g) ≡ are_there g) → IsWhole whole → i < length (places whole) → RestStands whole i h
    → (p : Shown) × (part_at h i ≡ Some p)
next_there whole h i tells is within rest =
    let here = next_place whole h i tells is within rest in
    (here.0, ap option_flatten here.1)

pub next_taken : (whole h : Parts) (i j : ℕ) (old new : List Shown) → j ≡ i + 1 → ((g : Parts) → map is_some (places g) ≡ are_there g) → IsWhole whole → i < length (places whole) → RestStands whole i h
    → map Some old ≡ take i (places whole) → map Some new ≡ map Some old ++ part_at h i ∷ [] → map Some new ≡ take j (places whole)
next_taken whole h i j old new next tells is within rest taken pushed =
    let here = next_place whole h i tells is within rest in
    let j_is : suc i ≡ j = omega (arith, next) in
    pushed
    ∙ (ap (λ o. map Some old ++ o ∷ []) (ap option_flatten here.1)
    ∙ (ap (λ os. os ++ Some here.0 ∷ []) taken
    ∙ (sym (take_next (places whole) i (Some here.0) (sym (same_first (places h) (places whole) i rest) ∙ here.1))
    ∙ ap (λ n. take n (places whole)) j_is)))

pub next_rest : (whole h new : Parts) (i j : ℕ) → j ≡ i + 1 → ((g : Parts) (k : ℕ) → places (without k g) ≡ slice_set (places g) k None) → new ≡ without i h → RestStands whole i h → RestStands whole j new
next_rest whole h new i j next set is rest =
    let j_is : suc i ≡ j = omega (arith, next) in
    subst (λ n. RestStands whole n new) j_is
    (ap (λ g. drop (suc i) (places g)) is
    ∙ (ap (drop (suc i)) (set h i)
    ∙ (drop_set (places h) i None
    ∙ drop_more (places h) (places whole) i rest)))

pub all_taken_apart : (whole : Parts) (n : ℕ) (ps : List Shown) → n ≡ length (places whole) → map Some ps ≡ take n (places whole) → map Some ps ≡ places whole
all_taken_apart whole n ps all taken = taken ∙ all_taken (places whole) n all

-- ---- the parts of a hand are all parts of each state that it fits

behind_count : (h : Parts) → length (map (option_map (λ x. TheLog x)) h.logs ++ map (option_map (λ x. TheCell x)) h.cells) ≡ length h.logs + length h.cells
behind_count h =
    length-append (map (option_map (λ x. TheLog x)) h.logs) (map (option_map (λ x. TheCell x)) h.cells)
    ∙ (ap (λ n. n + length (map (option_map (λ x. TheCell x)) h.cells)) (length-map h.logs (option_map (λ x. TheLog x)))
    ∙ ap (λ n. length h.logs + n) (length-map h.cells (option_map (λ x. TheCell x))))

pub count_of : (w : Fixed Rest) (h : Parts) → IsHandOf w h → length (places h) ≡ 4 + w.text.logs + length w.text.opening.states
count_of w h is =
    let behind = behind_count h in
    let logs = is.logs in
    let cells = is.cells in
    let four : suc (suc (suc (suc (length h.logs + length h.cells)))) ≡ 4 + w.text.logs + length w.text.opening.states = omega (arith, logs, cells) in
    ap (λ n. suc (suc (suc (suc n)))) behind ∙ four

pub parts_of_state : (w : Fixed Rest) (h : Parts) (s : Machine Rest) (ps : List Shown)
    → ((v : Fixed Rest) (g : Parts) (t : Machine Rest) (i : ℕ) (p : Shown) → IsHandOf v g → Fits g t → part_at g i ≡ Some p → IsPartOf v t i p)
    → IsHandOf w h → Fits h s → map Some ps ≡ places h → AreAllParts w s ps
parts_of_state w h s ps each is f all = record {
  all = sym (length-map ps Some) ∙ (ap length all ∙ count_of w h is);
  each = λ i p there. each w h s i p is f (ap option_flatten (ap (λ os. slice_get os i) (sym all) ∙ (slice_get-map Some ps i ∙ ap (option_map Some) there)));
}

-- ---- put together

-- the places where all parts but the first so many are there
pub all_from : ℕ → List Shown → List (Option Shown)
all_from zero ps = map Some ps
all_from (suc n) [] = []
all_from (suc n) (p ∷ ps) = None ∷ all_from n ps

pub from_first : (ps : List Shown) → all_from 0 ps ≡ map Some ps
unfolding all_from
from_first ps = refl

from_none : (ps : List Shown) (n : ℕ) → n ≡ length ps → all_from n ps ≡ replicate n None
unfolding all_from
from_none [] zero e = refl
from_none [] (suc n) e = absurd (omega (arith, e))
from_none (p ∷ ps) zero e = absurd (omega (arith, e))
from_none (p ∷ ps) (suc n) e = ap (λ os. None ∷ os) (from_none ps n (omega (arith, e)))

free_at : (ps : List Shown) (k : ℕ) → k < length ps → slice_get (all_from (suc k) ps) k ≡ Some None
unfolding all_from
free_at [] k h = absurd (omega (arith, h))
free_at (p ∷ ps) zero h = refl
free_at (p ∷ ps) (suc k) h = free_at ps k (omega (arith, h))

one_set : (ps : List Shown) (k : ℕ) (p : Shown) → slice_get ps k ≡ Some p → slice_set (all_from (suc k) ps) k (Some p) ≡ all_from k ps
unfolding all_from
one_set [] k p h = absurd (cc h)
one_set (q ∷ ps) zero p h = ap (λ z. Some z ∷ map Some ps) (sym (cc h))
one_set (q ∷ ps) (suc k) p h = ap (λ os. None ∷ os) (one_set ps k p h)

none_behind : {X : Type 0} (f : X → Shown) (n : ℕ) → map (option_map f) (replicate n None) ≡ replicate n None
none_behind f zero = refl
none_behind f (suc n) = ap (λ os. None ∷ os) (none_behind f n)

none_both : (n m : ℕ) → replicate n None ++ replicate m None ≡ replicate {A = Option Shown} (n + m) None
none_both zero m = ap (λ k. replicate k None) (omega arith)
none_both (suc n) m = ap (λ os. None ∷ os) (none_both n m) ∙ ap (λ k. replicate k None) (let e : suc (n + m) ≡ suc n + m = omega arith in e)

none_places : (n m k : ℕ) → k ≡ 4 + n + m → places (no_parts n m) ≡ replicate k None
none_places n m k all =
    ap (λ os. None ∷ None ∷ None ∷ None ∷ (os ++ map (option_map (λ x. TheCell x)) (replicate m None))) (none_behind (λ x. TheLog x) n)
    ∙ (ap (λ os. None ∷ None ∷ None ∷ None ∷ (replicate n None ++ os)) (none_behind (λ x. TheCell x) m)
    ∙ (ap (λ os. None ∷ None ∷ None ∷ None ∷ os) (none_both n m)
    ∙ ap (λ j. replicate j None) (let e : suc (suc (suc (suc (n + m)))) ≡ k = omega (arith, all) in e)))

pub none_from : (n m : ℕ) (h : Parts) (ps : List Shown) → h ≡ no_parts n m → length ps ≡ 4 + n + m → places h ≡ all_from (length ps) ps
none_from n m h ps is all = ap places is ∙ (none_places n m (length ps) all ∙ sym (from_none ps (length ps) refl))

-- ---- a hand without parts

as_many : {X : Type 0} (n : ℕ) (x : X) → length (replicate n x) ≡ n
as_many zero x = refl
as_many (suc n) x = ap suc (as_many n x)

none_at : {X : Type 0} (n i : ℕ) (x : X) → slice_get (replicate n None) i ≡ Some (Some x) → ⊥
none_at zero i x e = cc e
none_at (suc n) zero x e = cc e
none_at (suc n) (suc i) x e = none_at n i x e

pub none_hand : (w : Fixed Rest) → IsHandOf w (no_parts w.text.logs (length w.text.opening.states))
none_hand w = record { logs = as_many w.text.logs None; cells = as_many (length w.text.opening.states) None; room = λ x e. absurd (cc e) }

take_none : {X : Type 0} (xs : List (Option X)) (i : ℕ) → i < length xs → take i xs ≡ replicate i None → take (suc i) (slice_set xs i None) ≡ replicate (suc i) None
take_none [] i h e = absurd (omega (arith, h))
take_none (x ∷ xs) zero h e = refl
take_none (x ∷ xs) (suc i) h e =
    let here : x ≡ None = cc e in
    let more : take i xs ≡ replicate i None = cc e in
    ap (λ o. o ∷ take (suc i) (slice_set xs i None)) here ∙ ap (λ os. None ∷ os) (take_none xs i (omega (arith, h)) more)

-- of the parts of a hand the first so many are out
abbrev pub AreOut : ℕ → Parts → Type 0
AreOut i h = take i (places h) ≡ replicate i None

pub next_out : (w : Fixed Rest) (h new : Parts) (i j n : ℕ) → j ≡ i + 1 → ((g : Parts) (k : ℕ) → places (without k g) ≡ slice_set (places g) k None) → new ≡ without i h
    → IsHandOf w h → i < n → n ≡ 4 + w.text.logs + length w.text.opening.states → AreOut i h → AreOut j new
next_out w h new i j n next set is hand within count out =
    let j_is : suc i ≡ j = omega (arith, next) in
    let less : i < length (places h) = omega (arith, count_of w h hand, within, count) in
    subst (λ k. AreOut k new) j_is (ap (λ g. take (suc i) (places g)) is ∙ (ap (take (suc i)) (set h i) ∙ take_none (places h) i less out))

pub all_out : ((g h : Parts) → length g.logs ≡ length h.logs → places g ≡ places h → g ≡ h)
    → (w : Fixed Rest) (h : Parts) (i : ℕ) → IsHandOf w h → i ≡ 4 + w.text.logs + length w.text.opening.states → AreOut i h → h ≡ no_parts w.text.logs (length w.text.opening.states)
all_out same w h i hand count out =
    let n = w.text.logs in
    let m = length w.text.opening.states in
    same h (no_parts n m) (hand.logs ∙ sym (as_many n None))
    (sym (all_taken (places h) i (count ∙ sym (count_of w h hand))) ∙ (out ∙ sym (none_places n m i count)))

-- what a hand is before the k-th part from the back is put
pub record MayGoOn (w : Fixed Rest) (all parts : List Part) (k : ℕ) (h : Parts) : Type 0 where
  pub left : parts ≡ take k all
  pub hand : IsHandOf w h
  pub fits : (s : Machine Rest) → AreAllParts w s (map shown all) → Fits h s
  pub stand : places h ≡ all_from k (map shown all)

-- the part that is put next, and those before it
pub record IsNext (all left : List Part) (k : ℕ) : Type 0 where
  pub part : Part
  pub last : left ≡ take k all ++ part ∷ []
  pub there : slice_get (map shown all) k ≡ Some (shown part)
  pub front : length (take k all) ≡ k
  pub within : k < length (map shown all)

pub next_is : (all left : List Part) (k n : ℕ) → n ≡ k + 1 → n ≤ length all → left ≡ take n all → IsNext all left k
next_is all left k n at within is =
    let k_is : n ≡ suc k = omega (arith, at) in
    let less : k < length all = omega (arith, at, within) in
    let here = one_at all k less in
    record {
      part = here.0;
      last = is ∙ (ap (λ m. take m all) k_is ∙ take_next all k here.0 here.1);
      there = slice_get-map shown all k ∙ ap (option_map shown) here.1;
      front = length_take all k (omega (arith, less));
      within = subst (λ m. k < m) (sym (length-map all shown)) less;
    }

pub may_put : (w : Fixed Rest) (all left : List Part) (k n : ℕ) (h : Parts) → n ≡ k + 1 → n ≤ length all
    → ((v : Fixed Rest) (g : Parts) (t : Machine Rest) (i : ℕ) (p : Shown) → IsHandOf v g → IsPartOf v t i p → Belongs g i p)
    → ShowSomeRun w (map shown all) → MayGoOn w all left n h
    → (front : List Part) × ((p : Part) × ((left ≡ front ++ p ∷ []) × (Belongs h (length front) (shown p) × (part_at h (length front) ≡ None))))
may_put w all left k n h at within belongs some may =
    let next = next_is all left k n at within may.left in
    let k_is : n ≡ suc k = omega (arith, at) in (
      take k all,
      (
        next.part,
        (
          next.last,
          (
            subst (λ i. Belongs h i (shown next.part)) (sym next.front) (belongs w h some.state k (shown next.part) may.hand (some.parts.each k (shown next.part) next.there)),
            ap (part_at h) next.front ∙ ap option_flatten (ap (λ os. slice_get os k) may.stand ∙ (ap (λ m. slice_get (all_from m (map shown all)) k) k_is ∙ free_at (map shown all) k next.within)),
          ),
        ),
      ),
    )

pub put_next : (w : Fixed Rest) (all left rest : List Part) (k n : ℕ) (h new : Parts) → n ≡ k + 1 → n ≤ length all
    → ((v : Fixed Rest) (g : Parts) (t : Machine Rest) (i : ℕ) (p : Shown) → IsHandOf v g → IsPartOf v t i p → Belongs g i p)
    → ((v : Fixed Rest) (g : Parts) (t : Machine Rest) (i : ℕ) (p : Shown) → IsHandOf v g → Fits g t → IsPartOf v t i p → Fits (with_part i p g) t)
    → ((v : Fixed Rest) (g : Parts) (t : Machine Rest) (i : ℕ) (p : Shown) → IsHandOf v g → IsPartOf v t i p → IsHandOf v (with_part i p g))
    → ((g : Parts) (i : ℕ) (p : Shown) → Belongs g i p → places (with_part i p g) ≡ slice_set (places g) i (Some p))
    → ShowSomeRun w (map shown all)
    → ((front : List Part) (p : Part) → left ≡ front ++ p ∷ [] → (rest ≡ front) × (new ≡ with_part (length front) (shown p) h))
    → MayGoOn w all left n h → MayGoOn w all rest k new
put_next w all left rest k n h new at within belongs fits stays sets some put may =
    let next = next_is all left k n at within may.left in
    let k_is : n ≡ suc k = omega (arith, at) in
    let done = put (take k all) next.part next.last in
    let p = shown next.part in
    let new_is : new ≡ with_part k p h = done.1 ∙ ap (λ i. with_part i p h) next.front in
    let of = some.parts.each k p next.there in
    record {
      left = done.0;
      hand = subst (IsHandOf w) (sym new_is) (stays w h some.state k p may.hand of);
      fits = λ s parts. subst (λ g. Fits g s) (sym new_is) (fits w h s k p may.hand (may.fits s parts) (parts.each k p next.there));
      stand =
          ap places new_is
          ∙ (sets h k p (belongs w h some.state k p may.hand of)
          ∙ (ap (λ os. slice_set os k (Some p)) may.stand
          ∙ (ap (λ m. slice_set (all_from m (map shown all)) k (Some p)) k_is ∙ one_set (map shown all) k p next.there)));
    }

-- ---- one core

pub one_core : ((g h : Parts) → length g.logs ≡ length h.logs → places g ≡ places h → g ≡ h)
    → (c d : CoreState) (ps : List Shown) → AreItsParts c ps → AreItsParts d ps → c.tables ≡ d.tables → c ≡ d
one_core same c d ps a b tables =
    ap (λ t. record { tables = t; hand = c.hand }) tables
    ∙ ap (λ h. record { tables = d.tables; hand = h })
    (same c.hand d.hand (a.hand.logs ∙ (ap (λ t. (fixed_of t).text.logs) tables ∙ sym b.hand.logs)) (sym a.all ∙ b.all))

-- ---- what a core is, and what its parts are of each run

-- all places of a hand are full, so it is whole
is_whole : (h : Parts) (ps : List Shown) → map is_some (places h) ≡ are_there h → places h ≡ map Some ps → IsWhole h
is_whole h ps tells is = λ i out. some_of ps i (ap (λ os. slice_get (map is_some os) i) (sym is) ∙ (ap (λ bs. slice_get bs i) tells ∙ out))
  where
    some_of : (qs : List Shown) (i : ℕ) → slice_get (map is_some (map Some qs)) i ≡ Some false → ⊥
    some_of [] i e = cc e
    some_of (q ∷ qs) zero e = cc e
    some_of (q ∷ qs) (suc i) e = some_of qs i e

pub core_of_parts : (t : Tables) (h : Parts) (ps : List Shown) → AreTables t → IsHandOf (fixed_of t) h → ((g : Parts) → map is_some (places g) ≡ are_there g)
    → places h ≡ map Some ps → ((s : Machine Rest) → AreAllParts (fixed_of t) s ps → Fits h s) → ShowSomeRun (fixed_of t) ps → IsCore t h
core_of_parts t h ps tables is tells full fits some = record {
  tables = tables;
  places = is;
  whole = is_whole h ps (tells h) full;
  some = record { state = some.state; run = some.run; fits = fits some.state some.parts };
}

abbrev pub core_with : Tables → Parts → CoreState
core_with t h = record { tables = t; hand = h }

module _ (t : Tables) (h : Parts) (ps : List Shown) (is : IsCore t h)
    (each : (v : Fixed Rest) (g : Parts) (s : Machine Rest) (i : ℕ) (p : Shown) → IsHandOf v g → Fits g s → part_at g i ≡ Some p → IsPartOf v s i p)
    (all : map Some ps ≡ places h) where
  pub parts_of_core : (core : CoreState) → core_with t h ≡ core → (es : List Event) → IsAt core es → AreAllParts (fixed_of core.tables) (state_at core es) ps
  parts_of_core core view = subst (λ z. (es : List Event) → IsAt z es → AreAllParts (fixed_of z.tables) (state_at z es) ps) view
      (λ es at. parts_of_state (fixed_of t) h (state_at (core_with t h) es) ps each is.places at.fits all)

  pub some_of_core : (core : CoreState) → core_with t h ≡ core → ShowSomeRun (fixed_of core.tables) ps
  some_of_core core view = subst (λ z. ShowSomeRun (fixed_of z.tables) ps) view
      (record { state = is.some.state; run = is.some.run; parts = parts_of_state (fixed_of t) h is.some.state ps each is.places is.some.fits all })

-- ---- before the first part is put, and behind the last

pub begins : (w : Fixed Rest) (all : List Part) (n m k : ℕ) (h : Parts) → k ≡ length all → h ≡ no_parts n m → IsHandOf w h → ((s : Machine Rest) → Fits h s)
    → length (map shown all) ≡ 4 + n + m → MayGoOn w all all k h
begins w all n m k h count none is fits length_is = record {
  left = sym (all_taken all k count);
  hand = is;
  fits = λ s parts. fits s;
  stand = none_from n m h (map shown all) none length_is ∙ ap (λ j. all_from j (map shown all)) (length-map all shown ∙ sym count);
}

pub all_put : (w : Fixed Rest) (all parts : List Part) (k : ℕ) (h : Parts) → k ≡ 0 → MayGoOn w all parts k h → places h ≡ map Some (map shown all)
all_put w all parts k h end may = may.stand ∙ (ap (λ j. all_from j (map shown all)) end ∙ from_first (map shown all))
