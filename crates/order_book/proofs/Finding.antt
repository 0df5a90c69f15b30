-- How an ACT is found among rising tids, and where a transaction's first one stands.
use Rattle.std.proofs.Common.{◌≡◌, ℕ, zero, suc, ◌+◌, ◌<◌, ◌≤◌, refl, ap, sym, ◌∙◌, arith, length, get_or, drop, map, List, [], ◌∷◌, ◌++◌}
use Rattle.std.specs.Prelude.{◌==◌, nat_lt, not, Bool, true, false, if◌then◌else◌, Option, Some, None, IfSome, slice_get, find}
use Rattle.std.specs.List.{AllByRecursion, position_or_len}
use Rattle.std.proofs.lemmas.Bool.{cond-true, cond-false, ne_eqb, eq-eqb, eqb-true, ltb-true, ltb-false, not_from_true, not_from_false}
use Rattle.std.specs.Option.{option_map}
use Rattle.std.proofs.lemmas.List.Folds.{find_at}
use Rattle.std.proofs.lemmas.Option.{same_Some, none-some}
use Rattle.protocol.specs.Cutting.{Ascends}
use Rattle.snap_base.specs.declared.ids.Tid.{Tid}
pub use Rattle.snap_base.proofs.Booleans.{eqb_turned}
use Rattle.protocol.specs.Meant.{tid_number}
use Rattle.protocol.specs.Parts.{Act}
use Rattle.protocol.specs.Words.{act_of}
use Rattle.protocol.specs.OnBook.{change_if, changed_act}
use Rattle.order_book.specs.Asked.{tid_of_act}
use Rattle.order_book.specs.Changes.{changed_at}
use Rattle.order_book.specs.Kept.{forgotten}
use Rattle.order_book.specs.Registered.{tid_with, IsPlaceOfAct, tids_of_acts, first_kept}

-- ---- rising numbers

all_above : (n : ℕ) (xs : List ℕ) (i : ℕ) → AllByRecursion (λ k. n < k) xs → i < length xs → n < get_or xs i 0
all_above n [] i all lt = absurd (omega arith)
all_above n (x ∷ xs) zero all lt = all.0
all_above n (x ∷ xs) (suc i) all lt = all_above n xs i all.1 (omega arith)

pub rises : (xs : List ℕ) (i j : ℕ) → Ascends xs → i ≤ j → j < length xs → get_or xs i 0 ≤ get_or xs j 0
rises [] i j up le lt = absurd (omega arith)
rises (x ∷ xs) zero zero up le lt = omega arith
rises (x ∷ xs) zero (suc j) up le lt = let above : x < get_or xs j 0 = all_above x xs j up.0 (omega arith) in omega arith
rises (x ∷ xs) (suc i) zero up le lt = absurd (omega arith)
rises (x ∷ xs) (suc i) (suc j) up le lt = rises xs i j up.1 (omega arith) (omega arith)

all_push : (n : ℕ) (xs : List ℕ) (t : ℕ) → AllByRecursion (λ k. n < k) xs → n < t → AllByRecursion (λ k. n < k) (xs ++ t ∷ [])
all_push n [] t all lt = (lt, tt)
all_push n (x ∷ xs) t all lt = (all.0, all_push n xs t all.1 lt)

pub rising_push : (xs : List ℕ) (t : ℕ) → Ascends xs → AllByRecursion (λ k. k < t) xs → Ascends (xs ++ t ∷ [])
rising_push [] t up below = (tt, tt)
rising_push (x ∷ xs) t up below = (all_push x xs t up.0 below.0, rising_push xs t up.1 below.1)

pub rising_drop : (n : ℕ) (xs : List ℕ) → Ascends xs → Ascends (drop n xs)
rising_drop zero xs up = up
rising_drop (suc n) [] up = up
rising_drop (suc n) (x ∷ xs) up = rising_drop n xs up.1

-- ---- the place of a number

passed : (x t : ℕ) (xs : List ℕ) → (x == t) ≡ false → position_or_len (λ n. n == t) (x ∷ xs) ≡ suc (position_or_len (λ n. n == t) xs)
passed x t xs e = cond-true (not (x == t)) (1 + position_or_len (λ n. n == t) xs) 0 (not_from_false (x == t) e) ∙ omega arith

reached : (x t : ℕ) (xs : List ℕ) → (x == t) ≡ true → position_or_len (λ n. n == t) (x ∷ xs) ≡ 0
reached x t xs e = cond-false (not (x == t)) (1 + position_or_len (λ n. n == t) xs) 0 (not_from_true (x == t) e)

pub position_is : (t : ℕ) (xs : List ℕ) (i : ℕ) → Ascends xs → i < length xs → get_or xs i 0 ≡ t → position_or_len (λ n. n == t) xs ≡ i
position_is t [] i up lt e = absurd (omega arith)
position_is t (x ∷ xs) zero up lt e = reached x t xs (eq-eqb x t e)
position_is t (x ∷ xs) (suc i) up lt e =
    let above : x < get_or xs i 0 = all_above x xs i up.0 (omega arith) in
    passed x t xs (ne_eqb x t (λ (same : x ≡ t). omega (arith, above, same, e))) ∙ ap (λ (n : ℕ). suc n) (position_is t xs i up.1 (omega arith) e)

pub position_none : (t : ℕ) (xs : List ℕ) → ((k : ℕ) → k < length xs → get_or xs k 0 ≡ t → ⊥) → position_or_len (λ n. n == t) xs ≡ length xs
position_none t [] none = refl
position_none t (x ∷ xs) none =
    passed x t xs (ne_eqb x t (λ (same : x ≡ t). none 0 (omega arith) same))
    ∙ ap (λ (n : ℕ). suc n) (position_none t xs (λ k lt e. none (suc k) (omega arith) e))

apart : (t : ℕ) (xs : List ℕ) (i k : ℕ) → ((k : ℕ) → k < i → get_or xs k 0 < t) → ((k : ℕ) → i ≤ k → k < length xs → t < get_or xs k 0) → k < length xs → get_or xs k 0 ≡ t → (b : Bool) → nat_lt k i ≡ b → ⊥
apart t xs i k low high lt same true e = let less : get_or xs k 0 < t = low k (ltb-true k i e) in absurd (omega (arith, less, same))
apart t xs i k low high lt same false e = let more : t < get_or xs k 0 = high k (ltb-false k i e) lt in absurd (omega (arith, more, same))

-- no number is this one: those up to a place are less, the others greater
pub position_between : (t : ℕ) (xs : List ℕ) (i : ℕ) → ((k : ℕ) → k < i → get_or xs k 0 < t) → ((k : ℕ) → i ≤ k → k < length xs → t < get_or xs k 0) → position_or_len (λ n. n == t) xs ≡ length xs
position_between t xs i low high = position_none t xs (λ k lt same. apart t xs i k low high lt same (nat_lt k i) refl)

-- ---- the place of an ACT

position_in_tids : (t : ℕ) (acts : List Act) → position_or_len (λ n. n == t) (tids_of_acts acts) ≡ position_or_len (λ (x : Act). x.tid == t) acts
position_in_tids t [] = refl
position_in_tids t (x ∷ xs) = ap (λ (n : ℕ). if not (x.tid == t) then 1 + n else 0) (position_in_tids t xs)

-- the ACT that the search finds is the one at its tid's place
pub found_at : (t : ℕ) (acts : List Act) → act_of t acts ≡ slice_get acts (position_or_len (λ n. n == t) (tids_of_acts acts))
found_at t acts = rw (position_in_tids t acts) (find_at (λ (x : Act). x.tid == t) acts)

untouched : (t : ℕ) (f : Act → Act) (n : ℕ) (acts : List Act) → t ≤ n → AllByRecursion (λ k. n < k) (tids_of_acts acts) → changed_act t f acts ≡ acts
untouched t f n [] le all = refl
untouched t f n (x ∷ xs) le all =
    ap (λ (b : Bool). change_if b f x ∷ changed_act t f xs) (ne_eqb x.tid t (λ (same : x.tid ≡ t). omega (arith, le, all.0, same)))
    ∙ ap (λ (zs : List Act). x ∷ zs) (untouched t f n xs le all.1)

by_test : (t : ℕ) (f : Act → Act) (x : Act) (xs : List Act) → Ascends (tids_of_acts (x ∷ xs)) → changed_act t f xs ≡ changed_at (position_or_len (λ n. n == t) (tids_of_acts xs)) f xs
    → (b : Bool) → (x.tid == t) ≡ b → changed_act t f (x ∷ xs) ≡ changed_at (position_or_len (λ n. n == t) (tids_of_acts (x ∷ xs))) f (x ∷ xs)
by_test t f x xs up rest true e =
    ap (λ (c : Bool). change_if c f x ∷ changed_act t f xs) e
    ∙ (ap (λ (zs : List Act). f x ∷ zs) (untouched t f x.tid xs (omega (arith, eqb-true x.tid t e)) up.0)
    ∙ ap (λ (at : ℕ). changed_at at f (x ∷ xs)) (sym (reached x.tid t (tids_of_acts xs) e)))
by_test t f x xs up rest false e =
    ap (λ (c : Bool). change_if c f x ∷ changed_act t f xs) e
    ∙ (ap (λ (zs : List Act). x ∷ zs) rest
    ∙ ap (λ (at : ℕ). changed_at at f (x ∷ xs)) (sym (passed x.tid t (tids_of_acts xs) e)))

changes_there : (t : ℕ) (f : Act → Act) (acts : List Act) → Ascends (tids_of_acts acts) → changed_act t f acts ≡ changed_at (position_or_len (λ n. n == t) (tids_of_acts acts)) f acts
changes_there t f [] up = refl
changes_there t f (x ∷ xs) up = by_test t f x xs up (changes_there t f xs up.1) (x.tid == t) refl

-- what is said of each ACT, where its tid is above a number
all_with : (n : ℕ) (P Q : Act → Type 0) (acts : List Act) → ((x : Act) → n < x.tid → P x → Q x) → AllByRecursion (λ k. n < k) (tids_of_acts acts) → AllByRecursion P acts → AllByRecursion Q acts
all_with n P Q [] step above all = tt
all_with n P Q (x ∷ xs) step above all = (step x above.0 all.0, all_with n P Q xs step above.1 all.1)

only_one : (t : ℕ) (acts : List Act) → Ascends (tids_of_acts acts) → AllByRecursion (λ (x : Act). (x.tid == t) ≡ true → act_of t acts ≡ Some x) acts
only_one t [] up = tt
only_one t (x ∷ xs) up = (
  λ e. cond-true (x.tid == t) (Some x) (act_of t xs) e,
  all_with x.tid (λ (y : Act). (y.tid == t) ≡ true → act_of t xs ≡ Some y) (λ (y : Act). (y.tid == t) ≡ true → act_of t (x ∷ xs) ≡ Some y) xs
      (λ y above this e. cond-false (x.tid == t) (Some x) (act_of t xs) (ne_eqb x.tid t (λ (same : x.tid ≡ t). omega (arith, above, same, eqb-true y.tid t e))) ∙ this e)
      up.0 (only_one t xs up.1),
)

pub each_found : (acts : List Act) → Ascends (tids_of_acts acts) → AllByRecursion (λ (x : Act). act_of x.tid acts ≡ Some x) acts
each_found [] up = tt
each_found (x ∷ xs) up = (
  cond-true (x.tid == x.tid) (Some x) (act_of x.tid xs) (eq-eqb x.tid x.tid refl),
  all_with x.tid (λ (y : Act). act_of y.tid xs ≡ Some y) (λ (y : Act). act_of y.tid (x ∷ xs) ≡ Some y) xs
      (λ y above this. cond-false (x.tid == y.tid) (Some x) (act_of y.tid xs) (ne_eqb x.tid y.tid (λ (same : x.tid ≡ y.tid). omega (arith, above, same))) ∙ this)
      up.0 (each_found xs up.1),
)

pub placed_at : (t : ℕ) (acts : List Act) → Ascends (tids_of_acts acts) → IsPlaceOfAct t (position_or_len (λ n. n == t) (tids_of_acts acts)) acts
placed_at t acts up = record { found = found_at t acts; changes = λ f. changes_there t f acts up; only = only_one t acts up }

-- ---- tids and transactions stay

pub tids_changed : (at : ℕ) (f : Act → Act) (acts : List Act) → ((x : Act) → (f x).tid ≡ x.tid) → tids_of_acts (changed_at at f acts) ≡ tids_of_acts acts
tids_changed at f [] keeps = refl
tids_changed zero f (x ∷ xs) keeps = ap (λ (n : ℕ). n ∷ tids_of_acts xs) (keeps x)
tids_changed (suc at) f (x ∷ xs) keeps = ap (λ (ns : List ℕ). x.tid ∷ ns) (tids_changed at f xs keeps)

pub found_changed : (n at : ℕ) (f : Act → Act) (acts : List Act) → ((x : Act) → (f x).tid ≡ x.tid) → ((x : Act) → (f x).tx ≡ x.tx) → tid_with n (changed_at at f acts) ≡ tid_with n acts
found_changed n at f [] tid tx = refl
found_changed n zero f (x ∷ xs) tid tx = ap (λ (k : ℕ). if k == n then Some (f x).tid else tid_with n xs) (tx x) ∙ ap (λ (k : ℕ). if x.tx == n then Some k else tid_with n xs) (tid x)
found_changed n (suc at) f (x ∷ xs) tid tx = ap (λ (o : Option ℕ). if x.tx == n then Some x.tid else o) (found_changed n at f xs tid tx)

pub tids_forgotten : (acts : List Act) → tids_of_acts (map forgotten acts) ≡ tids_of_acts acts
tids_forgotten [] = refl
tids_forgotten (x ∷ xs) = ap (λ (ns : List ℕ). x.tid ∷ ns) (tids_forgotten xs)

pub found_forgotten : (n : ℕ) (acts : List Act) → tid_with n (map forgotten acts) ≡ tid_with n acts
found_forgotten n [] = refl
found_forgotten n (x ∷ xs) = ap (λ (o : Option ℕ). if x.tx == n then Some x.tid else o) (found_forgotten n xs)

first_more : (b c : Bool) (k t : ℕ) (o : Option ℕ) → (if b then Some k else first_kept o c t) ≡ first_kept (if b then Some k else o) c t
first_more true c k t o = refl
first_more false c k t o = refl

-- one more ACT is the first of its transaction where there was none
pub found_push : (n : ℕ) (acts : List Act) (x : Act) → tid_with n (acts ++ x ∷ []) ≡ first_kept (tid_with n acts) (x.tx == n) x.tid
found_push n [] x = refl
found_push n (y ∷ ys) x = ap (λ (o : Option ℕ). if y.tx == n then Some y.tid else o) (found_push n ys x) ∙ first_more (y.tx == n) (x.tx == n) y.tid x.tid (tid_with n ys)

pub tids_below : (t : ℕ) (acts : List Act) → AllByRecursion (λ (x : Act). x.tid < t) acts → AllByRecursion (λ k. k < t) (tids_of_acts acts)
tids_below t [] all = tt
tids_below t (x ∷ xs) all = (all.0, tids_below t xs all.1)

position_here : (t x : ℕ) (xs : List ℕ) → position_or_len (λ n. n == t) xs ≤ length xs → (b : Bool) → (x == t) ≡ b → position_or_len (λ n. n == t) (x ∷ xs) ≤ length (x ∷ xs)
position_here t x xs le true e = omega (arith, reached x t xs e)
position_here t x xs le false e = omega (arith, passed x t xs e, le)

pub position_small : (t : ℕ) (xs : List ℕ) → position_or_len (λ n. n == t) xs ≤ length xs
position_small t [] = omega arith
position_small t (x ∷ xs) = position_here t x xs (position_small t xs) (x == t) refl

-- ---- the first ACT of a transaction

tid_of_if : (b : Bool) (x : Act) (o : Option Act) → (if b then Some x.tid else tid_of_act o) ≡ tid_of_act (if b then Some x else o)
tid_of_if true x o = refl
tid_of_if false x o = refl

pub first_is : (n : ℕ) (acts : List Act) → tid_with n acts ≡ tid_of_act (find (λ (x : Act). x.tx == n) acts)
first_is n [] = refl
first_is n (x ∷ xs) = ap (λ (o : Option ℕ). if x.tx == n then Some x.tid else o) (first_is n xs) ∙ tid_of_if (x.tx == n) x (find (λ (y : Act). y.tx == n) xs)

above_by : (m n t : ℕ) (b : Bool) (x : Act) (xs : List Act) → m < x.tid → (tid_with n xs ≡ Some t → m < t) → (if b then Some x.tid else tid_with n xs) ≡ Some t → m < t
above_by m n t true x xs here rest e = let same : x.tid ≡ t = same_Some x.tid t e in omega (arith, here, same)
above_by m n t false x xs here rest e = rest e

tid_above : (m n t : ℕ) (xs : List Act) → AllByRecursion (λ k. m < k) (tids_of_acts xs) → tid_with n xs ≡ Some t → m < t
tid_above m n t [] above e = absurd (none-some t e)
tid_above m n t (x ∷ xs) above e = above_by m n t (x.tx == n) x xs above.0 (tid_above m n t xs above.1) e

found_by : (n t : ℕ) (b : Bool) (x : Act) (xs : List Act) → AllByRecursion (λ k. x.tid < k) (tids_of_acts xs) → (tid_with n xs ≡ Some t → act_of t xs ≡ find (λ (y : Act). y.tx == n) xs)
    → (if b then Some x.tid else tid_with n xs) ≡ Some t → act_of t (x ∷ xs) ≡ (if b then Some x else find (λ (y : Act). y.tx == n) xs)
found_by n t true x xs above rest e = cond-true (x.tid == t) (Some x) (act_of t xs) (eq-eqb x.tid t (same_Some x.tid t e))
found_by n t false x xs above rest e =
    cond-false (x.tid == t) (Some x) (act_of t xs) (ne_eqb x.tid t (λ (same : x.tid ≡ t). omega (arith, same, tid_above x.tid n t xs above e))) ∙ rest e

found_first : (n t : ℕ) (acts : List Act) → Ascends (tids_of_acts acts) → tid_with n acts ≡ Some t → act_of t acts ≡ find (λ (x : Act). x.tx == n) acts
found_first n t [] up e = absurd (none-some t e)
found_first n t (x ∷ xs) up e = found_by n t (x.tx == n) x xs up.0 (found_first n t xs up.1) e

pub found_with : (n : ℕ) (acts : List Act) (r : Option Tid) → Ascends (tids_of_acts acts) → option_map tid_number r ≡ tid_with n acts → IfSome r (λ t. act_of t.0 acts ≡ find (λ (x : Act). x.tx == n) acts)
found_with n acts None up e = tt
found_with n acts (Some t) up e = found_first n t.0 acts up (sym e)
