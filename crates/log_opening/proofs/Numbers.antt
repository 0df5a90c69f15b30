-- Devices and logs by their numbers, and the numbers of those in use.
use Rattle.std.proofs.Common.{◌≡◌, ℕ, zero, suc, ◌+◌, ◌-◌, ◌<◌, ◌≤◌, inl, inr, List, [], ◌∷◌, length, get_or, map, take, drop, refl, ◌∙◌, subst, sym, arith}
use Rattle.std.proofs.lemmas.Bool.{cases_lt}
use Rattle.std.proofs.lemmas.List.{get_or-drop, get_or-take, length-drop, length-map, length-take-le}
use Rattle.std.specs.Prelude.{◌⊎◌, slice_range}
use Rattle.std.specs.List.{AllByRecursion, AllZip}
use Rattle.gate_log.specs.State.{LogState, log_at}
use Rattle.log_compact.specs.Compacting.{IsOnSide}
use Rattle.log_opening.specs.Devices.{Device, as_device, device_at}

-- ---- lists

pub zip_each : {A B : Type 0} (R : A → B → Type 0) (xs : List A) (ys : List B) (x : A) (y : B) → length ys ≡ length xs → ((n : ℕ) → n < length xs → R (get_or xs n x) (get_or ys n y)) → AllZip R xs ys
zip_each R [] [] x y long each = tt
zip_each R [] (b ∷ ys) x y long each = absurd (omega (arith, long))
zip_each R (a ∷ xs) [] x y long each = absurd (omega (arith, long))
zip_each R (a ∷ xs) (b ∷ ys) x y long each = (each 0 (omega arith), zip_each R xs ys x y (omega (arith, long)) (λ n lt. each (suc n) (omega (arith, lt))))

pub each_zip : {A B : Type 0} (R : A → B → Type 0) (xs : List A) (ys : List B) (x : A) (y : B) (n : ℕ) → AllZip R xs ys → n < length xs → R (get_or xs n x) (get_or ys n y)
each_zip R [] ys x y n all lt = absurd (omega (arith, lt))
each_zip R (a ∷ xs) [] x y n all lt = absurd all
each_zip R (a ∷ xs) (b ∷ ys) x y zero all lt = all.0
each_zip R (a ∷ xs) (b ∷ ys) x y (suc n) all lt = each_zip R xs ys x y n all.1 (omega (arith, lt))

zip_take : {A B : Type 0} (R : A → B → Type 0) (n : ℕ) (xs : List A) (ys : List B) → AllZip R xs ys → AllZip R (take n xs) (take n ys)
zip_take R zero xs ys all = tt
zip_take R (suc n) [] [] all = tt
zip_take R (suc n) [] (b ∷ ys) all = absurd all
zip_take R (suc n) (a ∷ xs) [] all = absurd all
zip_take R (suc n) (a ∷ xs) (b ∷ ys) all = (all.0, zip_take R n xs ys all.1)

zip_drop : {A B : Type 0} (R : A → B → Type 0) (n : ℕ) (xs : List A) (ys : List B) → AllZip R xs ys → AllZip R (drop n xs) (drop n ys)
zip_drop R zero xs ys all = all
zip_drop R (suc n) [] [] all = tt
zip_drop R (suc n) [] (b ∷ ys) all = absurd all
zip_drop R (suc n) (a ∷ xs) [] all = absurd all
zip_drop R (suc n) (a ∷ xs) (b ∷ ys) all = zip_drop R n xs ys all.1

-- so many of them, from one on
pub zip_part : {A B : Type 0} (R : A → B → Type 0) (head count : ℕ) (xs : List A) (ys : List B) → AllZip R xs ys → AllZip R (take count (drop head xs)) (slice_range ys head (head + count))
zip_part R head count xs ys all =
    let size : count ≡ head + count - head = omega arith in
    subst (λ (n : ℕ). AllZip R (take count (drop head xs)) (take n (drop head ys))) size (zip_take R count (drop head xs) (drop head ys) (zip_drop R head xs ys all))

all_take : {A : Type 0} (P : A → Type 0) (n : ℕ) (xs : List A) → AllByRecursion P xs → AllByRecursion P (take n xs)
all_take P zero xs all = tt
all_take P (suc n) [] all = tt
all_take P (suc n) (x ∷ xs) all = (all.0, all_take P n xs all.1)

all_drop : {A : Type 0} (P : A → Type 0) (n : ℕ) (xs : List A) → AllByRecursion P xs → AllByRecursion P (drop n xs)
all_drop P zero xs all = all
all_drop P (suc n) [] all = tt
all_drop P (suc n) (x ∷ xs) all = all_drop P n xs all.1

pub all_part : {A : Type 0} (P : A → Type 0) (from to : ℕ) (xs : List A) → AllByRecursion P xs → AllByRecursion P (slice_range xs from to)
all_part P from to xs all = all_take P (to - from) (drop from xs) (all_drop P from xs all)

pub part_at : {A : Type 0} (xs : List A) (head count l : ℕ) (x : A) → l < count → get_or (slice_range xs head (head + count)) l x ≡ get_or xs (head + l) x
part_at xs head count l x lt = get_or-take (head + count - head) (drop head xs) l x (omega (arith, lt)) ∙ get_or-drop head xs l x

pub part_long : {A : Type 0} (xs : List A) (head count : ℕ) → head + count ≤ length xs → length (slice_range xs head (head + count)) ≡ count
part_long xs head count le =
    let size = length-drop head xs in
    let most : head + count - head ≤ length (drop head xs) = omega (arith, le, size) in
    length-take-le (head + count - head) (drop head xs) most ∙ omega arith

-- ---- the devices of logs

pub at_logs : (logs : List LogState) (d : ℕ) → device_at (map as_device logs) d ≡ as_device (log_at logs d)
at_logs [] zero = refl
at_logs [] (suc d) = refl
at_logs (l ∷ logs) zero = refl
at_logs (l ∷ logs) (suc d) = at_logs logs d

-- what is said of the device of a log
pub on_device : (R : Device → Type 0) (logs : List LogState) (d : ℕ) → R (as_device (log_at logs d)) → R (device_at (map as_device logs) d)
on_device R logs d is = subst R (sym (at_logs logs d)) is

-- all four of them
pub zip_four : (R : Device → Device → Type 0) (before : List Device) (logs : List LogState) → length before ≡ 4 → length logs ≡ 4 → ((d : ℕ) → d < 4 → R (device_at before d) (as_device (log_at logs d)))
    → AllZip R before (map as_device logs)
zip_four R before logs whole many each =
    let size : length (map as_device logs) ≡ length before = length-map logs as_device ∙ many ∙ sym whole in
    zip_each R before (map as_device logs) _ _ size (λ d lt. on_device (λ (x : Device). R (device_at before d) x) logs d (each d (omega (arith, lt, whole))))

-- ---- the logs in use

pub on_side : (head count l : ℕ) → l < count → IsOnSide head count (head + l)
on_side head count l lt = record { behind = omega arith; before = omega (arith, lt) }

-- its number among those in use
pub number_on : (head count d : ℕ) → IsOnSide head count d → (l : ℕ) × (l < count) × (head + l ≡ d)
number_on head count d side =
    let behind : head ≤ d = side.behind in
    let before : d < head + count = side.before in
    (d - head, omega (arith, behind, before), omega (arith, behind))

pub in_use_or_not : (head count d : ℕ) → IsOnSide head count d ⊎ (¬ IsOnSide head count d)
in_use_or_not head count d = by (cases_lt d head) (cases_lt d (head + count))
  where
    by : (d < head) ⊎ (head ≤ d) → (d < head + count) ⊎ (head + count ≤ d) → IsOnSide head count d ⊎ (¬ IsOnSide head count d)
    by (inl low) more = inr (λ side. let behind : head ≤ d = side.behind in omega (arith, low, behind))
    by (inr behind) (inl before) = inl (record { behind = behind; before = before })
    by (inr behind) (inr above) = inr (λ side. let before : d < head + count = side.before in omega (arith, above, before))

-- what holds of those in use and of those aside holds of all
pub each_device : (P : ℕ → Type 0) (head count : ℕ) → ((l : ℕ) → l < count → P (head + l)) → ((d : ℕ) → d < 4 → ¬ IsOnSide head count d → P d) → (d : ℕ) → d < 4 → P d
each_device P head count used aside d lt = by (in_use_or_not head count d)
  where
    by : IsOnSide head count d ⊎ (¬ IsOnSide head count d) → P d
    by (inl side) = let at = number_on head count d side in subst P at.2 (used at.0 at.1)
    by (inr not) = aside d lt not
