-- A number's big-endian bytes, one after the other: what may stand first, and what may follow it.
use Rattle.std.proofs.Common.{◌≡◌, ◌≢◌, ℕ, zero, suc, ◌+◌, ◌-◌, ◌*◌, ◌/◌, ◌%◌, ◌^◌, ◌<◌, ◌≤◌, ◌⊎◌, inl, inr, min, List, [], ◌∷◌, ◌++◌, length, take, refl, sym, ap, ◌∙◌, arith}
use Rattle.std.proofs.Math.Nat.{mul-add-div_right, div-add-mod, mod-lt, pow-suc, one-le-pow, div-mul-le_self, div-lt_iff_lt-mul, div-eq_of_lt, mod-eq_of_lt, mul-add-mod_self_right, div-one, le-div_iff_mul-le, lt-div-mul-add, mul-le-mul_right}
use Rattle.std.proofs.lemmas.Nat.{le-div}
use Rattle.std.specs.Int.{w16, w64, to_be_bytes}
use Rattle.txn_records.specs.Numbers.{BeginsNumber}
use Rattle.txn_records.specs.Texts.{one_byte}
use Rattle.txn_records.specs.Stops.{Stops, Seq}
use Rattle.txn_records.specs.Numbers.{big_endian, Between, Numbers}
use Rattle.txn_records.proofs.OneRecord.{SpelledApart}
use Rattle.txn_records.proofs.Stopping.{stops_alike, stops_after, stops_here}

pub big_endian_2 : (n : ℕ) → big_endian 2 n ≡ to_be_bytes w16 n
big_endian_2 n = ap (λ (z : ℕ). n / 256 % 256 ∷ z % 256 ∷ []) (div-one n)

pub big_endian_8 : (n : ℕ) → big_endian 8 n ≡ to_be_bytes w64 n
big_endian_8 n = ap (λ (z : ℕ). n / 256 ^ 7 % 256 ∷ n / 256 ^ 6 % 256 ∷ n / 256 ^ 5 % 256 ∷ n / 256 ^ 4 % 256 ∷ n / 256 ^ 3 % 256 ∷ n / 256 ^ 2 % 256 ∷ n / 256 % 256 ∷ z % 256 ∷ []) (div-one n)

pub unit_some : (k : ℕ) → 0 < 256 ^ k
unit_some k = omega (arith, one-le-pow k 256 (omega arith))

regroup : (c u m : ℕ) → c * (u * 256) + m ≡ (c * 256) * u + m
regroup c u m = omega arith

-- higher digits are not among the last k
pub big_endian_of_sum : (k c m : ℕ) → big_endian k (c * 256 ^ k + m) ≡ big_endian k m
big_endian_of_sum zero c m = refl
big_endian_of_sum (suc k) c m =
    let regrouped : c * 256 ^ suc k + m ≡ (c * 256) * 256 ^ k + m = ap (λ (z : ℕ). c * z + m) (pow-suc 256 k) ∙ regroup c (256 ^ k) m in
    let digit : ((c * 256) * 256 ^ k + m) / 256 ^ k % 256 ≡ m / 256 ^ k % 256 =
    ap (λ (z : ℕ). z % 256) (mul-add-div_right (unit_some k) (c * 256) m) ∙ mul-add-mod_self_right c 256 (m / 256 ^ k) in
    ap (λ (z : ℕ). z / 256 ^ k % 256 ∷ big_endian k z) regrouped
    ∙ ap (λ (z : ℕ). z ∷ big_endian k ((c * 256) * 256 ^ k + m)) digit
    ∙ ap (λ (z : List ℕ). m / 256 ^ k % 256 ∷ z) (big_endian_of_sum k (c * 256) m)

-- the first digit, and the rest
pub big_endian_split : (k b m : ℕ) → b < 256 → m < 256 ^ k → big_endian (suc k) (b * 256 ^ k + m) ≡ b ∷ big_endian k m
big_endian_split k b m small lt =
    let digit : (b * 256 ^ k + m) / 256 ^ k % 256 ≡ b =
    ap (λ (z : ℕ). z % 256) (mul-add-div_right (unit_some k) b m ∙ ap (λ (z : ℕ). b + z) (div-eq_of_lt lt)) ∙ mod-eq_of_lt (omega arith) ∙ (omega arith) in
    ap (λ (z : ℕ). z ∷ big_endian k (b * 256 ^ k + m)) digit ∙ ap (λ (z : List ℕ). b ∷ z) (big_endian_of_sum k b m)

-- ---- between bounds, at a unit u

-- the numbers of k bytes that are left where the byte b stands first
abbrev pub low_behind : ℕ → ℕ → ℕ → ℕ
low_behind u low b = low - b * u

abbrev pub high_behind : ℕ → ℕ → ℕ → ℕ
high_behind u high b = min (high - b * u) (u - 1)

low_enough : (u low b m : ℕ) → low - b * u ≤ m → low ≤ b * u + m
low_enough u low b m h = omega arith

high_enough : (u high b m : ℕ) → b * u ≤ high → m ≤ high - b * u → b * u + m ≤ high
high_enough u high b m h i = omega arith

-- the digit of a number and what is left of it
pub digit_of : (u n : ℕ) → 0 < u → n ≡ n / u * u + n % u
digit_of u n some = omega (arith, div-add-mod n u)

le-div_iff : (u b high : ℕ) → 0 < u → b ≤ high / u → b * u ≤ high
le-div_iff u b high some h = (le-div_iff_mul-le some).0 h

lt-next : (u low b : ℕ) → 0 < u → low / u ≤ b → low < b * u + u
lt-next u low b some h = omega (arith, lt-div-mul-add {a = low} some, mul-le-mul_right u h)

below_unit : (u low high b : ℕ) → 0 < u → low ≤ high → low < b * u + u → b * u ≤ high → low_behind u low b ≤ high_behind u high b
below_unit u low high b some le lt h = omega arith

pub digit_small : (u n : ℕ) → 0 < u → n < u * 256 → n / u < 256
digit_small u n some lt = (div-lt_iff_lt-mul some).1 (omega arith)

pub div_grows : (u a b : ℕ) → 0 < u → a ≤ b → a / u ≤ b / u
div_grows u a b some h = le-div (a / u) b u some (omega (arith, div-mul-le_self a u))

abbrev pub ByDigits : ℕ → ℕ → ℕ → List ℕ → Type 0
ByDigits k low high = Seq (Between (low / 256 ^ k) (high / 256 ^ k)) one_byte (λ b. Numbers k (low_behind (256 ^ k) low b) (high_behind (256 ^ k) high b))

pub bytes_apart : (Is : ℕ → Type 0) → SpelledApart Is one_byte
bytes_apart Is = record { apart = λ a b x y p q e. (cc, cc) }

within_unit : (u high b m : ℕ) → 0 < u → m ≤ high_behind u high b → (m < u) × (m ≤ high - b * u)
within_unit u high b m some h = (omega arith, omega arith)

digit_below : (u high b : ℕ) → 0 < u → high < u * 256 → b ≤ high / u → (b < 256) × (b * u ≤ high)
digit_below u high b some fits h = (omega (arith, digit_small u high some fits), (le-div_iff u b high some h))

pub from_digits : (k low high : ℕ) → high < 256 ^ k * 256 → (f : List ℕ) → ByDigits k low high f → Numbers (suc k) low high f
from_digits k low high fits f (b, g, range, (m, t, inner, any, e), h) =
    let some : 0 < 256 ^ k = unit_some k in
    let d = digit_below (256 ^ k) high b some fits range.1 in
    let w = within_unit (256 ^ k) high b m some inner.1 in (
      b * 256 ^ k + m,
      t,
      (low_enough (256 ^ k) low b m inner.0, high_enough (256 ^ k) high b m d.1 w.1),
      tt,
      h ∙ ap (λ (z : List ℕ). b ∷ z) e ∙ ap (λ (z : List ℕ). z ++ t) (sym (big_endian_split k b m d.0 w.0)),
    )

rest_within : (u low high n q r : ℕ) → n ≡ q * u + r → r < u → low ≤ n → n ≤ high → Between (low_behind u low q) (high_behind u high q) r
rest_within u low high n q r e lt l h = (omega arith, omega arith)

pub to_digits : (k low high : ℕ) → high < 256 ^ k * 256 → (f : List ℕ) → Numbers (suc k) low high f → ByDigits k low high f
to_digits k low high fits f (n, t, range, any, h) =
    let u : ℕ = 256 ^ k in
    let some : 0 < 256 ^ k = unit_some k in
    let e = digit_of (256 ^ k) n some in
    let lt : n % 256 ^ k < 256 ^ k = mod-lt n some in
    let small : n / 256 ^ k < 256 = digit_small (256 ^ k) n some (omega arith) in (
      n / 256 ^ k,
      big_endian k (n % 256 ^ k) ++ t,
      (div_grows (256 ^ k) low n some range.0, div_grows (256 ^ k) n high some range.1),
      (n % 256 ^ k, t, rest_within (256 ^ k) low high n (n / 256 ^ k) (n % 256 ^ k) e lt range.0 range.1, tt, refl),
      h ∙ ap (λ (z : List ℕ). z ++ t) (ap (big_endian (suc k)) e ∙ big_endian_split k (n / 256 ^ k) (n % 256 ^ k) small lt),
    )

-- no number goes on with the first byte
no_digit : (k low high : ℕ) (bytes : List ℕ)
    → ((b : ℕ) (x : List ℕ) → bytes ≡ b ∷ x → (b < low / 256 ^ k) ⊎ (high / 256 ^ k < b))
    → (f y : List ℕ) → ByDigits k low high f → f ≡ take 1 bytes ++ y → (bytes ≡ []) × (y ≢ [])
no_digit k low high [] none f y (b, g, range, inner, h) e = (refl, λ z. let bad : b ∷ g ≡ [] = sym h ∙ e ∙ z in cc)
no_digit k low high (c ∷ x) none f y (b, g, range, inner, h) e =
    let joined : b ∷ g ≡ c ∷ y = sym h ∙ e in
    let same : b ≡ c = cc in
    absurd (elim (none c x refl) [ inl lt ↦ omega arith | inr gt ↦ omega arith ])

pub first_stops : (k low high : ℕ) (bytes : List ℕ) → low ≤ high → high < 256 ^ k * 256
    → ((b : ℕ) (x : List ℕ) → bytes ≡ b ∷ x → (b < low / 256 ^ k) ⊎ (high / 256 ^ k < b))
    → Stops (Numbers (suc k) low high) bytes (length bytes)
first_stops k low high bytes some fits none = stops_alike (ByDigits k low high) (Numbers (suc k) low high) bytes (length bytes) (from_digits k low high fits) (to_digits k low high fits)
    (stops_here (ByDigits k low high) bytes (big_endian (suc k) low ++ [], to_digits k low high fits (big_endian (suc k) low ++ []) (low, [], (omega arith, some), tt, refl)) (no_digit k low high bytes none))

-- behind a byte that may stand first
pub next_stops : (k low high b : ℕ) (bytes rest : List ℕ) (left : ℕ) → high < 256 ^ k * 256 → Between (low / 256 ^ k) (high / 256 ^ k) b → bytes ≡ b ∷ rest
    → Stops (Numbers k (low_behind (256 ^ k) low b) (high_behind (256 ^ k) high b)) rest left
    → Stops (Numbers (suc k) low high) bytes left
next_stops k low high b bytes rest left fits range e s = stops_alike (ByDigits k low high) (Numbers (suc k) low high) bytes left (from_digits k low high fits) (to_digits k low high fits)
    (stops_after (Between (low / 256 ^ k) (high / 256 ^ k)) one_byte (λ b. Numbers k (low_behind (256 ^ k) low b) (high_behind (256 ^ k) high b)) (bytes_apart (Between (low / 256 ^ k) (high / 256 ^ k))) b bytes rest left range e s)

-- the bounds behind a byte leave some number
pub some_behind : (k low high b : ℕ) → low ≤ high → high < 256 ^ k * 256 → Between (low / 256 ^ k) (high / 256 ^ k) b
    → low_behind (256 ^ k) low b ≤ high_behind (256 ^ k) high b
some_behind k low high b some fits range =
    let u_some : 0 < 256 ^ k = unit_some k in
    let d = digit_below (256 ^ k) high b u_some fits range.1 in
    below_unit (256 ^ k) low high b u_some some (omega (arith, lt-next (256 ^ k) low b u_some range.0)) d.1

-- a number is found behind the byte
pub next_found : (k low high b : ℕ) (bytes rest after : List ℕ) → high < 256 ^ k * 256 → Between (low / 256 ^ k) (high / 256 ^ k) b → bytes ≡ b ∷ rest
    → BeginsNumber k (low_behind (256 ^ k) low b) (high_behind (256 ^ k) high b) rest after → BeginsNumber (suc k) low high bytes after
next_found k low high b bytes rest after fits range e s =
    let p = s.parts in
    let q = from_digits k low high fits (b ∷ (big_endian k p.0 ++ after)) (b, big_endian k p.0 ++ after, range, (p.0, after, p.1, tt, refl), refl) in
    let some : 0 < 256 ^ k = unit_some k in
    let d = digit_below (256 ^ k) high b some fits range.1 in
    let w = within_unit (256 ^ k) high b p.0 some p.1.1 in
    record {
      parts = (
        b * 256 ^ k + p.0,
        (low_enough (256 ^ k) low b p.0 p.1.0, high_enough (256 ^ k) high b p.0 d.1 w.1),
        e ∙ ap (λ (z : List ℕ). b ∷ z) p.2 ∙ ap (λ (z : List ℕ). z ++ after) (sym (big_endian_split k b p.0 d.0 w.0)),
      );
    }
