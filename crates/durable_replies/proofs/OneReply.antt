-- A reply's line whose numbers are of their types is the line of that reply alone, whatever the numbers of others.
use Rattle.std.specs.Prelude.{◌≡◌, refl, ℕ, zero, suc, ◌+◌, ◌/◌, ◌%◌, ◌<◌, ◌≤◌, ◌==◌, ◌^◌, ℤ, pos, negsuc, Bool, true, false, if◌then◌else◌, List, [], ◌∷◌, ◌++◌, length, FitsSigned}
use Rattle.std.specs.Int.{w64}
use Rattle.std.specs.Fmt.{decimal, signed_decimal, digits, digits_onto, digit_glyph}
use Rattle.std.specs.Str.Parse.{digits_value}
use Rattle.std.proofs.Common.{arith, sym, ap, ◌∙◌, inl, inr}
use Rattle.std.proofs.Math.Nat.{pow-suc}
use Rattle.std.proofs.lemmas.Bool.{cases_lt, eqb-true}
use Rattle.std.proofs.lemmas.Fmt.{decimal_is_IsNumeral_wide, length-decimal-le}
use Rattle.std.proofs.lemmas.List.{append_cancel_right}
use Rattle.protocol.specs.Verdicts.{place}
use Rattle.snap_base.specs.Text.{place_text, verdict_text}
use Rattle.snap_base.specs.declared.verdicts.Place.{Place}
use Rattle.snap_base.specs.declared.verdicts.Verdict.TheVariants.{Committed}
use Rattle.snap_report.specs.Lines.{line_end, reply_text}
use Rattle.trace_text.specs.Reads.{LacksByte}
use Rattle.trace_text.proofs.Cuts.{cut_one, free_append, no_cut_of}
use Rattle.audit_words.specs.Papers.{IsPlaceInRange}
use Rattle.durable_replies.proofs.Printed.{number_lacks}

-- ---- numbers

either_long : (t : Bool) (xs ys : List ℕ) (m : ℕ) → m ≤ length xs → m ≤ length ys → m ≤ length (if t then xs else ys)
either_long true xs ys m h k = h
either_long false xs ys m h k = k

grows : (k n : ℕ) (acc : List ℕ) → length acc ≤ length (digits_onto k 10 false n acc)
grows zero n acc = omega arith
grows (suc k) n acc =
    let more : List ℕ = digit_glyph false (n % 10) ∷ acc in
    let longer : length acc ≤ length more = omega arith in
    either_long (n / 10 == 0) more (digits_onto k 10 false (n / 10) more) (length acc) longer (omega (arith, longer, grows k (n / 10) more))

some_power : (j : ℕ) → 1 ≤ 10 ^ j
some_power zero = omega arith
some_power (suc j) = omega (arith, some_power j, pow-suc 10 j)

-- a number from 10 ^ j on has more than j digits, where so many are written
long_digits : (j k n : ℕ) (acc : List ℕ) → j ≤ k → 10 ^ j ≤ n → j + length acc ≤ length (digits_onto k 10 false n acc)
long_digits zero k n acc le big = omega (arith, grows k n acc)
long_digits (suc j) zero n acc le big = absurd (omega (arith, le))
long_digits (suc j) (suc k) n acc le big = by (n / 10 == 0) refl (λ more. long_digits j k (n / 10) (digit_glyph false (n % 10) ∷ acc) (omega (arith, le)) more)
  where
    by : (t : Bool) → (n / 10 == 0) ≡ t → (10 ^ j ≤ n / 10 → j + length (digit_glyph false (n % 10) ∷ acc) ≤ length (digits_onto k 10 false (n / 10) (digit_glyph false (n % 10) ∷ acc)))
        → suc j + length acc ≤ length (if t then digit_glyph false (n % 10) ∷ acc else digits_onto k 10 false (n / 10) (digit_glyph false (n % 10) ∷ acc))
    by true e behind = let none : n / 10 ≡ 0 = eqb-true (n / 10) 0 e in absurd (omega (arith, none, big, some_power j, pow-suc 10 j))
    by false e behind = omega (arith, behind (omega (arith, big, pow-suc 10 j)))

long_number : (n : ℕ) → 10 ^ 21 ≤ n → 21 ≤ length (decimal n)
unfolding digits
long_number n big = long_digits 21 64 n [] (omega arith) big

-- what is written as a number of 64 bits is that number
number_one : (m n : ℕ) → m < 2 ^ 64 → decimal m ≡ decimal n → m ≡ n
number_one m n small e = elim (cases_lt n (10 ^ 21)) [
  | inl fits ↦
      sym (decimal_is_IsNumeral_wide m (omega (arith, small))).1 ∙ (ap (λ (ds : List ℕ). digits_value 10 ds) e ∙ (decimal_is_IsNumeral_wide n (omega (arith, fits))).1)
  | inr big ↦
      let long : 21 ≤ length (decimal n) = long_number n big in
      let same : length (decimal m) ≡ length (decimal n) = ap length e in
      absurd (omega (arith, long, same, length-decimal-le 20 m (omega arith) (omega (arith, small)) small))
]

no_minus : (m n : ℕ) → decimal m ≡ 45 ∷ decimal n → ⊥
no_minus m n e = no_cut_of 45 (decimal m) [] (decimal n) (number_lacks 45 m (omega arith)) e

signed_one : (y z : ℤ) → FitsSigned w64 y → signed_decimal y ≡ signed_decimal z → y ≡ z
signed_one (pos m) (pos n) f e = ap pos (number_one m n (omega (arith, f)) e)
signed_one (pos m) (negsuc n) f e = absurd (no_minus m (suc n) e)
signed_one (negsuc m) (pos n) f e = absurd (no_minus n (suc m) (sym e))
signed_one (negsuc m) (negsuc n) f e =
    let h : decimal (suc m) ≡ decimal (suc n) = cc e in
    ap negsuc (omega (arith, number_one (suc m) (suc n) (omega (arith, f)) h))

-- ---- places

place_lacks : (p : Place) → LacksByte 32 (place_text p)
place_lacks p =
    free_append 32 (decimal p.batch.0) _ (number_lacks 32 p.batch.0 (omega arith))
    (refl, free_append 32 (decimal p.side) _ (number_lacks 32 p.side (omega arith)) (refl, number_lacks 32 p.order (omega arith)))

place_one : (p q : Place) → IsPlaceInRange p → place_text p ≡ place_text q → p ≡ q
place_one p q f e =
    let a = cut_one 46 (decimal p.batch.0) (decimal p.side ++ 46 ∷ decimal p.order) (decimal q.batch.0) (decimal q.side ++ 46 ∷ decimal q.order) (number_lacks 46 p.batch.0 (omega arith)) (number_lacks 46 q.batch.0 (omega arith)) e in
    let b = cut_one 46 (decimal p.side) (decimal p.order) (decimal q.side) (decimal q.order) (number_lacks 46 p.side (omega arith)) (number_lacks 46 q.side (omega arith)) a.1 in
    ap (λ (k : ℕ). place k p.side p.order) (number_one p.batch.0 q.batch.0 f.0 a.0)
    ∙ (ap (λ (s : ℕ). place q.batch.0 s p.order) (number_one p.side q.side (omega (arith, f.1)) b.0) ∙ ap (place q.batch.0 q.side) (number_one p.order q.order f.2 b.1))

-- ---- the line

-- what the line tells
pub record IsSameReply (n m : ℕ) (p q : Place) (y z : ℤ) : Type 0 where
  pub tx : n ≡ m
  pub place : p ≡ q
  pub value : y ≡ z

pub one_reply : (n m : ℕ) (p q : Place) (y z : ℤ) → n < 2 ^ 32 → IsPlaceInRange p → FitsSigned w64 y → reply_text n (Committed p y) ≡ reply_text m (Committed q z) → IsSameReply n m p q y z
one_reply n m p q y z f g h e =
    let all : decimal n ++ 32 ∷ (verdict_text (Committed p y) ++ line_end) ≡ decimal m ++ 32 ∷ (verdict_text (Committed q z) ++ line_end) = cc e in
    let k = cut_one 32 (decimal n) _ (decimal m) _ (number_lacks 32 n (omega arith)) (number_lacks 32 m (omega arith)) all in
    let told : verdict_text (Committed p y) ≡ verdict_text (Committed q z) = append_cancel_right (verdict_text (Committed p y)) (verdict_text (Committed q z)) line_end k.1 in
    let behind : place_text p ++ 32 ∷ signed_decimal y ≡ place_text q ++ 32 ∷ signed_decimal z = cc told in
    let cut = cut_one 32 (place_text p) (signed_decimal y) (place_text q) (signed_decimal z) (place_lacks p) (place_lacks q) behind in
    record { tx = number_one n m (omega (arith, f)) k.0; place = place_one p q g cut.0; value = signed_one y z h cut.1 }
