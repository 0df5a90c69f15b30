-- What a parse gives of a word that begins plainly.
use Rattle.std.proofs.Common.{◌≡◌, ◌≢◌, ℕ, ◌<◌, ◌^◌, List, [], ◌∷◌, length, get_or, drop, Ok, Err, Result, Some, Option, refl, sym, ap, ◌∙◌, arith, inl, inr, zero, suc}
use Rattle.std.specs.Prelude.{ℤ, pos, negsuc, FitsSigned, IfSome, IfOk}
use Rattle.std.specs.Int.{w64}
use Rattle.std.specs.Str.{IsUtf8}
use Rattle.std.specs.Fmt.{decimal, signed_decimal}
use Rattle.std.specs.Str.Parse.{AllDigits, digits_value, ParsesUnsigned, ParsesSigned}
use Rattle.std.specs.Result.{result_ok}
use lib.Signed.{mag}
use Rattle.std.proofs.Math.IntN.{neg_ℤ}
use Rattle.std.proofs.lemmas.Str.Parse.{IsNumeralModel, numerals_by_value, tells_digits, parse_plain, parse_signed_plain, parse_signed_minus}
use Rattle.std.proofs.lemmas.Str.{IsUtf8-from_ascii}
use Rattle.std.proofs.lemmas.Fmt.{IsAscii-signed, decimal-digits_value, parse-decimal, parse-signed_decimal, decimal_nonempty, first_decimal, IsAscii-decimal, decimal_digit}
use Rattle.decimal_words.specs.Plain.{IsPlain, IsSignedPlain}

numerals : IsNumeralModel (AllDigits 10) (digits_value 10)
numerals = numerals_by_value _ tells_digits

-- a plain word that is read spells what is read
pub spells_read : {E : Type 0} (word : List ℕ) (r : Result ℕ E) → IsPlain word → ParsesUnsigned 64 10 word r → IfOk r (λ n. word ≡ decimal n)
spells_read {E} word (Ok n) p h =
    let read = parse_plain numerals {E = E} 64 word (Ok n) h p.no_plus in
    rw read.1 (sym (decimal-digits_value numerals word read.0.0 p.some p.no_zero read.0.2))
spells_read word (Err e) p h = tt

first_rest : (word : List ℕ) → 0 < length word → word ≡ get_or word 0 0 ∷ drop 1 word
first_rest [] some = absurd (omega arith)
first_rest (b ∷ bs) some = refl

second_is : (word : List ℕ) → get_or (drop 1 word) 0 0 ≡ get_or word 1 0
second_is [] = refl
second_is (b ∷ bs) = refl

-- what stands behind a '-' spells no 0
spells_negative : (v : ℕ) → 0 < v → signed_decimal (neg_ℤ (pos v)) ≡ 45 ∷ decimal v
spells_negative zero some = absurd (omega arith)
spells_negative (suc v) some = refl

positive_from_first : (v : ℕ) (ds : List ℕ) → decimal v ≡ ds → get_or ds 0 0 ≢ 48 → 0 < v
positive_from_first zero ds e n = absurd (n (rw (sym e) (ap (λ ds. get_or ds 0 0) (decimal_digit 0 (omega arith)))))
positive_from_first (suc v) ds e n = omega arith

pub spells_signed_read : {E : Type 0} (word : List ℕ) (r : Result ℤ E) → IsSignedPlain word → ParsesSigned w64 10 word r → IfOk r (λ z. word ≡ signed_decimal z)
spells_signed_read {E} word (Ok z) (inl p) h =
    let read = parse_signed_minus numerals {E = E} w64 word (Ok z) h p.minus in
    let first : get_or (drop 1 word) 0 0 ≢ 48 = rw (second_is word) p.no_zero in
    let rest : decimal (digits_value 10 (drop 1 word)) ≡ drop 1 word = decimal-digits_value numerals (drop 1 word) read.0.0 read.0.1 (λ e. absurd (first e)) (omega (arith, read.0.2)) in
    rw read.1 (rw (spells_negative _ (positive_from_first _ _ rest first)) (rw rest (rw (sym p.minus) (first_rest word (omega (arith, p.more))))))
spells_signed_read {E} word (Ok z) (inr p) h =
    let read = parse_signed_plain numerals {E = E} w64 word (Ok z) h p.plain.no_plus p.no_minus in
    rw read.1 (sym (decimal-digits_value numerals word read.0.0 p.plain.some p.plain.no_zero (omega (arith, read.0.2))))
spells_signed_read word (Err e) p h = tt

-- a spelling is plain
IsPlain_decimal : (n : ℕ) → n < 2 ^ 64 → IsPlain (decimal n)
IsPlain_decimal zero small = rw (decimal_digit 0 (omega arith)) (record { some = omega arith; no_plus = λ e. omega arith; no_zero = λ _. refl })
IsPlain_decimal (suc n) small =
    let first : 48 < get_or (decimal (suc n)) 0 0 = first_decimal (suc n) (omega arith) small in
    record { some = decimal_nonempty (suc n) small; no_plus = λ e. omega arith; no_zero = λ e. absurd (omega arith) }

pub IsPlain-decimal : (word : List ℕ) (n : ℕ) → n < 2 ^ 64 → word ≡ decimal n → IsPlain word
IsPlain-decimal word n small e = rw e (IsPlain_decimal n small)

-- no spelling begins with '-'
no_minus_decimal : (n : ℕ) → n < 2 ^ 64 → get_or (decimal n) 0 0 ≢ 45
no_minus_decimal zero small = rw (decimal_digit 0 (omega arith)) (λ e. omega arith)
no_minus_decimal (suc n) small = let first : 48 < get_or (decimal (suc n)) 0 0 = first_decimal (suc n) (omega arith) small in λ e. omega arith

pub magnitude : (z : ℤ) → FitsSigned w64 z → mag z < 2 ^ 63
magnitude (pos n) fits = omega (arith, fits)
magnitude (negsuc n) fits = omega (arith, fits)

IsSignedPlain_signed_decimal : (z : ℤ) → FitsSigned w64 z → IsSignedPlain (signed_decimal z)
IsSignedPlain_signed_decimal (pos n) fits =
    let small : n < 2 ^ 64 = omega (arith, magnitude (pos n) fits) in
    inr (record { plain = IsPlain_decimal n small; no_minus = no_minus_decimal n small })
IsSignedPlain_signed_decimal (negsuc n) fits =
    let small : suc n < 2 ^ 64 = omega (arith, magnitude (negsuc n) fits) in
    let some : 0 < length (decimal (suc n)) = decimal_nonempty (suc n) small in
    let first : 48 < get_or (decimal (suc n)) 0 0 = first_decimal (suc n) (omega arith) small in
    inl (record { more = omega arith; minus = refl; no_zero = λ e. omega arith })

pub IsSignedPlain-signed_decimal : (word : List ℕ) (z : ℤ) → FitsSigned w64 z → word ≡ signed_decimal z → IsSignedPlain word
IsSignedPlain-signed_decimal word z fits e = rw e (IsSignedPlain_signed_decimal z fits)

-- and it is text
pub IsUtf8-decimal : (word : List ℕ) (n : ℕ) → n < 2 ^ 64 → word ≡ decimal n → IsUtf8 word
IsUtf8-decimal word n small e = rw e (IsUtf8-from_ascii _ (IsAscii-decimal n small))

pub IsUtf8-signed_decimal : (word : List ℕ) (z : ℤ) → FitsSigned w64 z → word ≡ signed_decimal z → IsUtf8 word
IsUtf8-signed_decimal word z fits e = rw e (IsUtf8-from_ascii _ (IsAscii-signed z (magnitude z fits)))

-- what a reading keeps of its result
pub IfSome-result_ok : {T E : Type 0} (P : T → Type 0) (r : Result T E) (o : Option T) → o ≡ result_ok r → IfOk r P → IfSome o P
IfSome-result_ok P (Ok x) o e h = rw e h
IfSome-result_ok P (Err x) o e h = rw e tt

pub decimal_read : {E : Type 0} (word : List ℕ) (n : ℕ) (r : Result ℕ E) (o : Option ℕ) → n < 2 ^ 64 → word ≡ decimal n → ParsesUnsigned 64 10 word r → o ≡ result_ok r → o ≡ Some n
decimal_read {E} word n r o small e h k = k ∙ ap result_ok (parse-decimal {E = E} 64 n word r small small e h)

pub signed_decimal_read : {E : Type 0} (word : List ℕ) (z : ℤ) (r : Result ℤ E) (o : Option ℤ) → FitsSigned w64 z → word ≡ signed_decimal z → ParsesSigned w64 10 word r → o ≡ result_ok r → o ≡ Some z
signed_decimal_read {E} word z r o fits e h k = k ∙ ap result_ok (parse-signed_decimal {E = E} w64 z word r fits (magnitude z fits) e h)
