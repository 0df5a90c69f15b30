-- The text of the JSON of a summary.
use Rattle.std.proofs.Common.{◌≡◌, ℕ, suc, ◌<◌, ◌≤◌, ◌^◌, List, [], ◌∷◌, ◌++◌, pos, negsuc, codes, decimal, refl, ap, ◌∙◌, arith, append_assoc, ne_eqb, le-ltb}
use Rattle.std.proofs.lemmas.Fmt.{decimal_is_IsNumeral_wide}
use Rattle.std.specs.Char.{digit_value}
use Rattle.std.specs.Fmt.{signed_decimal}
use Rattle.std.specs.Str.Parse.{AllDigits}
use Rattle.std.specs.Int.{w128}
use Rattle.std.specs.Prelude.{ℤ, FitsSigned}
use Rattle.json.specs.Print.{escape, escape_byte, quoted}
use Rattle.serde_json.specs.Written.{compact_text}
use Rattle.serde_json.proofs.OnLiterals.{serde_json_on_literals}
use Rattle.snap_report.specs.Summaries.{summary_data, summary_object}
use Rattle.snap_report.specs.declared.summaries.Summary.{Summary}

-- ---- a number in a string is written as it is

is_digit : (d : ℕ) → digit_value d < 10 → (48 ≤ d) × (d < 58)
is_digit d h = grind arith

plain_byte : (d : ℕ) → 48 ≤ d → d < 58 → escape_byte d ≡ d ∷ []
unfolding escape_byte
plain_byte d low high = rw (
  ne_eqb d 34 (λ e. omega arith),
  ne_eqb d 92 (λ e. omega arith),
  ne_eqb d 8 (λ e. omega arith),
  ne_eqb d 12 (λ e. omega arith),
  ne_eqb d 10 (λ e. omega arith),
  ne_eqb d 13 (λ e. omega arith),
  ne_eqb d 9 (λ e. omega arith),
  le-ltb d 32 (omega arith),
) refl

digits_plain : (ds : List ℕ) → AllDigits 10 ds → escape ds ≡ ds
digits_plain [] h = refl
digits_plain (d ∷ ds) h = rw (plain_byte d (is_digit d h.0).0 (is_digit d h.0).1) (ap (λ l. d ∷ l) (digits_plain ds h.1))

minus_byte : escape_byte 45 ≡ 45 ∷ []
unfolding escape_byte
minus_byte = refl

decimal_plain : (n : ℕ) → n ≤ 2 ^ 127 → escape (decimal n) ≡ decimal n
decimal_plain n h = digits_plain (decimal n) (decimal_is_IsNumeral_wide n (omega arith)).0.1

signed_plain : (z : ℤ) → FitsSigned w128 z → escape (signed_decimal z) ≡ signed_decimal z
signed_plain (pos n) fits = decimal_plain n (omega (arith, fits))
signed_plain (negsuc n) fits = rw minus_byte (ap (λ l. 45 ∷ l) (decimal_plain (suc n) (omega (arith, fits))))

quoted_number : (z : ℤ) (rest : List ℕ) → FitsSigned w128 z → quoted (signed_decimal z) ++ rest ≡ codes "\"" ++ (signed_decimal z ++ (codes "\"" ++ rest))
quoted_number z rest fits = ap (λ l. (34 ∷ (l ++ 34 ∷ [])) ++ rest) (signed_plain z fits) ∙ ap (λ l. 34 ∷ l) (append_assoc (signed_decimal z) (34 ∷ []) rest)

-- ---- the object

pub object_is : (s : Summary) → FitsSigned w128 s.total → compact_text (summary_data s) ≡ summary_object s
unfolding serde_json_on_literals
object_is s fits =
    ap (λ l. codes "{\"aborted\":" ++ (decimal s.aborted ++ (codes ",\"batches\":" ++ (decimal s.batches ++ (codes ",\"committed\":" ++ (decimal s.committed
    ++ (codes ",\"events\":" ++ (decimal s.events ++ (codes ",\"total\":" ++ l)))))))))
    (quoted_number s.total (codes ",\"transactions\":" ++ (decimal s.transactions ++ codes "}")) fits)
