-- Numbers and fields, one step at a time.
use Rattle.std.proofs.Common.{◌≡◌, ℕ, ◌+◌, ◌-◌, ◌*◌, ◌^◌, ◌<◌, min, true, false, List, [], length, get_or, take, drop, refl, arith}
use Rattle.std.specs.Char.{digit_value}
use Rattle.std.specs.List.{list_all}
use Rattle.std.specs.Str.{bytes_eq}
use Rattle.std.specs.Str.Parse.{digits_value}
use Rattle.std.proofs.lemmas.Bool.Decides.{nat_tests}
use Rattle.std.proofs.lemmas.Int.Digits.{digits_value_more}
use Rattle.std.proofs.lemmas.List.{drop_more}
use Rattle.std.proofs.lemmas.List.Recursion.{and_at}
use Rattle.aml_tokens.specs.Bytes.{is_digit}
use Rattle.aml_tokens.specs.Lexing.{field_of}

digit_is : (c : ℕ) → is_digit c ≡ true → digit_value c ≡ c - 48
digit_is c h = grind (arith, nat_tests)

saturated : (v n d m a r w : ℕ) → n ≡ min v (2 ^ 63) → m ≡ min (n * 10) (2 ^ 64 - 1) → a ≡ min (m + d) (2 ^ 64 - 1) → r ≡ min a (2 ^ 63) → w ≡ v * 10 + d → r ≡ min w (2 ^ 63)
saturated v n d m a r w en em ea er ew = omega arith

pub one_digit_more : (ds : List ℕ) (i n d m a r : ℕ) → list_all is_digit ds ≡ true → i < length ds → d ≡ get_or ds i 0 - 48
    → n ≡ min (digits_value 10 (take i ds)) (2 ^ 63) → m ≡ min (n * 10) (2 ^ 64 - 1) → a ≡ min (m + d) (2 ^ 64 - 1) → r ≡ min a (2 ^ 63)
    → r ≡ min (digits_value 10 (take (i + 1) ds)) (2 ^ 63)
one_digit_more ds i n d m a r all lt ed en em ea er =
    let digit : is_digit (get_or ds i 0) ≡ true = and_at (list_all is_digit) is_digit refl (λ _ _. refl) ds i 0 lt all in
    let value : digit_value (get_or ds i 0) ≡ get_or ds i 0 - 48 = digit_is (get_or ds i 0) digit in
    let more : digits_value 10 (take (i + 1) ds) ≡ digits_value 10 (take i ds) * 10 + digit_value (get_or ds i 0) = digits_value_more 10 ds i lt in
    saturated (digits_value 10 (take i ds)) n d m a r (digits_value 10 (take (i + 1) ds)) en em ea er (omega arith)

pub another_field : (words : List (List ℕ)) (bytes : List ℕ) (k : ℕ) → k < length words → bytes_eq bytes (get_or words k []) ≡ false → field_of k (drop k words) bytes ≡ field_of (k + 1) (drop (k + 1) words) bytes
another_field words bytes k lt h = rw (drop_more words k [] lt, h) refl
