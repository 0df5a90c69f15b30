-- A token that a text may have is one piece, and is read as itself where it stands alone.
use Rattle.std.proofs.Common.{rules, ◌≡◌, ℕ, zero, suc, ◌+◌, ◌^◌, ◌<◌, ◌≤◌, ◌==◌, nat_lt, nat_le, Bool, true, false, ◌&&◌, ◌||◌, IsTrue, List, [], ◌∷◌, ◌++◌, length, get_or, map, None, Ok, refl, sym, ◌∙◌, arith}
use Rattle.std.specs.Prelude.{codes}
use Rattle.std.specs.Fmt.{decimal}
use Rattle.std.specs.List.{list_all, list_any}
use Rattle.std.specs.Str.{bytes_eq}
use Rattle.std.specs.Str.Parse.{digits_value}
use Rattle.std.proofs.lemmas.Bool.Decides.{nat_tests}
use Rattle.std.proofs.lemmas.Fmt.{decimal_is_IsNumeral, decimal_nonempty, first_decimal, decimal_digit}
use Rattle.std.proofs.lemmas.List.Folds.{list_any-append}
use Rattle.std.proofs.lemmas.Slice.Eq.{bytes_eq-Decides}
use Rattle.std.proofs.lemmas.Str.Parse.{IsNumeralModel, numerals_by_value}
use Rattle.snap_base.proofs.Booleans.{first_true, second_true, first_false, second_false}
use Rattle.aml_tokens.specs.declared.tokens.Symbol.{Symbol}
use Rattle.aml_tokens.specs.declared.tokens.Symbol.TheVariants as symbol
use Rattle.aml_tokens.specs.declared.limits.TheConstants.{LONGEST_NAME}
use Rattle.aml_tokens.specs.Token.{Token, Name, Number, Field, Sign, Let, CloseBrace}
use Rattle.aml_tokens.specs.Bytes.{is_letter, is_digit, is_word_byte, symbol_bytes, keywords}
use Rattle.aml_tokens.specs.Lexing.{joins, symbol_of, field_of, field_words, is_plain, number_token, word_token, token_in}
use Rattle.aml_tokens.specs.Names.{IsName, IsToken}
use Rattle.aml_tokens.specs.Writing.{token_bytes, in_first_line}
use Rattle.aml_tokens.proofs.Spaced.{Grows, IsGrown}

pub record IsAlone (t : Token) : Type 0 where
  pub grown : IsGrown (token_bytes t)
  pub read : token_in 1 (token_bytes t) ≡ Ok (in_first_line t)

-- ---- tests

or_false : (t : Bool) → IsTrue (t || false) → t ≡ true
or_false true h = refl
or_false false h = h

differ : (a b : List ℕ) → bytes_eq a b ≡ false → bytes_eq b a ≡ false
differ a b e = by (bytes_eq b a) refl
  where
    by : (t : Bool) → bytes_eq b a ≡ t → bytes_eq b a ≡ false
    by false f = f
    by true f = let same : bytes_eq a b ≡ true = (bytes_eq-Decides a b).1 (sym ((bytes_eq-Decides b a).0 f)) in absurd (cc (same, e))

-- ---- words grow

letter_joins : (front : List ℕ) (c b : ℕ) → is_word_byte c ≡ true → is_word_byte b ≡ true → joins (c ∷ front) b ≡ true
letter_joins [] c b h k = rw (h, k) refl
letter_joins (d ∷ front) c b h k = rw (h, k) refl

words_grow : (bs front : List ℕ) (c : ℕ) → is_word_byte c ≡ true → list_all is_word_byte bs ≡ true → Grows (c ∷ front) bs
words_grow [] front c h k = tt
words_grow (b ∷ bs) front c h k =
    (letter_joins front c b h (first_true (is_word_byte b) (list_all is_word_byte bs) k), words_grow bs (front ++ b ∷ []) c h (second_true (is_word_byte b) (list_all is_word_byte bs) k))

-- ---- names

no_symbol : (ss : List Symbol) (bytes : List ℕ) → list_any (λ (word : List ℕ). bytes_eq word bytes) (map symbol_bytes ss) ≡ false → symbol_of ss bytes ≡ None
no_symbol [] bytes h = refl
no_symbol (s ∷ ss) bytes h =
    let here : bytes_eq bytes (symbol_bytes s) ≡ false = differ (symbol_bytes s) bytes (first_false (bytes_eq (symbol_bytes s) bytes) (list_any (λ (word : List ℕ). bytes_eq word bytes) (map symbol_bytes ss)) h) in
    rw here (no_symbol ss bytes (second_false (bytes_eq (symbol_bytes s) bytes) (list_any (λ (word : List ℕ). bytes_eq word bytes) (map symbol_bytes ss)) h))

no_field : (words : List (List ℕ)) (k : ℕ) (bytes : List ℕ) → list_any (λ (word : List ℕ). bytes_eq word bytes) words ≡ false → field_of k words bytes ≡ None
no_field [] k bytes h = refl
no_field (word ∷ words) k bytes h =
    let here : bytes_eq bytes word ≡ false = differ word bytes (first_false (bytes_eq word bytes) (list_any (λ (w : List ℕ). bytes_eq w bytes) words) h) in
    rw here (no_field words (k + 1) bytes (second_false (bytes_eq word bytes) (list_any (λ (w : List ℕ). bytes_eq w bytes) words) h))

letter_no_digit : (b : ℕ) → is_letter b ≡ true → is_digit b ≡ false
letter_no_digit b h = grind (arith, nat_tests)

short_name : (n : ℕ) → n ≤ LONGEST_NAME → nat_le n LONGEST_NAME ≡ true
short_name n h = grind (arith, nat_tests)

name_read : (bytes : List ℕ) → IsName bytes → word_token 1 bytes ≡ Ok (Name (record { name = bytes; line = 1 }))
name_read bytes h =
    let free : (bytes_eq (codes "let") bytes || list_any (λ (word : List ℕ). bytes_eq word bytes) (map symbol_bytes keywords ++ field_words)) ≡ false = h.free in
    let no_let : bytes_eq bytes (codes "let") ≡ false = differ (codes "let") bytes (first_false _ _ free) in
    let apart : (list_any (λ (word : List ℕ). bytes_eq word bytes) (map symbol_bytes keywords) || list_any (λ (word : List ℕ). bytes_eq word bytes) field_words) ≡ false =
    sym (list_any-append (λ (word : List ℕ). bytes_eq word bytes) (map symbol_bytes keywords) field_words) ∙ second_false (bytes_eq (codes "let") bytes) (list_any (λ (word : List ℕ). bytes_eq word bytes) (map symbol_bytes keywords ++ field_words)) free in
    let no_keyword : symbol_of keywords bytes ≡ None = no_symbol keywords bytes (first_false _ _ apart) in
    let no_word : field_of 0 field_words bytes ≡ None = no_field field_words 0 bytes (second_false (list_any (λ (word : List ℕ). bytes_eq word bytes) (map symbol_bytes keywords)) (list_any (λ (word : List ℕ). bytes_eq word bytes) field_words) apart) in
    rw (no_let, no_keyword, no_word, short_name (length bytes) h.short) refl

name_alone : (bytes : List ℕ) → IsName bytes → (IsGrown bytes) × (token_in 1 bytes ≡ Ok (Name (record { name = bytes; line = 1 })))
name_alone [] h = let none : false ≡ true = h.first in absurd (cc none)
name_alone (b ∷ bs) h =
    let letter : is_letter b ≡ true = or_false (is_letter b) h.first in
    let all : list_all is_word_byte (b ∷ bs) ≡ true = h.bytes in (
      words_grow bs [] b (first_true (is_word_byte b) (list_all is_word_byte bs) all) (second_true (is_word_byte b) (list_all is_word_byte bs) all),
      rw (letter_no_digit b letter, letter) (name_read (b ∷ bs) h),
    )

-- ---- numbers

pub own : IsNumeralModel (λ ds. list_all is_digit ds ≡ true) (digits_value 10)
own = numerals_by_value (λ ds. list_all is_digit ds ≡ true) (search rules)

decimal_digits : (n : ℕ) → n < 2 ^ 63 → list_all is_digit (decimal n) ≡ true
decimal_digits n h = own.from (decimal n) (decimal_is_IsNumeral n (omega arith)).0.1

no_leading_zero : (n : ℕ) → n < 2 ^ 63 → get_or (decimal n) 0 0 ≡ 48 → length (decimal n) ≡ 1
no_leading_zero zero h e = rw (decimal_digit 0 (omega arith)) refl
no_leading_zero (suc n) h e = let first : 48 < get_or (decimal (suc n)) 0 0 = first_decimal (suc n) (omega arith) (omega arith) in absurd (omega arith)

no_zero : (b : ℕ) → (b ≡ 48 → ⊥) → (b == 48) ≡ false
no_zero b h = grind (arith, nat_tests)

plain : (ds : List ℕ) → list_all is_digit ds ≡ true → 0 < length ds → (get_or ds 0 0 ≡ 48 → length ds ≡ 1) → is_plain ds ≡ true
plain [] all some one = absurd (omega arith)
plain (b ∷ []) all some one = first_true (is_digit b) true all
plain (b ∷ c ∷ ds) all some one =
    let first : (b == 48) ≡ false = no_zero b (λ e. let short : length (b ∷ c ∷ ds) ≡ 1 = one e in omega arith) in
    rw (all, first) refl

digit_is_word : (b : ℕ) → is_digit b ≡ true → is_word_byte b ≡ true
digit_is_word b h = grind (arith, nat_tests)

digits_are_words : (ds : List ℕ) → list_all is_digit ds ≡ true → list_all is_word_byte ds ≡ true
digits_are_words [] h = refl
digits_are_words (b ∷ ds) h = rw (digit_is_word b (first_true (is_digit b) (list_all is_digit ds) h), digits_are_words ds (second_true (is_digit b) (list_all is_digit ds) h)) refl

small : (n : ℕ) → n < 2 ^ 63 → nat_lt n (2 ^ 63) ≡ true
small n h = grind (arith, nat_tests)

digits_alone : (ds : List ℕ) (n : ℕ) → list_all is_digit ds ≡ true → 0 < length ds → is_plain ds ≡ true → digits_value 10 ds ≡ n → n < 2 ^ 63 → (IsGrown ds) × (token_in 1 ds ≡ Ok (Number n))
digits_alone [] n all some is value h = absurd (omega arith)
digits_alone (b ∷ ds) n all some is value h =
    let digit : is_digit b ≡ true = first_true (is_digit b) (list_all is_digit ds) all in
    let words : list_all is_word_byte (b ∷ ds) ≡ true = digits_are_words (b ∷ ds) all in
    let read : number_token (b ∷ ds) ≡ Ok (Number n) = rw (is, value, small n h) refl in
    (words_grow ds [] b (first_true (is_word_byte b) (list_all is_word_byte ds) words) (second_true (is_word_byte b) (list_all is_word_byte ds) words), rw digit read)

number_alone : (n : ℕ) → n < 2 ^ 63 → (IsGrown (decimal n)) × (token_in 1 (decimal n) ≡ Ok (Number n))
number_alone n h =
    let all = decimal_digits n h in
    let some : 0 < length (decimal n) = decimal_nonempty n (omega arith) in
    digits_alone (decimal n) n all some (plain (decimal n) all some (no_leading_zero n h)) (decimal_is_IsNumeral n (omega arith)).1 h

-- ---- fields and signs, each by its bytes

abbrev grows : List ℕ → List ℕ → Bool
grows front [] = true
grows front (b ∷ bs) = joins front b && grows (front ++ b ∷ []) bs

grows_so : (bs front : List ℕ) → grows front bs ≡ true → Grows front bs
grows_so [] front h = tt
grows_so (b ∷ bs) front h = (first_true (joins front b) (grows (front ++ b ∷ []) bs) h, grows_so bs (front ++ b ∷ []) (second_true (joins front b) (grows (front ++ b ∷ []) bs) h))

field_alone : (k line : ℕ) → k < 16 → IsAlone (Field k line)
field_alone zero line h = record { grown = grows_so (codes "0") (codes "f") refl; read = refl }
field_alone (suc zero) line h = record { grown = grows_so (codes "1") (codes "f") refl; read = refl }
field_alone (suc (suc zero)) line h = record { grown = grows_so (codes "2") (codes "f") refl; read = refl }
field_alone (suc (suc (suc zero))) line h = record { grown = grows_so (codes "3") (codes "f") refl; read = refl }
field_alone (suc (suc (suc (suc zero)))) line h = record { grown = grows_so (codes "4") (codes "f") refl; read = refl }
field_alone (suc (suc (suc (suc (suc zero))))) line h = record { grown = grows_so (codes "5") (codes "f") refl; read = refl }
field_alone (suc (suc (suc (suc (suc (suc zero)))))) line h = record { grown = grows_so (codes "6") (codes "f") refl; read = refl }
field_alone (suc (suc (suc (suc (suc (suc (suc zero))))))) line h = record { grown = grows_so (codes "7") (codes "f") refl; read = refl }
field_alone (suc (suc (suc (suc (suc (suc (suc (suc zero)))))))) line h = record { grown = grows_so (codes "8") (codes "f") refl; read = refl }
field_alone (suc (suc (suc (suc (suc (suc (suc (suc (suc zero))))))))) line h = record { grown = grows_so (codes "9") (codes "f") refl; read = refl }
field_alone (suc (suc (suc (suc (suc (suc (suc (suc (suc (suc zero)))))))))) line h = record { grown = grows_so (codes "10") (codes "f") refl; read = refl }
field_alone (suc (suc (suc (suc (suc (suc (suc (suc (suc (suc (suc zero))))))))))) line h = record { grown = grows_so (codes "11") (codes "f") refl; read = refl }
field_alone (suc (suc (suc (suc (suc (suc (suc (suc (suc (suc (suc (suc zero)))))))))))) line h = record { grown = grows_so (codes "12") (codes "f") refl; read = refl }
field_alone (suc (suc (suc (suc (suc (suc (suc (suc (suc (suc (suc (suc (suc zero))))))))))))) line h = record { grown = grows_so (codes "13") (codes "f") refl; read = refl }
field_alone (suc (suc (suc (suc (suc (suc (suc (suc (suc (suc (suc (suc (suc (suc zero)))))))))))))) line h = record { grown = grows_so (codes "14") (codes "f") refl; read = refl }
field_alone (suc (suc (suc (suc (suc (suc (suc (suc (suc (suc (suc (suc (suc (suc (suc zero))))))))))))))) line h = record { grown = grows_so (codes "15") (codes "f") refl; read = refl }
field_alone (suc (suc (suc (suc (suc (suc (suc (suc (suc (suc (suc (suc (suc (suc (suc (suc k)))))))))))))))) line h = absurd (omega (arith, h))

sign_alone : (s : Symbol) → IsAlone (Sign s)
sign_alone symbol.Method = record { grown = grows_so (codes "ethod") (codes "m") refl; read = refl }
sign_alone symbol.Read = record { grown = grows_so (codes "ead") (codes "r") refl; read = refl }
sign_alone symbol.If = record { grown = grows_so (codes "f") (codes "i") refl; read = refl }
sign_alone symbol.Else = record { grown = grows_so (codes "lse") (codes "e") refl; read = refl }
sign_alone symbol.While = record { grown = grows_so (codes "hile") (codes "w") refl; read = refl }
sign_alone symbol.Call = record { grown = grows_so (codes "all") (codes "c") refl; read = refl }
sign_alone symbol.Fail = record { grown = grows_so (codes "ail") (codes "f") refl; read = refl }
sign_alone symbol.Return = record { grown = grows_so (codes "eturn") (codes "r") refl; read = refl }
sign_alone symbol.Own = record { grown = grows_so (codes "elf") (codes "s") refl; read = refl }
sign_alone symbol.And = record { grown = grows_so (codes "nd") (codes "a") refl; read = refl }
sign_alone symbol.Or = record { grown = grows_so (codes "r") (codes "o") refl; read = refl }
sign_alone symbol.Open = record { grown = tt; read = refl }
sign_alone symbol.Close = record { grown = tt; read = refl }
sign_alone symbol.OpenBrace = record { grown = tt; read = refl }
sign_alone symbol.Comma = record { grown = tt; read = refl }
sign_alone symbol.Semicolon = record { grown = tt; read = refl }
sign_alone symbol.Assign = record { grown = tt; read = refl }
sign_alone symbol.Equal = record { grown = grows_so (codes "=") (codes "=") refl; read = refl }
sign_alone symbol.NotEqual = record { grown = grows_so (codes "=") (codes "!") refl; read = refl }
sign_alone symbol.Less = record { grown = tt; read = refl }
sign_alone symbol.LessOrEqual = record { grown = grows_so (codes "=") (codes "<") refl; read = refl }
sign_alone symbol.Greater = record { grown = tt; read = refl }
sign_alone symbol.GreaterOrEqual = record { grown = grows_so (codes "=") (codes ">") refl; read = refl }
sign_alone symbol.Plus = record { grown = tt; read = refl }
sign_alone symbol.Minus = record { grown = tt; read = refl }
sign_alone symbol.Times = record { grown = tt; read = refl }
sign_alone symbol.Over = record { grown = tt; read = refl }
sign_alone symbol.Remainder = record { grown = tt; read = refl }

pub token_alone : (t : Token) → IsToken t → IsAlone t
token_alone (Name w) h = let a = name_alone w.name h in record { grown = a.0; read = a.1 }
token_alone (Number n) h = let a = number_alone n h in record { grown = a.0; read = a.1 }
token_alone (Field k line) h = field_alone k line h
token_alone (Sign s) h = sign_alone s
token_alone (Let line) h = record { grown = grows_so (codes "et") (codes "l") refl; read = refl }
token_alone (CloseBrace line) h = record { grown = tt; read = refl }
