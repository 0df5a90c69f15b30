-- Lines of plain bytes: a text's lines, a line's words.
use Rattle.std.proofs.Common.{◌≡◌, ℕ, zero, suc, ◌+◌, ◌*◌, ◌<◌, ◌≤◌, ◌^◌, Bool, true, false, not, List, [], ◌∷◌, ◌++◌, length, map, refl, arith, ap, ◌∙◌, eqb, append_assoc, length-append}
use Rattle.std.specs.Prelude.{◌==◌, ◌&&◌, nat_lt, slice_index}
use Rattle.std.specs.List.{AllByRecursion, list_all, onto_first}
use Rattle.std.specs.Fmt.{decimal}
use Rattle.std.specs.Str.{IsUtf8}
use Rattle.std.proofs.lemmas.Bool.{ne_eqb, lt-ltb, ltb-true, and_from}
use Rattle.std.proofs.lemmas.Fmt.{decimal-digits_of, decimal_digit}
use Rattle.std.proofs.lemmas.Int.Digits.{all_below_base_digits_of}
use Rattle.std.proofs.lemmas.List.Folds.{list_all-append}
use Rattle.std.proofs.lemmas.List.Splits.{slice_split-cons_no}
use Rattle.std.proofs.lemmas.Str.{IsUtf8-append, IsUtf8-from_ascii, IsUtf8-nil}
use Rattle.snap_base.proofs.Booleans.{first_true, second_true, not_false}
use Rattle.snap_base.specs.Lines.{lines, onto_line}
use Rattle.work_text.specs.Lines.{text_of, words, says}
use Rattle.work_text.proofs.TextLines.{lines_step}

-- ASCII, and no line feed
abbrev pub line_byte : ℕ → Bool
line_byte b = nat_lt b 128 && not (b == 10)

-- and no blank
abbrev pub word_byte : ℕ → Bool
word_byte b = line_byte b && not (b == 32)

abbrev pub IsLine : List ℕ → Type 0
IsLine line = list_all line_byte line ≡ true

abbrev pub IsPlain : List ℕ → Type 0
IsPlain word = list_all word_byte word ≡ true

-- ---- bytes

no_feed : (b : ℕ) → line_byte b ≡ true → eqb b 10 ≡ false
no_feed b e = not_false (eqb b 10) (second_true (nat_lt b 128) (not (eqb b 10)) e)

no_blank : (b : ℕ) → word_byte b ≡ true → eqb b 32 ≡ false
no_blank b e = not_false (eqb b 32) (second_true (line_byte b) (not (eqb b 32)) e)

pub line_word : (word : List ℕ) → IsPlain word → IsLine word
line_word [] e = refl
line_word (b ∷ bs) e =
    and_from (line_byte b) (list_all line_byte bs) (first_true (line_byte b) (not (eqb b 32)) (first_true (word_byte b) (list_all word_byte bs) e)) (line_word bs (second_true (word_byte b) (list_all word_byte bs) e))

pub line_append : (xs ys : List ℕ) → IsLine xs → IsLine ys → IsLine (xs ++ ys)
line_append xs ys e f = list_all-append line_byte xs ys ∙ and_from (list_all line_byte xs) (list_all line_byte ys) e f

pub word_append : (xs ys : List ℕ) → IsPlain xs → IsPlain ys → IsPlain (xs ++ ys)
word_append xs ys e f = list_all-append word_byte xs ys ∙ and_from (list_all word_byte xs) (list_all word_byte ys) e f

-- ---- numbers

below : (d n : ℕ) → d < n → nat_lt d n ≡ true
below d n lt = lt-ltb d n lt

digit : (d : ℕ) → d < 10 → word_byte (48 + d) ≡ true
digit d lt =
    rw (below (48 + d) 128 (omega (arith, lt)), ne_eqb (48 + d) 10 (λ e. omega (arith, e)), ne_eqb (48 + d) 32 (λ e. omega (arith, e))) refl

digits : (ds : List ℕ) → AllByRecursion (λ d. d < 10) ds → IsPlain (map (λ d. 48 + d) ds)
digits [] all = refl
digits (d ∷ ds) all = and_from (word_byte (48 + d)) (list_all word_byte (map (λ d. 48 + d) ds)) (digit d all.0) (digits ds all.1)

pub plain_number : (n : ℕ) → n < 2 ^ 64 → IsPlain (decimal n)
plain_number zero fits = rw (decimal_digit zero (omega arith)) refl
plain_number (suc n) fits = rw (decimal-digits_of (suc n) (omega arith) fits) (digits _ (all_below_base_digits_of 10 (suc n) (omega arith)))

-- ---- words

pub words_front : (word rest : List ℕ) → IsPlain word → words (word ++ 32 ∷ rest) ≡ word ∷ words rest
words_front [] rest e = refl
words_front (b ∷ bs) rest e =
    slice_split-cons_no (λ b. b == 32) b (bs ++ 32 ∷ rest) (no_blank b (first_true (word_byte b) (list_all word_byte bs) e))
    ∙ ap (onto_first b) (words_front bs rest (second_true (word_byte b) (list_all word_byte bs) e))

pub words_last : (word : List ℕ) → IsPlain word → words word ≡ word ∷ []
words_last [] e = refl
words_last (b ∷ bs) e =
    slice_split-cons_no (λ b. b == 32) b bs (no_blank b (first_true (word_byte b) (list_all word_byte bs) e)) ∙ ap (onto_first b) (words_last bs (second_true (word_byte b) (list_all word_byte bs) e))

-- ---- texts

-- a line that the reader does not skip, of at most 100 bytes
pub record IsKept (line : List ℕ) : Type 0 where
  pub plain : IsLine line
  pub short : length line ≤ 100
  pub said : says line ≡ true

lines_front : (front rest : List ℕ) → IsLine front → lines (front ++ 10 ∷ rest) ≡ front ∷ lines rest
lines_front [] rest e = refl
lines_front (b ∷ bs) rest e =
    lines_step false b (bs ++ 10 ∷ rest) (no_feed b (first_true (line_byte b) (list_all line_byte bs) e)) ∙ ap (onto_line b) (lines_front bs rest (second_true (line_byte b) (list_all line_byte bs) e))

pub lines_of : (ls : List (List ℕ)) → AllByRecursion IsKept ls → lines (text_of ls) ≡ ls
lines_of [] all = refl
lines_of (l ∷ ls) all =
    ap lines (append_assoc l (10 ∷ []) (text_of ls)) ∙ lines_front l (text_of ls) all.0.plain ∙ ap (λ more. l ∷ more) (lines_of ls all.1)

ascii_line : (line : List ℕ) → IsLine line → (i : ℕ) → slice_index line i < 128
ascii_line [] e i = omega arith
ascii_line (b ∷ bs) e zero = let h = first_true (nat_lt b 128) (not (eqb b 10)) (first_true (line_byte b) (list_all line_byte bs) e) in ltb-true b 128 h
ascii_line (b ∷ bs) e (suc i) = ascii_line bs (second_true (line_byte b) (list_all line_byte bs) e) i

feed : (i : ℕ) → slice_index (10 ∷ []) i < 128
feed zero = omega arith
feed (suc i) = omega arith

pub utf8_of : (ls : List (List ℕ)) → AllByRecursion IsKept ls → IsUtf8 (text_of ls)
utf8_of [] all = IsUtf8-nil
utf8_of (l ∷ ls) all =
    IsUtf8-append (l ++ 10 ∷ []) (text_of ls) (IsUtf8-append l (10 ∷ []) (IsUtf8-from_ascii l (ascii_line l all.0.plain)) (IsUtf8-from_ascii (10 ∷ []) feed)) (utf8_of ls all.1)

pub length_of : (ls : List (List ℕ)) → AllByRecursion IsKept ls → length (text_of ls) ≤ 101 * length ls
length_of [] all = omega arith
length_of (l ∷ ls) all =
    omega (arith, length-append (l ++ 10 ∷ []) (text_of ls), length-append l (10 ∷ []), all.0.short, length_of ls all.1)
