-- What begins and goes on a token: bytes below 128, and no line feed.
use Rattle.std.proofs.Common.{◌≡◌, ℕ, zero, suc, ◌+◌, ◌<◌, ◌==◌, nat_lt, cond, Bool, true, false, ◌&&◌, ◌||◌, List, [], ◌∷◌, ◌++◌, length, get_or, take, Option, Some, None, Result, Ok, Err, refl, sym, ap, subst, ◌∙◌, arith, eqb-true, inl, inr}
use Rattle.std.specs.Prelude.{if◌then◌else◌, codes}
use Rattle.std.specs.List.{AllByRecursion, list_all, count_by}
use Rattle.std.specs.Str.{bytes_eq, IsAscii}
use Rattle.std.proofs.lemmas.Bool.{cases_lt}
use Rattle.std.proofs.lemmas.Bool.Decides.{nat_tests}
use Rattle.std.proofs.lemmas.List.{get_or_past}
use Rattle.std.proofs.lemmas.List.Folds.{list_all-append}
use Rattle.std.proofs.lemmas.List.Recursion.{and_at}
use Rattle.std.proofs.lemmas.List.Sums.{sum_by-cons}
use Rattle.std.proofs.lemmas.Slice.Eq.{bytes_eq-Decides}
use Rattle.snap_base.proofs.Booleans.{second_true}
use Rattle.aml_tokens.specs.declared.tokens.Symbol.{Symbol}
use Rattle.aml_tokens.specs.declared.tokens.TextCause.{TextCause}
use Rattle.aml_tokens.specs.declared.tokens.TextCause.TheVariants as cause
use Rattle.aml_tokens.specs.Token.{Token, Sign}
use Rattle.aml_tokens.specs.Bytes.{is_letter, is_digit, is_word_byte, begins_comparison, symbol_bytes, signs}
use Rattle.aml_tokens.specs.Lexing.{joins, symbol_of, either, sign_token, token_in, line_at, capped}
use Rattle.aml_tokens.specs.Writing.{parted}
use Rattle.aml_tokens.proofs.Spaced.{Grows, IsGrown}
use Rattle.aml_tokens.proofs.Placed.{behind, IsClean}

abbrev pub is_printed : ℕ → Bool
is_printed b = nat_lt b 128 && (if b == 10 then false else true)

word_printed : (b : ℕ) → is_word_byte b ≡ true → is_printed b ≡ true
word_printed b h = grind (arith, nat_tests)

letter_printed : (b : ℕ) → is_letter b ≡ true → is_printed b ≡ true
letter_printed b h = grind (arith, nat_tests)

digit_printed : (b : ℕ) → is_digit b ≡ true → is_printed b ≡ true
digit_printed b h = grind (arith, nat_tests)

-- ---- behind the first byte

either_printed : (a c : Bool) (b : ℕ) → ((a && is_word_byte b) || (c && (b == 61))) ≡ true → is_printed b ≡ true
either_printed a c b h = by_word (is_word_byte b) refl
  where
    is_equal : (x y : Bool) → ((x && false) || (c && y)) ≡ true → y ≡ true
    is_equal true y k = second_true c y k
    is_equal false y k = second_true c y k

    by_word : (t : Bool) → is_word_byte b ≡ t → is_printed b ≡ true
    by_word true e = word_printed b e
    by_word false e =
        let same : b ≡ 61 = eqb-true b 61 (is_equal a (b == 61) (subst (λ (t : Bool). ((a && t) || (c && (b == 61))) ≡ true) e h)) in
        subst (λ (x : ℕ). is_printed x ≡ true) (sym same) refl

joined_printed : (front : List ℕ) (b : ℕ) → joins front b ≡ true → is_printed b ≡ true
joined_printed [] b h = absurd cc
joined_printed (c ∷ []) b h = either_printed (is_word_byte c) (begins_comparison c) b h
joined_printed (c ∷ d ∷ front) b h = word_printed b (second_true (is_word_byte c) (is_word_byte b) h)

grown_printed : (bs front : List ℕ) → Grows front bs → list_all is_printed bs ≡ true
grown_printed [] front g = refl
grown_printed (b ∷ bs) front g = rw (joined_printed front b g.0, grown_printed bs (front ++ b ∷ []) g.1) refl

-- ---- the first byte of a token

pub same_bytes : (xs ys : List ℕ) → bytes_eq xs ys ≡ true → xs ≡ ys
same_bytes xs ys e = (bytes_eq-Decides xs ys).0 e

abbrev pub HasPrinted : Symbol → Type 0
HasPrinted s = list_all is_printed (symbol_bytes s) ≡ true

symbols_printed : (ss : List Symbol) (bytes : List ℕ) (s : Symbol) → AllByRecursion HasPrinted ss → symbol_of ss bytes ≡ Some s → list_all is_printed bytes ≡ true
symbols_printed [] bytes s all e = absurd cc
symbols_printed (x ∷ ss) bytes s all e = by_test (bytes_eq bytes (symbol_bytes x)) refl (symbols_printed ss bytes s all.1)
  where
    by_test : (t : Bool) → bytes_eq bytes (symbol_bytes x) ≡ t → (symbol_of ss bytes ≡ Some s → list_all is_printed bytes ≡ true) → list_all is_printed bytes ≡ true
    by_test true f more = subst (λ (w : List ℕ). list_all is_printed w ≡ true) (sym (same_bytes bytes (symbol_bytes x) f)) all.0
    by_test false f more = more (sym (rw f refl) ∙ e)

signs_printed : AllByRecursion HasPrinted signs
signs_printed = (refl, (refl, (refl, (refl, (refl, (refl, (refl, (refl, (refl, (refl, (refl, (refl, (refl, (refl, (refl, (refl, (refl, tt)))))))))))))))))

pub no_token : (t : Bool) (token : Token) → ◌≡◌ {A = Result Token TextCause} (if t then Err cause.BadToken else Err cause.BadByte) (Ok token) → ⊥
no_token true token e = cc
no_token false token e = cc

pub sign_printed : (line : ℕ) (bytes : List ℕ) (token : Token) → sign_token line bytes ≡ Ok token → list_all is_printed bytes ≡ true
sign_printed line bytes token e = by_brace (bytes_eq bytes (codes "}")) refl
  where
    by_symbol : (o : Option Symbol) → symbol_of signs bytes ≡ o → either o (λ s. Ok (Sign s)) (if bytes_eq bytes (codes "!") then Err cause.BadToken else Err cause.BadByte) ≡ Ok token → list_all is_printed bytes ≡ true
    by_symbol None f h = absurd (no_token (bytes_eq bytes (codes "!")) token h)
    by_symbol (Some s) f h = symbols_printed signs bytes s signs_printed f

    by_brace : (t : Bool) → bytes_eq bytes (codes "}") ≡ t → list_all is_printed bytes ≡ true
    by_brace true f = subst (λ (w : List ℕ). list_all is_printed w ≡ true) (sym (same_bytes bytes (codes "}") f)) refl
    by_brace false f = by_symbol (symbol_of signs bytes) refl (sym (rw f refl) ∙ e)

first_of : (b : ℕ) (bs : List ℕ) → list_all is_printed (b ∷ bs) ≡ true → is_printed b ≡ true
first_of b bs h = by_test (is_printed b) refl
  where
    by_test : (t : Bool) → is_printed b ≡ t → is_printed b ≡ true
    by_test true e = e
    by_test false e = absurd (let f : list_all is_printed (b ∷ bs) ≡ false = rw e refl in cc (f, h))

first_printed : (line b : ℕ) (bs : List ℕ) (token : Token) → token_in line (b ∷ bs) ≡ Ok token → is_printed b ≡ true
first_printed line b bs token e = by_digit (is_digit b) refl
  where
    by_letter : (t : Bool) → is_digit b ≡ false → is_letter b ≡ t → is_printed b ≡ true
    by_letter true d f = letter_printed b f
    by_letter false d f = first_of b bs (sign_printed line (b ∷ bs) token (sym (rw (d, f) refl) ∙ e))

    by_digit : (t : Bool) → is_digit b ≡ t → is_printed b ≡ true
    by_digit true f = digit_printed b f
    by_digit false f = by_letter (is_letter b) f refl

abbrev pub IsPrinted : List ℕ → Type 0
IsPrinted w = list_all is_printed w ≡ true

pub token_printed : (line : ℕ) (bytes : List ℕ) (token : Token) → IsGrown bytes → token_in line bytes ≡ Ok token → IsPrinted bytes
token_printed line [] token g e = absurd g
token_printed line (b ∷ bs) token g e = rw (first_printed line b bs token e, grown_printed bs (b ∷ []) g) refl

-- a token begins with no blank and no comment
not_first : (k line b : ℕ) (bs : List ℕ) (token : Token) → token_in line (k ∷ bs) ≡ Err cause.BadByte → token_in line (b ∷ bs) ≡ Ok token → (b == k) ≡ false
not_first k line b bs token refused e = by_test (b == k) refl
  where
    by_test : (t : Bool) → (b == k) ≡ t → (b == k) ≡ false
    by_test false f = f
    by_test true f = absurd (let g : token_in line (k ∷ bs) ≡ Ok token = subst (λ (x : ℕ). token_in line (x ∷ bs) ≡ Ok token) (eqb-true b k f) e in cc (g, refused))

pub token_clean : (line : ℕ) (bytes : List ℕ) (token : Token) → IsGrown bytes → token_in line bytes ≡ Ok token → IsClean bytes
token_clean line [] token g e = absurd g
token_clean line (b ∷ bs) token g e =
    let space : (b == 32) ≡ false = not_first 32 line b bs token refl e in
    let tab : (b == 9) ≡ false = not_first 9 line b bs token refl e in
    let feed : (b == 10) ≡ false = not_first 10 line b bs token refl e in
    (rw (space, tab, feed) refl, not_first 35 line b bs token refl e, g)

-- ---- a whole line

parted_printed : (last w : List ℕ) → IsPrinted w → IsPrinted (parted last w)
parted_printed last w h = by_join (joins last (get_or w 0 0))
  where
    by_join : (t : Bool) → IsPrinted (if t then 32 ∷ w else w)
    by_join true = h
    by_join false = h

pub behind_printed : (ws : List (List ℕ)) (last : List ℕ) → AllByRecursion IsPrinted ws → IsPrinted (behind last ws)
behind_printed [] last h = refl
behind_printed (w ∷ ws) last h = list_all-append is_printed (parted last w) (behind w ws) ∙ rw (parted_printed last w h.0, behind_printed ws w h.1) refl

below_128 : (b : ℕ) → is_printed b ≡ true → b < 128
below_128 b h = grind (arith, nat_tests)

pub printed_ascii : (w : List ℕ) → IsPrinted w → IsAscii w
printed_ascii w h i = elim (cases_lt i (length w)) [
  | inl within ↦ below_128 (get_or w i 0) (and_at (list_all is_printed) is_printed refl (λ _ _. refl) w i 0 within h)
  | inr past ↦ let e : get_or w i 0 ≡ 0 = get_or_past w i 0 past in omega arith
]

no_feed : (b : ℕ) → is_printed b ≡ true → (b == 10) ≡ false
no_feed b h = grind (arith, nat_tests)

rest_of : (b : ℕ) (bs : List ℕ) → list_all is_printed (b ∷ bs) ≡ true → list_all is_printed bs ≡ true
rest_of b bs h = second_true (is_printed b) (list_all is_printed bs) h

one_line : (w : List ℕ) (at : ℕ) → IsPrinted w → count_by (λ b. b == 10) (take at w) ≡ 0
one_line w zero h = refl
one_line [] (suc at) h = refl
one_line (b ∷ bs) (suc at) h =
    let none : (b == 10) ≡ false = no_feed b (first_of b bs h) in
    let rest : count_by (λ b. b == 10) (take at bs) ≡ 0 = one_line bs at (rest_of b bs h) in
    sum_by-cons (λ b. cond (b == 10) 1 0) b (take at bs) ∙ rw (none, rest) refl

pub first_line : (w : List ℕ) (at : ℕ) → IsPrinted w → line_at w at ≡ 1
first_line w at h = ap (λ (n : ℕ). capped (1 + n)) (one_line w at h)
