-- Which bytes a token has, and what they are in the first line.
use Rattle.std.proofs.Common.{◌≡◌, ℕ, suc, ◌+◌, ◌-◌, ◌^◌, ◌<◌, ◌≤◌, ◌==◌, nat_lt, nat_le, Bool, true, false, List, [], ◌∷◌, length, get_or, Option, Some, None, Result, Ok, Err, refl, sym, ap, subst, ◌∙◌, arith, ltb-true}
use Rattle.std.specs.Prelude.{if◌then◌else◌, codes}
use Rattle.std.specs.List.{list_all}
use Rattle.std.specs.Str.{bytes_eq}
use Rattle.std.specs.Str.Parse.{digits_value}
use Rattle.std.proofs.lemmas.Fmt.{decimal-digits_value}
use Rattle.snap_base.proofs.Booleans.{first_true, second_true}
use Rattle.aml_tokens.specs.declared.tokens.Symbol.{Symbol}
use Rattle.aml_tokens.specs.declared.tokens.TextCause.{TextCause}
use Rattle.aml_tokens.specs.declared.tokens.TextCause.TheVariants as cause
use Rattle.aml_tokens.specs.Token.{Token, Name, Number, Field, Sign, Let, CloseBrace}
use Rattle.aml_tokens.specs.Bytes.{is_letter, is_digit, symbol_bytes, keywords, signs}
use Rattle.aml_tokens.specs.Lexing.{symbol_of, field_of, field_words, is_plain, number_token, word_token, sign_token, token_in}
use Rattle.aml_tokens.specs.Writing.{token_bytes, in_first_line}
use Rattle.aml_tokens.proofs.Printable.{same_bytes, no_token}
use Rattle.aml_tokens.proofs.Alone.{own}

symbol_is : (ss : List Symbol) (bytes : List ℕ) (s : Symbol) → symbol_of ss bytes ≡ Some s → bytes ≡ symbol_bytes s
symbol_is [] bytes s e = absurd cc
symbol_is (x ∷ ss) bytes s e = by_test (bytes_eq bytes (symbol_bytes x)) refl (symbol_is ss bytes s)
  where
    by_test : (t : Bool) → bytes_eq bytes (symbol_bytes x) ≡ t → (symbol_of ss bytes ≡ Some s → bytes ≡ symbol_bytes s) → bytes ≡ symbol_bytes s
    by_test true f more =
        let found : Some x ≡ Some s = sym (rw f refl) ∙ e in
        let same : x ≡ s = cc in
        same_bytes bytes (symbol_bytes x) f ∙ ap symbol_bytes same
    by_test false f more = more (sym (rw f refl) ∙ e)

field_is : (words : List (List ℕ)) (k : ℕ) (bytes : List ℕ) (n : ℕ) → field_of k words bytes ≡ Some n → (k ≤ n) × (bytes ≡ get_or words (n - k) [])
field_is [] k bytes n e = absurd cc
field_is (w ∷ words) k bytes n e = by_test (bytes_eq bytes w) refl (field_is words (k + 1) bytes n)
  where
    by_test : (t : Bool) → bytes_eq bytes w ≡ t → (field_of (k + 1) words bytes ≡ Some n → (k + 1 ≤ n) × (bytes ≡ get_or words (n - (k + 1)) [])) → (k ≤ n) × (bytes ≡ get_or (w ∷ words) (n - k) [])
    by_test true f more =
        let found : Some k ≡ Some n = sym (rw f refl) ∙ e in
        let same : k ≡ n = cc in
        let first : 0 ≡ n - k = omega arith in
        (omega arith, subst (λ (i : ℕ). bytes ≡ get_or (w ∷ words) i []) first (same_bytes bytes w f))
    by_test false f more =
        let m = more (sym (rw f refl) ∙ e) in
        let at = m.0 in
        let next : suc (n - (k + 1)) ≡ n - k = omega arith in
        (omega arith, subst (λ (i : ℕ). bytes ≡ get_or (w ∷ words) i []) next m.1)

-- ---- numbers

not_zero : (b : ℕ) → (if b == 48 then false else true) ≡ true → b ≡ 48 → ⊥
not_zero b h e = let f : (if b == 48 then false else true) ≡ false = subst (λ (x : ℕ). (if x == 48 then false else true) ≡ false) (sym e) refl in cc (f, h)

plain_is : (ds : List ℕ) → is_plain ds ≡ true → (list_all is_digit ds ≡ true) × (0 < length ds) × (get_or ds 0 0 ≡ 48 → length ds ≡ 1)
plain_is [] h = absurd cc
plain_is (b ∷ []) h = (rw h refl, omega arith, λ _. refl)
plain_is (b ∷ c ∷ ds) h =
    (first_true (list_all is_digit (b ∷ c ∷ ds)) (if b == 48 then false else true) h, omega arith, λ e. absurd (not_zero b (second_true (list_all is_digit (b ∷ c ∷ ds)) (if b == 48 then false else true) h) e))

-- what a reading tells
abbrev IsTold : List ℕ → Result Token TextCause → Token → Type 0
IsTold bytes first t = (bytes ≡ token_bytes t) × (first ≡ Ok (in_first_line t))

number_told : (bytes : List ℕ) (t : Token) → number_token bytes ≡ Ok t → IsTold bytes (number_token bytes) t
number_told bytes t h = by_plain (is_plain bytes) refl
  where
    by_small : (p : is_plain bytes ≡ true) (u : Bool) → nat_lt (digits_value 10 bytes) (2 ^ 63) ≡ u → IsTold bytes (number_token bytes) t
    by_small p true f =
        let is : number_token bytes ≡ Ok (Number (digits_value 10 bytes)) = rw (p, f) refl in
        let found : ◌≡◌ {A = Result Token TextCause} (Ok (Number (digits_value 10 bytes))) (Ok t) = sym is ∙ h in
        let same : Number (digits_value 10 bytes) ≡ t = cc in
        let d = plain_is bytes p in
        let small : digits_value 10 bytes < 2 ^ 63 = ltb-true (digits_value 10 bytes) (2 ^ 63) f in
        subst (λ (x : Token). IsTold bytes (number_token bytes) x) same (sym (decimal-digits_value own bytes d.0 d.1 d.2 (omega arith)), is)
    by_small p false f =
        let is : number_token bytes ≡ Err cause.NumberRange = rw (p, f) refl in
        absurd (cc (is, h))

    by_plain : (u : Bool) → is_plain bytes ≡ u → IsTold bytes (number_token bytes) t
    by_plain true p = by_small p (nat_lt (digits_value 10 bytes) (2 ^ 63)) refl
    by_plain false p =
        let is : number_token bytes ≡ Err cause.BadToken = rw p refl in
        absurd (cc (is, h))

-- ---- words

word_told : (line : ℕ) (bytes : List ℕ) (t : Token) → word_token line bytes ≡ Ok t → IsTold bytes (word_token 1 bytes) t
word_told line bytes t h = by_let (bytes_eq bytes (codes "let")) refl
  where
    by_short : bytes_eq bytes (codes "let") ≡ false → symbol_of keywords bytes ≡ None → field_of 0 field_words bytes ≡ None → (u : Bool) → nat_le (length bytes) 32 ≡ u → IsTold bytes (word_token 1 bytes) t
    by_short e k f true s =
        let is : word_token line bytes ≡ Ok (Name (record { name = bytes; line = line })) = rw (e, k, f, s) refl in
        let found : ◌≡◌ {A = Result Token TextCause} (Ok (Name (record { name = bytes; line = line }))) (Ok t) = sym is ∙ h in
        let same : Name (record { name = bytes; line = line }) ≡ t = cc in
        subst (λ (x : Token). IsTold bytes (word_token 1 bytes) x) same (refl, rw (e, k, f, s) refl)
    by_short e k f false s =
        let is : word_token line bytes ≡ Err cause.BadToken = rw (e, k, f, s) refl in
        absurd (cc (is, h))

    by_field : bytes_eq bytes (codes "let") ≡ false → symbol_of keywords bytes ≡ None → (o : Option ℕ) → field_of 0 field_words bytes ≡ o → IsTold bytes (word_token 1 bytes) t
    by_field e k None f = by_short e k f (nat_le (length bytes) 32) refl
    by_field e k (Some n) f =
        let is : word_token line bytes ≡ Ok (Field n line) = rw (e, k, f) refl in
        let found : ◌≡◌ {A = Result Token TextCause} (Ok (Field n line)) (Ok t) = sym is ∙ h in
        let same : Field n line ≡ t = cc in
        let all : n - 0 ≡ n = omega arith in
        subst (λ (x : Token). IsTold bytes (word_token 1 bytes) x) same (subst (λ (i : ℕ). bytes ≡ get_or field_words i []) all (field_is field_words 0 bytes n f).1, rw (e, k, f) refl)

    by_keyword : bytes_eq bytes (codes "let") ≡ false → (o : Option Symbol) → symbol_of keywords bytes ≡ o → IsTold bytes (word_token 1 bytes) t
    by_keyword e None k = by_field e k (field_of 0 field_words bytes) refl
    by_keyword e (Some s) k =
        let is : word_token line bytes ≡ Ok (Sign s) = rw (e, k) refl in
        let found : ◌≡◌ {A = Result Token TextCause} (Ok (Sign s)) (Ok t) = sym is ∙ h in
        let same : Sign s ≡ t = cc in
        subst (λ (x : Token). IsTold bytes (word_token 1 bytes) x) same (symbol_is keywords bytes s k, rw (e, k) refl)

    by_let : (u : Bool) → bytes_eq bytes (codes "let") ≡ u → IsTold bytes (word_token 1 bytes) t
    by_let true e =
        let is : word_token line bytes ≡ Ok (Let line) = rw e refl in
        let found : ◌≡◌ {A = Result Token TextCause} (Ok (Let line)) (Ok t) = sym is ∙ h in
        let same : Let line ≡ t = cc in
        subst (λ (x : Token). IsTold bytes (word_token 1 bytes) x) same (same_bytes bytes (codes "let") e, rw e refl)
    by_let false e = by_keyword e (symbol_of keywords bytes) refl

-- ---- signs

sign_told : (line : ℕ) (bytes : List ℕ) (t : Token) → sign_token line bytes ≡ Ok t → IsTold bytes (sign_token 1 bytes) t
sign_told line bytes t h = by_brace (bytes_eq bytes (codes "}")) refl
  where
    by_symbol : bytes_eq bytes (codes "}") ≡ false → (o : Option Symbol) → symbol_of signs bytes ≡ o → IsTold bytes (sign_token 1 bytes) t
    by_symbol b None s =
        let is : sign_token line bytes ≡ (if bytes_eq bytes (codes "!") then Err cause.BadToken else Err cause.BadByte) = rw (b, s) refl in
        absurd (no_token (bytes_eq bytes (codes "!")) t (sym is ∙ h))
    by_symbol b (Some x) s =
        let is : sign_token line bytes ≡ Ok (Sign x) = rw (b, s) refl in
        let found : ◌≡◌ {A = Result Token TextCause} (Ok (Sign x)) (Ok t) = sym is ∙ h in
        let same : Sign x ≡ t = cc in
        subst (λ (y : Token). IsTold bytes (sign_token 1 bytes) y) same (symbol_is signs bytes x s, rw (b, s) refl)

    by_brace : (u : Bool) → bytes_eq bytes (codes "}") ≡ u → IsTold bytes (sign_token 1 bytes) t
    by_brace true b =
        let is : sign_token line bytes ≡ Ok (CloseBrace line) = rw b refl in
        let found : ◌≡◌ {A = Result Token TextCause} (Ok (CloseBrace line)) (Ok t) = sym is ∙ h in
        let same : CloseBrace line ≡ t = cc in
        subst (λ (y : Token). IsTold bytes (sign_token 1 bytes) y) same (same_bytes bytes (codes "}") b, rw b refl)
    by_brace false b = by_symbol b (symbol_of signs bytes) refl

pub token_told : (line : ℕ) (bytes : List ℕ) (t : Token) → token_in line bytes ≡ Ok t → (bytes ≡ token_bytes t) × (token_in 1 bytes ≡ Ok (in_first_line t))
token_told line [] t h = absurd cc
token_told line (b ∷ bs) t h = by_digit (is_digit b) refl
  where
    by_letter : is_digit b ≡ false → (u : Bool) → is_letter b ≡ u → IsTold (b ∷ bs) (token_in 1 (b ∷ bs)) t
    by_letter d true l = let r = word_told line (b ∷ bs) t (sym (rw (d, l) refl) ∙ h) in (r.0, rw (d, l) r.1)
    by_letter d false l = let r = sign_told line (b ∷ bs) t (sym (rw (d, l) refl) ∙ h) in (r.0, rw (d, l) r.1)

    by_digit : (u : Bool) → is_digit b ≡ u → IsTold (b ∷ bs) (token_in 1 (b ∷ bs)) t
    by_digit true d = let r = number_told (b ∷ bs) t (sym (rw d refl) ∙ h) in (r.0, rw d r.1)
    by_digit false d = by_letter d (is_letter b) refl
