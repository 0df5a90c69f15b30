-- A text is cut at the first such byte in one way, and which texts have none.
use Rattle.std.proofs.Common.{◌≡◌, ℕ, ◌+◌, ◌<◌, ◌^◌, Bool, true, false, List, [], ◌∷◌, ◌++◌, map, refl, sym, ap, ◌∙◌, arith, zero, suc, eqb, if◌then◌else◌}
use Rattle.std.specs.Fmt.{decimal}
use Rattle.std.specs.List.{AllByRecursion}
use Rattle.std.proofs.lemmas.Bool.{ne_eqb, eqb-false}
use Rattle.std.proofs.lemmas.Fmt.{decimal-digits_of, decimal_digit}
use Rattle.std.proofs.lemmas.Int.Digits.{all_below_base_digits_of}
use Rattle.trace_text.specs.Reads.{LacksByte}

pub cut_one : (byte : ℕ) (a b c d : List ℕ) → LacksByte byte a → LacksByte byte c → a ++ byte ∷ b ≡ c ++ byte ∷ d → (a ≡ c) × (b ≡ d)
cut_one byte [] b [] d f g e = (refl, cc)
cut_one byte [] b (x ∷ c) d f g e = let h : x ≡ byte = cc in absurd (eqb-false x byte g.0 h)
cut_one byte (x ∷ a) b [] d f g e = let h : x ≡ byte = cc in absurd (eqb-false x byte f.0 h)
cut_one byte (x ∷ a) b (y ∷ c) d f g e =
    let first : x ≡ y = cc in
    let more : a ++ byte ∷ b ≡ c ++ byte ∷ d = cc in
    let rest = cut_one byte a b c d f.1 g.1 more in
    (ap (λ z. z ∷ a) first ∙ ap (λ zs. y ∷ zs) rest.0, rest.1)

pub no_cut : (byte : ℕ) (a b : List ℕ) → ¬ LacksByte byte (a ++ byte ∷ b)
no_cut byte [] b f = eqb-false byte byte f.0 refl
no_cut byte (x ∷ a) b f = no_cut byte a b f.1

pub no_cut_of : (byte : ℕ) (text a b : List ℕ) → LacksByte byte text → text ≡ a ++ byte ∷ b → ⊥
no_cut_of byte text a b free e = no_cut byte a b (rw (sym e) free)

pub free_append : (byte : ℕ) (xs ys : List ℕ) → LacksByte byte xs → LacksByte byte ys → LacksByte byte (xs ++ ys)
free_append byte [] ys f g = g
free_append byte (x ∷ xs) ys f g = (f.0, free_append byte xs ys f.1 g)

-- ---- what has no such byte, by a test

abbrev pub has_no : ℕ → List ℕ → Bool
has_no byte [] = true
has_no byte (b ∷ bs) = if eqb b byte then false else has_no byte bs

free_step : (byte b : ℕ) (bs : List ℕ) (t : Bool) → eqb b byte ≡ t → (if t then false else has_no byte bs) ≡ true → (has_no byte bs ≡ true → LacksByte byte bs) → LacksByte byte (b ∷ bs)
free_step byte b bs true is e more = cc
free_step byte b bs false is e more = (is, more e)

pub free_test : (byte : ℕ) (bs : List ℕ) → has_no byte bs ≡ true → LacksByte byte bs
free_test byte [] e = tt
free_test byte (b ∷ bs) e = free_step byte b bs (eqb b byte) refl e (free_test byte bs)

-- ---- digits

digits_free : (byte : ℕ) (ds : List ℕ) → byte < 48 → AllByRecursion (λ d. d < 10) ds → LacksByte byte (map (λ d. 48 + d) ds)
digits_free byte [] small all = tt
digits_free byte (d ∷ ds) small all = (ne_eqb (48 + d) byte (λ e. omega (arith, e, small)), digits_free byte ds small all.1)

pub decimal_free : (byte n : ℕ) → byte < 48 → n < 2 ^ 64 → LacksByte byte (decimal n)
decimal_free byte zero small fits = rw (decimal_digit zero (omega arith)) (ne_eqb 48 byte (λ e. omega (arith, e, small)), tt)
decimal_free byte (suc n) small fits = rw (decimal-digits_of (suc n) (omega arith) fits) (digits_free byte _ small (all_below_base_digits_of 10 (suc n) (omega arith)))
