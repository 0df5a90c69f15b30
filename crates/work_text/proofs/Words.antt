-- Words cut at a colon, and methods by their names.
use Rattle.std.proofs.Common.{◌≡◌, ℕ, ◌+◌, ◌<◌, ◌^◌, List, [], ◌∷◌, ◌++◌, length, get_or, drop, take, map, refl, sym, ap, ◌∙◌, arith, zero, suc}
use Rattle.std.specs.Prelude.{Option, Some}
use Rattle.std.specs.Fmt.{decimal}
use Rattle.std.proofs.lemmas.List.{take-append-drop, drop_more, get_or-map, length-map}
use Rattle.std.proofs.lemmas.Bool.{ne_eqb, eqb-false}
use Rattle.std.proofs.lemmas.Fmt.{decimal-digits_of, decimal_digit}
use Rattle.std.proofs.lemmas.Int.Digits.{all_below_base_digits_of}
use Rattle.std.specs.List.{AllByRecursion}
use Rattle.snap_base.specs.declared.transactions.Kind.{Kind}
use Rattle.aml_tree.specs.Tree.{CheckedMethod}
use Rattle.aml_check.specs.Names.{method_at, method_names, no_method}
use Rattle.aml_check.specs.Closed.{AreDistinct}
use Rattle.work_text.specs.Parts.{IsWithoutColon}

-- ---- a word is cut at its first colon in one way

pub cut_one : (a b c d : List ℕ) → IsWithoutColon a → IsWithoutColon c → a ++ 58 ∷ b ≡ c ++ 58 ∷ d → (a ≡ c) × (b ≡ d)
cut_one [] b [] d f g e = (refl, cc)
cut_one [] b (x ∷ c) d f g e = let h : x ≡ 58 = cc in absurd (eqb-false x 58 g.0 h)
cut_one (x ∷ a) b [] d f g e = let h : x ≡ 58 = cc in absurd (eqb-false x 58 f.0 h)
cut_one (x ∷ a) b (y ∷ c) d f g e =
    let first : x ≡ y = cc in
    let more : a ++ 58 ∷ b ≡ c ++ 58 ∷ d = cc in
    let rest = cut_one a b c d f.1 g.1 more in
    (ap (λ z. z ∷ a) first ∙ ap (λ zs. y ∷ zs) rest.0, rest.1)

pub no_cut : (a b : List ℕ) → ¬ IsWithoutColon (a ++ 58 ∷ b)
no_cut [] b f = eqb-false 58 58 f.0 refl
no_cut (x ∷ a) b f = no_cut a b f.1

pub parts : (word : List ℕ) (at d : ℕ) → at < length word → get_or word at d ≡ 58 → word ≡ take at word ++ 58 ∷ drop (at + 1) word
parts word at d lt is = sym (take-append-drop at word) ∙ ap (λ ys. take at word ++ ys) (drop_more word at d lt ∙ ap (λ y. y ∷ drop (at + 1) word) is)

-- ---- the digits of a number have no colon

digits_free : (ds : List ℕ) → AllByRecursion (λ d. d < 10) ds → IsWithoutColon (map (λ d. 48 + d) ds)
digits_free [] all = tt
digits_free (d ∷ ds) all = (ne_eqb (48 + d) 58 (λ e. omega (arith, e, all.0)), digits_free ds all.1)

pub decimal_free : (n : ℕ) → n < 2 ^ 64 → IsWithoutColon (decimal n)
decimal_free zero fits = rw (decimal_digit zero (omega arith)) (ne_eqb 48 58 (λ e. omega (arith, e)), tt)
decimal_free (suc n) fits = rw (decimal-digits_of (suc n) (omega arith) fits) (digits_free _ (all_below_base_digits_of 10 (suc n) (omega arith)))

-- ---- a method by its name

pub method_one : (p : List CheckedMethod) → AreDistinct (method_names p) → (i j : ℕ) → i < length p → j < length p → (method_at p i).name.name ≡ (method_at p j).name.name → i ≡ j
method_one p distinct i j li lj e =
    let len = length-map p (λ (m : CheckedMethod). m.name.name) in
    distinct i j (omega (arith, len, li)) (omega (arith, len, lj))
    (get_or-map (λ (m : CheckedMethod). m.name.name) p i no_method [] li ∙ e ∙ sym (get_or-map (λ (m : CheckedMethod). m.name.name) p j no_method [] lj))

pub some_three : {k l : Kind} {a b m n : ℕ} → Some k ≡ Some l → Some a ≡ Some b → m ≡ n → ◌≡◌ {A = Option (Kind × ℕ × ℕ)} (Some (k, a, m)) (Some (l, b, n))
some_three {k} {l} {a} {b} {m} {n} e f g =
    let h : k ≡ l = cc in
    let i : a ≡ b = cc in
    rw (h, i, g) refl
