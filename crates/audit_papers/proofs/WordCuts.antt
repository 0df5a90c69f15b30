-- A word is cut at the first such byte in one way, and a place at its points.
use Rattle.std.proofs.Common.{◌≡◌, ℕ, ◌<◌, ◌^◌, List, [], ◌∷◌, ◌++◌, refl, sym, ap, ◌∙◌, arith}
use Rattle.std.specs.Fmt.{decimal}
use Rattle.std.proofs.lemmas.Bool.{eqb-false}
use Rattle.audit_papers.specs.LineWords.{LacksByte}
use Rattle.audit_papers.proofs.LineWords.{decimal_free}

pub cut_one : (byte : ℕ) (a b c d : List ℕ) → LacksByte byte a → LacksByte byte c → a ++ byte ∷ b ≡ c ++ byte ∷ d → (a ≡ c) × (b ≡ d)
cut_one byte [] b [] d f g e = (refl, cc)
cut_one byte [] b (x ∷ c) d f g e = let h : x ≡ byte = cc in absurd (eqb-false x byte g.0 h)
cut_one byte (x ∷ a) b [] d f g e = let h : x ≡ byte = cc in absurd (eqb-false x byte f.0 h)
cut_one byte (x ∷ a) b (y ∷ c) d f g e =
    let first : x ≡ y = cc in
    let more : a ++ byte ∷ b ≡ c ++ byte ∷ d = cc in
    let rest = cut_one byte a b c d f.1 g.1 more in
    (ap (λ z. z ∷ a) first ∙ ap (λ zs. y ∷ zs) rest.0, rest.1)

no_cut : (byte : ℕ) (a b : List ℕ) → ¬ LacksByte byte (a ++ byte ∷ b)
no_cut byte [] b f = eqb-false byte byte f.0 refl
no_cut byte (x ∷ a) b f = no_cut byte a b f.1

pub no_cut_of : (byte : ℕ) (text a b : List ℕ) → LacksByte byte text → text ≡ a ++ byte ∷ b → ⊥
no_cut_of byte text a b free e = no_cut byte a b (rw (sym e) free)

-- the number in front of a point, and what stands behind it
pub point_one : (word front rest : List ℕ) (n : ℕ) (behind : List ℕ) → LacksByte 46 front → n < 2 ^ 64 → word ≡ front ++ 46 ∷ rest → word ≡ decimal n ++ 46 ∷ behind → (front ≡ decimal n) × (rest ≡ behind)
point_one word front rest n behind free small e f = cut_one 46 front rest (decimal n) behind free (decimal_free 46 n (omega arith) small) (sym e ∙ f)

pub number_one : (word : List ℕ) (m n : ℕ) (rest behind : List ℕ) → m < 2 ^ 64 → n < 2 ^ 64 → word ≡ decimal m ++ 46 ∷ rest → word ≡ decimal n ++ 46 ∷ behind → rest ≡ behind
number_one word m n rest behind small fits e f = (point_one word (decimal m) rest n behind (decimal_free 46 m (omega arith) small) fits e f).1
