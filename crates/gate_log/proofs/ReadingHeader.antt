-- The first byte that differs from the header is one, and keeps the bytes from being a log.
use Rattle.std.proofs.Common.{◌≡◌, ℕ, ◌<◌, List, [], ◌∷◌, ◌++◌, get_or, take, sym, ap, ◌∙◌, append_assoc, inl, inr}
use Rattle.std.proofs.lemmas.Bool.{cases_order}
use Rattle.std.proofs.lemmas.List.{get_or-take, get_or_append_left}
use Rattle.gate_log.specs.Bytes.{magic, header, blocks, DiffersAt, IsLogAt, IsDamagedAt}

-- below a place up to which two lists are one, their elements are
same_below : (xs ys : List ℕ) (n i : ℕ) → i < n → take n xs ≡ take n ys → get_or xs i 0 ≡ get_or ys i 0
same_below xs ys n i lt e = sym (get_or-take n xs i 0 lt) ∙ ap (λ (l : List ℕ). get_or l i 0) e ∙ get_or-take n ys i 0 lt

pub no_header : (mark : ℕ) (bytes more : List ℕ) (offset : ℕ) → DiffersAt bytes offset → bytes ≡ header mark ++ more → ⊥
no_header mark bytes more offset d e = d.differs (ap (λ (l : List ℕ). get_or l offset 0) (e ∙ append_assoc magic (mark ∷ []) more) ∙ get_or_append_left magic (mark ∷ more) 0 offset d.within)

pub differs_is_no_log : (bytes : List ℕ) (offset end : ℕ) (items : List (List ℕ)) → DiffersAt bytes offset → IsLogAt bytes end items → ⊥
differs_is_no_log bytes offset end items d l =
    let s = l.parts in
    no_header l.mark bytes (blocks s.0 ++ s.1 ∷ s.2) offset d (s.5 ∙ append_assoc (header l.mark) (blocks s.0) (s.1 ∷ s.2))

pub differs_is_no_damage : (bytes : List ℕ) (offset gate : ℕ) → DiffersAt bytes offset → IsDamagedAt bytes gate → ⊥
differs_is_no_damage bytes offset gate d l =
    let s = l.parts in
    no_header l.mark bytes (blocks s.0 ++ 1 ∷ s.1) offset d (s.3 ∙ append_assoc (header l.mark) (blocks s.0) (1 ∷ s.1))

pub differs_once : (bytes : List ℕ) (offset other : ℕ) → DiffersAt bytes offset → DiffersAt bytes other → offset ≡ other
differs_once bytes offset other d f =
    elim (cases_order offset other) [
      | inl same ↦ same
      | inr apart ↦ elim apart [
        | inl before ↦ absurd (d.differs (same_below bytes magic other offset before f.same))
        | inr after ↦ absurd (f.differs (same_below bytes magic offset other after d.same))
      ]
    ]
