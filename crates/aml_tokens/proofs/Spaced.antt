-- The pieces of a text: each byte goes on with those before it, and where two pieces would make one,
-- a blank stands between.
use Rattle.std.proofs.Common.{◌≡◌, ℕ, ◌+◌, ◌-◌, ◌≤◌, Bool, true, false, List, [], ◌∷◌, ◌++◌, length, get_or, refl, sym, subst, arith}
use Rattle.std.specs.Prelude.{if◌then◌else◌}
use Rattle.std.proofs.lemmas.List.{append-nil, append_assoc, length-append}
use Rattle.aml_tokens.specs.Bytes.{is_blank}
use Rattle.aml_tokens.specs.Lexing.{Piece, joins, piece_ended, pieces_from, pieces, without_comments}

-- each byte goes on with the piece before it
abbrev pub Grows : List ℕ → List ℕ → Type 0
Grows front [] = Unit {0}
Grows front (b ∷ bs) = (joins front b ≡ true) × Grows (front ++ b ∷ []) bs

abbrev pub IsGrown : List ℕ → Type 0
IsGrown [] = ⊥
IsGrown (b ∷ bs) = Grows (b ∷ []) bs

grows_more : (front bs : List ℕ) (b : ℕ) → Grows front bs → joins (front ++ bs) b ≡ true → Grows front (bs ++ b ∷ [])
grows_more front [] b g h = (subst (λ (x : List ℕ). joins x b ≡ true) (append-nil front) h, tt)
grows_more front (c ∷ bs) b g h = (g.0, grows_more (front ++ c ∷ []) bs b g.1 (subst (λ (x : List ℕ). joins x b ≡ true) (sym (append_assoc front (c ∷ []) bs)) h))

-- how many blanks stand between two pieces at least
abbrev pub gap : List ℕ → List ℕ → ℕ
gap last piece = if joins last (get_or piece 0 0) then 1 else 0

at_most_one : (t : Bool) → (if t then 1 else 0) ≤ 1
at_most_one true = omega arith
at_most_one false = omega arith

gap_le : (last piece : List ℕ) → gap last piece ≤ 1
gap_le last piece = at_most_one (joins last (get_or piece 0 0))

-- pieces behind one that ends at a place
abbrev pub Spaced : ℕ → List ℕ → List Piece → Type 0
Spaced end last [] = Unit {0}
Spaced end last (p ∷ ps) = (end + gap last p.bytes ≤ p.at) × IsGrown p.bytes × Spaced (p.at + length p.bytes) p.bytes ps

-- what may be open at a place
abbrev IsOpen : ℕ → List ℕ → ℕ → List ℕ → Type 0
IsOpen end last at [] = (end ≤ at) × ((piece : List ℕ) → end + gap last piece ≤ at)
IsOpen end last at (c ∷ cs) = IsGrown (c ∷ cs) × (end + gap last (c ∷ cs) + length (c ∷ cs) ≤ at)

begun : (t : Bool) (b at end : ℕ) (last : List ℕ) → end ≤ at → end + gap last (b ∷ []) ≤ at → IsOpen end last (at + 1) (if t then [] else b ∷ [])
begun true b at end last le room = (omega arith, λ piece. let few = gap_le last piece in omega arith)
begun false b at end last le room = (tt, omega arith)

either_way : (t : Bool) (P : List Piece → Type 0) (xs ys : List Piece) → (t ≡ true → P xs) → (t ≡ false → P ys) → P (if t then xs else ys)
either_way t P xs ys first second = by_test t refl
  where
    by_test : (u : Bool) → t ≡ u → P (if u then xs else ys)
    by_test true e = first e
    by_test false e = second e

open_spaced : (bs : List ℕ) (at : ℕ) (front : List ℕ) (end : ℕ) (last : List ℕ) → IsOpen end last at front → Spaced end last (pieces_from at front bs)
open_spaced [] at [] end last h = tt
open_spaced [] at (c ∷ cs) end last h = let le = h.1 in (omega arith, h.0, tt)
open_spaced (b ∷ bs) at [] end last h = open_spaced bs (at + 1) (if is_blank b then [] else b ∷ []) end last (begun (is_blank b) b at end last h.0 (h.1 (b ∷ [])))
open_spaced (b ∷ bs) at (c ∷ cs) end last h =
    let le = h.1 in
    let n : ℕ = length (c ∷ cs) in
    either_way (joins (c ∷ cs) b) (Spaced end last) (pieces_from (at + 1) ((c ∷ cs) ++ b ∷ []) bs) (piece_ended at (c ∷ cs) (pieces_from (at + 1) (if is_blank b then [] else b ∷ []) bs))
    (λ e. open_spaced bs (at + 1) (c ∷ (cs ++ b ∷ [])) end last (grows_more (c ∷ []) cs b h.0 e, omega (arith, length-append cs (b ∷ []))))
    (λ e. (
      omega arith,
      h.0,
      open_spaced bs (at + 1) (if is_blank b then [] else b ∷ []) (at - length (c ∷ cs) + length (c ∷ cs)) (c ∷ cs)
          (begun (is_blank b) b at (at - length (c ∷ cs) + length (c ∷ cs)) (c ∷ cs) (omega arith) (let none : gap (c ∷ cs) (b ∷ []) ≡ 0 = rw e refl in omega arith)),
    ))

pub pieces_spaced : (text : List ℕ) → Spaced 0 [] (pieces text)
pieces_spaced text = open_spaced (without_comments false text) 0 [] 0 [] (omega arith, λ piece. omega arith)
