-- The words of a line, read byte by byte.
use Rattle.std.proofs.Common.{◌≡◌, ℕ, ◌+◌, ◌-◌, ◌<◌, ◌≤◌, false, eqb, List, [], ◌∷◌, ◌++◌, length, length-drop, get_or, drop, take, map, refl, sym, ap, ◌∙◌, arith, append_assoc}
use Rattle.std.specs.List.{All}
use Rattle.std.proofs.lemmas.List.{take-append-drop, drop-drop, drop_more, take_more, take_all, get_or-drop, map-append}
use Rattle.std.proofs.lemmas.List.Elements.{All-push}
use Rattle.std.proofs.lemmas.List.Splits.{slice_split_at, slice_split_none}
use Rattle.work_text.specs.Lines.{words}

-- no blank is among them
abbrev pub IsWord : List ℕ → Type 0
IsWord = All (λ b. eqb b 32 ≡ false)

-- what stands from one place of a line up to another
abbrev pub span : ℕ → ℕ → List ℕ → List ℕ
span from at line = take (at - from) (drop from line)

pub word_ends : (line : List ℕ) (from at d : ℕ) → from ≤ at → at < length line → IsWord (span from at line) → get_or line at d ≡ 32 → words (drop from line) ≡ span from at line ∷ words (drop (at + 1) line)
word_ends line from at d le lt clear is =
    let place : from + (at - from) ≡ at = omega arith in
    let behind : drop (at - from) (drop from line) ≡ 32 ∷ drop (at + 1) line = drop-drop (at - from) from line ∙ ap (λ n. drop n line) place ∙ drop_more line at d lt ∙ ap (λ y. y ∷ drop (at + 1) line) is in
    let cut : drop from line ≡ span from at line ++ 32 ∷ drop (at + 1) line = sym (take-append-drop (at - from) (drop from line)) ∙ ap (λ ys. span from at line ++ ys) behind in
    ap words cut ∙ slice_split_at (λ b. eqb b 32) (span from at line) 32 (drop (at + 1) line) clear refl

-- the word that ends is one more of the words that are found
pub word_found : {X : Type 0} (of : X → List ℕ) (found : List X) (x : X) (line : List ℕ) (from at d : ℕ) → from ≤ at → at < length line → IsWord (span from at line) → get_or line at d ≡ 32 → of x ≡ span from at line → map of found ++ words (drop from line) ≡ words line → map of (found ++ x ∷ []) ++ words (drop (at + 1) line) ≡ words line
word_found of found x line from at d le lt clear is e so_far =
    ap (λ ls. ls ++ words (drop (at + 1) line)) (map-append of found (x ∷ []))
    ∙ append_assoc (map of found) (of x ∷ []) (words (drop (at + 1) line))
    ∙ ap (λ y. map of found ++ y ∷ words (drop (at + 1) line)) e
    ∙ ap (λ ls. map of found ++ ls) (sym (word_ends line from at d le lt clear is))
    ∙ so_far

pub word_goes_on : (line : List ℕ) (from at d : ℕ) → from ≤ at → at < length line → IsWord (span from at line) → eqb (get_or line at d) 32 ≡ false → IsWord (span from (at + 1) line)
word_goes_on line from at d le lt clear is =
    let place : from + (at - from) ≡ at = omega arith in
    let count : at + 1 - from ≡ at - from + 1 = omega arith in
    let within : at - from < length (drop from line) = omega (arith, length-drop from line) in
    let byte : get_or (drop from line) (at - from) d ≡ get_or line at d = get_or-drop from line (at - from) d ∙ ap (λ n. get_or line n d) place in
    let more : span from (at + 1) line ≡ span from at line ++ get_or line at d ∷ [] = ap (λ n. take n (drop from line)) count ∙ take_more (drop from line) (at - from) d within ∙ ap (λ y. span from at line ++ y ∷ []) byte in
    rw more (All-push (λ b. eqb b 32 ≡ false) (span from at line) (get_or line at d) clear is)

nothing_behind : (n : ℕ) → n - n ≡ 0
nothing_behind n = omega arith

pub word_begins : (line : List ℕ) (at : ℕ) → IsWord (span at at line)
word_begins line at = rw (nothing_behind at) (λ k d lt. absurd (omega arith))

-- the words that end before a place are found, and one begins there or before
pub record AreFound {X : Type 0} (of : X → List ℕ) (line : List ℕ) (found : List X) (from at : ℕ) : Type 0 where
  pub within : from ≤ at
  pub front : map of found ++ words (drop from line) ≡ words line
  pub begun : IsWord (span from at line)

pub one_found : {X : Type 0} (of : X → List ℕ) (line : List ℕ) (found : List X) (from at d : ℕ) (x : X) → AreFound of line found from at → at < length line → get_or line at d ≡ 32 → of x ≡ span from at line → AreFound of line (found ++ x ∷ []) (at + 1) (at + 1)
one_found of line found from at d x so_far lt is e = record {
  within = omega arith;
  front = word_found of found x line from at d so_far.within lt so_far.begun is e so_far.front;
  begun = word_begins line (at + 1);
}

pub none_found : {X : Type 0} (of : X → List ℕ) (line : List ℕ) (found : List X) (from at d : ℕ) → AreFound of line found from at → at < length line → eqb (get_or line at d) 32 ≡ false → AreFound of line found from (at + 1)
none_found of line found from at d so_far lt is =
    let le : from ≤ at = so_far.within in
    record {
      within = omega arith;
      front = so_far.front;
      begun = word_goes_on line from at d le lt so_far.begun is;
    }

-- what is left is the last word
pub all_found : {X : Type 0} (of : X → List ℕ) (line : List ℕ) (found : List X) (from at : ℕ) (x : X) → AreFound of line found from at → length line ≤ at → of x ≡ drop from line → map of (found ++ x ∷ []) ≡ words line
all_found of line found from at x so_far le e =
    let rest : span from at line ≡ drop from line = take_all (at - from) (drop from line) (omega (arith, length-drop from line)) in
    let one : words (drop from line) ≡ drop from line ∷ [] = slice_split_none (λ b. eqb b 32) (drop from line) (rw rest at so_far.begun) in
    map-append of found (x ∷ [])
    ∙ ap (λ y. map of found ++ y ∷ []) e
    ∙ ap (λ ls. map of found ++ ls) (sym one)
    ∙ so_far.front
