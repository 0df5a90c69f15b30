-- Lists of words: what stands behind the first ones, and what each of them spells.
use Rattle.std.proofs.Common.{◌≡◌, ◌≢◌, ℕ, ◌+◌, ◌<◌, ◌≤◌, zero, suc, Option, Some, None, List, [], ◌∷◌, ◌++◌, length, get_or, drop, take, map, sym, ap, ◌∙◌, arith, Bor}
use Rattle.std.specs.Prelude.{MatchOption}
use Rattle.std.specs.Fmt.{decimal}
use Rattle.std.specs.List.{AllByRecursion}
use Rattle.std.proofs.lemmas.List.{get_or-map, length-map, take_more, map-append}
use Rattle.audit_papers.specs.LineWords.{texts}

pub behind_one : {X : Type 0} {ws xs ys : List X} {x y : X} → ws ≡ x ∷ xs → ws ≡ y ∷ ys → xs ≡ ys
behind_one e f = ap (drop 1) (sym e ∙ f)

pub behind_two : {X : Type 0} {ws xs ys : List X} {x y u v : X} → ws ≡ x ∷ y ∷ xs → ws ≡ u ∷ v ∷ ys → xs ≡ ys
behind_two e f = ap (drop 2) (sym e ∙ f)

pub same_first : {X : Type 0} {ws xs ys : List X} {x y : X} → ws ≡ x ∷ xs → ws ≡ y ∷ ys → x ≡ y
same_first {x = x} e f = ap (λ zs. get_or zs 0 x) (sym e ∙ f)

-- no word stands first where there is none
pub none_first : (ws : List (Bor (List ℕ))) (y : List ℕ) (ys : List (List ℕ)) → length ws ≡ 0 → texts ws ≢ y ∷ ys
none_first ws y ys l e = absurd (omega (arith, l, length-map ws (λ (word : Bor (List ℕ)). word.now), ap length e))

-- a number behind a word
pub behind_named : {R : Type 0} (o : Option (ℕ × R)) (f : R → List (List ℕ)) (ws rest : List (List ℕ)) (word : List ℕ) (most : ℕ) → ws ≡ word ∷ rest
    → MatchOption o ((n : ℕ) (r : List (List ℕ)) → n ≤ most → rest ≢ decimal n ∷ r) (λ x. (x.0 ≤ most) × (rest ≡ decimal x.0 ∷ f x.1))
    → MatchOption o ((n : ℕ) (r : List (List ℕ)) → n ≤ most → ws ≢ word ∷ decimal n ∷ r) (λ x. (x.0 ≤ most) × (ws ≡ word ∷ decimal x.0 ∷ f x.1))
behind_named None f ws rest word most p h = λ n r l e. h n r l (behind_one p e)
behind_named (Some x) f ws rest word most p h = (h.0, p ∙ ap (λ z. word ∷ z) h.1)

pub behind_last_named : (o : Option ℕ) (ws rest : List (List ℕ)) (word : List ℕ) (most : ℕ) → ws ≡ word ∷ rest
    → MatchOption o ((n : ℕ) → n ≤ most → rest ≢ decimal n ∷ []) (λ n. (n ≤ most) × (rest ≡ decimal n ∷ []))
    → MatchOption o ((n : ℕ) → n ≤ most → ws ≢ word ∷ decimal n ∷ []) (λ n. (n ≤ most) × (ws ≡ word ∷ decimal n ∷ []))
behind_last_named None ws rest word most p h = λ n l e. h n l (behind_one p e)
behind_last_named (Some n) ws rest word most p h = (h.0, p ∙ ap (λ z. word ∷ z) h.1)

-- an element behind a reference
pub now_at : (xs : List (Bor (List ℕ))) (i : ℕ) (d : Bor (List ℕ)) → i < length xs → get_or (map (λ y. y.now) xs) i [] ≡ (get_or xs i d).now
now_at xs i d lt = get_or-map (λ (y : Bor (List ℕ)). y.now) xs i d [] lt

-- what all words are spelled by, each is
pub spelled_at : {X : Type 0} (P : X → Type 0) (f : X → List ℕ) (xs : List X) (words : List (List ℕ)) (i : ℕ) → words ≡ map f xs → AllByRecursion P xs → i < length words → (x : X) × P x × (get_or words i [] ≡ f x)
spelled_at P f [] [] i e all lt = absurd (omega arith)
spelled_at P f [] (w ∷ words) i e all lt = cc
spelled_at P f (x ∷ xs) [] i e all lt = absurd (omega arith)
spelled_at P f (x ∷ xs) (w ∷ words) zero e all lt = (x, all.0, let h : w ≡ f x = cc in h)
spelled_at P f (x ∷ xs) (w ∷ words) (suc i) e all lt = spelled_at P f xs words i (let h : words ≡ map f xs = cc in h) all.1 (omega arith)

-- one more word
pub spelled_more : {X : Type 0} (f : X → List ℕ) (words : List (Bor (List ℕ))) (xs : List X) (i : ℕ) (d : Bor (List ℕ)) (x : X) → i < length words → (get_or words i d).now ≡ f x
    → map (λ y. y.now) (take i words) ≡ map f xs → map (λ y. y.now) (take (i + 1) words) ≡ map f (xs ++ x ∷ [])
spelled_more f words xs i d x lt e so_far =
    ap (λ ys. map (λ (y : Bor (List ℕ)). y.now) ys) (take_more words i d lt) ∙ map-append (λ (y : Bor (List ℕ)). y.now) (take i words) (get_or words i d ∷ [])
    ∙ ap (λ ys. ys ++ (get_or words i d).now ∷ []) so_far ∙ ap (λ y. map f xs ++ y ∷ []) e ∙ sym (map-append f xs (x ∷ []))
