-- Tokens written one behind the other.
use Rattle.std.proofs.Common.{◌≡◌, ℕ, suc, ◌+◌, ◌<◌, ◌==◌, false, List, [], ◌∷◌, ◌++◌, length, get_or, take, map, refl, sym, ap, ◌∙◌, arith}
use Rattle.std.specs.List.{flat_map}
use Rattle.std.proofs.lemmas.Bool.Decides.{nat_tests}
use Rattle.std.proofs.lemmas.Grind.{flat_map-append}
use Rattle.std.proofs.lemmas.List.{append-nil, append_assoc, map_more, length-map, length-take-le}
use Rattle.std.proofs.lemmas.List.Concat.{flat_map-cons}
use Rattle.snap_base.proofs.Lists.{map_twice}
use Rattle.aml_tokens.specs.declared.tokens.Word.{Word}
use Rattle.aml_tokens.specs.declared.tokens.Symbol.TheVariants as symbol
use Rattle.aml_tokens.specs.Token.{Token, Sign}
use Rattle.aml_tokens.specs.Writing.{Written, with_tokens, with_piece, token_bytes}
use Rattle.aml_tree.specs.declared.trees.Link.{Link}
use Rattle.aml_tree.specs.Tree.{Expr, Binary, chain_tree}
use Rattle.aml_tree.specs.Grammar.{sign, spelling, listed}
use Rattle.aml_print.specs.Printing.{after, links_spelling, comma_before}

with_more : (a : List Token) (w : Written) (b : List Token) → with_tokens w (a ++ b) ≡ with_tokens (with_tokens w a) b
with_more [] w b = refl
with_more (t ∷ ts) w b = with_more ts (with_piece w (token_bytes t)) b

after_more : (w : Written) (a b : List Token) → after w (a ++ b) ≡ after (after w a) b
unfolding after
after_more w a b = with_more a w b

pub none_written : (w : Written) → w ≡ after w []
unfolding after
none_written w = refl

pub and_then : (w0 w1 w2 : Written) (a b : List Token) → w1 ≡ after w0 a → w2 ≡ after w1 b → w2 ≡ after w0 (a ++ b)
and_then w0 w1 w2 a b h k = k ∙ ap (λ (w : Written). after w b) h ∙ sym (after_more w0 a b)

pub goes : (w0 w1 : Written) (a b : List Token) → w1 ≡ after w0 a → after w0 (a ++ b) ≡ after w1 b
goes w0 w1 a b h = after_more w0 a b ∙ ap (λ (w : Written). after w b) (sym h)

pub goes_past : (w0 w1 : Written) (a : List Token) (t : Token) (b : List Token) → w1 ≡ after w0 (a ++ t ∷ []) → after w0 (a ++ t ∷ b) ≡ after w1 b
goes_past w0 w1 a t b h = ap (after w0) (sym (append_assoc a (t ∷ []) b)) ∙ goes w0 w1 (a ++ t ∷ []) b h

-- ---- lists

one_flat : {Y : Type 0} (step : Y → List Token) (y : Y) → flat_map step (y ∷ []) ≡ step y
one_flat step y = flat_map-cons step y [] ∙ append-nil (step y)

pub flat_more : {X Y : Type 0} (step : Y → List Token) (g : X → Y) (xs : List X) (i : ℕ) (x : X) → i < length xs → x ≡ get_or xs i x → flat_map step (map g (take (i + 1) xs)) ≡ flat_map step (map g (take i xs)) ++ step (g x)
flat_more step g xs i x lt is =
    let more : map g (take (i + 1) xs) ≡ map g (take i xs) ++ g x ∷ [] = map_more g xs i x lt ∙ ap (λ y. map g (take i xs) ++ g y ∷ []) (sym is) in
    ap (flat_map step) more ∙ flat_map-append step (map g (take i xs)) (g x ∷ []) ∙ ap (λ (ts : List Token). flat_map step (map g (take i xs)) ++ ts) (one_flat step (g x))

some_comma : (n : ℕ) → comma_before (suc n) ≡ Sign symbol.Comma ∷ []
some_comma n = let some : (suc n == 0) ≡ false = grind (arith, nat_tests) in rw some refl

listed_push : (ls : List (List Token)) (y : List Token) → listed (ls ++ y ∷ []) ≡ listed ls ++ (comma_before (length ls) ++ y)
listed_push [] y = refl
listed_push (x ∷ []) y = refl
listed_push (x ∷ z ∷ more) y =
    ap (λ (ts : List Token). x ++ Sign symbol.Comma ∷ ts) (listed_push (z ∷ more) y)
    ∙ sym (append_assoc x (Sign symbol.Comma ∷ listed (z ∷ more)) (comma_before (length (z ∷ more)) ++ y))
    ∙ ap (λ (comma : List Token). (x ++ Sign symbol.Comma ∷ listed (z ∷ more)) ++ (comma ++ y)) (some_comma (length more) ∙ sym (some_comma (suc (length more))))

pub listed_more : {X : Type 0} (g : X → List Token) (xs : List X) (i : ℕ) (x : X) → i < length xs → x ≡ get_or xs i x → listed (map g (take (i + 1) xs)) ≡ listed (map g (take i xs)) ++ (comma_before i ++ g x)
listed_more g xs i x lt is =
    let more : map g (take (i + 1) xs) ≡ map g (take i xs) ++ g x ∷ [] = map_more g xs i x lt ∙ ap (λ y. map g (take i xs) ++ g y ∷ []) (sym is) in
    let many : length (map g (take i xs)) ≡ i = length-map (take i xs) g ∙ length-take-le i xs (omega arith) in
    ap listed more ∙ listed_push (map g (take i xs)) (g x) ∙ ap (λ (n : ℕ). listed (map g (take i xs)) ++ (comma_before n ++ g x)) many

pub listed_more_of : {X Y : Type 0} (f : Y → List Token) (g : X → Y) (xs : List X) (i : ℕ) (x : X) → i < length xs → x ≡ get_or xs i x
    → listed (map f (map g (take (i + 1) xs))) ≡ listed (map f (map g (take i xs))) ++ (comma_before i ++ f (g x))
listed_more_of f g xs i x lt is =
    ap listed (map_twice f g (take (i + 1) xs)) ∙ listed_more (λ y. f (g y)) xs i x lt is
    ∙ ap (λ (ls : List (List Token)). listed ls ++ (comma_before i ++ f (g x))) (sym (map_twice f g (take i xs)))

-- ---- chains of operators

abbrev link_spelling : Link (Expr Word) → List Token
link_spelling l = Sign (sign l.operator) ∷ spelling l.operand

pub chain_spelled : (ls : List (Link (Expr Word))) (first : Expr Word) → spelling (chain_tree first ls) ≡ spelling first ++ links_spelling ls
chain_spelled [] first = sym (append-nil (spelling first))
chain_spelled (l ∷ ls) first =
    chain_spelled ls (Binary l.operator first l.operand) ∙ append_assoc (spelling first) (link_spelling l) (links_spelling ls)
    ∙ ap (λ (ts : List Token). spelling first ++ ts) (sym (flat_map-cons link_spelling l ls))
