-- Texts that grow by a line.
use Rattle.std.proofs.Common.{◌≡◌, ℕ, ◌+◌, List, [], ◌∷◌, ◌++◌, map, codes, arith, ap, sym, ◌∙◌}
use Rattle.std.specs.List.{range_with_len}
use Rattle.std.specs.Fmt.{decimal}
use Rattle.std.proofs.lemmas.List.{append_assoc, flat_map_more}
use Rattle.std.proofs.lemmas.List.FromFn.{map-range_with_len_more}
use Rattle.std.proofs.lemmas.Grind.{flat_map-append}
use Rattle.work_text.specs.Lines.{text_of}
use Rattle.work_gen.specs.Generated.{actor_line, head_lines, actor_lines, transaction_lines, generated_text}

pub one_more : (base now : List ℕ) (f : ℕ → List ℕ) (n : ℕ) → now ≡ base ++ text_of (map f (range_with_len 0 n)) → now ++ (f n ++ 10 ∷ []) ≡ base ++ text_of (map f (range_with_len 0 (n + 1)))
one_more base now f n e =
    ap (λ t. t ++ (f n ++ 10 ∷ [])) e
    ∙ flat_map_more (λ line. line ++ 10 ∷ []) base (map f (range_with_len 0 n)) (f n)
    ∙ ap (λ ls. base ++ text_of ls) (sym (map-range_with_len_more f 0 n n (omega arith)))

-- an actor's line as it is written at once
pub whole_line : (a : ℕ) → actor_line a ++ 10 ∷ [] ≡ codes "actor " ++ (decimal a ++ codes " 1000 1000\n")
whole_line a = ap (λ t. codes "actor " ++ t) (append_assoc (decimal a) (codes " 1000 1000") (10 ∷ []))

pub parts : (n seed : ℕ) → text_of head_lines ++ text_of (actor_lines 256) ++ text_of (transaction_lines seed n) ≡ generated_text n seed
parts n seed =
    append_assoc (text_of head_lines) (text_of (actor_lines 256)) (text_of (transaction_lines seed n))
    ∙ ap (λ t. text_of head_lines ++ t) (sym (flat_map-append (λ line. line ++ 10 ∷ []) (actor_lines 256) (transaction_lines seed n)))
    ∙ sym (flat_map-append (λ line. line ++ 10 ∷ []) head_lines (actor_lines 256 ++ transaction_lines seed n))
