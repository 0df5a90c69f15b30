-- The actors' lines, one after the other.
use Rattle.std.proofs.Common.{◌≡◌, ℕ, ◌+◌, ◌<◌, List, [], ◌∷◌, ◌++◌, length, map, take, sym, ap, ◌∙◌, append_assoc, append-nil, arith}
use Rattle.std.proofs.lemmas.List.{map_more}
use Rattle.std.proofs.lemmas.List.{length-take, length-map}
use Rattle.snap_base.specs.declared.transactions.State.{State}
use Rattle.protocol.specs.Parts.{Cell, Machine}
use Rattle.protocol.specs.Effects.{cell_at, no_cell}
use Rattle.snap_report.specs.Lines.{actor_text, actors_text}

pub actors_text-push : (n m : ℕ) (states : List State) (s : State) → m ≡ n + length states
    → actors_text n (states ++ s ∷ []) ≡ actors_text n states ++ actor_text m s
actors_text-push n m [] s h = let same : m ≡ n = omega arith in rw same (append-nil _)
actors_text-push n m (x ∷ xs) s h =
    ap (λ l. actor_text n x ++ l) (actors_text-push (n + 1) m xs s (omega arith)) ∙ sym (append_assoc (actor_text n x) (actors_text (n + 1) xs) _)

-- one more actor
pub actors_more : {C : Type 0} (s : Machine C) (n : ℕ) → n < length s.cells
    → actors_text 0 (map (λ c. c.state) (take (n + 1) s.cells)) ≡ actors_text 0 (map (λ c. c.state) (take n s.cells)) ++ actor_text n (cell_at s n).state
actors_more {C} s n within =
    ap (actors_text 0) (map_more (λ (c : Cell C). c.state) s.cells n no_cell within)
    ∙ actors_text-push 0 n (map (λ (c : Cell C). c.state) (take n s.cells)) (cell_at s n).state
    (omega (arith, length-map (take n s.cells) (λ (c : Cell C). c.state), length-take n s.cells))
