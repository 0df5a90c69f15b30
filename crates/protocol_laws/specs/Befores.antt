-- The last batch of an actor, and before numbers along its long schedule.
-- Only proofs cite this; the rule is `NumbersStand` (Sets).
use Rattle.std.specs.Prelude.{◌≡◌, ℕ, nat_le, max, Bool, true, ◌||◌, ◌≤◌, List, [], ◌∷◌, ◌++◌, ⊤}
use Rattle.std.specs.List.{AllByRecursion}
use Rattle.protocol.specs.Parts.{Act, OfBatch, OfAct}
use Rattle.protocol.specs.Words.{holds, is_doomed, act_of}
use Rattle.protocol.specs.History.{Ran, Stands, Gone, batches_in, batch_in}

abbrev pub gone_in : List Ran → List ℕ
gone_in [] = []
gone_in (Stands y c ss ∷ rs) = gone_in rs
gone_in (Gone y ss ∷ rs) = batch_in y ++ gone_in rs

-- no batch of the long schedule is above the last one, and none that left is above the last trimmed one
pub record LastIs (last trimmed : ℕ) (long : List Ran) : Type 0 where
  pub placed : AllByRecursion (λ k. k ≤ last) (batches_in long)
  pub gone : AllByRecursion (λ k. k ≤ trimmed) (gone_in long)

-- the ACT is doomed, or its before number is at least this
abbrev pub is_above : ℕ → Act → Bool
is_above top x = is_doomed x.status || nat_le top x.m

-- An ACT that stands behind batches has a before number at least as great, or is doomed.
abbrev pub Befores : List Act → ℕ → List Ran → Type 0
Befores acts top [] = ⊤
Befores acts top (Stands (OfBatch k) c ss ∷ rs) = Befores acts (max top k) rs
Befores acts top (Stands (OfAct t) c ss ∷ rs) = (holds (is_above top) (act_of t acts) ≡ true) × Befores acts top rs
Befores acts top (Gone (OfBatch k) ss ∷ rs) = Befores acts (max top k) rs
Befores acts top (Gone (OfAct t) ss ∷ rs) = Befores acts top rs
