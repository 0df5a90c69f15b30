-- Only private contracts cite this; the forms are Words.antt.
-- A count and a seed behind the name of a command.
use Rattle.std.specs.Prelude.{◌≡◌, ◌⊎◌, ℕ, ◌≤◌, ◌<◌, ◌^◌, List, ◌∷◌, codes}
use Rattle.std.specs.Fmt.{decimal}
use Rattle.snap_work.specs.declared.limits.TheConstants.{MOST_TRANSACTIONS}

-- the names behind which a count and a seed stand
abbrev pub TakesCountAndSeed : List ℕ → Type 0
TakesCountAndSeed name = (name ≡ codes "gen") ⊎ (name ≡ codes "bench")

-- the words are a count, a seed, and the rest
abbrev pub IsCountAndSeed : List (List ℕ) → ℕ → ℕ → List (List ℕ) → Type 0
IsCountAndSeed words count s rest = (words ≡ decimal count ∷ decimal s ∷ rest) × (count ≤ MOST_TRANSACTIONS) × (s < 2 ^ 64)
