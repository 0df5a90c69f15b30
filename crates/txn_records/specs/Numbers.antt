-- The big-endian bytes of a number, and the numbers between two bounds.
use Rattle.std.specs.Prelude.{◌≡◌, ℕ, zero, suc, ◌/◌, ◌%◌, ◌^◌, ◌≤◌, List, [], ◌∷◌, ◌++◌}
use Rattle.txn_records.specs.Stops.{Any, Seq}

-- the last k bytes of a number
abbrev pub big_endian : ℕ → ℕ → List ℕ
big_endian zero n = []
big_endian (suc k) n = n / 256 ^ k % 256 ∷ big_endian k n

abbrev pub Between : ℕ → ℕ → ℕ → Type 0
Between low high n = (low ≤ n) × (n ≤ high)

-- a number of k bytes between two bounds, and anything behind it
abbrev pub Numbers : ℕ → ℕ → ℕ → List ℕ → Type 0
Numbers k low high = Seq (Between low high) (big_endian k) (λ n. Any)

-- a number of k bytes between the bounds stands first, and the rest behind it
pub record BeginsNumber (k low high : ℕ) (bytes rest : List ℕ) : Type 0 where
  pub parts : (n : ℕ) × Between low high n × (bytes ≡ big_endian k n ++ rest)
