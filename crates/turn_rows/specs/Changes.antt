-- What a change does to counters.
use Rattle.std.specs.Prelude.{◌≡◌, ℕ, ◌+◌, ◌-◌, ◌%◌, ◌^◌, List, [], ◌∷◌}
use Rattle.turn_rows.specs.declared.counters.Counted.{Counted}
use Rattle.turn_rows.specs.declared.counters.Counted.TheVariants.{One, Two}
use Rattle.turn_rows.specs.declared.counters.Counter.{Counter}
use Rattle.turn_rows.specs.declared.counters.Change.{Change}
use Rattle.turn_rows.specs.declared.counters.Change.TheVariants.{Add, Move}

-- the counters that it touches
abbrev pub touched : Change → List ℕ
touched (Add part amount) = part ∷ []
touched (Move from to amount) = from ∷ to ∷ []

abbrev pub more : Counter → ℕ → Counter
more c amount = record { value = (c.value + amount) % 2 ^ 64 }

abbrev pub less : Counter → ℕ → Counter
less c amount = record { value = (c.value + (2 ^ 64 - amount)) % 2 ^ 64 }

-- what they are after it, modulo 2^64
abbrev pub changed : Change → List Counter → List Counter
changed (Add part amount) [] = []
changed (Add part amount) (c ∷ cs) = more c amount ∷ []
changed (Move from to amount) [] = []
changed (Move from to amount) (c ∷ []) = []
changed (Move from to amount) (c ∷ d ∷ cs) = less c amount ∷ more d amount ∷ []

-- it makes these of those
abbrev pub makes : Change → List Counter → List Counter → Type 0
makes change old new = new ≡ changed change old

abbrev pub counters_of : Counted → List Counter
counters_of (One c) = c ∷ []
counters_of (Two c d) = c ∷ d ∷ []

-- a counter that nothing was added to
abbrev pub zero_counter : Counter
zero_counter = record { value = 0 }
