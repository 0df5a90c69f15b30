-- How far before numbers rise along pairs: no further than these force.
use Rattle.std.specs.Prelude.{◌≡◌, ℕ, ◌≤◌, true, List}
use Rattle.std.specs.List.{AllByRecursion}
use Rattle.protocol.specs.Parts.{Act, Pair}
use Rattle.protocol.specs.Spread.{carries_to, raised}

-- a number for each tid that is not below these ACTs' own, and that rises along each pair that carries
pub record IsRise (pairs : List Pair) (acts : List Act) (g : ℕ → ℕ) : Type 0 where
  pub reaches : AllByRecursion (λ x. x.m ≤ g x.tid) acts
  pub carries : AllByRecursion (λ x. AllByRecursion (λ u. carries_to pairs x u ≡ true → g u.tid ≤ g x.tid) acts) acts

-- Each such number is at least that of the raised ACT: what is raised is the least rise.
abbrev pub RisesAreLeast : Type 0
RisesAreLeast = (pairs : List Pair) (acts : List Act) (g : ℕ → ℕ) → IsRise pairs acts g → AllByRecursion (λ y. y.m ≤ g y.tid) (raised pairs acts)
