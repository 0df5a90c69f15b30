-- Cascades, and how many entries there are.
use Rattle.std.proofs.Common.{ℕ, ◌+◌, ◌<◌, ◌≤◌, List, [], ◌∷◌, length, arith}
use Rattle.std.specs.List.{AllByRecursion}
use Rattle.protocol.specs.Parts.{Cascade}
use Rattle.protocol.specs.Settling.{CascadesAscend}
pub use Rattle.protocol_theorems.proofs.quiet.LimitsHold.{two_kinds}

-- where cascades ascend from a number on, and all end below another one
pub few_cascades : (low k : ℕ) (cs : List Cascade) → CascadesAscend low cs → AllByRecursion (λ c. c.upto < k) cs → 1 ≤ length cs → low + length cs ≤ k
few_cascades low k [] a u l = absurd (omega (arith, l))
few_cascades low k (c ∷ []) a u l = omega (arith, a.0, a.1, u.0)
few_cascades low k (c ∷ d ∷ cs) a u l = omega (arith, a.0, a.1, few_cascades (c.upto + 1) k (d ∷ cs) a.2 u.1 (omega arith))
