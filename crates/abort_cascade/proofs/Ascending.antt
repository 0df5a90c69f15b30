-- One more cascade above all others.
use Rattle.std.proofs.Common.{ℕ, ◌+◌, ◌<◌, ◌≤◌, List, [], ◌∷◌, ◌++◌, arith}
use Rattle.std.specs.List.{AllByRecursion}
use Rattle.protocol.specs.Parts.{Cascade}
use Rattle.protocol.specs.Settling.{CascadesAscend}

pub ascend_more : (low : ℕ) (cs : List Cascade) (c : Cascade) → CascadesAscend low cs → low ≤ c.first → c.first ≤ c.upto
    → AllByRecursion (λ x. x.upto < c.first) cs → CascadesAscend low (cs ++ c ∷ [])
ascend_more low [] c h le some above = (le, some, tt)
ascend_more low (x ∷ xs) c h le some above = (h.0, h.1, ascend_more (x.upto + 1) xs c h.2 (omega (arith, above.0)) some above.1)
