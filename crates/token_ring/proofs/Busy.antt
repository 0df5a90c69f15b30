-- Where something waits from a coordinator on.
use Rattle.std.proofs.Common.{◌≡◌, ℕ, zero, suc, not, List, [], ◌∷◌, drop, refl}
use Rattle.std.specs.List.{list_all}
use Rattle.protocol.specs.Left.{busy_from}
use Rattle.protocol.specs.Words.{is_empty}

pub busy_behind : (n : ℕ) (qs : List (List ℕ)) → busy_from n qs ≡ not (list_all is_empty (drop n qs))
busy_behind zero [] = refl
busy_behind (suc n) [] = refl
busy_behind zero (q ∷ qs) = refl
busy_behind (suc n) (q ∷ qs) = busy_behind n qs
