-- The names of a program's methods, the method at a place, and the places of parameters.
use Rattle.std.specs.Prelude.{ℕ, ◌+◌, false, List, [], ◌∷◌, map, slice_index_or}
use Rattle.aml_tree.specs.Tree.{End, MethodTree}

abbrev pub method_names : {V M : Type 0} → List (MethodTree V M) → List (List ℕ)
method_names p = map (λ (m : MethodTree _ _). m.name.name) p

abbrev pub no_method : {V M : Type 0} → MethodTree V M
no_method = record { is_read = false; name = record { name = []; line = 0 }; parameters = []; body = End 0 }

-- the method at a place
abbrev pub method_at : {V M : Type 0} → List (MethodTree V M) → ℕ → MethodTree V M
method_at p place = slice_index_or p place no_method

-- the numbers from one on, as many as there are parameters
abbrev pub counted_from : {V : Type 0} → ℕ → List V → List ℕ
counted_from k [] = []
counted_from k (v ∷ vs) = k ∷ counted_from (k + 1) vs
