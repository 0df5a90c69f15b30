-- The values that a call passes, one after the other.
use Rattle.std.proofs.Common.{◌≡◌, ℕ, ◌+◌, ◌<◌, ℤ, Result, Ok, Err, List, [], ◌∷◌, ◌++◌, length, drop, get_or, map, refl, sym, ap, ◌∙◌, append_assoc}
use Rattle.std.proofs.lemmas.List.{drop_more}
use Rattle.snap_base.specs.declared.transactions.State.{State}
use Rattle.aml_flat.specs.declared.operations.FlatExpression.{FlatExpression}
use Rattle.aml_flat.specs.Flat.{flat_tree}
use Rattle.aml_check.specs.Meaning.{◌>>=◌, value_of, values_of}

values_here : (own : ℕ) (vs : List ℤ) (s : State) (es : List (FlatExpression)) (i : ℕ) (e : FlatExpression) → i < length es → e ≡ get_or es i e → values_of own vs s (map flat_tree (drop i es)) ≡ (value_of own vs s (flat_tree e) >>= λ v. values_of own vs s (map flat_tree (drop (i + 1) es)) >>= λ xs. Ok (v ∷ xs))
values_here own vs s es i e h is =
    ap (λ ks. values_of own vs s (map flat_tree ks)) (drop_more es i e h ∙ ap (λ k. k ∷ drop (i + 1) es) (sym is))

more_given : (given : List ℤ) (v : ℤ) (r : Result (List ℤ) ℕ) → ((r >>= λ xs. Ok (v ∷ xs)) >>= λ xs. Ok (given ++ xs)) ≡ (r >>= λ xs. Ok ((given ++ v ∷ []) ++ xs))
more_given given v (Ok xs) = ap (λ ys. let a : Result (List ℤ) ℕ = Ok ys in a) (sym (append_assoc given (v ∷ []) xs))
more_given given v (Err code) = refl

pub values_next : (own : ℕ) (vs : List ℤ) (s : State) (es : List (FlatExpression)) (given next : List ℤ) (i : ℕ) (e : FlatExpression) (v : ℤ) → i < length es → e ≡ get_or es i e → Ok v ≡ value_of own vs s (flat_tree e) → next ≡ given ++ v ∷ []
    → values_of own vs s (map flat_tree es) ≡ (values_of own vs s (map flat_tree (drop i es)) >>= λ xs. Ok (given ++ xs))
    → values_of own vs s (map flat_tree es) ≡ (values_of own vs s (map flat_tree (drop (i + 1) es)) >>= λ xs. Ok (next ++ xs))
values_next own vs s es given next i e v h is here new so_far =
    let rest = values_of own vs s (map flat_tree (drop (i + 1) es)) in
    so_far
    ∙ ap (λ (r : Result (List ℤ) ℕ). r >>= λ xs. Ok (given ++ xs)) (values_here own vs s es i e h is ∙ ap (λ (r : Result ℤ ℕ). r >>= λ v. rest >>= λ xs. Ok (v ∷ xs)) (sym here))
    ∙ more_given given v rest
    ∙ ap (λ ys. rest >>= λ xs. Ok (ys ++ xs)) (sym new)
