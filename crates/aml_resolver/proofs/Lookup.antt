-- The first place of a name, by the names one after the other, and what it says of faults.
use Rattle.std.proofs.Common.{◌≡◌, ℕ, ◌+◌, Bool, true, false, ◌||◌, if◌then◌else◌, Option, Some, None, is_some, unwrap_or, List, [], ◌∷◌, length, refl, sym, ap, ◌∙◌}
use Rattle.std.specs.Str.{bytes_eq}
use Rattle.aml_tokens.specs.declared.tokens.Word.{Word}
use Rattle.aml_resolver.specs.declared.faults.CheckCause.TheVariants.{UnknownName, Duplicate}
use Rattle.aml_resolver.specs.Names.{place_from, place_of, placed}
use Rattle.aml_resolver.specs.Faults.{fault_at, is_name_among, unknown, duplicate}

abbrev by_test : ℕ → List (List ℕ) → List ℕ → Bool → Option ℕ
by_test i ns name b = if b then Some i else place_from (i + 1) ns name

among-by : (b : Bool) (k : ℕ) (ns : List (List ℕ)) (w : Word) → is_name_among ns w ≡ is_some (place_from (k + 1) ns w.name) → (b || is_name_among ns w) ≡ is_some (by_test k ns w.name b)
among-by true k ns w e = refl
among-by false k ns w e = e

pub among_from : (k : ℕ) (ns : List (List ℕ)) (w : Word) → is_name_among ns w ≡ is_some (place_from k ns w.name)
among_from k [] w = refl
among_from k (n ∷ ns) w = among-by (bytes_eq n w.name) k ns w (among_from (k + 1) ns w)

pub unknown-found : (ns : List (List ℕ)) (w : Word) (k : ℕ) → Some k ≡ place_of ns w.name → unknown ns w ≡ []
unknown-found ns w k e = ap (λ (b : Bool). if b then [] else fault_at w UnknownName) (among_from 0 ns w ∙ ap is_some (sym e))

pub unknown-none : (ns : List (List ℕ)) (w : Word) → None ≡ place_of ns w.name → unknown ns w ≡ fault_at w UnknownName
unknown-none ns w e = ap (λ (b : Bool). if b then [] else fault_at w UnknownName) (among_from 0 ns w ∙ ap is_some (sym e))

pub duplicate-found : (ns : List (List ℕ)) (w : Word) (k : ℕ) → Some k ≡ place_of ns w.name → duplicate ns w ≡ fault_at w Duplicate
duplicate-found ns w k e = ap (λ (b : Bool). if b then fault_at w Duplicate else []) (among_from 0 ns w ∙ ap is_some (sym e))

pub duplicate-none : (ns : List (List ℕ)) (w : Word) → None ≡ place_of ns w.name → duplicate ns w ≡ []
duplicate-none ns w e = ap (λ (b : Bool). if b then fault_at w Duplicate else []) (among_from 0 ns w ∙ ap is_some (sym e))

pub placed-found : (ns : List (List ℕ)) (w : Word) (k : ℕ) → Some k ≡ place_of ns w.name → k ≡ placed ns w
placed-found ns w k e = ap (λ (o : Option ℕ). unwrap_or o (length ns)) e
