-- One declared call less: the entries before the actor's stay.
use Rattle.std.proofs.Common.{◌≡◌, ◌≢◌, ℕ, suc, ◌+◌, ◌-◌, ◌≤◌, ◌<◌, ◌==◌, Bool, false, if◌then◌else◌, Option, Some, None, List, [], ◌∷◌, ◌++◌, length, take, drop, get_or, set, refl, sym, ap, ◌∙◌, arith}
use Rattle.std.proofs.lemmas.List.{drop_more, drop_all, take_more, take-append-drop, take-set, drop-set, get_or_default}
use Rattle.std.proofs.lemmas.Bool.{eq-eqb}
use Rattle.std.proofs.lemmas.Bool.Decides.{nat_tests}
use Rattle.snap_base.specs.declared.ids.ActorId.{ActorId}
use Rattle.aml_check.specs.Meaning.{before, one_less, used}

abbrev Use : Type 0
Use = ActorId × ℕ

abbrev pub prepend : List Use → Option (List Use) → Option (List Use)
prepend [] o = o
prepend (u ∷ us) o = before u (prepend us o)

prepend-push : (us : List Use) (u : Use) (o : Option (List Use)) → prepend (us ++ u ∷ []) o ≡ prepend us (before u o)
prepend-push [] u o = refl
prepend-push (v ∷ us) u o = ap (before v) (prepend-push us u o)

prepend-some : (us vs : List Use) → prepend us (Some vs) ≡ Some (us ++ vs)
prepend-some [] vs = refl
prepend-some (u ∷ us) vs = ap (before u) (prepend-some us vs)

prepend-none : (us : List Use) → prepend us None ≡ None
prepend-none [] = refl
prepend-none (u ∷ us) = ap (before u) (prepend-none us)

used_here : (a : ℕ) (us : List Use) (i : ℕ) (u : Use) → i < length us → u ≡ get_or us i u → used a (drop i us) ≡ (if u.0.0 == a then one_less u.0 u.1 (drop (i + 1) us) else before u (used a (drop (i + 1) us)))
used_here a us i u h is = ap (used a) (drop_more us i u h ∙ ap (λ v. v ∷ drop (i + 1) us) (sym is))

abbrev by_test : ℕ → List Use → ℕ → Use → Bool → Option (List Use)
by_test a us i u b = if b then one_less u.0 u.1 (drop (i + 1) us) else before u (used a (drop (i + 1) us))

pub used_later : (a : ℕ) (us : List Use) (i : ℕ) (u : Use) → i < length us → u ≡ get_or us i u → u.0.0 ≢ a → used a us ≡ prepend (take i us) (used a (drop i us)) → used a us ≡ prepend (take (i + 1) us) (used a (drop (i + 1) us))
used_later a us i u h is other so_far =
    let test : (u.0.0 == a) ≡ false = grind (arith, nat_tests) in
    let e : take (i + 1) us ≡ take i us ++ u ∷ [] = take_more us i u h ∙ ap (λ v. take i us ++ v ∷ []) (sym is) in
    so_far
    ∙ ap (prepend (take i us)) (used_here a us i u h is ∙ ap (by_test a us i u) test)
    ∙ sym (prepend-push (take i us) u (used a (drop (i + 1) us)))
    ∙ ap (λ vs. prepend vs (used a (drop (i + 1) us))) (sym e)

pub used_found : (a : ℕ) (us : List Use) (i : ℕ) (u : Use) → i < length us → u ≡ get_or us i u → u.0.0 ≡ a → used a us ≡ prepend (take i us) (used a (drop i us)) → used a us ≡ prepend (take i us) (one_less u.0 u.1 (drop (i + 1) us))
used_found a us i u h is same so_far =
    so_far ∙ ap (prepend (take i us)) (used_here a us i u h is ∙ ap (by_test a us i u) (eq-eqb u.0.0 a same))

pub used_up : (a : ℕ) (us : List Use) (i : ℕ) (u : Use) → i < length us → u ≡ get_or us i u → u.0.0 ≡ a → u.1 ≡ 0 → used a us ≡ prepend (take i us) (used a (drop i us)) → used a us ≡ None
used_up a us i u h is same zero_left so_far =
    used_found a us i u h is same so_far ∙ ap (λ n. prepend (take i us) (one_less u.0 n (drop (i + 1) us))) zero_left ∙ prepend-none (take i us)

set_split : (us : List Use) (i : ℕ) (u : Use) → i < length us → take i us ++ u ∷ drop (i + 1) us ≡ set us i u
set_split us i u h = ap (λ vs. vs ++ u ∷ drop (i + 1) us) (sym (take-set us i u)) ∙ ap (λ vs. take i (set us i u) ++ vs) (sym (drop-set us i u h)) ∙ take-append-drop i (set us i u)

pub used_taken : (a : ℕ) (us : List Use) (i : ℕ) (u : Use) → i < length us → u ≡ get_or us i u → u.0.0 ≡ a → u.1 ≢ 0 → used a us ≡ prepend (take i us) (used a (drop i us)) → used a us ≡ Some (set us i (u.0, u.1 - 1))
used_taken a us i u h is same some so_far =
    let more : u.1 ≡ suc (u.1 - 1) = omega arith in
    used_found a us i u h is same so_far
    ∙ ap (λ n. prepend (take i us) (one_less u.0 n (drop (i + 1) us))) more
    ∙ prepend-some (take i us) ((u.0, u.1 - 1) ∷ drop (i + 1) us)
    ∙ ap (λ vs. let o : Option (List Use) = Some vs in o) (set_split us i (u.0, u.1 - 1) h)

pub used_never : (a : ℕ) (us : List Use) (i : ℕ) → length us ≤ i → used a us ≡ prepend (take i us) (used a (drop i us)) → used a us ≡ None
used_never a us i past so_far = so_far ∙ ap (λ vs. prepend (take i us) (used a vs)) (drop_all i us past) ∙ prepend-none (take i us)

-- an element whatever stands for one that is wanting
pub element : (us : List Use) (i : ℕ) (d : Use) → i < length us → get_or us i d ≡ get_or us i (get_or us i d)
element us i d h = get_or_default us i d (get_or us i d) h
