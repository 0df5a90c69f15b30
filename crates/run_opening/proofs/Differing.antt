-- The first place at which lists differ.
use Rattle.std.proofs.Common.{◌≡◌, ◌≢◌, ℕ, ℤ, ◌+◌, ◌<◌, List, ◌∷◌, ◌++◌, length, get_or, take, drop, sym, ◌∙◌, ap, subst, arith}
use Rattle.std.proofs.lemmas.List.{take-append-drop, drop_more, length-take-le}
use Rattle.snap_base.specs.declared.transactions.State.{State}
use Rattle.snap_recover.specs.declared.causes.What.TheVariants.{Field}
use Rattle.run_opening.specs.Begins.{IsFieldDifference, IsDifference}

parts_at : {X : Type 0} (xs : List X) (i : ℕ) (d : X) → i < length xs → xs ≡ take i xs ++ get_or xs i d ∷ drop (i + 1) xs
parts_at xs i d lt = sym (take-append-drop i xs) ∙ ap (λ (l : List _). take i xs ++ l) (drop_more xs i d lt)

pub field_differs : (kept text : List ℤ) (i : ℕ) (d k t : ℤ) → i < length kept → i < length text → take i kept ≡ take i text
    → k ≡ get_or kept i d → t ≡ get_or text i d → get_or kept i d ≢ get_or text i d → IsFieldDifference kept text i k t
field_differs kept text i d k t in_kept in_text same k_is t_is apart = (
  take i kept,
  drop (i + 1) kept,
  drop (i + 1) text,
  parts_at kept i d in_kept ∙ ap (λ (z : ℤ). take i kept ++ z ∷ drop (i + 1) kept) (sym k_is),
  parts_at text i d in_text ∙ ap (λ (z : ℤ). take i text ++ z ∷ drop (i + 1) text) (sym t_is) ∙ ap (λ (l : List ℤ). l ++ t ∷ drop (i + 1) text) (sym same),
  sym (length-take-le i kept (omega (arith, in_kept))),
  (λ e. apart (sym k_is ∙ e ∙ t_is)),
)

pub state_differs : (kept text : List State) (i field : ℕ) (d : State) (k t k' t' : ℤ) → length kept ≡ length text → i < length kept → take i kept ≡ take i text
    → IsFieldDifference (get_or kept i d).0 (get_or text i d).0 field k t → k' ≡ k → t' ≡ t → IsDifference kept text (Field (record { 0 = i }) field) k' t'
state_differs kept text i field d k t k' t' sizes in_kept same differs k_is t_is = (
  sizes,
  (
    take i kept,
    drop (i + 1) kept,
    drop (i + 1) text,
    get_or kept i d,
    get_or text i d,
    parts_at kept i d in_kept,
    parts_at text i d (omega (arith, sizes, in_kept)) ∙ ap (λ (l : List State). l ++ get_or text i d ∷ drop (i + 1) text) (sym same),
    sym (length-take-le i kept (omega (arith, in_kept))),
    subst (λ (z : ℤ). IsFieldDifference (get_or kept i d).0 (get_or text i d).0 field z t') (sym k_is)
        (subst (λ (z : ℤ). IsFieldDifference (get_or kept i d).0 (get_or text i d).0 field k z) (sym t_is) differs),
  ),
)
