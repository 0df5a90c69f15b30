-- What becomes of groups of members when an empty one is made, and when a member is put into one.
use Rattle.std.specs.Prelude.{◌≡◌, refl, ℕ, zero, suc, ◌<◌, ◌≤◌, ◌==◌, Bool, true, false, if◌then◌else◌, List, [], ◌∷◌, ◌++◌, length, slice_set, slice_index_or, Vec}
use Rattle.std.proofs.Common.{arith, sym, subst, ◌∙◌}
use Rattle.std.specs.declared.alloc.Global.{Global}
use Rattle.std.proofs.lemmas.Bool.{eqb-true, eqb-false}
use Rattle.std.proofs.lemmas.List.{append-nil}
use Rattle.audit_tale.specs.declared.tales.MemberTale.{MemberTale}
use Rattle.trace_audit.specs.Grouped.{gained, group_at}

-- an empty group more
pub group_more : (groups : List (Vec MemberTale Global)) (g : Vec MemberTale Global) (k : ℕ) → g.items ≡ [] → group_at (groups ++ g ∷ []) k ≡ group_at groups k
group_more [] g zero e = e
group_more [] g (suc k) e = refl
group_more (x ∷ groups) g zero e = refl
group_more (x ∷ groups) g (suc k) e = group_more groups g k e

-- what stands at a place of the list of groups
pub group_read : (groups : List (Vec MemberTale Global)) (k : ℕ) (d : Vec MemberTale Global) → k < length groups → (slice_index_or groups k d).items ≡ group_at groups k
group_read [] k d h = absurd (omega (arith, h))
group_read (x ∷ groups) zero d h = refl
group_read (x ∷ groups) (suc k) d h = group_read groups k d (omega (arith, h))

-- no group is there
pub group_past : (groups : List (Vec MemberTale Global)) (k : ℕ) → length groups ≤ k → group_at groups k ≡ []
group_past [] k h = refl
group_past (x ∷ groups) zero h = absurd (omega (arith, h))
group_past (x ∷ groups) (suc k) h = group_past groups k (omega (arith, h))

same_group : (groups : List (Vec MemberTale Global)) (n : ℕ) (g : Vec MemberTale Global) → n < length groups → group_at (slice_set groups n g) n ≡ g.items
same_group [] n g h = absurd (omega (arith, h))
same_group (x ∷ groups) zero g h = refl
same_group (x ∷ groups) (suc n) g h = same_group groups n g (omega (arith, h))

other_group : (groups : List (Vec MemberTale Global)) (n k : ℕ) (g : Vec MemberTale Global) → (n ≡ k → ⊥) → group_at (slice_set groups n g) k ≡ group_at groups k
other_group [] n k g h = refl
other_group (x ∷ groups) zero zero g h = absurd (h refl)
other_group (x ∷ groups) zero (suc k) g h = refl
other_group (x ∷ groups) (suc n) zero g h = refl
other_group (x ∷ groups) (suc n) (suc k) g h = other_group groups n k g (λ e. h (omega (arith, e)))

-- the member was put into group n
pub group_put : (groups : List (Vec MemberTale Global)) (n : ℕ) (g : Vec MemberTale Global) (m : MemberTale) → n < length groups → g.items ≡ group_at groups n ++ m ∷ []
    → (k : ℕ) → group_at (slice_set groups n g) k ≡ group_at groups k ++ gained n k m
group_put groups n g m h e k = by (k == n) refl
  where
    by : (b : Bool) → (k == n) ≡ b → group_at (slice_set groups n g) k ≡ group_at groups k ++ (if b then m ∷ [] else [])
    by true q = subst (λ (j : ℕ). group_at (slice_set groups n g) j ≡ group_at groups j ++ m ∷ []) (sym (eqb-true k n q)) (same_group groups n g h ∙ e)
    by false q = other_group groups n k g (λ r. eqb-false k n q (sym r)) ∙ sym (append-nil (group_at groups k))
