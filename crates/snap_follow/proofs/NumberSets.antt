-- Sets of numbers.
use Rattle.std.proofs.Common.{◌≡◌, ℕ, ◌⊎◌, inl, inr, true, false, Bool, cond, List, [], refl, sym, subst, arith, IsTrue, ◌↔◌}
use Rattle.std.proofs.lemmas.Bool.Decides.{nat_tests}
use Rattle.std.specs.List.{list_any}
use Rattle.std.specs.Ordering.{nat_cmp}
use Rattle.std.specs.BTreeSet as bag
use Rattle.std.specs.BTreeSet.{BTreeSet}
use Rattle.std.specs.BTreeMap.{is_at}
use Rattle.snap_recover.proofs.Homes.{Inserts}
use Rattle.snap_follow.specs.Passes.{In}

pub at_true : (k q : ℕ) → is_at (nat_cmp k) q ≡ true → k ≡ q
at_true k q h = grind (arith, nat_tests)

pub at_same : (k : ℕ) → is_at (nat_cmp k) k ≡ true
at_same k = grind (arith, nat_tests)

cond_true : (b t r : Bool) → r ≡ cond b true t → IsTrue r ↔ (IsTrue t ⊎ (b ≡ true))
cond_true true t r e = (λ h. inr refl, λ h. e)
cond_true false t r e = (λ h. inl (subst IsTrue e h), λ h. elim h [ inl i ↦ subst IsTrue (sym e) i | inr n ↦ absurd (cc) ])

pub inserts : (k : ℕ) (old new : BTreeSet ℕ) → bag.Updates nat_cmp old new k true → Inserts k (In old) (In new)
inserts k old new u y =
    let c = cond_true (is_at (nat_cmp k) y) (bag.contains nat_cmp old y) (bag.contains nat_cmp new y) (u.0 y) in (
      λ i. elim (c.0 i) [ inl o ↦ inl o | inr e ↦ inr (at_true k y e) ],
      λ i. elim i [ inl o ↦ c.1 (inl o) | inr e ↦ c.1 (inr (subst (λ (z : ℕ). is_at (nat_cmp k) z ≡ true) e (at_same k))) ],
    )

pub empty_set : (set : BTreeSet ℕ) → set.keys ≡ [] → (n : ℕ) → ¬ In set n
empty_set set e n h =
    let bad : false ≡ true = subst (λ (z : List ℕ). IsTrue (list_any (is_at (nat_cmp n)) z)) e h in
    absurd (cc)
