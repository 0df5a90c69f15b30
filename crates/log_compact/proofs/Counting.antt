-- How many of the first ones are batches, and how many are undeclared transactions.
use Rattle.std.proofs.Common.{◌≡◌, ℕ, zero, suc, ◌+◌, ◌<◌, List, [], ◌∷◌, length, get_or, take, sym, ap, subst, arith}
use Rattle.snap_recover.specs.declared.openings.Kept.{Kept}
use Rattle.snap_recover.specs.declared.openings.Kept.TheVariants as kept
use Rattle.log_compact.specs.Sets.{count_batches, count_acts}

batches_taken : (ks : List Kept) (i : ℕ) (k : Kept) → i < length ks → k ≡ get_or ks i k → count_batches (take (suc i) ks) ≡ count_batches (take i ks) + count_batches (k ∷ [])
batches_taken [] i k l e = absurd (omega (arith, l))
batches_taken (x ∷ ks) zero k l e = omega (arith, ap (λ z. count_batches (z ∷ [])) (sym e))
batches_taken (kept.Batch bid tids values ∷ ks) (suc i) k l e = omega (arith, batches_taken ks i k (omega (arith, l)) e)
batches_taken (kept.Act tid m c value ∷ ks) (suc i) k l e = batches_taken ks i k (omega (arith, l)) e

acts_taken : (ks : List Kept) (i : ℕ) (k : Kept) → i < length ks → k ≡ get_or ks i k → count_acts (take (suc i) ks) ≡ count_acts (take i ks) + count_acts (k ∷ [])
acts_taken [] i k l e = absurd (omega (arith, l))
acts_taken (x ∷ ks) zero k l e = omega (arith, ap (λ z. count_acts (z ∷ [])) (sym e))
acts_taken (kept.Batch bid tids values ∷ ks) (suc i) k l e = acts_taken ks i k (omega (arith, l)) e
acts_taken (kept.Act tid m c value ∷ ks) (suc i) k l e = omega (arith, acts_taken ks i k (omega (arith, l)) e)

pub batches_next : (ks : List Kept) (i : ℕ) (k : Kept) → i < length ks → k ≡ get_or ks i k → count_batches (take (i + 1) ks) ≡ count_batches (take i ks) + count_batches (k ∷ [])
batches_next ks i k l e = let more : suc i ≡ i + 1 = omega arith in subst (λ n. count_batches (take n ks) ≡ count_batches (take i ks) + count_batches (k ∷ [])) more (batches_taken ks i k l e)

pub acts_next : (ks : List Kept) (i : ℕ) (k : Kept) → i < length ks → k ≡ get_or ks i k → count_acts (take (i + 1) ks) ≡ count_acts (take i ks) + count_acts (k ∷ [])
acts_next ks i k l e = let more : suc i ≡ i + 1 = omega arith in subst (λ n. count_acts (take n ks) ≡ count_acts (take i ks) + count_acts (k ∷ [])) more (acts_taken ks i k l e)
