-- Lists with fewer numbers: each of them once, and among those of another list.
use Rattle.std.specs.Prelude.{◌≡◌, refl, ℕ, ◌+◌, ◌≤◌, ◌<◌, ◌==◌, Bool, true, false, ◌⊎◌, List, [], ◌∷◌, length, if◌then◌else◌}
use Rattle.std.specs.List.{AllByRecursion}
use Rattle.std.proofs.Common.{arith, ap, subst, inl, inr}
use Rattle.std.proofs.lemmas.Bool.{eqb-true, eq-eqb, cases_lt}
use Rattle.protocol.specs.Numbers.{times, one_if}
use Rattle.protocol_laws.proofs.first.Times

-- one of them goes
out : ℕ → List ℕ → List ℕ
out k [] = []
out k (x ∷ xs) = if x == k then xs else x ∷ out k xs

times_out : (k n : ℕ) (xs : List ℕ) → 1 ≤ times k xs → times n (out k xs) + one_if (k == n) ≡ times n xs
unfolding out
times_out k n [] l = absurd (omega (arith, l))
times_out k n (x ∷ xs) l = by (x == k) refl (times_out k n xs)
  where
    by : (b : Bool) → (x == k) ≡ b → (1 ≤ times k xs → times n (out k xs) + one_if (k == n) ≡ times n xs) → times n (if b then xs else x ∷ out k xs) + one_if (k == n) ≡ times n (x ∷ xs)
    by true e r = omega (arith, Times.times_cons n x xs, ap (λ z. one_if (z == n)) (eqb-true x k e))
    by false e r = omega (arith, Times.times_cons n x xs, Times.times_cons n x (out k xs), r (omega (arith, l, Times.times_cons k x xs, ap one_if e)))

length_out : (k : ℕ) (xs : List ℕ) → 1 ≤ times k xs → length (out k xs) + 1 ≡ length xs
unfolding out
length_out k [] l = absurd (omega (arith, l))
length_out k (x ∷ xs) l = by (x == k) refl (length_out k xs)
  where
    by : (b : Bool) → (x == k) ≡ b → (1 ≤ times k xs → length (out k xs) + 1 ≡ length xs) → length (if b then xs else x ∷ out k xs) + 1 ≡ length (x ∷ xs)
    by true e r = omega arith
    by false e r = omega (arith, r (omega (arith, l, Times.times_cons k x xs, ap one_if e)))

pub fewer : (ns ms : List ℕ) → ((n : ℕ) → times n ns ≤ times n ms) → length ns ≤ length ms
fewer [] ms h = omega arith
fewer (n ∷ ns) ms h =
    let l : 1 ≤ times n ms = omega (arith, h n, Times.times_cons n n ns, ap one_if (eq-eqb n n refl)) in
    omega (arith, length_out n ms l, fewer ns (out n ms) (λ m. omega (arith, h m, Times.times_cons m n ns, times_out n m ms l)))

among : (P : ℕ → Type 0) (n : ℕ) (ns : List ℕ) → 1 ≤ times n ns → AllByRecursion P ns → P n
among P n [] l h = absurd (omega (arith, l))
among P n (x ∷ xs) l h = by (x == n) refl (among P n xs)
  where
    by : (b : Bool) → (x == n) ≡ b → (1 ≤ times n xs → AllByRecursion P xs → P n) → P n
    by true e r = subst P (eqb-true x n e) h.0
    by false e r = r (omega (arith, l, Times.times_cons n x xs, ap one_if e)) h.1

-- each once, and each among the others
pub fewer_of : (ns ms : List ℕ) → ((n : ℕ) → times n ns ≤ 1) → AllByRecursion (λ n. 1 ≤ times n ms) ns → length ns ≤ length ms
fewer_of ns ms o h = fewer ns ms (λ n. by n (cases_lt 0 (times n ns)))
  where
    by : (n : ℕ) → (0 < times n ns) ⊎ (times n ns ≤ 0) → times n ns ≤ times n ms
    by n (inl l) = omega (arith, o n, among (λ m. 1 ≤ times m ms) n ns (omega (arith, l)) h)
    by n (inr l) = omega (arith, l)
