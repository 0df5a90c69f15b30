-- Distinct numbers that are put in order ascend.
use Rattle.std.proofs.Common.{◌≡◌, ℕ, suc, ◌+◌, ◌<◌, ◌≤◌, ◌==◌, Bool, true, false, List, [], ◌∷◌, length, refl, ap, arith, inl, inr}
use Rattle.std.specs.Prelude.{nat_le, if◌then◌else◌}
use Rattle.std.specs.List.{AllByRecursion}
use Rattle.std.proofs.lemmas.Bool.{eq-eqb, leb-true, leb-false, cases_lt}
use Rattle.protocol.specs.Effects.{put_in, ascending}
use Rattle.protocol.specs.Numbers.{times, one_if}
use Rattle.protocol_laws.proofs.first.Times.{times_cons}
use Rattle.txn_records.specs.Records.{Ascend}

times_put : (m n : ℕ) (xs : List ℕ) → times m (put_in n xs) ≡ one_if (n == m) + times m xs
times_put m n [] = times_cons m n []
times_put m n (x ∷ xs) = by (nat_le n x) (times_put m n xs)
  where
    by : (b : Bool) → times m (put_in n xs) ≡ one_if (n == m) + times m xs → times m (if b then n ∷ x ∷ xs else x ∷ put_in n xs) ≡ one_if (n == m) + times m (x ∷ xs)
    by true r = times_cons m n (x ∷ xs)
    by false r = omega (arith, r, times_cons m x xs, times_cons m x (put_in n xs))

length_put : (n : ℕ) (xs : List ℕ) → length (put_in n xs) ≡ suc (length xs)
length_put n [] = refl
length_put n (x ∷ xs) = by (nat_le n x) (length_put n xs)
  where
    by : (b : Bool) → length (put_in n xs) ≡ suc (length xs) → length (if b then n ∷ x ∷ xs else x ∷ put_in n xs) ≡ suc (suc (length xs))
    by true r = refl
    by false r = ap suc r

-- a number that is not among some is not the first of them
apart : (n x : ℕ) (xs : List ℕ) → times n (x ∷ xs) ≡ 0 → n ≤ x → n + 1 ≤ x
apart n x xs z l = elim (cases_lt n x) [
  | inl h ↦ omega (arith, h)
  | inr h ↦ absurd (omega (arith, z, times_cons n x xs, ap one_if (eq-eqb x n (omega (arith, l, h)))))
]

put_ascend : (n low limit : ℕ) (xs : List ℕ) → low ≤ n → n < limit → times n xs ≡ 0 → Ascend low limit xs → Ascend low limit (put_in n xs)
put_ascend n low limit [] l m z h = (l, m, tt)
put_ascend n low limit (x ∷ xs) l m z h = by (nat_le n x) refl (λ g. put_ascend n (x + 1) limit xs g m (omega (arith, z, times_cons n x xs)) h.2)
  where
    by : (b : Bool) → nat_le n x ≡ b → (x + 1 ≤ n → Ascend (x + 1) limit (put_in n xs)) → Ascend low limit (if b then n ∷ x ∷ xs else x ∷ put_in n xs)
    by true e r = (l, m, (apart n x xs z (leb-true n x e), h.1, h.2))
    by false e r = (h.0, h.1, r (omega (arith, leb-false n x e)))

times_ascending : (m : ℕ) (ns : List ℕ) → times m (ascending ns) ≡ times m ns
times_ascending m [] = refl
times_ascending m (n ∷ ns) = omega (arith, times_put m n (ascending ns), times_ascending m ns, times_cons m n ns)

pub ascending_length : (ns : List ℕ) → length (ascending ns) ≡ length ns
ascending_length [] = refl
ascending_length (n ∷ ns) = omega (arith, length_put n (ascending ns), ascending_length ns)

fewer_times : (m n : ℕ) (ns : List ℕ) → times m (n ∷ ns) ≤ 1 → times m ns ≤ 1
fewer_times m n ns h = omega (arith, h, times_cons m n ns)

pub ascending_ascend : (limit : ℕ) (ns : List ℕ) → ((m : ℕ) → times m ns ≤ 1) → AllByRecursion (λ n. n < limit) ns → Ascend 0 limit (ascending ns)
ascending_ascend limit [] once h = tt
ascending_ascend limit (n ∷ ns) once h = put_ascend n 0 limit (ascending ns) (omega arith) h.0 (omega (arith, once n, times_cons n n ns, ap one_if (eq-eqb n n refl), times_ascending n ns)) (ascending_ascend limit ns (λ m. fewer_times m n ns (once m)) h.1)
