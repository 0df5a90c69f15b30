-- In a quiet state nothing is left that still has to do something: by induction on batch numbers, and at each
-- number from the youngest ACT on.
use Rattle.std.specs.Prelude.{◌≡◌, ℕ, zero, suc, ◌+◌, ◌<◌, ◌≤◌, true, ◌⊎◌, Some}
use Rattle.std.proofs.Common.{arith, ap, subst, inl, inr}
use Rattle.std.proofs.lemmas.Bool.{cases_lt}
use Rattle.protocol.specs.Fixed.{Fixed}
use Rattle.protocol.specs.Parts.{Act, Who, OfBatch, OfAct, Machine}
use Rattle.protocol.specs.Words.{act_of}
use Rattle.protocol.specs.Runs.{IsQuiet}
use Rattle.protocol_theorems.specs.Quiet.{Orderly, IsLiveBatch, is_waiting_act, IsAheadOf}
use Rattle.protocol_theorems.specs.Floors.{number_or_0}
use Rattle.protocol_theorems.specs.Waits.{WaitsFor, before_number_of}
use Rattle.protocol_theorems.proofs.quiet.QuietBatch.{no_batch}
use Rattle.protocol_theorems.proofs.quiet.QuietAct.{no_act}
use Rattle.protocol_theorems.proofs.quiet.WaitsFall.{falls, pending}
use Rattle.protocol_laws.proofs.first.PairsFound.{found_tid}

-- nothing that still has to do something is below the number
pub record Below {C : Type 0} (s : Machine C) (k : ℕ) : Type 0 where
  pub batches : (j : ℕ) → j < k → IsLiveBatch s j → ⊥
  pub acts : (u : ℕ) (x : Act) → act_of u s.book.acts ≡ Some x → is_waiting_act x ≡ true → x.m < k → ⊥

-- so the batch waits for nobody
batch_free : {C : Type 0} (w : Fixed C) (s : Machine C) (k : ℕ) → Orderly w s → Below s k → (y : Who) → WaitsFor s (OfBatch k) y → ⊥
batch_free w s k o l (OfBatch j) h = l.batches j (falls w s o (OfBatch k) (OfBatch j) h) h.other
batch_free w s k o l (OfAct u) h = let x = pending s u h.other in l.acts u x.act x.found x.waiting (omega (arith, x.number, falls w s o (OfBatch k) (OfAct u) h))

-- nor does an ACT, where nothing is below it
act_free : {C : Type 0} (w : Fixed C) (s : Machine C) (t : ℕ) (y : Act) → Orderly w s → act_of t s.book.acts ≡ Some y → ((j : ℕ) → j ≤ y.m → IsLiveBatch s j → ⊥) → ((u : ℕ) (x : Act) → act_of u s.book.acts ≡ Some x → is_waiting_act x ≡ true → (x.m < y.m) ⊎ ((x.m ≤ y.m) × (y.tid < x.tid)) → ⊥) → (z : Who) → WaitsFor s (OfAct t) z → ⊥
act_free w s t y o e b a (OfBatch j) h = b j (omega (arith, ap number_or_0 e, falls w s o (OfAct t) (OfBatch j) h)) h.other
act_free w s t y o e b a (OfAct u) h =
    let x = pending s u h.other in
    a u x.act x.found x.waiting (by x.act.m x.act.tid x.number (found_tid u s.book.acts x.act x.found) (falls w s o (OfAct t) (OfAct u) h))
  where
    by : (m v : ℕ) → before_number_of s u ≡ m → v ≡ u → (before_number_of s u < before_number_of s t) ⊎ ((before_number_of s u ≡ before_number_of s t) × (t < u)) → (m < y.m) ⊎ ((m ≤ y.m) × (y.tid < v))
    by m v i j (inl k) = inl (omega (arith, i, k, ap number_or_0 e))
    by m v i j (inr k) = inr (omega (arith, i, k.0, ap number_or_0 e), omega (arith, j, k.1, found_tid t s.book.acts y e))

-- of one number, the youngest first
at_number : {C : Type 0} (w : Fixed C) (s : Machine C) (n : ℕ) → IsQuiet w s → Orderly w s → Below s n → (IsLiveBatch s n → ⊥) → (d u : ℕ) (x : Act) → act_of u s.book.acts ≡ Some x → is_waiting_act x ≡ true → x.m ≡ n → s.ring.next_tid ≤ x.tid + d → ⊥
at_number w s n q o l b zero u x e h m y = omega (arith, o.found.tids u x e, found_tid u s.book.acts x e, y)
at_number w s n q o l b (suc d) u x e h m y =
    no_act w s u x q o (act_free w s u x o e batches (acts (at_number w s n q o l b d))) e h
  where
    batches : (j : ℕ) → j ≤ x.m → IsLiveBatch s j → ⊥
    batches j k v = elim (cases_lt j n) [ inl i ↦ l.batches j i v | inr i ↦ let z : j ≡ n = omega (arith, i, k, m) in b (subst (IsLiveBatch s) z v) ]

    acts : ((u : ℕ) (x : Act) → act_of u s.book.acts ≡ Some x → is_waiting_act x ≡ true → x.m ≡ n → s.ring.next_tid ≤ x.tid + d → ⊥) → (v : ℕ) (z : Act) → act_of v s.book.acts ≡ Some z → is_waiting_act z ≡ true → IsAheadOf z x → ⊥
    acts younger v z f g (inl k) = l.acts v z f g (omega (arith, k, m))
    acts younger v z f g (inr k) = elim (cases_lt z.m n) [ inl i ↦ l.acts v z f g i | inr i ↦ younger v z f g (omega (arith, i, k.0, m)) (omega (arith, k.1, y)) ]

below : {C : Type 0} (w : Fixed C) (s : Machine C) → IsQuiet w s → Orderly w s → (n : ℕ) → Below s n
below w s q o zero = record { batches = λ j k. absurd (omega (arith, k)); acts = λ u x e h k. omega (arith, k) }
below w s q o (suc n) = by (below w s q o n)
  where
    by : Below s n → Below s (suc n)
    by l = record {
      batches = λ j k v. elim (cases_lt j n) [ inl i ↦ l.batches j i v | inr i ↦ let z : j ≡ n = omega (arith, i, k) in no_batch w s n q o (batch_free w s n o l) (subst (IsLiveBatch s) z v) ];
      acts = λ u x e h k. elim (cases_lt x.m n) [ inl i ↦ l.acts u x e h i | inr i ↦ at_number w s n q o l (no_batch w s n q o (batch_free w s n o l)) s.ring.next_tid u x e h (omega (arith, i, k)) (omega arith) ];
    }

pub no_live_batch : {C : Type 0} (w : Fixed C) (s : Machine C) → IsQuiet w s → Orderly w s → (k : ℕ) → IsLiveBatch s k → ⊥
no_live_batch w s q o k h = (below w s q o (suc k)).batches k (omega arith) h

pub no_waiting_act : {C : Type 0} (w : Fixed C) (s : Machine C) → IsQuiet w s → Orderly w s → (t : ℕ) (x : Act) → act_of t s.book.acts ≡ Some x → is_waiting_act x ≡ true → ⊥
no_waiting_act w s q o t x e h = (below w s q o (suc x.m)).acts t x e h (omega arith)
