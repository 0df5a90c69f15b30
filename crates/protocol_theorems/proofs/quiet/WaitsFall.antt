-- Who is waited for is lower, so nobody waits in a circle.
use Rattle.std.specs.Prelude.{◌≡◌, ℕ, ◌<◌, ◌≤◌, ◌==◌, nat_lt, not, true, false, ◌&&◌, ◌||◌, ◌⊎◌, Some, is_some, List, [], ◌∷◌, ◌++◌}
use Rattle.std.proofs.Common.{arith, sym, ap, subst, inl, inr, ◌∙◌}
use Rattle.std.proofs.lemmas.Bool.{and_parts, or_cases, true≢false, eqb-true, ltb-true, not-true, cases_lt}
use Rattle.protocol.specs.Fixed.{Fixed}
use Rattle.protocol.specs.Rivals.{rivals}
use Rattle.protocol.specs.Parts.{Act, Who, OfBatch, OfAct, Entry, BatchEntry, ActEntry, Machine}
use Rattle.protocol.specs.Words.{holds, is_among, is_doomed, is_live_act, is_live_status, act_of, lock_of, has_act, batches_on}
use Rattle.protocol.specs.Effects.{cell_at}
use Rattle.protocol_theorems.specs.Floors.{number_or_0}
use Rattle.protocol_theorems.specs.Quiet.{Orderly, is_waiting_act, BeforeBatches, BehindBatches, ActsInOrder, IsAheadOf}
use Rattle.protocol_theorems.specs.Waits.{IsPending, is_ahead, WaitsFor, IsLower, before_number_of, WaitsAlong}
use Rattle.protocol_laws.proofs.first.PairsFound.{found_tid}
use Rattle.protocol_laws.proofs.machine.TurnsKept.{one_is}

-- ---- an ACT that still has something to do

pub record Pending {C : Type 0} (s : Machine C) (t : ℕ) : Type 0 where
  pub act : Act
  pub found : act_of t s.book.acts ≡ Some act
  pub waiting : is_waiting_act act ≡ true
  pub lives : is_doomed act.status ≡ false
  pub number : before_number_of s t ≡ act.m

pub pending : {C : Type 0} (s : Machine C) (t : ℕ) → IsPending s (OfAct t) → Pending s t
pending s t h =
    let x = one_is is_waiting_act (act_of t s.book.acts) h in
    record { act = x.0; found = x.1; waiting = x.2; lives = not-true (is_doomed x.0.status) (and_parts (is_live_act x.0) _ x.2).1; number = ap number_or_0 x.1 }

-- ---- along a schedule

behind_batch : (acts : List Act) (k t : ℕ) (y : Act) (es : List Entry) → BehindBatches acts es → is_ahead (OfBatch k) (OfAct t) es ≡ true → act_of t acts ≡ Some y → is_doomed y.status ≡ false → k ≤ y.m
behind_batch acts k t y [] h a e d = absurd (true≢false (sym a))
behind_batch acts k t y (ActEntry x ∷ es) h a e d = behind_batch acts k t y es h a e d
behind_batch acts k t y (BatchEntry b ∷ es) h a e d = elim (or_cases ((b.bid == k) && has_act t es) (is_ahead (OfBatch k) (OfAct t) es) a) [
  | inl q ↦ let v = and_parts (b.bid == k) (has_act t es) q in omega (arith, eqb-true b.bid k v.0, h.0 t y v.1 e d)
  | inr q ↦ behind_batch acts k t y es h.1 q e d
]

behind_act : (acts : List Act) (u t : ℕ) (x y : Act) (es : List Entry) → ActsInOrder acts es → is_ahead (OfAct u) (OfAct t) es ≡ true → act_of u acts ≡ Some x → act_of t acts ≡ Some y → is_doomed x.status ≡ false → is_doomed y.status ≡ false → (x.reader && y.reader) ≡ false → IsAheadOf x y
behind_act acts u t x y [] h a i j d e n = absurd (true≢false (sym a))
behind_act acts u t x y (BatchEntry b ∷ es) h a i j d e n = behind_act acts u t x y es h a i j d e n
behind_act acts u t x y (ActEntry z ∷ es) h a i j d e n = elim (or_cases ((z.tid == u) && has_act t es) (is_ahead (OfAct u) (OfAct t) es) a) [
  | inl q ↦ let v = and_parts (z.tid == u) (has_act t es) q in h.0 t x y v.1 (subst (λ n. act_of n acts ≡ Some x) (sym (eqb-true z.tid u v.0)) i) j d e n
  | inr q ↦ behind_act acts u t x y es h.1 q i j d e n
]

before_batch : (acts : List Act) (u k : ℕ) (x : Act) (es : List Entry) → BeforeBatches acts es → is_ahead (OfAct u) (OfBatch k) es ≡ true → act_of u acts ≡ Some x → is_doomed x.status ≡ false → x.m < k
before_batch acts u k x [] h a i d = absurd (true≢false (sym a))
before_batch acts u k x (BatchEntry b ∷ es) h a i d = before_batch acts u k x es h a i d
before_batch acts u k x (ActEntry z ∷ es) h a i d = elim (or_cases ((z.tid == u) && is_among k (batches_on es)) (is_ahead (OfAct u) (OfBatch k) es) a) [
  | inl q ↦ let v = and_parts (z.tid == u) (is_among k (batches_on es)) q in low (subst (λ n. act_of n acts ≡ Some x) (sym (eqb-true z.tid u v.0)) i) (h.0 k v.1)
  | inr q ↦ before_batch acts u k x es h.1 q i d
]
  where
    low : act_of z.tid acts ≡ Some x → holds (λ y. is_doomed y.status || nat_lt y.m k) (act_of z.tid acts) ≡ true → x.m < k
    low e q = elim (or_cases (is_doomed x.status) (nat_lt x.m k) (subst (λ o. holds (λ y. is_doomed y.status || nat_lt y.m k) o ≡ true) e q)) [
      | inl n ↦ absurd (true≢false (sym n ∙ d))
      | inr n ↦ ltb-true x.m k n
    ]

-- two rivals do not both only read
not_both : (x y : Act) (acts : List Act) (u t : ℕ) → act_of u acts ≡ Some x → act_of t acts ≡ Some y → rivals (lock_of u acts) (lock_of t acts) ≡ true → (x.reader && y.reader) ≡ false
not_both x y acts u t e f h =
    let g = subst (λ o. not (holds (λ z. z.reader) o && holds (λ z. z.reader) (act_of t acts)) ≡ true) e h in
    not-true (x.reader && y.reader) (subst (λ o. not (x.reader && holds (λ z. z.reader) o) ≡ true) f g)

-- ---- who is waited for is lower

kept_by_act : (m n u t : ℕ) (x y : Act) → m ≡ x.m → n ≡ y.m → x.tid ≡ u → y.tid ≡ t → IsAheadOf x y → (m < n) ⊎ ((m ≡ n) × (t < u))
kept_by_act m n u t x y e f i j (inl h) = inl (omega (arith, e, f, h))
kept_by_act m n u t x y e f i j (inr h) = elim (cases_lt x.m y.m) [
  | inl l ↦ inl (omega (arith, e, f, l))
  | inr l ↦ inr (omega (arith, e, f, l, h.0), omega (arith, i, j, h.1))
]

pub falls : {C : Type 0} (w : Fixed C) (s : Machine C) → Orderly w s → (x y : Who) → WaitsFor s x y → IsLower s y x
falls w s o (OfBatch k) (OfBatch j) h = h.waits.1
falls w s o (OfBatch k) (OfAct u) h =
    let x = pending s u h.other in
    let p = h.waits.1 in
    omega (arith, x.number, before_batch s.book.acts u k x.act (cell_at s p.actor).entries (o.acts.before p.actor p.present) p.ahead x.found x.lives)
falls w s o (OfAct t) (OfBatch k) h =
    let y = pending s t h.waiter in
    elim (h.waits) [
      | inl q ↦
          let z = one_is (λ x. is_live_status x.status && (is_some x.result && (x.m == k))) (act_of t s.book.acts) q in
          let e = eqb-true z.0.m k (and_parts (is_some z.0.result) (z.0.m == k) (and_parts (is_live_status z.0.status) _ z.2).1).1 in
          omega (arith, e, ap number_or_0 z.1)
      | inr q ↦ omega (arith, y.number, behind_batch s.book.acts k t y.act (cell_at s q.0.actor).entries (o.acts.behind q.0.actor q.0.present) q.0.ahead y.found y.lives)
    ]
falls w s o (OfAct t) (OfAct u) h =
    let y = pending s t h.waiter in
    let x = pending s u h.other in
    let p = h.waits.0.0 in
    kept_by_act (before_number_of s u) (before_number_of s t) u t x.act y.act x.number y.number (found_tid u s.book.acts x.act x.found) (found_tid t s.book.acts y.act y.found) (behind_act s.book.acts u t x.act y.act (cell_at s p.actor).entries (o.acts.in_order p.actor p.present) p.ahead x.found y.found x.lives y.lives (not_both x.act y.act s.book.acts u t x.found y.found h.waits.1))

-- ---- nobody waits in a circle

lower_through : {C : Type 0} (s : Machine C) (x y z : Who) → IsLower s x y → IsLower s y z → IsLower s x z
lower_through s (OfBatch i) (OfBatch j) (OfBatch k) a b = omega (arith, a, b)
lower_through s (OfBatch i) (OfBatch j) (OfAct t) a b = omega (arith, a, b)
lower_through s (OfBatch i) (OfAct u) (OfBatch k) a b = omega (arith, a, b)
lower_through s (OfBatch i) (OfAct u) (OfAct t) a (inl b) = omega (arith, a, b)
lower_through s (OfBatch i) (OfAct u) (OfAct t) a (inr b) = omega (arith, a, b.0)
lower_through s (OfAct v) (OfBatch j) (OfBatch k) a b = omega (arith, a, b)
lower_through s (OfAct v) (OfBatch j) (OfAct t) a b = inl (omega (arith, a, b))
lower_through s (OfAct v) (OfAct u) (OfBatch k) (inl a) b = omega (arith, a, b)
lower_through s (OfAct v) (OfAct u) (OfBatch k) (inr a) b = omega (arith, a.0, b)
lower_through s (OfAct v) (OfAct u) (OfAct t) (inl a) (inl b) = inl (omega (arith, a, b))
lower_through s (OfAct v) (OfAct u) (OfAct t) (inl a) (inr b) = inl (omega (arith, a, b.0))
lower_through s (OfAct v) (OfAct u) (OfAct t) (inr a) (inl b) = inl (omega (arith, a.0, b))
lower_through s (OfAct v) (OfAct u) (OfAct t) (inr a) (inr b) = inr (omega (arith, a.0, b.0), omega (arith, a.1, b.1))

not_lower : {C : Type 0} (s : Machine C) (x : Who) → IsLower s x x → ⊥
not_lower s (OfBatch k) h = omega (arith, h)
not_lower s (OfAct t) (inl h) = omega (arith, h)
not_lower s (OfAct t) (inr h) = omega (arith, h.1)

lower_along : {C : Type 0} (w : Fixed C) (s : Machine C) → Orderly w s → (x z : Who) (ys : List Who) → WaitsAlong s x (ys ++ z ∷ []) → IsLower s z x
lower_along w s o x z [] h = falls w s o x z h.0
lower_along w s o x z (y ∷ ys) h = lower_through s z y x (lower_along w s o y z ys h.1) (falls w s o x y h.0)

pub no_circle : {C : Type 0} (w : Fixed C) (s : Machine C) → Orderly w s → (x : Who) (ys : List Who) → WaitsAlong s x (ys ++ x ∷ []) → ⊥
no_circle w s o x ys h = not_lower s x (lower_along w s o x x ys h)
