-- Who waits for whom. A batch or an ACT that still has something to do waits for another one in five cases, each time for one
-- that is lower: by number, a batch before an ACT of the same number, and of two such ACTs the younger first. So nobody waits
-- in a circle; and where one waits for nobody, some event is allowed. An ACT that only reads does not wait for another such.
use Rattle.std.specs.Prelude.{◌≡◌, ℕ, ◌<◌, ◌≤◌, ◌==◌, Bool, true, false, ◌&&◌, ◌||◌, ◌⊎◌, is_some, List, [], ◌∷◌, ◌++◌, ⊤}
use Rattle.snap_base.specs.declared.transactions.State.{State}
use Rattle.protocol.specs.Facts.{Alone}
use Rattle.protocol.specs.Fixed.{Fixed}
use Rattle.protocol.specs.Rivals.{rivals}
use Rattle.protocol.specs.Parts.{Who, OfBatch, OfAct, Entry, Machine}
use Rattle.protocol.specs.Words.{holds, is_among, is_live_status, is_open, is_live_batch, is_who, who_of, act_of, batch_of, lock_of, has_act, batches_on, waiting_of}
use Rattle.protocol.specs.Conditions.{epoch}
use Rattle.protocol.specs.Effects.{cell_at}
use Rattle.protocol.specs.Runs.{IsQuiet}
use Rattle.protocol.specs.History.{History}
use Rattle.protocol_theorems.specs.Floors.{number_or_0}
use Rattle.protocol_theorems.specs.Quiet.{is_waiting_act}

-- ---- who still has something to do

-- a batch that is neither aborted nor trimmed on all its actors; an ACT that is not doomed and has not left all its actors
abbrev pub IsPending : {C : Type 0} → Machine C → Who → Type 0
IsPending s (OfBatch k) = holds is_live_batch (batch_of k s.desk.batches) ≡ true
IsPending s (OfAct t) = holds is_waiting_act (act_of t s.book.acts) ≡ true

-- ---- who stands ahead of whom on an actor

abbrev pub is_on_schedule : Who → List Entry → Bool
is_on_schedule (OfBatch k) es = is_among k (batches_on es)
is_on_schedule (OfAct t) es = has_act t es

abbrev pub is_ahead : Who → Who → List Entry → Bool
is_ahead y x [] = false
is_ahead y x (e ∷ es) = (is_who (who_of e) y && is_on_schedule x es) || is_ahead y x es

-- y stands ahead of x on an actor, whose cell has seen every cascade
pub record StandsAhead {C : Type 0} (s : Machine C) (y x : Who) : Type 0 where
  pub actor : ℕ
  pub present : (cell_at s actor).epoch ≡ epoch s.book
  pub ahead : is_ahead y x (cell_at s actor).entries ≡ true

-- ---- the five cases

-- an ACT that has ended gets its place once the batch of its before number is settled
abbrev pub HasEndedAt : {C : Type 0} → Machine C → ℕ → ℕ → Type 0
HasEndedAt s t k = holds (λ x. is_live_status x.status && (is_some x.result && (x.m == k))) (act_of t s.book.acts) ≡ true

-- an ACT whose control lies in the inbox of an actor runs there once nobody stands ahead of it but ACTs that are no rivals of it
abbrev pub IsKeptBack : {C : Type 0} → Machine C → ℕ → Who → Type 0
IsKeptBack s t y = (p : StandsAhead s y (OfAct t)) × (is_some (waiting_of t (cell_at s p.actor).inbox) ≡ true)

-- they can't have an actor together
abbrev pub AreRivals : {C : Type 0} → Machine C → ℕ → ℕ → Type 0
AreRivals s u t = rivals (lock_of u s.book.acts) (lock_of t s.book.acts) ≡ true

-- a batch that is formed, and not taken along by a cascade
abbrev pub IsOpenBatch : {C : Type 0} → Machine C → ℕ → Type 0
IsOpenBatch s k = holds is_open (batch_of k s.desk.batches) ≡ true

abbrev pub Waits : {C : Type 0} → Machine C → Who → Who → Type 0
-- an ACT for the batch of its before number, and for a batch ahead of it
Waits s (OfAct t) (OfBatch k) = HasEndedAt s t k ⊎ IsKeptBack s t (OfBatch k)
-- for a rival ahead of it
Waits s (OfAct t) (OfAct u) = IsKeptBack s t (OfAct u) × AreRivals s u t
-- an open batch for each smaller one
Waits s (OfBatch k) (OfBatch j) = IsOpenBatch s k × (j < k)
-- and for an ACT ahead of it
Waits s (OfBatch k) (OfAct u) = IsOpenBatch s k × StandsAhead s (OfAct u) (OfBatch k)

-- x waits for y, and both still have something to do
pub record WaitsFor {C : Type 0} (s : Machine C) (x y : Who) : Type 0 where
  pub waiter : IsPending s x
  pub other : IsPending s y
  pub waits : Waits s x y

-- ---- the order

-- the before number of an ACT
abbrev pub before_number_of : {C : Type 0} → Machine C → ℕ → ℕ
before_number_of s t = number_or_0 (act_of t s.book.acts)

abbrev pub IsLower : {C : Type 0} → Machine C → Who → Who → Type 0
IsLower s (OfBatch j) (OfBatch k) = j < k
IsLower s (OfBatch j) (OfAct t) = j ≤ before_number_of s t
IsLower s (OfAct u) (OfBatch k) = before_number_of s u < k
IsLower s (OfAct u) (OfAct t) = (before_number_of s u < before_number_of s t) ⊎ ((before_number_of s u ≡ before_number_of s t) × (t < u))

-- ---- the law

-- the first waits for the second, the second for the third, and so on
abbrev pub WaitsAlong : {C : Type 0} → Machine C → Who → List Who → Type 0
WaitsAlong s x [] = ⊤
WaitsAlong s x (y ∷ ys) = WaitsFor s x y × WaitsAlong s y ys

pub record WaitsEnd {C : Type 0} (w : Fixed C) (finish : C → List State → Alone) (s : Machine C) (h : History) : Type 0 where
  -- who is waited for is lower
  pub falls : (x y : Who) → WaitsFor s x y → IsLower s y x
  -- nobody waits for one who waits, through any others, for it
  pub no_circle : (x : Who) (ys : List Who) → WaitsAlong s x (ys ++ x ∷ []) → ⊥
  -- where one still has something to do and waits for nobody, some event is allowed
  pub goes_on : (x : Who) → IsPending s x → ((y : Who) → WaitsFor s x y → ⊥) → IsQuiet w s → ⊥
