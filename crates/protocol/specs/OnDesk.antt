-- What the events do to the desk.
use Rattle.std.specs.Prelude.{ℕ, ◌==◌, nat_le, Bool, true, false, ◌||◌, if◌then◌else◌, Option, Some, None, List, [], ◌∷◌, ◌++◌, map, slice_set}
use Rattle.snap_base.specs.declared.transactions.TxResult.{TxResult}
use Rattle.protocol.specs.Fixed.{Next, Go, Ended}
use Rattle.protocol.specs.Parts as stages
use Rattle.protocol.specs.Parts.{Declared, Pact, Stage, Committing, Settled, Batch, Desk, Outcome}
use Rattle.protocol.specs.OnRing.{Formed}

-- ---- one batch among all

abbrev pub change_if : Bool → (Batch → Batch) → Batch → Batch
change_if true f b = f b
change_if false f b = b

-- the batch with this number is changed
abbrev pub changed_batch : ℕ → (Batch → Batch) → List Batch → List Batch
changed_batch k f batches = map (λ b. change_if (b.bid == k) f b) batches

abbrev pub mark_if : Bool → (Declared → Declared) → Declared → Declared
mark_if true f p = f p
mark_if false f p = p

-- the batch's mark on this actor is changed
abbrev pub marked : ℕ → (Declared → Declared) → Batch → Batch
marked a f b = record b { places = map (λ p. mark_if (p.actor == a) f p) b.places }

abbrev pub with_stage : Stage → Batch → Batch
with_stage st b = record b { stage = st }

-- ---- the way of a batch

abbrev pub new_declared : ℕ → Declared
new_declared a = record { actor = a; noted = false; trimmed = false }

abbrev pub new_batch : ℕ → List ℕ → List Pact → Batch
new_batch k actors pacts = record { bid = k; places = map new_declared actors; pacts = pacts; stage = stages.Formed; aborted = false }

abbrev pub batch_formed : Formed → Desk → Desk
batch_formed f d = record d { batches = d.batches ++ new_batch f.bid f.actors f.pacts ∷ [] }

abbrev pub is_noted : Declared → Declared
is_noted p = record p { noted = true }

abbrev pub is_trimmed : Declared → Declared
is_trimmed p = record p { trimmed = true }

abbrev pub batch_noted : ℕ → ℕ → Desk → Desk
batch_noted k a d = record d { batches = changed_batch k (marked a is_noted) d.batches }

abbrev pub batch_committing : ℕ → Desk → Desk
batch_committing k d = record d { batches = changed_batch k (with_stage Committing) d.batches }

abbrev pub batch_settled : ℕ → Desk → Desk
batch_settled k d = record d { batches = changed_batch k (with_stage Settled) d.batches; settled = k }

abbrev pub batch_trimmed : ℕ → ℕ → Desk → Desk
batch_trimmed k a d = record d { batches = changed_batch k (marked a is_trimmed) d.batches }

-- every batch from k on is taken along
abbrev pub taken : ℕ → Batch → Batch
taken k b = record b { aborted = b.aborted || nat_le k b.bid }

abbrev pub batches_aborted : ℕ → Desk → Desk
batches_aborted k d = record d { batches = map (taken k) d.batches }

-- ---- results

abbrev pub with_result : ℕ → TxResult → Pact → Pact
with_result t r p = record p { result = if p.tid == t then Some r else p.result }

-- a result of an aborted batch is not noted any more
abbrev pub with_results : ℕ → TxResult → Batch → Batch
with_results t r b = record b { pacts = if b.aborted then b.pacts else map (with_result t r) b.pacts }

abbrev pub noted_for : {C : Type 0} → ℕ → Next C → List Batch → List Batch
noted_for t (Go b control) batches = batches
noted_for t (Ended r) batches = map (with_results t r) batches

abbrev pub noted_from : {C : Type 0} → ℕ → Option (Outcome C) → List Batch → List Batch
noted_from t None batches = batches
noted_from t (Some x) batches = noted_for t x.next batches

-- the result of a PACT, which has no entry of its own on the actor
abbrev pub pact_ended : {C : Type 0} → ℕ → Bool → Option (Outcome C) → Desk → Desk
pact_ended t is_act x d = record d { batches = if is_act then d.batches else noted_from t x d.batches }

-- ---- replies

abbrev pub replied_to : ℕ → Desk → Desk
replied_to n d = record d { replied = slice_set d.replied n true }
