-- Sub-batches under way and on schedules are of the desk's batches, and a batch is complete only behind complete ones.
-- Only proofs cite this; the rule is `AnsweredWhenQuiet` (Quiet).
use Rattle.std.specs.Prelude.{◌≡◌, ℕ, Bool, true, is_some, List, [], ◌∷◌, ⊤}
use Rattle.std.specs.List.{AllByRecursion, list_any}
use Rattle.protocol.specs.Parts.{Batch, SubBatch, Entry, BatchEntry, ActEntry, Machine}
use Rattle.protocol.specs.Words.{holds, batch_of, declared_of, names_pact}
use Rattle.protocol.specs.Contents.{complete_mark}
use Rattle.protocol.specs.Effects.{cell_at}

abbrev pub is_declared : ℕ → ℕ → List Batch → Bool
is_declared k a bs = holds (λ b. is_some (declared_of a b)) (batch_of k bs)

abbrev pub is_pact_of : ℕ → ℕ → List Batch → Bool
is_pact_of t k bs = holds (names_pact t) (batch_of k bs)

pub record MessageOf (bs : List Batch) (m : SubBatch) : Type 0 where
  pub declared : is_declared m.bid m.actor bs ≡ true
  pub pacts : AllByRecursion (λ t. is_pact_of t m.bid bs ≡ true) m.tids

abbrev pub EntryOf : ℕ → List Batch → Entry → Type 0
EntryOf a bs (BatchEntry b) = (is_declared b.bid a bs ≡ true) × AllByRecursion (λ s. is_pact_of s.tid b.bid bs ≡ true) b.slots
EntryOf a bs (ActEntry x) = ⊤

-- behind one that is not complete none is
abbrev pub CompleteInOrder : List Entry → Type 0
CompleteInOrder [] = ⊤
CompleteInOrder (e ∷ es) = (list_any complete_mark es ≡ true → complete_mark e ≡ true) × CompleteInOrder es

pub record FromDesk {C : Type 0} (s : Machine C) : Type 0 where
  pub subs : AllByRecursion (MessageOf s.desk.batches) s.post.subs
  pub entries : (a : ℕ) → AllByRecursion (EntryOf a s.desk.batches) (cell_at s a).entries
  pub in_order : (a : ℕ) → CompleteInOrder (cell_at s a).entries
