-- What the marks and records of a batch tell of the long schedules.
-- Only proofs cite this; the rule is `OrderHolds` (Order).
use Rattle.std.specs.Prelude.{◌≡◌, ℕ, ◌%◌, Bool, true, false, not, ◌&&◌, ◌⊎◌, Some, is_some, List}
use Rattle.std.specs.List.{AllByRecursion, list_any, list_all}
use Rattle.protocol.specs.Fixed.{Fixed}
use Rattle.protocol.specs.Records.{is_complete}
use Rattle.protocol.specs.Parts.{Cascade, Who, OfBatch, Batch, Machine}
use Rattle.protocol.specs.Words.{is_who, is_aborted, is_formed, batch_of}
use Rattle.protocol.specs.Effects.{log_at}
use Rattle.protocol.specs.History.{History, Ran, Stands, Gone}
use Rattle.protocol_laws.specs.Commits.{is_kept}

abbrev pub is_done_as : ℕ → Ran → Bool
is_done_as k (Stands y c ss) = c && is_who y (OfBatch k)
is_done_as k (Gone y ss) = is_who y (OfBatch k)

-- the batch is complete there, or has left for good
abbrev pub is_done : ℕ → List Ran → Bool
is_done k rs = list_any (is_done_as k) rs

abbrev pub IsAbortedOrDone : ℕ → List Cascade → List Ran → Type 0
IsAbortedOrDone k cs rs = (is_aborted k cs ≡ true) ⊎ (is_done k rs ≡ true)

pub record Marks (cs : List Cascade) (long : ℕ → List Ran) (kept : List Who) (k : ℕ) (b : Batch) : Type 0 where
  pub noted : AllByRecursion (λ p. p.noted ≡ true → IsAbortedOrDone k cs (long p.actor)) b.places
  pub all_noted : is_formed b.stage ≡ false → list_all (λ p. p.noted) b.places ≡ true
  pub known : is_kept (OfBatch k) kept ≡ not (is_formed b.stage)

unfoldable pub Recorded : {C : Type 0} → Fixed C → Machine C → History → Type 0
Recorded w s h = (k a : ℕ) → list_any (is_complete k a) (log_at s (a % w.text.logs)).records ≡ true → IsAbortedOrDone k s.book.cascades (h.long a)

unfoldable pub Marked : {C : Type 0} → Machine C → History → Type 0
Marked s h = (k : ℕ) (b : Batch) → batch_of k s.desk.batches ≡ Some b → Marks s.book.cascades h.long h.kept k b

unfoldable pub Known : {C : Type 0} → Machine C → History → Type 0
Known s h = (k : ℕ) → is_kept (OfBatch k) h.kept ≡ true → is_some (batch_of k s.desk.batches) ≡ true
