-- What a place among the batches is to who looks for a number or for a tid: the one batch that is meant, where a change
-- of all batches that mean it is a change of this one.
use Rattle.std.specs.Prelude.{◌≡◌, ℕ, ◌<◌, Bool, true, None, List, length, map, slice_get, slice_set, slice_index_or}
use Rattle.snap_base.specs.declared.transactions.TxResult.{TxResult}
use Rattle.protocol.specs.Parts.{Batch}
use Rattle.protocol.specs.Words.{holds, batch_of, is_live_batch, result_among, pact_result}
use Rattle.protocol.specs.OnDesk.{changed_batch, marked, is_trimmed, with_results}
use Rattle.batch_table.specs.Joining.{pact_tids, AreConsecutive}
use Rattle.batch_table.specs.Listed.{tx_named, pact_tx}

-- a batch that was taken along
abbrev pub gone : Batch → Batch
gone b = record b { aborted = true }

-- whether batch k is live once it is trimmed on the actor
abbrev pub is_live_with_trim : ℕ → ℕ → List Batch → Bool
is_live_with_trim k a batches = holds (λ b. is_live_batch (marked a is_trimmed b)) (batch_of k batches)

-- batch k stands at place i
pub record IsPlaceOfBatch (k i : ℕ) (batches : List Batch) : Type 0 where
  pub within : i < length batches
  pub found : batch_of k batches ≡ slice_get batches i
  pub changed : (f : Batch → Batch) (d : Batch) → changed_batch k f batches ≡ slice_set batches i (f (slice_index_or batches i d))

-- there is no batch k
pub record IsNowhere (k : ℕ) (batches : List Batch) : Type 0 where
  pub missing : batch_of k batches ≡ None
  pub unchanged : (f : Batch → Batch) → changed_batch k f batches ≡ batches

-- if any batch has the tid, the one at place i does
pub record IsPlaceOfTid (t i : ℕ) (batches : List Batch) : Type 0 where
  pub within : i < length batches
  pub consecutive : (d : Batch) → AreConsecutive (pact_tids (slice_index_or batches i d).pacts)
  pub result : (d : Batch) → pact_result t batches ≡ result_among t (slice_index_or batches i d).pacts
  pub tx : (d : Batch) → pact_tx t batches ≡ tx_named t (slice_index_or batches i d).pacts
  pub noted : (r : TxResult) (d : Batch) → map (with_results t r) batches ≡ slice_set batches i (with_results t r (slice_index_or batches i d))

-- no batch has the tid
pub record IsTidNowhere (t : ℕ) (batches : List Batch) : Type 0 where
  pub result : pact_result t batches ≡ None
  pub tx : pact_tx t batches ≡ None
  pub noted : (r : TxResult) → map (with_results t r) batches ≡ batches
