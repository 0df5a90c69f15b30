-- What the event table asks of the desk, one word for each condition; those that stand in the table are the machine's. A condition
-- on a batch, an actor or a transaction that the desk does not know is false.
use Rattle.std.specs.Prelude.{ℕ, Bool, ◌&&◌, Option, List, option_map}
use Rattle.std.specs.Option.{option_and_then}
use Rattle.snap_base.specs.declared.ids.TxNo.{TxNo}
pub use Rattle.protocol.specs.Conditions.{is_next_open, has_ended_well, is_noted_everywhere, awaits_note, awaits_settling, awaits_trim, has_failed_pact, awaits_reply}
use Rattle.protocol.specs.Parts.{Batch}
use Rattle.protocol.specs.Words.{batch_of, Failure, first_failed}

-- what a batch that commits has, its record apart
abbrev pub may_commit : ℕ → List Batch → Bool
may_commit k batches = is_next_open k batches && (has_ended_well k batches && is_noted_everywhere k batches)

-- that PACT's transaction and its code
abbrev pub failure_shown : Failure → TxNo × ℕ
failure_shown f = (record { 0 = f.tx }, f.code)

abbrev pub failed_in : ℕ → List Batch → Option (TxNo × ℕ)
failed_in k batches = option_and_then (λ b. option_map failure_shown (first_failed b.pacts)) (batch_of k batches)
