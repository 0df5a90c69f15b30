-- A transaction's PACT, and what became of the transaction as that tells.
use Rattle.std.specs.Prelude.{ℕ, ◌==◌, if◌then◌else◌, Option, Some, None, List, [], ◌∷◌, find}
use Rattle.snap_base.specs.declared.transactions.TxResult.{TxResult}
use Rattle.snap_base.specs.declared.verdicts.Verdict.{Verdict}
use Rattle.protocol.specs.Parts.{Cascade, Pact, Stage, Batch}
use Rattle.protocol.specs.Words.{covers}
use Rattle.protocol.specs.Verdicts.{pact_place, aborted_by, settled_verdict, or_else}

-- a PACT's batch and tid, how far the batch is, and how the PACT ended
pub record Found : Type 0 where
  pub bid : ℕ
  pub tid : ℕ
  pub stage : Stage
  pub result : Option TxResult

abbrev pub found_at : Batch → Pact → Found
found_at b p = record { bid = b.bid; tid = p.tid; stage = b.stage; result = p.result }

abbrev pub found_in : ℕ → Batch → List Pact → Option Found
found_in n b [] = None
found_in n b (p ∷ ps) = if p.tx == n then Some (found_at b p) else found_in n b ps

-- at one place: this PACT, if its transaction is the one
abbrev pub found_if : ℕ → Batch → Option Pact → Option Found
found_if n b None = None
found_if n b (Some p) = if p.tx == n then Some (found_at b p) else None

-- the first PACT with this transaction
abbrev pub pact_with_tx : ℕ → List Batch → Option Found
pact_with_tx n [] = None
pact_with_tx n (b ∷ bs) = or_else (found_in n b b.pacts) (pact_with_tx n bs)

-- what became of transaction n, whose PACT this is: as the cascade over its batch says, or at its place
abbrev pub verdict_of_found : Option Cascade → ℕ → Found → Option Verdict
verdict_of_found (Some c) n x = Some (aborted_by c n)
verdict_of_found None n x = settled_verdict x.stage (pact_place x.bid x.tid) x.result

abbrev pub verdict_found : List Cascade → ℕ → Option Found → Option Verdict
verdict_found cascades n None = None
verdict_found cascades n (Some x) = verdict_of_found (find (covers x.bid) cascades) n x
