-- What is done before a run, in two cases.
use Rattle.std.proofs.Common.{◌≡◌, ◌≢◌, ℕ, inl, inr, List, [], Result, Ok, Err}
use Rattle.std.specs.Prelude.{MatchResult}
use Rattle.gate_log.specs.State.{LogState}
use Rattle.txn_records.specs.declared.records.Record.{Record}
use Rattle.log_opening.specs.declared.refusals.LogsNo.{LogsNo}
use Rattle.log_opening.specs.declared.refusals.LogsNo.TheVariants as ending
use Rattle.run_opening.specs.Writes.{AreNotPrepared, ArePrepared, IsFirstNotWritten, IsFirstWritten, IsSideCleared, IsSideCutOff}

pub by_clearing : {T : Type 0} (r : Result T LogsNo) (head count generation : ℕ) (added : List Record) (old new : List LogState) → added ≡ []
    → MatchResult r (λ _. IsSideCleared head count generation old new) (λ no. (n : ℕ) × (no ≡ ending.Device n) × IsSideCutOff head count generation n old new)
    → MatchResult r (λ _. ArePrepared head count generation added old new) (λ no. AreNotPrepared head count generation added old new no)
by_clearing (Ok x) head count generation added old new none said = inl (none, said)
by_clearing (Err answer) head count generation added old new none said = inl (none, said)

pub by_writing : {T : Type 0} (r : Result T LogsNo) (head count generation : ℕ) (added : List Record) (old new : List LogState) → added ≢ []
    → MatchResult r (λ _. IsFirstWritten old new added) (λ no. IsFirstNotWritten old new added no)
    → MatchResult r (λ _. ArePrepared head count generation added old new) (λ no. AreNotPrepared head count generation added old new no)
by_writing (Ok x) head count generation added old new some said = inr (some, said)
by_writing (Err answer) head count generation added old new some said = inr (some, said)
