-- What is written before a run, and why there is none.
use Rattle.std.specs.Prelude.{◌≡◌, ◌+◌, ◌⊎◌, ℕ, List, [], ◌∷◌, length, ⊤}
use Rattle.snap_base.specs.declared.transactions.State.{State}
use Rattle.txn_records.specs.declared.records.Record.{Record}
use Rattle.txn_records.specs.declared.records.Record.TheVariants.{Genesis}
use Rattle.snap_recover.specs.declared.openings.Opening.{Opening}
use Rattle.log_opening.specs.declared.refusals.LogsNo.{LogsNo}
use Rattle.log_opening.specs.declared.refusals.LogsNo.TheVariants as ending
use Rattle.run_opening.specs.Begins.{AreEmpty, GoesOn, IsCause, fresh_opening}

-- the first record of the logs of a run
abbrev pub first_record : ℕ → List State → Record
first_record logs states = Genesis logs states

-- The run begins with the opening, and these are to be written to log 0 before it: Genesis where no log has a record.
abbrev pub IsStart : List (List Record) → List State → Opening → List Record → Type 0
IsStart logs states o added =
    (AreEmpty logs × (o ≡ fresh_opening states) × (added ≡ first_record (length logs) states ∷ []))
    ⊎ (GoesOn logs states o × (added ≡ []))

-- why a run does not go on from the records of these logs, the first of which lies on the head
abbrev pub IsNoStart : ℕ → List (List Record) → List State → LogsNo → Type 0
IsNoStart head logs states (ending.Refused log offset c) = (offset ≡ 0) × (¬ AreEmpty logs) × ((number : ℕ) × (log ≡ head + number) × IsCause logs states number c)
IsNoStart head logs states (ending.Device log) = ⊥
IsNoStart head logs states ending.Memory = ⊤
