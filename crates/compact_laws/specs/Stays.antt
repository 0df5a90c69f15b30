-- What a run leaves of the logs in use: its records make no other choice of them.
use Rattle.std.specs.Prelude.{ℕ, ◌≤◌, List}
use Rattle.protocol.specs.Records.{LogRecord}
use Rattle.txn_records.specs.declared.records.Record.{Record}
use Rattle.log_compact.specs.Finding.{IsUsed}
use Rattle.log_compact.specs.Sets.{IsSet}
use Rattle.compact_laws.specs.Steps.{with_run}

-- a set is the set still, with the same generation
abbrev pub SetStays : Type 0
SetStays =
    (devices : ℕ → List Record) (head logs generation : ℕ) (run : ℕ → List LogRecord)
    → 1 ≤ logs → IsSet devices head logs generation → IsSet (with_run devices head logs run) head logs generation

-- and so are the logs in use where there is none
abbrev pub UsedStays : Type 0
UsedStays =
    (devices : ℕ → List Record) (many head logs generation : ℕ) (run : ℕ → List LogRecord)
    → 1 ≤ logs → IsUsed devices many head logs generation → IsUsed (with_run devices head logs run) many head logs generation
