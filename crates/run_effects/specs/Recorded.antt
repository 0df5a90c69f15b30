-- What a run of a program's text writes has a spelling: what its groups are made of, and what waits, are records.
use Rattle.std.specs.Prelude.{ℕ, List}
use Rattle.std.specs.List.{AllByRecursion}
use Rattle.aml_slice.specs.aml_tree.Tree.{CheckedMethod}
use Rattle.machine_laws.specs.Programs.{IsTextOf, with_code}
use Rattle.protocol.specs.Events.{Event}
use Rattle.protocol.specs.Fixed.{Fixed, Text}
use Rattle.protocol.specs.Runs.{IsRun}
use Rattle.record_log.specs.txn_records.declared.records.Record.{Record}
use Rattle.record_log.specs.txn_records.Records.{IsRecord, IsState}
use Rattle.run_effects.specs.Groups.{group_behind, groups_of}

abbrev pub AreRecords : List Record → Type 0
AreRecords rs = AllByRecursion IsRecord rs

-- the groups that log l got in the run, and what waits there after it, are made of records
pub record GroupsHoldRecords {C : Type 0} (w : Fixed C) (es : List Event) (l : ℕ) : Type 0 where
  pub groups : AllByRecursion AreRecords (groups_of w l es)
  pub waiting : AreRecords (group_behind w l es)

-- in every run of every text of the program whose opening's states are states
abbrev pub GroupsAreRecords : List CheckedMethod → Type 0
GroupsAreRecords p =
    (w : Text) (es : List Event) (l : ℕ)
    → IsTextOf p w → AllByRecursion IsState w.opening.states → IsRun (with_code p w) es → GroupsHoldRecords (with_code p w) es l
