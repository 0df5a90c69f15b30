-- How far a commit has come, as a status of the machine. The votes do not know who is doomed.
use Rattle.std.specs.Prelude.{IsTrue, ◌||◌, Some, List}
use Rattle.std.specs.List.{list_all}
use Rattle.snap_base.specs.declared.transactions.TxResult.{TxResult}
use Rattle.protocol.specs.Parts.{Joined, Status, Live}
use Rattle.protocol.specs.Words.{is_failure, is_ordered}
use Rattle.protocol.specs.Parts as parts
use Rattle.act_commit.specs.declared.stages.Stage.{Stage}
use Rattle.act_commit.specs.declared.stages.Stage.TheVariants.{Open, Decided, Sealed}

abbrev pub status_of_stage : Stage → Status
status_of_stage Open = Live
status_of_stage (Decided c) = parts.Decided c
status_of_stage (Sealed c) = parts.Sealed c

-- who is decided or sealed failed, or is vouched on all its actors
abbrev pub IsReadyIfDecided : Status → TxResult → List Joined → Type 0
IsReadyIfDecided st r seats = IsTrue (is_ordered st) → IsTrue (is_failure (Some r) || list_all (λ p. p.vouched) seats)
