-- What each work keeps that a text stands for.
use Rattle.std.specs.Prelude.{◌≤◌, length}
use Rattle.std.specs.List.{AllByRecursion}
use Rattle.snap_base.specs.States.{IsState}
use Rattle.aml_check.specs.Closed.{IsClosedProgram}
use Rattle.aml_check.specs.Transactions.{IsTransaction}
use Rattle.snap_work.specs.declared.limits.TheConstants.{MOST_ACTORS, MOST_ACTS, MOST_BATCHES, MOST_COORDINATORS, MOST_IN_A_BATCH, MOST_LOGS, MOST_TRANSACTIONS}
use Rattle.snap_work.specs.Works.{Work}

-- The program is closed, the transactions may be asked of the states, and each number is within its limits.
pub record KeepsLimits (w : Work) : Type 0 where
  pub program : IsClosedProgram w.program
  pub some_actors : 1 ≤ length w.states
  pub few_actors : length w.states ≤ MOST_ACTORS
  pub states : AllByRecursion IsState w.states
  pub transactions : AllByRecursion (IsTransaction w.program (length w.states)) w.txs
  pub few_transactions : length w.txs ≤ MOST_TRANSACTIONS
  pub batch : (1 ≤ w.batch) × (w.batch ≤ MOST_IN_A_BATCH)
  pub batches : (1 ≤ w.batches) × (w.batches ≤ MOST_BATCHES)
  pub acts : (1 ≤ w.acts) × (w.acts ≤ MOST_ACTS)
  pub coordinators : (1 ≤ w.coordinators) × (w.coordinators ≤ MOST_COORDINATORS)
  pub logs : (1 ≤ w.logs) × (w.logs ≤ MOST_LOGS)
