-- A work as definitions see it, and the one that a value of the code is.
use Rattle.std.specs.Prelude.{ℕ, List}
use Rattle.snap_base.specs.declared.transactions.State.{State}
use Rattle.snap_base.specs.declared.transactions.Tx.{Tx}
use Rattle.aml_tree.specs.Tree.{CheckedMethod}
use Rattle.aml_check.specs.Checked.{methods_of}
use Rattle.snap_work.specs.declared.works.Work as code

pub record Work : Type 0 where
  pub coordinators : ℕ
  pub logs : ℕ
  pub batch : ℕ
  pub batches : ℕ
  pub acts : ℕ
  pub program : List CheckedMethod
  pub states : List State
  pub txs : List Tx

abbrev pub work_of : code.Work → Work
work_of w = record {
  coordinators = w.coordinators;
  logs = w.logs;
  batch = w.batch;
  batches = w.batches;
  acts = w.acts;
  program = methods_of w.program;
  states = w.states;
  txs = w.txs;
}
