-- The code of a program leaves states.
use Rattle.std.specs.Prelude.{ℕ, zero, suc, ◌<◌, ◌≤◌, ◌^◌, List, [], ◌∷◌, length, slice_index_or}
use Rattle.std.specs.List.{AllByRecursion}
use Rattle.std.proofs.Common.{arith}
use Rattle.aml_slice.specs.Controls.{Rest}
use Rattle.protocol.specs.Meant.{next_meant}
use Rattle.snap_base.specs.declared.transactions.Tx.{Tx}
use Rattle.aml_slice.specs.aml_tree.Tree.{CheckedMethod}
use Rattle.aml_slice.specs.aml_check.Closed.{IsClosedProgram}
use Rattle.aml_slice.specs.aml_check.Transactions.{IsTransaction}
use Rattle.snap_base.specs.declared.next.Next as slices
use Rattle.snap_base.specs.declared.next.Next.TheVariants as slice
use Rattle.aml_slice.specs.Slicing.{slice_end, started}
use Rattle.machine_laws.specs.MethodCode.{tid_of}
use Rattle.machine_laws.specs.Programs.{IsTextOf, with_code}
use Rattle.protocol.specs.Fixed.{Text, no_tx, tx_at}
use Rattle.record_log.specs.txn_records.Records.{IsState}
use Rattle.run_effects.proofs.SlicesFit.{FitNext, FitRest, slice_fits}
use Rattle.run_effects.proofs.StatesKept.{LeavesStates, MetNext}
use Rattle.run_effects.proofs.ValuesFit.{AllFit}

-- the actor where a transaction begins, and its arguments
record Begins (tx : Tx) : Type 0 where
  actor : tx.actor.0 < 2 ^ 63
  values : AllFit tx.args

begins_at : (p : List CheckedMethod) (count : ℕ) (txs : List Tx) (n : ℕ) → count ≤ 256 → AllByRecursion (IsTransaction p count) txs → Begins (slice_index_or txs n no_tx)
begins_at p count [] n few h = record { actor = omega arith; values = tt }
begins_at p count (tx ∷ txs) zero few h = record { actor = omega (arith, h.0.actor, few); values = h.0.values }
begins_at p count (tx ∷ txs) (suc n) few h = begins_at p count txs n few h.1

started_fits : (t : ℕ) (tx : Tx) → Begins tx → FitRest (started (tid_of t) tx)
started_fits t tx b = record { top = record { actor = b.actor; variables = b.values }; waiting = tt }

next_met : (x : slices.Next Rest) → FitNext x → MetNext FitRest (next_meant x)
next_met (slice.Go b d) h = h
next_met (slice.Ended r) h = h

pub program_leaves : (p : List CheckedMethod) (w : Text) → IsClosedProgram p → IsTextOf p w → AllByRecursion IsState w.opening.states → LeavesStates (with_code p w) FitRest
program_leaves p w closed is opens =
    let few : length w.opening.states ≤ 2 ^ 63 = omega (arith, is.accepted.few_actors) in
    record {
      opens = opens;
      starts = λ t n. started_fits t (tx_at w n) (begins_at p (length w.opening.states) w.txs n is.accepted.few_actors is.asks);
      leaves = λ c s h k. (slice_fits p (length w.opening.states) c s closed few h k).state;
      goes_on = λ c s h k. next_met (slice_end p (length w.opening.states) c s).next (slice_fits p (length w.opening.states) c s closed few h k).next;
    }
