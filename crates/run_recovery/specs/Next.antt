-- What the next run begins with, behind a crash at a moment of a run. Behind a run that was not cut off it is the same: the
-- moment is the one at its end, where no append has begun, and each log is left with what is synced.
use Rattle.std.specs.Prelude.{◌≡◌, ℕ, List, length}
use Rattle.aml_slice.specs.aml_tree.Tree.{CheckedMethod}
use Rattle.protocol.specs.Moments.{left_in}
use Rattle.machine_recovery.specs.recovery_laws.Grown.{grown}
use Rattle.run_opening.specs.Begins.{AreEmpty, BeganWith, Begins, IsUnspent}
use Rattle.run_recovery.specs.Crashes.{Recovers, earlier}
use Rattle.run_recovery.specs.OneRun.{TheRun, MomentOf, machine_in, reached_at}
use Rattle.snap_base.specs.declared.transactions.State.{State}
use Rattle.snap_recover.specs.declared.openings.Opening.{Opening}
use Rattle.machine_recovery.specs.compact_laws.log_compact.declared.folds.Folded.{Folded}
use Rattle.machine_recovery.specs.compact_laws.log_compact.Sets.{IsFolded}
use Rattle.machine_recovery.specs.compact_laws.Steps.{fold_after}
use Rattle.record_log.specs.txn_records.declared.records.Record.{Record}

-- the records with which the logs are left
abbrev pub records_left : {p : List CheckedMethod} {r : TheRun} {m : MomentOf r} {images : ℕ → List ℕ} → Recovers p r m images → List (List Record)
records_left {p} {r} {m} {images} left = grown (earlier r) (left_in (reached_at r m) left.kept)

-- what they fold to
abbrev pub fold_left : {p : List CheckedMethod} {r : TheRun} {m : MomentOf r} {images : ℕ → List ℕ} → Recovers p r m images → Folded
fold_left {p} {r} {m} {images} left = fold_after (machine_in r) r.devices.fold (reached_at r m) (left_in (reached_at r m) left.kept)

-- the opening to which they recover
abbrev pub opening_left : {p : List CheckedMethod} {r : TheRun} {m : MomentOf r} {images : ℕ → List ℕ} → Recovers p r m images → Opening
opening_left left = (fold_left left).opening

-- What a crash leaves is what a run goes on from: each log in use has a list of its own; they have a record; they fold to the opening; and
-- they began with the work's states. So, unless a number of it is spent, a run of any text of the same states, on as many logs, begins on them with this opening; and none
-- begins on them with another, or of other states.
pub record GoesOnFrom {p : List CheckedMethod} {r : TheRun} {m : MomentOf r} {images : ℕ → List ℕ} (left : Recovers p r m images) : Type 0 where
  pub as_many : length (records_left left) ≡ r.work.logs
  pub some : ¬ AreEmpty (records_left left)
  pub folded : IsFolded (records_left left) (fold_left left)
  pub same : BeganWith (records_left left) r.work.states
  pub begins : IsUnspent (opening_left left) → Begins (records_left left) r.work.states (opening_left left)
  pub alone : (states : List State) (q : Opening) → Begins (records_left left) states q → (q ≡ opening_left left) × (states ≡ r.work.states)
