-- What a run begins with, by the records of its logs.
use Rattle.std.proofs.Common.{◌≡◌, ◌≢◌, ℕ, ◌+◌, ◌≤◌, inl, inr, List, [], ◌∷◌, length, refl, sym, ◌∙◌, ap, subst, arith}
use Rattle.std.proofs.lemmas.List.{append-nil}
use Rattle.std.specs.List.{AllByRecursion}
use Rattle.snap_base.specs.declared.transactions.State.{State}
use Rattle.txn_records.specs.declared.records.Record.{Record}
use Rattle.txn_records.specs.declared.records.Record.TheVariants.{Genesis}
use Rattle.txn_records.specs.Records.{record_bytes, IsState, IsRecord}
use Rattle.gate_log.specs.Bytes.{item_bytes, items_bytes}
use Rattle.gate_log.specs.Device.{MayAppend}
use Rattle.record_log.specs.Records.{spelled}
use Rattle.snap_recover.specs.declared.openings.Opening.{Opening}
use Rattle.snap_recover.specs.declared.causes.LogCause.{LogCause}
use Rattle.snap_recover.specs.declared.causes.LogCause.TheVariants as cause
use Rattle.log_compact.specs.declared.folds.Folded.{Folded}
use Rattle.log_compact.specs.Folds.{FoldsAreBegun, FoldsAreOfRecords}
use Rattle.log_opening.specs.declared.refusals.LogsNo.{LogsNo}
use Rattle.log_opening.specs.declared.refusals.LogsNo.TheVariants as ending
use Rattle.log_opening.specs.Found.{IsNoFold}
use Rattle.run_opening.specs.declared.limits.TheConstants.{LARGEST_START}
use Rattle.run_opening.specs.Begins.{AreEmpty, IsUnspent, BeganWith, GoesOn, Begins, IsCause}
use Rattle.run_opening.specs.Starts.{IsStart, IsNoStart}

-- ---- what is written

-- what is to be written are records, one at most
pub added_are : (logs : List (List Record)) (added : List Record) (states : List State) (o : Opening) → 1 ≤ length logs → length logs ≤ 4 → 1 ≤ length states → length states ≤ 256
    → AllByRecursion IsState states → IsStart logs states o added → AllByRecursion IsRecord added × (length added ≤ 1)
added_are logs added states o some_logs few_logs some few are (inl new) = (
  subst (λ (l : List Record). AllByRecursion IsRecord l) (sym new.2) (record { some_logs = some_logs; few_logs = few_logs; some = some; few = few; each = are }, tt),
  omega (arith, ap (λ (l : List Record). length l) new.2),
)
added_are logs added states o some_logs few_logs some few are (inr on) = (
  subst (λ (l : List Record). AllByRecursion IsRecord l) (sym on.1) tt,
  omega (arith, ap (λ (l : List Record). length l) on.1),
)

-- one record takes a little of the log
pub grown_little : (added : List Record) (before after : ℕ) → MayAppend before (spelled added) → length added ≤ 1 → ([] ≡ added → after ≡ before)
    → (added ≢ [] → after ≡ before + 5 + length (items_bytes (spelled added))) → after ≤ before + LARGEST_START
grown_little [] before after may one empty grown = omega (arith, empty refl)
grown_little (r ∷ []) before after may one empty grown =
    let size : length (items_bytes (spelled (r ∷ []))) ≡ 2 + length (record_bytes r) = ap length (append-nil (item_bytes (record_bytes r))) ∙ omega arith in
    omega (arith, grown (λ e. absurd (cc)), may.items.0.short, size)
grown_little (r ∷ s ∷ rs) before after may one empty grown = absurd (omega (arith, one))

-- ---- the states that it begins with

-- the first run began with one list of states
pub began_once : (logs : List (List Record)) (first states : List State) → BeganWith logs first → BeganWith logs states → first ≡ states
began_once logs first states began same =
    let one : Genesis (length logs) first ∷ [] ≡ Genesis (length logs) states ∷ [] = sym began ∙ same in
    cc

-- as many as the text gives
goes_on_with_states : FoldsAreOfRecords → FoldsAreBegun → (logs : List (List Record)) (states : List State) (o : Opening) → AllByRecursion (AllByRecursion IsRecord) logs
    → GoesOn logs states o → (length o.states ≡ length states) × AllByRecursion IsState o.states
goes_on_with_states of_records begun logs states o are on =
    let f : Folded = on.folded.0 in
    let is = of_records logs f are on.folded.1 in
    let first : f.first ≡ states = began_once logs f.first states (begun logs f on.folded.1).one on.same in
    let long : length f.opening.states ≡ length states = sym is.as_many ∙ ap (λ (l : List State). length l) first in (
      subst (λ (p : Opening). length p.states ≡ length states) on.folded.2 long,
      subst (λ (p : Opening). AllByRecursion IsState p.states) on.folded.2 is.states,
    )

pub starts_with_states : FoldsAreOfRecords → FoldsAreBegun → (logs : List (List Record)) (states : List State) (o : Opening) (added : List Record) → AllByRecursion (AllByRecursion IsRecord) logs
    → AllByRecursion IsState states → IsStart logs states o added → (length o.states ≡ length states) × AllByRecursion IsState o.states
starts_with_states of_records begun logs states o added are is (inl new) =
    (ap (λ (p : Opening). length p.states) new.1, subst (λ (p : Opening). AllByRecursion IsState p.states) (sym new.1) is)
starts_with_states of_records begun logs states o added are is (inr on) = goes_on_with_states of_records begun logs states o are on.0

pub begins_unspent : (logs : List (List Record)) (states : List State) (o : Opening) → Begins logs states o → IsUnspent o
begins_unspent logs states o (inl new) = subst IsUnspent (sym new.1) (record { tid = omega arith; bid = omega arith; c = omega arith })
begins_unspent logs states o (inr on) = on.unspent

-- ---- why there is none

pub no_fold : (head : ℕ) (logs : List (List Record)) (states : List State) (no : LogsNo) → ¬ AreEmpty logs → IsNoFold head logs no → IsNoStart head logs states no
no_fold head logs states (ending.Refused log offset cause.NotALog) some why = absurd why.1.2
no_fold head logs states (ending.Refused log offset cause.Damage) some why = absurd why.1.2
no_fold head logs states (ending.Refused log offset cause.OldFormat) some why = absurd why.1.2
no_fold head logs states (ending.Refused log offset cause.BadRecord) some why = absurd why.1.2
no_fold head logs states (ending.Refused log offset cause.Stray) some why = (why.0, some, why.1)
no_fold head logs states (ending.Refused log offset cause.Back) some why = absurd why.1.2
no_fold head logs states (ending.Refused log offset cause.NoGenesis) some why = (why.0, some, why.1)
no_fold head logs states (ending.Refused log offset cause.TwoGenesis) some why = (why.0, some, why.1)
no_fold head logs states (ending.Refused log offset (cause.LogCount k f)) some why = (why.0, some, why.1)
no_fold head logs states (ending.Refused log offset (cause.Range k)) some why = (why.0, some, why.1)
no_fold head logs states (ending.Refused log offset (cause.Missing k)) some why = (why.0, some, why.1)
no_fold head logs states (ending.Refused log offset (cause.Values k u v)) some why = (why.0, some, why.1)
no_fold head logs states (ending.Refused log offset (cause.Spent n)) some why = absurd why.1.2
no_fold head logs states (ending.Refused log offset (cause.Differs w k t)) some why = absurd why.1.2
no_fold head logs states (ending.Device log) some why = absurd why
no_fold head logs states ending.Memory some why = tt

-- a cause that is of the first of the logs
pub no_start_at : (head : ℕ) (logs : List (List Record)) (states : List State) (c : LogCause) → ¬ AreEmpty logs → IsCause logs states 0 c → IsNoStart head logs states (ending.Refused head 0 c)
no_start_at head logs states c some why = (refl, some, (0, omega arith, why))
