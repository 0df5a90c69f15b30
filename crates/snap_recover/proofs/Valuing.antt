-- That the values of batches are not lacking, asked of one batch after the other in the order of their numbers.
use Rattle.std.proofs.Common.{◌≡◌, ℕ, ℤ, ◌+◌, ◌<◌, ◌≤◌, List, length, take, get_or, sym}
use Rattle.std.specs.List.{AllByRecursion}
use Rattle.snap_base.specs.declared.ids.ActorId.{ActorId}
use Rattle.snap_base.specs.declared.ids.Tid.{Tid}
use Rattle.txn_records.specs.declared.records.Record.{Record}
use Rattle.txn_records.specs.declared.records.Record.TheVariants.{BatchCommit, BatchDone}
use Rattle.snap_recover.specs.declared.kinds.Kind.TheVariants as kinds
use Rattle.snap_recover.specs.declared.refusals.RecoverNo.{RecoverNo}
use Rattle.snap_recover.specs.declared.refusals.RecoverNo.TheVariants.{NoGenesis, TwoGenesis, LogCount, Range, Missing, Values, Memory}
use Rattle.snap_recover.specs.Logs.{HasKey, log_of}
use Rattle.snap_recover.specs.Opening.{IsInfoOf, IsCommitOf, HasItsValues}
use Rattle.snap_recover.specs.Passes.{bid_at, commit_key, AllValued, IsValuesLackOf, IsFirstValuesLackOf}
use Rattle.snap_recover.proofs.Lists.{all_contains}
use Rattle.snap_recover.proofs.Steps.{all_step, all_end}
use Rattle.snap_recover.proofs.Checking.{AreNumbers, below_all}

abbrev pub ValuedThrough : List (List Record) → List ℕ → ℕ → Type 0
ValuedThrough logs numbers i = AllByRecursion (λ n. HasItsValues logs (bid_at n)) (take i numbers)

pub untold_valued : (logs : List (List Record)) (n : ℕ) (actors : List ActorId) (tids : List Tid) → IsInfoOf logs (bid_at n) actors tids → IsCommitOf logs (bid_at n) (BatchCommit (bid_at n)) → HasItsValues logs (bid_at n)
untold_valued logs n actors tids i m = record { actors = actors; tids = tids; commit = BatchCommit (bid_at n); info_is = i; commit_is = m; fits = tt }

pub told_valued : (logs : List (List Record)) (n : ℕ) (actors : List ActorId) (tids : List Tid) (values : List ℤ) → length values ≡ length tids → IsInfoOf logs (bid_at n) actors tids → IsCommitOf logs (bid_at n) (BatchDone (bid_at n) values) → HasItsValues logs (bid_at n)
told_valued logs n actors tids values e i m = record { actors = actors; tids = tids; commit = BatchDone (bid_at n) values; info_is = i; commit_is = m; fits = e }

first_values : (logs : List (List Record)) (n : ℕ) (no : RecoverNo) → HasKey (log_of logs n) (commit_key kinds.Batch n) → ((b : ℕ) → b < n → HasKey (log_of logs b) (commit_key kinds.Batch b) → HasItsValues logs (bid_at b))
    → IsValuesLackOf logs n no → IsFirstValuesLackOf logs no
first_values logs n NoGenesis i low h = h
first_values logs n TwoGenesis i low h = h
first_values logs n (LogCount c f) i low h = h
first_values logs n (Range k l) i low h = h
first_values logs n (Missing k l) i low h = h
first_values logs n (Values k l u v) i low h = (bid_at n, i, λ b. low b.0, h)
first_values logs n Memory i low h = tt

pub values_refused : (logs : List (List Record)) (numbers : List ℕ) (i n : ℕ) (no : RecoverNo) → i < length numbers → n ≡ get_or numbers i n → AreNumbers kinds.Batch logs numbers → ValuedThrough logs numbers i
    → IsValuesLackOf logs n no → IsFirstValuesLackOf logs no
values_refused logs numbers i n why l at are h lack =
    first_values logs n why (are.are_in n (i, l, sym at)) (below_all (λ b. HasItsValues logs (bid_at b)) kinds.Batch logs numbers i n l at are h) lack

pub values_step : (logs : List (List Record)) (numbers : List ℕ) (i n : ℕ) → i < length numbers → n ≡ get_or numbers i n → HasItsValues logs (bid_at n) → ValuedThrough logs numbers i → ValuedThrough logs numbers (i + 1)
values_step logs numbers i n l at w h = all_step (λ b. HasItsValues logs (bid_at b)) numbers i n l at h w

pub values_end : (logs : List (List Record)) (numbers : List ℕ) (i : ℕ) → length numbers ≤ i → AreNumbers kinds.Batch logs numbers → ValuedThrough logs numbers i → AllValued logs
values_end logs numbers i l are h n p = all_contains (λ b. HasItsValues logs (bid_at b)) numbers n (all_end (λ b. HasItsValues logs (bid_at b)) numbers i l h) (are.all n p)
