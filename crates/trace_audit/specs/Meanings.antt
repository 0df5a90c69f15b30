-- What the run by places knows: what each transaction gives at its place, and the states behind; and what a line tells of that.
use Rattle.std.specs.Prelude.{◌≡◌, ℕ, ◌<◌, Option, Some, None, List, length, slice_get, slice_index_or, ⊤}
use Rattle.std.specs.List.{AllByRecursion}
use Rattle.snap_base.specs.declared.transactions.State.{State}
use Rattle.snap_base.specs.declared.transactions.TxResult.{TxResult}
use Rattle.snap_base.specs.declared.transactions.TxResult.TheVariants.{Value, Fail}
use Rattle.snap_base.specs.declared.verdicts.Verdict.{Verdict}
use Rattle.snap_base.specs.declared.verdicts.Verdict.TheVariants as verdicts
use Rattle.snap_report.specs.Lines.{shown_fields}
use Rattle.protocol.specs.Fixed.{Text}
use Rattle.protocol.specs.Facts.{state_in}
use Rattle.protocol.specs.History.{Done}
use Rattle.audit_words.specs.Papers.{Line, Reply, Actor}
use Rattle.audit_words.specs.Clauses.{Meaning, given, given_to, world_behind}

-- a reply is to one of so many transactions
abbrev pub NamesTransaction : ℕ → Line → Type 0
NamesTransaction txs (Reply n v) = n < txs
NamesTransaction txs _ = ⊤

-- so is each reply among the lines
abbrev pub NameTransactions : ℕ → List Line → Type 0
NameTransactions txs ls = AllByRecursion (NamesTransaction txs) ls

-- for each transaction what is given to it where these run in their order, if it is among them; and the states that they leave
pub record Walked (m : Meaning) (w : Text) (ds : List Done) (results : List (Option TxResult)) (world : List State) : Type 0 where
  pub many : length results ≡ length w.txs
  pub each : (n : ℕ) → n < length w.txs → slice_get results n ≡ Some (given_to n (given m w w.opening.states ds))
  pub actors : length world ≡ length w.opening.states
  pub left : world ≡ world_behind m w w.opening.states ds

-- the result is told, where a place is
abbrev pub ShowsResult : Option TxResult → Verdict → Type 0
ShowsResult result (verdicts.Committed p v) = result ≡ Some (Value v)
ShowsResult result (verdicts.Code p code) = result ≡ Some (Fail code)
ShowsResult result _ = ⊤

-- a reply with a place tells the result of its transaction, and an actor its state
abbrev pub ShowsWalk : List (Option TxResult) → List State → Line → Type 0
ShowsWalk results world (Reply n v) = ShowsResult (slice_index_or results n None) v
ShowsWalk results world (Actor a fields) = fields ≡ shown_fields (state_in world a).0
ShowsWalk results world _ = ⊤

-- the same, as a clause on lines
abbrev pub TellsWalk : List (Option TxResult) → List State → List Line → Line → Type 0
TellsWalk results world front l = ShowsWalk results world l
