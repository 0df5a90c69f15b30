-- What is asked of a told ACT and of told batches as evidence.
use Rattle.std.specs.Prelude.{◌≡◌, ℕ, ◌<◌, Bool, MatchBool, Option, Some, None, option_map, List, length, map, slice_get}
use Rattle.std.specs.List.{AllByRecursion, list_any}
use Rattle.snap_base.specs.declared.ids.Bid.{Bid}
use Rattle.protocol.specs.Chains.{by_place}
use Rattle.protocol.specs.Fixed.{Text}
use Rattle.audit_words.specs.Clauses.{located, tells_batch_code}
use Rattle.audit_words.specs.Papers.{Line}
use Rattle.audit_words.specs.Seen.{Seen, Why}
use Rattle.audit_tale.specs.Knows.{why_of}
use Rattle.audit_tale.specs.Stands.{IsSound, KnowsAll}
use Rattle.audit_tale.specs.declared.tales.ActTale.{ActTale}
use Rattle.audit_tale.specs.declared.tales.BatchTale.{BatchTale}
use Rattle.audit_tale.specs.declared.told.Told.{Told}
use Rattle.trace_audit.specs.ByTransaction.{IsIndex, has_pact, is_act_for, is_noted}
use Rattle.trace_audit.specs.Located.{done_of}
use Rattle.trace_audit.specs.declared.by_tx.ByTx.{ByTx}
use Rattle.trace_audit.specs.declared.located.LocatedReply.{LocatedReply}

-- the ACT is there, and is given up so
abbrev pub TellsWhy : Option ActTale → Why → Type 0
TellsWhy None why = ⊥
TellsWhy (Some x) why = option_map why_of x.given_up ≡ Some why

-- the ACT is there with this tid, and is given up so
abbrev pub TellsDeath : Option ActTale → Why → ℕ → Type 0
TellsDeath None why own = ⊥
TellsDeath (Some x) why own = (x.tid.0 ≡ own) × (option_map why_of x.given_up ≡ Some why)

-- the PACTs of the batch are among so many transactions
abbrev pub HasTxsBelow : ℕ → BatchTale → Type 0
HasTxsBelow txs b = AllByRecursion (λ q. q.tx < txs) b.formed.pacts

-- for each transaction the batch that these lines tell failed with it
abbrev pub TellsCodes : List Line → List (Option Bid) → Type 0
TellsCodes ls codes = (n k : ℕ) → list_any (tells_batch_code n k) ls ≡ is_noted k (slice_get codes n)

-- what is found by each of so many transactions in what events tell
pub record Indexes (txs : ℕ) (told : Told) (b : ByTx) : Type 0 where
  pub many_acts : length b.acts.items ≡ txs
  pub acts : IsIndex is_act_for told.tale.acts.items b.acts.items
  pub many_batches : length b.batches.items ≡ txs
  pub batches : IsIndex has_pact told.tale.batches.items b.batches.items

-- and in these lines
pub record IsByTx (txs : ℕ) (told : Told) (ls : List Line) (b : ByTx) : Type 0 where
  pub indexes : Indexes txs told b
  pub codes : TellsCodes ls b.codes.items

-- what evidence stands on: what events tell is known, and so is what these lines tell
pub record Grounds (w : Text) (told : Told) (b : ByTx) (replies : List LocatedReply) (s : Seen) (ls : List Line) : Type 0 where
  pub sound : IsSound s
  pub knows : KnowsAll w told s
  pub codes : TellsCodes ls b.codes.items
  pub replies_are : map done_of replies ≡ by_place (located ls)

-- the answer is whether this holds
abbrev pub Decides : Bool → Type 0 → Type 0
Decides b P = MatchBool b P (¬ P)
