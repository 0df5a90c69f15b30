-- A serial run of what counts for a batch, and which of its PACTs fails first behind it.
use Rattle.std.specs.Prelude.{ℕ, ◌==◌, ◌&&◌, Bool, false, List, [], ◌∷◌, filter, map, slice_index_or}
use Rattle.snap_base.specs.declared.transactions.State.{State}
use Rattle.snap_base.specs.declared.transactions.Tx.{Tx}
use Rattle.snap_base.specs.declared.transactions.TxResult.{TxResult}
use Rattle.snap_base.specs.declared.transactions.TxResult.TheVariants.{Value, Fail}
use Rattle.protocol.specs.Fixed.{Text, no_tx, tx_at}
use Rattle.protocol.specs.History.{Done}
use Rattle.protocol.specs.Parts.{Pact}
use Rattle.protocol.specs.Chains.{counts}
use Rattle.audit_words.specs.Clauses.{Meaning, serial}

-- the states that those among these leave that count, one by one
abbrev pub counted_world : Meaning → Text → ℕ → ℕ → List State → List Done → List State
counted_world m w k c world ds = (serial m world (map (λ d. tx_at w d.tx) (filter (counts k c) ds))).world

-- the transaction of a PACT
abbrev pub tx_of : List Tx → Pact → Tx
tx_of txs p = slice_index_or txs p.tx no_tx

-- behind transaction tx with this result: where it failed, whether it is transaction n with this code; else what the others tell
abbrev pub fails_by : ℕ → ℕ → ℕ → TxResult → Bool → Bool
fails_by tx n code (Value v) others = others
fails_by tx n code (Fail c) others = (tx == n) && (c == code)

-- from these states on transaction n is the first that fails, and has this code
abbrev pub first_fails : Meaning → List Tx → ℕ → ℕ → List State → List Pact → Bool
first_fails m txs n code world [] = false
first_fails m txs n code world (p ∷ ps) = fails_by p.tx n code (m world (tx_of txs p)).result (first_fails m txs n code (m world (tx_of txs p)).world ps)
