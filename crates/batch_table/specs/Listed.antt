-- Of which batches some event may still be allowed, and which transactions wait for a reply.
use Rattle.std.specs.Prelude.{ℕ, ◌==◌, Bool, not, ◌&&◌, ◌||◌, if◌then◌else◌, Option, Some, None, List, [], ◌∷◌, map, filter, slice_get}
use Rattle.std.specs.List.{list_all}
use Rattle.snap_base.specs.declared.ids.Bid.{Bid}
use Rattle.protocol.specs.Parts.{Pact, Batch, Desk}
use Rattle.protocol.specs.Words.{holds, below, is_settled, names_pact}

-- it is neither aborted, nor settled and trimmed on all its actors
abbrev pub is_going_batch : Batch → Bool
is_going_batch b = not (b.aborted || (is_settled b.stage && list_all (λ p. p.trimmed) b.places))

abbrev pub going_batches : Desk → List ℕ
going_batches d = map (λ b. b.bid) (filter is_going_batch d.batches)

-- the actors that it declares
abbrev pub actors_in : Option Batch → List ℕ
actors_in None = []
actors_in (Some b) = map (λ p. p.actor) b.places

-- a transaction that is there and was not replied to, by the marks of all
abbrev pub is_unreplied : List Bool → ℕ → Bool
is_unreplied marks n = holds not (slice_get marks n)

-- of the transactions below this number those that wait for a reply, ascending
abbrev pub unreplied_below : ℕ → List Bool → List ℕ
unreplied_below n marks = filter (is_unreplied marks) (below n)

-- the transactions of its PACTs
abbrev pub txs_at : Option Batch → List ℕ
txs_at None = []
txs_at (Some b) = map (λ p. p.tx) b.pacts

-- there is one, and it is this
abbrev pub is_number : ℕ → Option Bid → Bool
is_number k bid = holds (λ n. n.0 == k) bid

-- the transaction of the PACT with this tid, among some PACTs and among some batches; none where nobody has the tid
abbrev pub tx_named : ℕ → List Pact → Option ℕ
tx_named t [] = None
tx_named t (p ∷ ps) = if p.tid == t then Some p.tx else tx_named t ps

abbrev pub pact_tx : ℕ → List Batch → Option ℕ
pact_tx t [] = None
pact_tx t (b ∷ bs) = if names_pact t b then tx_named t b.pacts else pact_tx t bs
