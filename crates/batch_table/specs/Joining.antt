-- What is asked of a batch that joins the desk: what `planned` gives, at the numbers that are drawn next.
use Rattle.std.specs.Prelude.{◌≡◌, ℕ, ◌+◌, ◌^◌, ◌<◌, ◌≤◌, List, [], ◌∷◌, ◌++◌, length, map}
use Rattle.std.specs.List.{AllByRecursion}
use Rattle.protocol.specs.Parts.{Pact, Batch, Desk}
use Rattle.protocol.specs.Words.{count, is_live_batch}
use Rattle.protocol.specs.Numbers.{from, flat, times}

-- ---- contents

abbrev pub bids_of : List Batch → List ℕ
bids_of batches = map (λ b. b.bid) batches

abbrev pub pact_tids : List Pact → List ℕ
pact_tids pacts = map (λ p. p.tid) pacts

abbrev pub batch_tids : List Batch → List (List ℕ)
batch_tids batches = map (λ b. map (λ p. p.tid) b.pacts) batches

abbrev pub pact_txs : List Pact → List ℕ
pact_txs pacts = map (λ p. p.tx) pacts

abbrev pub batch_txs : List Batch → List (List ℕ)
batch_txs batches = map (λ b. map (λ p. p.tx) b.pacts) batches

-- ---- the number that comes next: batches are numbered from the first one on, and that one follows the base

abbrev pub first_number : ℕ → List Batch → ℕ
first_number settled [] = settled + 1
first_number settled (b ∷ bs) = b.bid

abbrev pub next_batch_number : Desk → ℕ
next_batch_number d = first_number d.settled d.batches + length d.batches

-- ---- tids and transactions

-- the first of some numbers, or 0
abbrev pub first_or_zero : List ℕ → ℕ
first_or_zero [] = 0
first_or_zero (n ∷ ns) = n

-- they are one after another
abbrev pub AreConsecutive : List ℕ → Type 0
AreConsecutive ns = ns ≡ from (first_or_zero ns) (length ns)

-- every tid in the batches is below this one
abbrev pub AllTidsBelow : ℕ → List Batch → Type 0
AllTidsBelow t batches = AllByRecursion (λ x. x < t) (flat (batch_tids batches))

-- each transaction is one of so many
abbrev pub AllTxsBelow : ℕ → List Pact → Type 0
AllTxsBelow n pacts = AllByRecursion (λ x. x < n) (pact_txs pacts)

-- no transaction is in the batches, or among these PACTs, twice
abbrev pub EachTxOnce : List Batch → List Pact → Type 0
EachTxOnce batches pacts = (n : ℕ) → times n (flat (batch_txs batches) ++ pact_txs pacts) ≤ 1

-- ---- all of it

-- a batch with this number and these PACTs may join the desk
pub record MayJoin (k : ℕ) (pacts : List Pact) (d : Desk) : Type 0 where
  pub numbered : k ≡ next_batch_number d
  pub some : 0 < length pacts
  pub consecutive : AreConsecutive (pact_tids pacts)
  pub above : AllTidsBelow (first_or_zero (pact_tids pacts)) d.batches
  pub in_text : AllTxsBelow (length d.replied) pacts
  pub once : EachTxOnce d.batches pacts
  -- with it the live batches can still be counted
  pub few : count is_live_batch d.batches + 1 < 2 ^ 32
