-- What the events do to the ring.
use Rattle.std.specs.Prelude.{ℕ, ◌+◌, ◌%◌, if◌then◌else◌, None, List, [], ◌∷◌, ◌++◌, length, map, take, drop, filter, replicate, slice_set, slice_index_or, Bool}
use Rattle.std.specs.List.{list_any}
use Rattle.protocol.specs.Fixed.{Text, tx_at, is_pact, declared}
use Rattle.protocol.specs.Parts.{Ring, Pact, SubBatch}
use Rattle.protocol.specs.Words.{is_among, below}
use Rattle.protocol.specs.Conditions.{queue}

-- a transaction joins a coordinator's queue
abbrev pub joined_at : ℕ → ℕ → List (List ℕ) → List (List ℕ)
joined_at c n queues = slice_set queues c (queue queues c ++ n ∷ [])

-- the first few leave it
abbrev pub left_at : ℕ → ℕ → List (List ℕ) → List (List ℕ)
left_at c few queues = slice_set queues c (drop few (queue queues c))

abbrev pub submitted : Text → ℕ → Ring → Ring
submitted w n r = record r {
  next_tx = r.next_tx + 1;
  pacts = if is_pact (tx_at w n) then joined_at (n % w.coordinators) n r.pacts else r.pacts;
  acts = if is_pact (tx_at w n) then r.acts else joined_at (n % w.coordinators) n r.acts;
}

abbrev pub passed : ℕ → Ring → Ring
passed c r = record r { holder = c }

-- ---- the batch that is formed next

-- transactions with the tids from this one on
abbrev pub numbered : ℕ → List ℕ → List Pact
numbered t [] = []
numbered t (n ∷ ns) = record { tid = t; tx = n; result = None } ∷ numbered (t + 1) ns

-- the first PACTs that wait at the holder, and no more than a batch may have
abbrev pub next_pacts : Text → Ring → List Pact
next_pacts w r = numbered r.next_tid (take w.batch (queue r.pacts r.holder))

abbrev pub declares : Text → ℕ → Pact → Bool
declares w a p = is_among a (declared (tx_at w p.tx))

-- the actors that some of them declare, ascending
abbrev pub next_actors : Text → Ring → List ℕ
next_actors w r = filter (λ a. list_any (declares w a) (next_pacts w r)) (below (length r.lasts))

-- those of them that declare an actor
abbrev pub next_tids_on : Text → Ring → ℕ → List ℕ
next_tids_on w r a = map (λ p. p.tid) (filter (declares w a) (next_pacts w r))

-- what an actor is told of it
abbrev pub first_sub : Text → ℕ → Ring → ℕ → SubBatch
first_sub w k r a = record { bid = k; actor = a; epoch = r.epoch; prev = slice_index_or r.lasts a 0; tids = next_tids_on w r a }

-- A batch that is formed: its actors, ascending, its PACTs, by tid, and what each of the actors is told.
pub record Formed : Type 0 where
  pub bid : ℕ
  pub actors : List ℕ
  pub pacts : List Pact
  pub subs : List SubBatch

-- batch k as the holder's queue gives it now
abbrev pub planned : Text → ℕ → Ring → Formed
planned w k r = record { bid = k; actors = next_actors w r; pacts = next_pacts w r; subs = map (first_sub w k r) (next_actors w r) }

-- the actors have a batch as their last one
abbrev pub with_lasts : ℕ → List ℕ → List ℕ → List ℕ
with_lasts k [] lasts = lasts
with_lasts k (a ∷ actors) lasts = with_lasts k actors (slice_set lasts a k)

-- it has left the holder's queue, where a batch has at most so many
abbrev pub formed : Formed → ℕ → Ring → Ring
formed f most r = record r {
  next_tid = r.next_tid + length f.pacts;
  next_bid = r.next_bid + 1;
  lasts = with_lasts f.bid f.actors r.lasts;
  pacts = left_at r.holder most r.pacts;
}

-- ---- admission and cascades

abbrev pub admitted : Ring → Ring
admitted r = record r { next_tid = r.next_tid + 1; acts = left_at r.holder 1 r.acts }

abbrev pub cut : Ring → Ring
cut r = record r { epoch = r.epoch + 1; lasts = replicate (length r.lasts) 0 }
