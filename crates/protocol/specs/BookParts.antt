-- The book is held by three values that do not know each other: orders, votes and cascades. Orders know where each ACT
-- stands, and whether it has its place in the serial order; votes know how it ended, what was vouched for it, and the
-- number of its commit. Either half is a book in which what it does not know is left open, so that what an event does
-- to a half is said by the words for the whole.
use Rattle.std.specs.Prelude.{ℕ, false, if◌then◌else◌, Option, Some, None, List, [], ◌∷◌, ◌++◌, map}
use Rattle.snap_base.specs.declared.transactions.TxResult.{TxResult}
use Rattle.protocol.specs.Parts.{Joined, Status, Live, Doomed, Decided, Sealed, Act, Cascade, Book}
use Rattle.protocol.specs.Words.{is_ordered, act_of, joined_of}
use Rattle.protocol.specs.OnBook.{changed_act, cascaded, decided_as}

-- ---- orders: of each ACT its tid and transaction, its numbers, its actors and which of them it has left, its doom, and
-- whether it has its place, which shows as `Sealed 0`. Nobody has a result or a vote. No cascade is kept, and no number
-- of commits.

abbrev pub no_orders : Book
no_orders = record { next_c = 0; cascades = []; acts = []; pairs = [] }

-- the ACT gets its place in the serial order, if it is live
abbrev pub has_place : ℕ → Book → Book
has_place t b = record b { acts = changed_act t (decided_as 0) b.acts }

-- a cascade from batch k on, which transaction `by` began
abbrev pub orders_cascaded : ℕ → ℕ → Book → Book
orders_cascaded k by b = record b { acts = map (cascaded k by) b.acts }

-- ---- votes: of each ACT that ended its tid, its result, its actors with what is prepared and vouched there, and
-- whether it is decided or sealed, with which number. It stands nowhere: no pairs, all numbers 0 or none. A doomed one
-- is not told apart from a live one.

abbrev pub no_votes : ℕ → Book
no_votes c = record { next_c = c; cascades = []; acts = []; pairs = [] }

abbrev pub not_voted : ℕ → Joined
not_voted a = record { actor = a; prepared = false; vouched = false; finished = false }

-- ACT t ended on these actors
abbrev pub votes_begin : ℕ → TxResult → List ℕ → Book → Book
votes_begin t r actors b = record b {
  acts = b.acts ++ record { tid = t; tx = 0; reader = false; m = 0; n = None; places = map not_voted actors; result = Some r; status = Live } ∷ [];
}

-- ---- the book that they make

abbrev pub result_by : Option Act → Option TxResult
result_by None = None
result_by (Some v) = v.result

abbrev pub joined_by : Option Joined → Joined → Joined
joined_by None p = p
joined_by (Some q) p = record p { prepared = q.prepared; vouched = q.vouched }

-- an ACT's mark on an actor, with what was voted there
abbrev pub place_by : Option Act → Joined → Joined
place_by None p = p
place_by (Some v) p = joined_by (joined_of p.actor v) p

abbrev pub ordered_by : Option Act → Status → Status
ordered_by None st = st
ordered_by (Some v) st = if is_ordered v.status then v.status else st

-- what the votes say of an ACT that has its place
abbrev pub status_by : Option Act → Status → Status
status_by v Live = Live
status_by v (Doomed why) = Doomed why
status_by v (Decided c) = ordered_by v (Decided c)
status_by v (Sealed c) = ordered_by v (Sealed c)

abbrev pub act_by : Option Act → Act → Act
act_by v x = record x { places = map (place_by v) x.places; result = result_by v; status = status_by v x.status }

-- each ACT of the orders, with its votes
abbrev pub with_votes : List Act → List Act → List Act
with_votes votes acts = map (λ x. act_by (act_of x.tid votes) x) acts

abbrev pub book_of : Book → Book → List Cascade → Book
book_of orders votes cascades = record {
  next_c = votes.next_c;
  cascades = cascades;
  acts = with_votes votes.acts orders.acts;
  pairs = orders.pairs;
}
