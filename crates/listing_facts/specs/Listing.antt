-- A list of events has those of what a part lists, of the events that are asked for.
use Rattle.std.specs.Prelude.{◌≡◌, ℕ, nat_lt, Bool, true, List, map, Contains}
use Rattle.snap_base.specs.declared.transactions.State.{State}
use Rattle.protocol.specs.Fixed.{Fixed}
use Rattle.protocol.specs.Facts.{Alone}
use Rattle.protocol.specs.History.{History}
use Rattle.protocol.specs.Parts.{Book, Post, Desk, Cell, Machine}
use Rattle.protocol.specs.Events.{Event, Arrive, Ask, Take, Run, Send, End, Close, Complete, Note, Commit, Settle, Abort, Rollback, DropSub, DropControl, Prepare, Vouch, Decide, Seal, Finish, Reply, Trim}
use Rattle.protocol.specs.Words.{act_of, batch_of}
use Rattle.protocol_theorems.specs.BookFits.{actors_at}
use Rattle.protocol_ready.specs.Telling.{BookTells, AnswersTell}
use Rattle.post_box.specs.Listed.{sub_places, control_places}
use Rattle.hybrid_schedule.specs.Listed.{incomplete_on, undone_on}
use Rattle.batch_table.specs.Listed.{going_batches, actors_in, unreplied_below}
use Rattle.book_part.specs.Listed.{live_tids}

-- where it is asked for
abbrev pub HasAsked : (Event → Bool) → List Event → Event → Type 0
HasAsked asked es e = asked e ≡ true → Contains es e

-- of a sub-batch, and of a control, under way
pub record PostLists {C : Type 0} (asked : Event → Bool) (p : Post C) (es : List Event) : Type 0 where
  pub subs : (k a : ℕ) → Contains (sub_places p.subs) (k, a) → HasAsked asked es (Arrive k a) × HasAsked asked es (DropSub k a)
  pub controls : (t a : ℕ) → Contains (control_places p.controls) (t, a) → HasAsked asked es (Ask t a) × HasAsked asked es (Take t a) × HasAsked asked es (DropControl t)

-- of actor a: of what waits there, of what slices left, of the PACTs not done, and of the batches not complete; and its
-- rollback, where it is behind so many cascades
pub record CellLists {C : Type 0} (asked : Event → Bool) (cascades a : ℕ) (c : Cell C) (es : List Event) : Type 0 where
  pub waiting : (t : ℕ) → Contains (map (λ x. x.tid) c.inbox) t → HasAsked asked es (Run t a)
  pub outcomes : (t : ℕ) → Contains (map (λ x. x.tid) c.outbox) t → HasAsked asked es (Send t a) × HasAsked asked es (End t a)
  pub undone : (t : ℕ) → Contains (undone_on c.entries) t → HasAsked asked es (Close t a)
  pub incomplete : (k : ℕ) → Contains (incomplete_on c.entries) k → HasAsked asked es (Complete k a)
  pub behind : nat_lt c.epoch cascades ≡ true → HasAsked asked es (Rollback a)

-- of a batch that is going, and of it on each of its actors
pub record DeskLists (asked : Event → Bool) (d : Desk) (es : List Event) : Type 0 where
  pub batches : (k : ℕ) → Contains (going_batches d) k → HasAsked asked es (Commit k) × HasAsked asked es (Settle k) × HasAsked asked es (Abort k)
  pub actors : (k a : ℕ) → Contains (going_batches d) k → Contains (actors_in (batch_of k d.batches)) a → HasAsked asked es (Note k a) × HasAsked asked es (Trim k a)

-- of an ACT that is live, and of it on each of its actors
pub record BookLists (asked : Event → Bool) (b : Book) (es : List Event) : Type 0 where
  pub acts : (t : ℕ) → Contains (live_tids b) t → HasAsked asked es (Decide t) × HasAsked asked es (Seal t)
  pub actors : (t a : ℕ) → Contains (live_tids b) t → Contains (actors_at (act_of t b.acts)) a → HasAsked asked es (Prepare t a) × HasAsked asked es (Vouch t a) × HasAsked asked es (Finish t a)

-- of each transaction below this number that waits for a reply
abbrev pub AnswersList : (Event → Bool) → ℕ → Desk → List Event → Type 0
AnswersList asked upto d es = (n : ℕ) → Contains (unreplied_below upto d.replied) n → HasAsked asked es (Reply n)

-- what the book, and the desk for the transactions submitted so far, list is what they have to tell
pub record ListsAreEnough {C : Type 0} (w : Fixed C) (finish : C → List State → Alone) (s : Machine C) (h : History) : Type 0 where
  pub book : (asked : Event → Bool) (es : List Event) → BookLists asked s.book es → BookTells asked s.book es
  pub answers : (asked : Event → Bool) (es : List Event) → AnswersList asked s.ring.next_tx s.desk es → AnswersTell asked s.book s.desk es
