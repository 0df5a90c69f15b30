-- The events that are listed for the parts at hand, by what lies in each: whatever is allowed is among them.
use Rattle.std.specs.Prelude.{◌≡◌, ℕ, ◌+◌, ◌%◌, Option, Some, None, List, [], ◌∷◌, ◌++◌, length, map, slice_get}
use Rattle.std.specs.List.{flat_map}
use Rattle.aml_slice.specs.Controls.{Rest}
use Rattle.listing_facts.specs.batch_table.Listed.{actors_in, going_batches, unreplied_below}
use Rattle.listing_facts.specs.book_part.Listed.{live_tids}
use Rattle.core_events.specs.Meant.{event_meant}
use Rattle.core_events.specs.declared.events.Event as code
use Rattle.listing_facts.specs.hybrid_schedule.Listed.{incomplete_on, undone_on}
use Rattle.listing_facts.specs.post_box.Listed.{control_places, sub_places}
use Rattle.protocol.specs.Events.{Event, Submit, Pass, Form, Admit, Arrive, Ask, Take, Run, Send, End, Close, Complete, Sync, Note, Commit, Settle, Abort, Rollback, DropSub, DropControl, Prepare, Vouch, Decide, Seal, Finish, Reply, Trim}
use Rattle.protocol.specs.Fixed.{Text}
use Rattle.protocol.specs.Parts.{Ring, Book, Post, Desk, Cell}
use Rattle.protocol.specs.Words.{act_of, batch_of, below}
use Rattle.protocol_theorems.specs.BookFits.{actors_at}
use Rattle.snap_hand.specs.Hands.{Parts}

-- to these events just those were added
abbrev pub Adds : List code.Event → List code.Event → List Event → Type 0
Adds old new more = map event_meant new ≡ map event_meant old ++ more

-- what the ring has next
abbrev pub on_ring : ℕ → Ring → List Event
on_ring coordinators r = Submit r.next_tx ∷ Pass ((r.holder + 1) % coordinators) ∷ Form r.next_bid ∷ Admit r.next_tid ∷ []

-- of a sub-batch, and of a control, under way
abbrev pub of_sub : ℕ × ℕ → List Event
of_sub p = Arrive p.0 p.1 ∷ DropSub p.0 p.1 ∷ []

abbrev pub of_control : ℕ × ℕ → List Event
of_control p = Ask p.0 p.1 ∷ Take p.0 p.1 ∷ DropControl p.0 ∷ []

abbrev pub on_post : Post Rest → List Event
on_post p = flat_map of_sub (sub_places p.subs) ++ flat_map of_control (control_places p.controls)

-- of actor a: of what waits there, of what slices left, of the PACTs not done, of the batches not complete
abbrev pub of_waiting : ℕ → ℕ → List Event
of_waiting a t = Run t a ∷ []

abbrev pub of_outcome : ℕ → ℕ → List Event
of_outcome a t = Send t a ∷ End t a ∷ []

abbrev pub of_undone : ℕ → ℕ → List Event
of_undone a t = Close t a ∷ []

abbrev pub of_incomplete : ℕ → ℕ → List Event
of_incomplete a k = Complete k a ∷ []

abbrev pub on_boxes : ℕ → Cell Rest → List Event
on_boxes a c = flat_map (of_waiting a) (map (λ x. x.tid) c.inbox) ++ flat_map (of_outcome a) (map (λ x. x.tid) c.outbox)

abbrev pub on_schedule : ℕ → Cell Rest → List Event
on_schedule a c = flat_map (of_undone a) (undone_on c.entries) ++ flat_map (of_incomplete a) (incomplete_on c.entries)

abbrev pub on_cell : ℕ → Cell Rest → List Event
on_cell a c = (Rollback a ∷ []) ++ (on_boxes a c ++ on_schedule a c)

-- of a log
abbrev pub of_log : ℕ → List Event
of_log l = Sync l ∷ []

-- of batch k, and of it on each of its actors
abbrev pub of_declared : ℕ → ℕ → List Event
of_declared k a = Note k a ∷ Trim k a ∷ []

abbrev pub of_batch : Desk → ℕ → List Event
of_batch d k = (Commit k ∷ Settle k ∷ Abort k ∷ []) ++ flat_map (of_declared k) (actors_in (batch_of k d.batches))

abbrev pub on_desk : Desk → List Event
on_desk d = flat_map (of_batch d) (going_batches d)

-- of ACT t, and of it on each of its actors
abbrev pub of_joined : ℕ → ℕ → List Event
of_joined t a = Prepare t a ∷ Vouch t a ∷ Finish t a ∷ []

abbrev pub of_act : Book → ℕ → List Event
of_act b t = (Decide t ∷ Seal t ∷ []) ++ flat_map (of_joined t) (actors_at (act_of t b.acts))

abbrev pub on_book : Book → List Event
on_book b = flat_map (of_act b) (live_tids b)

-- of the transactions below a number that wait for a reply
abbrev pub of_reply : ℕ → List Event
of_reply n = Reply n ∷ []

abbrev pub on_replies : ℕ → Desk → List Event
on_replies upto d = flat_map of_reply (unreplied_below upto d.replied)

-- ---- of the parts at hand

module _ {X : Type 0} where
  abbrev pub of_some : (X → List Event) → Option X → List Event
  of_some f None = []
  of_some f (Some x) = f x

-- whether the actor's cell is at hand
abbrev pub of_place : ℕ → Option (Option (Cell Rest)) → List Event
of_place a None = []
of_place a (Some o) = of_some (on_cell a) o

abbrev pub on_place : Parts → ℕ → List Event
on_place h a = of_place a (slice_get h.cells a)

-- the transactions of which one may be submitted: those below this number
abbrev pub upto_of : Text → Option Ring → ℕ
upto_of w None = length w.txs
upto_of w (Some r) = r.next_tx

-- of the ring, the post, the cells, the logs, the desk, the book, and of replies; the book at hand shows the book b
abbrev pub on_hand : Text → Parts → Book → List Event
on_hand w h b =
    of_some (on_ring w.coordinators) h.ring
    ++ (of_some on_post h.post
    ++ (flat_map (on_place h) (below (length h.cells))
    ++ (flat_map of_log (below w.logs)
    ++ (of_some on_desk h.desk
    ++ (of_some (λ x. on_book b) h.book
    ++ of_some (on_replies (upto_of w h.ring)) h.desk)))))
