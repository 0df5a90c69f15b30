-- What is listed after an event, look by look: whatever it made allowed is among it.
use Rattle.std.specs.Prelude.{ℕ, Bool, true, false, Option, List, [], ◌∷◌, ◌++◌, length, map, slice_get}
use Rattle.std.specs.List.{flat_map}
use Rattle.aml_slice.specs.Controls.{Rest}
use Rattle.book_part.specs.Listed.{live_tids}
use Rattle.protocol.specs.Events.{Event, Ask, DropControl, Run, Settle}
use Rattle.protocol.specs.Fixed.{Text}
use Rattle.protocol.specs.Parts.{Book, Desk, Post, Ring}
use Rattle.protocol.specs.Words.{below}
use Rattle.ready_listing.specs.Listed.{on_desk, on_place, on_post, on_ring}
use Rattle.snap_base.specs.declared.ids.Bid.{Bid}
use Rattle.snap_hand.specs.Hands.{Parts}
use Rattle.ready_news.specs.GivenUp.{given_up_tids, may_have_acts}
use Rattle.ready_news.specs.InAnswers.{of_later, of_over, of_tx, of_txs}
use Rattle.ready_news.specs.InBook.{deciding_of, leaving_of, only, preparing_of}
use Rattle.ready_news.specs.InCells.{closes_behind, late_by, left_by, of_shown, wakes}
use Rattle.ready_news.specs.InDesk.{commit_of, next_ends, trims_of}
use Rattle.ready_news.specs.InPost.{arrivals_to, comings_to, followers, formed_listed, goes_to, on_control, takes_by}
use Rattle.ready_news.specs.InRing.{added_to, admits_any, forms_any, passes, submitted_listed}
use Rattle.ready_news.specs.Looks.{looks_of, names_of}
use Rattle.ready_news.specs.declared.looks.Look.{Look}
use Rattle.ready_news.specs.declared.looks.Look.TheVariants.{Aborted, ActLog, ActorLog, Again, Answers, Arrivals, Arrived, Back, BatchLog, Closes, Comings, Committed, Control, Deciding, Decisions, Fallen, Follower, Formed, GivenUp, Late, Leaving, Left, LetIn, NextAct, NextBatch, NextEnds, Noted, Over, Placed, Preparing, Submitted, Token, Trimmed, Trims, Woken}
use Rattle.ready_news.specs.declared.looks.Names.{Names}

-- ---- of an ACT that is given up: its control may be dropped, it may leave its actors, and its reply is due

abbrev pub of_gone : Book → ℕ → List Event
of_gone b t = (DropControl t ∷ []) ++ (leaving_of b t ++ of_tx b t)

-- of all that are, and of those where this is so
abbrev pub of_all_gone : Book → List Event
of_all_gone b = flat_map (of_gone b) (given_up_tids b)

abbrev pub of_all_gone_if : Bool → Book → List Event
of_all_gone_if true b = of_all_gone b
of_all_gone_if false b = []

-- ---- of all that waits, where batch k and those behind it are aborted

module _ (w : Text) (h : Parts) (r : Ring) (b : Book) (p : Post Rest) (d : Desk) where
  abbrev pub aborted_lists : ℕ → List (List Event)
  aborted_lists k = on_ring w.coordinators r ∷ flat_map (on_place h) (below (length h.cells)) ∷ on_post p ∷ on_desk d ∷ of_later k r.next_bid d ∷ of_all_gone b ∷ []

-- ---- by the look, where the parts at hand are these, and this batch is the next to end

module _ (w : Text) (h : Parts) (next : Option Bid) (r : Ring) (b : Book) (p : Post Rest) (d : Desk) where
  -- about these names
  module _ (c : Names) where
    abbrev pub of_look : Look → List Event
    of_look Submitted = submitted_listed c.tx.0 w d b r
    of_look Token = passes w.coordinators r
    of_look NextBatch = forms_any w d r
    of_look NextAct = admits_any w b r
    of_look BatchLog = added_to w.logs h.logs c.batch.0
    of_look ActLog = added_to w.logs h.logs c.tid.0
    of_look ActorLog = added_to w.logs h.logs c.actor.0
    of_look Formed = formed_listed c.batch.0 d
    of_look Control = on_control c.tid.0 h.cells b p
    of_look Again = only (goes_to c.tid.0 c.actor.0 p) (Ask c.tid.0 c.actor.0)
    of_look Arrivals = arrivals_to c.actor.0 p
    of_look Comings = comings_to c.actor.0 p
    of_look Follower = followers c.batch.0 c.actor.0 p
    of_look LetIn = takes_by c.batch.0 c.actor.0 (slice_get h.cells c.actor.0) p
    of_look Arrived = of_shown (wakes c.actor.0) (slice_get h.cells c.actor.0)
    of_look Late = of_shown (late_by c.batch.0 c.actor.0 h.desk) (slice_get h.cells c.actor.0)
    of_look Placed = Run c.tid.0 c.actor.0 ∷ []
    of_look Left = of_shown (left_by c.tid.0 c.actor.0) (slice_get h.cells c.actor.0)
    of_look Woken = of_shown (wakes c.actor.0) (slice_get h.cells c.actor.0)
    of_look Trimmed = of_shown (wakes c.actor.0) (slice_get h.cells c.actor.0)
    of_look Back = on_place h c.actor.0
    of_look Closes = closes_behind w c.tid.0 h.desk h
    of_look NextEnds = next_ends d next
    of_look Noted = commit_of d c.batch.0
    of_look Committed = Settle c.batch.0 ∷ []
    of_look Trims = trims_of d c.batch.0
    of_look Answers = of_txs d c.batch.0
    of_look Aborted = flat_map (λ xs. xs) (aborted_lists w h r b p d c.batch.0)
    of_look Preparing = preparing_of b c.tid.0
    of_look Deciding = deciding_of b c.tid.0
    of_look Decisions = flat_map (deciding_of b) (live_tids b)
    of_look Leaving = leaving_of b c.tid.0
    of_look Over = of_over b c.tid.0
    of_look Fallen = of_all_gone_if (may_have_acts (slice_get h.cells c.actor.0)) b
    of_look GivenUp = of_all_gone b

  -- by the event
  abbrev pub lists : Event → List (List Event)
  lists e = map (of_look (names_of e)) (looks_of e)

  abbrev pub listed : Event → List Event
  listed e = flat_map (of_look (names_of e)) (looks_of e)
