-- What is listed of replies after an event: of the transactions that it may have given a verdict.
use Rattle.std.specs.Prelude.{ℕ, ◌-◌, Bool, true, false, Option, Some, None, List, [], ◌∷◌, ◌++◌}
use Rattle.std.specs.List.{flat_map}
use Rattle.aml_slice.specs.Controls.{Rest}
use Rattle.listing_facts.specs.batch_table.Listed.{txs_at}
use Rattle.ready_listing.specs.Listed.{of_reply}
use Rattle.book_part.specs.order_book.Asked.{tx_of}
use Rattle.protocol.specs.Conditions.{may_leave}
use Rattle.protocol.specs.Events.{Event, Arrive, Ask, End, Settle, Abort, Decide, Seal, Reply}
use Rattle.protocol.specs.Numbers.{from}
use Rattle.protocol.specs.Parts.{Book, Cell, Desk}
use Rattle.protocol.specs.Words.{act_of, batch_of}
use Rattle.ready_news.specs.GivenUp.{given_up_by, given_up_tids}

abbrev pub replies_of : Option ℕ → List Event
replies_of None = []
replies_of (Some n) = Reply n ∷ []

-- of ACT t, where this is so, and where it is given up or sealed
abbrev pub of_tx : Book → ℕ → List Event
of_tx b t = replies_of (tx_of (act_of t b.acts))

abbrev pub of_tx_if : Bool → Book → ℕ → List Event
of_tx_if true b t = of_tx b t
of_tx_if false b t = []

abbrev pub of_over : Book → ℕ → List Event
of_over b t = of_tx_if (may_leave t b.acts) b t

-- of the PACTs of batch k
abbrev pub of_txs : Desk → ℕ → List Event
of_txs d k = flat_map of_reply (txs_at (batch_of k d.batches))

-- of the live ACTs that are given up
abbrev pub of_given_up : Book → List Event
of_given_up b = flat_map (of_tx b) (given_up_tids b)

-- of the batches from number k on, where this is the next one
abbrev pub of_later : ℕ → ℕ → Desk → List Event
of_later k next d = flat_map (of_txs d) (from k (next - k))

-- of the batches
abbrev pub of_batches : ℕ → Desk → Event → List Event
of_batches next d (Settle k) = of_txs d k
of_batches next d (Abort k) = of_later k next d
of_batches next d _ = []

-- of the ACTs
abbrev pub of_acts : Book → Event → List Event
of_acts b (End t a) = of_over b t
of_acts b (Decide t) = of_over b t
of_acts b (Seal t) = of_over b t
of_acts b (Arrive k a) = of_given_up b
of_acts b (Ask t a) = of_over b t ++ of_given_up b
of_acts b (Abort k) = of_given_up b
of_acts b _ = []

-- what is listed of the ACTs, where those of these tids are given up
abbrev pub of_acts_with : Book → Event → List ℕ → List Event
of_acts_with b (Arrive k a) tids = flat_map (of_tx b) tids
of_acts_with b (Ask t a) tids = of_over b t ++ flat_map (of_tx b) tids
of_acts_with b (Abort k) tids = flat_map (of_tx b) tids
of_acts_with b e tids = of_acts b e

abbrev pub by_answers : ℕ → Book → Desk → Event → List Event
by_answers next b d e = of_batches next d e ++ of_acts b e

-- where those are looked for by the event and these cells
abbrev pub answers_listed : ℕ → Event → List (Option (Cell Rest)) → Book → Desk → List Event
answers_listed next e cells b d = of_batches next d e ++ of_acts_with b e (given_up_by e cells b)
