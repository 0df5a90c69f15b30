-- What is listed of ACTs after an event: what the ACT that it names may go on with, which live ones may be decided, and of those
-- that are given up the actors that they have still to leave. What waits for a record to be durable, as its votes and its seal do,
-- is listed with the sync, and not here.
use Rattle.std.specs.Prelude.{ℕ, Bool, true, false, ◌&&◌, Option, List, [], ◌∷◌, ◌++◌}
use Rattle.std.specs.List.{flat_map}
use Rattle.aml_slice.specs.Controls.{Rest}
use Rattle.book_part.specs.Listed.{live_tids}
use Rattle.protocol.specs.Conditions.{gives_value, is_not_prepared, awaits_decision, failed_or_vouched, may_leave, has_not_left}
use Rattle.protocol.specs.Events.{Event, Arrive, Ask, End, Settle, Abort, Prepare, Vouch, Decide, Seal, Finish}
use Rattle.protocol.specs.Parts.{Book, Cell}
use Rattle.protocol.specs.Words.{act_of}
use Rattle.protocol_theorems.specs.BookFits.{actors_at}
use Rattle.ready_news.specs.GivenUp.{given_up_by, given_up_tids}

-- an event, where this is so
abbrev pub only : Bool → Event → List Event
only true e = e ∷ []
only false e = []

-- ---- of ACT t

-- its decision, where it ended, and failed or is vouched for on all its actors
abbrev pub deciding_of : Book → ℕ → List Event
deciding_of b t = only (awaits_decision t b.acts && failed_or_vouched t b.acts) (Decide t)

-- where it gives a value, the actors that are not prepared
abbrev pub preparing_on : Book → ℕ → ℕ → List Event
preparing_on b t a = only (is_not_prepared t a b.acts) (Prepare t a)

abbrev pub preparing_if : Bool → Book → ℕ → List Event
preparing_if true b t = flat_map (preparing_on b t) (actors_at (act_of t b.acts))
preparing_if false b t = []

abbrev pub preparing_of : Book → ℕ → List Event
preparing_of b t = preparing_if (gives_value t b.acts) b t

-- where it is given up or sealed, the actors that it has not left
abbrev pub leaving_on : Book → ℕ → ℕ → List Event
leaving_on b t a = only (has_not_left t a b.acts) (Finish t a)

abbrev pub leaving_if : Bool → Book → ℕ → List Event
leaving_if true b t = flat_map (leaving_on b t) (actors_at (act_of t b.acts))
leaving_if false b t = []

abbrev pub leaving_of : Book → ℕ → List Event
leaving_of b t = leaving_if (may_leave t b.acts) b t

-- ---- the lists

-- the actors that those have not left that are given up
abbrev pub of_fallen : Book → List Event
of_fallen b = flat_map (leaving_of b) (given_up_tids b)

abbrev pub by_book : Book → Event → List Event
by_book b (End t a) = deciding_of b t ++ preparing_of b t
by_book b (Vouch t a) = deciding_of b t
by_book b (Decide t) = leaving_of b t
by_book b (Seal t) = leaving_of b t
by_book b (Settle k) = flat_map (deciding_of b) (live_tids b)
by_book b (Arrive k a) = of_fallen b
by_book b (Ask t a) = of_fallen b
by_book b (Abort k) = of_fallen b
by_book b _ = []

-- what is listed of ACTs, where those of these tids are given up
abbrev pub by_book_with : Book → Event → List ℕ → List Event
by_book_with b (Arrive k a) tids = flat_map (leaving_of b) tids
by_book_with b (Ask t a) tids = flat_map (leaving_of b) tids
by_book_with b (Abort k) tids = flat_map (leaving_of b) tids
by_book_with b e tids = by_book b e

-- where those are looked for by the event and these cells
abbrev pub book_listed : Event → List (Option (Cell Rest)) → Book → List Event
book_listed e cells b = by_book_with b e (given_up_by e cells b)
