-- The live ACTs that are given up, and what is listed of them after an event that may have given some up.
use Rattle.std.specs.Prelude.{ℕ, Bool, true, false, Option, Some, None, List, [], filter, slice_get}
use Rattle.std.specs.List.{list_any}
use Rattle.aml_slice.specs.Controls.{Rest}
use Rattle.book_part.specs.Listed.{live_tids}
use Rattle.listing_facts.specs.hybrid_schedule.Schedules.{is_any_act}
use Rattle.protocol.specs.Conditions.{is_given_up}
use Rattle.protocol.specs.Events.{Event, Arrive, Ask, Abort}
use Rattle.protocol.specs.Parts.{Book, Cell, OfAct}

abbrev pub given_up_tids : Book → List ℕ
given_up_tids b = filter (λ t. is_given_up (OfAct t) b) (live_tids b)

-- an ACT stands in an actor's cell, or the cell is not at hand
abbrev pub may_have_acts : Option (Option (Cell Rest)) → Bool
may_have_acts None = true
may_have_acts (Some None) = true
may_have_acts (Some (Some c)) = list_any is_any_act c.entries

-- those that are given up, where this is so
abbrev pub given_up_if : Bool → Book → List ℕ
given_up_if true b = given_up_tids b
given_up_if false b = []

-- where the event may have given some up, by these cells: an arrival gives up none where no ACT stands on the actor
abbrev pub given_up_by : Event → List (Option (Cell Rest)) → Book → List ℕ
given_up_by (Arrive k a) cells b = given_up_if (may_have_acts (slice_get cells a)) b
given_up_by (Ask t a) cells b = given_up_tids b
given_up_by (Abort k) cells b = given_up_tids b
given_up_by _ cells b = []
