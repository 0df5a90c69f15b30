-- What is listed of batches after an event.
use Rattle.std.specs.Prelude.{ℕ, ◌&&◌, Option, Some, None, List, [], ◌∷◌, ◌++◌}
use Rattle.std.specs.List.{flat_map}
use Rattle.snap_base.specs.declared.ids.Bid.{Bid}
use Rattle.listing_facts.specs.batch_table.Listed.{actors_in}
use Rattle.ready_listing.specs.Listed.{on_desk}
use Rattle.protocol.specs.Conditions.{has_ended_well, has_failed_pact, is_noted_everywhere}
use Rattle.protocol.specs.Events.{Event, Form, End, Note, Commit, Settle, Abort, Trim}
use Rattle.protocol.specs.Parts.{Desk}
use Rattle.protocol.specs.Words.{batch_of}
use Rattle.ready_news.specs.InBook.{only}

-- batch k commits, where it is noted on all its actors and all its PACTs ended with a value
abbrev pub commit_of : Desk → ℕ → List Event
commit_of d k = only (is_noted_everywhere k d.batches && has_ended_well k d.batches) (Commit k)

-- it is aborted, where a PACT of it failed and all before that one ended with a value
abbrev pub abort_of : Desk → ℕ → List Event
abort_of d k = only (has_failed_pact k d.batches) (Abort k)

abbrev pub ends_of : Desk → ℕ → List Event
ends_of d k = commit_of d k ++ abort_of d k

-- how the next batch may end
abbrev pub next_ends : Desk → Option Bid → List Event
next_ends d None = []
next_ends d (Some k) = ends_of d k.0

-- batch k leaves an actor, and each of its own
abbrev pub of_trim : ℕ → ℕ → List Event
of_trim k a = Trim k a ∷ []

abbrev pub trims_of : Desk → ℕ → List Event
trims_of d k = flat_map (of_trim k) (actors_in (batch_of k d.batches))

-- where one batch is the next
abbrev pub by_desk : Option Bid → Desk → Event → List Event
by_desk next d (Form k) = next_ends d next
by_desk next d (Commit k) = Settle k ∷ []
by_desk next d (Settle k) = trims_of d k ++ next_ends d next
by_desk next d (End t a) = next_ends d next
by_desk next d (Note k a) = commit_of d k
by_desk next d (Abort k) = on_desk d
by_desk next d _ = []
