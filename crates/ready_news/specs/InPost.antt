-- What is listed after an event of what is under way: by the post, by the cells at hand and the desk, and by the book, since the
-- controls of who is given up may be dropped.
use Rattle.std.specs.Prelude.{ℕ, ◌==◌, Bool, true, false, not, ◌&&◌, Option, Some, None, List, [], ◌∷◌, ◌++◌, slice_get}
use Rattle.std.specs.List.{flat_map}
use Rattle.std.specs.Option.{option_map}
use Rattle.aml_slice.specs.Controls.{Rest}
use Rattle.ready_listing.specs.Listed.{on_post}
use Rattle.listing_facts.specs.batch_table.Listed.{actors_in}
use Rattle.listing_facts.specs.hybrid_schedule.Listed.{undone_by}
use Rattle.listing_facts.specs.post_box.Listed.{control_places, places_to, sub_places}
use Rattle.listing_facts.specs.post_box.Posting.{message_to, message_who}
use Rattle.protocol.specs.Conditions.{is_given_up, is_not_doomed}
use Rattle.protocol.specs.Events.{Event, Form, Admit, Arrive, Ask, Take, Send, Abort, Rollback, DropControl, Finish}
use Rattle.protocol.specs.Parts.{Book, Cell, Desk, Post}
use Rattle.protocol.specs.Words.{batch_of, control_of, has_act, has_entry, holds, sub_of}
use Rattle.ready_news.specs.GivenUp.{given_up_by, given_up_tids}
use Rattle.ready_news.specs.InBook.{only}

-- there is a number, and it is this one
abbrev pub is_at : ℕ → Option ℕ → Bool
is_at a None = false
is_at a (Some b) = b == a

-- ---- the events of what is under way

-- of a sub-batch, and of a control, on its way
abbrev pub of_arrival : ℕ × ℕ → List Event
of_arrival p = Arrive p.0 p.1 ∷ []

abbrev pub of_coming : ℕ × ℕ → List Event
of_coming p = Ask p.0 p.1 ∷ Take p.0 p.1 ∷ []

-- to this actor
abbrev pub arrivals_to : ℕ → Post Rest → List Event
arrivals_to a p = flat_map of_arrival (places_to a (sub_places p.subs))

abbrev pub comings_to : ℕ → Post Rest → List Event
comings_to a p = flat_map of_coming (places_to a (control_places p.controls))

abbrev pub all_to : ℕ → Post Rest → List Event
all_to a p = arrivals_to a p ++ comings_to a p

-- the sub-batch that is told by its batch and its actor comes behind batch k there
abbrev pub comes_behind : ℕ → Post Rest → ℕ × ℕ → Bool
comes_behind k p q = is_at k (option_map (λ m. m.prev) (sub_of q.0 q.1 p.subs))

abbrev pub of_follower : ℕ → Post Rest → ℕ × ℕ → List Event
of_follower k p q = only (comes_behind k p q) (Arrive q.0 q.1)

-- of those to this actor the one that comes behind batch k there
abbrev pub followers : ℕ → ℕ → Post Rest → List Event
followers k a p = flat_map (of_follower k p) (places_to a (sub_places p.subs))

-- ---- a batch is formed: its sub-batches go to its actors

abbrev pub arrives_at : ℕ → ℕ → List Event
arrives_at k a = Arrive k a ∷ []

abbrev pub formed_listed : ℕ → Desk → List Event
formed_listed k d = flat_map (arrives_at k) (actors_in (batch_of k d.batches))

-- ---- a control on its way to an actor

-- an actor's cell passes a test, or is not at hand
abbrev pub may_in : (Cell Rest → Bool) → Option (Option (Cell Rest)) → Bool
may_in test None = true
may_in test (Some None) = true
may_in test (Some (Some c)) = test c

-- the transaction has no entry there as an ACT, and it has an entry
abbrev pub is_new_in : ℕ → Option (Option (Cell Rest)) → Bool
is_new_in t o = may_in (λ c. not (has_act t c.entries)) o

abbrev pub is_placed_in : ℕ → Option (Option (Cell Rest)) → Bool
is_placed_in t o = may_in (λ c. has_entry t c.entries) o

-- of the control of transaction t, which goes to this actor, by these cells: it asks there, where this may be, or is taken
abbrev pub comes_to : ℕ → List (Option (Cell Rest)) → Bool → Option ℕ → List Event
comes_to t cells asks None = []
comes_to t cells asks (Some a) = only (asks && is_new_in t (slice_get cells a)) (Ask t a) ++ only (is_placed_in t (slice_get cells a)) (Take t a)

-- whose it is, is given up
abbrev pub is_dropped : ℕ → Book → Post Rest → Bool
is_dropped t b p = holds (λ who. is_given_up who b) (option_map message_who (control_of t p.controls))

abbrev pub on_control : ℕ → List (Option (Cell Rest)) → Book → Post Rest → List Event
on_control t cells b p = comes_to t cells (is_not_doomed t b.acts) (option_map message_to (control_of t p.controls)) ++ only (is_dropped t b p) (DropControl t)

-- ---- a sub-batch arrives: controls that wait for it on their way to the actor

abbrev pub goes_to : ℕ → ℕ → Post Rest → Bool
goes_to t a p = is_at a (option_map message_to (control_of t p.controls))

abbrev pub takes_at : ℕ → Post Rest → ℕ → List Event
takes_at a p t = only (goes_to t a p) (Take t a)

-- by the actor's cell those of the batch's PACTs that are not done there, and where it is not at hand all that comes
abbrev pub takes_by : ℕ → ℕ → Option (Option (Cell Rest)) → Post Rest → List Event
takes_by k a None p = comings_to a p
takes_by k a (Some None) p = comings_to a p
takes_by k a (Some (Some c)) p = flat_map (takes_at a p) (undone_by k c.entries)

abbrev pub arrived_listed : ℕ → ℕ → List (Option (Cell Rest)) → Post Rest → List Event
arrived_listed k a cells p = followers k a p ++ takes_by k a (slice_get cells a) p

-- ---- the controls of ACTs that are given up

abbrev pub of_drop : ℕ → List Event
of_drop t = DropControl t ∷ []

abbrev pub given_up_drops : Book → List Event
given_up_drops b = flat_map of_drop (given_up_tids b)

-- ---- by the event

abbrev pub of_post : Event → List (Option (Cell Rest)) → Desk → Post Rest → List Event
of_post (Form k) cells d p = formed_listed k d
of_post (Arrive k a) cells d p = arrived_listed k a cells p
of_post (Abort k) cells d p = on_post p
of_post (Rollback a) cells d p = all_to a p
of_post (Finish t a) cells d p = only (goes_to t a p) (Ask t a)
of_post _ cells d p = []

-- where a control was posted
abbrev pub of_sent : Event → List (Option (Cell Rest)) → Book → Post Rest → List Event
of_sent (Admit t) cells b p = on_control t cells b p
of_sent (Send t a) cells b p = on_control t cells b p
of_sent _ cells b p = []

abbrev pub of_drops : Event → Book → List Event
of_drops (Arrive k a) b = given_up_drops b
of_drops (Ask t a) b = given_up_drops b
of_drops _ b = []

-- the drops of the event, where the ACTs of these tids are those given up
abbrev pub of_drops_with : Event → List ℕ → List Event
of_drops_with (Arrive k a) tids = flat_map of_drop tids
of_drops_with (Ask t a) tids = flat_map of_drop tids
of_drops_with _ tids = []

abbrev pub post_listed : Event → List (Option (Cell Rest)) → Book → Desk → Post Rest → List Event
post_listed e cells b d p = of_post e cells d p ++ (of_sent e cells b p ++ of_drops_with e (given_up_by e cells b))
