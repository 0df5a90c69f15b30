-- Of which kinds an event may refuse events, and which of these. The kinds are those of `rank`.
use Rattle.std.specs.Prelude.{ℕ, ◌==◌, Bool, ◌&&◌, ◌||◌, List, [], ◌∷◌}
use Rattle.std.specs.List.{list_any}
use Rattle.protocol.specs.Events.{Event, Submit, Form, Arrive, Ask, Take, Run, Send, End, Close, Commit, Settle, Abort, Rollback, DropSub, DropControl, Prepare, Vouch, Decide, Seal, Finish, Trim}
use Rattle.ready_list.specs.Order.{first_of, kind_of, numbers}

-- the event is of one of these kinds
abbrev pub is_among : List ℕ → Event → Bool
is_among kinds f = list_any (λ k. k == kind_of f) kinds

-- of some kinds all events; of some those on an actor, which is their second number; of some those with a first number
abbrev pub is_reached : List ℕ → List ℕ → ℕ → List ℕ → ℕ → Event → Bool
is_reached wholly on_actor actor numbered number f = is_among wholly f || ((is_among on_actor f && (actor == (numbers f).second)) || (is_among numbered f && (number == first_of f)))

-- of these kinds an event may refuse all
abbrev pub kinds_wholly : Event → List ℕ
kinds_wholly (Submit n) = 2 ∷ []
kinds_wholly (Form k) = 4 ∷ 15 ∷ 17 ∷ []
kinds_wholly (Arrive k a) = 6 ∷ 21 ∷ 22 ∷ 23 ∷ []
kinds_wholly (Ask t a) = 4 ∷ 6 ∷ 21 ∷ 22 ∷ 23 ∷ []
kinds_wholly (End t a) = 15 ∷ 17 ∷ []
kinds_wholly (Settle k) = 15 ∷ 17 ∷ 23 ∷ []
kinds_wholly (Abort k) = 1 ∷ 2 ∷ 3 ∷ 4 ∷ 5 ∷ 6 ∷ 7 ∷ 8 ∷ 9 ∷ 10 ∷ 11 ∷ 12 ∷ 13 ∷ 14 ∷ 15 ∷ 16 ∷ 17 ∷ 18 ∷ 19 ∷ 20 ∷ 21 ∷ 22 ∷ 23 ∷ 24 ∷ 25 ∷ 27 ∷ []
kinds_wholly _ = []

-- of these those on its actor
abbrev pub kinds_on_actor : Event → List ℕ
kinds_on_actor (Arrive k a) = 5 ∷ 19 ∷ []
kinds_on_actor (Rollback a) = 5 ∷ 6 ∷ 7 ∷ 8 ∷ 9 ∷ 10 ∷ 11 ∷ 12 ∷ 19 ∷ []
kinds_on_actor (DropSub k a) = 5 ∷ 19 ∷ []
kinds_on_actor (Trim k a) = 7 ∷ 8 ∷ 11 ∷ 12 ∷ []
kinds_on_actor _ = []

-- of these those with its first number
abbrev pub kinds_numbered : Event → List ℕ
kinds_numbered (Ask t a) = 7 ∷ 20 ∷ []
kinds_numbered (Take t a) = 6 ∷ 7 ∷ 20 ∷ []
kinds_numbered (Run t a) = 11 ∷ []
kinds_numbered (Send t a) = 9 ∷ 10 ∷ []
kinds_numbered (End t a) = 9 ∷ 10 ∷ 21 ∷ 22 ∷ 23 ∷ 24 ∷ 25 ∷ []
kinds_numbered (Close t a) = 11 ∷ []
kinds_numbered (Commit k) = 14 ∷ 17 ∷ []
kinds_numbered (Rollback a) = 18 ∷ []
kinds_numbered (DropControl t) = 6 ∷ 7 ∷ 20 ∷ []
kinds_numbered (Prepare t a) = 22 ∷ []
kinds_numbered (Vouch t a) = 23 ∷ []
kinds_numbered (Decide t) = 21 ∷ 22 ∷ 23 ∷ 24 ∷ 25 ∷ []
kinds_numbered (Seal t) = 21 ∷ 22 ∷ 23 ∷ 24 ∷ 25 ∷ []
kinds_numbered (Finish t a) = 7 ∷ 8 ∷ 9 ∷ 10 ∷ 22 ∷ []
kinds_numbered _ = []

-- its actor, where there is one
abbrev pub actor_of : Event → ℕ
actor_of (Rollback a) = a
actor_of e = (numbers e).second
