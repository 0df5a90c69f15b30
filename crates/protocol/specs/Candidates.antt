-- The events that name numbers drawn so far, in order, and those of them that are allowed.
use Rattle.std.specs.Prelude.{ℕ, zero, suc, ◌-◌, ◌==◌, Option, None, Some, List, [], ◌∷◌, length, map, filter, find}
use Rattle.std.specs.List.{flat_map}
use Rattle.protocol.specs.Fixed.{Fixed}
use Rattle.protocol.specs.Parts.{Machine}
use Rattle.protocol.specs.Events.{Event, Submit, Pass, Form, Admit, Arrive, Ask, Take, Run, Send, End, Close, Complete, Sync, Note, Commit, Settle, Abort, Rollback, DropSub, DropControl, Prepare, Vouch, Decide, Seal, Finish, Reply, Trim}
use Rattle.protocol.specs.Words.{below}
use Rattle.protocol.specs.Numbers.{from}
use Rattle.protocol.specs.Conditions.{refusal}
use Rattle.protocol.specs.Effects.{after}

-- an event of one kind for each number, and for each two
abbrev pub each : (ℕ → Event) → List ℕ → List Event
each kind xs = map kind xs

abbrev pub each_two : (ℕ → ℕ → Event) → List ℕ → List ℕ → List Event
each_two kind xs ys = flat_map (λ x. map (kind x) ys) xs

abbrev pub tids_drawn : {C : Type 0} → Fixed C → Machine C → List ℕ
tids_drawn w s = from w.text.opening.next_tid (s.ring.next_tid - w.text.opening.next_tid)

abbrev pub bids_drawn : {C : Type 0} → Fixed C → Machine C → List ℕ
bids_drawn w s = from w.text.opening.next_bid (s.ring.next_bid - w.text.opening.next_bid)

-- in the order of the kinds, then of the first number, then of the second
abbrev pub offers : List ℕ → List ℕ → List ℕ → {C : Type 0} → Fixed C → Machine C → List (List Event)
offers ks ts cells w s =
    (Submit s.ring.next_tx ∷ [])
    ∷ each Pass (below w.text.coordinators)
    ∷ (Form s.ring.next_bid ∷ [])
    ∷ (Admit s.ring.next_tid ∷ [])
    ∷ each_two Arrive ks cells
    ∷ each_two Ask ts cells
    ∷ each_two Take ts cells
    ∷ each_two Run ts cells
    ∷ each_two Send ts cells
    ∷ each_two End ts cells
    ∷ each_two Close ts cells
    ∷ each_two Complete ks cells
    ∷ each Sync (below w.text.logs)
    ∷ each_two Note ks cells
    ∷ each Commit ks
    ∷ each Settle ks
    ∷ each Abort ks
    ∷ each Rollback cells
    ∷ each_two DropSub ks cells
    ∷ each DropControl ts
    ∷ each_two Prepare ts cells
    ∷ each_two Vouch ts cells
    ∷ each Decide ts
    ∷ each Seal ts
    ∷ each_two Finish ts cells
    ∷ each Reply (below (length w.text.txs))
    ∷ each_two Trim ks cells ∷ []

abbrev pub candidates : {C : Type 0} → Fixed C → Machine C → List Event
candidates w s = flat_map (λ xs. xs) (offers (bids_drawn w s) (tids_drawn w s) (below (length s.cells)) w s)

-- those that are allowed, in order
abbrev pub allowed_candidates : {C : Type 0} → Fixed C → Machine C → List Event
allowed_candidates w s = filter (λ e. refusal w e s == 0) (candidates w s)

-- the first candidate that is allowed
abbrev pub first_allowed : {C : Type 0} → Fixed C → Machine C → Option Event
first_allowed w s = find (λ e. refusal w e s == 0) (candidates w s)

-- goes on by the first candidate that is allowed, at most so many times
abbrev pub goes_on : {C : Type 0} → ℕ → Fixed C → Machine C → Option Event → List Event
goes_on zero w s e = []
goes_on (suc k) w s None = []
goes_on (suc k) w s (Some e) = e ∷ goes_on k w (after w e s) (first_allowed w (after w e s))
