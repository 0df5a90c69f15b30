-- Who stands before whom, by the events alone: the chains of the machine's own history (`Chains`), of what the events tell.
use Rattle.std.specs.Prelude.{◌≡◌, ℕ, Bool, true, if◌then◌else◌, Option, Some, None, List, map}
use Rattle.protocol.specs.Fixed.{no_state}
use Rattle.protocol.specs.Words.{is_among}
use Rattle.protocol.specs.History.{View, Done, History, no_history}
use Rattle.protocol.specs.Chains.{chain, Precedes, is_place_below}
use Rattle.audit_words.specs.Seen.{Member, Seen}

-- that it ran, and nothing of the states that it found and left
abbrev pub seen_view : Bool → Option View
seen_view b = if b then Some (record { found = no_state; left = no_state }) else None

-- of one that has its place, no result is told
abbrev pub seen_done : (ℕ → List ℕ) → Member → Done
seen_done ran m = record { who = m.who; tid = m.tid; tx = m.tx; place = m.place; result = None; reader = m.reader; views = λ a. seen_view (is_among m.tid (ran a)) }

-- the history of the machine, as far as its chains go: who was placed on each actor, and who has its place
abbrev pub seen_history : Seen → History
seen_history s = record no_history { placed = s.placed; committed = map (seen_done s.ran) s.members }

-- On each actor's chain the place of each that stands before the transaction is below that of the transaction, unless they are
-- both readers, of which none precedes the other.
abbrev pub RiseTo : ℕ → History → Type 0
RiseTo n h = (a t u : ℕ) (p : Precedes t u (chain a h)) → p.second.tx ≡ n → is_place_below p.first.place p.second.place ≡ true
