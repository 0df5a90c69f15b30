-- What an event makes of the halves.
use Rattle.std.specs.Prelude.{ℕ, ◌-◌, List, [], ◌∷◌, ◌++◌}
use Rattle.protocol.specs.Fixed.{Fixed}
use Rattle.protocol.specs.Parts.{Cascade, Machine}
use Rattle.protocol.specs.Events.{Event, Abort}
use Rattle.protocol.specs.OnBook.{why, failed_tx, failed_code}
use Rattle.protocol_theorems.specs.BookFits.{orders_after, votes_after}
use Rattle.book_part.specs.Halves.{Halves}

-- the batches from k to this one are aborted, for this failure
abbrev pub with_cascade : ℕ → ℕ → ℕ → ℕ → Halves → List Cascade
with_cascade k upto by code h = h.cascades ++ record { first = k; upto = upto; by = by; at = h.votes.next_c; code = code } ∷ []

abbrev pub cascades_after : {C : Type 0} → Event → Machine C → Halves → List Cascade
cascades_after (Abort k) s h = with_cascade k (s.ring.next_bid - 1) (failed_tx (why k s.desk)) (failed_code (why k s.desk)) h
cascades_after _ s h = h.cascades

abbrev pub halves_after : {C : Type 0} → Fixed C → Event → Machine C → Halves → Halves
halves_after w e s h = record h { orders = orders_after w e s h.orders; votes = votes_after e s h.orders h.votes; cascades = cascades_after e s h }
