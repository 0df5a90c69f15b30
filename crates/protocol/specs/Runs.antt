-- A run: a list of events from the opening, each allowed in the state that the ones before it leave. Any
-- message that lies in the post may be taken next, so every delay and every order of messages is some run.
use Rattle.std.specs.Prelude.{ℕ, false, List, [], ◌∷◌, length, map, replicate, ⊤}
use Rattle.snap_base.specs.declared.transactions.State.{State}
use Rattle.protocol.specs.Fixed.{Fixed, base}
use Rattle.protocol.specs.Parts.{Ring, Book, Desk, Cell, Machine}
use Rattle.protocol.specs.Events.{Event}
use Rattle.protocol.specs.Conditions.{IsAllowed}
use Rattle.protocol.specs.Effects.{after, no_log}

-- ---- the opening

abbrev pub new_cell : {C : Type 0} → ℕ → State → Cell C
new_cell base s = record { state = s; images = []; epoch = 0; last = base; last_trimmed = base; tail = 0; floors = record { write = base; read = base }; entries = []; inbox = []; outbox = [] }

abbrev pub opening_ring : {C : Type 0} → Fixed C → Ring
opening_ring w = record {
  holder = 0;
  next_tx = 0;
  next_tid = w.text.opening.next_tid;
  next_bid = w.text.opening.next_bid;
  epoch = 0;
  lasts = replicate (length w.text.opening.states) 0;
  pacts = replicate w.text.coordinators [];
  acts = replicate w.text.coordinators [];
}

abbrev pub opening_book : {C : Type 0} → Fixed C → Book
opening_book w = record { next_c = w.text.opening.next_c; cascades = []; acts = []; pairs = [] }

abbrev pub opening_desk : {C : Type 0} → Fixed C → Desk
opening_desk w = record { batches = []; settled = base w.text; replied = replicate (length w.text.txs) false }

abbrev pub opening : {C : Type 0} → Fixed C → Machine C
opening w = record {
  ring = opening_ring w;
  book = opening_book w;
  post = record { subs = []; controls = [] };
  desk = opening_desk w;
  logs = replicate w.text.logs no_log;
  cells = map (new_cell (base w.text)) w.text.opening.states;
}

-- ---- runs

-- the state after some events, one after the other
abbrev pub state_after : {C : Type 0} → Fixed C → List Event → Machine C → Machine C
state_after w [] s = s
state_after w (e ∷ es) s = state_after w es (after w e s)

abbrev pub EachAllowed : {C : Type 0} → Fixed C → List Event → Machine C → Type 0
EachAllowed w [] s = ⊤
EachAllowed w (e ∷ es) s = IsAllowed w e s × EachAllowed w es (after w e s)

abbrev pub IsRun : {C : Type 0} → Fixed C → List Event → Type 0
IsRun w es = EachAllowed w es (opening w)

-- the state after a run
abbrev pub reached : {C : Type 0} → Fixed C → List Event → Machine C
reached w es = state_after w es (opening w)

-- no event is allowed
abbrev pub IsQuiet : {C : Type 0} → Fixed C → Machine C → Type 0
IsQuiet w s = (e : Event) → IsAllowed w e s → ⊥
