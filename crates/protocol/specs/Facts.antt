-- What the machine uses of method code, and nothing else: where a control stands and goes, what it rests on,
-- how far it may still go, and what the rest of a transaction means.
use Rattle.std.specs.Prelude.{◌≡◌, ◌≢◌, ℕ, ◌<◌, ◌≤◌, true, List, [], ◌∷◌, length, slice_index_or, slice_set}
use Rattle.snap_base.specs.declared.transactions.State.{State}
use Rattle.snap_base.specs.declared.transactions.Tx.{Tx}
use Rattle.snap_base.specs.declared.transactions.TxResult.{TxResult}
use Rattle.snap_base.specs.declared.transactions.TxResult.TheVariants.{Value, Fail}
pub use Rattle.snap_base.specs.Outcomes.{Alone, Serial}
use Rattle.protocol.specs.Fixed.{Next, Go, Ended, Code, no_state, is_pact, root, declared}
use Rattle.protocol.specs.Words.{is_among}

-- ---- transactions alone

-- a failure leaves the world as it was
abbrev pub undone : List State → TxResult → List State → Alone
undone old (Value v) new = record { result = Value v; world = new }
undone old (Fail code) new = record { result = Fail code; world = old }

abbrev pub or_undone : List State → Alone → Alone
or_undone old x = undone old x.result x.world

-- A transaction alone. `finish` tells what a control gives when nobody else changes the world.
abbrev pub alone : {C : Type 0} → Code C → (C → List State → Alone) → List State → Tx → Alone
alone code finish world tx = or_undone world (finish (code.start 0 tx) world)

-- one after the other
abbrev pub serial : {C : Type 0} → Code C → (C → List State → Alone) → List State → List Tx → Serial
serial code finish world [] = record { results = []; world = world }
serial code finish world (tx ∷ txs) =
    let first = alone code finish world tx in
    let rest = serial code finish first.world txs in
    record { results = first.result ∷ rest.results; world = rest.world }

-- ---- slices

abbrev pub state_in : List State → ℕ → State
state_in world a = slice_index_or world a no_state

-- what is left after a slice gives
abbrev pub rest_of : {C : Type 0} → (C → List State → Alone) → Next C → List State → Alone
rest_of finish (Go b control) world = finish control world
rest_of finish (Ended r) world = record { result = r; world = world }

-- A step of a transaction: from some state a slice of its control c goes on to actor b, with control d. `Of` tells of which
-- transaction a control is a rest.
pub record Steps {C : Type 0} (code : Code C) (Of : Tx → C → Type 0) (tx : Tx) (c : C) (b : ℕ) (d : C) : Type 0 where
  pub from : State
  pub of_it : Of tx c
  pub goes : (code.slice c from).next ≡ Go b d

-- Over so many actors. `Allowed` tells which transactions are begun, and `Of` of which transaction a control is a rest.
pub record Facts {C : Type 0} (actors : ℕ) (code : Code C) (Allowed : Tx → Type 0) (Of : Tx → C → Type 0) (finish : C → List State → Alone) : Type 0 where
  pub starts : (t : ℕ) (tx : Tx) → Allowed tx → Of tx (code.start t tx)
  pub stays : (tx : Tx) (c d : C) (b : ℕ) → Steps code Of tx c b d → Of tx d
  -- where it stands
  pub begins_at_root : (t : ℕ) (tx : Tx) → code.at (code.start t tx) ≡ root tx
  pub goes_elsewhere : (tx : Tx) (c d : C) (b : ℕ) → Steps code Of tx c b d → (code.at d ≡ b) × (b ≢ code.at c) × (b < actors)
  -- what a PACT rests on
  pub rests_where_it_stands : (tx : Tx) (c : C) → is_pact tx ≡ true → Of tx c → code.rests_on c (code.at c) ≡ true
  pub rests_on_declared : (t : ℕ) (tx : Tx) (a : ℕ) → Allowed tx → is_pact tx ≡ true → code.rests_on (code.start t tx) a ≡ true → is_among a (declared tx) ≡ true
  pub rests_no_further : (tx : Tx) (c d : C) (a b : ℕ) → is_pact tx ≡ true → Steps code Of tx c b d → code.rests_on d a ≡ true → code.rests_on c a ≡ true
  -- where it has been
  pub stood_here : (tx : Tx) (c : C) → Of tx c → is_among (code.at c) (code.visited c) ≡ true
  pub stood_before : (tx : Tx) (c d : C) (a b : ℕ) → Steps code Of tx c b d → is_among a (code.visited c) ≡ true → is_among a (code.visited d) ≡ true
  pub few_actors : (tx : Tx) (c : C) → Of tx c → length (code.visited c) ≤ 16
  -- how far it may go
  pub few_visits : (t : ℕ) (tx : Tx) → code.visits_left (code.start t tx) ≤ 127
  pub one_visit : (tx : Tx) (c : C) → Of tx c → 1 ≤ code.visits_left c
  pub visits_fall : (tx : Tx) (c d : C) (b : ℕ) → Steps code Of tx c b d → code.visits_left d < code.visits_left c
  -- what it leaves: a slice of a reader gives back the state that it got
  pub readers_leave : (tx : Tx) (c : C) (s : State) → code.only_reads tx ≡ true → Of tx c → (code.slice c s).state ≡ s
  -- what it means
  pub only_named_by_tid : (t u : ℕ) (tx : Tx) (world : List State) → finish (code.start t tx) world ≡ finish (code.start u tx) world
  pub slices_keep_the_meaning : (tx : Tx) (c : C) (world : List State) → Of tx c → code.at c < length world →
      finish c world ≡ rest_of finish (code.slice c (state_in world (code.at c))).next (slice_set world (code.at c) (code.slice c (state_in world (code.at c))).state)
