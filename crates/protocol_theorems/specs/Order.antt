-- The order of committed transactions: what every run owes of it.
use Rattle.std.specs.Prelude.{◌≡◌, ℕ, ℤ, ◌<◌, true, ◌&&◌, Option, Some, None, List, [], ◌∷◌, ◌++◌, length, map, ⊤}
use Rattle.std.specs.List.{AllByRecursion}
use Rattle.snap_base.specs.declared.transactions.State.{State}
use Rattle.snap_base.specs.declared.transactions.TxResult.TheVariants.{Value, Fail}
use Rattle.snap_base.specs.declared.verdicts.Place.{Place}
use Rattle.snap_base.specs.declared.verdicts.Verdict.TheVariants as verdicts
use Rattle.protocol.specs.Fixed.{Fixed, is_reader}
use Rattle.protocol.specs.Facts.{Alone, state_in}
use Rattle.protocol.specs.Parts.{Machine}
use Rattle.protocol.specs.Words.{is_act_who}
use Rattle.protocol.specs.Verdicts.{verdict, ended_at}
use Rattle.protocol.specs.Effects.{cell_at}
use Rattle.protocol.specs.Runs.{IsQuiet}
use Rattle.protocol.specs.History.{View, Done, History}
use Rattle.protocol.specs.Chains.{chain, by_place, PlacesRise, RivalsRise, IsSerial, serial_run}
use Rattle.protocol_laws.specs.Commits.{StatesLink, last_state}
use Rattle.protocol_laws.specs.Linked.{IsExplained, PlacesDiffer, visitors}
use Rattle.protocol_laws.specs.Told.{IsAmongDone}

-- ---- readers

-- it left what it found
abbrev pub LeavesIt : Option View → Type 0
LeavesIt None = ⊤
LeavesIt (Some v) = v.left ≡ v.found

-- it is a reader exactly where it is an ACT whose method only reads
abbrev pub IsReader : {C : Type 0} → Fixed C → Done → Type 0
IsReader w d = d.reader ≡ (is_act_who d.who && is_reader w d.tx)

-- The first list is the second one, in which readers may stand further ahead, past readers alone.
pub data Shuffled : List Done → List Done → Type 0 where
  Nobody : (cs us : List Done) → cs ≡ [] → us ≡ [] → Shuffled cs us
  Put : (cs us front back rest : List Done) (d : Done) → cs ≡ front ++ d ∷ back → us ≡ rest ++ d ∷ [] → AllByRecursion (λ x. (x.reader && d.reader) ≡ true) back → Shuffled (front ++ back) rest → Shuffled cs us

-- ---- the last law

pub record OrderStands {C : Type 0} (w : Fixed C) (finish : C → List State → Alone) (s : Machine C) (h : History) : Type 0 where
  -- run one after the other in the order of places, the committed transactions give the results that they had
  pub serial : IsSerial w finish h.committed
  -- each does alone, on any world with the states that it found, what it did: its result, and what it left on each actor
  pub explained : AllByRecursion (IsExplained w finish) h.committed
  -- a reader is an ACT whose method only reads, and left on each actor what it found
  pub readers_are : AllByRecursion (IsReader w) h.committed
  pub readers_leave : (a : ℕ) → AllByRecursion (λ d. d.reader ≡ true → LeavesIt (d.views a)) h.committed
  -- no two places are equal
  pub rise : PlacesRise (by_place h.committed)
  -- on each actor places rise in the order in which they were placed there, but for two readers, and states link
  pub chains_rise : (a : ℕ) → a < length w.text.opening.states → RivalsRise (chain a h)
  pub chains_link : (a : ℕ) → a < length w.text.opening.states → StatesLink a (state_in w.text.opening.states a) (chain a h)
  -- who is told that it committed, or failed by its own code, at a place, is one of them
  pub told_value : (n : ℕ) (p : Place) (v : ℤ) → verdict n s.book s.desk ≡ Some (verdicts.Committed p v) → IsAmongDone n p (Value v) h.committed
  pub told_code : (n : ℕ) (p : Place) (c : ℕ) → verdict n s.book s.desk ≡ Some (verdicts.Code p c) → IsAmongDone n p (Fail c) h.committed

pub record OrderHolds {C : Type 0} (w : Fixed C) (finish : C → List State → Alone) (s : Machine C) (h : History) : Type 0 where
  pub stands : OrderStands w finish s h
  -- in a quiet state each of them is told so, and the actors have the states that the serial run leaves
  pub all_told : IsQuiet w s → AllByRecursion (λ d. verdict d.tx s.book s.desk ≡ ended_at d.place d.result) h.committed
  pub last_states : IsQuiet w s → map (λ c. c.state) s.cells ≡ (serial_run w finish h.committed).world

-- ---- what implies it

-- Facts on the history, all of them at one actor each or at one transaction.
pub record OrderFacts {C : Type 0} (w : Fixed C) (finish : C → List State → Alone) (s : Machine C) (h : History) : Type 0 where
  -- what each found explains its result
  pub explained : AllByRecursion (IsExplained w finish) h.committed
  -- in the order of commits states link on each actor, and places rise, but for two readers
  pub linked : (a : ℕ) → a < length w.text.opening.states → StatesLink a (state_in w.text.opening.states a) h.committed
  pub rise : (a : ℕ) → a < length w.text.opening.states → RivalsRise (visitors a h.committed)
  -- who is a reader, and that a reader leaves what it finds
  pub readers : AllByRecursion (IsReader w) h.committed
  pub still : (a : ℕ) → AllByRecursion (λ d. d.reader ≡ true → LeavesIt (d.views a)) h.committed
  pub differ : PlacesDiffer h.committed
  -- the order of placing is the order of commits, but that a reader may stand ahead of readers that committed before it
  pub chains : (a : ℕ) → a < length w.text.opening.states → Shuffled (chain a h) (visitors a h.committed)
  -- verdicts are of them
  pub told_value : (n : ℕ) (p : Place) (v : ℤ) → verdict n s.book s.desk ≡ Some (verdicts.Committed p v) → IsAmongDone n p (Value v) h.committed
  pub told_code : (n : ℕ) (p : Place) (c : ℕ) → verdict n s.book s.desk ≡ Some (verdicts.Code p c) → IsAmongDone n p (Fail c) h.committed

-- Facts on quiet states.
pub record QuietFacts {C : Type 0} (w : Fixed C) (s : Machine C) (h : History) : Type 0 where
  pub cells : length s.cells ≡ length w.text.opening.states
  pub all_told : IsQuiet w s → AllByRecursion (λ d. verdict d.tx s.book s.desk ≡ ended_at d.place d.result) h.committed
  -- in a quiet state nothing else left its state
  pub quiet_states : IsQuiet w s → (a : ℕ) → a < length w.text.opening.states → (cell_at s a).state ≡ last_state a (state_in w.text.opening.states a) h.committed
