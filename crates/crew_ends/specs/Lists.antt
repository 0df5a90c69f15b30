-- Only private contracts cite this; the rule is Ends.antt.
-- Shares that are made of parts one by one, from the last one on, and taken apart so.
use Rattle.std.specs.Prelude.{◌≡◌, ℕ, ◌<◌, Option, Some, IsSome, List, [], ◌∷◌, ◌++◌, map, reverse, slice_get}
use Rattle.crew_parts.specs.Shares.{BesideState, OutputState, ShareState}
use Rattle.gate_log.specs.State.{LogState}
use Rattle.protocol.specs.Events.{desk, log}
use Rattle.snap_hand.specs.Shown.{Shown, shown}
use Rattle.snap_hand.specs.declared.parts.Part.{Part}

abbrev pub parts_of : List ShareState → List Shown
parts_of xs = map (λ x. x.part) xs

abbrev pub besides_of : List ShareState → List BesideState
besides_of xs = map (λ x. x.beside) xs

abbrev pub journals_of : List BesideState → List (Option LogState)
journals_of bs = map (λ b. b.journal) bs

-- the parts that are no shares yet, and behind them those of the shares, of which the last stands first
abbrev pub laid : List Part → List ShareState → List Shown
laid ps xs = map shown ps ++ parts_of (reverse xs)

-- the parts of the shares that are left, and behind them those that were taken, of which the last stands first
abbrev pub taken : List ShareState → List Part → List Shown
taken xs ps = parts_of xs ++ map shown (reverse ps)

-- the journals beside what is left, and behind them those that were taken, of which the last stands first
abbrev pub gathered : List BesideState → List LogState → List (Option LogState)
gathered bs js = journals_of bs ++ map Some (reverse js)

-- There is a journal beside each of so many logs.
abbrev pub HaveJournals : ℕ → List BesideState → Type 0
HaveJournals n bs = (l : ℕ) (b : BesideState) → l < n → slice_get bs (log l) ≡ Some b → IsSome b.journal

-- There is an output beside the desk.
abbrev pub HaveOutput : List BesideState → Type 0
HaveOutput bs = (b : BesideState) → slice_get bs desk ≡ Some b → IsSome b.output

-- The last has this journal beside it.
pub record EndsWithJournal (journal : LogState) (bs : List BesideState) : Type 0 where
  pub front : List BesideState
  pub last : BesideState
  pub is : bs ≡ front ++ last ∷ []
  pub there : last.journal ≡ Some journal

-- The last has this output beside it.
pub record EndsWithOutput (out : OutputState) (bs : List BesideState) : Type 0 where
  pub front : List BesideState
  pub last : BesideState
  pub is : bs ≡ front ++ last ∷ []
  pub there : last.output ≡ Some out
