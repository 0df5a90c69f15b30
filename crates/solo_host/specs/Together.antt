-- Only private contracts cite this; the rule is Drives.antt.
-- What the outside got so far; and replies that follow one another, whose lines are printed together.
use Rattle.std.specs.Prelude.{◌≡◌, ℕ, ◌≤◌, Bool, true, false, ⊤, List, [], ◌∷◌, ◌++◌, length}
use Rattle.std.specs.List.{AllByRecursion}
use Rattle.std.specs.Io.KnownBytes.{Appends}
use Rattle.aml_slice.specs.Controls.{Rest}
use Rattle.protocol.specs.Conditions.{IsAllowed}
use Rattle.protocol.specs.Effects.{after}
use Rattle.protocol.specs.Events.{Event, Reply}
use Rattle.protocol.specs.Fixed.{Fixed}
use Rattle.protocol.specs.Parts.{Machine}
use Rattle.protocol.specs.Runs.{reached}
use Rattle.protocol_schedule.specs.Draw.{IsFrontOfSeed}
use Rattle.run_effects.specs.Driven.{AreDriven}
use Rattle.run_effects.specs.Groups.{groups_of}
use Rattle.run_effects.specs.Lines.{line_in, replies_text}
use Rattle.run_effects.specs.declared.stops.Stop.{Stop}
use Rattle.snap_core.specs.ready_renewal.Covering.{IsFirst}
use Rattle.solo_host.specs.Drives.{failed_by, IsWhy, IsPrinted}
use Rattle.solo_host.specs.Outside.{Outside, Got, no_fault, IsPicked}
use Rattle.solo_host.specs.declared.together.Line.{Line}

-- ---- so far

-- the events so far are a front of the schedule, and the outside got their groups and lines
pub record IsDriving (w : Fixed Rest) (seed : ℕ) (es : List Event) (start now : Outside) : Type 0 where
  pub front : IsFrontOfSeed w seed es
  pub logs : Got start.logs now.logs (λ l. groups_of w l es) no_fault
  pub printed : Appends start.taken now.taken (replies_text w es)
  pub later : start.faults ≤ now.faults

-- what drive promises
pub record IsOver (w : Fixed Rest) (seed : ℕ) (es : List Event) (end : Stop) (start new : Outside) : Type 0 where
  pub front : IsFrontOfSeed w seed es
  pub why : IsWhy w seed es start.logs new.logs start.faults new.faults end
  pub logs : AreDriven w es (failed_by end) start.logs new.logs
  pub printed : IsPrinted w seed es start.taken new.taken end
  pub later : start.faults ≤ new.faults

-- the output got these bytes too
pub record IsAheadBy (w : Fixed Rest) (seed : ℕ) (es : List Event) (more : List ℕ) (start now : Outside) : Type 0 where
  pub front : IsFrontOfSeed w seed es
  pub logs : Got start.logs now.logs (λ l. groups_of w l es) no_fault
  pub printed : Appends start.taken now.taken (replies_text w es ++ more)
  pub later : start.faults ≤ now.faults

-- they are a front of the line of the next event, which is a reply
pub record IsCut (w : Fixed Rest) (seed : ℕ) (es : List Event) (start now : Outside) : Type 0 where
  pub tx : ℕ
  pub front : List ℕ
  pub rest : List ℕ
  pub picked : IsPicked w seed es (Reply tx)
  pub line : line_in (reached w es) tx ≡ front ++ rest
  pub ahead : IsAheadBy w seed es front start now

-- ---- replies whose lines are made

-- the reply is allowed, and its line is so long
pub record IsMade (w : Fixed Rest) (s : Machine Rest) (x : Line) : Type 0 where
  pub allowed : IsAllowed w (Reply x.tx.0) s
  pub long : x.length ≡ length (line_in s x.tx.0)

-- their lines
abbrev pub lines_in : Machine Rest → List Line → List ℕ
lines_in s [] = []
lines_in s (x ∷ xs) = line_in s x.tx.0 ++ lines_in s xs

-- the events begin with them
abbrev pub StartsWith : List Line → List Event → Type 0
StartsWith [] es = ⊤
StartsWith (x ∷ xs) [] = ⊥
StartsWith (x ∷ xs) (e ∷ es) = (e ≡ Reply x.tx.0) × StartsWith xs es

pub record AreLeading (w : Fixed Rest) (s : Machine Rest) (events : List Event) (xs : List Line) (bytes : List ℕ) : Type 0 where
  pub first : StartsWith xs events
  pub made : AllByRecursion (IsMade w s) xs
  pub text : bytes ≡ lines_in s xs

-- each is the first of what is allowed behind those before it
abbrev pub AreNext : Fixed Rest → Machine Rest → List Line → Type 0
AreNext w s [] = ⊤
AreNext w s (x ∷ xs) = IsMade w s x × IsFirst w s (Reply x.tx.0) × AreNext w (after w (Reply x.tx.0) s) xs

-- all were taken, or the line of the next one is cut
abbrev pub HasTakenThese : Fixed Rest → ℕ → List Event → Outside → Outside → Bool → Type 0
HasTakenThese w seed es start now true = IsDriving w seed es start now
HasTakenThese w seed es start now false = IsCut w seed es start now
