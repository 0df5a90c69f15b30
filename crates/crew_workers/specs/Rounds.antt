-- What a try records.
use Rattle.std.specs.Prelude.{◌≡◌, ℕ, List}
use Rattle.core_events.specs.declared.events.Event as code
use Rattle.crew_grip.specs.Acted.{IsRecorded}
use Rattle.crew_workers.specs.declared.rounds.Round.{Round}
use Rattle.crew_workers.specs.declared.rounds.Round.TheVariants as round
use Rattle.crew_parts.specs.declared.acts.Act.{Act}

-- one act of this event more, where something was done
abbrev pub HasTried : code.Event → List (ℕ × Act) → List (ℕ × Act) → Round → Type 0
HasTried e old new (round.Looked acted) = IsRecorded e old new acted
HasTried e old new round.Lacking = new ≡ old
HasTried e old new round.OnBoard = new ≡ old
HasTried e old new round.Memory = new ≡ old
