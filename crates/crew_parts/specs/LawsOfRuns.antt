-- Only private contracts cite this.
-- What the laws say of the runs of a text, on which the acts of a crew rest.
use Rattle.std.specs.Prelude.{◌≡◌, ℕ, Some, List, ◌++◌}
use Rattle.aml_slice.specs.Controls.{Rest}
use Rattle.snap_hand.specs.core_rows.OnRuns.{HasRun}
use Rattle.protocol.specs.Events.{Event}
use Rattle.protocol.specs.Fixed.{Fixed}
use Rattle.protocol.specs.Footprints.{HasLogs, LeavesOthers}
use Rattle.protocol.specs.Parts.{Machine}
use Rattle.protocol.specs.Runs.{IsRun, reached}
use Rattle.protocol.specs.Verdicts.{verdict}
use Rattle.run_effects.specs.RunsOf.{RunsOf}
use Rattle.snap_base.specs.declared.verdicts.Verdict.{Verdict}

-- what becomes of a transaction stays, from the first events to the others
abbrev pub VerdictsGoOn : Fixed Rest → List Event → List Event → Type 0
VerdictsGoOn w es ds = (n : ℕ) (v : Verdict) → verdict n (reached w es).book (reached w es).desk ≡ Some v → verdict n (reached w ds).book (reached w ds).desk ≡ Some v

-- They lead to states of which the rows may be asked; what they give to logs and to the output grows event by event; an event leaves
-- all parts outside its footprint; and a verdict stays.
pub record LawsOfRuns (w : Fixed Rest) : Type 0 where
  pub lead : (es : List Event) → IsRun w es → HasRun w (reached w es)
  pub runs : RunsOf w
  pub leaves : (e : Event) (s : Machine Rest) → HasLogs w s → LeavesOthers w e s
  pub stay : (es : List Event) → IsRun w es → (front later : List Event) → es ≡ front ++ later → VerdictsGoOn w front es
