-- The shapes of laws over every run of a work.
use Rattle.std.specs.Prelude.{◌≡◌, ℕ, Bool, List}
use Rattle.aml_slice.specs.Controls.{Rest}
use Rattle.aml_slice.specs.aml_tree.Tree.{CheckedMethod}
use Rattle.run_opening.specs.log_opening.Devices.{Device}
use Rattle.machine_laws.specs.Programs.{finish_of}
use Rattle.protocol.specs.Events as machine
use Rattle.protocol.specs.Facts.{Alone}
use Rattle.protocol.specs.Fixed.{Fixed}
use Rattle.protocol.specs.History.{History, history}
use Rattle.protocol.specs.Parts.{Machine}
use Rattle.protocol.specs.Runs.{reached}
use Rattle.run_recovery.specs.Runs.{HasRunWork, machine_of, text_of}
use Rattle.run_recovery.specs.Schedules.{Schedule}
use Rattle.snap_base.specs.declared.transactions.State.{State}
use Rattle.snap_recover.specs.declared.openings.Opening.{Opening}
use Rattle.snap_work.specs.Kept.{KeepsLimits}
use Rattle.snap_work.specs.Works.{Work}

-- Of every run of a work of this program, within its limits, P holds: of the machine, of what becomes of a control where nobody else
-- changes the world, and of the events.
abbrev pub OfEachRun : List CheckedMethod → (Fixed Rest → (Rest → List State → Alone) → List machine.Event → Type 0) → Type 0
OfEachRun p P =
    (w : Work) (schedule : Schedule) (o : Opening) (es : List machine.Event) (failed : ℕ → Bool) (before after : List Device) → w.program ≡ p → KeepsLimits w
    → HasRunWork w schedule o es failed before after → P (machine_of w o) (finish_of p (text_of w o)) es

-- Of every run of a work of this program, within its limits, P holds: of the machine, of what becomes of a control alone, and of the
-- state that the run reached and its history.
abbrev pub AfterEachRun : List CheckedMethod → (Fixed Rest → (Rest → List State → Alone) → Machine Rest → History → Type 0) → Type 0
AfterEachRun p P = OfEachRun p (λ w finish es. P w finish (reached w es) (history w es))
