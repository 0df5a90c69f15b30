-- A program's texts on the machine, and the shapes of laws over every run of them. No premise on code is left: the code is
-- the program's own.
use Rattle.std.specs.Prelude.{ℕ, List, length}
use Rattle.std.specs.List.{AllByRecursion}
use Rattle.snap_base.specs.declared.transactions.State.{State}
use Rattle.aml_tree.specs.Tree.{CheckedMethod}
use Rattle.aml_check.specs.Transactions.{IsTransaction}
use Rattle.aml_slice.specs.Controls.{Rest}
use Rattle.protocol.specs.Fixed.{Text, Fixed, IsText}
use Rattle.protocol.specs.Facts.{Alone}
use Rattle.protocol.specs.Rests.{HasFacts}
use Rattle.protocol.specs.Parts.{Machine}
use Rattle.protocol.specs.Events.{Event}
use Rattle.protocol.specs.Runs.{IsRun, reached}
use Rattle.protocol.specs.History.{History, history}
use Rattle.protocol.specs.Records.{LogRecord}
use Rattle.protocol.specs.Moments.{Moment, IsLeft, left_in}
use Rattle.machine_laws.specs.MethodCode.{method_code, finish}

-- An accepted text of the program: within the limits, and each of its transactions may be asked of the program, over as many
-- actors as the opening has states.
pub record IsTextOf (p : List CheckedMethod) (w : Text) : Type 0 where
  pub accepted : IsText w
  pub asks : AllByRecursion (IsTransaction p (length w.opening.states)) w.txs

-- the text with the program's methods as its code
abbrev pub with_code : List CheckedMethod → Text → Fixed Rest
with_code p w = record { text = w; code = method_code p (length w.opening.states) }

-- what becomes of a control where nobody else changes the world
abbrev pub finish_of : List CheckedMethod → Text → Rest → List State → Alone
finish_of p w = finish p (length w.opening.states)

-- The code of each of its texts has the facts that the machine uses.
abbrev pub TextsHaveFacts : List CheckedMethod → Type 0
TextsHaveFacts p = (w : Text) → IsTextOf p w → HasFacts (with_code p w) (finish_of p w)

-- ---- the shapes of laws

-- After every run of every text of the program P holds of the state and the history.
abbrev pub AfterEveryRunOf : List CheckedMethod → (Fixed Rest → (Rest → List State → Alone) → Machine Rest → History → Type 0) → Type 0
AfterEveryRunOf p P =
    (w : Text) (es : List Event) → IsTextOf p w → IsRun (with_code p w) es
    → P (with_code p w) (finish_of p w) (reached (with_code p w) es) (history (with_code p w) es)

-- Of every run of every text of the program P holds of its events.
abbrev pub OfEveryRunOf : List CheckedMethod → (Fixed Rest → (Rest → List State → Alone) → List Event → Type 0) → Type 0
OfEveryRunOf p P = (w : Text) (es : List Event) → IsTextOf p w → IsRun (with_code p w) es → P (with_code p w) (finish_of p w) es

-- At every moment of every run of every text of the program, whatever the logs are left with, P holds of the run, of the state
-- and the history at that moment, and of what each log is left with.
abbrev pub AtEveryMomentOf : List CheckedMethod → (Fixed Rest → (Rest → List State → Alone) → List Event → Machine Rest → History → (ℕ → List LogRecord) → Type 0) → Type 0
AtEveryMomentOf p P =
    (w : Text) (es : List Event) (m : Moment (with_code p w) es) (kept : ℕ → ℕ)
    → IsTextOf p w → IsRun (with_code p w) es → IsLeft (with_code p w) es m kept
    → P (with_code p w) (finish_of p w) es (reached (with_code p w) m.events) (history (with_code p w) m.events) (left_in (reached (with_code p w) m.events) kept)
