-- The shapes of laws over every run.
use Rattle.std.specs.Prelude.{List}
use Rattle.snap_base.specs.declared.transactions.State.{State}
use Rattle.protocol.specs.Fixed.{Fixed, IsText}
use Rattle.protocol.specs.Facts.{Alone}
use Rattle.protocol.specs.Rests.{HasFacts}
use Rattle.protocol.specs.History.{History, history}
use Rattle.protocol.specs.Parts.{Machine}
use Rattle.protocol.specs.Events.{Event}
use Rattle.protocol.specs.Runs.{IsRun, reached}

-- After every run of every accepted text P holds of the state.
abbrev pub AfterEveryRun : {C : Type 0} → (Fixed C → Machine C → Type 0) → Type 0
AfterEveryRun {C} P = (w : Fixed C) (es : List Event) → IsText w.text → IsRun w es → P w (reached w es)

-- After every run of every accepted text, over code with the facts, P holds of the state and the history.
abbrev pub AfterEveryRunWithHistory : {C : Type 0} → (Fixed C → (C → List State → Alone) → Machine C → History → Type 0) → Type 0
AfterEveryRunWithHistory {C} P =
    (w : Fixed C) (finish : C → List State → Alone) (es : List Event)
    → HasFacts w finish → IsText w.text → IsRun w es → P w finish (reached w es) (history w es)

-- Of every run of every accepted text, over code with the facts, P holds of its events.
abbrev pub OfEveryRun : {C : Type 0} → (Fixed C → (C → List State → Alone) → List Event → Type 0) → Type 0
OfEveryRun {C} P =
    (w : Fixed C) (finish : C → List State → Alone) (es : List Event)
    → HasFacts w finish → IsText w.text → IsRun w es → P w finish es
