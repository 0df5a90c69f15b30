use Rattle.std.specs.Prelude.{List, [], ◌∷◌, ◌++◌}
use Rattle.snap_base.specs.declared.transactions.State.{State}
use Rattle.protocol.specs.Events.{Event}
use Rattle.protocol.specs.Facts.{Alone}
use Rattle.protocol.specs.Fixed.{Fixed, IsText}
use Rattle.protocol.specs.Laws.{OfEveryRun}
use Rattle.protocol.specs.Rests.{HasFacts}
use Rattle.protocol.specs.Runs.{IsRun, opening}
use Rattle.protocol_verdicts.specs.Evidence.{VerdictsStand}
use Rattle.run_effects.specs.Replies.{AnswersGrow}
use Rattle.run_effects.proofs.RepliesGrown.{answers_grow, counts_grow}
use Rattle.run_effects.proofs.RunsLonger.{allowed_longer}
use Rattle.run_effects.proofs.replies.answers_grow.Goals as goal

grow : {C : Type 0} → OfEveryRun (VerdictsStand {C = C}) → (w : Fixed C) (finish : C → List State → Alone) (es : List Event) → HasFacts w finish → IsText w.text → IsRun w es → AnswersGrow w es
grow stand w finish es f text run e ok = answers_grow w es e run (stand w finish es f text run).stay (stand w finish (es ++ e ∷ []) f text (allowed_longer w es e (opening w) run ok)).stay

pub returns-clause-grow : goal.returns-clause-grow
returns-clause-grow g c = grow c.verdicts_have_evidence.ensures

pub returns-clause-counts : goal.returns-clause-counts
returns-clause-counts g c w finish es f text run e ok = counts_grow w es e (grow c.verdicts_have_evidence.ensures w finish es f text run e ok)
