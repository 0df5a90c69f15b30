-- What events tell of places, over every run.
use Rattle.std.specs.Prelude.{◌≡◌, refl, ℕ, zero, suc, List, [], ◌∷◌, length}
use Rattle.std.proofs.Common.{arith}
use Rattle.snap_base.specs.declared.transactions.State.{State}
use Rattle.snap_base.specs.declared.transactions.Tx.{Tx}
use Rattle.protocol.specs.Events.{Event}
use Rattle.protocol.specs.Facts.{Alone}
use Rattle.protocol.specs.Fixed.{Fixed, IsText}
use Rattle.protocol.specs.History.{history}
use Rattle.protocol.specs.Rests.{HasFacts, IsRest, IsTxIn}
use Rattle.protocol.specs.Runs.{IsRun, reached}
use Rattle.protocol_laws.specs.Told.{CommittedTold}
use Rattle.protocol_laws.proofs.machine.AllGood.{all_good, none_allowed}
use Rattle.protocol_laws.proofs.machine.Good.{Given}
use Rattle.protocol_theorems.specs.OnActors.{AllLieInOrder}
use Rattle.protocol_theorems.specs.Sets.{NumbersStand}
use Rattle.protocol_theorems.specs.Sizes.{AllFindRoom}
use Rattle.protocol_theorems.proofs.order.LastLaw.{whole}
use Rattle.protocol_theorems.proofs.sets.AfterStand.{after_stand}
use Rattle.protocol_theorems.proofs.sets.BeforeStand.{before_stand}
use Rattle.audit_words.specs.Beside.{TellsPlaced}
use Rattle.audit_words.specs.Happenings.{seen}
use Rattle.audit_laws.specs.RunsTold.{RunsAreSeen}
use Rattle.audit_laws.proofs.NamesSeen.{Frames}
use Rattle.audit_laws.proofs.Simulated.{SimFacts}
use Rattle.audit_laws.proofs.Simulation.{places_seen}

-- what the laws of the machine say of each run
pub record Laws {C : Type 0} (w : Fixed C) (finish : C → List State → Alone) : Type 0 where
  pub lies : (es : List Event) → IsRun w es → AllLieInOrder w finish (reached w es) (history w es)
  pub stand : (es : List Event) → IsRun w es → NumbersStand w finish (reached w es) (history w es)
  pub room : (es : List Event) → IsRun w es → AllFindRoom w (reached w es)
  pub told : (es : List Event) → IsRun w es → CommittedTold (reached w es) (history w es)

pub facts_of : {C : Type 0} (w : Fixed C) (Of : Tx → C → Type 0) (finish : C → List State → Alone) (es : List Event) → Given w Of finish → Laws w finish → IsRun w es → SimFacts w Of finish (reached w es) (history w es)
facts_of w Of finish es v l run =
    let z = whole w Of finish es v run in
    record {
      given = v;
      good = all_good w Of finish es v run;
      before = before_stand w Of finish es v run;
      after = after_stand w Of finish es v run;
      once = z.once;
      lies = l.lies es run;
      stand = l.stand es run;
      cells = z.ordered.results.cells;
      room = l.room es run;
      from = (l.told es run).pacts_from;
    }

pub all_places_seen : {C : Type 0} (w : Fixed C) (finish : C → List State → Alone) (es : List Event) → Frames C → HasFacts w finish → IsText w.text → Laws w finish → IsRun w es → RunsAreSeen w es → TellsPlaced w.text (history w es) (seen w.code.only_reads w.text es)
all_places_seen {C} w finish es fr f text l run ran = by es run ran (length w.text.opening.states) refl
  where
    by : (es : List Event) → IsRun w es → RunsAreSeen w es → (n : ℕ) → length w.text.opening.states ≡ n → TellsPlaced w.text (history w es) (seen w.code.only_reads w.text es)
    by es run ran (suc n) e =
        let v : Given w (IsRest w.code (IsTxIn w.text)) finish = record { text = text; actors = omega (arith, e); facts = f } in
        places_seen w fr (IsRest w.code (IsTxIn w.text)) finish es (λ fs r. facts_of w (IsRest w.code (IsTxIn w.text)) finish fs v l r) run ran
    by [] run ran zero e = record { placed = λ a k. refl; beyond = λ a k. refl; members = tt }
    by (d ∷ es) run ran zero e = absurd (none_allowed w d text e run.0)
