-- Before and after numbers, floors and places, as a law over every run.
use Rattle.std.specs.Prelude.{◌≡◌, refl, ℕ, zero, suc, List, [], ◌∷◌, length}
use Rattle.std.proofs.Common.{arith}
use Rattle.snap_base.specs.declared.transactions.Tx.{Tx}
use Rattle.protocol.specs.Rests.{IsRest, IsTxIn}
use Rattle.protocol.specs.Laws.{AfterEveryRunWithHistory}
use Rattle.protocol.specs.Events.{Event}
use Rattle.protocol.specs.Runs.{IsRun, reached}
use Rattle.protocol.specs.History.{history}
use Rattle.protocol_theorems.specs.Sets.{NumbersStand}
use Rattle.protocol_laws.proofs.machine.Good.{Given}
use Rattle.protocol_laws.proofs.machine.AllGood.{none_allowed}
use Rattle.protocol_laws.proofs.machine.Higher.{places_rise, places_differ}
use Rattle.protocol_theorems.proofs.sets.BeforeStand.{before_stand, before_closed, m_is_greatest}
use Rattle.protocol_theorems.proofs.sets.AfterStand.{n_is_least, m_below_n}
use Rattle.protocol_theorems.proofs.sets.FloorsKept.{floor_is}
use Rattle.protocol_theorems.proofs.sets.NumbersBelow.{placed_below_n}
use Rattle.protocol_theorems.proofs.sets.PairsAhead.{placed_behind_none}

pub numbers_stand : {C : Type 0} → AfterEveryRunWithHistory (NumbersStand {C = C})
numbers_stand {C} w finish es f t run = by es run (length w.text.opening.states) refl
  where
    Of : Tx → C → Type 0
    Of = IsRest w.code (IsTxIn w.text)

    by : (es : List Event) → IsRun w es → (n : ℕ) → length w.text.opening.states ≡ n → NumbersStand w finish (reached w es) (history w es)
    by es run (suc n) l =
        let v : Given w Of finish = record { text = t; actors = omega (arith, l); facts = f } in
        record {
          before_is_greatest = m_is_greatest w Of finish es v run;
          before_is_closed = before_closed w Of finish es v run;
          after_is_least = n_is_least w Of finish es v run;
          before_below_after = m_below_n w Of finish es v run;
          placed_below = placed_below_n w Of finish es v run;
          placed_behind_none = placed_behind_none w Of finish es v run;
          floors_are = floor_is w (reached w es) (history w es) (before_stand w Of finish es v run).floors;
          places_rise = places_rise w Of finish es v run;
          places_differ = places_differ w Of finish es v run;
        }
    by [] run zero l = record {
      before_is_greatest = λ u x e d. absurd (cc e);
      before_is_closed = tt;
      after_is_least = λ u x e d. absurd (cc e);
      before_below_after = λ u k x e d n. absurd (cc e);
      placed_below = λ u x e p. absurd (cc e);
      placed_behind_none = tt;
      floors_are = λ a r k. absurd (omega (arith, k, l));
      places_rise = λ a. tt;
      places_differ = tt;
    }
    by (e ∷ es) run zero l = absurd (none_allowed w e t l run.0)
