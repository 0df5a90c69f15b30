-- Whoever has its place in the serial order keeps it, with its before number: the law over every run.
use Rattle.std.specs.Prelude.{◌≡◌, refl, ℕ, zero, suc, ◌==◌, true, List, [], ◌∷◌, length}
use Rattle.std.proofs.Common.{arith, sym, subst}
use Rattle.std.proofs.lemmas.Bool.{and_from, eq-eqb}
use Rattle.protocol.specs.Rests.{IsRest, IsTxIn}
use Rattle.protocol.specs.Laws.{AfterEveryRunWithHistory}
use Rattle.protocol.specs.Events.{Event}
use Rattle.protocol.specs.Words.{holds, is_ordered}
use Rattle.protocol.specs.Runs.{IsRun, reached}
use Rattle.protocol.specs.History.{history}
use Rattle.protocol_laws.specs.OneWay.{PlacesStay}
use Rattle.protocol_laws.proofs.machine.DecidedStays.{is_fixed}
use Rattle.protocol_laws.proofs.machine.AllGood.{all_good, none_allowed, stays_placed}

pub places_stay : {C : Type 0} → AfterEveryRunWithHistory (PlacesStay {C = C})
places_stay {C} w finish es f t run = by es run (length w.text.opening.states) refl
  where
    by : (es : List Event) → IsRun w es → (n : ℕ) → length w.text.opening.states ≡ n → PlacesStay w finish (reached w es) (history w es)
    by es run (suc n) l = λ e ok u x q p. stays_placed w (IsRest w.code (IsTxIn w.text)) finish e (reached w es) (history w es) x.m u ok
        (all_good w (IsRest w.code (IsTxIn w.text)) finish es (record { text = t; actors = omega (arith, l); facts = f }) run)
        (subst (λ o. holds (is_fixed x.m) o ≡ true) (sym q) (and_from (is_ordered x.status) (x.m == x.m) p (eq-eqb x.m x.m refl)))
    by [] run zero l = λ e ok u x q p. absurd (none_allowed w e t l ok)
    by (e ∷ es) run zero l = absurd (none_allowed w e t l run.0)
