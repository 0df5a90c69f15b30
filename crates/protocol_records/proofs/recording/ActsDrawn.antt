-- The numbers of the places of ACTs are of this run.
use Rattle.std.specs.Prelude.{◌≡◌, refl, ℕ, zero, suc, List, [], ◌∷◌, length}
use Rattle.std.proofs.Common.{arith}
use Rattle.snap_base.specs.declared.transactions.State.{State}
use Rattle.snap_base.specs.declared.transactions.Tx.{Tx}
use Rattle.protocol.specs.Facts.{Alone}
use Rattle.protocol.specs.Fixed.{Fixed, IsText}
use Rattle.protocol.specs.Rests.{HasFacts, IsRest, IsTxIn}
use Rattle.protocol.specs.Events.{Event}
use Rattle.protocol.specs.Runs.{IsRun, reached}
use Rattle.protocol_laws.proofs.machine.ActsKept.{Acts}
use Rattle.protocol_laws.proofs.machine.ActsTold.{at_placed}
use Rattle.protocol_laws.proofs.machine.AllGood.{all_good, none_allowed}
use Rattle.protocol_laws.proofs.machine.Good.{Given}
use Rattle.protocol_records.specs.NextNumbers.{ActsDrawn}
use Rattle.protocol_records.proofs.recording.NextNumbersKept.{numbers_hold}

drawn_by : {C : Type 0} (w : Fixed C) (Of : Tx → C → Type 0) (finish : C → List State → Alone) (ds : List Event) → Given w Of finish → IsRun w ds → ActsDrawn w (reached w ds)
unfolding Acts
drawn_by w Of finish ds v run t x e c q =
    let n = numbers_hold w Of finish ds v run in
    let g = all_good w Of finish ds v run in
    let k = n.commits.each t x e c q in
    let l = (g.acts t x e).settles (at_placed c x.status q) in
    record { reached = k.reached; below = k.below; behind = omega (arith, l, n.settled) }

pub acts_drawn : {C : Type 0} (w : Fixed C) (finish : C → List State → Alone) (ds : List Event) → HasFacts w finish → IsText w.text → IsRun w ds → ActsDrawn w (reached w ds)
acts_drawn {C} w finish ds f text run = by (length w.text.opening.states) refl
  where
    none : (es : List Event) → length w.text.opening.states ≡ 0 → IsRun w es → ActsDrawn w (reached w es)
    none [] l r = λ t x e c q. absurd (cc e)
    none (e ∷ es) l r = absurd (none_allowed w e text l r.0)

    by : (n : ℕ) → length w.text.opening.states ≡ n → ActsDrawn w (reached w ds)
    by (suc n) l = drawn_by w (IsRest w.code (IsTxIn w.text)) finish ds (record { text = text; actors = omega (arith, l); facts = f }) run
    by zero l = none ds l run
