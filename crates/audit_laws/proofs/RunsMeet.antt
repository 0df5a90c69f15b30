-- What a run does to the ring is what is read on the ring alone; so its events meet the first clause.
use Rattle.std.specs.Prelude.{◌≡◌, refl, List, [], ◌∷◌}
use Rattle.std.proofs.Common.{subst}
use Rattle.protocol.specs.Fixed.{Fixed}
use Rattle.protocol.specs.Parts.{Machine}
use Rattle.protocol.specs.Events.{Event, Submit, Pass, Form, Admit, Abort}
use Rattle.protocol.specs.Conditions.{AllTrue, IsAllowed, conditions}
use Rattle.protocol.specs.Effects.{after}
use Rattle.protocol.specs.Runs.{EachAllowed, IsRun, opening}
use Rattle.audit_words.specs.Seen.{first_ring}
use Rattle.audit_words.specs.Happenings.{ring_after}
use Rattle.audit_words.specs.Audited.{ring_conditions, EachMeets}

pub ring_is : {C : Type 0} (w : Fixed C) (e : Event) (s : Machine C) → (after w e s).ring ≡ ring_after w.text e s.ring
unfolding after ring_after
ring_is w (Submit n) s = refl
ring_is w (Pass c) s = refl
ring_is w (Form k) s = refl
ring_is w (Admit t) s = refl
ring_is w (Abort k) s = refl
ring_is w e s = refl

meets : {C : Type 0} (w : Fixed C) (e : Event) (s : Machine C) → IsAllowed w e s → AllTrue (ring_conditions w.text e s.ring)
unfolding conditions
meets w (Submit n) s ok = ok
meets w (Pass c) s ok = ok
meets w (Form k) s ok = (ok.0, (ok.1.0, tt))
meets w (Admit t) s ok = (ok.0, (ok.1.0, tt))
meets w e s ok = tt

each_meets : {C : Type 0} (w : Fixed C) (es : List Event) (s : Machine C) → EachAllowed w es s → EachMeets w.text es s.ring
each_meets w [] s run = tt
each_meets w (e ∷ es) s run = (meets w e s run.0, subst (EachMeets w.text es) (ring_is w e s) (each_meets w es (after w e s) run.1))

pub runs_meet : {C : Type 0} (w : Fixed C) (es : List Event) → IsRun w es → EachMeets w.text es (first_ring w.text)
runs_meet w es run = each_meets w es (opening w) run
