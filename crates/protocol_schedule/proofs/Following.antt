-- The schedule that is computed is a run, and a front of the schedule of its seed.
use Rattle.std.specs.Prelude.{◌≡◌, refl, ℕ, zero, suc, ◌+◌, Option, None, Some, List, [], ◌∷◌, ◌++◌, length, slice_get, Contains}
use Rattle.std.proofs.Common.{arith, sym, subst}
use Rattle.protocol.specs.Fixed.{Fixed}
use Rattle.protocol.specs.Parts.{Machine}
use Rattle.protocol.specs.Events.{Event}
use Rattle.protocol.specs.Conditions.{IsAllowed}
use Rattle.protocol.specs.Effects.{after}
use Rattle.protocol.specs.Runs.{opening, state_after, EachAllowed, IsRun, reached}
use Rattle.protocol.specs.Candidates.{allowed_candidates}
use Rattle.protocol.specs.Schedule.{Draw, pick, Follows, IsEnabled}
use Rattle.protocol_schedule.specs.Draw.{picked, goes_by}

-- ---- one event more

one_more : {C : Type 0} (w : Fixed C) (es : List Event) (e : Event) (s : Machine C) → EachAllowed w es s → IsAllowed w e (state_after w es s) → EachAllowed w (es ++ e ∷ []) s
one_more w [] e s run ok = (ok, tt)
one_more w (d ∷ es) e s run ok = (run.0, one_more w es e (after w d s) run.1 ok)

then : {C : Type 0} (w : Fixed C) (es : List Event) (e : Event) (s : Machine C) → state_after w (es ++ e ∷ []) s ≡ after w e (state_after w es s)
then w [] e s = refl
then w (d ∷ es) e s = then w es e (after w d s)

-- what stands at a place of the allowed events is allowed
allowed_at : {C : Type 0} (w : Fixed C) (s : Machine C) (all : List Event) (n : ℕ) (e : Event) → IsEnabled w s all → slice_get all n ≡ Some e → IsAllowed w e s
allowed_at w s all n e h q = (h.all e).0 (at all n q)
  where
    at : (all : List Event) (n : ℕ) → slice_get all n ≡ Some e → Contains all e
    at [] n q = absurd (cc q)
    at (d ∷ all) zero q = let p : d ≡ e = cc q in (0, omega arith, p)
    at (d ∷ all) (suc n) q = let c = at all n q in (suc c.0, omega (arith, c.1), c.2)

-- ---- all of them

pub record IsTaken {C : Type 0} (w : Fixed C) (draw : Draw) (step : ℕ) (es : List Event) (s : Machine C) : Type 0 where
  pub allowed : EachAllowed w es s
  pub follows : Follows w draw step es s

pub taken : {C : Type 0} (w : Fixed C) (draw : Draw) → ((es : List Event) → IsRun w es → IsEnabled w (reached w es) (allowed_candidates w (reached w es)))
    → (k step : ℕ) (es : List Event) (s : Machine C) (o : Option Event) → IsRun w es → reached w es ≡ s → picked w draw step s ≡ o → IsTaken w draw step (goes_by k w draw step s o) s
taken w draw h zero step es s o run r q = record { allowed = tt; follows = tt }
taken w draw h (suc k) step es s None run r q = record { allowed = tt; follows = tt }
taken w draw h (suc k) step es s (Some e) run r q =
    let en : IsEnabled w s (allowed_candidates w s) = subst (λ t. IsEnabled w t (allowed_candidates w t)) r (h es run) in
    let ok : IsAllowed w e s = allowed_at w s (allowed_candidates w s) (pick draw step (length (allowed_candidates w s))) e en q in
    let run' : IsRun w (es ++ e ∷ []) = one_more w es e (opening w) run (subst (λ t. IsAllowed w e t) (sym r) ok) in
    let r' : reached w (es ++ e ∷ []) ≡ after w e s = subst (λ t. reached w (es ++ e ∷ []) ≡ after w e t) r (then w es e (opening w)) in
    let rest = taken w draw h k (step + 1) (es ++ e ∷ []) (after w e s) (picked w draw (step + 1) (after w e s)) run' r' refl in
    record { allowed = (ok, rest.allowed); follows = ((allowed_candidates w s, en, q), rest.follows) }
