-- A run and one event more.
use Rattle.std.proofs.Common.{◌≡◌, refl, List, [], ◌∷◌, ◌++◌, sym, subst, ap, ◌∙◌}
use Rattle.protocol.specs.Fixed.{Fixed}
use Rattle.protocol.specs.Parts.{Machine}
use Rattle.protocol.specs.Events.{Event}
use Rattle.protocol.specs.Conditions.{IsAllowed}
use Rattle.protocol.specs.Effects.{after}
use Rattle.protocol.specs.Runs.{EachAllowed, state_after, opening}
use Rattle.core_rows.specs.OnRuns.{HasRun}

one_more : {C : Type 0} (w : Fixed C) (es : List Event) (e : Event) (s : Machine C) → EachAllowed w es s → IsAllowed w e (state_after w es s) → EachAllowed w (es ++ e ∷ []) s
one_more w [] e s run ok = (ok, tt)
one_more w (d ∷ es) e s run ok = (run.0, one_more w es e (after w d s) run.1 ok)

then : {C : Type 0} (w : Fixed C) (es : List Event) (e : Event) (s : Machine C) → state_after w (es ++ e ∷ []) s ≡ after w e (state_after w es s)
then w [] e s = refl
then w (d ∷ es) e s = then w es e (after w d s)

pub goes_on : {C : Type 0} (w : Fixed C) (e : Event) (s : Machine C) → HasRun w s → IsAllowed w e s → HasRun w (after w e s)
goes_on {C} w e s r ok = record {
  finish = r.finish;
  facts = r.facts;
  text = r.text;
  events = r.events ++ e ∷ [];
  run = one_more w r.events e (opening w) r.run (subst (IsAllowed w e) r.is_reached ok);
  is_reached = ap (after w e) r.is_reached ∙ sym (then w r.events e (opening w));
}
