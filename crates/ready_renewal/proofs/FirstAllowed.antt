-- The front of a list that leaves no allowed event out.
use Rattle.std.proofs.Common.{◌≡◌, ◌↔◌, ◌==◌, Bool, true, if◌then◌else◌, Option, None, Some, Contains, List, [], ◌∷◌, filter, slice_get, refl, sym, ap, subst, ◌∙◌}
use Rattle.std.specs.Option.{option_map}
use Rattle.std.specs.Prelude.{IfSome}
use Rattle.std.proofs.lemmas.Bool.{eqb-true, eq-eqb}
use Rattle.aml_slice.specs.Controls.{Rest}
use Rattle.core_events.specs.Meant.{event_meant}
use Rattle.core_events.specs.declared.events.Event as code
use Rattle.protocol.specs.Conditions.{IsAllowed, refusal}
use Rattle.protocol.specs.Events.{Event}
use Rattle.protocol.specs.Fixed.{Fixed}
use Rattle.protocol.specs.Parts.{Machine}
use Rattle.protocol.specs.Runs.{IsQuiet}
use Rattle.protocol_laws.proofs.first.Ordered.{filtered}
use Rattle.protocol_ready.proofs.Listing.{from_filter, from_has, has_filter, to_has}
use Rattle.ready_renewal.specs.Covering.{Covers, IsFirst}
use Rattle.ready_renewal.proofs.KeptEvents.{none_in}

nothing_left : (es : List Event) → slice_get es 0 ≡ None → es ≡ []
nothing_left [] h = refl
nothing_left (x ∷ es) h = absurd (cc h)

first_kept : (p : Event → Bool) (es : List Event) (e : Event) → slice_get es 0 ≡ Some e → p e ≡ true → slice_get (filter p es) 0 ≡ Some e
first_kept p [] e h q = absurd (cc h)
first_kept p (x ∷ es) e h q =
    let same : x ≡ e = cc h in
    let in_it : p x ≡ true = ap p same ∙ q in
    subst (λ b. slice_get (if b then x ∷ filter p es else filter p es) 0 ≡ Some e) (sym in_it) (ap Some same)

-- the front of a list that leaves no allowed event out, where it is allowed itself
first_if_allowed : (w : Fixed Rest) (e : Event) (es : List Event) → ((w : Fixed Rest) (e : Event) (s : Machine Rest) → (refusal w e s ≡ 0) ↔ IsAllowed w e s)
    → slice_get es 0 ≡ Some e → (s : Machine Rest) → Covers w s es → IsAllowed w e s → IsFirst w s e
first_if_allowed w e es ruled is s c allowed = record {
  all = filter test es;
  enabled = record {
    all = λ f. (
      (λ there. (ruled w f s).0 (eqb-true (refusal w f s) 0 (from_filter test es f (to_has (filter test es) f there)).1)),
      (λ now. from_has (filter test es) f (has_filter test es f (to_has es f (c.all f now)) (eq-eqb (refusal w f s) 0 ((ruled w f s).1 now)))),
    );
    ascends = filtered test es c.ascends;
  };
  first = first_kept test es e is (eq-eqb (refusal w e s) 0 ((ruled w e s).1 allowed));
}
  where
    test : Event → Bool
    test f = refusal w f s == 0

-- of what a list hands out with no event asked
pub front_first : (o : Option code.Event) (es : List Event) → ((w : Fixed Rest) (e : Event) (s : Machine Rest) → (refusal w e s ≡ 0) ↔ IsAllowed w e s) → option_map event_meant o ≡ slice_get es 0
    → IfSome o (λ e. (w : Fixed Rest) (s : Machine Rest) → Covers w s es → IsAllowed w (event_meant e) s → IsFirst w s (event_meant e))
front_first None es ruled is = tt
front_first (Some e) es ruled is = λ w s c allowed. first_if_allowed w (event_meant e) es ruled (sym is) s c allowed

pub no_front : (o : Option code.Event) (es : List Event) → option_map event_meant o ≡ slice_get es 0 → o ≡ None → (w : Fixed Rest) (s : Machine Rest) → Covers w s es → IsQuiet w s
no_front None es is none w s c f ok = none_in f (subst (λ xs. Contains xs f) (nothing_left es (sym is)) (c.all f ok))
no_front (Some e) es is none w s c f ok = absurd (cc none)
