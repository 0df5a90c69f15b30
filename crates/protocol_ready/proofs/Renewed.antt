-- The allowed events after an event, from those before it.
use Rattle.std.specs.Prelude.{◌≡◌, refl, ◌==◌, Bool, true, false, List, Contains}
use Rattle.std.proofs.Common.{sym, subst, inl, inr, ◌∙◌}
use Rattle.std.proofs.lemmas.Bool.{eqb-true, eq-eqb, true≢false}
use Rattle.protocol.specs.Fixed.{Fixed}
use Rattle.protocol.specs.Parts.{Machine}
use Rattle.protocol.specs.Events.{Event}
use Rattle.protocol.specs.Conditions.{IsAllowed, AllTrue, refusal}
use Rattle.protocol.specs.Effects.{after}
use Rattle.protocol.specs.Schedule.{IsEnabled}
use Rattle.protocol_ready.specs.Touched.{IsSound, is_touched}
use Rattle.protocol_ready.specs.Refusing.{may_refuse, IsRenewed}
use Rattle.protocol_ready.proofs.Cited.{Framed, Ruled}
use Rattle.protocol_ready.proofs.Revised.{apart, same_or_apart}
use Rattle.protocol_ready.proofs.TouchedEvents.{untouched}

pub renewed : {C : Type 0} (w : Fixed C) (e : Event) (s : Machine C) (old new : List Event) → Framed w → Ruled w → IsSound w s → IsAllowed w e s
    → ((f : Event) → may_refuse e f ≡ false → (f ≡ e → ⊥) → IsAllowed w f s → IsAllowed w f (after w e s))
    → IsRenewed w e s old new → IsEnabled w s old → IsEnabled w (after w e s) new
renewed w e s old new framed ruled ok al keeps more en = record {
  all = λ f. (from f, λ now. to f now (refusal w f s == 0) refl (is_touched w e s f) refl);
  ascends = more.ascends en.ascends;
}
  where
    from : (f : Event) → Contains new f → IsAllowed w f (after w e s)
    from f h = elim (more.only f h) [
      | inl a ↦ a
      | inr o ↦ elim (same_or_apart f e) [
        | inl q ↦ elim more.own [ inl a ↦ subst (λ g. IsAllowed w g (after w e s)) (sym q) a | inr n ↦ absurd (n (subst (Contains new) q h)) ]
        | inr d ↦ keeps f o.1 (apart f e d) ((en.all f).0 o.0)
      ]
    ]

    to : (f : Event) → IsAllowed w f (after w e s) → (b : Bool) → (refusal w f s == 0) ≡ b → (t : Bool) → is_touched w e s f ≡ t → Contains new f
    to f now true q t touched = more.kept f ((en.all f).1 ((ruled f s).0 (eqb-true (refusal w f s) 0 q))) now
    to f now false q true touched = more.told f touched (λ before. true≢false (sym (eq-eqb (refusal w f s) 0 ((ruled f s).1 before)) ∙ q)) now
    to f now false q false touched =
        let before = subst AllTrue (untouched w s framed e f ok al touched) now in
        absurd (true≢false (sym (eq-eqb (refusal w f s) 0 ((ruled f s).1 before)) ∙ q))
