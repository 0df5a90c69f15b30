-- What is put in, with none asked, and nothing taken out but the event itself, leaves no allowed event out.
use Rattle.std.proofs.Common.{◌≡◌, ◌↔◌, ◌==◌, Bool, true, false, Contains, ◌⊎◌, List, refl, sym, subst, inl, inr, ◌∙◌}
use Rattle.std.proofs.lemmas.Bool.{eqb-true, eq-eqb, true≢false}
use Rattle.aml_slice.specs.Controls.{Rest}
use Rattle.protocol.specs.Conditions.{AllTrue, IsAllowed, refusal}
use Rattle.protocol.specs.Effects.{after}
use Rattle.protocol.specs.Events.{Event}
use Rattle.protocol.specs.Fixed.{Fixed}
use Rattle.protocol.specs.Laws.{AfterEveryRun}
use Rattle.protocol.specs.Parts.{Machine}
use Rattle.protocol.specs.Schedule.{AscendByRank}
use Rattle.protocol_ready.specs.Ready.{without}
use Rattle.protocol_ready.specs.Refusing.{RefusesItself}
use Rattle.protocol_ready.specs.Telling.{PartsTell}
use Rattle.protocol_ready.specs.Touched.{IsSound, LeavesUntouched, is_touched}
use Rattle.ready_renewal.specs.Asked.{IsWithAll}
use Rattle.ready_renewal.specs.Covering.{Covers}
use Rattle.ready_renewal.proofs.KeptEvents.{new_is}
use Rattle.snap_hand.specs.Hands.{Parts}
use Rattle.ready_news.specs.New.{IsBehind, IsForeseen, is_new}

-- what is known of every run and of every list that the parts told
abbrev Ruled : Type 0
Ruled = (w : Fixed Rest) (e : Event) (s : Machine Rest) → (refusal w e s ≡ 0) ↔ IsAllowed w e s

abbrev Tell : Type 0
Tell = (asked : Event → Bool) (w : Fixed Rest) (s : Machine Rest) (es : List Event) → PartsTell asked w s es → (f : Event) → asked f ≡ true → IsAllowed w f s → Contains es f

-- what was there stays, if it is allowed, but for the event itself, which is not allowed right behind itself; and what was told of comes in
module _ (w : Fixed Rest) (h : Parts) (e : Event) (ahead news old new : List Event) (ruled : Ruled) (tells : Tell) (leaves : (w : Fixed Rest) (s : Machine Rest) → LeavesUntouched w s)
    (stay : AfterEveryRun (IsSound {C = Rest})) (told : (s : Machine Rest) → IsBehind w e s h → IsForeseen w e s ahead → PartsTell (is_new w e s) w (after w e s) news) where
  pub advanced : AfterEveryRun (RefusesItself {C = Rest})
      → ((e : Event) (es : List Event) (f : Event) → Contains es f → Contains (without e es) f ⊎ (f ≡ e))
      → ((e : Event) (es : List Event) → AscendByRank es → AscendByRank (without e es))
      → IsWithAll news (without e old) new → (s : Machine Rest) → IsBehind w e s h → IsForeseen w e s ahead → Covers w s old → Covers w (after w e s) new
  advanced once kept order more s is foreseen before = record {
    all = λ f now. holds f now (refusal w f s == 0) refl (is_touched w e s f) refl;
    ascends = more.ascends (order e old before.ascends);
  }
    where
      sound : IsSound w s
      sound = subst (IsSound w) (sym is.run.is_reached) (stay w is.run.events is.run.text is.run.run)

      own : RefusesItself w s
      own = subst (RefusesItself w) (sym is.run.is_reached) (once w is.run.events is.run.text is.run.run)

      was : (f : Event) → IsAllowed w f (after w e s) → IsAllowed w f s → Contains new f
      was f now ok = elim (kept e old f (before.all f ok)) [
        | inl a ↦ more.kept f a
        | inr q ↦ absurd (own e is.allowed (subst (λ g. IsAllowed w g (after w e s)) q now))
      ]

      holds : (f : Event) → IsAllowed w f (after w e s) → (b : Bool) → (refusal w f s == 0) ≡ b → (t : Bool) → is_touched w e s f ≡ t → Contains new f
      holds f now true q t touched = was f now ((ruled w f s).0 (eqb-true (refusal w f s) 0 q))
      holds f now false q false touched = was f now (subst AllTrue (leaves w s e f sound is.allowed touched) now)
      holds f now false q true touched =
          let first = new_is w e s f (ruled w f) touched (λ ok. true≢false (sym (eq-eqb (refusal w f s) 0 ((ruled w f s).1 ok)) ∙ q)) now in
          more.all f (tells (is_new w e s) w (after w e s) news (told s is foreseen) f first now)
