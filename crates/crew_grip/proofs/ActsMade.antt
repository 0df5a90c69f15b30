-- An event on what is held: that its parts are ready, that its outer work and its step make one act.
use Rattle.std.proofs.Common.{◌≡◌, ℕ, Bool, true, false, inl, inr, ◌||◌, is_some, List, [], ◌∷◌, length, map, Option, None, Some, ap, sym, subst, refl, ◌∙◌, arith, true≢false}
use Rattle.std.specs.List.{AllByRecursion}
use Rattle.std.proofs.lemmas.Bool.Decides.{eqb_tells}
use Rattle.snap_base.proofs.Options.{is_some_map}
use Rattle.aml_slice.specs.Controls.{Rest}
use Rattle.snap_hand.specs.core_rows.declared.step_no.StepNo.{StepNo}
use Rattle.snap_hand.specs.core_rows.declared.step_no.StepNo.TheVariants.{NotNow, Memory}
use Rattle.crew_parts.specs.Acts.{may_break}
use Rattle.crew_parts.specs.Besides.{IsSoundBeside}
use Rattle.crew_parts.specs.Crews.{Stands}
use Rattle.crew_parts.specs.Shares.{BesideState, ShareState}
use Rattle.protocol.specs.Conditions.{IsAllowed, refusal}
use Rattle.protocol.specs.Events.{Event, footprint}
use Rattle.protocol.specs.Fixed.{Fixed}
use Rattle.protocol.specs.Parts.{Machine}
use Rattle.protocol.specs.Words.{is_among}
use Rattle.snap_hand.specs.Hands.{Parts, Fits, IsHandOf, are_there}
use Rattle.snap_hand.specs.Shown.{places}
use Rattle.snap_hand.specs.Tables.{fixed_of}
use Rattle.snap_hand.specs.declared.tables.Tables.{Tables}
use Rattle.snap_hand.specs.Steps.{IsNoOn, IsRefusalOn, IsTakenOn, MayBeAsked, OnSomeRun, may_want}
use Rattle.turn_table.specs.Places.{at, Covers}
use Rattle.crew_grip.specs.Acted.{AreSound, BesidesGo, HasActed, HasGoneOut, IsReadyAt, IsStepped}
use Rattle.crew_grip.specs.Grips.{GripState, IsGripOf, beside_in}
use Rattle.crew_grip.proofs.HandsHold.{has_all, on_some_run}

-- ---- parts that are ready

pub covers_ready : (logs : ℕ) (w : Fixed Rest) (held : List (Option ShareState)) (g : GripState) (is : List ℕ) → IsGripOf w held g → AllByRecursion (IsReadyAt logs g) is → Covers (at held) is
covers_ready logs w held g [] grip all = tt
covers_ready logs w held g (i ∷ is) grip all =
    (sym (is_some_map (λ x. x.beside) (at held i)) ∙ ap is_some (sym (grip.besides i) ∙ all.0.there), covers_ready logs w held g is grip all.1)

sound_ready : (logs : ℕ) (g : GripState) (is : List ℕ) → AllByRecursion (IsReadyAt logs g) is → (i : ℕ) (b : BesideState) → is_among i is ≡ true → at g.besides i ≡ Some b → IsSoundBeside logs i b
sound_ready logs g [] all i b among there = absurd (true≢false (sym among))
sound_ready logs g (j ∷ js) all i b among there = elim (eqb_tells j i) [
  | inl h ↦ subst (λ k. IsSoundBeside logs k b) h.1 (subst (IsSoundBeside logs j) (same all.0.beside b (sym all.0.there ∙ (ap (at g.besides) h.1 ∙ there))) all.0.sound)
  | inr h ↦ sound_ready logs g js all.1 i b (sym (ap (λ t. t || is_among i js) h.0) ∙ among) there
] where
  same : (x y : BesideState) → Some x ≡ Some y → x ≡ y
  same x y e = cc e

pub are_sound : (logs : ℕ) (w : Fixed Rest) (held : List (Option ShareState)) (g : GripState) (is : List ℕ) → IsGripOf w held g → AllByRecursion (IsReadyAt logs g) is
    → ((i : ℕ) → is_among i is ≡ false → at held i ≡ None) → AreSound logs g
are_sound logs w held g is grip all others i b there = told (is_among i is) refl where
  told : (t : Bool) → is_among i is ≡ t → IsSoundBeside logs i b
  told true q = sound_ready logs g is all i b q there
  told false q = absurd (none_some (sym (grip.besides i ∙ ap beside_in (others i q)) ∙ there)) where
    none_some : None ≡ Some b → ⊥
    none_some f = cc f

-- ---- what the rows ask

pub may_be_asked : (w : Fixed Rest) (e : Event) (start : List ShareState) (held : List (Option ShareState)) (g : GripState) → ((h : Parts) → map is_some (places h) ≡ are_there h)
    → Stands w start held → IsGripOf w held g → Covers (at held) (footprint w.text.logs e) → MayBeAsked w e g.hand
may_be_asked w e start held g told st grip covers = record {
  places = grip.places;
  parts = has_all w held g (footprint w.text.logs e) told grip covers;
  some = on_some_run w start held g st grip;
}

-- ---- a step

-- an allowed event is not taken only for want of memory
pub wanted_memory : (w : Fixed Rest) (e : Event) (h : Parts) (n : StepNo) → IsRefusalOn w e h 0 → OnSomeRun w h → IsNoOn w e h n → may_want e ≡ true
wanted_memory w e h (NotNow rule) allowed some says =
    let a = allowed some.state some.run some.fits in
    let b = says.1 some.state some.run some.fits in
    let c : rule ≡ 0 = sym b ∙ a in
    absurd (omega (arith, c, says.0))
wanted_memory w e h Memory allowed some says = says

pub acted_done : (w : Fixed Rest) (e : Event) (old mid new : GripState) → HasGoneOut w true e old mid → IsStepped w e mid new → HasActed w true e old new
acted_done w e old mid new out step = record {
  allowed = λ s run fits. (step.taken s run (subst (λ h. Fits h s) (sym out.hand) fits)).0;
  fits = λ s run fits. (step.taken s run (subst (λ h. Fits h s) (sym out.hand) fits)).1;
  places = step.places;
  same_parts = step.parts ∙ ap are_there out.hand;
  besides = subst (λ bs. BesidesGo w true e old.hand old.besides bs) (sym step.besides) out.besides;
  many = ap length step.besides ∙ out.many;
  there = λ i. ap (λ bs. is_some (at bs i)) step.besides ∙ out.there i;
  broken = λ none. absurd (true≢false none);
}

pub acted_broken : (w : Fixed Rest) (e : Event) (old new : GripState) → ((s : Machine Rest) → (refusal w e s ≡ 0) → IsAllowed w e s) → IsRefusalOn w e old.hand 0 → IsHandOf w old.hand
    → (may_break e ≡ true) × HasGoneOut w false e old new → HasActed w false e old new
acted_broken w e old new says allowed of out = record {
  allowed = λ s run fits. says s (allowed s run fits);
  fits = λ s run fits. subst (λ h. Fits h s) (sym out.1.hand) fits;
  places = subst (IsHandOf w) (sym out.1.hand) of;
  same_parts = ap are_there out.1.hand;
  besides = out.1.besides;
  many = out.1.many;
  there = out.1.there;
  broken = λ none. out.0;
}

-- ---- in what the code has at hand

pub ready_now : (t u : Tables) (e : Event) (g : GripState) (is : List ℕ) → t ≡ u → is ≡ footprint t.work.logs e → AllByRecursion (IsReadyAt t.work.logs g) is
    → AllByRecursion (IsReadyAt u.work.logs g) (footprint u.work.logs e)
ready_now t u e g is same here all =
    subst (λ v. AllByRecursion (IsReadyAt v.work.logs g) (footprint v.work.logs e)) same (subst (AllByRecursion (IsReadyAt t.work.logs g)) here all)

pub refused_now : (t u : Tables) (e : Event) (h : Parts) (n : ℕ) → t ≡ u → n ≡ 0 → IsRefusalOn (fixed_of t) e h n → IsRefusalOn (fixed_of u) e h 0
refused_now t u e h n same none says = subst (λ v. IsRefusalOn (fixed_of v) e h 0) same (subst (IsRefusalOn (fixed_of t) e h) none says)

-- what the rows ask where the outer work was done, and it left the hand as it was
pub still_asked : (w : Fixed Rest) (e : Event) (old mid : GripState) → HasGoneOut w true e old mid → MayBeAsked w e old.hand → MayBeAsked w e mid.hand
still_asked w e old mid out asked = subst (MayBeAsked w e) (sym out.hand) asked

pub still_allowed : (w : Fixed Rest) (e : Event) (old mid : GripState) → HasGoneOut w true e old mid → IsRefusalOn w e old.hand 0 → IsRefusalOn w e mid.hand 0
still_allowed w e old mid out allowed = subst (λ h. IsRefusalOn w e h 0) (sym out.hand) allowed

-- the hand alone took the event, or nothing did
pub stepped : (t u : Tables) (e : Event) (inside old : GripState) (hand : Parts) → t ≡ u → inside ≡ old → IsTakenOn (fixed_of t) e inside.hand hand → IsHandOf (fixed_of t) hand
    → are_there hand ≡ are_there inside.hand → IsStepped (fixed_of u) e old (record { hand = hand; besides = inside.besides })
stepped t u e inside old hand same view taken places parts =
    subst (λ (v : Tables). IsStepped (fixed_of v) e old (record { hand = hand; besides = inside.besides })) same (record {
      taken = subst (λ (x : GripState). IsTakenOn (fixed_of t) e x.hand hand) view taken;
      places = places;
      parts = parts ∙ ap (λ (x : GripState). are_there x.hand) view;
      besides = ap (λ (x : GripState). x.besides) view;
    })

pub not_stepped : (t u : Tables) (e : Event) (inside old : GripState) (hand : Parts) (n : StepNo) → t ≡ u → inside ≡ old → IsNoOn (fixed_of t) e inside.hand n → hand ≡ inside.hand
    → IsRefusalOn (fixed_of u) e old.hand 0 → OnSomeRun (fixed_of u) old.hand → (record { hand = hand; besides = inside.besides } ≡ old) × (may_want e ≡ true)
not_stepped t u e inside old hand n same view says still allowed some = (
  ap (λ (h : Parts). record { hand = h; besides = inside.besides }) still ∙ view,
  wanted_memory (fixed_of u) e old.hand n allowed some (subst (λ (v : Tables). IsNoOn (fixed_of v) e old.hand n) same (subst (λ (x : GripState). IsNoOn (fixed_of t) e x.hand n) view says)),
)
