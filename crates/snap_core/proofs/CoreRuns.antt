-- A core whose hand takes an event, and the run that it has come from.
use Rattle.std.proofs.Common.{◌≡◌, ℕ, Result, Ok, Err, OnOk, OnErr, IfOk, IfErr, map, drop, List, [], ◌∷◌, ◌++◌, slice_get, refl, sym, ap, subst, ◌∙◌}
use Rattle.aml_slice.specs.Controls.{Rest}
use Rattle.snap_hand.specs.core_rows.OnRuns.{HasRun}
use Rattle.snap_hand.specs.core_rows.declared.step_no.StepNo.{StepNo}
use Rattle.snap_hand.specs.core_rows.declared.step_no.StepNo.TheVariants.{NotNow, Memory}
use Rattle.protocol.specs.Conditions.{IsAllowed}
use Rattle.snap_hand.specs.log_set.Shown.{told_bytes}
use Rattle.protocol.specs.Effects.{after, log_at}
use Rattle.protocol.specs.Events.{Event, footprint}
use Rattle.protocol.specs.Fixed.{Fixed}
use Rattle.protocol.specs.Parts.{Machine}
use Rattle.protocol.specs.Schedule.{IsEnabled}
use Rattle.ready_listing.specs.Offers.{AreOffers}
use Rattle.ready_list.specs.Order.{RoomedList}
use Rattle.protocol.specs.Runs.{EachAllowed, IsRun, state_after, reached, opening}
use Rattle.snap_core.specs.Cores.{CoreState, IsCore, IsAt, state_at, HasTaken, IsRefusalBy, IsNoBy}
use Rattle.snap_hand.proofs.Held.{all_here}
use Rattle.snap_hand.specs.Hands.{Parts, Fits}
use Rattle.snap_hand.specs.Steps.{MayBeAsked, IsRefusalOn, IsStep}
use Rattle.snap_hand.specs.Tables.{fixed_of}
use Rattle.ready_news.specs.New.{IsAheadOf, IsBehind, IsForeseen}
use Rattle.snap_hand.specs.declared.tables.Tables.{Tables}

abbrev pub core_of : Tables → Parts → CoreState
core_of t h = record { tables = t; hand = h }

-- a core may be asked for every event
pub may_be_asked : (t : Tables) (e : Event) (h : Parts) → IsCore t h → MayBeAsked (fixed_of t) e h
may_be_asked t e h c = record { places = c.places; parts = all_here h c.whole (footprint (fixed_of t).text.logs e); some = c.some }

-- ---- a run and one event more

pub one_more : (w : Fixed Rest) (es : List Event) (e : Event) (s : Machine Rest) → EachAllowed w es s → IsAllowed w e (state_after w es s) → EachAllowed w (es ++ e ∷ []) s
one_more w [] e s run ok = (ok, tt)
one_more w (d ∷ es) e s run ok = (run.0, one_more w es e (after w d s) run.1 ok)

pub then : (w : Fixed Rest) (es : List Event) (e : Event) (s : Machine Rest) → state_after w (es ++ e ∷ []) s ≡ after w e (state_after w es s)
then w [] e s = refl
then w (d ∷ es) e s = then w es e (after w d s)

-- ---- a step of the hand is one of the core

module _ (t : Tables) (lead : (es : List Event) → IsRun (fixed_of t) es → HasRun (fixed_of t) (reached (fixed_of t) es)) where
  pub taken_by : (e : Event) (old new : Parts) (r : Result (Unit {0}) StepNo) → IsStep (fixed_of t) e old new r
      → OnOk r (HasTaken e (core_of t old) (core_of t new))
  taken_by e old new (Ok _) step = λ es at.
      let taken = step.0 (reached (fixed_of t) es) (lead es at.run) at.fits in
      (taken.0, record { run = one_more (fixed_of t) es e (opening (fixed_of t)) at.run taken.0; fits = subst (Fits new) (sym (then (fixed_of t) es e (opening (fixed_of t)))) taken.1 })
  taken_by e old new (Err n) step = tt

  pub refused_by : (e : Event) (h : Parts) (rule : ℕ) → IsRefusalOn (fixed_of t) e h rule → IsRefusalBy e (core_of t h) rule
  refused_by e h rule is es at = is (reached (fixed_of t) es) (lead es at.run) at.fits

  pub no_by : (e : Event) (old new : Parts) (r : Result (Unit {0}) StepNo) → IsStep (fixed_of t) e old new r → IfErr r (IsNoBy e (core_of t old))
  no_by e old new (Ok _) step = tt
  no_by e old new (Err (NotNow rule)) step = (step.0.0, refused_by e old rule step.0.1)
  no_by e old new (Err Memory) step = step.0

pub same_by : (t : Tables) (e : Event) (old new : Parts) (r : Result (Unit {0}) StepNo) → IsStep (fixed_of t) e old new r → OnErr r (core_of t new ≡ core_of t old)
same_by t e old new (Ok _) step = tt
same_by t e old new (Err n) step = ap (core_of t) step.1

-- it is still a core
pub still_core : (t : Tables) (e : Event) (old new : Parts) (r : Result (Unit {0}) StepNo)
    → ((w : Fixed Rest) (d : Event) (s : Machine Rest) → HasRun w s → IsAllowed w d s → HasRun w (after w d s))
    → IsStep (fixed_of t) e old new r → IsCore t old → IsCore t new
still_core t e old new (Ok _) on step c =
    let taken = step.0 c.some.state c.some.run c.some.fits in
    record {
      tables = c.tables;
      places = step.1;
      whole = λ i out. c.whole i (ap (λ bs. slice_get bs i) (sym step.2) ∙ out);
      some = record { state = after (fixed_of t) e c.some.state; run = on (fixed_of t) e c.some.state c.some.run taken.0; fits = taken.1 };
    }
still_core t e old new (Err n) on step c = subst (IsCore t) (sym step.1) c

-- ---- what waits for a sync

pub group_at : (core : CoreState) (t : Tables) (h : Parts) → core_of t h ≡ core → (pieces : List (List ℕ)) (l : ℕ)
    → ((s : Machine Rest) → Fits h s → pieces ≡ map told_bytes (drop (log_at s l).synced (log_at s l).records))
    → (es : List Event) → IsAt core es → pieces ≡ map told_bytes (drop (log_at (state_at core es) l).synced (log_at (state_at core es) l).records)
group_at core t h view pieces l told es at = told (state_at core es) (subst (λ z. Fits z.hand (state_at core es)) (sym view) at.fits)

-- ---- with all parts at hand all allowed events are offered

enabled_in : {E : Type 0} (t : Tables) (h : Parts) → IsCore t h → ((es : List Event) → IsRun (fixed_of t) es → HasRun (fixed_of t) (reached (fixed_of t) es))
    → (r : Result RoomedList E) → IfOk r (λ l. AreOffers (fixed_of t) h l.events)
    → IfOk r (λ l. (es : List Event) → IsAt (core_of t h) es → IsEnabled (fixed_of t) (state_at (core_of t h) es) l.events)
enabled_in t h is lead (Err e) offers = tt
enabled_in t h is lead (Ok l) offers = λ es at.
    let w = fixed_of t in
    let s = reached w es in
    record {
      all = λ e.
          let told = offers.all s (lead es at.run) at.fits e in
          ((λ within. (told.0 within).0), (λ allowed. told.1 (allowed, all_here h is.whole (footprint w.text.logs e))));
      ascends = offers.ascends;
    }

pub enabled_at : {E : Type 0} (core : CoreState) (t : Tables) (h : Parts) → core_of t h ≡ core → IsCore t h → ((es : List Event) → IsRun (fixed_of t) es → HasRun (fixed_of t) (reached (fixed_of t) es))
    → (r : Result RoomedList E) → IfOk r (λ l. AreOffers (fixed_of t) h l.events)
    → IfOk r (λ l. (es : List Event) → IsAt core es → IsEnabled (fixed_of core.tables) (state_at core es) l.events)
enabled_at core t h view is lead r offers = subst (λ z. IfOk r (λ l. (es : List Event) → IsAt z es → IsEnabled (fixed_of z.tables) (state_at z es) l.events)) view (enabled_in t h is lead r offers)

-- ---- the allowed events, kept from event to event

parted : (w : Fixed Rest) (es : List Event) (e : Event) (s : Machine Rest) → EachAllowed w (es ++ e ∷ []) s → EachAllowed w es s × IsAllowed w e (state_after w es s)
parted w [] e s run = (tt, run.0)
parted w (d ∷ es) e s run = let r = parted w es e (after w d s) run.1 in ((run.0, r.0), r.1)

-- what holds of a kept list before an event, where what the event makes allowed was foreseen, and of the one that is made of it after it
abbrev pub GoesOnAt : (Fixed Rest → Machine Rest → List Event → Type 0) → CoreState → Event → List Event → List Event → List Event → Type 0
GoesOnAt P core e ahead old new = (es : List Event) → IsAt core (es ++ e ∷ []) → IsForeseen (fixed_of core.tables) e (state_at core es) ahead → P (fixed_of core.tables) (state_at core es) old → P (fixed_of core.tables) (state_at core (es ++ e ∷ [])) new

module _ (P : Fixed Rest → Machine Rest → List Event → Type 0) where
  goes_on_in : {E : Type 0} (t : Tables) (h : Parts) → ((es : List Event) → IsRun (fixed_of t) es → HasRun (fixed_of t) (reached (fixed_of t) es)) → (e : Event) (ahead old new : List Event)
      → (r : Result (Unit {0}) E) → OnOk r ((s : Machine Rest) → IsBehind (fixed_of t) e s h → IsForeseen (fixed_of t) e s ahead → P (fixed_of t) s old → P (fixed_of t) (after (fixed_of t) e s) new)
      → OnOk r (GoesOnAt P (core_of t h) e ahead old new)
  goes_on_in t h lead e ahead old new (Err n) goes = tt
  goes_on_in t h lead e ahead old new (Ok _) goes = λ es at foreseen before.
      let w = fixed_of t in
      let p = parted w es e (opening w) at.run in
      let q = then w es e (opening w) in
      subst (λ s. P w s new) (sym q) (goes (reached w es) (record { run = lead es p.0; allowed = p.1; fits = subst (Fits h) q at.fits }) foreseen before)

  pub goes_on_at : {E : Type 0} (core : CoreState) (t : Tables) (h : Parts) → core_of t h ≡ core → ((es : List Event) → IsRun (fixed_of t) es → HasRun (fixed_of t) (reached (fixed_of t) es)) → (e : Event) (ahead old new : List Event)
      → (r : Result (Unit {0}) E) → OnOk r ((s : Machine Rest) → IsBehind (fixed_of t) e s h → IsForeseen (fixed_of t) e s ahead → P (fixed_of t) s old → P (fixed_of t) (after (fixed_of t) e s) new)
      → OnOk r (GoesOnAt P core e ahead old new)
  goes_on_at core t h view lead e ahead old new r goes = subst (λ z. OnOk r (GoesOnAt P z e ahead old new)) view (goes_on_in t h lead e ahead old new r goes)

-- ---- what an event will make allowed, ahead of it

abbrev IsForeseenAt : CoreState → Event → List Event → Type 0
IsForeseenAt core e news = (es : List Event) → IsAt core es → IsAllowed (fixed_of core.tables) e (state_at core es) → IsForeseen (fixed_of core.tables) e (state_at core es) news

foreseen_in : {E : Type 0} (t : Tables) (h : Parts) → ((es : List Event) → IsRun (fixed_of t) es → HasRun (fixed_of t) (reached (fixed_of t) es)) → (e : Event) (news : List Event)
    → (r : Result (Unit {0}) E) → OnOk r ((s : Machine Rest) → IsAheadOf (fixed_of t) e s h → IsForeseen (fixed_of t) e s news) → OnOk r (IsForeseenAt (core_of t h) e news)
foreseen_in t h lead e news (Err n) told = tt
foreseen_in t h lead e news (Ok _) told = λ es at allowed. told (reached (fixed_of t) es) (record { run = lead es at.run; allowed = allowed; fits = at.fits })

pub foreseen_at : {E : Type 0} (core : CoreState) (t : Tables) (h : Parts) → core_of t h ≡ core → ((es : List Event) → IsRun (fixed_of t) es → HasRun (fixed_of t) (reached (fixed_of t) es)) → (e : Event) (news : List Event)
    → (r : Result (Unit {0}) E) → OnOk r ((s : Machine Rest) → IsAheadOf (fixed_of t) e s h → IsForeseen (fixed_of t) e s news) → OnOk r (IsForeseenAt core e news)
foreseen_at core t h view lead e news r told = subst (λ z. OnOk r (IsForeseenAt z e news)) view (foreseen_in t h lead e news r told)
