-- An event is tried on a core, and the next one of the schedule is taken from the list.
use Rattle.std.proofs.Common.{◌≡◌, ◌≢◌, ◌↔◌, ℕ, false, List, length, refl, subst, ◌∙◌, arith}
use Rattle.std.proofs.KnownBytes.{Appends-nil}
use Rattle.aml_slice.specs.Controls.{Rest}
use Rattle.gate_log.specs.State.{AreAllOpen}
use Rattle.protocol.specs.Conditions.{IsAllowed, refusal}
use Rattle.protocol.specs.Events.{Event, Sync, Reply}
use Rattle.protocol.specs.Fixed.{Fixed}
use Rattle.protocol.specs.Parts.{Machine}
use Rattle.protocol.specs.Runs.{IsQuiet, reached}
use Rattle.protocol_schedule.specs.Draw.{word_of}
use Rattle.snap_base.specs.declared.ids.TxNo.{TxNo}
use Rattle.snap_core.specs.core_events.declared.events.Event as code
use Rattle.snap_core.specs.core_events.declared.events.Event.TheVariants as events
use Rattle.snap_core.specs.core_events.Meant.{event_meant}
use Rattle.snap_core.specs.Cores.{CoreState, HasTaken, IsAt, IsNoBy, state_at}
use Rattle.snap_core.specs.Kept.{IsAllowedAt}
use Rattle.snap_core.specs.snap_hand.Tables.{fixed_of}
use Rattle.snap_core.specs.core_rows.declared.step_no.StepNo.{StepNo}
use Rattle.snap_core.specs.core_rows.declared.step_no.StepNo.TheVariants.{NotNow}
use Rattle.solo_host.specs.Outside.{Outside, IsPicked, IsPrepared}
use Rattle.solo_host.specs.Turns.{HasTried, IsKeptFor, IsNext, asks_outside}
use Rattle.solo_host.specs.declared.nexts.Next.TheVariants as next
use Rattle.solo_host.specs.declared.tries.Tried.TheVariants as tried
use Rattle.solo_host.proofs.GotGroups.{got_nothing}

-- ---- what is done outside ahead of an event

-- one that is no Sync and no Reply asks for nothing
pub asks_none : (e : code.Event) → ((l : ℕ) → e ≢ events.Sync l) → ((n : TxNo) → e ≢ events.Reply n) → asks_outside (event_meant e) ≡ false
asks_none (events.Sync l) sync reply = absurd (sync l refl)
asks_none (events.Reply n) sync reply = absurd (reply n refl)
asks_none e sync reply = refl

-- and so it is done
pub none_asked : (w : Fixed Rest) (es : List Event) (e : Event) (now : Outside) → asks_outside e ≡ false → AreAllOpen now.logs → IsPrepared w es e now now
none_asked w es (Sync l) now none ready = absurd (cc none)
none_asked w es (Reply n) now none ready = absurd (cc none)
none_asked w es e now none ready = record { logs = got_nothing now.logs ready; printed = Appends-nil now.taken; later = omega arith }

-- ---- what a core says of it

pub refused_by : ((w : Fixed Rest) (e : Event) (s : Machine Rest) → (refusal w e s ≡ 0) ↔ IsAllowed w e s)
    → (why : StepNo) (rule : ℕ) → why ≡ NotNow rule → (e : Event) (core : CoreState) → IsNoBy e core why → HasTried e core core tried.Refused
refused_by ruled why rule same e core said =
    let is : IsNoBy e core (NotNow rule) = subst (IsNoBy e core) same said in
    ((λ es at ok. omega (arith, is.0, is.1 es at, (ruled (fixed_of core.tables) e (state_at core es)).1 ok)), refl)

-- ---- along the tries: the core is as it was, and the list as good

-- what the kept events are worth, wherever the core is
abbrev pub KeepsFor : ℕ → CoreState → List Event → List Event → Type 0
KeepsFor seed core old new = (es : List Event) → IsAt core es → IsKeptFor seed (fixed_of core.tables) (state_at core es) old → IsKeptFor seed (fixed_of core.tables) (state_at core es) new

-- what the list hands out, if it is allowed
abbrev pub IsPickedFrom : ℕ → ℕ → List Event → code.Event → Type 0
IsPickedFrom seed word list e = (w : Fixed Rest) (es : List Event) → word ≡ word_of seed (length es) → IsKeptFor seed w (reached w es) list → IsAllowed w (event_meant e) (reached w es) → IsPicked w seed es (event_meant e)

module _ (seed word : ℕ) (old core now : CoreState) (before list : List Event) (same : core ≡ old) (kept : KeepsFor seed old before list) where
  pub next_quiet : ((w : Fixed Rest) (s : Machine Rest) → IsKeptFor seed w s list → IsQuiet w s)
      → (es : List Event) → IsAt old es → word ≡ word_of seed (length es) → IsKeptFor seed (fixed_of old.tables) (state_at old es) before → IsNext seed es old core next.Quiet
  next_quiet quiet es at drawn had = (quiet (fixed_of old.tables) (state_at old es) (kept es at had), same)

  pub next_taken : (e : code.Event) → IsPickedFrom seed word list e → HasTaken (event_meant e) core now × (asks_outside (event_meant e) ≡ false)
      → (es : List Event) → IsAt old es → word ≡ word_of seed (length es) → IsKeptFor seed (fixed_of old.tables) (state_at old es) before → IsNext seed es old now (next.Taken e)
  next_taken e picked taken es at drawn had =
      let is = subst (λ c. HasTaken (event_meant e) c now) same taken.0 es at in
      (picked (fixed_of old.tables) es drawn (kept es at had) is.0, is.1, taken.1)

  pub next_asks : (e : code.Event) → IsPickedFrom seed word list e → IsAllowedAt core (event_meant e) × (now ≡ core)
      → (es : List Event) → IsAt old es → word ≡ word_of seed (length es) → IsKeptFor seed (fixed_of old.tables) (state_at old es) before → IsNext seed es old now (next.Asks e)
  next_asks e picked asked es at drawn had =
      let ok = subst (λ c. IsAllowedAt c (event_meant e)) same asked.0 es at in
      (picked (fixed_of old.tables) es drawn (kept es at had) ok, asked.1 ∙ same)
