-- Only private contracts cite this; the rule is Drives.antt.
-- One turn of the host, on a core.
use Rattle.std.specs.Prelude.{◌≡◌, ℕ, ◌≤◌, Bool, true, false, List, [], ◌∷◌, ◌++◌, ◌⊎◌}
use Rattle.aml_slice.specs.Controls.{Rest}
use Rattle.rand_pcg.specs.Lcg.{Lcg, advance}
use Rattle.rand_pcg.specs.Pcg.{multiplier_64}
use Rattle.protocol.specs.Events.{Event, Sync, Reply}
use Rattle.protocol.specs.Fixed.{Fixed}
use Rattle.protocol.specs.Parts.{Machine}
use Rattle.protocol.specs.Runs.{IsQuiet, reached}
use Rattle.protocol.specs.Schedule.{IsEnabled}
use Rattle.protocol_schedule.specs.Draw.{generator_of}
use Rattle.snap_core.specs.ready_renewal.Covering.{Covers}
use Rattle.snap_core.specs.Cores.{CoreState, HasTaken, IsAt, state_at}
use Rattle.snap_core.specs.Kept.{IsAllowedAt, IsRefusedAt}
use Rattle.snap_core.specs.ready_news.New.{IsForeseen}
use Rattle.snap_core.specs.core_events.Meant.{event_meant}
use Rattle.snap_core.specs.snap_hand.Tables.{fixed_of}
use Rattle.run_effects.specs.Driven.{tried_on}
use Rattle.run_effects.specs.Groups.{group_behind}
use Rattle.solo_host.specs.Drives.{failed_by}
use Rattle.solo_host.specs.Outside.{Outside, Got, no_group, IsPrepared, IsPicked, IsEnd}
use Rattle.run_effects.specs.declared.stops.Stop.{Stop}
use Rattle.solo_host.specs.declared.nexts.Next.{Next}
use Rattle.solo_host.specs.declared.nexts.Next.TheVariants as next
use Rattle.solo_host.specs.declared.tries.Tried.{Tried}
use Rattle.solo_host.specs.declared.tries.Tried.TheVariants as tried

-- The generator has drawn the words of so many steps of the seed.
abbrev pub IsBehindWords : ℕ → ℕ → Lcg → Type 0
IsBehindWords seed step g = g ≡ advance 64 multiplier_64 step (generator_of seed)

-- The list is of all that is allowed; by seed 0, which takes the first of it, others may stand among it.
abbrev pub IsKeptFor : ℕ → Fixed Rest → Machine Rest → List Event → Type 0
IsKeptFor seed w s list = IsEnabled w s list ⊎ ((seed ≡ 0) × Covers w s list)

-- The list is of what was allowed ahead of the last event, and the news are what was foreseen ahead of it.
pub record IsAheadOfLast (seed : ℕ) (w : Fixed Rest) (es list news : List Event) : Type 0 where
  pub front : List Event
  pub last : Event
  pub is : es ≡ front ++ last ∷ []
  pub kept : IsKeptFor seed w (reached w front) list
  pub foreseen : IsForeseen w last (reached w front) news

-- they are any, where there is no event yet
abbrev pub IsOneBehind : ℕ → Fixed Rest → List Event → List Event → List Event → Type 0
IsOneBehind seed w es list news = (es ≡ []) ⊎ IsAheadOfLast seed w es list news

-- ---- the next one is tried

-- something is done outside ahead of the event: an append, or a line
abbrev pub asks_outside : Event → Bool
asks_outside (Sync l) = true
asks_outside (Reply n) = true
asks_outside _ = false

-- what became of an event that was tried on a core: but for one that was taken the core is as it was
abbrev pub HasTried : Event → CoreState → CoreState → Tried → Type 0
HasTried e old new tried.Refused = IsRefusedAt old e × (new ≡ old)
HasTried e old new tried.Taken = HasTaken e old new × (asks_outside e ≡ false)
HasTried e old new tried.Asks = IsAllowedAt old e × (new ≡ old)
HasTried e old new tried.Memory = new ≡ old

-- what comes behind these events
abbrev pub IsNext : ℕ → List Event → CoreState → CoreState → Next → Type 0
IsNext seed es old new next.Quiet = IsQuiet (fixed_of old.tables) (state_at old es) × (new ≡ old)
IsNext seed es old new (next.Taken e) = IsPicked (fixed_of old.tables) seed es (event_meant e) × IsAt new (es ++ event_meant e ∷ []) × (asks_outside (event_meant e) ≡ false)
IsNext seed es old new (next.Asks e) = IsPicked (fixed_of old.tables) seed es (event_meant e) × (new ≡ old)
IsNext seed es old new next.Memory = new ≡ old

-- ---- the turn

-- one more event was taken
pub record HasGoneOn (seed : ℕ) (core now : CoreState) (es kept : List Event) (old new : Outside) : Type 0 where
  pub event : Event
  pub more : kept ≡ es ++ event ∷ []
  pub picked : IsPicked (fixed_of core.tables) seed es event
  pub at : IsAt now kept
  pub done : IsPrepared (fixed_of core.tables) es event old new

-- no event was taken, and the host ended
pub record HasStopped (seed : ℕ) (core now : CoreState) (es kept : List Event) (why : Stop) (old new : Outside) : Type 0 where
  pub same : kept ≡ es
  pub at : IsAt now kept
  pub logs : Got old.logs new.logs no_group (λ l. tried_on (failed_by why) l (group_behind (fixed_of core.tables) l es))
  pub end : IsEnd (fixed_of core.tables) seed es why old new
  pub later : old.faults ≤ new.faults
