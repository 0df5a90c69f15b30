-- A turn: an event that was picked, what stands before it, and the step.
use Rattle.std.proofs.Common.{◌≡◌, ℕ, ◌+◌, ◌-◌, ◌*◌, ◌≤◌, ◌<◌, true, None, Some, Option, Result, Ok, Err, List, [], ◌∷◌, ◌++◌, length, map, refl, sym, ap, subst, ◌∙◌, arith}
use Rattle.std.specs.Prelude.{MatchOption, MatchResult}
use Rattle.std.specs.Io.KnownBytes.{Appends}
use Rattle.gate_log.specs.State.{LogState, AreAllOpen}
use Rattle.protocol.specs.Conditions.{IsAllowed}
use Rattle.rand_pcg.specs.Lcg.{Lcg}
use Rattle.std.proofs.lemmas.List.{length-append, length-map}
use Rattle.aml_slice.specs.Controls.{Rest}
use Rattle.snap_core.specs.core_events.declared.events.Event as code
use Rattle.snap_core.specs.core_events.declared.events.Event.TheVariants as events
use Rattle.snap_core.specs.core_events.Meant.{event_meant}
use Rattle.protocol.specs.Events.{Event, Sync, Reply}
use Rattle.protocol.specs.Fixed.{Fixed}
use Rattle.protocol.specs.Parts.{Machine}
use Rattle.protocol.specs.Runs.{IsRun, reached}
use Rattle.run_effects.specs.Groups.{group_by, group_behind}
use Rattle.run_effects.specs.Laws.{line_by}
use Rattle.snap_core.specs.Cores.{CoreState, IsAt}
use Rattle.snap_core.specs.snap_hand.Steps.{may_want}
use Rattle.snap_core.specs.protocol_theorems.Left.{most_events}
use Rattle.snap_core.specs.snap_hand.Tables.{fixed_of}
use Rattle.snap_core.specs.snap_hand.declared.tables.Tables.{Tables}
use Rattle.run_effects.specs.Driven.{IsDriven, tried_on}
use Rattle.solo_host.specs.Drives.{log_at, failed_by}
use Rattle.run_effects.specs.RunsOf.{RunsOf}
use Rattle.solo_host.specs.Outside.{Outside, outside, IsSynced, IsNotSynced, no_group, no_fault, IsPrepared, IsFailure, IsGivenUp, IsPicked, IsEnd}
use Rattle.solo_host.specs.Turns.{HasGoneOn, HasStopped, IsBehindWords}
use Rattle.run_effects.specs.declared.stops.Stop.{Stop}
use Rattle.run_effects.specs.declared.stops.Stop.TheVariants as stop
use Rattle.solo_host.proofs.Preparing.{done_of_sync, given_up_of_sync, log_exists}
use Rattle.solo_host.specs.Together.{IsDriving, IsOver}
use Rattle.solo_host.proofs.Driving.{goes_further, is_over}
use Rattle.run_effects.proofs.Driving.{driven_same}
use Rattle.solo_host.proofs.GotGroups.{got_same}
use Rattle.solo_host.proofs.Words.{drawn_on}

-- an event that may want memory asks for nothing before it
wants_no_group : (e : Event) → may_want e ≡ true → (l : ℕ) (s : Machine Rest) → group_by l e s ≡ []
wants_no_group (Sync k) is l s = cc
wants_no_group e is l s = refl

wants_no_line : (w : Fixed Rest) (es : List Event) (e : Event) → may_want e ≡ true → line_by w es e ≡ []
wants_no_line w es (Reply n) is = cc
wants_no_line w es e is = refl

-- ---- the ends

-- nothing was done, and nothing is allowed or there was no memory
idle : (seed : ℕ) (core : CoreState) (es : List Event) (why : Stop) (now : Outside) → IsAt core es → AreAllOpen now.logs
    → ((l : ℕ) → tried_on (failed_by why) l (group_behind (fixed_of core.tables) l es) ≡ None) → IsEnd (fixed_of core.tables) seed es why now now → HasStopped seed core core es es why now now
idle seed core es why now at ready untried end = record {
  same = refl;
  at = at;
  logs = record { many = refl; each = λ l within. subst (IsDriven (log_at now.logs l) (log_at now.logs l) []) (sym (untried l)) (driven_same (log_at now.logs l) (ready l within)) };
  end = end;
  later = omega arith;
}

-- the same of a core that is as it was
pub ended : (seed : ℕ) (core new : CoreState) (es : List Event) (why : Stop) (now : Outside) → new ≡ core → IsAt core es → AreAllOpen now.logs
    → ((l : ℕ) → tried_on (failed_by why) l (group_behind (fixed_of core.tables) l es) ≡ None) → IsEnd (fixed_of core.tables) seed es why now now → HasStopped seed core new es es why now now
ended seed core new es why now same at ready untried end = subst (λ (z : CoreState). HasStopped seed core z es es why now now) (sym same) (idle seed core es why now at ready untried end)

ends_by : (w : Fixed Rest) (seed : ℕ) (es : List Event) (e : Event) (why : Stop) (old new : Outside) → IsPicked w seed es e → IsFailure w es e why old new → IsEnd w seed es why old new
ends_by w seed es e (stop.LogFault l) old new picked is = (subst (IsPicked w seed es) is.0 picked, is.1, is.2, is.3)
ends_by w seed es e stop.OutFault old new picked is = (is.0, subst (IsPicked w seed es) is.1 picked, is.2)
ends_by w seed es e stop.Memory old new picked is = is
ends_by w seed es e stop.Quiet old new picked is = absurd is

pub given_up : (seed : ℕ) (core : CoreState) (es : List Event) (e : Event) (why : Stop) (old new : Outside) → IsAt core es
    → IsPicked (fixed_of core.tables) seed es e → IsGivenUp (fixed_of core.tables) es e why old new → HasStopped seed core core es es why old new
given_up seed core es e why old new at picked is = record {
  same = refl;
  at = at;
  logs = is.logs;
  end = ends_by (fixed_of core.tables) seed es e why old new picked is.failure;
  later = is.later;
}

-- the step found no memory, so nothing was asked for before it
pub not_stepped : (seed : ℕ) (core now : CoreState) (es : List Event) (e : Event) (old new : Outside) → now ≡ core → IsAt core es
    → may_want e ≡ true → IsPrepared (fixed_of core.tables) es e old new → HasStopped seed core now es es stop.Memory old new
not_stepped seed core now es e old new unchanged at wants done = record {
  same = refl;
  at = subst (λ c. IsAt c es) (sym unchanged) at;
  logs = got_same old.logs new.logs (λ l. group_by l e (reached (fixed_of core.tables) es)) no_group no_fault (λ l. wants_no_group e wants l (reached (fixed_of core.tables) es)) done.logs;
  end = subst (Appends old.taken new.taken) (wants_no_line (fixed_of core.tables) es e wants) done.printed;
  later = done.later;
}

-- ---- before a Sync

pub before_a_sync : {T : Type 0} (r : Result T Stop) (core : CoreState) (e : code.Event) (l : ℕ) (old new : List LogState) (taken : Option (List ℕ)) (faults : ℕ) → e ≡ events.Sync l → l < length old
    → MatchResult r (λ _. (es : List Event) → IsAt core es → IsSynced (fixed_of core.tables) es l old new) (λ why. (es : List Event) → IsAt core es → IsNotSynced (fixed_of core.tables) es l why old new)
    → MatchResult r
    (λ _. (es : List Event) → IsAt core es → IsPrepared (fixed_of core.tables) es (event_meant e) (outside old taken faults) (outside new taken faults))
    (λ why. (es : List Event) → IsAt core es → IsGivenUp (fixed_of core.tables) es (event_meant e) why (outside old taken faults) (outside new taken faults))
before_a_sync (Ok x) core e l old new taken faults is within said = λ es at.
    subst (λ d. IsPrepared (fixed_of core.tables) es (event_meant d) (outside old taken faults) (outside new taken faults)) (sym is)
    (done_of_sync (fixed_of core.tables) es l old new taken faults (said es at))
before_a_sync (Err why) core e l old new taken faults is within said = λ es at.
    subst (λ d. IsGivenUp (fixed_of core.tables) es (event_meant d) why (outside old taken faults) (outside new taken faults)) (sym is)
    (given_up_of_sync (fixed_of core.tables) es l why old new taken faults within (said es at))

pub sync_exists : (w : Fixed Rest) (es : List Event) (e : code.Event) (l : ℕ) → RunsOf w → IsRun w es → e ≡ events.Sync l → IsAllowed w (event_meant e) (reached w es) → l < w.text.logs
sync_exists w es e l runs run is ok =
    subst (λ n. l < n) (runs.logs es run) (log_exists w l (reached w es) (subst (λ d. IsAllowed w (event_meant d) (reached w es)) is ok))

-- ---- what is kept

map_more : (xs : List code.Event) (e : code.Event) → map event_meant (xs ++ e ∷ []) ≡ map event_meant xs ++ event_meant e ∷ []
map_more [] e = refl
map_more (x ∷ xs) e = ap (λ ys. event_meant x ∷ ys) (map_more xs e)

pub kept_more : (old mid new : List code.Event) (e : code.Event) → mid ≡ old → new ≡ mid ++ e ∷ [] → map event_meant new ≡ map event_meant old ++ event_meant e ∷ []
kept_more old mid new e same more = ap (map event_meant) (more ∙ ap (λ xs. xs ++ e ∷ []) same) ∙ map_more old e

pub gone_on : (seed : ℕ) (core now : CoreState) (es kept : List Event) (e : Event) (old new : Outside) → kept ≡ es ++ e ∷ [] → IsPicked (fixed_of core.tables) seed es e
    → IsAt now (es ++ e ∷ []) → IsPrepared (fixed_of core.tables) es e old new → HasGoneOn seed core now es kept old new
gone_on seed core now es kept e old new more picked at done = record { event = e; more = more; picked = picked; at = subst (IsAt now) (sym more) at; done = done }

-- where an event was taken a step's word was drawn for it
pub drawn_if : (o : Option Stop) (seed : ℕ) (core now : CoreState) (es kept : List Event) (g : Lcg) (old new : Outside)
    → MatchOption o (HasGoneOn seed core now es kept old new) (λ why. HasStopped seed core now es kept why old new) → IsBehindWords seed (length es + 1) g → o ≡ None → IsBehindWords seed (length kept) g
drawn_if None seed core now es kept g old new gone drawn none = drawn_on seed es kept gone.event g gone.more drawn
drawn_if (Some why) seed core now es kept g old new gone drawn none = absurd (cc none)

-- ---- along the turns, whose core keeps its text

pub stays_driving : (t : Tables) (seed : ℕ) (core now : CoreState) (es kept : List Event) (start old new : Outside) → core.tables ≡ t → RunsOf (fixed_of t) → IsAt core es
    → IsDriving (fixed_of t) seed es start old → HasGoneOn seed core now es kept old new → IsDriving (fixed_of t) seed kept start new
stays_driving t seed core now es kept start old new same runs at driving gone =
    let w = fixed_of core.tables in
    subst (λ (z : Tables). IsDriving (fixed_of z) seed kept start new) same
    (subst (λ (ks : List Event). IsDriving w seed ks start new) (sym gone.more)
    (goes_further w seed es gone.event start old new (subst (λ (z : Tables). RunsOf (fixed_of z)) (sym same) runs) at.run
    (subst (λ (z : Tables). IsDriving (fixed_of z) seed es start old) (sym same) driving) gone.picked gone.done))

pub has_driven : (t : Tables) (seed : ℕ) (core now : CoreState) (es kept : List Event) (why : Stop) (start old new : Outside) → core.tables ≡ t
    → IsDriving (fixed_of t) seed es start old → HasStopped seed core now es kept why old new → IsOver (fixed_of t) seed kept why start new
has_driven t seed core now es kept why start old new same driving ended =
    let w = fixed_of core.tables in
    subst (λ (z : Tables). IsOver (fixed_of z) seed kept why start new) same
    (subst (λ (ks : List Event). IsOver w seed ks why start new) (sym ended.same)
    (is_over w seed es why start old new (subst (λ (z : Tables). IsDriving (fixed_of z) seed es start old) (sym same) driving) ended.logs ended.end ended.later))

-- a turn's last event, or its end
pub turned : (o : Option Stop) (t : Tables) (seed : ℕ) (core now : CoreState) (es kept : List Event) (start old new : Outside) → core.tables ≡ t → RunsOf (fixed_of t) → IsAt core es → IsDriving (fixed_of t) seed es start old
    → MatchOption o (HasGoneOn seed core now es kept old new) (λ why. HasStopped seed core now es kept why old new)
    → MatchOption o (IsDriving (fixed_of t) seed kept start new) (λ why. IsOver (fixed_of t) seed kept why start new)
turned None t seed core now es kept start old new same runs at driving gone = stays_driving t seed core now es kept start old new same runs at driving gone
turned (Some why) t seed core now es kept start old new same runs at driving ended = has_driven t seed core now es kept why start old new same driving ended

pub turned_at : (o : Option Stop) (seed : ℕ) (core now : CoreState) (es kept : List Event) (old new : Outside)
    → MatchOption o (HasGoneOn seed core now es kept old new) (λ why. HasStopped seed core now es kept why old new) → IsAt now kept
turned_at None seed core now es kept old new gone = gone.at
turned_at (Some why) seed core now es kept old new ended = ended.at

pub turned_more : (o : Option Stop) (seed : ℕ) (core now : CoreState) (es kept : List Event) (old new : Outside) → o ≡ None
    → MatchOption o (HasGoneOn seed core now es kept old new) (λ why. HasStopped seed core now es kept why old new) → length es < length kept
turned_more None seed core now es kept old new none gone =
    let more : length kept ≡ length (es ++ gone.event ∷ []) = ap (λ (xs : List Event). length xs) gone.more in
    let joined = length-append es (gone.event ∷ []) in
    omega (arith, more, joined)
turned_more (Some why) seed core now es kept old new none ended = absurd (cc none)

-- of a core that keeps its text
pub over_by : (t z : Tables) (seed : ℕ) (es kept : List Event) (why : Stop) (start old new : Outside) → t ≡ z → IsDriving (fixed_of z) seed es start old
    → (IsDriving (fixed_of t) seed es start old → IsOver (fixed_of t) seed kept why start new) → IsOver (fixed_of z) seed kept why start new
over_by t z seed es kept why start old new same driving goes =
    subst (λ (u : Tables). IsOver (fixed_of u) seed kept why start new) same (goes (subst (λ (u : Tables). IsDriving (fixed_of u) seed es start old) (sym same) driving))

pub driving_by : (t z : Tables) (seed : ℕ) (es kept : List Event) (start old new : Outside) → t ≡ z → IsDriving (fixed_of z) seed es start old
    → (IsDriving (fixed_of t) seed es start old → IsDriving (fixed_of t) seed kept start new) → IsDriving (fixed_of z) seed kept start new
driving_by t z seed es kept start old new same driving goes =
    subst (λ (u : Tables). IsDriving (fixed_of u) seed kept start new) same (goes (subst (λ (u : Tables). IsDriving (fixed_of u) seed es start old) (sym same) driving))

fewer : (most old new : ℕ) → old < new → new ≤ most → most - new < most - old
fewer most old new more le = omega (arith, more, le)

pub fewer_left : (t : Tables) (now : CoreState) (old kept : List code.Event) → now.tables ≡ t → RunsOf (fixed_of t) → IsAt now (map event_meant kept) → length old < length kept
    → most_events * length (fixed_of t).text.txs - length kept < most_events * length (fixed_of t).text.txs - length old
fewer_left t now old kept same runs at more =
    let run : IsRun (fixed_of t) (map event_meant kept) = subst (λ (z : Tables). IsRun (fixed_of z) (map event_meant kept)) same at.run in
    let short : length (map event_meant kept) ≤ most_events * length (fixed_of t).text.txs = runs.end (map event_meant kept) run in
    fewer (most_events * length (fixed_of t).text.txs) (length old) (length kept) more (subst (λ n. n ≤ most_events * length (fixed_of t).text.txs) (length-map kept event_meant) short)
