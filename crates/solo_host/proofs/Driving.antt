-- What the outside got so far, and what it has got where the host ends.
use Rattle.std.proofs.Common.{◌≡◌, ℕ, zero, suc, false, ◌+◌, ◌^◌, ◌≤◌, ◌<◌, List, [], ◌∷◌, ◌++◌, length, sym, subst, ◌∙◌, arith, append-nil}
use Rattle.std.specs.List.{AllByRecursion}
use Rattle.std.specs.Io.KnownBytes.{Appends}
use Rattle.std.proofs.KnownBytes.{Appends-nil, Appends-trans}
use Rattle.aml_slice.specs.Controls.{Rest}
use Rattle.gate_log.specs.declared.limits.TheConstants.{FARTHEST_END}
use Rattle.gate_log.specs.State.{LogState, AreAllOpen}
use Rattle.protocol.specs.Events.{Event, Sync, Reply}
use Rattle.protocol.specs.Fixed.{Fixed}
use Rattle.protocol.specs.Runs.{IsRun, reached}
use Rattle.protocol_schedule.specs.Draw.{IsFrontOfSeed}
use Rattle.run_effects.specs.Sizes.{most_bytes}
use Rattle.run_effects.specs.record_log.Growth.{end_behind_groups}
use Rattle.run_effects.specs.record_log.declared.limits.TheConstants.{FARTHEST_APPEND}
use Rattle.run_effects.specs.Driven.{AreDriven, tried_on}
use Rattle.run_effects.specs.Groups.{groups_of, group_by, group_behind}
use Rattle.run_effects.specs.Laws.{line_by}
use Rattle.run_effects.specs.Lines.{replies_text}
use Rattle.snap_outside.specs.Causes.{Rose}
use Rattle.solo_host.specs.Drives.{log_at, failed_by, IsWhy, IsPrinted}
use Rattle.run_effects.specs.RunsOf.{RunsOf}
use Rattle.solo_host.specs.Together.{IsDriving, IsOver}
use Rattle.solo_host.specs.Outside.{Outside, Got, no_group, no_fault, AreLow, AreOfFormat2, IsPrepared, IsPicked, IsEnd}
use Rattle.run_effects.specs.declared.stops.Stop.{Stop}
use Rattle.run_effects.specs.declared.stops.Stop.TheVariants as stop
use Rattle.solo_host.proofs.GotGroups.{got_nothing, got_join, got_open, got_same}
use Rattle.solo_host.proofs.Picking.{goes_on, picked_allowed}

pub begins : (w : Fixed Rest) (seed : ℕ) (start : Outside) → AreAllOpen start.logs → IsDriving w seed [] start start
begins w seed start ready = record { front = tt; logs = got_nothing start.logs ready; printed = Appends-nil start.taken; later = omega arith }

-- no append has met a fault, and what waits may be appended
pub still_open : (w : Fixed Rest) (seed : ℕ) (es : List Event) (start now : Outside) → IsDriving w seed es start now → AreAllOpen now.logs
still_open w seed es start now driving = got_open start.logs now.logs (λ l. groups_of w l es) driving.logs

pub still_of_format : (w : Fixed Rest) (seed : ℕ) (es : List Event) (start now : Outside) → AreOfFormat2 start.logs → IsDriving w seed es start now → AreOfFormat2 now.logs
still_of_format w seed es start now all driving l within =
    let before : l < length start.logs = omega (arith, within, driving.logs.many) in
    (driving.logs.each l before).format ∙ all l before

pub still_low : (w : Fixed Rest) (seed : ℕ) (es : List Event) (start now : Outside) → RunsOf w → IsRun w es → ((l : ℕ) → l < length start.logs → (log_at start.logs l).end ≤ FARTHEST_APPEND)
    → IsDriving w seed es start now → AreLow now.logs
still_low w seed es start now runs run low driving l within =
    let before : l < length start.logs = omega (arith, within, driving.logs.many) in
    let end = (log_at start.logs l).end in
    let near : end_behind_groups end (groups_of w l es) ≤ end + most_bytes = runs.near es l end run (low l before) in
    let gate : (log_at now.logs l).end ≡ end_behind_groups end (groups_of w l es) = (driving.logs.each l before).gate in
    omega (arith, low l before, near, gate)

-- one more event
pub goes_further : (w : Fixed Rest) (seed : ℕ) (es : List Event) (e : Event) (start now new : Outside) → RunsOf w → IsRun w es
    → IsDriving w seed es start now → IsPicked w seed es e → IsPrepared w es e now new → IsDriving w seed (es ++ e ∷ []) start new
goes_further w seed es e start now new runs run driving picked done = record {
  front = goes_on w seed es e driving.front picked;
  logs = got_same start.logs new.logs (λ l. groups_of w l es ++ group_by l e (reached w es)) (λ l. groups_of w l (es ++ e ∷ [])) no_fault (λ l. sym (runs.grow l es e))
      (got_join start.logs now.logs new.logs (λ l. groups_of w l es) (λ l. group_by l e (reached w es)) no_fault driving.logs done.logs);
  printed = subst (Appends start.taken new.taken) (sym (runs.replies es run e (picked_allowed w seed es e picked)))
      (Appends-trans start.taken now.taken new.taken (replies_text w es) (line_by w es e) driving.printed done.printed);
  later = omega (arith, driving.later, done.later);
}

-- ---- where the host ends

pub rose_since : (a b c : ℕ) → a ≤ b → Rose b c → Rose a c
rose_since a b c le rose = omega (arith, le, rose)

pub are_driven : (w : Fixed Rest) (seed : ℕ) (es : List Event) (why : Stop) (start now new : Outside) → IsDriving w seed es start now
    → Got now.logs new.logs no_group (λ l. tried_on (failed_by why) l (group_behind w l es)) → AreDriven w es (failed_by why) start.logs new.logs
are_driven w seed es why start now new driving got =
    let all = got_same start.logs new.logs (λ l. groups_of w l es ++ []) (λ l. groups_of w l es) (λ l. tried_on (failed_by why) l (group_behind w l es)) (λ l. append-nil (groups_of w l es))
    (got_join start.logs now.logs new.logs (λ l. groups_of w l es) no_group (λ l. tried_on (failed_by why) l (group_behind w l es)) driving.logs got) in
    (all.many, all.each)

pub is_why : (w : Fixed Rest) (seed : ℕ) (es : List Event) (why : Stop) (start now new : Outside) → IsDriving w seed es start now → IsEnd w seed es why now new
    → IsWhy w seed es start.logs new.logs start.faults new.faults why
is_why w seed es stop.Quiet start now new driving end = end.0
is_why w seed es (stop.LogFault l) start now new driving end =
    let within : l < length start.logs = omega (arith, end.1, driving.logs.many) in (
      within,
      goes_on w seed es (Sync l) driving.front end.0,
      rose_since (log_at start.logs l).faults (log_at now.logs l).faults (log_at new.logs l).faults (driving.logs.each l within).later end.2,
    )
is_why w seed es stop.OutFault start now new driving end =
    ((end.0, goes_on w seed es (Reply end.0) driving.front end.1), rose_since start.faults now.faults new.faults driving.later end.2.rose)
is_why w seed es stop.Memory start now new driving end = tt

nothing_more : (w : Fixed Rest) (seed : ℕ) (es : List Event) (start now new : Outside) → IsDriving w seed es start now → Appends now.taken new.taken []
    → Appends start.taken new.taken (replies_text w es)
nothing_more w seed es start now new driving took =
    subst (Appends start.taken new.taken) (append-nil (replies_text w es)) (Appends-trans start.taken now.taken new.taken (replies_text w es) [] driving.printed took)

pub is_printed : (w : Fixed Rest) (seed : ℕ) (es : List Event) (why : Stop) (start now new : Outside) → IsDriving w seed es start now → IsEnd w seed es why now new
    → IsPrinted w seed es start.taken new.taken why
is_printed w seed es stop.Quiet start now new driving end = nothing_more w seed es start now new driving end.1
is_printed w seed es (stop.LogFault l) start now new driving end = nothing_more w seed es start now new driving end.3
is_printed w seed es stop.OutFault start now new driving end = (
  end.0,
  end.2.front,
  end.2.rest,
  goes_on w seed es (Reply end.0) driving.front end.1,
  end.2.parts,
  Appends-trans start.taken now.taken new.taken (replies_text w es) end.2.front driving.printed end.2.took,
)
is_printed w seed es stop.Memory start now new driving end = nothing_more w seed es start now new driving end

pub is_over : (w : Fixed Rest) (seed : ℕ) (es : List Event) (why : Stop) (start now new : Outside) → IsDriving w seed es start now
    → Got now.logs new.logs no_group (λ l. tried_on (failed_by why) l (group_behind w l es)) → IsEnd w seed es why now new → now.faults ≤ new.faults → IsOver w seed es why start new
is_over w seed es why start now new driving got end later = record {
  front = driving.front;
  why = is_why w seed es why start now new driving end;
  logs = are_driven w seed es why start now new driving got;
  printed = is_printed w seed es why start now new driving end;
  later = omega (arith, driving.later, later);
}

-- there is no memory for what comes next
pub over_for_memory : (w : Fixed Rest) (seed : ℕ) (es : List Event) (start now : Outside) → IsDriving w seed es start now → IsOver w seed es stop.Memory start now
over_for_memory w seed es start now driving =
    is_over w seed es stop.Memory start now now driving (got_nothing now.logs (still_open w seed es start now driving)) (Appends-nil now.taken) (omega arith)

-- ---- the logs as they are handed over

all_at : (P : LogState → Type 0) (logs : List LogState) (l : ℕ) → AllByRecursion P logs → l < length logs → P (log_at logs l)
all_at P [] l all within = absurd (omega (arith, within))
all_at P (x ∷ logs) zero all within = all.0
all_at P (x ∷ logs) (suc l) all within = all_at P logs l all.1 (omega (arith, within))

pub are_open : (logs : List LogState) → AllByRecursion (λ (l : LogState). l.shut ≡ false) logs → AreAllOpen logs
are_open logs all l within = all_at (λ (x : LogState). x.shut ≡ false) logs l all within

pub are_of_format : (logs : List LogState) → AllByRecursion (λ (l : LogState). l.format ≡ 2) logs → AreOfFormat2 logs
are_of_format logs all l within = all_at (λ (x : LogState). x.format ≡ 2) logs l all within

pub are_near : (logs : List LogState) → AllByRecursion (λ (l : LogState). l.end ≤ FARTHEST_END + 2 ^ 32) logs → (l : ℕ) → l < length logs → (log_at logs l).end ≤ FARTHEST_APPEND
are_near logs all l within =
    let near : (log_at logs l).end ≤ FARTHEST_END + 2 ^ 32 = all_at (λ (x : LogState). x.end ≤ FARTHEST_END + 2 ^ 32) logs l all within in
    omega (arith, near)
