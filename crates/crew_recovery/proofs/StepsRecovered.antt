-- A crash at a step of a crew's table is one at a moment of the crew's run.
use Rattle.std.proofs.Common.{◌≡◌, ℕ, ◌+◌, ◌<◌, zero, suc, if◌then◌else◌, Bool, Option, None, Some, List, [], ◌∷◌, ◌++◌, length, slice_get, slice_index_or, refl, sym, ap, subst, ◌∙◌, arith}
use Rattle.std.proofs.lemmas.List.{append_cancel_left}
use Rattle.snap_base.proofs.Lists.{one_at}
use Rattle.snap_base.proofs.Options.{same_some}
use Rattle.aml_slice.specs.Controls.{Rest}
use Rattle.crew_ends.specs.Ends.{log_at}
use Rattle.crew_parts.specs.Acts.{MayDo, touched}
use Rattle.crew_parts.specs.Besides.{is_shut_there}
use Rattle.crew_parts.specs.Crews.{AreFirstShares, kept}
use Rattle.crew_parts.specs.Devices.{AreAtMoment, is_shut}
use Rattle.crew_parts.specs.Shares.{ShareState}
use Rattle.crew_parts.specs.Steps.{CrewTable}
use Rattle.crew_parts.specs.declared.acts.Act.{Act}
use Rattle.crew_recovery.specs.CrewRuns.{IsCrewsRun, IsRunOnLogs}
use Rattle.crew_recovery.specs.Cuts.{AreCutAt}
use Rattle.protocol.specs.Events.{Event, log}
use Rattle.protocol.specs.Fixed.{Fixed}
use Rattle.protocol.specs.Moments.{Moment}
use Rattle.protocol.specs.Runs.{IsRun}
use Rattle.protocol.specs.Words.{holds}
use Rattle.record_log.specs.Growth.{GrewBy, begun_groups}
use Rattle.record_log.specs.gate_log.State.{LogState}
use Rattle.record_log.specs.snap_outside.Disk.{DeviceHistory, content, with_ops}
use Rattle.record_log.specs.snap_outside.declared.devices.DevOp.{DevOp}
use Rattle.run_effects.specs.Driven.{tried_on}
use Rattle.run_effects.specs.Groups.{group_behind, groups_of}
use Rattle.run_effects.specs.Made.{IsMade}
use Rattle.run_opening.specs.Opens.{HasRoomToBegin, first_groups}
use Rattle.run_opening.specs.log_opening.Devices.{device_at}
use Rattle.run_recovery.specs.Crashes.{CrashOn, begun_on}
use Rattle.run_recovery.specs.OneRun.{TheRun, machine_in}
use Rattle.run_recovery.specs.Runs.{HasRunWork, machine_of}
use Rattle.run_recovery.specs.Schedules.{free}
use Rattle.snap_hand.specs.Tables.{AreTables, fixed_of}
use Rattle.snap_hand.specs.declared.tables.Tables.{Tables}
use Rattle.snap_work.specs.Works.{Work}
use Rattle.turn_table.specs.Rule.{Kept}

-- ---- the devices at a moment, in the words of a machine and its events

pub record Placed (r : TheRun) (w : Fixed Rest) (es now : List Event) (told : ℕ → Option DeviceHistory) : Type 0 where
  pub moment : Moment w es
  pub so_far : moment.events ≡ now
  pub each : (l : ℕ) (lt : l < r.work.logs) (h : DeviceHistory) → (device_at r.before (r.devices.head + l)).told ≡ Some h
      → (made : List DevOp) × (told l ≡ Some (with_ops h made))
      × IsMade moment l (content h) (r.devices.each l lt).end (first_groups l r.devices.added) (begun_groups (first_groups l r.devices.added ++ groups_of w l es) (tried_on r.failed l (group_behind w l es))) made

module _ (r : TheRun) (t : Tables) (start : List ShareState) (acts : List Act) (end : List ShareState) (is : IsCrewsRun r t start acts end) where
  pub machine_is : fixed_of t ≡ machine_in r
  machine_is = ap (λ (w : Work). machine_of w t.opening) is.work ∙ ap (machine_of r.work) is.opening

  pub its_run : IsRun (fixed_of t) (kept acts) → IsRun (machine_in r) r.events
  its_run run = subst (IsRun (machine_in r)) is.events (subst (λ (w : Fixed Rest). IsRun w (kept acts)) machine_is run)

  pub within_text : (l : ℕ) → l < r.work.logs → l < (fixed_of t).text.logs
  within_text l lt = subst (λ (n : ℕ). l < n) (sym (ap (λ (w : Work). w.logs) is.work)) lt

  pub has_room : AreTables t → HasRoomToBegin r.opening
  has_room text = subst HasRoomToBegin is.opening (record {
    some_tid = text.accepted.tids;
    some_bid = text.accepted.bids;
    some_c = text.accepted.cs;
    tids = let fit = text.accepted.tids_fit in omega (arith, fit);
    bids = let fit = text.accepted.bids_fit in omega (arith, fit);
    cs = let fit = text.accepted.cs_fit in omega (arith, fit);
  })

  abbrev pub its_work : AreTables t → IsRun (fixed_of t) (kept acts) → HasRunWork r.work free r.opening r.events r.failed r.before r.after
  its_work text run = record { room = has_room text; front = its_run run; devices = r.devices }

-- at the moment that the crew's laws find
placed_so : (r : TheRun) (t : Tables) (start : List ShareState) (s u : CrewTable) (told : ℕ → Option DeviceHistory) (now : Kept (touched t) (MayDo t) start s) (end : Kept (touched t) (MayDo t) start u)
    → IsCrewsRun r t start end.history end.parts → AreAtMoment t start s u now end told → Placed r (fixed_of t) (kept end.history) (kept now.history) told
placed_so r t start s u told now end is at = record {
  moment = at.moment;
  so_far = at.so_far;
  each = λ l lt h telling.
      let w = fixed_of t in
      let es = kept end.history in
      let gate = (r.devices.each l lt).end in
      let first = first_groups l r.devices.added in
      let j = is.logs l lt in
      let grew = subst (λ (d : Option DeviceHistory). GrewBy d j.1.told gate first None) telling j.4.grew in
      let found = at.each l j.0 j.1 h gate first (within_text r t start end.history end.parts is l lt) j.2 j.3 grew j.4.gate in (
        found.0,
        found.1,
        subst (λ (b : Bool). IsMade at.moment l (content h) gate first (begun_groups (first ++ groups_of w l es) (if b then Some (group_behind w l es) else None)) found.0) (is.failed l lt) found.2.is_made,
      );
}

-- the same, of the run
pub placed : (r : TheRun) (t : Tables) (start : List ShareState) (s u : CrewTable) (told : ℕ → Option DeviceHistory) (now : Kept (touched t) (MayDo t) start s) (end : Kept (touched t) (MayDo t) start u)
    → IsCrewsRun r t start end.history end.parts → AreAtMoment t start s u now end told → Placed r (machine_in r) r.events (kept now.history) told
placed r t start s u told now end is at =
    subst (λ (es : List Event). Placed r (machine_in r) es (kept now.history) told) is.events
    (subst (λ (w : Fixed Rest). Placed r w (kept end.history) (kept now.history) told) (machine_is r t start end.history end.parts is) (placed_so r t start s u told now end is at))

-- ---- the crash

same_ops : (h : DeviceHistory) (xs ys : List DevOp) → Some (with_ops h xs) ≡ Some (with_ops h ys) → xs ≡ ys
same_ops h xs ys e = append_cancel_left h.ops xs ys (ap (λ (g : DeviceHistory). g.ops) (same_some (with_ops h xs) (with_ops h ys) e))

pub crash_there : (r : TheRun) (now : List Event) (told : ℕ → Option DeviceHistory) (images : ℕ → List ℕ) (p : Placed r (machine_in r) r.events now told) → AreCutAt r told images → CrashOn r p.moment images
crash_there r now told images p cut = record {
  held = cut.held;
  made = cut.made;
  each = λ d lt.
      let one = cut.each d lt in
      let h = one.cut.history in (
        one.cut,
        record {
          in_use = λ l within on.
              let telling : (device_at r.before (r.devices.head + l)).told ≡ Some h = subst (λ (k : ℕ). (device_at r.before k).told ≡ Some h) on one.cut.told in
              let found = p.each l within h telling in
              subst (λ (ops : List DevOp). IsMade p.moment l (content h) (r.devices.each l within).end (first_groups l r.devices.added) (begun_on r l) ops)
              (same_ops h found.0 (cut.made d) (sym found.1 ∙ one.in_use l within on)) found.2;
          aside = one.aside;
        },
      );
}

-- ---- a run on the logs that a crew was handed

at_place : (logs : List LogState) (l : ℕ) (d : LogState) → l < length logs → slice_get logs l ≡ Some (slice_index_or logs l d)
at_place [] l d lt = absurd (omega (arith, lt))
at_place (x ∷ logs) zero d lt = refl
at_place (x ∷ logs) (suc l) d lt = at_place logs l d (omega (arith, lt))

pub on_logs : (r : TheRun) (t : Tables) (start : List ShareState) (acts : List Act) (end : List ShareState) → AreFirstShares (fixed_of t) start → length end ≡ length start → IsRunOnLogs r t start acts end → IsCrewsRun r t start acts end
on_logs r t start acts end begins many on = record {
  work = on.work;
  opening = on.opening;
  events = on.events;
  failed = λ l lt.
      let there = within l lt in
      let y = one_at end (log l) (omega (arith, there, begins.many, many)) in
      let here : l < length on.new = omega (arith, lt, on.as_many.1) in
      ap (holds is_shut) y.1 ∙ (ap is_shut_there (on.left.logs l y.0 here y.1 ∙ at_place on.new l _ here) ∙ on.failed l lt);
  logs = λ l lt.
      let there = within l lt in
      let x = one_at start (log l) (omega (arith, there, begins.many)) in
      let here : l < length on.old = omega (arith, lt, on.as_many.0) in
      (x.0, log_at on.old l, x.1, on.begun.logs l x.0 here x.1 ∙ at_place on.old l _ here, on.opened l lt);
}
  where
    within : (l : ℕ) → l < r.work.logs → l < (fixed_of t).text.logs
    within l lt = subst (λ (n : ℕ). l < n) (sym (ap (λ (w : Work). w.logs) on.work)) lt
