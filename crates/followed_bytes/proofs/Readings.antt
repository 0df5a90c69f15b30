-- What is found of all logs, each at a moment of its own, is a reading of the machine's run.
use Rattle.std.specs.Prelude.{◌≡◌, refl, ℕ, ◌+◌, ◌<◌, ◌≤◌, nat_lt, Bool, true, false, ◌⊎◌, List, length}
use Rattle.std.proofs.Common.{inl, inr, arith, sym, subst, ◌∙◌}
use Rattle.std.proofs.lemmas.Bool.{ltb-true, lt-ltb, true≢false}
use Rattle.aml_slice.specs.Controls.{Rest}
use Rattle.log_opening.specs.Devices.{Device}
use Rattle.protocol.specs.Effects.{log_at}
use Rattle.protocol.specs.Events as machine
use Rattle.protocol.specs.Fixed.{Fixed}
use Rattle.protocol.specs.Parts.{Log}
use Rattle.protocol.specs.Runs.{IsRun}
use Rattle.protocol_records.proofs.crash.CrashImplied.{front_runs, moment_is_cut}
use Rattle.record_log.specs.GrowthLaws.{MomentKeeps}
use Rattle.run_effects.specs.Laws.{GroupsAreDurable}
use Rattle.run_recovery.proofs.RunsFollowed.{taken_run}
use Rattle.run_recovery.specs.OneRun.{TheRun, machine_in, reached_at, the_run}
use Rattle.run_recovery.specs.Runs.{HasRunWork, machine_of}
use Rattle.run_recovery.specs.Schedules.{Schedule}
use Rattle.snap_recover.specs.declared.openings.Opening.{Opening}
use Rattle.snap_work.specs.Works.{Work}
use Rattle.followed_bytes.specs.Readings.{IsReadAs, IsReadingOf}
use Rattle.followed_bytes.proofs.OneLog.{ShowsSoMany, shows}

-- the log as it stands at its moment
abbrev log_then : (r : TheRun) (bytes : ℕ → List ℕ) → IsReadingOf r bytes → ℕ → Log
log_then r bytes x l = log_at (reached_at r (x.moment l)) l

-- so many of its records are read: those that are synced, or all
record IsPicked (r : TheRun) (bytes : ℕ → List ℕ) (x : IsReadingOf r bytes) (l k : ℕ) : Type 0 where
  whole : (k ≡ (log_then r bytes x l).synced) ⊎ (k ≡ length (log_then r bytes x l).records)
  shows : l < r.work.logs → ShowsSoMany r (x.moment l) l (bytes (r.devices.head + l)) k

pub read_as : (r : TheRun) (bytes : ℕ → List ℕ) (x : IsReadingOf r bytes) → MomentKeeps → GroupsAreDurable (machine_in r) → IsRun (machine_in r) r.events → IsReadAs r bytes x
read_as r bytes x keeps synced run = record {
  reading = record {
    events = λ l. (x.moment l).events;
    later = λ l. (x.moment l).later;
    splits = λ l. (x.moment l).splits;
    count = λ l. (pick l).0;
    all_synced = λ l. elim ((pick l).1.whole) [ inl e ↦ omega (arith, e) | inr e ↦ omega (arith, e, within l) ];
    no_more = λ l. elim ((pick l).1.whole) [ inl e ↦ omega (arith, e, within l) | inr e ↦ omega (arith, e) ];
  };
  moments = λ l. refl;
  holds = λ l lt. ((pick l).1.shows lt).holds;
}
  where
    v : Fixed Rest
    v = machine_in r

    front : (l : ℕ) → IsRun v (x.moment l).events
    front l = front_runs v (x.moment l).events (x.moment l).later (subst (IsRun v) (x.moment l).splits run)

    within : (l : ℕ) → (log_then r bytes x l).synced ≤ length (log_then r bytes x l).records
    within l = (moment_is_cut v r.events (x.moment l) (λ i. (log_at (reached_at r (x.moment l)) i).synced) run (record { same = λ i e. refl; whole = λ i. inl refl })).no_more l

    pick : (l : ℕ) → (k : ℕ) × IsPicked r bytes x l k
    pick l = by (nat_lt l r.work.logs) refl
      where
        by : (b : Bool) → nat_lt l r.work.logs ≡ b → (k : ℕ) × IsPicked r bytes x l k
        by true e =
            let lt = ltb-true l r.work.logs e in
            let s = shows r (x.moment l) l lt (bytes (r.devices.head + l)) keeps synced (front l) (x.each l lt) in
            (s.0, record { whole = s.1.whole; shows = λ _. s.1 })
        by false e = (
          (log_then r bytes x l).synced,
          record { whole = inl refl; shows = λ lt. absurd (true≢false (sym (lt-ltb l r.work.logs lt) ∙ e)) },
        )

pub all_read : MomentKeeps → ((v : Fixed Rest) → GroupsAreDurable v) → (w : Work) (schedule : Schedule) (o : Opening) (es : List machine.Event) (failed : ℕ → Bool) (before after : List Device)
    → (run : HasRunWork w schedule o es failed before after) → (bytes : ℕ → List ℕ) (x : IsReadingOf (the_run run) bytes) → IsReadAs (the_run run) bytes x
all_read keeps synced w schedule o es failed before after run bytes x = read_as (the_run run) bytes x keeps (synced (machine_of w o)) (taken_run (machine_of w o) schedule es run.front)
