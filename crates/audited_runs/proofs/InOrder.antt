-- From the answer of a call to papers in order.
use Rattle.std.proofs.Common.{◌≡◌, ℕ, suc, ◌+◌, ◌<◌, Bool, List, [], ◌∷◌, ◌++◌, length, take, Option, Some, IfSome, slice_index_or, refl, sym, ap, ◌∙◌, subst, inl, inr, arith}
use Rattle.std.proofs.lemmas.Bool.{cases_lt}
use Rattle.std.proofs.lemmas.List.{append-nil, append_assoc}
use Rattle.std.specs.Io.KnownBytes.{Appends}
use Rattle.std.specs.List.{AllByRecursion}
use Rattle.audit_laws.specs.InOrder.{FirstEventsAreInRange, QuietRunsAreInOrder}
use Rattle.audit_words.specs.Inputs.{IsInOrder, input_of}
use Rattle.audit_words.specs.Papers.{AreWhole, ended}
use Rattle.command_words.specs.CommandLaws.{OneCommand}
use Rattle.record_log.specs.Records.{HoldsRecords}
use Rattle.record_log.specs.RecordLogLaws.{OneListOfRecords}
use Rattle.record_log.specs.snap_outside.Disk.{DeviceHistory, content}
use Rattle.record_log.specs.txn_records.declared.records.Record.{Record}
use Rattle.record_log.specs.txn_records.declared.records.Record.TheVariants.{Genesis}
use Rattle.run_opening.specs.Begins.{AreEmpty, fresh_opening}
use Rattle.run_opening.specs.Opens.{TellsRecords, records_at}
use Rattle.run_opening.specs.log_opening.Devices.{Device, device_at}
use Rattle.run_opening.specs.log_opening.Kept.{AreUsed, DeviceHolds}
use Rattle.run_opening.specs.log_opening.log_compact.Finding.{IsUsed}
use Rattle.run_opening.specs.log_opening.log_compact.Fronts.{FrontsOfRecords, HoldsFront}
use Rattle.run_opening.specs.log_opening.log_compact.Sets.{IsHead}
use Rattle.run_opening.specs.snap_recover.declared.openings.Opening.{Opening}
use Rattle.run_recovery.specs.Runs.{HasEnded, HasRunWork, machine_of, meant}
use Rattle.run_recovery.specs.Schedules.{Schedule, seeded, free}
use Rattle.run_work.specs.Runs.{IsWorkAnswer}
use Rattle.run_work.specs.Writings.{Writing, Writes}
use Rattle.run_work.specs.core_events.declared.events.Event.{Event}
use Rattle.run_work.specs.snap_base.declared.transactions.State.{State}
use Rattle.run_work.specs.protocol.Events as machine
use Rattle.run_work.specs.protocol.Runs.{IsRun}
use Rattle.run_work.specs.run_effects.Lines.{report_text}
use Rattle.snap_report.specs.declared.statuses.Status.{Status}
use Rattle.snap_report.specs.declared.statuses.Status.TheVariants as status
use Rattle.snap_run.proofs.InputLaws.{known_input}
use Rattle.snap_run.proofs.Outcomes.{not_both, run_not_gen, run_not_bench, run_not_migrate, run_not_compact, run_not_follow, run_not_audit}
use Rattle.snap_run.specs.Answers.{IsAnswer, ran, recovered, generated, measured, migrated, compacted, followed, audited, refused, IsInputAnswer, input_refused, input_memory, input_read_fault, IsRunAnswer, ran_of, schedule_asked}
use Rattle.snap_run.specs.Uses.{Reading, Use}
use Rattle.snap_work.specs.Works.{Work}
use Rattle.trace_text.specs.Lines.{IsEvent, event_line}
use Rattle.trace_text.specs.Traces.{IsTrace, trace_of}
use Rattle.work_text.specs.Reads.{IsWork}
use Rattle.audited_runs.specs.FirstRuns.{AreInOrder, BeganOnNothing, HasTaken, HoldNothing, IsFirstRun, WorkRunsAreInOrder}
use Rattle.audited_runs.proofs.EndedTexts.{ended_is_work}

-- ---- the bytes

-- what an empty sink has taken is what was written
taken_is : (out : Writing) (taken bytes : List ℕ) → HasTaken out taken → Writes out bytes → taken ≡ bytes
taken_is out taken bytes has writes =
    subst (λ (o : Option (List ℕ)). Appends o (Some taken) bytes) has.0 (subst (λ (o : Option (List ℕ)). Appends out.taken_before o bytes) has.1 writes)

-- a line in front of whole lines
onto_whole : (line rest : List ℕ) → AreWhole rest → AreWhole (ended line ++ rest)
onto_whole line rest (inl e) = inr (line, subst (λ (z : List ℕ). ended line ++ z ≡ ended line) (sym e) (append-nil (ended line)))
onto_whole line rest (inr w) = inr (ended line ++ w.0, subst (λ (z : List ℕ). ended line ++ z ≡ ended (ended line ++ w.0)) (sym w.1) (sym (append_assoc (ended line) w.0 (10 ∷ []))))

whole_trace : (es : List Event) → AreWhole (trace_of es)
whole_trace [] = inl refl
whole_trace (e ∷ es) = onto_whole (event_line e) (trace_of es) (whole_trace es)

-- ---- the opening

-- what the law one_work of work_text says
abbrev pub OneWork : Type 0
OneWork = (text : List ℕ) (v w : Work) → IsWork text v → IsWork text w → v ≡ w

-- what the law seeds_pick_runs of run_recovery says of a run
abbrev pub SeedsPickRuns : Type 0
SeedsPickRuns =
    (w : Work) (seed : ℕ) (o : Opening) (es : List machine.Event) (failed : ℕ → Bool) (before after : List Device)
    → HasRunWork w (seeded seed) o es failed before after → HasRunWork w free o es failed before after

-- what the law printed_traces of trace_text says
abbrev pub PrintedTraces : Type 0
PrintedTraces = (es : List Event) → AllByRecursion IsEvent es → IsTrace (trace_of es) es

-- a device that tells of no record holds none
none_held : OneListOfRecords → (d : Device) (rs : List Record) → TellsRecords d [] → DeviceHolds d rs → rs ≡ []
none_held one d rs tells holds = one (content tells.0) rs [] (subst (λ o. IfSome o (λ h. HoldsRecords (content h) rs)) tells.1 holds) tells.2

all_empty : (logs : List (List Record)) → ((l : ℕ) → l < length logs → slice_index_or logs l [] ≡ []) → AreEmpty logs
all_empty [] h = tt
all_empty (rs ∷ logs) h = (h 0 (omega arith), all_empty logs (λ l lt. h (suc l) (omega (arith, lt))))

-- no device is a head: one that holds no record is none, and the first two records of one tell whether it is
not_begun : (d : ℕ) (front : List Record) (many : ℕ) (states : List State) → front ≡ [] → ¬ IsHead d front many states
not_begun d front many states none is = let bad : [] ≡ Genesis many states ∷ is.rest = sym none ∙ is.begins in absurd (cc)

head_of_front : (d : ℕ) (rs : List Record) (many : ℕ) (states : List State) → IsHead d (take 2 rs) many states → IsHead d rs many states
head_of_front d [] many states is = absurd (not_begun d [] many states refl is)
head_of_front d (r ∷ rs) many states is =
    let first : r ≡ Genesis many states = cc_first r (take 1 rs) many states is.rest is.begins in
    record { low = is.low; rest = rs; begins = ap (λ (x : Record). x ∷ rs) first; side = is.side }
  where
    cc_first : (r : Record) (front : List Record) (many : ℕ) (states : List State) (rest : List Record) → r ∷ front ≡ Genesis many states ∷ rest → r ≡ Genesis many states
    cc_first r front many states rest e = cc

module _ (fronts : FrontsOfRecords) (w : Work) (before : List Device) (nothing : HoldNothing w before) where
  -- of a device that tells its records these are in front
  front_is : (d : ℕ) (rs front : List Record) → TellsRecords (device_at before d) rs → IfSome (device_at before d).told (λ h. HoldsFront (content h) front) → front ≡ take 2 rs
  front_is d rs front tells holds = fronts.one (content tells.0) rs front tells.2 (subst (λ (m : Option DeviceHistory). IfSome m (λ h. HoldsFront (content h) front)) tells.1 holds)

  -- so there is no set, and the logs lie on the first devices
  begins_at_first : (head generation : ℕ) → AreUsed w.logs before head w.logs generation → head ≡ 0
  begins_at_first head generation used = at used.used
    where
      no_head : (many : ℕ) (states : List State) → IsHead head (used.fronts head) many states → ⊥
      no_head many states is =
          let low : head < 3 = is.low in
          let holds = used.each head (omega (arith, low)) in
          elim (cases_lt head w.logs) [
            | inl below ↦ not_begun head (used.fronts head) many states (front_is head [] (used.fronts head) (nothing.empty head below) holds) is
            | inr other ↦
                let no = nothing.others head other low in
                no.2 many states (head_of_front head no.0 many states (subst (λ (front : List Record). IsHead head front many states) (front_is head no.0 (used.fronts head) no.1 holds) is))
          ]

      at : IsUsed used.fronts w.logs head w.logs generation → head ≡ 0
      at (inl set) = absurd (no_head w.logs set.first set.is_head)
      at (inr none) = none.1

-- a run on logs that hold nothing begins with the work's states
opens_fresh : OneListOfRecords → FrontsOfRecords → (w : Work) (schedule : Schedule) (o : Opening) (es : List machine.Event) (failed : ℕ → Bool) (before after : List Device)
    → HoldNothing w before → HasRunWork w schedule o es failed before after → o ≡ fresh_opening w.states
opens_fresh one fronts w schedule o es failed before after nothing run = elim run.devices.start [
  | inl begun ↦ begun.1
  | inr goes ↦ absurd (goes.0.some (all_empty run.devices.records (λ l lt.
      let below : l < w.logs = omega (arith, lt, run.devices.as_many) in
      let first : run.devices.head ≡ 0 = begins_at_first fronts w before nothing run.devices.head run.devices.generation run.devices.used in
      let here : run.devices.head + l ≡ l = omega (arith, first) in
      let held : DeviceHolds (device_at before l) (records_at run.devices.records l) =
      subst (λ (d : ℕ). DeviceHolds (device_at before d) (records_at run.devices.records l)) here (run.devices.each l below).held in
      none_held one (device_at before l) (records_at run.devices.records l) (nothing.empty l below) held)))
]

-- by any schedule its events are a run of the machine
is_run : SeedsPickRuns → (w : Work) (schedule : Schedule) (o : Opening) (es : List machine.Event) (failed : ℕ → Bool) (before after : List Device) → HasRunWork w schedule o es failed before after
    → IsRun (machine_of w o) es
is_run seeds w (seeded seed) o es failed before after run = (seeds w seed o es failed before after run).front
is_run seeds w free o es failed before after run = run.front

-- ---- a run of the work

module _ (records : OneListOfRecords) (fronts : FrontsOfRecords) (seeds : SeedsPickRuns) (prints : PrintedTraces) (w : Work) (ranged : FirstEventsAreInRange w) (quiet : QuietRunsAreInOrder w)
    (u : Use) (schedule : Schedule) (text trace report : List ℕ) (is_work : IsWork text w) (began : BeganOnNothing w u trace report) (a : IsWorkAnswer (ran_of u w schedule) status.Done)
  where
    -- with any text of whole lines that stands for the work
    with_text : (full : List ℕ) → IsWork full w → AreWhole full → IsInOrder (input_of full trace report)
    with_text full stands whole =
        let es = meant u.kept in
        let o : Opening = a.0.0 in
        let fresh : o ≡ fresh_opening w.states = opens_fresh records fronts w schedule o es _ u.devices_before u.devices_after began.empty a.0.1 in
        let taken : IsRun (machine_of w o) es = is_run seeds w schedule o es _ u.devices_before u.devices_after a.0.1 in
        let printed : report ≡ report_text (machine_of w o) es = taken_is u.writing report (report_text (machine_of w o) es) began.printed a.0.3.1 in
        let traced : trace ≡ trace_of u.kept = taken_is u.tracing trace (trace_of u.kept) began.traced a.1 in
        let from_fresh : IsRun (machine_of w (fresh_opening w.states)) es = subst (λ (x : Opening). IsRun (machine_of w x) es) fresh taken in
        let begun : IsInOrder (input_of full trace (report_text (machine_of w (fresh_opening w.states)) es)) =
        quiet full trace u.kept stands whole (subst (λ (t : List ℕ). IsTrace t u.kept) (sym traced) (prints u.kept (ranged full u.kept stands from_fresh))) (subst (λ (t : List ℕ). AreWhole t) (sym traced) (whole_trace u.kept))
        from_fresh (subst (λ (x : Opening). HasEnded w x es) fresh a.0.3.0.0) in
        subst (λ (t : List ℕ). IsInOrder (input_of full trace t)) (sym (printed ∙ ap (λ (x : Opening). report_text (machine_of w x) es) fresh)) begun

    pub run_in_order : AreInOrder text trace report
    run_in_order = record {
      of_whole_lines = λ whole. with_text text is_work whole;
      with_line_feed = λ lacks room. with_text (ended text) (ended_is_work text w is_work lacks room) (inr (text, refl));
    }

-- ---- the answer

-- reading and parsing never answer that all is done
not_done : (r : Reading) (s : Status) → s ≡ status.Done → IsInputAnswer r s → ⊥
not_done r s e (input_refused line cause enough fault) = cc
not_done r s e input_memory = cc
not_done r s e (input_read_fault rose) = cc

module _ (one : OneCommand) (once : OneWork) (w : Work) (runs : WorkRunsAreInOrder w) (u : Use) (text trace report : List ℕ) (first : IsFirstRun w u text trace report)
  where
    of_run : (schedule : Schedule) → IsRunAnswer u schedule status.Done → AreInOrder text trace report
    of_run schedule (inl a) = absurd (not_done u.reading status.Done refl a.0)
    of_run schedule (inr a) =
        let work : IsWork text a.3 = subst (λ (read : List ℕ). IsWork read a.3) (known_input u.reading text a.0 first.known a.1 a.2) a.4 in
        runs u schedule text trace report first.is_work first.began (subst (λ (v : Work). IsWorkAnswer (ran_of u v schedule) status.Done) (once text a.3 w work first.is_work) a.5)

    pub in_order : IsAnswer u status.Done → AreInOrder text trace report
    in_order (ran n seed run a) = of_run (schedule_asked n seed) a
    in_order (recovered recover _ _ _ _) = absurd (not_both one u.words first.run.0 first.run.1 first.run.2 recover)
    in_order (generated count seed gen _ _ _) = absurd (run_not_gen one u.words first.run.0 first.run.1 count seed first.run.2 gen)
    in_order (measured count seed n bench _ _) = absurd (run_not_bench one u.words first.run.0 first.run.1 count seed n first.run.2 bench)
    in_order (migrated migrate _ _ _ _) = absurd (run_not_migrate one u.words first.run.0 first.run.1 first.run.2 migrate)
    in_order (compacted compact _ _ _ _) = absurd (run_not_compact one u.words first.run.0 first.run.1 first.run.2 compact)
    in_order (followed j follow _ _ _ _) = absurd (run_not_follow one u.words first.run.0 first.run.1 j first.run.2 follow)
    in_order (audited audit _ _) = absurd (run_not_audit one u.words first.run.0 first.run.1 first.run.2 audit)
    in_order (refused place is _ _ _) = let e : status.Done ≡ status.Usage place = is in cc
