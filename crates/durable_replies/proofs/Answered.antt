-- From the answer of a call that ran a work: where no run began, nobody is told that he committed, and it lost no record; where one began,
-- what it printed is a front of whole lines, and each of these that tells of a commit is that of one that has this verdict.
use Rattle.std.specs.Prelude.{ℕ, ◌⊎◌, Bool, Option, None, Some, List, [], ◌++◌, length}
use Rattle.std.specs.List.{flat_map}
use Rattle.std.specs.Io.KnownBytes.{Appends, Keeps}
use Rattle.std.proofs.Common.{sym, ap, ◌∙◌, inl, inr}
use Rattle.std.proofs.lemmas.List.{append-nil, append_assoc}
use Rattle.protocol.specs.Runs.{reached}
use Rattle.run_effects.specs.Driven.{none_failed, only_failed}
use Rattle.run_effects.specs.Lines.{ending_text, line_in, replies_text}
use Rattle.run_opening.specs.Opens.{AreSafe}
use Rattle.run_opening.specs.log_opening.declared.refusals.LogsNo.TheVariants as refusal
use Rattle.run_printing.specs.Printed.{unsure_line}
use Rattle.run_recovery.specs.OneRun.{the_run}
use Rattle.run_recovery.specs.Runs.{HasRunWork, machine_of, meant}
use Rattle.run_recovery.specs.Schedules.{Schedule, seeded, free}
use Rattle.run_recovery.specs.Stands.{RunStands}
use Rattle.run_work.specs.Runs.{RunUse, FailsBy, HasFailed, IsWorkAnswer, PrintsAll, PrintsEnding, PrintsNext, PrintsUnsure, PrintsWhole, TellsUnsure, HasNotBegun, printed_of, reporting, unsure_by}
use Rattle.run_work.specs.Writings.{Writing, Writes, WritesBehind, WritesFront, WritesLines, WritesNothing}
use Rattle.snap_recover.specs.declared.openings.Opening.{Opening}
use Rattle.snap_report.specs.declared.statuses.Status.{Status}
use Rattle.snap_report.specs.declared.statuses.Status.TheVariants as status
use Rattle.durable_replies.proofs.Lines.{Lined, lined_nothing, lined_join, lined_all}
use Rattle.durable_replies.proofs.Printed.{IsQuiet, Tells, ending_lined, line_lined, quiet_tells, replies_lined, unsure_lined}

-- ---- what was written

-- a front of a text was written that is made of lines that have P
abbrev pub WritesLined : (List ℕ → Type 0) → Writing → Type 0
WritesLined P out = (whole : List ℕ) × WritesFront out whole × Lined P whole

writes_all : (P : List ℕ → Type 0) (out : Writing) (text : List ℕ) → Writes out text → Lined P text → WritesLined P out
writes_all P out text writes lined = (text, (text, [], sym (append-nil text), writes), lined)

writes_behind : (P : List ℕ → Type 0) (out : Writing) (first next : List ℕ) → WritesBehind out first next → Lined P first → Lined P next → WritesLined P out
writes_behind P out first next w a b =
    (first ++ next, (first ++ w.0, w.1, ap (λ (z : List ℕ). first ++ z) w.2 ∙ sym (append_assoc first w.0 w.1), w.3), lined_join P first next a b)

writes_lines : {X : Type 0} (P : List ℕ → Type 0) (line : X → List ℕ) (out : Writing) (before : List ℕ) (xs : List X) → WritesLines line out before xs
    → Lined P before → ((x : X) → Lined P (line x)) → WritesLined P out
writes_lines P line out before xs (inl w) a each = writes_all P out (before ++ flat_map line w.0) w.3 (lined_join P before (flat_map line w.0) a (lined_all P line w.0 each))
writes_lines P line out before xs (inr w) a each = writes_behind P out before (flat_map line xs) w.1 a (lined_all P line xs each)

nothing_appended : (old new : Option (List ℕ)) → Keeps old new → Appends old new []
nothing_appended None new kept = tt
nothing_appended (Some xs) None kept = absurd kept
nothing_appended (Some xs) (Some ys) kept = kept ∙ sym (append-nil xs)

pub writes_nothing : (P : List ℕ → Type 0) (out : Writing) → WritesNothing out → WritesLined P out
writes_nothing P out none = writes_all P out [] (nothing_appended out.taken_before out.taken_after none) (lined_nothing P)

-- ---- what a call left

-- no run began
pub record Unbegun (r : RunUse) : Type 0 where
  pub safe : AreSafe r.work.logs r.work.states r.devices_before r.devices_after
  pub printed : WritesLined IsQuiet r.out

-- a run began
pub record Begun (r : RunUse) : Type 0 where
  pub failed : ℕ → Bool
  pub opening : Opening
  pub run : HasRunWork r.work r.schedule opening (meant r.kept) failed r.devices_before r.devices_after
  pub stands : RunStands (the_run run)
  pub printed : WritesLined (Tells (machine_of r.work opening) (meant r.kept)) r.out

module _ (r : RunUse) where
  -- that line tells it
  abbrev TellsOf : Opening → List ℕ → Type 0
  TellsOf o = Tells (machine_of r.work o) (meant r.kept)

  begun : (failed : ℕ → Bool) (o : Opening) (run : HasRunWork r.work r.schedule o (meant r.kept) failed r.devices_before r.devices_after) → RunStands (the_run run)
      → WritesLined (TellsOf o) r.out → Begun r
  begun failed o run stands printed = record { failed = failed; opening = o; run = run; stands = stands; printed = printed }

  all_printed : (o : Opening) → PrintsAll (printed_of reporting r o (meant r.kept)) → WritesLined (TellsOf o) r.out
  all_printed o w =
      let m = machine_of r.work o in
      let es = meant r.kept in
      writes_all (TellsOf o) r.out (replies_text m es ++ ending_text m es) w (lined_join (TellsOf o) (replies_text m es) (ending_text m es) (replies_lined m es) (quiet_tells m es (ending_text m es) (ending_lined m es)))

  ending_printed : (o : Opening) → PrintsEnding (printed_of reporting r o (meant r.kept)) → WritesLined (TellsOf o) r.out
  ending_printed o w =
      let m = machine_of r.work o in
      let es = meant r.kept in
      writes_behind (TellsOf o) r.out (replies_text m es) (ending_text m es) w.1 (replies_lined m es) (quiet_tells m es (ending_text m es) (ending_lined m es))

  whole_printed : (o : Opening) → PrintsWhole (printed_of reporting r o (meant r.kept)) → WritesLined (TellsOf o) r.out
  whole_printed o (inl w) = writes_all (TellsOf o) r.out (replies_text (machine_of r.work o) (meant r.kept)) w (replies_lined (machine_of r.work o) (meant r.kept))
  whole_printed o (inr w) = all_printed o w.1

  next_printed : (o : Opening) → PrintsNext (printed_of reporting r o (meant r.kept)) → WritesLined (TellsOf o) r.out
  next_printed o w =
      let m = machine_of r.work o in
      let es = meant r.kept in
      writes_behind (TellsOf o) r.out (replies_text m es) (line_in (reached m es) w.0) w.2 (replies_lined m es) (line_lined m es w.0)

  unsure_printed : (o : Opening) (log : ℕ) → PrintsUnsure log (printed_of reporting r o (meant r.kept)) → WritesLined (TellsOf o) r.out
  unsure_printed o log w =
      let m = machine_of r.work o in
      let es = meant r.kept in
      writes_lines (TellsOf o) (unsure_line log) r.out (replies_text m es) (unsure_by reporting es (length r.work.txs)) w (replies_lined m es) (λ n. quiet_tells m es (unsure_line log n) (unsure_lined log n))

  out_printed : (o : Opening) → PrintsNext (printed_of reporting r o (meant r.kept)) ⊎ PrintsEnding (printed_of reporting r o (meant r.kept)) → WritesLined (TellsOf o) r.out
  out_printed o (inl w) = next_printed o w
  out_printed o (inr w) = ending_printed o w

  -- what the case of several workers has beside that of one
  either_printed : (o : Opening) (log : ℕ) → FailsBy free log (printed_of reporting r o (meant r.kept)) → WritesLined (TellsOf o) r.out
  either_printed o log (inl w) = unsure_printed o log w
  either_printed o log (inr w) = next_printed o w.1

  failed_run : (schedule : Schedule) (log : ℕ) → HasFailed r schedule log (λ o es. FailsBy schedule log (printed_of reporting r o es)) → Begun r
  failed_run (seeded seed) log x = begun (only_failed x.0) x.1.0 x.1.1 x.1.2 (unsure_printed x.1.0 log x.1.3.2)
  failed_run free log x = begun x.0 x.3.0 x.3.1 x.3.2 (either_printed x.3.0 log x.3.3.2)

  of_log_fault : (log : ℕ) → (HasNotBegun r (refusal.Device log) × TellsUnsure reporting log [] (length r.work.txs) [] r.out) ⊎ HasFailed r r.schedule log (λ o es. FailsBy r.schedule log (printed_of reporting r o es))
      → Unbegun r ⊎ Begun r
  of_log_fault log (inl x) =
      inl (record { safe = x.0.3; printed = writes_lines IsQuiet (unsure_line log) r.out [] (unsure_by reporting [] (length r.work.txs)) x.1 (lined_nothing IsQuiet) (unsure_lined log) })
  of_log_fault log (inr x) = inr (failed_run r.schedule log x)

  of_memory : IsWorkAnswer r status.Memory → Unbegun r ⊎ Begun r
  of_memory (inl a) = inl (record { safe = a.0.3; printed = writes_nothing IsQuiet r.out a.1 })
  of_memory (inr a) = inr (begun none_failed a.0 a.1 a.2 (whole_printed a.0 a.3))

  pub of_answer : (s : Status) → IsWorkAnswer r s → Unbegun r ⊎ Begun r
  of_answer status.Done a = inr (begun none_failed a.0.0 a.0.1 a.0.2 (all_printed a.0.0 a.0.3.1))
  of_answer (status.Usage place) a = absurd a
  of_answer (status.Input line cause) a = absurd a
  of_answer (status.Logs log offset cause) a = inl (record { safe = a.0.3; printed = writes_nothing IsQuiet r.out a.1 })
  of_answer status.Memory a = of_memory a
  of_answer status.ReadFault a = absurd a
  of_answer (status.LogFault log) a = of_log_fault log a.1
  of_answer status.OutFault a = inr (begun none_failed a.1.0 a.1.1 a.1.2 (out_printed a.1.0 a.1.3))
  of_answer status.TraceFault a = inr (begun none_failed a.1.0 a.1.1 a.1.2 (all_printed a.1.0 a.1.3.1))
  of_answer (status.Audit fault) a = absurd a
  of_answer (status.Compact logs) a = absurd a
