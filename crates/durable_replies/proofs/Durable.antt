-- Told only when durable: the play goes on with all calls failing, and by the contract what it comes to is a call that told no more than
-- what its devices hold.
use Rattle.std.specs.Prelude.{◌≡◌, refl, ℕ, ◌<◌, ◌⊎◌, ℤ, List, ◌++◌}
use Rattle.std.proofs.Common.{sym, ap, subst, ◌∙◌, inl, inr}
use Rattle.std.proofs.lemmas.List.{append_assoc, append_cancel_left}
use Rattle.audit_words.specs.Papers.{IsWellFormedLine, Reply, ended}
use Rattle.command_words.specs.CommandLaws.{OneCommand}
use Rattle.command_words.specs.Words.{IsRunCommand}
use Rattle.protocol.specs.History.{Done}
use Rattle.protocol_laws.specs.Told.{IsAmongDone}
use Rattle.record_log.specs.txn_records.declared.records.Record.{Record}
use Rattle.run_recovery.specs.Crashes.{CrashOn, Recovers}
use Rattle.run_recovery.specs.OneRun.{MomentOf, TheRun, the_run}
use Rattle.run_recovery.specs.Runs.{machine_of, meant}
use Rattle.run_recovery.specs.Schedules.{Schedule}
use Rattle.run_recovery.specs.Several.{members_left}
use Rattle.run_work.specs.core_events.declared.events.Event.{Event}
use Rattle.snap_base.specs.declared.transactions.TxResult.TheVariants.{Value}
use Rattle.snap_base.specs.declared.verdicts.Place.{Place}
use Rattle.snap_base.specs.declared.verdicts.Verdict.TheVariants.{Committed}
use Rattle.snap_outside.specs.Disk.{disk, disk_after, IsImage}
use Rattle.snap_report.specs.Lines.{reply_text}
use Rattle.snap_report.specs.declared.statuses.Status.{Status}
use Rattle.snap_run.proofs.InputLaws.{known_input}
use Rattle.snap_run.proofs.Outcomes.{not_both, run_not_audit, run_not_bench, run_not_compact, run_not_follow, run_not_gen, run_not_migrate}
use Rattle.snap_run.specs.Answers.{IsAnswer, IsRunAnswer, TouchesNothing, ran, recovered, generated, measured, migrated, compacted, followed, audited, refused, ran_of, schedule_asked}
use Rattle.snap_work.specs.Works.{Work}
use Rattle.work_text.specs.Reads.{IsWork}
use Rattle.durable_replies.specs.Meets.{use_left}
use Rattle.durable_replies.specs.Durable.{HasLine, HoldDurably, IsMembersLine, StandsInRun, StandsUnbegun, TellsCommit, ToldOnlyWhenDurable}
use Rattle.durable_replies.specs.Plays.{Outside, Happening, ops_on, printed_in}
use Rattle.durable_replies.proofs.Answered.{Begun, Unbegun, WritesLined, of_answer, writes_nothing}
use Rattle.durable_replies.proofs.Crashing.{crash_at_end, end_moment, loses_nothing, nothing_made}
use Rattle.durable_replies.proofs.Goings.{goes_on}
use Rattle.durable_replies.proofs.Lines.{line_has}
use Rattle.durable_replies.proofs.OneReply.{IsSameReply, one_reply}
use Rattle.durable_replies.proofs.Printed.{IsQuiet, Tells, reply_body, reply_ended, reply_lacks}

-- ---- a line that is printed

-- where a front of whole lines was written, each whole line in what the output took has what these have
printed_has : (P : List ℕ → Type 0) (o : Outside) (hs : List Happening) (kept : List Event) → WritesLined P (use_left o hs kept).writing
    → (line : List ℕ) → TellsCommit line → HasLine (printed_in hs) line → P line
printed_has P o hs kept w line t has =
    let same : printed_in hs ≡ w.1.0 = append_cancel_left o.printed (printed_in hs) w.1.0 w.1.3 in
    let body : List ℕ = reply_body t.0 (Committed t.1 t.2) in
    let is : line ≡ ended body = t.3 ∙ reply_ended t.0 (Committed t.1 t.2) in
    let cut : w.0 ≡ has.0 ++ (ended body ++ (has.1 ++ w.1.1)) =
    w.1.2
    ∙ (ap (λ (z : List ℕ). z ++ w.1.1) (sym same ∙ (has.3 ∙ ap (λ (z : List ℕ). has.0 ++ (z ++ has.1)) is))
    ∙ (append_assoc has.0 (ended body ++ has.1) w.1.1 ∙ ap (λ (z : List ℕ). has.0 ++ z) (append_assoc (ended body) has.1 w.1.1))) in
    subst P (sym is) (line_has P w.0 has.0 body (has.1 ++ w.1.1) w.2 has.2 (reply_lacks t.0 (Committed t.1 t.2)) cut)

-- where each line that tells of a commit is that of one of these, so is who is told in numbers of their types
by_numbers : (bytes : List ℕ) (ds : List Done)
    → ((line : List ℕ) → TellsCommit line → HasLine bytes line → (n : ℕ) × (p : Place) × (v : ℤ) × (line ≡ reply_text n (Committed p v)) × IsAmongDone n p (Value v) ds)
    → (n : ℕ) (p : Place) (v : ℤ) → IsWellFormedLine (Reply n (Committed p v)) → HasLine bytes (reply_text n (Committed p v)) → IsAmongDone n p (Value v) ds
by_numbers bytes ds lines n p v formed has =
    let k = lines (reply_text n (Committed p v)) (n, p, v, refl) has in
    let same : IsSameReply n k.0 p k.1 v k.2 = one_reply n k.0 p k.1 v k.2 formed.0 formed.1.0 formed.1.1 k.3 in
    subst (λ (m : ℕ). IsAmongDone m p (Value v) ds) (sym same.tx)
    (subst (λ (q : Place). IsAmongDone k.0 q (Value v) ds) (sym same.place) (subst (λ (z : ℤ). IsAmongDone k.0 k.1 (Value z) ds) (sym same.value) k.4))

-- ---- what a play comes to

module _ (one : OneCommand) (o : Outside) (workers seed : ℕ) (words : IsRunCommand o.words workers seed) (held : ℕ → List Record) (durable : HoldDurably o held) where
  module _ (hs : List Happening) (kept : List Event) (images : ℕ → List ℕ) (left : (d : ℕ) → d < 4 → IsImage (disk_after (ops_on d hs) (disk (o.devices d))) (images d)) where
    -- nothing was touched
    of_nothing : TouchesNothing (use_left o hs kept) → StandsUnbegun o held hs images
    of_nothing t = record {
      none = λ line tells has. printed_has IsQuiet o hs kept (writes_nothing IsQuiet (use_left o hs kept).writing t.1) line tells has tells;
      kept = nothing_made o hs held images durable left t.0.devices;
    }

    of_unbegun : (w : Work) (schedule : Schedule) → IsWork o.input w → Unbegun (ran_of (use_left o hs kept) w schedule) → StandsUnbegun o held hs images
    of_unbegun w schedule is u = record {
      none = λ line tells has. printed_has IsQuiet o hs kept u.printed line tells has tells;
      kept = loses_nothing o hs held images durable left w is u.safe;
    }

    of_begun : (w : Work) (schedule : Schedule) → IsWork o.input w → Begun (ran_of (use_left o hs kept) w schedule) → StandsInRun o hs images
    of_begun w schedule is b =
        let r : TheRun = the_run b.run in
        let m : MomentOf r = end_moment r in
        let crash : CrashOn r m images = crash_at_end o hs held images durable left r refl refl in
        let recovers : Recovers w.program r m images = b.stands.recovers m images crash in
        let lines : (line : List ℕ) → TellsCommit line → HasLine (printed_in hs) line → IsMembersLine recovers line =
        λ line tells has.
        let is_told = printed_has (Tells (machine_of w b.opening) (meant kept)) o hs kept b.printed line tells has tells in
        (is_told.0, is_told.1, is_told.2, is_told.3, recovers.stands.acknowledged is_told.0 is_told.1 is_told.2 is_told.4) in
        record {
          run = r;
          work = is;
          devices = refl;
          moment = m;
          crash = crash;
          left = recovers;
          goes_on = b.stands.goes_on m images recovers;
          told = by_numbers (printed_in hs) (members_left recovers) lines;
          lines = lines;
        }

    of_work : (w : Work) (schedule : Schedule) → IsWork o.input w → Unbegun (ran_of (use_left o hs kept) w schedule) ⊎ Begun (ran_of (use_left o hs kept) w schedule)
        → StandsUnbegun o held hs images ⊎ StandsInRun o hs images
    of_work w schedule is (inl u) = inl (of_unbegun w schedule is u)
    of_work w schedule is (inr b) = inr (of_begun w schedule is b)

    of_run : (schedule : Schedule) (s : Status) → IsRunAnswer (use_left o hs kept) schedule s → StandsUnbegun o held hs images ⊎ StandsInRun o hs images
    of_run schedule s (inl a) = inl (of_nothing a.1)
    of_run schedule s (inr a) =
        let u = use_left o hs kept in
        of_work a.3 schedule (subst (λ (read : List ℕ). IsWork read a.3) (known_input u.reading o.input a.0 refl a.1 a.2) a.4) (of_answer (ran_of u a.3 schedule) s a.5)

    of_words : (s : Status) → IsAnswer (use_left o hs kept) s → StandsUnbegun o held hs images ⊎ StandsInRun o hs images
    of_words s (ran n k run a) = of_run (schedule_asked n k) s a
    of_words s (recovered recover _ _ _ _) = absurd (not_both one o.words workers seed words recover)
    of_words s (generated count k gen _ _ _) = absurd (run_not_gen one o.words workers seed count k words gen)
    of_words s (measured count k n bench _ _) = absurd (run_not_bench one o.words workers seed count k n words bench)
    of_words s (migrated migrate _ _ _ _) = absurd (run_not_migrate one o.words workers seed words migrate)
    of_words s (compacted compact _ _ _ _) = absurd (run_not_compact one o.words workers seed words compact)
    of_words s (followed j follow _ _ _ _) = absurd (run_not_follow one o.words workers seed j words follow)
    of_words s (audited audit _ _) = absurd (run_not_audit one o.words workers seed words audit)
    of_words s (refused place is usage _ _) = absurd (usage.no_form (inl (workers, seed, words)))

-- ---- at the point

-- what stands once all this has happened stood at a point by which as much was printed
at_the_point : (o : Outside) (held : ℕ → List Record) (all hs : List Happening) (images : ℕ → List ℕ) → printed_in all ≡ printed_in hs
    → StandsUnbegun o held all images ⊎ StandsInRun o all images → StandsUnbegun o held hs images ⊎ StandsInRun o hs images
at_the_point o held all hs images same (inl u) =
    inl (record { none = λ line tells has. u.none line tells (subst (λ (bytes : List ℕ). HasLine bytes line) (sym same) has); kept = u.kept })
at_the_point o held all hs images same (inr b) =
    inr (record {
      run = b.run;
      work = b.work;
      devices = b.devices;
      moment = b.moment;
      crash = b.crash;
      left = b.left;
      goes_on = b.goes_on;
      told = λ n p v formed has. b.told n p v formed (subst (λ (bytes : List ℕ). HasLine bytes (reply_text n (Committed p v))) (sym same) has);
      lines = λ line tells has. b.lines line tells (subst (λ (bytes : List ℕ). HasLine bytes line) (sym same) has);
    })

pub only_when_durable : OneCommand → ToldOnlyWhenDurable
only_when_durable one o b workers seed words meets held durable rest hs play images crash =
    let end = goes_on o b rest hs images play crash in
    at_the_point o held end.all hs images end.printed
    (of_words one o workers seed words held durable end.all end.kept images end.left end.status (meets end.all end.status end.kept end.play).answer)
