-- How a run ends, from how a host ended and what is printed then.
use Rattle.std.proofs.Common.{◌≡◌, ◌⊎◌, inl, inr, ℕ, ◌+◌, ◌≤◌, List, [], ◌++◌, flat_map, length, refl, sym, ◌∙◌, subst, arith, Bool, true, false, Option, Result, Ok, Err}
use Rattle.std.specs.Prelude.{IfOk}
use Rattle.std.proofs.KnownBytes.{Appends-trans, Appends-kept}
use Rattle.snap_core.specs.core_events.declared.events.Event.{Event}
use Rattle.run_opening.specs.log_opening.Devices.{Device}
use Rattle.run_opening.specs.log_opening.declared.refusals.LogsNo.{LogsNo}
use Rattle.protocol.specs.Events as machine
use Rattle.solo_host.specs.run_effects.Lines.{replies_text}
use Rattle.run_printing.specs.Printed.{unsure_line}
use Rattle.run_recovery.specs.Runs.{machine_of, meant}
use Rattle.run_recovery.specs.Schedules.{Schedule, seeded, free}
use Rattle.run_work.proofs.RunDevices.{rose_earlier}
use Rattle.run_work.specs.Hosts.{WasRunOnDevices, IsHostEnd, PrintsStopped, PrintsUnlessFailed, StopsSo, IsHosted, HasHosted}
use Rattle.run_work.specs.Runs.{Printing, reporting, summing, replies_by, ending_by, unsure_by, RunUse, PrintsNext, PrintsFailed, PrintsUnsure, TellsUnsure, as_printed}
use Rattle.run_work.specs.Untraced.{IsEnding, IsRunEnd, IsToldUnbegun, IsUntraced, IsEndOf, EndsUntraced, by_device}
use Rattle.run_work.specs.declared.hosts.Hosted.{Hosted}
use Rattle.run_work.specs.Writings.{Writing, WritesNothing, IsSilent, Writes, WritesFront, WritesBehind, WritesLines}
use Rattle.run_opening.specs.snap_recover.declared.openings.Opening.{Opening}
use Rattle.snap_report.specs.declared.statuses.Status.{Status}
use Rattle.snap_work.specs.Works.{Work}
use Rattle.solo_host.specs.run_effects.declared.stops.Stop.{Stop}
use Rattle.solo_host.specs.run_effects.declared.stops.Stop.TheVariants as stop

-- ---- what is written, one after the other

-- the writings of two calls as one
abbrev pub joined : Writing → Writing → Writing
joined first then = record { taken_before = first.taken_before; taken_after = then.taken_after; faults_before = first.faults_before; faults_after = then.faults_after }

-- the second goes on from where the first ended
abbrev pub GoesOn : Writing → Writing → Type 0
GoesOn first then = (then.taken_before ≡ first.taken_after) × (then.faults_before ≡ first.faults_after)

both : (a b : Writing) (x y : List ℕ) → GoesOn a b → Writes a x → Writes b y → Writes (joined a b) (x ++ y)
both a b x y on first then =
    Appends-trans a.taken_before a.taken_after b.taken_after x y first (subst (λ (t : Option (List ℕ)). Writes (record b { taken_before = t }) y) on.0 then)

and_nothing : (a b : Writing) (x : List ℕ) → GoesOn a b → Writes a x → WritesNothing b → Writes (joined a b) x
and_nothing a b x on first then =
    Appends-kept a.taken_before a.taken_after b.taken_after x first (subst (λ (t : Option (List ℕ)). WritesNothing (record b { taken_before = t })) on.0 then)

and_front : (a b : Writing) (x y : List ℕ) → GoesOn a b → Writes a x → WritesFront b y → WritesBehind (joined a b) x y
and_front a b x y on first then = (then.0, then.1, then.2, both a b x then.0 on first then.3)

and_lines : {X : Type 0} (line : X → List ℕ) (a b : Writing) (x : List ℕ) (xs : List X) → GoesOn a b → a.faults_before ≤ a.faults_after → Writes a x → WritesLines line b [] xs
    → WritesLines line (joined a b) x xs
and_lines line a b x xs on later first (inl whole) = inl (whole.0, whole.1, whole.2, both a b x (flat_map line whole.0) on first whole.3)
and_lines line a b x xs on later first (inr cut) = inr (
  rose_earlier a.faults_before b.faults_before b.faults_after b.faults_after (omega (arith, later, on.1)) (omega arith) cut.0,
  and_front a b x (flat_map line xs) on first cut.1,
)

next_kept : (p : Printing) (w : Work) (schedule : Schedule) (o : Opening) (es : List machine.Event) (a b : Writing) → GoesOn a b → WritesNothing b → PrintsNext (as_printed p w schedule o es a)
    → PrintsNext (as_printed p w schedule o es (joined a b))
next_kept reporting w schedule o es a b on nothing next =
    (next.0, next.1, (next.2.0, next.2.1, next.2.2, and_nothing a b (replies_text (machine_of w o) es ++ next.2.0) on next.2.3 nothing))
next_kept summing w schedule o es a b on nothing next = next

-- ---- how the run ends then

-- where a log failed: all replies are printed behind which the others are told, or nothing comes behind
abbrev pub MayTell : Printing → Work → Opening → List machine.Event → Writing → Writing → Stop → Type 0
MayTell p w o es a b by = (log : ℕ) → by ≡ stop.LogFault log → Writes a (replies_by p (machine_of w o) es) ⊎ WritesNothing b

-- unless the output failed all replies are printed, and where it did nothing comes behind
tells : (p : Printing) (w : Work) (schedule : Schedule) (o : Opening) (es : List machine.Event) (a b : Writing) (by : Stop) (failed : Bool) → PrintsUnlessFailed failed (as_printed p w schedule o es a)
    → (failed ≡ true → WritesNothing b) → MayTell p w o es a b by
tells p w schedule o es a b by true whole silent log is = inr (silent refl)
tells p w schedule o es a b by false whole silent log is = inl (whole refl)

module _ (p : Printing) (Left : (ℕ → Bool) → Type 0) (head : ℕ) (w : Work) (o : Opening) (es : List machine.Event) where
  abbrev End : Schedule → Writing → Status → Type 0
  End schedule out s = IsRunEnd Left head (as_printed p w schedule o es out) s

  unsure : (schedule : Schedule) (log : ℕ) (a b : Writing) → GoesOn a b → a.faults_before ≤ a.faults_after → Writes a (replies_by p (machine_of w o) es) → TellsUnsure p log es (length w.txs) [] b
      → PrintsUnsure log (as_printed p w schedule o es (joined a b))
  unsure schedule log a b on earlier whole lines = and_lines (unsure_line log) a b (replies_by p (machine_of w o) es) (unsure_by p es (length w.txs)) on earlier whole lines

  told : (schedule : Schedule) (log : ℕ) (a b : Writing) → GoesOn a b → a.faults_before ≤ a.faults_after → b.faults_before ≤ b.faults_after → PrintsStopped (as_printed p w schedule o es a)
      → Writes a (replies_by p (machine_of w o) es) ⊎ WritesNothing b → TellsUnsure p log es (length w.txs) [] b → PrintsFailed log (as_printed p w schedule o es (joined a b))
  told (seeded seed) log a b on earlier later printed may lines = unsure (seeded seed) log a b on earlier printed lines
  told free log a b on earlier later (inl whole) may lines = inl (unsure free log a b on earlier whole lines)
  told free log a b on earlier later (inr cut) (inl whole) lines = inl (unsure free log a b on earlier whole lines)
  told free log a b on earlier later (inr cut) (inr nothing) lines =
      inr (rose_earlier a.faults_before a.faults_before a.faults_after b.faults_after (omega arith) (omega (arith, later, on.1)) cut.0, next_kept p w free o es a b on nothing cut.1)

  ended_quiet : (schedule : Schedule) (a b : Writing) (s : Status) → GoesOn a b → b.faults_before ≤ b.faults_after → IsHostEnd Left (as_printed p w schedule o es a) stop.Quiet
      → IsEnding p (machine_of w o) es (length w.txs) stop.Quiet b s → End schedule (joined a b) s
  ended_quiet schedule a b s on later h (inl done) =
      subst (λ (t : Status). End schedule (joined a b) t) (sym done.0)
      (h.why.0, h.why.1, both a b (replies_by p (machine_of w o) es) (ending_by p (machine_of w o) es) on h.printed done.1)
  ended_quiet schedule a b s on later h (inr (inl none)) =
      subst (λ (t : Status). End schedule (joined a b) t) (sym none.0)
      (h.why.0, inl (and_nothing a b (replies_by p (machine_of w o) es) on h.printed none.1))
  ended_quiet schedule a b s on later h (inr (inr cut)) =
      subst (λ (t : Status). End schedule (joined a b) t) (sym cut.0) (
        h.why.0,
        rose_earlier a.faults_before b.faults_before b.faults_after b.faults_after (omega (arith, h.later, on.1)) (omega arith) cut.1,
        inr (h.why.1, and_front a b (replies_by p (machine_of w o) es) (ending_by p (machine_of w o) es) on h.printed cut.2),
      )

  ended : (schedule : Schedule) (a b : Writing) (why : Stop) (s : Status) → GoesOn a b → b.faults_before ≤ b.faults_after → IsHostEnd Left (as_printed p w schedule o es a) why
      → MayTell p w o es a b why → IsEnding p (machine_of w o) es (length w.txs) (by_device head why) b s → End schedule (joined a b) s
  ended schedule a b stop.Quiet s on later h may ending = ended_quiet schedule a b s on later h ending
  ended schedule a b (stop.LogFault l) s on later h may ending =
      subst (λ (t : Status). End schedule (joined a b) t) (sym ending.0) ((l, refl, h.why), told schedule (head + l) a b on h.later later h.printed (may l refl) ending.1)
  ended schedule a b stop.OutFault s on later h may ending =
      subst (λ (t : Status). End schedule (joined a b) t) (sym ending.0) (
        h.why.0,
        rose_earlier a.faults_before a.faults_before a.faults_after b.faults_after (omega arith) (omega (arith, later, on.1)) h.why.1,
        inl (next_kept p w schedule o es a b on ending.1 h.printed),
      )
  ended schedule a b stop.Memory s on later h may ending =
      subst (λ (t : Status). End schedule (joined a b) t) (sym ending.0)
      (h.why, inl (and_nothing a b (replies_by p (machine_of w o) es) on h.printed ending.1))

-- ---- from what a host left

-- no reply was printed before
told_first : (p : Printing) (count : ℕ) (why : LogsNo) (a b : Writing) → GoesOn a b → IsSilent a → IsToldUnbegun p count why b → IsToldUnbegun p count why (joined a b)
told_first p count why a b on silent told =
    subst (λ (n : ℕ). IsToldUnbegun p count why (record b { taken_before = a.taken_before; faults_before = n })) (on.1 ∙ silent.1)
    (subst (λ (t : Option (List ℕ)). IsToldUnbegun p count why (record b { taken_before = t })) (on.0 ∙ silent.0) told)

-- where the output failed at the line of a reply nothing comes behind
abbrev pub StopsAtFault : Printing → Result Hosted LogsNo → Type 0 → Type 0
StopsAtFault p ran P = IfOk ran (λ h. StopsSo p h.failed h.stop → h.failed ≡ true → P)

module _ (p : Printing) (w : Work) (schedule : Schedule) (before after : List Device) (a b trace : Writing) (on : GoesOn a b) where
  abbrev RunOf : List Event → RunUse
  RunOf events = record { work = w; schedule = schedule; kept = events; devices_before = before; devices_after = after; out = joined a b; trace = trace }

  of_hosted : (h : Hosted) (events : List Event) (s : Status) → IsHosted p w schedule before after a h → IsEndOf p h (length w.txs) events b s → (StopsSo p h.failed h.stop → h.failed ≡ true → WritesNothing b)
      → IsUntraced p (RunOf events) s
  of_hosted h events s is end silent =
      let o = is.opening in
      let es = meant h.kept.items in
      subst (λ (kept : List Event). IsUntraced p (RunOf kept) s) (sym end.same) (inr (
        h.head,
        o,
        is.within,
        ended p (WasRunOnDevices w schedule h.head o es before after) h.head w o es schedule a b h.stop s on end.later is.made.ends
            (tells p w schedule o es a b h.stop h.failed is.made.whole (silent is.made.stops)) (end.ending (machine_of w o) is.made.core),
      ))

  pub untraced_of : (ran : Result Hosted LogsNo) (events : List Event) (s : Status) → HasHosted p w schedule before after a ran → EndsUntraced p ran (length w.txs) events b s
      → StopsAtFault p ran (WritesNothing b) → IsUntraced p (RunOf events) s
  untraced_of (Ok h) events s is end silent = of_hosted h events s is end silent
  untraced_of (Err why) events s is end silent = inl (why, record { kept = end.0; none = is.0; told = told_first p (length w.txs) why a b on is.1 end.2 }, end.1)
