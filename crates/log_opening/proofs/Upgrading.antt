-- Open logs in use all of which are upgraded, one after the other.
use Rattle.std.proofs.Common.{◌≡◌, ℕ, zero, suc, ◌+◌, ◌<◌, ◌≤◌, inl, inr, List, [], ◌∷◌, length, map, take, drop, refl, sym, ◌∙◌, ap, subst, arith}
use Rattle.std.specs.Prelude.{◌⊎◌, ◌==◌, IfSome, Option, Some, None, slice_range}
use Rattle.std.specs.List.{AllZip}
use Rattle.snap_base.proofs.Booleans.{three_ways}
use Rattle.snap_outside.specs.Causes.{Rose}
use Rattle.snap_outside.specs.Disk.{DeviceHistory, content}
use Rattle.gate_log.specs.declared.logs.LogItem.{LogItem}
use Rattle.gate_log.specs.Bytes.{format_in}
use Rattle.gate_log.specs.LogLaws.{OpeningAdds, OpeningKeepsFormat}
use Rattle.gate_log.specs.State.{LogState, log_at}
use Rattle.log_compact.specs.Compacting.{IsOnSide}
use Rattle.log_opening.specs.Counted.{IsAsideLog}
use Rattle.log_opening.specs.Devices.{Device, as_device, device_at, AreBegun, IsBegun, IsOpened}
use Rattle.log_opening.specs.Found.{IsKeptSafe}
use Rattle.log_opening.specs.Reads.{AreOpenOn}
use Rattle.log_opening.specs.Upgrades.{AreOld, AreReadyBelow, FailsBeginning, IsBeginningCutOff, IsMadeReady, IsNotMadeReady, IsStopped, items_at, old_count}
use Rattle.log_opening.proofs.Numbers.{each_device, on_device, zip_each, zip_four, zip_part}
use Rattle.log_opening.proofs.ReadyAll.{above_not, aside_not}
use Rattle.log_opening.proofs.ReadyOne.{ReadyLaws, begun_on, cut_off_at, failed_safe, format_was, has_risen, kept_safe}

-- ---- how many are of format 1

-- the log has the format of what the device held
HasFormerFormat : Device → LogState → Type 0
HasFormerFormat b l = IfSome b.told (λ h. l.format ≡ format_in (content h))

as_tests : (told : Option DeviceHistory) (format : ℕ) → IfSome told (λ h. format ≡ format_in (content h)) → IfSome told (λ h. (format == 1) ≡ (format_in (content h) == 1))
as_tests None format is = tt
as_tests (Some h) format is = ap (λ (n : ℕ). n == 1) is

are_old : (before : List Device) (logs : List LogState) → AllZip HasFormerFormat before logs → AreOld before (old_count logs)
unfolding HasFormerFormat
are_old [] [] all = refl
are_old [] (l ∷ logs) all = absurd all
are_old (b ∷ bs) [] all = absurd all
are_old (b ∷ bs) (l ∷ logs) all = (old_count logs, l.format == 1, are_old bs logs all.1, refl, as_tests b.told l.format all.0)

pub counts_old : OpeningAdds → OpeningKeepsFormat → (before : List Device) (logs part : List LogState) (head count : ℕ) → AreOpenOn before logs → part ≡ slice_range logs head (head + count)
    → AreOld (take count (drop head before)) (old_count part)
unfolding HasFormerFormat
counts_old adds keeps before logs part head count is same =
    let all : AllZip HasFormerFormat before logs =
    zip_each HasFormerFormat before logs _ _ (is.many ∙ sym is.whole) (λ d lt.
    let at : IsAsideLog (device_at before d) (log_at logs d) = is.each d (omega (arith, lt, is.whole)) in
    format_was adds keeps (device_at before d).told (log_at logs d).told at.found.opened.0 at.items (log_at logs d).format at.found.opened.1 at.ready.formatted) in
    subst (λ (ls : List LogState). AreOld (take count (drop head before)) (old_count ls)) (sym same)
    (are_old (take count (drop head before)) (slice_range logs head (head + count)) (zip_part HasFormerFormat head count before logs all))

-- ---- all are upgraded

no_items : (n : ℕ) → items_at [] n ≡ []
no_items zero = refl
no_items (suc n) = refl

-- where nothing is listed
made_none : (l k : LogState) (n : ℕ) → IsMadeReady l k (items_at [] n) → IsMadeReady l k []
made_none l k n made = subst (λ (xs : List LogItem). IsMadeReady l k xs) (no_items n) made

-- it is of format 2 then
upgraded_second : (l k : LogState) → (l.format ≡ 1) ⊎ (l.format ≡ 2) → IsMadeReady l k [] → k.format ≡ 2
upgraded_second l k (inl one) (inl (same, inl other)) = absurd (other one)
upgraded_second l k (inr two) (inl (same, inl other)) = ap (λ (x : LogState). x.format) same ∙ two
upgraded_second l k known (inl (same, inr some)) = absurd (some refl)
upgraded_second l k known (inr up) = up.2.second

module _ (laws : ReadyLaws) (before : List Device) (old new : List LogState) (head count : ℕ) (is : AreOpenOn before old) (within : head + count ≤ 4) (many : length new ≡ length old) where
  -- one that is as it was
  same_opened : (d : ℕ) → d < 4 → log_at new d ≡ log_at old d → IsOpened (device_at before d) (device_at (map as_device new) d)
  same_opened d lt same =
      let at : IsAsideLog (device_at before d) (log_at old d) = is.each d lt in
      on_device (λ (a : Device). IsOpened (device_at before d) a) new d
      (subst (λ (x : LogState). IsOpened (device_at before d) (as_device x)) (sym same) (at.found.opened.0, at.items, at.found.opened.1))

  same_kept : (d : ℕ) → d < 4 → log_at new d ≡ log_at old d → IsKeptSafe (device_at before d) (as_device (log_at new d))
  same_kept d lt same =
      let at : IsAsideLog (device_at before d) (log_at old d) = is.each d lt in
      subst (λ (x : LogState). IsKeptSafe (device_at before d) (as_device x)) (sym same) at.found.safe

  all_kept : ((l : ℕ) → l < count → IsKeptSafe (device_at before (head + l)) (as_device (log_at new (head + l)))) → ((d : ℕ) → ¬ IsOnSide head count d → log_at new d ≡ log_at old d)
      → AllZip IsKeptSafe before (map as_device new)
  all_kept used aside = zip_four IsKeptSafe before new is.whole (many ∙ is.many)
      (each_device (λ (d : ℕ). IsKeptSafe (device_at before d) (as_device (log_at new d))) head count used (λ d lt not. same_kept d lt (aside d not)))

  -- one of those in use that is upgraded
  module _ (l : ℕ) (lt : l < count) (made : IsMadeReady (log_at old (head + l)) (log_at new (head + l)) (items_at [] (head + l))) where
    at_used : IsAsideLog (device_at before (head + l)) (log_at old (head + l))
    at_used = is.each (head + l) (omega (arith, lt, within))

    as_made : IsMadeReady (log_at old (head + l)) (log_at new (head + l)) []
    as_made = made_none (log_at old (head + l)) (log_at new (head + l)) (head + l) made

    made_begun : IsBegun (device_at before (head + l)) (device_at (map as_device new) (head + l))
    made_begun =
        let on = begun_on laws (device_at before (head + l)) (log_at old (head + l)) (log_at new (head + l)) at_used.items at_used.found at_used.ready []
        as_made (upgraded_second (log_at old (head + l)) (log_at new (head + l)) at_used.ready.known as_made) in
        on_device (λ (a : Device). IsBegun (device_at before (head + l)) a) new (head + l) (on.begun.0, at_used.items, on.begun.1)

    made_kept : IsKeptSafe (device_at before (head + l)) (as_device (log_at new (head + l)))
    made_kept = kept_safe laws (device_at before (head + l)) (log_at old (head + l)) (log_at new (head + l)) at_used.items at_used.found at_used.ready [] as_made

  all_upgraded : AreReadyBelow head count old new [] → AreBegun head count before (map as_device new) × AllZip IsKeptSafe before (map as_device new)
  all_upgraded all = (
    record { begun = λ l lt. made_begun l lt (all.below l lt); aside = λ d lt not. same_opened d lt (all.others d not) },
    all_kept (λ l lt. made_kept l lt (all.below l lt)) all.others,
  )

  -- the logs are open and no items were listed, so all are upgraded
  pub all_begun_safely : (listed : List (List LogItem)) → listed ≡ [] → AreReadyBelow head count old new listed → AreBegun head count before (map as_device new) × AllZip IsKeptSafe before (map as_device new)
  all_begun_safely listed none ready = all_upgraded (subst (λ (fs : List (List LogItem)). AreReadyBelow head count old new fs) none ready)

  module _ (n : ℕ) (stopped : IsStopped head count n old new []) where
    at_failed : IsAsideLog (device_at before (head + n)) (log_at old (head + n))
    at_failed = is.each (head + n) (omega (arith, stopped.asked, within))

    not_made : IsNotMadeReady (log_at old (head + n)) (log_at new (head + n)) []
    not_made = subst (λ (xs : List LogItem). IsNotMadeReady (log_at old (head + n)) (log_at new (head + n)) xs) (no_items (head + n)) stopped.failed

    went : (l : ℕ) → l < count → (l < n) ⊎ ((l ≡ n) ⊎ (n < l)) → IsKeptSafe (device_at before (head + l)) (as_device (log_at new (head + l)))
    went l lt (inl low) = made_kept l lt (stopped.below l low)
    went l lt (inr (inl same)) = subst (λ (i : ℕ). IsKeptSafe (device_at before (head + i)) (as_device (log_at new (head + i)))) (sym same)
        (failed_safe laws (device_at before (head + n)) (log_at old (head + n)) (log_at new (head + n)) at_failed.items at_failed.found at_failed.ready [] not_made)
    went l lt (inr (inr gt)) = same_kept (head + l) (omega (arith, lt, within)) (stopped.others (head + l) (above_not head n l gt))

    not_upgraded : FailsBeginning head count before (map as_device new) (head + n) × AllZip IsKeptSafe before (map as_device new)
    not_upgraded = (
      record {
        number = n;
        asked = stopped.asked;
        is = refl;
        cut_off = on_device (λ (a : Device). IsBeginningCutOff (device_at before (head + n)) a) new (head + n)
            (cut_off_at laws (device_at before (head + n)) (log_at old (head + n)) (log_at new (head + n)) at_failed.items at_failed.found at_failed.ready [] not_made);
        rose = on_device (λ (a : Device). Rose (device_at before (head + n)).faults a.faults) new (head + n)
            (has_risen laws (device_at before (head + n)) (log_at old (head + n)) (log_at new (head + n)) at_failed.items at_failed.found at_failed.ready [] not_made);
        below = λ l lt. made_begun l (omega (arith, lt, stopped.asked)) (stopped.below l lt);
        above = λ l gt lt. same_opened (head + l) (omega (arith, lt, within)) (stopped.others (head + l) (above_not head n l gt));
        aside = λ d lt not. same_opened d lt (stopped.others d (aside_not head n count d stopped.asked not));
      },
      all_kept (λ l lt. went l lt (three_ways l n)) (λ d not. stopped.others d (aside_not head n count d stopped.asked not)),
    )

  -- the logs are open and no items were listed, so the others but the one whose device failed are upgraded or as they were
  pub fails_safely : (listed : List (List LogItem)) (log : ℕ) → listed ≡ [] → (n : ℕ) × (log ≡ head + n) × IsStopped head count n old new listed
      → FailsBeginning head count before (map as_device new) log × AllZip IsKeptSafe before (map as_device new)
  fails_safely listed log none stopped =
      let is_stopped : IsStopped head count stopped.0 old new [] = subst (λ (fs : List (List LogItem)). IsStopped head count stopped.0 old new fs) none stopped.2 in
      subst (λ (i : ℕ). FailsBeginning head count before (map as_device new) i × AllZip IsKeptSafe before (map as_device new)) (sym stopped.1) (not_upgraded stopped.0 is_stopped)

-- from what is said of them: as many as there were
pub stopped_many : (head count log : ℕ) (old new : List LogState) (listed : List (List LogItem)) → (n : ℕ) × (log ≡ head + n) × IsStopped head count n old new listed → length new ≡ length old
stopped_many head count log old new listed stopped = stopped.2.many
