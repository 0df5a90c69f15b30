-- Open logs in use that are made ready for appends, on all devices.
use Rattle.std.proofs.Common.{◌≡◌, ℕ, ◌+◌, ◌<◌, ◌≤◌, inl, inr, List, length, map, refl, sym, ◌∙◌, subst, arith}
use Rattle.std.specs.Prelude.{◌⊎◌}
use Rattle.std.specs.List.{AllZip}
use Rattle.snap_base.proofs.Booleans.{three_ways}
use Rattle.gate_log.specs.declared.logs.LogItem.{LogItem}
use Rattle.gate_log.specs.State.{LogState, log_at}
use Rattle.log_compact.specs.Compacting.{IsOnSide}
use Rattle.log_opening.specs.Counted.{FailsUpgrade, HasOldFormat}
use Rattle.log_opening.specs.Devices.{Device, as_device, device_at, HoldNoOld, IsDevicePrepared, IsOpened, IsUpgradeCutOff}
use Rattle.log_opening.specs.Found.{AreAllFound, IsBegunOn, IsFoundOn, IsHandled, IsReadyLog}
use Rattle.log_opening.specs.Kept.{AreUsed}
use Rattle.log_opening.specs.Upgrades.{AreAllReady, IsLeftOld, IsMadeReady, IsStopped, items_at}
use Rattle.log_opening.proofs.AllFound.{all_whole, found_at, ready_at}
use Rattle.log_opening.proofs.Numbers.{each_device, on_device, zip_four}
use Rattle.log_opening.proofs.ReadyOne.{ReadyLaws, begun_on, still_ready, no_old, is_old, prepared, handled, cut_off, handled_failed, has_risen}
use Rattle.snap_outside.specs.Causes.{Rose}

-- Those in use are open, hold these items, and are of format 2 now; the others are only opened.
pub record AllReady (head count : ℕ) (before : List Device) (logs : List LogState) (found : List (List LogItem)) : Type 0 where
  pub begun : (l : ℕ) → l < count → IsBegunOn (device_at before (head + l)) (as_device (log_at logs (head + l))) (items_at found (head + l))
  pub ready : (l : ℕ) → l < count → IsReadyLog (log_at logs (head + l)) (items_at found (head + l))
  pub second : (l : ℕ) → l < count → (log_at logs (head + l)).format ≡ 2
  pub recent : HoldNoOld head count before
  pub many : length logs ≡ 4
  pub found_on : (d : ℕ) → d < 4 → ¬ IsOnSide head count d → IsFoundOn (device_at before d) (as_device (log_at logs d)) (items_at found d)
  pub found_ready : (d : ℕ) → d < 4 → ¬ IsOnSide head count d → IsReadyLog (log_at logs d) (items_at found d)
  pub handled : AllZip IsHandled before (map as_device logs)

pub opened_on : (b a : Device) (items : List LogItem) → IsFoundOn b a items → IsOpened b a
opened_on b a items on = (on.opened.0, items, on.opened.1)

handled_on : (b a : Device) (items : List LogItem) → IsFoundOn b a items → IsHandled b a
handled_on b a items on = record { prepared = inl (inr (inl (opened_on b a items on))); safe = on.safe }

-- the ones behind this number, or not in use at all, are not among the first
pub above_not : (head n l : ℕ) → n < l → ¬ IsOnSide head (n + 1) (head + l)
above_not head n l gt = λ side. let before : head + l < head + (n + 1) = side.before in omega (arith, before, gt)

pub aside_not : (head n count d : ℕ) → n < count → ¬ IsOnSide head count d → ¬ IsOnSide head (n + 1) d
aside_not head n count d lt not = λ side. let before : d < head + (n + 1) = side.before in not (record { behind = side.behind; before = omega (arith, before, lt) })

module _ (laws : ReadyLaws) (before : List Device) (old new : List LogState) (found : List (List LogItem)) (head count : ℕ) (all : AreAllFound before old found) (within : head + count ≤ 4) (many : length new ≡ length old) where
  used_at : (l : ℕ) → l < count → IsFoundOn (device_at before (head + l)) (as_device (log_at old (head + l))) (items_at found (head + l))
  used_at l lt = found_at before old found all (head + l) (omega (arith, lt, within))

  used_ready : (l : ℕ) → l < count → IsReadyLog (log_at old (head + l)) (items_at found (head + l))
  used_ready l lt = ready_at before old found all (head + l) (omega (arith, lt, within))

  -- one that is as it was
  same_on : (d : ℕ) → d < 4 → log_at new d ≡ log_at old d → IsFoundOn (device_at before d) (as_device (log_at new d)) (items_at found d)
  same_on d lt same = subst (λ (x : LogState). IsFoundOn (device_at before d) (as_device x) (items_at found d)) (sym same) (found_at before old found all d lt)

  same_opened : (d : ℕ) → d < 4 → log_at new d ≡ log_at old d → IsOpened (device_at before d) (device_at (map as_device new) d)
  same_opened d lt same =
      on_device (λ (a : Device). IsOpened (device_at before d) a) new d (opened_on (device_at before d) (as_device (log_at new d)) (items_at found d) (same_on d lt same))

  all_handled : ((l : ℕ) → l < count → IsHandled (device_at before (head + l)) (as_device (log_at new (head + l)))) → ((d : ℕ) → ¬ IsOnSide head count d → log_at new d ≡ log_at old d)
      → AllZip IsHandled before (map as_device new)
  all_handled used aside = zip_four IsHandled before new (all_whole before old found all) (many ∙ all.many)
      (each_device (λ (d : ℕ). IsHandled (device_at before d) (as_device (log_at new d))) head count used
      (λ d lt not. handled_on (device_at before d) (as_device (log_at new d)) (items_at found d) (same_on d lt (aside d not))))

  -- ---- one of those in use that is made ready

  module _ (l : ℕ) (lt : l < count) (made : IsMadeReady (log_at old (head + l)) (log_at new (head + l)) (items_at found (head + l))) where
    made_handled : IsHandled (device_at before (head + l)) (as_device (log_at new (head + l)))
    made_handled = handled laws (device_at before (head + l)) (log_at old (head + l)) (log_at new (head + l)) (items_at found (head + l)) (used_at l lt) (used_ready l lt) made

    made_prepared : IsDevicePrepared (device_at before (head + l)) (device_at (map as_device new) (head + l))
    made_prepared = on_device (λ (a : Device). IsDevicePrepared (device_at before (head + l)) a) new (head + l)
        (prepared laws (device_at before (head + l)) (log_at old (head + l)) (log_at new (head + l)) (items_at found (head + l)) (used_at l lt) (used_ready l lt) made)

  -- of the first of them that are of format 2, so many
  none_old : (n : ℕ) → n ≤ count → ((l : ℕ) → l < n → IsMadeReady (log_at old (head + l)) (log_at new (head + l)) (items_at found (head + l))) → ((l : ℕ) → l < n → (log_at new (head + l)).format ≡ 2)
      → HoldNoOld head n before
  none_old n few made second = λ l lt.
      let here : l < count = omega (arith, lt, few) in
      no_old laws (device_at before (head + l)) (log_at old (head + l)) (log_at new (head + l)) (items_at found (head + l)) (used_at l here) (used_ready l here) (made l lt) (second l lt)

  pub are_ready : AreAllReady head count old new found → AllReady head count before new found
  are_ready is = record {
    begun = λ l lt. begun_on laws (device_at before (head + l)) (log_at old (head + l)) (log_at new (head + l)) (items_at found (head + l)) (used_at l lt) (used_ready l lt)
        (items_at found (head + l)) (is.all.below l lt) (is.second l lt);
    ready = λ l lt. still_ready laws (device_at before (head + l)) (log_at old (head + l)) (log_at new (head + l)) (items_at found (head + l)) (used_at l lt) (used_ready l lt)
        (items_at found (head + l)) (is.all.below l lt);
    second = is.second;
    recent = none_old count (omega arith) is.all.below is.second;
    many = many ∙ all.many;
    found_on = λ d lt not. same_on d lt (is.all.others d not);
    found_ready = λ d lt not. subst (λ (x : LogState). IsReadyLog x (items_at found d)) (sym (is.all.others d not)) (ready_at before old found all d lt);
    handled = all_handled (λ l lt. made_handled l lt (is.all.below l lt)) is.all.others;
  }

  -- ---- one is still of format 1

  pub left_old : (generation n : ℕ) → AreUsed count before head count generation → IsLeftOld head count n old new found
      → HasOldFormat count before (map as_device new) (head + n) × AllZip IsHandled before (map as_device new)
  left_old generation n used left = (
    record {
      head = head;
      generation = generation;
      used = used;
      number = n;
      asked = left.asked;
      is = refl;
      old = is_old laws (device_at before (head + n)) (log_at old (head + n)) (log_at new (head + n)) (items_at found (head + n)) (used_at n left.asked) (used_ready n left.asked)
          (left.all.below n left.asked) left.old_format;
      least = none_old n (omega (arith, left.asked)) (λ l lt. left.all.below l (omega (arith, lt, left.asked))) left.least;
      prepared = λ l lt. made_prepared l lt (left.all.below l lt);
      aside = λ d lt not. same_opened d lt (left.all.others d not);
    },
    all_handled (λ l lt. made_handled l lt (left.all.below l lt)) left.all.others,
  )

  -- ---- the upgrade of one failed

  module _ (n : ℕ) (stopped : IsStopped head count n old new found) where
    failed_handled : IsHandled (device_at before (head + n)) (as_device (log_at new (head + n)))
    failed_handled =
        handled_failed laws (device_at before (head + n)) (log_at old (head + n)) (log_at new (head + n)) (items_at found (head + n)) (used_at n stopped.asked) (used_ready n stopped.asked) stopped.failed

    went : (l : ℕ) → l < count → (l < n) ⊎ ((l ≡ n) ⊎ (n < l)) → IsHandled (device_at before (head + l)) (as_device (log_at new (head + l)))
    went l lt (inl low) = made_handled l lt (stopped.below l low)
    went l lt (inr (inl same)) = subst (λ (i : ℕ). IsHandled (device_at before (head + i)) (as_device (log_at new (head + i)))) (sym same) failed_handled
    went l lt (inr (inr gt)) =
        handled_on (device_at before (head + l)) (as_device (log_at new (head + l))) (items_at found (head + l)) (same_on (head + l) (omega (arith, lt, within)) (stopped.others (head + l) (above_not head n l gt)))

    pub failed : (generation : ℕ) → AreUsed count before head count generation → FailsUpgrade count before (map as_device new) (head + n) × AllZip IsHandled before (map as_device new)
    failed generation used = (
      record {
        head = head;
        generation = generation;
        used = used;
        number = n;
        asked = stopped.asked;
        is = refl;
        cut_off = on_device (λ (a : Device). IsUpgradeCutOff (device_at before (head + n)) a) new (head + n)
            (cut_off laws (device_at before (head + n)) (log_at old (head + n)) (log_at new (head + n)) (items_at found (head + n)) (used_at n stopped.asked) (used_ready n stopped.asked) stopped.failed);
        rose = on_device (λ (a : Device). Rose (device_at before (head + n)).faults a.faults) new (head + n)
            (has_risen laws (device_at before (head + n)) (log_at old (head + n)) (log_at new (head + n)) (items_at found (head + n)) (used_at n stopped.asked) (used_ready n stopped.asked)
            (items_at found (head + n)) stopped.failed);
        below = λ l lt. made_prepared l (omega (arith, lt, stopped.asked)) (stopped.below l lt);
        above = λ l gt lt. same_opened (head + l) (omega (arith, lt, within)) (stopped.others (head + l) (above_not head n l gt));
        aside = λ d lt not. same_opened d lt (stopped.others d (aside_not head n count d stopped.asked not));
      },
      all_handled (λ l lt. went l lt (three_ways l n)) (λ d not. stopped.others d (aside_not head n count d stopped.asked not)),
    )
