-- Clearing the other side, device by device.
use Rattle.std.proofs.Common.{◌≡◌, ℕ, ◌+◌, ◌<◌, ◌≤◌, inl, inr, true, false, Bool, List, [], ◌++◌, append_assoc, refl, ◌∙◌, ap, subst, arith, Option, Some, None}
use Rattle.std.proofs.lemmas.Bool.{cases_lt}
use Rattle.std.specs.Prelude.{IfSome, ◌⊎◌, ◌==◌, if◌then◌else◌}
use Rattle.snap_outside.specs.declared.devices.DevOp.{DevOp}
use Rattle.snap_outside.specs.Disk.{DeviceHistory, Disk, disk, content, settled, EachMoment, with_ops}
use Rattle.snap_outside.specs.Moments.{moments_join, moments_weaker, disk_join}
use Rattle.gate_log.specs.declared.logs.LogItem.{LogItem}
use Rattle.gate_log.specs.Bytes.{IsLog}
use Rattle.gate_log.specs.Device.{DeviceLog, ClearsSafely}
use Rattle.gate_log.specs.LogLaws.{OneReading, OneList, OpeningAdds, OpeningGives, PlacedIsLogAt}
use Rattle.gate_log.specs.Opened.{bytes_of, opening_ops, Opened}
use Rattle.gate_log.specs.State.{LogState, log_at}
use Rattle.txn_records.specs.declared.records.Record.{Record}
use Rattle.record_log.specs.Records.{spelled, HoldsRecords, IsKeptImage, KeepsRecords}
use Rattle.log_compact.specs.Compacting.{IsOnSide, other_side}
use Rattle.log_compact.specs.Sides.{AreDone, IsCleared, IsClearFailed, IsDoneUpTo}
use Rattle.log_opening.specs.Counted.{IsAsideLog}
use Rattle.log_opening.specs.Devices.{Device, as_device, IsEmptied, IsEmptyingCutOff, IsToBeCleared}
use Rattle.log_opening.proofs.Numbers.{in_use_or_not}
use Rattle.log_opening.proofs.ReadyOne.{opened_items}
use Rattle.run_opening.specs.Opens.{KeepsOrEmpties}
use Rattle.run_opening.specs.Writes.{IsSideCleared, IsSideCutOff}

-- what the logs promise
pub record ClearLaws : Type 0 where
  pub one_reading : OneReading
  pub lists : OneList
  pub placed : PlacedIsLogAt
  pub adds : OpeningAdds
  pub gives : OpeningGives

-- ---- one device

-- the closed gate of the log that was found is where the open log has it
opened_end : ClearLaws → (told new : Option DeviceHistory) (e end : ℕ) (items : List LogItem) → Opened told new e items → IfSome new (λ g. DeviceLog g end (bytes_of items)) → Opened told new end items
opened_end laws None new e end items opened log = opened
opened_end laws (Some h) new e end items opened log =
    let ops = opening_ops (content h) in
    let adds : new ≡ Some (with_ops h ops) = laws.adds h new e items opened in
    let there : DeviceLog (with_ops h ops) end (bytes_of items) = subst (λ (m : Option DeviceHistory). IfSome m (λ g. DeviceLog g end (bytes_of items))) adds log in
    let here = laws.gives h new e items opened in
    subst (λ (n : ℕ). Opened (Some h) new n items) (laws.one_reading (content (with_ops h ops)) e end (bytes_of items) (bytes_of items) here.log there.log).0 opened

module _ (laws : ClearLaws) (b : Device) (l : LogState) (is : IsAsideLog b l) where
  opened_there : Opened b.told l.told l.end is.items
  opened_there = opened_end laws b.told l.told is.found.opened.0 l.end is.items is.found.opened.1 is.ready.holds

  pub emptied : (k : LogState) → IsCleared l k → IsEmptied b (as_device k)
  emptied k clear = (l.end, is.items, l.told, opened_there, clear.adds)

  pub emptying_cut_off : (k : LogState) → IsClearFailed l k → IsEmptyingCutOff b (as_device k)
  emptying_cut_off k clear = (l.end, is.items, l.told, opened_there, clear.adds)

-- ---- what a crash leaves

module _ (laws : ClearLaws) (h : DeviceHistory) (mid : Option DeviceHistory) (items : List LogItem) (keeps : KeepsRecords (Some h) mid) (there : IsLog (content h) (bytes_of items)) where
  abbrev between : DeviceHistory
  between = record { first = h.first; ops = h.ops ++ keeps.0 }

  abbrev Either : List Record → List ℕ → Type 0
  Either rs image = HoldsRecords image rs ⊎ HoldsRecords image []

  abbrev EitherItems : List ℕ → Type 0
  EitherItems image = IsLog image (bytes_of items) ⊎ IsLog image []

  as_records : (rs : List Record) → HoldsRecords (content h) rs → (image : List ℕ) → EitherItems image → Either rs image
  as_records rs held image (inl all) =
      let same : bytes_of items ≡ spelled rs = laws.lists (content h) (bytes_of items) (spelled rs) there held.log in
      inl (record { log = subst (λ (l : List (List ℕ)). IsLog image l) same all; each = held.each })
  as_records rs held image (inr none) = inr (record { log = none; each = tt })

  all_moments : (rs : List Record) (ops : List DevOp) → disk h ≡ settled (content h) → HoldsRecords (content h) rs → EachMoment (disk between) ops EitherItems → EachMoment (disk h) (keeps.0 ++ ops) (Either rs)
  all_moments rs ops quiet held later =
      let first = moments_weaker (IsKeptImage (content h) rs) (Either rs) (λ image is. inl is.0) (disk h) keeps.0 (keeps.2 quiet rs held) in
      let behind = moments_weaker EitherItems (Either rs) (as_records rs held) (disk between) ops later in
      moments_join (disk h) keeps.0 ops (Either rs) first (subst (λ (d : Disk). EachMoment d ops (Either rs)) (disk_join h.ops keeps.0 (settled h.first)) behind)

  pub keeps_or_empties : (new : Option DeviceHistory) (end : ℕ) → IfSome mid (λ g. DeviceLog g end (bytes_of items)) → ClearsSafely mid new end → KeepsOrEmpties (Some h) new
  keeps_or_empties new end log safe =
      let here : DeviceLog between end (bytes_of items) = subst (λ (m : Option DeviceHistory). IfSome m (λ g. DeviceLog g end (bytes_of items))) keeps.1 log in
      let clear = subst (λ (m : Option DeviceHistory). ClearsSafely m new end) keeps.1 safe in (
        keeps.0 ++ clear.0,
        clear.1 ∙ ap (λ (l : List DevOp). Some (record { first = h.first; ops = l })) (append_assoc h.ops keeps.0 clear.0),
        (λ quiet rs held. all_moments rs clear.0 quiet held (clear.2 (bytes_of items) here)),
      )

safely : ClearLaws → (told mid new : Option DeviceHistory) (e end : ℕ) (items : List LogItem) → Opened told mid e items → KeepsRecords told mid → IfSome mid (λ g. DeviceLog g end (bytes_of items))
    → ClearsSafely mid new end → KeepsOrEmpties told new
safely laws None mid new e end items opened keeps log safe = tt
safely laws (Some h) mid new e end items opened keeps log safe = keeps_or_empties laws h mid items keeps (opened_items laws.placed h mid e items opened) new end log safe

-- opened, and then cleared or not
pub cleared_safely : ClearLaws → (b : Device) (l : LogState) (new : Option DeviceHistory) → IsAsideLog b l → ClearsSafely l.told new l.end → KeepsOrEmpties b.told new
cleared_safely laws b l new is safe = safely laws b.told l.told new is.found.opened.0 l.end is.items is.found.opened.1 is.found.safe.records is.ready.holds safe

pub none_emptied : (old new : Option DeviceHistory) → KeepsRecords old new → KeepsOrEmpties old new
none_emptied None new keeps = tt
none_emptied (Some h) new keeps = (
  keeps.0,
  keeps.1,
  (λ quiet rs held. moments_weaker (IsKeptImage (content h) rs) (λ image. HoldsRecords image rs ⊎ HoldsRecords image []) (λ image is. inl is.0) (disk h) keeps.0 (keeps.2 quiet rs held)),
)

-- ---- which are to be cleared

pub asked_or_not : (head count generation d : ℕ) → IsToBeCleared head count generation d ⊎ (¬ IsToBeCleared head count generation d)
asked_or_not head count generation d = by (cases_lt 0 generation) (cases_lt 2 count) (in_use_or_not (other_side head count) count d)
  where
    by : (0 < generation) ⊎ (generation ≤ 0) → (2 < count) ⊎ (count ≤ 2) → IsOnSide (other_side head count) count d ⊎ (¬ IsOnSide (other_side head count) count d)
        → IsToBeCleared head count generation d ⊎ (¬ IsToBeCleared head count generation d)
    by (inr none) few side = inr (λ asked. omega (arith, asked.checkpoint, none))
    by (inl some) (inl many) side = inr (λ asked. omega (arith, asked.few, many))
    by (inl some) (inr few) (inl on) = inl (record { checkpoint = omega (arith, some); few = few; side = on })
    by (inl some) (inr few) (inr off) = inr (λ asked. off asked.side)

-- the other side lies among the four
pub other_within : (head count : ℕ) → count ≤ 2 → other_side head count + count ≤ 4
other_within head count few = by (head == 0)
  where
    by : (b : Bool) → (if b then count else 0) + count ≤ 4
    by true = omega (arith, few)
    by false = omega (arith, few)

pub asked_within : (head count generation d : ℕ) → IsToBeCleared head count generation d → d < 4
asked_within head count generation d asked = omega (arith, other_within head count asked.few, asked.side.before)

-- ---- all of them, or up to one

module _ (head count generation : ℕ) (old new : List LogState) (some : 1 ≤ generation) (few : count ≤ 2) where
  pub all_cleared : (from : ℕ) → from ≡ other_side head count → AreDone IsCleared from (from + count) old new → IsSideCleared head count generation old new
  all_cleared from is done = record {
    many = done.many;
    cleared = λ d asked. done.there d (omega (arith, is, asked.side.behind)) (omega (arith, is, asked.side.before));
    same = λ d none. not_there d none (cases_lt d from) (cases_lt d (from + count));
  }
    where
      not_there : (d : ℕ) → ¬ IsToBeCleared head count generation d → (d < from) ⊎ (from ≤ d) → (d < from + count) ⊎ (from + count ≤ d) → log_at new d ≡ log_at old d
      not_there d none (inl low) more = done.before d low
      not_there d none (inr behind) (inr above) = done.behind d above
      not_there d none (inr behind) (inl before) =
          absurd (none (record { checkpoint = some; few = few; side = record { behind = omega (arith, is, behind); before = omega (arith, is, before) } }))

  pub cut_off_at : (from n : ℕ) → from ≡ other_side head count → IsDoneUpTo IsCleared IsClearFailed from (from + count) n old new → IsSideCutOff head count generation n old new
  cut_off_at from n is done = record {
    many = done.many;
    asked = record { checkpoint = some; few = few; side = record { behind = omega (arith, is, done.reached); before = omega (arith, is, done.asked) } };
    failed = done.failed;
    below = λ d asked lt. done.there d (omega (arith, is, asked.side.behind)) lt;
    above = λ d asked lt. done.behind d lt;
    same = λ d none. not_there d none (cases_lt d from) (cases_lt d (from + count)) (cases_lt n d);
  }
    where
      not_there : (d : ℕ) → ¬ IsToBeCleared head count generation d → (d < from) ⊎ (from ≤ d) → (d < from + count) ⊎ (from + count ≤ d) → (n < d) ⊎ (d ≤ n) → log_at new d ≡ log_at old d
      not_there d none (inl low) more last = done.before d low
      not_there d none (inr behind) more (inl above) = done.behind d above
      not_there d none (inr behind) (inr out) (inr le) = absurd (omega (arith, out, le, done.asked))
      not_there d none (inr behind) (inl before) (inr le) =
          absurd (none (record { checkpoint = some; few = few; side = record { behind = omega (arith, is, behind); before = omega (arith, is, before) } }))

-- there is no other side, or no checkpoint
pub none_cleared : (head count generation : ℕ) (logs : List LogState) → (generation ≡ 0) ⊎ (2 < count) → IsSideCleared head count generation logs logs
none_cleared head count generation logs why = record {
  many = refl;
  cleared = λ d asked. absurd (elim why [ inl none ↦ omega (arith, none, asked.checkpoint) | inr many ↦ omega (arith, many, asked.few) ]);
  same = λ d none. refl;
}
