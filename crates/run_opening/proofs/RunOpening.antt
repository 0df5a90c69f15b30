-- A run that begins on its logs, or does not.
use Rattle.std.proofs.Common.{◌≡◌, ◌≢◌, ℕ, ◌+◌, ◌<◌, ◌≤◌, inl, inr, List, [], ◌∷◌, ◌++◌, zero, suc, length, map, drop, filter, append-nil, refl, sym, ◌∙◌, ap, subst, arith, Some, false}
use Rattle.std.proofs.lemmas.Bool.{cases_lt}
use Rattle.std.proofs.lemmas.List.{get_or-drop, get_or-take, length-drop, length-map, length-take-le}
use Rattle.std.proofs.lemmas.Slice.Zip.{AllZip-long}
use Rattle.std.specs.Prelude.{◌⊎◌}
use Rattle.std.specs.List.{AllByRecursion, AllZip}
use Rattle.snap_base.specs.declared.transactions.State.{State}
use Rattle.snap_outside.specs.Causes.{Rose}
use Rattle.snap_outside.specs.Disk.{AddsUpToFault}
use Rattle.gate_log.specs.declared.limits.TheConstants.{FARTHEST_END}
use Rattle.gate_log.specs.Appends.{append_ops}
use Rattle.gate_log.specs.Device.{ClearsSafely, HasFormat}
use Rattle.gate_log.specs.State.{LogState, AreAllOpen, IsUntouched, log_at}
use Rattle.txn_records.specs.declared.records.Record.{Record}
use Rattle.txn_records.specs.declared.records.Record.TheVariants.{Genesis}
use Rattle.txn_records.specs.Records.{IsRecord, IsState}
use Rattle.record_log.specs.Growth.{GrewBy, MayAppendGroup}
use Rattle.record_log.specs.Records.{spelled, CrashesRecords, KeepsRecords}
use Rattle.snap_recover.specs.declared.openings.Opening.{Opening}
use Rattle.snap_recover.specs.Logs.{all_of, is_genesis, geneses}
use Rattle.log_compact.specs.Compacting.{IsOnSide}
use Rattle.log_compact.specs.declared.folds.Folded.{Folded}
use Rattle.log_compact.specs.Folds.{BegunListsFold, FoldsAreBegun, FoldsAreOfRecords, fresh_fold}
use Rattle.log_compact.specs.Sets.{IsFolded}
use Rattle.log_compact.specs.Sides.{IsCleared}
use Rattle.log_compact.proofs.Moments.{side_of}
use Rattle.log_opening.specs.declared.refusals.LogsNo.{LogsNo}
use Rattle.log_opening.specs.declared.refusals.LogsNo.TheVariants as ending
use Rattle.log_opening.specs.Devices.{Device, device_at, as_device, AreAside, AreBegun, IsBegun, IsEmptied, IsEmptyingCutOff, IsOpened, IsToBeCleared}
use Rattle.log_opening.specs.Found.{IsTouched, IsHandled}
use Rattle.log_opening.specs.Kept.{DeviceHolds}
use Rattle.log_opening.specs.Counted.{AreOpenWith, AreNotRead}
use Rattle.log_opening.proofs.Numbers.{at_logs, each_device, each_zip, on_device, on_side, zip_four}
use Rattle.log_opening.proofs.Places.{zip_weaker}
use Rattle.run_opening.specs.declared.limits.TheConstants.{LARGEST_START}
use Rattle.run_opening.specs.Begins.{AreEmpty, IsUnspent, GoesOn, Begins, fresh_opening}
use Rattle.run_opening.specs.Starts.{first_record, IsStart, IsNoStart}
use Rattle.run_opening.specs.Opens.{AreHeldEmpty, AreSafe, BeginsSafely, FailsClear, FailsFirst, HasRoomToBegin, IsNoRun, IsRunLog, KeepsOrAdds, KeepsOrEmpties, as_groups, first_groups, records_at, with_first}
use Rattle.run_opening.specs.Writes.{AreNotPrepared, ArePrepared, IsWritten, IsNotWritten, IsSideCleared, IsSideCutOff, HasOpenedRun, HasOpenedNoRun, logs_in_use}
use Rattle.run_opening.proofs.Clearing.{ClearLaws, asked_or_not, asked_within, cleared_safely, emptied, emptying_cut_off, none_emptied}
use Rattle.run_opening.proofs.RunLogs.{AddsFrontOf, LogLaws, not_written_front, used_log, written_front, written_log, written_safely}
use Rattle.run_opening.proofs.Starting.{starts_with_states, added_are}

-- ---- the opening

-- the records fold to the opening
abbrev pub FoldTo : List (List Record) → Opening → Type 0
FoldTo logs o = (f : Folded) × IsFolded logs f × (f.opening ≡ o)

-- what the logs hold when the run begins folds to the opening
pub folds_now : BegunListsFold → (logs : List (List Record)) (states : List State) (o : Opening) (added : List Record) → 1 ≤ length logs → IsStart logs states o added → FoldTo (with_first logs added) o
folds_now law [] states o added some start = absurd (omega (arith, some))
folds_now law (rs ∷ logs) states o added some (inl new) =
    let size : length (rs ∷ logs) ≡ length logs + 1 = omega arith in
    let here : rs ++ added ≡ Genesis (length (rs ∷ logs)) states ∷ [] = ap (λ (l : List Record). l ++ added) new.0.0 ∙ new.2 in (
      fresh_fold states,
      subst (λ (l : List Record). IsFolded (l ∷ logs) (fresh_fold states)) (sym here) (law (length (rs ∷ logs)) logs states size new.0.1),
      sym new.1,
    )
folds_now law (rs ∷ logs) states o added some (inr on) =
    subst (λ (l : List Record). FoldTo (l ∷ logs) o) (sym (ap (λ (l : List Record). rs ++ l) on.1 ∙ append-nil rs)) on.0.folded

-- ---- it begins again

pub begins_unwritten : (logs : List (List Record)) (states : List State) (o : Opening) (added : List Record) → IsStart logs states o added → Begins logs states o
begins_unwritten logs states o added (inl new) = inl (new.0, new.1)
begins_unwritten logs states o added (inr on) = inr on.0

pub no_geneses : (logs : List (List Record)) → AreEmpty logs → all_of logs ≡ []
no_geneses [] empty = refl
no_geneses (rs ∷ logs) empty = ap (λ (l : List Record). l ++ all_of logs) empty.0 ∙ no_geneses logs empty.1

pub begins_written : BegunListsFold → (logs : List (List Record)) (states : List State) (o : Opening) (added : List Record) → 1 ≤ length logs → IsStart logs states o added → Begins (with_first logs added) states o
begins_written law [] states o added some start = absurd (omega (arith, some))
begins_written law (rs ∷ logs) states o added some (inl new) =
    let first : Record = Genesis (length (rs ∷ logs)) states in
    let here : rs ++ added ≡ first ∷ [] = ap (λ (l : List Record). l ++ added) new.0.0 ∙ new.2 in
    let one : geneses ((first ∷ []) ∷ logs) ≡ first ∷ [] = ap (λ (l : List Record). first ∷ filter is_genesis l) (no_geneses logs new.0.1) in
    inr (record {
      some = λ empty. (let none : first ∷ [] ≡ [] = sym here ∙ empty.0 in cc);
      folded = folds_now law (rs ∷ logs) states o added some (inl new);
      same = subst (λ (l : List Record). geneses (l ∷ logs) ≡ first ∷ []) (sym here) one;
      unspent = subst IsUnspent (sym new.1) (record { tid = omega arith; bid = omega arith; c = omega arith });
    })
begins_written law (rs ∷ logs) states o added some (inr on) =
    subst (λ (l : List Record). Begins (l ∷ logs) states o) (sym (ap (λ (l : List Record). rs ++ l) on.1 ∙ append-nil rs)) (inr on.0)

-- ---- the numbers

unspent_room : (o : Opening) → IsUnspent o → 1 ≤ o.next_tid.0 → 1 ≤ o.next_bid.0 → 1 ≤ o.next_c → HasRoomToBegin o
unspent_room o unspent tid bid c = record {
  some_tid = tid;
  some_bid = bid;
  some_c = c;
  tids = omega (arith, unspent.tid);
  bids = omega (arith, unspent.bid);
  cs = omega (arith, unspent.c);
}

goes_on_room : FoldsAreBegun → (logs : List (List Record)) (states : List State) (o : Opening) → GoesOn logs states o → HasRoomToBegin o
goes_on_room begun logs states o on =
    let is = begun logs on.folded.0 on.folded.1 in
    let same = on.folded.2 in
    unspent_room o on.unspent
    (subst (λ (p : Opening). 1 ≤ p.next_tid.0) same is.some_tid)
    (subst (λ (p : Opening). 1 ≤ p.next_bid.0) same is.some_bid)
    (subst (λ (p : Opening). 1 ≤ p.next_c) same is.some_c)

pub start_room : FoldsAreBegun → (logs : List (List Record)) (states : List State) (o : Opening) (added : List Record) → IsStart logs states o added → HasRoomToBegin o
start_room begun logs states o added (inl new) =
    subst HasRoomToBegin (sym new.1) (record { some_tid = omega arith; some_bid = omega arith; some_c = omega arith; tids = omega arith; bids = omega arith; cs = omega arith })
start_room begun logs states o added (inr on) = goes_on_room begun logs states o on.0

-- ---- devices

rose_before : (before between after : ℕ) → before ≤ between → Rose between after → Rose before after
rose_before before between after le rose = omega (arith, le, rose)

handled_keeps : (bs ms : List Device) → AllZip IsHandled bs ms → AllZip (λ (b a : Device). KeepsRecords b.told a.told) bs ms
handled_keeps bs ms all = zip_weaker IsHandled (λ (b a : Device). KeepsRecords b.told a.told) bs ms (λ b a one. one.safe.records) all

handled_later : (bs ms : List Device) → AllZip IsHandled bs ms → AllZip (λ (b a : Device). b.faults ≤ a.faults) bs ms
handled_later bs ms all = zip_weaker IsHandled (λ (b a : Device). b.faults ≤ a.faults) bs ms (λ b a one. one.safe.later) all

-- logs on devices that are as they were
same_devices : (old new : List LogState) → length new ≡ length old → ((d : ℕ) → as_device (log_at new d) ≡ as_device (log_at old d)) → map as_device new ≡ map as_device old
same_devices [] [] long each = refl
same_devices [] (k ∷ new) long each = absurd (omega (arith, long))
same_devices (l ∷ old) [] long each = absurd (omega (arith, long))
same_devices (l ∷ old) (k ∷ new) long each =
    ap (λ (d : Device). d ∷ map as_device new) (each 0) ∙ ap (λ (ds : List Device). as_device l ∷ ds) (same_devices old new (omega (arith, long)) (λ d. each (suc d)))

-- ---- the logs in use

in_use_at : (head count : ℕ) (logs : List LogState) (n : ℕ) → n < count → log_at (logs_in_use head count logs) n ≡ log_at logs (head + n)
in_use_at head count logs n lt = get_or-take count (drop head logs) n _ lt ∙ get_or-drop head logs n _

in_use_long : (head count : ℕ) (logs : List LogState) → head + count ≤ length logs → length (logs_in_use head count logs) ≡ count
in_use_long head count logs le =
    let size = length-drop head logs in
    length-take-le count (drop head logs) (omega (arith, le, size))

no_groups : (n : ℕ) → first_groups n [] ≡ []
no_groups zero = refl
no_groups (suc n) = refl

all_empty_at : (lists : List (List Record)) (l : ℕ) → AreEmpty lists → records_at lists l ≡ []
all_empty_at [] zero empty = refl
all_empty_at [] (suc l) empty = refl
all_empty_at (rs ∷ lists) zero empty = empty.0
all_empty_at (rs ∷ lists) (suc l) empty = all_empty_at lists l empty.1

pub record Laws : Type 0 where
  pub logs : LogLaws
  pub clears : ClearLaws
  pub of_records : FoldsAreOfRecords
  pub begun : FoldsAreBegun
  pub fresh : BegunListsFold

-- ---- four open logs, of which some are in use

module _ (laws : Laws) (states : List State) (before : List Device) (logs : List LogState) (head generation : ℕ) (records : List (List Record)) (some : 1 ≤ length records) (lie : AreOpenWith before logs head generation records) where
  abbrev count : ℕ
  count = length records

  abbrev Asked : ℕ → Type 0
  Asked d = IsToBeCleared head count generation d

  whole : length before ≡ 4
  whole = sym (AllZip-long IsHandled before (map as_device logs) lie.handled) ∙ length-map logs as_device ∙ lie.many

  side : (head ≡ 0) ⊎ (count ≡ head)
  side = elim (lie.used.used) [ inl set ↦ set.is_head.side | inr none ↦ inl none.1 ]

  -- no log in use is to be cleared
  apart : (d : ℕ) → IsOnSide head count d → ¬ Asked d
  apart d on asked = side_of head count side some d on asked.side

  not_in_use : (d : ℕ) → Asked d → ¬ IsOnSide head count d
  not_in_use d asked on = apart d on asked

  handled_at : (d : ℕ) → d < 4 → IsHandled (device_at before d) (as_device (log_at logs d))
  handled_at d lt =
      let here : IsHandled (device_at before d) (device_at (map as_device logs) d) = each_zip IsHandled before (map as_device logs) _ _ d lie.handled (omega (arith, lt, whole)) in
      subst (λ (a : Device). IsHandled (device_at before d) a) (at_logs logs d) here

  ready_at : (d : ℕ) → d < 4 → ((log_at logs d).shut ≡ false) × ((log_at logs d).end ≤ FARTHEST_END)
  ready_at d lt = each_device (λ (d : ℕ). ((log_at logs d).shut ≡ false) × ((log_at logs d).end ≤ FARTHEST_END)) head count
      (λ l lt. let is = lie.in_use l lt in (is.ready.ready, is.ready.low)) (λ d lt not. let is = lie.aside d lt not in (is.ready.ready, is.ready.low)) d lt

  pub are_open : AreAllOpen logs
  are_open l lt = (ready_at l (omega (arith, lt, lie.many))).0

  pub first_low : (log_at logs 0).end ≤ FARTHEST_END
  first_low = (ready_at 0 (omega arith)).1

  opened_at : (d : ℕ) → d < 4 → ¬ IsOnSide head count d → IsOpened (device_at before d) (as_device (log_at logs d))
  opened_at d lt not = let is = lie.aside d lt not in (is.found.opened.0, is.items, is.found.opened.1)

  begun_at : (l : ℕ) → l < count → IsBegun (device_at before (head + l)) (as_device (log_at logs (head + l)))
  begun_at l lt = let is = lie.in_use l lt in (is.begun.begun.0, is.items, is.begun.begun.1)

  are_begun : AreBegun head count before (map as_device logs)
  are_begun = record {
    begun = λ l lt. on_device (λ (a : Device). IsBegun (device_at before (head + l)) a) logs (head + l) (begun_at l lt);
    aside = λ d lt not. on_device (λ (a : Device). IsOpened (device_at before d) a) logs d (opened_at d lt not);
  }

  run_at : (n : ℕ) → n < count → IsRunLog (device_at before (head + n)) (log_at logs (head + n)) (log_at logs (head + n)).end (records_at records n) []
  run_at n lt = used_log laws.logs (device_at before (head + n)) (log_at logs (head + n)) (records_at records n) (lie.in_use n lt)

  -- what is said of a device whose log is as it was
  kept_on : (R : Device → Type 0) (new : List LogState) (d : ℕ) → log_at new d ≡ log_at logs d → R (as_device (log_at logs d)) → R (device_at (map as_device new) d)
  kept_on R new d same is = on_device R new d (subst (λ (l : LogState). R (as_device l)) (sym same) is)

  -- ---- the run does not go on from the records

  pub not_started : (answer : LogsNo) → IsNoStart head records states answer → HasOpenedNoRun count states before (map as_device logs) answer
  not_started answer why = record {
    why = inl (
      inr (record { head = head; generation = generation; used = lie.used; records = records; many = refl; held = lie.held; why = why; recent = lie.recent; begun = are_begun }),
      lie.handled,
    );
    safe = inl (handled_keeps before (map as_device logs) lie.handled);
    later = handled_later before (map as_device logs) lie.handled;
  }

  -- ---- it goes on

  module _ (o : Opening) (on : GoesOn records states o) (new : List LogState) where
    start : IsStart records states o []
    start = inr (on, refl)

    -- the device is cleared, or as it was
    emptied_at : (d : ℕ) → d < 4 → Asked d → IsCleared (log_at logs d) (log_at new d) → IsEmptied (device_at before d) (device_at (map as_device new) d)
    emptied_at d lt asked clear =
        on_device (λ (a : Device). IsEmptied (device_at before d) a) new d (emptied laws.clears (device_at before d) (log_at logs d) (lie.aside d lt (not_in_use d asked)) (log_at new d) clear)

    emptied_safely : (d : ℕ) → d < 4 → Asked d → ClearsSafely (log_at logs d).told (log_at new d).told (log_at logs d).end → KeepsOrEmpties (device_at before d).told (device_at (map as_device new) d).told
    emptied_safely d lt asked safe =
        on_device (λ (a : Device). KeepsOrEmpties (device_at before d).told a.told) new d
        (cleared_safely laws.clears (device_at before d) (log_at logs d) (log_at new d).told (lie.aside d lt (not_in_use d asked)) safe)

    kept_records : (d : ℕ) → d < 4 → log_at new d ≡ log_at logs d → KeepsRecords (device_at before d).told (device_at (map as_device new) d).told
    kept_records d lt same = kept_on (λ (a : Device). KeepsRecords (device_at before d).told a.told) new d same (handled_at d lt).safe.records

    kept_faults : (d : ℕ) → d < 4 → (log_at logs d).faults ≤ (log_at new d).faults → (device_at before d).faults ≤ (as_device (log_at new d)).faults
    kept_faults d lt le = omega (arith, (handled_at d lt).safe.later, le)

    same_faults : (d : ℕ) → log_at new d ≡ log_at logs d → (log_at logs d).faults ≤ (log_at new d).faults
    same_faults d same = omega (arith, ap (λ (l : LogState). l.faults) same)

    module _ (done : IsSideCleared head count generation logs new) where
      aside_now : AreAside head count generation before (map as_device new)
      aside_now = record {
        cleared = λ d lt asked. emptied_at d lt asked (done.cleared d asked);
        kept = λ d lt not none. kept_on (λ (a : Device). IsOpened (device_at before d) a) new d (done.same d none) (opened_at d lt not);
      }

      log_now : (n : ℕ) → n < count → log_at (logs_in_use head count new) n ≡ log_at logs (head + n)
      log_now n lt = in_use_at head count new n lt ∙ done.same (head + n) (apart (head + n) (on_side head count n lt))

      run_now : (n : ℕ) → n < count → (end : ℕ) × IsRunLog (device_at before (head + n)) (log_at (logs_in_use head count new) n) end (records_at records n) (first_groups n [])
      run_now n lt = (
        (log_at logs (head + n)).end,
        subst (λ (l : LogState). IsRunLog (device_at before (head + n)) l (log_at logs (head + n)).end (records_at records n) (first_groups n [])) (sym (log_now n lt))
            (subst (λ (gs : List (List Record)). IsRunLog (device_at before (head + n)) (log_at logs (head + n)) (log_at logs (head + n)).end (records_at records n) gs) (sym (no_groups n)) (run_at n lt)),
      )

      faults_now : (d : ℕ) → IsToBeCleared head count generation d ⊎ (¬ IsToBeCleared head count generation d) → (log_at logs d).faults ≤ (log_at new d).faults
      faults_now d (inl asked) = (done.cleared d asked).later
      faults_now d (inr none) = same_faults d (done.same d none)

      safe_now : AreSafe count states before (map as_device new)
      safe_now = by (cases_lt 0 generation)
        where
          by : (0 < generation) ⊎ (generation ≤ 0) → AreSafe count states before (map as_device new)
          by (inl lt) = inr (inl (record {
            head = head;
            generation = generation;
            used = lie.used;
            checkpoint = omega (arith, lt);
            cleared = λ d lt asked. emptied_safely d lt asked (done.cleared d asked).safe;
            kept = λ d lt none. kept_records d lt (done.same d none);
          }))
          by (inr le) = inl (zip_four (λ (b a : Device). KeepsRecords b.told a.told) before new whole (done.many ∙ lie.many)
              (λ d lt. subst (λ (l : LogState). KeepsRecords (device_at before d).told l.told) (sym (done.same d (λ asked. omega (arith, asked.checkpoint, le)))) (handled_at d lt).safe.records))

      pub goes_on : AllByRecursion IsState states → HasOpenedRun count states before (map as_device new) head (logs_in_use head count new) o
      goes_on are =
          let states_are = starts_with_states laws.of_records laws.begun records states o [] lie.each are start in
          record {
            opens = (
              records,
              [],
              refl,
              record {
                generation = generation;
                used = lie.used;
                start = start;
                each = lie.each;
                held = lie.held;
                recent = lie.recent;
                as_many = in_use_long head count new (omega (arith, lie.within, lie.many, done.many));
                log = run_now;
                aside = aside_now;
                folds = folds_now laws.fresh records states o [] some start;
              },
            );
            room = start_room laws.begun records states o [] start;
            actors = states_are.0;
            kept = states_are.1;
            ends = λ n lt. omega (arith, ap (λ (l : LogState). l.end) (log_now n lt), (run_at n lt).low);
            safe = safe_now;
            later = zip_four (λ (b a : Device). b.faults ≤ a.faults) before new whole (done.many ∙ lie.many)
                (λ d lt. kept_faults d lt (faults_now d (asked_or_not head count generation d)));
          }

    module _ (n : ℕ) (cut : IsSideCutOff head count generation n logs new) where
      n_within : n < 4
      n_within = asked_within head count generation n cut.asked

      rose_now : Rose (device_at before n).faults (device_at (map as_device new) n).faults
      rose_now = on_device (λ (a : Device). Rose (device_at before n).faults a.faults) new n
          (rose_before (device_at before n).faults (log_at logs n).faults (log_at new n).faults (handled_at n n_within).safe.later cut.failed.rose)

      cut_off_now : IsEmptyingCutOff (device_at before n) (device_at (map as_device new) n)
      cut_off_now = on_device (λ (a : Device). IsEmptyingCutOff (device_at before n) a) new n
          (emptying_cut_off laws.clears (device_at before n) (log_at logs n) (lie.aside n n_within (not_in_use n cut.asked)) (log_at new n) cut.failed)

      opened_as_it_was : (d : ℕ) → d < 4 → ¬ IsOnSide head count d → log_at new d ≡ log_at logs d → IsOpened (device_at before d) (device_at (map as_device new) d)
      opened_as_it_was d lt not same = kept_on (λ (a : Device). IsOpened (device_at before d) a) new d same (opened_at d lt not)

      -- cleared, cut off, or as it was
      cleared_or_not : (d : ℕ) → d < 4 → Asked d → (d < n) ⊎ (n ≤ d) → (n < d) ⊎ (d ≤ n) → KeepsOrEmpties (device_at before d).told (device_at (map as_device new) d).told
      cleared_or_not d lt asked (inl less) more = emptied_safely d lt asked (cut.below d asked less).safe
      cleared_or_not d lt asked (inr le) (inl more) = none_emptied (device_at before d).told (device_at (map as_device new) d).told (kept_records d lt (cut.above d asked more))
      cleared_or_not d lt asked (inr le) (inr ge) =
          let here : n ≡ d = omega (arith, le, ge) in
          emptied_safely d lt asked (subst (λ (m : ℕ). ClearsSafely (log_at logs m).told (log_at new m).told (log_at logs m).end) here cut.failed.safe)

      faults_cut : (d : ℕ) → IsToBeCleared head count generation d ⊎ (¬ IsToBeCleared head count generation d) → (d < n) ⊎ (n ≤ d) → (n < d) ⊎ (d ≤ n) → (log_at logs d).faults ≤ (log_at new d).faults
      faults_cut d (inr none) less more = same_faults d (cut.same d none)
      faults_cut d (inl asked) (inl less) more = (cut.below d asked less).later
      faults_cut d (inl asked) (inr le) (inl more) = same_faults d (cut.above d asked more)
      faults_cut d (inl asked) (inr le) (inr ge) =
          let here : n ≡ d = omega (arith, le, ge) in
          subst (λ (m : ℕ). (log_at logs m).faults ≤ (log_at new m).faults) here cut.failed.later

      fails_clear : FailsClear count states before (map as_device new) n
      fails_clear = record {
        head = head;
        generation = generation;
        used = lie.used;
        records = records;
        many = refl;
        held = lie.held;
        begins = (o, on);
        asked = cut.asked;
        rose = rose_now;
        cut_off = cut_off_now;
        below = λ d asked lt. emptied_at d (omega (arith, lt, n_within)) asked (cut.below d asked lt);
        above = λ d asked lt. let here : d < 4 = asked_within head count generation d asked in opened_as_it_was d here (not_in_use d asked) (cut.above d asked lt);
        begun = λ l lt. kept_on (λ (a : Device). IsBegun (device_at before (head + l)) a) new (head + l) (cut.same (head + l) (apart (head + l) (on_side head count l lt))) (begun_at l lt);
        rest = λ d lt not none. opened_as_it_was d lt not (cut.same d none);
      }

      pub not_cleared : HasOpenedNoRun count states before (map as_device new) (ending.Device n)
      not_cleared = record {
        why = inr (inl (n, refl, fails_clear));
        safe = inr (inl (record {
          head = head;
          generation = generation;
          used = lie.used;
          checkpoint = cut.asked.checkpoint;
          cleared = λ d lt asked. cleared_or_not d lt asked (cases_lt d n) (cases_lt n d);
          kept = λ d lt none. kept_records d lt (cut.same d none);
        }));
        later = zip_four (λ (b a : Device). b.faults ≤ a.faults) before new whole (cut.many ∙ lie.many)
            (λ d lt. kept_faults d lt (faults_cut d (asked_or_not head count generation d) (cases_lt d n) (cases_lt n d)));
      }

-- ---- no log in use holds a record

module _ (laws : Laws) (states : List State) (before : List Device) (logs : List LogState) (records : List (List Record)) (some : 1 ≤ length records) (lie : AreOpenWith before logs 0 0 records) (o : Opening) (added : List Record) (empty : AreEmpty records) (is : o ≡ fresh_opening states) (group : added ≡ first_record (length records) states ∷ []) where
  abbrev many_logs : ℕ
  many_logs = length records

  fresh_start : IsStart records states o added
  fresh_start = inl (empty, is, group)

  all_whole : length before ≡ 4
  all_whole = whole laws states before logs 0 0 records some lie

  handled_on : (d : ℕ) → d < 4 → IsHandled (device_at before d) (as_device (log_at logs d))
  handled_on = handled_at laws states before logs 0 0 records some lie

  held_empty : AreHeldEmpty many_logs before
  held_empty = record {
    used = lie.used;
    empty = λ l lt.
        let here : 0 + l ≡ l = omega arith in
        let held : DeviceHolds (device_at before (0 + l)) (records_at records l) = lie.held l lt in
        subst (λ (rs : List Record). DeviceHolds (device_at before l) rs) (all_empty_at records l empty) (subst (λ (d : ℕ). DeviceHolds (device_at before d) (records_at records l)) here held);
  }

  first_log : IsRunLog (device_at before 0) (log_at logs 0) (log_at logs 0).end (records_at records 0) []
  first_log = run_at laws states before logs 0 0 records some lie 0 (omega (arith, some))

  pub first_second : (log_at logs 0).format ≡ 2
  first_second = first_log.second

  first_format : HasFormat (log_at logs 0).told 2
  first_format = subst (λ (n : ℕ). HasFormat (log_at logs 0).told n) first_second (lie.in_use 0 (omega (arith, some))).ready.formatted

  pub first_records : AllByRecursion IsState states → 1 ≤ length states → length states ≤ 256 → many_logs ≤ 4 → AllByRecursion IsRecord added × (length added ≤ 1)
  first_records are some_states few few_logs = added_are records added states o some few_logs some_states few are fresh_start

  not_first : (d : ℕ) → ¬ IsOnSide 0 many_logs d → d ≢ 0
  not_first d not e = not (record { behind = omega arith; before = omega (arith, some, e) })

  module _ (new : List LogState) (long : length new ≡ length logs) (others : (d : ℕ) → d ≢ 0 → log_at new d ≡ log_at logs d) where
    as_four : length new ≡ 4
    as_four = long ∙ lie.many

    on_other : (R : Device → Type 0) (d : ℕ) → d ≢ 0 → R (as_device (log_at logs d)) → R (device_at (map as_device new) d)
    on_other R d not there = kept_on laws states before logs 0 0 records some lie R new d (others d not) there

    first_safe : MayAppendGroup (log_at logs 0).end added → AddsFrontOf (log_at logs 0).told (log_at new 0).told (log_at logs 0).end added → CrashesRecords (log_at logs 0).told (log_at new 0).told (log_at logs 0).end added
        → BeginsSafely many_logs states before (map as_device new)
    first_safe may front crashes = record {
      empty = held_empty;
      first = on_device (λ (a : Device). KeepsOrAdds (device_at before 0).told a.told (first_record many_logs states ∷ [])) new 0
          (subst (λ (rs : List Record). KeepsOrAdds (device_at before 0).told (log_at new 0).told rs) group
          (written_safely laws.logs (device_at before 0) (log_at logs 0) (log_at logs 0).end (records_at records 0) added (log_at new 0).told first_log (handled_on 0 (omega arith)).safe.records first_format may front crashes));
      others = λ d apart lt. on_other (λ (a : Device). KeepsRecords (device_at before d).told a.told) d (λ e. omega (arith, apart, e)) (handled_on d lt).safe.records;
    }

    later_at : (log_at logs 0).faults ≤ (log_at new 0).faults → (d : ℕ) → d < 4 → (device_at before d).faults ≤ (as_device (log_at new d)).faults
    later_at le zero lt = omega (arith, (handled_on 0 (omega arith)).safe.later, le)
    later_at le (suc d) lt =
        let apart : suc d ≢ 0 = λ e. omega (arith, e) in
        omega (arith, (handled_on (suc d) lt).safe.later, ap (λ (l : LogState). l.faults) (others (suc d) apart))

    all_later : (log_at logs 0).faults ≤ (log_at new 0).faults → AllZip (λ (b a : Device). b.faults ≤ a.faults) before (map as_device new)
    all_later le = zip_four (λ (b a : Device). b.faults ≤ a.faults) before new all_whole as_four (later_at le)

    aside_opened : (d : ℕ) → d < 4 → ¬ IsOnSide 0 many_logs d → IsOpened (device_at before d) (device_at (map as_device new) d)
    aside_opened d lt not = on_other (λ (a : Device). IsOpened (device_at before d) a) d (not_first d not) (opened_at laws states before logs 0 0 records some lie d lt not)

    module _ (w : IsWritten (log_at logs 0) (log_at new 0) added) where
      run_first : (n : ℕ) → n < many_logs → (end : ℕ) × IsRunLog (device_at before (0 + n)) (log_at (logs_in_use 0 many_logs new) n) end (records_at records n) (first_groups n added)
      run_first zero lt = (
        (log_at logs 0).end,
        subst (λ (l : LogState). IsRunLog (device_at before 0) l (log_at logs 0).end (records_at records 0) (as_groups added)) (sym (in_use_at 0 many_logs new 0 lt))
            (written_log laws.logs (device_at before 0) (log_at logs 0) (log_at new 0) (log_at logs 0).end (records_at records 0) added first_log w),
      )
      run_first (suc n) lt =
          let apart : 0 + suc n ≢ 0 = λ e. omega (arith, e) in (
            (log_at logs (0 + suc n)).end,
            subst (λ (l : LogState). IsRunLog (device_at before (0 + suc n)) l (log_at logs (0 + suc n)).end (records_at records (suc n)) []) (sym (in_use_at 0 many_logs new (suc n) lt ∙ others (0 + suc n) apart))
                (run_at laws states before logs 0 0 records some lie (suc n) lt),
          )

      first_ends : (n : ℕ) → n < many_logs → (log_at (logs_in_use 0 many_logs new) n).end ≤ FARTHEST_END + LARGEST_START
      first_ends zero lt = omega (arith, ap (λ (l : LogState). l.end) (in_use_at 0 many_logs new 0 lt), w.little, first_log.low)
      first_ends (suc n) lt =
          let apart : 0 + suc n ≢ 0 = λ e. omega (arith, e) in
          omega (arith, ap (λ (l : LogState). l.end) (in_use_at 0 many_logs new (suc n) lt ∙ others (0 + suc n) apart), (run_at laws states before logs 0 0 records some lie (suc n) lt).low)

      pub begins_first : AllByRecursion IsState states → HasOpenedRun many_logs states before (map as_device new) 0 (logs_in_use 0 many_logs new) o
      begins_first are =
          let states_are = starts_with_states laws.of_records laws.begun records states o added lie.each are fresh_start in
          record {
            opens = (
              records,
              added,
              refl,
              record {
                generation = 0;
                used = lie.used;
                start = fresh_start;
                each = lie.each;
                held = lie.held;
                recent = lie.recent;
                as_many = in_use_long 0 many_logs new (omega (arith, lie.within, as_four));
                log = run_first;
                aside = record { cleared = λ d lt asked. absurd (omega (arith, asked.checkpoint)); kept = λ d lt not none. aside_opened d lt not };
                folds = folds_now laws.fresh records states o added some fresh_start;
              },
            );
            room = start_room laws.begun records states o added fresh_start;
            actors = states_are.0;
            kept = states_are.1;
            ends = first_ends;
            safe = inr (inr (first_safe w.may (written_front (log_at logs 0) (log_at new 0) added w) w.crashes));
            later = all_later w.later;
          }

    module _ (answer : LogsNo) (w : IsNotWritten (log_at logs 0) (log_at new 0) added answer) where
      fails_first : Rose (log_at logs 0).faults (log_at new 0).faults → AddsUpToFault (log_at logs 0).told (log_at new 0).told (append_ops (log_at logs 0).end (spelled added)) → FailsFirst many_logs states before (map as_device new)
      fails_first rose fault = record {
        empty = held_empty;
        rose = on_device (λ (a : Device). Rose (device_at before 0).faults a.faults) new 0
            (rose_before (device_at before 0).faults (log_at logs 0).faults (log_at new 0).faults (handled_on 0 (omega arith)).safe.later rose);
        grew = (
          (log_at logs 0).end,
          first_log.opened.0,
          first_log.opened.1,
          first_log.opened.2,
          on_device (λ (a : Device). GrewBy (device_at before 0).told a.told (log_at logs 0).end [] (Some (first_record many_logs states ∷ []))) new 0
              (subst (λ (g : List Record). GrewBy (device_at before 0).told (log_at new 0).told (log_at logs 0).end [] (Some g)) group
              (laws.logs.fault (device_at before 0).told (log_at logs 0).told (log_at new 0).told (log_at logs 0).end [] added first_log.grew w.may fault)),
        );
        begun = λ l apart lt.
            let here : 0 + l ≡ l = omega arith in
            subst (λ (d : ℕ). IsBegun (device_at before d) (device_at (map as_device new) d)) here
            (on_other (λ (a : Device). IsBegun (device_at before (0 + l)) a) (0 + l) (λ e. omega (arith, apart, e)) (begun_at laws states before logs 0 0 records some lie l lt));
        aside = λ d lt le. aside_opened d lt (λ on. omega (arith, le, on.before));
      }

      same_now : IsUntouched (log_at logs 0) (log_at new 0) → map as_device new ≡ map as_device logs
      same_now same = same_devices logs new long each
        where
          each : (d : ℕ) → as_device (log_at new d) ≡ as_device (log_at logs d)
          each zero = λ i. record { told = same.told i; faults = same.faults i }
          each (suc d) = ap as_device (others (suc d) (λ e. omega (arith, e)))

      no_memory : answer ≡ ending.Memory → IsUntouched (log_at logs 0) (log_at new 0) → IsNoRun many_logs states before (map as_device new) answer
      no_memory none same =
          subst (λ (ds : List Device). IsNoRun many_logs states before ds answer) (sym (same_now same))
          (subst (λ (a : LogsNo). IsNoRun many_logs states before (map as_device logs) a) (sym none)
          (inl (inl (inr (record { head = 0; generation = 0; used = lie.used; recent = lie.recent; begun = are_begun laws states before logs 0 0 records some lie })), lie.handled)))

      pub not_begun_first : HasOpenedNoRun many_logs states before (map as_device new) answer
      not_begun_first = record {
        why = elim (w.why) [
          | inl memory ↦ no_memory memory.0 memory.1
          | inr device ↦ inr (inr (device.0, fails_first device.2 device.3))
        ];
        safe = inr (inr (first_safe w.may (not_written_front (log_at logs 0) (log_at new 0) added answer w) w.crashes));
        later = all_later w.later;
      }

-- ---- all together

module _ (laws : Laws) (states : List State) (before : List Device) (logs : List LogState) (head generation : ℕ) (records : List (List Record)) (some : 1 ≤ length records) (lie : AreOpenWith before logs head generation records) (o : Opening) (added : List Record) where
  -- where no log in use holds a record they are the first ones, and there is no set
  at_first : AreEmpty records → (head ≡ 0) × (generation ≡ 0)
  at_first empty = lie.begun some (all_empty_at records 0 empty)

  lie_first : AreEmpty records → AreOpenWith before logs 0 0 records
  lie_first empty = subst (λ (h : ℕ). AreOpenWith before logs h 0 records) (at_first empty).0 (subst (λ (g : ℕ). AreOpenWith before logs head g records) (at_first empty).1 lie)

  pub added_records : IsStart records states o added → AllByRecursion IsState states → 1 ≤ length states → length states ≤ 256 → length records ≤ 4 → AllByRecursion IsRecord added × (length added ≤ 1)
  added_records start are some_states few few_logs = added_are records added states o some few_logs some_states few are start

  pub format_first : IsStart records states o added → added ≢ [] → (log_at logs 0).format ≡ 2
  format_first (inl new) more = first_second laws states before logs records some (lie_first new.0) o added new.0 new.1 new.2
  format_first (inr on) more = absurd (more on.1)

  something : {r : Record} → added ≡ r ∷ [] → added ≡ [] → ⊥
  something {r} is none = let bad : r ∷ [] ≡ [] = sym is ∙ none in cc

  pub has_begun : AllByRecursion IsState states → IsStart records states o added → (new : List LogState) → ArePrepared head (length records) generation added logs new
      → HasOpenedRun (length records) states before (map as_device new) head (logs_in_use head (length records) new) o
  has_begun are (inl fresh) new (inl cleared) = absurd (something fresh.2 cleared.0)
  has_begun are (inl fresh) new (inr wrote) =
      subst (λ (h : ℕ). HasOpenedRun (length records) states before (map as_device new) h (logs_in_use h (length records) new) o) (sym (at_first fresh.0).0)
      (begins_first laws states before logs records some (lie_first fresh.0) o added fresh.0 fresh.1 fresh.2 new wrote.1.many wrote.1.others wrote.1.written are)
  has_begun are (inr on) new (inl cleared) = goes_on laws states before logs head generation records some lie o on.0 new cleared.1 are
  has_begun are (inr on) new (inr wrote) = absurd (wrote.0 on.1)

  pub has_not_begun : IsStart records states o added → (new : List LogState) (answer : LogsNo) → AreNotPrepared head (length records) generation added logs new answer
      → HasOpenedNoRun (length records) states before (map as_device new) answer
  has_not_begun (inl fresh) new answer (inl cut) = absurd (something fresh.2 cut.0)
  has_not_begun (inl fresh) new answer (inr not) =
      not_begun_first laws states before logs records some (lie_first fresh.0) o added fresh.0 fresh.1 fresh.2 new not.1.many not.1.others answer not.1.not_written
  has_not_begun (inr on) new answer (inl cut) =
      subst (λ (a : LogsNo). HasOpenedNoRun (length records) states before (map as_device new) a) (sym cut.1.1)
      (not_cleared laws states before logs head generation records some lie o on.0 new cut.1.0 cut.1.2)
  has_not_begun (inr on) new answer (inr not) = absurd (not.0 on.1)

-- ---- of so many logs

module _ (laws : Laws) (count : ℕ) (states : List State) (before : List Device) (logs : List LogState) (head generation : ℕ) (records : List (List Record)) (many : length records ≡ count) (some : 1 ≤ count) (lie : AreOpenWith before logs head generation records) where
  some_records : 1 ≤ length records
  some_records = omega (arith, many, some)

  pub all_open : AreAllOpen logs
  all_open = are_open laws states before logs head generation records some_records lie

  pub low_end : (log_at logs 0).end ≤ FARTHEST_END
  low_end = first_low laws states before logs head generation records some_records lie

  pub within_four : head + count ≤ 4
  within_four = omega (arith, many, lie.within)

  pub unstarted : (after : List Device) (answer : LogsNo) → after ≡ map as_device logs → IsNoStart head records states answer → HasOpenedNoRun count states before after answer
  unstarted after answer same why =
      subst (λ (ds : List Device). HasOpenedNoRun count states before ds answer) (sym same)
      (subst (λ (n : ℕ). HasOpenedNoRun n states before (map as_device logs) answer) many (not_started laws states before logs head generation records some_records lie answer why))

  module _ (o : Opening) (added : List Record) (start : IsStart records states o added) where
    pub group_is : AllByRecursion IsState states → 1 ≤ length states → length states ≤ 256 → AllByRecursion IsRecord added × (length added ≤ 1)
    group_is are some_states few = added_records laws states before logs head generation records some_records lie o added start are some_states few (omega (arith, lie.within))

    pub second_first : added ≢ [] → (log_at logs 0).format ≡ 2
    second_first = format_first laws states before logs head generation records some_records lie o added start

    pub prepared_run : AllByRecursion IsState states → (new : List LogState) (after : List Device) → after ≡ map as_device new → ArePrepared head count generation added logs new
        → HasOpenedRun count states before after head (logs_in_use head count new) o
    prepared_run are new after same done =
        subst (λ (ds : List Device). HasOpenedRun count states before ds head (logs_in_use head count new) o) (sym same)
        (subst (λ (n : ℕ). HasOpenedRun n states before (map as_device new) head (logs_in_use head n new) o) many
        (has_begun laws states before logs head generation records some_records lie o added are start new (subst (λ (n : ℕ). ArePrepared head n generation added logs new) (sym many) done)))

    pub unprepared_run : (new : List LogState) (after : List Device) (answer : LogsNo) → after ≡ map as_device new → AreNotPrepared head count generation added logs new answer
        → HasOpenedNoRun count states before after answer
    unprepared_run new after answer same not =
        subst (λ (ds : List Device). HasOpenedNoRun count states before ds answer) (sym same)
        (subst (λ (n : ℕ). HasOpenedNoRun n states before (map as_device new) answer) many
        (has_not_begun laws states before logs head generation records some_records lie o added start new answer (subst (λ (n : ℕ). AreNotPrepared head n generation added logs new answer) (sym many) not)))

-- ---- no run begins, since the logs are not read

pub not_read : (many : ℕ) (states : List State) (before after : List Device) (answer : LogsNo) → AreNotRead many before after answer → AllZip IsHandled before after
    → HasOpenedNoRun many states before after answer
not_read many states before after answer reason touched = record { why = inl (inl reason, touched); safe = inl (handled_keeps before after touched); later = handled_later before after touched }

-- devices that are opened at most are handled
all_handled : (bs ms : List Device) → AllZip IsTouched bs ms → AllZip IsHandled bs ms
all_handled bs ms all = zip_weaker IsTouched IsHandled bs ms (λ b a one. record { prepared = inl one.opened; safe = one.safe }) all

pub nothing_done : ((ds : List Device) → AllZip IsTouched ds ds) → (many : ℕ) (states : List State) (ds : List Device) → HasOpenedNoRun many states ds ds ending.Memory
nothing_done law many states ds =
    not_read many states ds ds ending.Memory (inl (inl (0, (λ log lt. absurd (omega (arith, lt))), record { opened = tt; others = refl }))) (all_handled ds ds (law ds))
