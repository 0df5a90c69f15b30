-- All four logs opened for a run, those in use made ready for appends and then decoded.
use Rattle.std.proofs.Common.{◌≡◌, ◌≢◌, ℕ, ◌+◌, ◌<◌, ◌≤◌, inl, inr, List, [], ◌∷◌, length, map, refl, sym, ◌∙◌, subst, arith, Result, Ok, Err}
use Rattle.std.specs.Prelude.{MatchResult}
use Rattle.std.specs.List.{AllZip}
use Rattle.gate_log.specs.declared.logs.LogItem.{LogItem}
use Rattle.gate_log.specs.declared.opens.OpenNo.{OpenNo}
use Rattle.gate_log.specs.declared.opens.OpenNo.TheVariants as refusal
use Rattle.gate_log.specs.State.{LogState, log_at}
use Rattle.txn_records.specs.declared.records.Record.{Record}
use Rattle.record_log.specs.Records.{AreItemsOf}
use Rattle.record_log.specs.RecordLogLaws.{OpenedHeld, ItemsAreRecords}
use Rattle.snap_recover.specs.declared.causes.LogCause.TheVariants as cause
use Rattle.log_compact.specs.Compacting.{IsOnSide}
use Rattle.log_opening.specs.declared.refusals.LogsNo.{LogsNo}
use Rattle.log_opening.specs.declared.refusals.LogsNo.TheVariants as ending
use Rattle.log_opening.specs.Devices.{Device, as_device, device_at, AreBegun, IsBegun, IsOpened}
use Rattle.log_opening.specs.Found.{AreAllFound, IsTouched, IsHandled, IsHalted, no_of_opening, IsNoDecoding}
use Rattle.log_opening.specs.Kept.{AreUsed, records_at}
use Rattle.log_opening.specs.Counted.{AreNotRead, AreOpenWith, AreMadeReady, IsAsideLog, IsUsedLog}
use Rattle.log_opening.specs.Upgrades.{AreNotReady, items_at}
use Rattle.log_opening.proofs.AllFound.{all_opened, all_touched}
use Rattle.log_opening.proofs.Numbers.{on_device}
use Rattle.log_opening.proofs.Places.{zip_weaker}
use Rattle.log_opening.proofs.Reading.{IsPart, all_items, bad_record, each_record, lists_held, lists_many}
use Rattle.log_opening.proofs.ReadyAll.{AllReady, failed, left_old, opened_on}
use Rattle.log_opening.proofs.ReadyOne.{ReadyLaws}
use Rattle.log_opening.proofs.Refusing.{Stop, device_failed, no_memory, not_opened, stopped}

-- ---- not all are opened

stop_read : (count log : ℕ) (before after : List Device) (why : OpenNo) → log < 4 → Stop log before after why → AreNotRead count before after (no_of_opening log why)
stop_read count log before after (refusal.NotALog offset) lt stop = not_opened log before after (refusal.NotALog offset) lt stop
stop_read count log before after (refusal.Damage offset) lt stop = not_opened log before after (refusal.Damage offset) lt stop
stop_read count log before after refusal.Device lt stop = inl (device_failed log before after lt stop)
stop_read count log before after refusal.Memory lt stop = inl (inr (log, lt, stop.refused, stop.reached))

pub halted_read : (count : ℕ) (before after : List Device) (answer : LogsNo) → IsHalted 4 before after answer → AreNotRead count before after answer
halted_read count before after answer halted = elim (halted.why) [
  | inl memory ↦ subst (λ (n : LogsNo). AreNotRead count before after n) (sym memory.0) (inl (no_memory memory.1.0 before after memory.1.1 memory.1.2))
  | inr at ↦ subst (λ (n : LogsNo). AreNotRead count before after n) (sym at.4) (stop_read count at.0 before after at.1 at.2 (stopped at.0 before after at.1 at.3))
]

-- what is only opened is handled
pub opened_handled : (before after : List Device) → AllZip IsTouched before after → AllZip IsHandled before after
opened_handled before after all = zip_weaker IsTouched IsHandled before after (λ b a one. record { prepared = inl one.opened; safe = one.safe }) all

-- ---- another number of logs is in use

pub other_count : (count : ℕ) (before after : List Device) (logs : List LogState) (found : List (List LogItem)) (head kept generation : ℕ) → AreAllFound before logs found → after ≡ map as_device logs
    → AreUsed count before head kept generation → kept ≢ count → AreNotRead count before after (ending.Refused head 0 (cause.LogCount kept count)) × AllZip IsHandled before after
other_count count before after logs found head kept generation all same used other =
    subst (λ (ds : List Device). AreNotRead count before ds (ending.Refused head 0 (cause.LogCount kept count)) × AllZip IsHandled before ds) (sym same) (
      (refl, record { generation = generation; used = used; other = other; texts = refl; opened = all_opened before logs found all }),
      opened_handled before (map as_device logs) (all_touched before logs found all),
    )

-- ---- not made ready

pub not_ready : ReadyLaws → (before : List Device) (old new : List LogState) (found : List (List LogItem)) (head count generation : ℕ) (answer : LogsNo) → AreAllFound before old found → head + count ≤ 4
    → length new ≡ length old → AreUsed count before head count generation → AreNotReady head count old new found answer
    → AreNotRead count before (map as_device new) answer × AllZip IsHandled before (map as_device new)
not_ready laws before old new found head count generation (ending.Refused log offset cause.OldFormat) all within many used why =
    let is = left_old laws before old new found head count all within many generation why.1.0 used why.1.2 in
    subst (λ (l : ℕ). AreNotRead count before (map as_device new) (ending.Refused l offset cause.OldFormat) × AllZip IsHandled before (map as_device new)) (sym why.1.1) ((why.0, is.0), is.1)
not_ready laws before old new found head count generation (ending.Refused log offset c) all within many used why = absurd why
not_ready laws before old new found head count generation (ending.Device log) all within many used why =
    let is = failed laws before old new found head count all within many why.0 why.2 generation used in
    subst (λ (l : ℕ). AreNotRead count before (map as_device new) (ending.Device l) × AllZip IsHandled before (map as_device new)) (sym why.1) (inr is.0, is.1)
not_ready laws before old new found head count generation ending.Memory all within many used why = absurd why

-- ---- decoded, or not

-- a log that holds no record has no item
no_items : (items : List LogItem) (rs : List Record) → AreItemsOf items rs → rs ≡ [] → items ≡ []
no_items [] rs are none = refl
no_items (i ∷ items) rs are none = let bad : are.0 ∷ are.1 ≡ [] = sym are.2 ∙ none in absurd (cc)

module _ (law : OpenedHeld) (before : List Device) (old new : List LogState) (found part : List (List LogItem)) (head count generation : ℕ) (all : AreAllFound before old found) (is : IsPart found part head count) (used : AreUsed count before head count generation) (ready : AllReady head count before new found) where
  are_begun : AreBegun head count before (map as_device new)
  are_begun = record {
    begun = λ l lt.
        let on = ready.begun l lt in
        on_device (λ (a : Device). IsBegun (device_at before (head + l)) a) new (head + l) (on.begun.0, items_at found (head + l), on.begun.1);
    aside = λ d lt not. on_device (λ (a : Device). IsOpened (device_at before d) a) new d (opened_on (device_at before d) (as_device (log_at new d)) (items_at found d) (ready.found_on d lt not));
  }

  ready_now : AreMadeReady count before (map as_device new)
  ready_now = record { head = head; generation = generation; used = used; recent = ready.recent; begun = are_begun }

  no_read : (answer : LogsNo) → IsNoDecoding head part answer → AreNotRead count before (map as_device new) answer
  no_read (ending.Refused log offset cause.BadRecord) why = (bad_record law before old found part head count all is count generation (map as_device new) log offset used why, ready_now)
  no_read (ending.Refused log offset c) why = absurd why
  no_read (ending.Device log) why = absurd why
  no_read ending.Memory why = inr ready_now

  pub not_decoded : (answer : LogsNo) → IsNoDecoding head part answer → AreNotRead count before (map as_device new) answer × AllZip IsHandled before (map as_device new)
  not_decoded answer why = (no_read answer why, ready.handled)

  used_log : (lists : List (List Record)) → AllZip AreItemsOf part lists → (l : ℕ) → l < count → IsUsedLog (device_at before (head + l)) (log_at new (head + l)) (records_at lists l)
  used_log lists zip l lt = record {
    items = items_at found (head + l);
    begun = ready.begun l lt;
    ready = ready.ready l lt;
    second = ready.second l lt;
    are = all_items law before old found part head count all is lists zip l lt;
  }

  aside_log : (d : ℕ) → d < 4 → ¬ IsOnSide head count d → IsAsideLog (device_at before d) (log_at new d)
  aside_log d lt not = record { items = items_at found d; found = ready.found_on d lt not; ready = ready.found_ready d lt not }

  -- where log 0 holds no record, no item was found on the head
  head_empty : (lists : List (List Record)) → AllZip AreItemsOf part lists → length lists ≡ count → 1 ≤ length lists → records_at lists 0 ≡ [] → items_at found head ≡ []
  head_empty lists zip many some none =
      let here : head + 0 ≡ head = omega arith in
      let are : AreItemsOf (items_at found (head + 0)) (records_at lists 0) = all_items law before old found part head count all is lists zip 0 (omega (arith, some, many)) in
      no_items (items_at found head) (records_at lists 0) (subst (λ (d : ℕ). AreItemsOf (items_at found d) (records_at lists 0)) here are) none

  pub decoded : ItemsAreRecords → (items_at found head ≡ [] → (head ≡ 0) × (generation ≡ 0)) → (lists : List (List Record)) → AllZip AreItemsOf part lists → AreOpenWith before new head generation lists × (length lists ≡ count)
  decoded each begun lists zip =
      let many : length lists ≡ count = lists_many law before old found part head count all is lists zip in
      let back : count ≡ length lists = sym many in (
        record {
          used = subst (λ (n : ℕ). AreUsed n before head n generation) back used;
          recent = λ l lt. ready.recent l (omega (arith, lt, many));
          each = each_record each part lists zip;
          held = lists_held law before old found part head count all is lists zip;
          many = ready.many;
          within = omega (arith, many, is.within);
          in_use = λ l lt. used_log lists zip l (omega (arith, lt, many));
          aside = subst (λ (n : ℕ). (d : ℕ) → d < 4 → ¬ IsOnSide head n d → IsAsideLog (device_at before d) (log_at new d)) back aside_log;
          handled = ready.handled;
          begun = λ some none. begun (head_empty lists zip many some none);
        },
        many,
      )

  -- as decoding answers
  pub read_all : ItemsAreRecords → (items_at found head ≡ [] → (head ≡ 0) × (generation ≡ 0)) → (r : Result (List (List Record)) LogsNo) → MatchResult r (λ lists. AllZip AreItemsOf part lists) (λ a. IsNoDecoding head part a)
      → MatchResult r (λ lists. AreOpenWith before new head generation lists × (length lists ≡ count)) (λ a. AreNotRead count before (map as_device new) a × AllZip IsHandled before (map as_device new))
  read_all each begun (Ok lists) zip = decoded each begun lists zip
  read_all each begun (Err a) why = not_decoded a why
