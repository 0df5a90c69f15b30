-- Why nothing is recovered, from what the parts answer.
use Rattle.std.proofs.Common.{◌≡◌, ℕ, ◌<◌, ◌≤◌, inl, inr, List, length, set, map, refl, sym, ◌∙◌, ap, subst, arith}
use Rattle.std.proofs.lemmas.List.{get_or-set_same}
use Rattle.gate_log.specs.declared.logs.LogItem.{LogItem}
use Rattle.gate_log.specs.declared.opens.OpenNo.{OpenNo}
use Rattle.gate_log.specs.declared.opens.OpenNo.TheVariants as refusal
use Rattle.gate_log.specs.Opened.{Refused}
use Rattle.gate_log.specs.State.{LogState}
use Rattle.txn_records.specs.declared.records.Record.{Record}
use Rattle.record_log.specs.RecordLogLaws.{OpenedHeld}
use Rattle.snap_outside.specs.Causes.{Rose}
use Rattle.snap_recover.specs.declared.causes.LogCause.TheVariants as cause
use Rattle.log_opening.specs.declared.refusals.LogsNo.{LogsNo}
use Rattle.log_opening.specs.declared.refusals.LogsNo.TheVariants as ending
use Rattle.log_opening.specs.Devices as devices
use Rattle.log_opening.specs.Devices.{as_device, device_at, AreOpened, IsReached}
use Rattle.log_opening.specs.Found.{IsLeftClosed, AreAllFound, AreFound, IsStoppedAt, IsHalted, no_of_opening, IsNoDecoding, IsNoFold}
use Rattle.log_opening.specs.Kept.{AreGiven, AreUsed, HasFailedDevice, IsLogsNo, IsNotOpened}
use Rattle.log_opening.proofs.Opening.{found_next, found_reached}
use Rattle.log_opening.proofs.AllFound.{all_opened}
use Rattle.log_opening.proofs.Reading.{IsPart, bad_record}

-- ---- opening

-- what is said of a device that was not opened
pub record Stop (log : ℕ) (before after : List devices.Device) (why : OpenNo) : Type 0 where
  pub refused : Refused (device_at before log).told (device_at after log).told why
  pub rose : why ≡ refusal.Device → Rose (device_at before log).faults (device_at after log).faults
  pub reached : IsReached log before after

stop_of : (before mid : List devices.Device) (found : List (List LogItem)) (new : devices.Device) (why : OpenNo) → AreFound before mid found → length found < length mid
    → IsLeftClosed (device_at mid (length found)) new why → Stop (length found) before (set mid (length found) new) why
stop_of before mid found new why are lt closed =
    let was : device_at mid (length found) ≡ device_at before (length found) = found_next before mid found are in
    let is : new ≡ device_at (set mid (length found) new) (length found) = sym (get_or-set_same mid (length found) new _ lt) in
    let here : IsLeftClosed (device_at before (length found)) (device_at (set mid (length found) new) (length found)) why =
    subst (λ (d : devices.Device). IsLeftClosed (device_at before (length found)) d why) is (subst (λ (d : devices.Device). IsLeftClosed d new why) was closed) in
    record {
      refused = here.refused;
      rose = here.failed;
      reached = found_reached before mid found new are;
    }

pub stopped : (log : ℕ) (before after : List devices.Device) (why : OpenNo) → IsStoppedAt log before after why → Stop log before after why
stopped log before after why at =
    let p = at.parts in
    let lt : length p.1 < length p.0 = omega (arith, p.4, p.5) in
    let closed : IsLeftClosed (device_at p.0 (length p.1)) p.2 why = subst (λ (n : ℕ). IsLeftClosed (device_at p.0 n) p.2 why) p.4 p.7 in
    let after_is : after ≡ set p.0 (length p.1) p.2 = p.6 ∙ ap (λ (n : ℕ). set p.0 n p.2) p.4 in
    subst (λ (n : ℕ). Stop n before after why) (sym p.4) (subst (λ (l : List devices.Device). Stop (length p.1) before l why) (sym after_is) (stop_of before p.0 p.1 p.2 why p.3 lt closed))

pub not_opened : (log : ℕ) (before after : List devices.Device) (why : OpenNo) → log < 4 → Stop log before after why → IsNotOpened before after log why
not_opened log before after why there stop = record { there = there; refused = stop.refused; reached = stop.reached }

pub device_failed : (log : ℕ) (before after : List devices.Device) → log < 4 → Stop log before after refusal.Device → HasFailedDevice before after log
device_failed log before after there stop = record { not_opened = not_opened log before after refusal.Device there stop; rose = stop.rose refl }

stop_no : (log : ℕ) (before after : List devices.Device) (why : OpenNo) → log < 4 → Stop log before after why → IsLogsNo before after (no_of_opening log why)
stop_no log before after (refusal.NotALog offset) there stop = not_opened log before after (refusal.NotALog offset) there stop
stop_no log before after (refusal.Damage offset) there stop = not_opened log before after (refusal.Damage offset) there stop
stop_no log before after refusal.Device there stop = device_failed log before after there stop
stop_no log before after refusal.Memory there stop = inr (log, there, stop.refused, stop.reached)

-- there was no memory behind the opening of some of them
pub no_memory : (n : ℕ) (before after : List devices.Device) → n ≤ 4 → AreOpened n before after → devices.LacksMemory (λ log. log < 4) before after
no_memory n before after few opened = inl (n, (λ log lt. omega (arith, lt, few)), opened)

pub halted_no : (before after : List devices.Device) (answer : LogsNo) → IsHalted 4 before after answer → IsLogsNo before after answer
halted_no before after answer halted = elim (halted.why) [
  | inl memory ↦ subst (λ (n : LogsNo). IsLogsNo before after n) (sym memory.0) (no_memory memory.1.0 before after memory.1.1 memory.1.2)
  | inr at ↦ subst (λ (n : LogsNo). IsLogsNo before after n) (sym at.4) (stop_no at.0 before after at.1 at.2 (stopped at.0 before after at.1 at.3))
]

-- ---- decoding

pub decoding_no : OpenedHeld → (before : List devices.Device) (logs : List LogState) (found part : List (List LogItem)) (head count generation : ℕ) (answer : LogsNo) → AreUsed 1 before head count generation
    → AreAllFound before logs found → IsPart found part head count → IsNoDecoding head part answer → IsLogsNo before (map as_device logs) answer
decoding_no law before logs found part head count generation (ending.Refused log offset cause.BadRecord) used all is why =
    (bad_record law before logs found part head count all is 1 generation (map as_device logs) log offset used why, all_opened before logs found all)
decoding_no law before logs found part head count generation (ending.Refused log offset c) used all is why = absurd why
decoding_no law before logs found part head count generation (ending.Device log) used all is why = absurd why
decoding_no law before logs found part head count generation ending.Memory used all is why = no_memory 4 before (map as_device logs) (omega arith) (all_opened before logs found all)

-- ---- folding

pub fold_no : (before after : List devices.Device) (head : ℕ) (lists : List (List Record)) (answer : LogsNo) → AreGiven before head lists → AreOpened 4 before after → IsNoFold head lists answer
    → IsLogsNo before after answer
fold_no before after head lists (ending.Refused log offset cause.NotALog) given opened why = absurd why.1.2
fold_no before after head lists (ending.Refused log offset cause.Damage) given opened why = absurd why.1.2
fold_no before after head lists (ending.Refused log offset cause.BadRecord) given opened why = absurd why.1.2
fold_no before after head lists (ending.Refused log offset c) given opened why =
    (why.0, record { head = head; lists = lists; given = given; number = why.1.0; is = why.1.1; cause_is = why.1.2 }, opened)
fold_no before after head lists (ending.Device log) given opened why = absurd why
fold_no before after head lists ending.Memory given opened why = no_memory 4 before after (omega arith) opened
