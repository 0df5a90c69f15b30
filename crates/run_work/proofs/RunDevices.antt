-- What a run leaves on its devices: what opening left on its open logs, and what a host made of these, log by log.
use Rattle.std.proofs.Common.{◌≡◌, ℕ, ◌+◌, ◌<◌, ◌≤◌, zero, suc, inl, inr, List, [], ◌∷◌, ◌++◌, length, map, take, drop, refl, sym, ◌∙◌, ap, subst, arith, Bool, true, false, Option}
use Rattle.std.proofs.lemmas.Bool.{cases_lt, eqb-true, eqb-false}
use Rattle.std.specs.Prelude.{◌==◌, ◌⊎◌, if◌then◌else◌}
use Rattle.std.specs.List.{AllByRecursion}
use Rattle.run_opening.specs.gate_log.State.{LogState, log_at}
use Rattle.run_opening.specs.log_opening.log_compact.Compacting.{IsOnSide, other_side}
use Rattle.run_opening.specs.log_opening.log_compact.Finding.{IsUsed}
use Rattle.run_opening.specs.log_opening.Devices.{Device, AreAside, HoldNoOld, IsEmptied, IsOpened, as_device, device_at}
use Rattle.run_opening.specs.log_opening.Kept.{AreUsed}
use Rattle.protocol.specs.Events as machine
use Rattle.run_opening.specs.record_log.Growth.{GrewBy}
use Rattle.run_opening.specs.Opens.{HasRoomToBegin, OpensRun, IsRunLog, first_groups, records_at}
use Rattle.run_opening.specs.Starts.{IsStart}
use Rattle.solo_host.specs.run_effects.Groups.{groups_of, group_behind}
use Rattle.run_recovery.specs.Runs.{IsRunDevice, HasRunWork, machine_of}
use Rattle.run_recovery.specs.Schedules.{Schedule}
use Rattle.run_work.specs.Hosts.{HasDriven, WasRunOnDevices}
use Rattle.snap_base.specs.declared.transactions.State.{State}
use Rattle.snap_outside.specs.Causes.{Rose}
use Rattle.run_opening.specs.snap_recover.declared.openings.Opening.{Opening}
use Rattle.snap_work.specs.Works.{Work}
use Rattle.solo_host.specs.run_effects.Driven.{IsDriven, tried_on}
use Rattle.run_opening.specs.txn_records.declared.records.Record.{Record}

-- ---- logs and devices by their numbers

pub device_of_log : (logs : List LogState) (others : List Device) (l : ℕ) → l < length logs → device_at (map as_device logs ++ others) l ≡ as_device (log_at logs l)
device_of_log [] others l lt = absurd (omega (arith, lt))
device_of_log (g ∷ logs) others zero lt = refl
device_of_log (g ∷ logs) others (suc l) lt = device_of_log logs others l (omega (arith, lt))

-- all devices, where those of these logs stand behind so many of the others
abbrev pub all_with : ℕ → List LogState → List Device → List Device
all_with head logs others = take head others ++ (map as_device logs ++ drop head others)

-- the device of a log in use
pub with_on : (head : ℕ) (logs : List LogState) (others : List Device) (l : ℕ) → head ≤ length others → l < length logs → device_at (all_with head logs others) (head + l) ≡ as_device (log_at logs l)
with_on zero logs others l le lt = let here : 0 + l ≡ l = omega arith in ap (λ (n : ℕ). device_at (map as_device logs ++ others) n) here ∙ device_of_log logs others l lt
with_on (suc h) logs [] l le lt = absurd (omega (arith, le))
with_on (suc h) logs (d ∷ others) l le lt =
    let here : suc h + l ≡ suc (h + l) = omega arith in
    ap (λ (n : ℕ). device_at (d ∷ all_with h logs others) n) here ∙ with_on h logs others l (omega (arith, le)) lt

behind_same : (old new : List LogState) (others : List Device) (d : ℕ) → length new ≡ length old → length old ≤ d → device_at (map as_device new ++ others) d ≡ device_at (map as_device old ++ others) d
behind_same [] [] others d size le = refl
behind_same [] (n ∷ new) others d size le = absurd (omega (arith, size))
behind_same (o ∷ old) [] others d size le = absurd (omega (arith, size))
behind_same (o ∷ old) (n ∷ new) others zero size le = absurd (omega (arith, le))
behind_same (o ∷ old) (n ∷ new) others (suc d) size le = behind_same old new others d (omega (arith, size)) (omega (arith, le))

-- the others stay, whatever the logs do
pub with_off : (head : ℕ) (old new : List LogState) (others : List Device) (d : ℕ) → head ≤ length others → length new ≡ length old → ¬ IsOnSide head (length old) d
    → device_at (all_with head new others) d ≡ device_at (all_with head old others) d
with_off zero old new others d le size off = elim (cases_lt d (length old)) [
  | inl lt ↦ absurd (off (record { behind = omega arith; before = omega (arith, lt) }))
  | inr ge ↦ behind_same old new others d size ge
]
with_off (suc h) old new [] d le size off = absurd (omega (arith, le))
with_off (suc h) old new (x ∷ others) zero le size off = refl
with_off (suc h) old new (x ∷ others) (suc d) le size off =
    with_off h old new others d (omega (arith, le)) size (λ on. off (record { behind = omega (arith, on.behind); before = omega (arith, on.before) }))

-- what lies on the other side is not in use
off_side : (head logs : ℕ) → (head ≡ 0) ⊎ (logs ≡ head) → (d : ℕ) → IsOnSide (other_side head logs) logs d → ¬ IsOnSide head logs d
off_side head logs side d other on = by (head == 0) refl other
  where
    by : (b : Bool) → (head == 0) ≡ b → IsOnSide (if b then logs else 0) logs d → ⊥
    by true e there = omega (arith, eqb-true head 0 e, on.before, there.behind)
    by false e there = elim side [ inl none ↦ absurd (eqb-false head 0 e none) | inr same ↦ omega (arith, same, on.behind, there.before) ]

-- a head other than device 0 has as many logs as its number
side_of : (many : ℕ) (before : List Device) (head count generation : ℕ) → AreUsed many before head count generation → (head ≡ 0) ⊎ (count ≡ head)
side_of many before head count generation used = at used.used
  where
    at : IsUsed used.fronts many head count generation → (head ≡ 0) ⊎ (count ≡ head)
    at (inl set) = set.is_head.side
    at (inr none) = inl none.1

-- what holds of each log by its number holds of all
pub each_log : (P : LogState → Type 0) (logs : List LogState) → ((n : ℕ) → n < length logs → P (log_at logs n)) → AllByRecursion P logs
each_log P [] each = tt
each_log P (g ∷ logs) each = (each 0 (omega arith), each_log P logs (λ n lt. each (suc n) (omega (arith, lt))))

pub rose_earlier : (a b c d : ℕ) → a ≤ b → c ≤ d → Rose b c → Rose a d
rose_earlier a b c d le ge rose = omega (arith, le, ge, rose)

-- ---- one log

run_device : (b a : Device) (old new : LogState) (end : ℕ) (records : List Record) (first groups : List (List Record)) (tried : Option (List Record))
    → IsRunLog b old end records first → IsDriven old new groups tried → a ≡ as_device new → IsRunDevice b a records (first ++ groups) tried
run_device b a old new end records first groups tried is driven same = record {
  held = is.held;
  end = end;
  opened = is.opened;
  low = is.low;
  grew = subst (λ (d : Device). GrewBy b.told d.told end (first ++ groups) tried) (sym same) (driven.grew b.told end first is.grew is.gate);
  later = subst (λ (d : Device). b.faults ≤ d.faults) (sym same) (omega (arith, is.later, driven.later));
}

-- ---- all of them

module _
    (w : Work) (schedule : Schedule) (o : Opening) (es : List machine.Event) (failed : ℕ → Bool) (head : ℕ) (before mid after others : List Device) (old new : List LogState)
    (states : List State) (records : List (List Record)) (added : List Record)
    (texts : states ≡ w.states) (opened : OpensRun before mid head old states o records added) (as_many : length records ≡ w.logs) (room : HasRoomToBegin o)
    (driven : HasDriven w schedule o es old new failed) (behind : head ≤ length others) (first : mid ≡ all_with head old others) (same : after ≡ all_with head new others)
  where
    old_many : length old ≡ w.logs
    old_many = opened.as_many ∙ as_many

    new_many : length new ≡ w.logs
    new_many = driven.as_many ∙ old_many

    device_is : (l : ℕ) → l < w.logs → device_at after (head + l) ≡ as_device (log_at new l)
    device_is l lt = ap (λ (ds : List Device). device_at ds (head + l)) same ∙ with_on head new others l behind (omega (arith, lt, new_many))

    used : AreUsed w.logs before head w.logs opened.generation
    used = subst (λ (n : ℕ). AreUsed n before head n opened.generation) as_many opened.used

    aside_then : AreAside head w.logs opened.generation before mid
    aside_then = subst (λ (n : ℕ). AreAside head n opened.generation before mid) as_many opened.aside

    off_is : (d : ℕ) → ¬ IsOnSide head w.logs d → device_at after d ≡ device_at mid d
    off_is d off =
        ap (λ (ds : List Device). device_at ds d) same
        ∙ with_off head old new others d behind driven.as_many (subst (λ (n : ℕ). ¬ IsOnSide head n d) (sym old_many) off)
        ∙ sym (ap (λ (ds : List Device). device_at ds d) first)

    aside : AreAside head w.logs opened.generation before after
    aside = record {
      cleared = λ d lt asked.
          let off = off_side head w.logs (side_of w.logs before head w.logs opened.generation used) d asked.side in
          subst (λ (x : Device). IsEmptied (device_at before d) x) (sym (off_is d off)) (aside_then.cleared d lt asked);
      kept = λ d lt off not. subst (λ (x : Device). IsOpened (device_at before d) x) (sym (off_is d off)) (aside_then.kept d lt off not);
    }

    has_run : HasRunWork w schedule o es failed before after
    has_run = record {
      room = room;
      front = driven.front;
      devices = record {
        head = head;
        generation = opened.generation;
        records = records;
        added = added;
        as_many = as_many;
        used = used;
        start = subst (λ (ss : List State). IsStart records ss o added) texts opened.start;
        fold = opened.folds.0;
        folds = opened.folds.1;
        opens = opened.folds.2;
        recent = subst (λ (n : ℕ). HoldNoOld head n before) as_many opened.recent;
        each = λ l lt.
            let is = opened.log l (omega (arith, lt, as_many)) in
            run_device (device_at before (head + l)) (device_at after (head + l)) (log_at old l) (log_at new l) is.0 (records_at records l) (first_groups l added) (groups_of (machine_of w o) l es)
            (tried_on failed l (group_behind (machine_of w o) l es)) is.1 (driven.each l (omega (arith, lt, old_many))) (device_is l lt);
        aside = aside;
      };
    }

    -- the count of faults rose since before the log was opened
    has_risen : (l : ℕ) → l < length old → Rose (log_at old l).faults (log_at new l).faults → (l < w.logs) × Rose (device_at before (head + l)).faults (device_at after (head + l)).faults
    has_risen l lt rose =
        let here : l < w.logs = omega (arith, lt, old_many) in
        let is = opened.log l (omega (arith, here, as_many)) in
        let now : (device_at after (head + l)).faults ≡ (log_at new l).faults = ap (λ (d : Device). d.faults) (device_is l here) in (
          here,
          rose_earlier (device_at before (head + l)).faults (log_at old l).faults (log_at new l).faults (device_at after (head + l)).faults is.1.later (omega (arith, now)) rose,
        )

    -- a log that failed is one of the work's, and its device's count tells it
    pub has_left : WasRunOnDevices w schedule head o es before after failed
    unfolding has_run
    has_left = record { run = has_run; first = refl; rose = λ l is. let x = driven.rose l is in has_risen l x.0 x.1 }
