-- What the four devices of a run held, and what a crash leaves of those that are not in use.
use Rattle.std.specs.Prelude.{◌≡◌, ◌≢◌, refl, ℕ, zero, suc, ◌+◌, ◌-◌, ◌<◌, ◌≤◌, ◌⊎◌, List, [], ◌∷◌, ◌++◌, length, take}
use Rattle.std.proofs.Common.{inl, inr, arith, sym, ap, subst, ◌∙◌}
use Rattle.std.proofs.lemmas.Bool.{cases_lt}
use Rattle.std.proofs.lemmas.List.{append-nil}
use Rattle.snap_base.specs.declared.transactions.State.{State}
use Rattle.machine_recovery.specs.compact_laws.log_compact.Compacting.{IsBefore, IsOnSide, other_side}
use Rattle.machine_recovery.specs.compact_laws.log_compact.Finding.{HasNoSet, IsLeftByRuns, IsUsed}
use Rattle.machine_recovery.specs.compact_laws.log_compact.Sets.{IsSet, logs_from}
use Rattle.record_log.specs.RecordLogLaws.{OneListOfRecords}
use Rattle.record_log.specs.Records.{HoldsRecords}
use Rattle.record_log.specs.snap_outside.declared.devices.DevOp.{DevOp}
use Rattle.record_log.specs.txn_records.declared.records.Record.{Record}
use Rattle.record_log.specs.txn_records.declared.records.Record.TheVariants.{Genesis}
use Rattle.run_opening.specs.Begins.{AreEmpty}
use Rattle.run_opening.specs.log_opening.Cuts.{IsCutCall, IsFrontOfCall}
use Rattle.run_opening.specs.log_opening.Devices.{Device, AreAside, IsToBeCleared, device_at}
use Rattle.run_opening.specs.log_opening.Kept.{DeviceHolds}
use Rattle.run_opening.specs.Opens.{records_at, with_first}
use Rattle.run_opening.specs.Starts.{first_record}
use Rattle.snap_work.specs.Kept.{KeepsLimits}
use Rattle.run_recovery.specs.Crashes.{FindsRunsLogs}
use Rattle.run_recovery.specs.OneRun.{TheRun}
use Rattle.run_recovery.proofs.AsideLeft.{LogLaws, emptied_left, opened_left}
use Rattle.run_recovery.proofs.FourDevices.{SetLaws, TellAll, fronts_are, left_of, left_stays, numbered, on_side, one_told, placed, placed_at, placed_in, placed_out, used_of, used_same}

-- what the laws of one log and of the logs in use say
pub record FourLaws : Type 0 where
  pub log : LogLaws
  pub sets : SetLaws
  pub lists : OneListOfRecords

-- ---- what a crash leaves of a device that is not in use

pub to_clear : (head logs generation d : ℕ) → IsToBeCleared head logs generation d ⊎ ¬ IsToBeCleared head logs generation d
to_clear head logs generation d = by (cases_lt 0 generation) (cases_lt logs 3) (on_side (other_side head logs) logs d)
  where
    by : (0 < generation) ⊎ (generation ≤ 0) → (logs < 3) ⊎ (3 ≤ logs) → IsOnSide (other_side head logs) logs d ⊎ ¬ IsOnSide (other_side head logs) logs d → IsToBeCleared head logs generation d ⊎ ¬ IsToBeCleared head logs generation d
    by (inl a) (inl b) (inl c) = inl (record { checkpoint = omega (arith, a); few = omega (arith, b); side = c })
    by (inl a) (inl b) (inr c) = inr (λ t. c t.side)
    by (inl a) (inr b) c = inr (λ t. omega (arith, b, t.few))
    by (inr a) b c = inr (λ t. omega (arith, a, t.checkpoint))

-- its image holds what the device held; or none, where it was to be cleared
abbrev pub IsLeftAside : (head logs generation d : ℕ) → List Record → List ℕ → Type 0
IsLeftAside head logs generation d held image = HoldsRecords image held ⊎ (HoldsRecords image [] × IsToBeCleared head logs generation d)

pub aside_left : LogLaws → (head logs generation d : ℕ) (before after : List Device) (held : List Record) (made : List DevOp) (image : List ℕ) → AreAside head logs generation before after → d < 4 → ¬ IsOnSide head logs d
    → (cut : IsCutCall (device_at before d) held made image) → IsFrontOfCall (device_at after d) cut.history made → IsLeftAside head logs generation d held image
aside_left laws head logs generation d before after held made image aside low off cut front = by (to_clear head logs generation d)
  where
    either : IsToBeCleared head logs generation d → HoldsRecords image held ⊎ HoldsRecords image [] → IsLeftAside head logs generation d held image
    either asked (inl h) = inl h
    either asked (inr h) = inr (h, asked)

    by : IsToBeCleared head logs generation d ⊎ ¬ IsToBeCleared head logs generation d → IsLeftAside head logs generation d held image
    by (inl asked) = either asked (emptied_left laws (device_at before d) (device_at after d) held made image cut front (aside.cleared d low asked))
    by (inr not_asked) = inl (opened_left laws (device_at before d) (device_at after d) held made image cut front (aside.kept d low off not_asked))

-- ---- all that are not in use

record OneAside (head logs generation d : ℕ) (held : List Record) (image : List ℕ) : Type 0 where
  records : List Record
  holds : d < 4 → ¬ IsOnSide head logs d → HoldsRecords image records
  which : (records ≡ held) ⊎ ((records ≡ []) × IsToBeCleared head logs generation d)

one_aside : (head logs generation d : ℕ) (held : List Record) (image : List ℕ) → (d < 4 → ¬ IsOnSide head logs d → IsLeftAside head logs generation d held image) → OneAside head logs generation d held image
one_aside head logs generation d held image left = by (cases_lt d 4) (on_side head logs d)
  where
    pick : IsLeftAside head logs generation d held image → OneAside head logs generation d held image
    pick (inl h) = record { records = held; holds = λ low off. h; which = inl refl }
    pick (inr h) = record { records = []; holds = λ low off. h.0; which = inr (refl, h.1) }

    by : (d < 4) ⊎ (4 ≤ d) → IsOnSide head logs d ⊎ ¬ IsOnSide head logs d → OneAside head logs generation d held image
    by (inl low) (inl on) = record { records = held; holds = λ l off. absurd (off on); which = inl refl }
    by (inl low) (inr off) = pick (left low off)
    by (inr high) s = record { records = held; holds = λ low off. absurd (omega (arith, low, high)); which = inl refl }

-- With what is left there, the same logs are in use, whatever lists of theirs are the same.
pub record AsidesLeft (r : TheRun) (held : ℕ → List Record) (images : ℕ → List ℕ) : Type 0 where
  pub aside : ℕ → List Record
  pub holds : (d : ℕ) → d < 4 → ¬ IsOnSide r.devices.head r.work.logs d → HoldsRecords (images d) (aside d)
  pub used : IsUsed (placed r.devices.records aside r.devices.head r.work.logs) r.work.logs r.devices.head r.work.logs r.devices.generation
  pub left : FindsRunsLogs r → IsLeftByRuns (placed r.devices.records aside r.devices.head r.work.logs) r.devices.head r.work.logs

-- the logs in use hold the run's records
held_there : OneListOfRecords → (r : TheRun) (held : ℕ → List Record) → TellAll r.before held → (d : ℕ) → d < 4 → placed r.devices.records held r.devices.head r.work.logs d ≡ held d
held_there lists r held tells d low = by (on_side head r.work.logs d)
  where
    head : ℕ
    head = r.devices.head

    by : IsOnSide head r.work.logs d ⊎ ¬ IsOnSide head r.work.logs d → placed r.devices.records held r.devices.head r.work.logs d ≡ held d
    by (inl on) =
        let n = numbered r.devices.head r.work.logs d on in
        placed_in r.devices.records held r.devices.head r.work.logs d on
        ∙ (ap (λ (j : ℕ). records_at r.devices.records j) n.off
        ∙ one_told lists (device_at r.before d) (records_at r.devices.records n.number) (held d)
        (subst (λ (j : ℕ). DeviceHolds (device_at r.before j) (records_at r.devices.records n.number)) (sym n.is) (r.devices.each n.number n.few).held) (tells d low))
    by (inr off) = placed_out r.devices.records held r.devices.head r.work.logs d off

-- the other side is cleared, or a part of it
cleared_before : (lists : List (List Record)) (held aside : ℕ → List Record) (head logs generation : ℕ) → ((d : ℕ) → (aside d ≡ held d) ⊎ ((aside d ≡ []) × IsToBeCleared head logs generation d))
    → IsBefore (placed lists held head logs) (placed lists aside head logs) (other_side head logs) logs
cleared_before lists held aside head logs generation which = record { cleared = λ d on. side d (on_side head logs d) (which d); same = λ d away. rest d away (on_side head logs d) (which d) }
  where
    used : (d : ℕ) → IsOnSide head logs d → placed lists aside head logs d ≡ placed lists held head logs d
    used d on = placed_in lists aside head logs d on ∙ sym (placed_in lists held head logs d on)

    still : (d : ℕ) → ¬ IsOnSide head logs d → aside d ≡ held d → placed lists aside head logs d ≡ placed lists held head logs d
    still d off e = placed_out lists aside head logs d off ∙ (e ∙ sym (placed_out lists held head logs d off))

    side : (d : ℕ) → IsOnSide head logs d ⊎ ¬ IsOnSide head logs d → (aside d ≡ held d) ⊎ ((aside d ≡ []) × IsToBeCleared head logs generation d)
        → (placed lists aside head logs d ≡ placed lists held head logs d) ⊎ (placed lists aside head logs d ≡ [])
    side d (inl on) w = inl (used d on)
    side d (inr off) (inl e) = inl (still d off e)
    side d (inr off) (inr c) = inr (placed_out lists aside head logs d off ∙ c.0)

    rest : (d : ℕ) → ¬ IsOnSide (other_side head logs) logs d → IsOnSide head logs d ⊎ ¬ IsOnSide head logs d → (aside d ≡ held d) ⊎ ((aside d ≡ []) × IsToBeCleared head logs generation d)
        → placed lists aside head logs d ≡ placed lists held head logs d
    rest d away (inl on) w = used d on
    rest d away (inr off) (inl e) = still d off e
    rest d away (inr off) (inr c) = absurd (away c.1.side)

pub asides_left : FourLaws → (r : TheRun) (held : ℕ → List Record) (images : ℕ → List ℕ) → KeepsLimits r.work → TellAll r.before held
    → ((d : ℕ) → d < 4 → ¬ IsOnSide r.devices.head r.work.logs d → IsLeftAside r.devices.head r.work.logs r.devices.generation d (held d) (images d)) → AsidesLeft r held images
asides_left laws r held images limits tells left = record {
  aside = aside;
  holds = λ d low off. (each d).holds low off;
  used = kept.0;
  left = λ found. left_stays (placed records held head logs) (placed records aside head logs) logs head logs generation limits.logs.0 kept.0 kept.1 (was_left found);
}
  where
    head : ℕ
    head = r.devices.head

    logs : ℕ
    logs = r.work.logs

    generation : ℕ
    generation = r.devices.generation

    records : List (List Record)
    records = r.devices.records

    each : (d : ℕ) → OneAside head logs generation d (held d) (images d)
    each d = one_aside head logs generation d (held d) (images d) (left d)

    aside : ℕ → List Record
    aside d = (each d).records

    same : (d : ℕ) → d < 4 → placed records held head logs d ≡ held d
    same d low = held_there laws.lists r held tells d low

    was_used : IsUsed (placed records held head logs) logs head logs generation
    was_used = used_same laws.sets held (placed records held head logs) logs head logs generation same (used_of laws.sets held r.devices.used tells)

    kept : IsUsed (placed records aside head logs) logs head logs generation × (logs_from (placed records aside head logs) head logs ≡ logs_from (placed records held head logs) head logs)
    kept =
        laws.sets.clear (placed records held head logs) (placed records aside head logs) logs head logs generation limits.logs.0 was_used
        (cleared_before records held aside head logs generation (λ d. (each d).which))

    was_left : FindsRunsLogs r → IsLeftByRuns (placed records held head logs) head logs
    was_left found =
        left_of laws.sets r.devices.used.fronts (placed records held head logs) head logs (omega (arith, limits.logs.1))
        (λ d low. fronts_are laws.sets held r.devices.used tells d low ∙ sym (ap (λ (rs : List Record). take 2 rs) (same d low))) found

-- ---- what is written first

other_first : (records : List (List Record)) (added : List Record) (l : ℕ) → l ≢ 0 → records_at (with_first records added) l ≡ records_at records l
other_first [] added l some = refl
other_first (rs ∷ records) added zero some = absurd (some refl)
other_first (rs ∷ records) added (suc l) some = refl

pub with_none : (records : List (List Record)) → with_first records [] ≡ records
with_none [] = refl
with_none (rs ∷ records) = ap (λ (l : List Record). l ∷ records) (append-nil rs)

empty_first : (records : List (List Record)) (added : List Record) → 1 ≤ length records → AreEmpty records → (records_at records 0 ≡ []) × (records_at (with_first records added) 0 ≡ added)
empty_first [] added some empty = absurd (omega (arith, some))
empty_first (rs ∷ records) added some empty = (empty.0, ap (λ (l : List Record). l ++ added) empty.0)

-- the head of logs that hold no record is no head of a set
none_used : (records : List (List Record)) (aside : ℕ → List Record) (head logs generation : ℕ) → length records ≡ logs → 1 ≤ logs → AreEmpty records → IsUsed (placed records aside head logs) logs head logs generation
    → HasNoSet (placed records aside head logs) × (head ≡ 0) × (generation ≡ 0)
none_used records aside head logs generation many some empty (inr n) = (n.0, n.1, n.3)
none_used records aside head logs generation many some empty (inl s) =
    let e : head ≡ head + 0 = omega arith in
    let none : placed records aside head logs head ≡ [] =
    ap (placed records aside head logs) e ∙ (placed_at records aside head logs 0 (omega (arith, some)) ∙ (empty_first records [] (omega (arith, many, some)) empty).0) in
    let not_none : [] ≡ Genesis logs s.first ∷ s.is_head.rest = sym none ∙ s.is_head.begins in
    absurd (cc not_none)

-- where they held none, Genesis on the first of them makes them a set
pub begun_set : SetLaws → (records : List (List Record)) (states : List State) (aside : ℕ → List Record) (head logs generation : ℕ) → length records ≡ logs → 1 ≤ logs → AreEmpty records
    → IsUsed (placed records aside head logs) logs head logs generation → IsSet (placed (with_first records (first_record logs states ∷ [])) aside head logs) head logs generation
begun_set laws records states aside head logs generation many some empty used =
    subst (λ (h : ℕ). IsSet now h logs generation) (sym n.1)
    (subst (λ (g : ℕ). IsSet now 0 logs g) (sym n.2) (laws.begin (placed records aside head logs) now logs states n.0 first (λ d other. inl (rest d other (on_side head logs d)))))
  where
    added : List Record
    added = first_record logs states ∷ []

    now : ℕ → List Record
    now = placed (with_first records added) aside head logs

    n : HasNoSet (placed records aside head logs) × (head ≡ 0) × (generation ≡ 0)
    n = none_used records aside head logs generation many some empty used

    first : placed (with_first records added) aside head logs 0 ≡ Genesis logs states ∷ []
    first =
        let e : 0 ≡ head + 0 = omega (arith, n.1) in
        ap (placed (with_first records added) aside head logs) e ∙ (placed_at (with_first records added) aside head logs 0 (omega (arith, some)) ∙ (empty_first records added (omega (arith, many, some)) empty).1)

    rest : (d : ℕ) → d ≢ 0 → IsOnSide head logs d ⊎ ¬ IsOnSide head logs d → placed (with_first records added) aside head logs d ≡ placed records aside head logs d
    rest d other (inl on) =
        placed_in (with_first records added) aside head logs d on
        ∙ (other_first records added (d - head) (λ z. other (omega (arith, z, n.1))) ∙ sym (placed_in records aside head logs d on))
    rest d other (inr off) = placed_out (with_first records added) aside head logs d off ∙ sym (placed_out records aside head logs d off)
