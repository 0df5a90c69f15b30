-- Four devices: the logs in use lie from the head on, and the records in front of each tell which these are.
use Rattle.std.specs.Prelude.{◌≡◌, refl, ℕ, zero, suc, ◌+◌, ◌-◌, ◌<◌, ◌≤◌, nat_le, nat_lt, ◌&&◌, if◌then◌else◌, Bool, true, false, ◌⊎◌, Option, List, [], ◌∷◌, length, take, IfSome}
use Rattle.std.proofs.Common.{inl, inr, arith, sym, ap, subst, ◌∙◌}
use Rattle.std.proofs.lemmas.Bool.{cases_lt, le-leb, leb-true, lt-ltb, ltb-true}
use Rattle.snap_base.proofs.Booleans.{first_true, second_true}
use Rattle.machine_recovery.specs.compact_laws.log_compact.Compacting.{ClearingKeeps, IsOnSide}
use Rattle.machine_recovery.specs.compact_laws.log_compact.Finding.{AreFronts, BegunIsSet, FrontsTell, HasNoSet, IsLeftByRuns, IsUsed, OneUse, begun, unbegun}
use Rattle.machine_recovery.specs.compact_laws.log_compact.Fronts.{FrontsOfRecords, HoldsFront}
use Rattle.machine_recovery.specs.compact_laws.log_compact.Sets.{IsHead, IsSet, logs_from}
use Rattle.record_log.specs.RecordLogLaws.{OneListOfRecords}
use Rattle.record_log.specs.Records.{HoldsRecords}
use Rattle.record_log.specs.snap_outside.Disk.{DeviceHistory, content}
use Rattle.record_log.specs.txn_records.declared.records.Record.{Record}
use Rattle.run_opening.specs.Begins.{AreEmpty}
use Rattle.run_opening.specs.log_opening.Cuts.{HoldFour, TellBytes}
use Rattle.run_opening.specs.log_opening.Devices.{Device, device_at}
use Rattle.run_opening.specs.log_opening.Kept.{AreUsed, DeviceHolds}
use Rattle.run_opening.specs.Opens.{TellsRecords, records_at}

-- what the laws of the logs in use say
pub record SetLaws : Type 0 where
  pub one : OneUse
  pub tell : FrontsTell
  pub fronts : FrontsOfRecords
  pub clear : ClearingKeeps
  pub begin : BegunIsSet

-- ---- lists on devices

pub on_side : (from logs d : ℕ) → IsOnSide from logs d ⊎ ¬ IsOnSide from logs d
on_side from logs d = elim (cases_lt d from) [
  | inl l ↦ inr (λ on. omega (arith, on.behind, l))
  | inr l ↦ elim (cases_lt d (from + logs)) [ inl k ↦ inl (record { behind = omega (arith, l); before = k }) | inr k ↦ inr (λ on. omega (arith, on.before, k)) ]
]

-- the logs in use hold these lists, from the head on, and the other devices what stands aside
abbrev pub placed : List (List Record) → (ℕ → List Record) → ℕ → ℕ → ℕ → List Record
placed lists aside head logs d = if nat_le head d && nat_lt d (head + logs) then records_at lists (d - head) else aside d

pub placed_in : (lists : List (List Record)) (aside : ℕ → List Record) (head logs d : ℕ) → IsOnSide head logs d → placed lists aside head logs d ≡ records_at lists (d - head)
placed_in lists aside head logs d on = rw (le-leb head d on.behind, lt-ltb d (head + logs) on.before) refl

pub tested : (head logs d : ℕ) → (nat_le head d && nat_lt d (head + logs)) ≡ true → IsOnSide head logs d
tested head logs d e = record { behind = leb-true head d (first_true (nat_le head d) (nat_lt d (head + logs)) e); before = ltb-true d (head + logs) (second_true (nat_le head d) (nat_lt d (head + logs)) e) }

pub placed_out : (lists : List (List Record)) (aside : ℕ → List Record) (head logs d : ℕ) → ¬ IsOnSide head logs d → placed lists aside head logs d ≡ aside d
placed_out lists aside head logs d off = by (nat_le head d && nat_lt d (head + logs)) refl
  where
    by : (b : Bool) → (nat_le head d && nat_lt d (head + logs)) ≡ b → (if b then records_at lists (d - head) else aside d) ≡ aside d
    by true e = absurd (off (tested head logs d e))
    by false e = refl

pub on_it : (head logs l : ℕ) → l < logs → IsOnSide head logs (head + l)
on_it head logs l lt = record { behind = omega arith; before = omega (arith, lt) }

pub placed_at : (lists : List (List Record)) (aside : ℕ → List Record) (head logs l : ℕ) → l < logs → placed lists aside head logs (head + l) ≡ records_at lists l
placed_at lists aside head logs l lt =
    let e : (head + l) - head ≡ l = omega arith in
    placed_in lists aside head logs (head + l) (on_it head logs l lt) ∙ ap (λ (j : ℕ). records_at lists j) e

-- a log in use, by its number
pub record Numbered (head logs d : ℕ) : Type 0 where
  pub number : ℕ
  pub few : number < logs
  pub is : d ≡ head + number
  pub off : d - head ≡ number

pub numbered : (head logs d : ℕ) → IsOnSide head logs d → Numbered head logs d
numbered head logs d on = record { number = d - head; few = omega (arith, on.behind, on.before); is = omega (arith, on.behind); off = refl }

from_lists : (devices : ℕ → List Record) (lists : List (List Record)) (head : ℕ) → ((l : ℕ) → l < length lists → devices (head + l) ≡ records_at lists l) → logs_from devices head (length lists) ≡ lists
from_lists devices [] head each = refl
from_lists devices (rs ∷ lists) head each =
    ap (λ (x : List Record). x ∷ logs_from devices (head + 1) (length lists)) first
    ∙ ap (λ (xs : List (List Record)). rs ∷ xs)
    (from_lists devices lists (head + 1) (λ l lt. let e : (head + 1) + l ≡ head + suc l = omega arith in ap devices e ∙ each (suc l) (omega (arith, lt))))
  where
    first : devices head ≡ rs
    first = let e : head ≡ head + 0 = omega arith in ap devices e ∙ each 0 (omega arith)

pub lists_from : (devices : ℕ → List Record) (lists : List (List Record)) (head logs : ℕ) → length lists ≡ logs → ((l : ℕ) → l < logs → devices (head + l) ≡ records_at lists l) → logs_from devices head logs ≡ lists
lists_from devices lists head logs many each =
    subst (λ (n : ℕ). logs_from devices head n ≡ lists) many (from_lists devices lists head (λ l lt. each l (omega (arith, lt, many))))

pub from_long : (devices : ℕ → List Record) (head logs : ℕ) → length (logs_from devices head logs) ≡ logs
from_long devices head zero = refl
from_long devices head (suc logs) = ap suc (from_long devices (head + 1) logs)

pub from_at : (devices : ℕ → List Record) (head logs l : ℕ) → l < logs → records_at (logs_from devices head logs) l ≡ devices (head + l)
from_at devices head zero l lt = absurd (omega (arith, lt))
from_at devices head (suc logs) zero lt = let e : head ≡ head + 0 = omega arith in ap devices e
from_at devices head (suc logs) (suc l) lt = let e : (head + 1) + l ≡ head + suc l = omega arith in from_at devices (head + 1) logs l (omega (arith, lt)) ∙ ap devices e

-- where the lists are the same, so is each of them
pub same_at : (devices now : ℕ → List Record) (head logs l : ℕ) → l < logs → logs_from now head logs ≡ logs_from devices head logs → now (head + l) ≡ devices (head + l)
same_at devices now head logs l lt same = sym (from_at now head logs l lt) ∙ (ap (λ (xs : List (List Record)). records_at xs l) same ∙ from_at devices head logs l lt)

pub all_empty : (records : List (List Record)) → ((l : ℕ) → l < length records → records_at records l ≡ []) → AreEmpty records
all_empty [] each = tt
all_empty (rs ∷ records) each = (each 0 (omega arith), all_empty records (λ l lt. each (suc l) (omega (arith, lt))))

-- ---- the logs in use

-- the devices tell that they hold these records
abbrev pub TellAll : List Device → (ℕ → List Record) → Type 0
TellAll before held = (d : ℕ) → d < 4 → TellsRecords (device_at before d) (held d)

-- these stand in front of those, on the four devices
abbrev pub InFront : (ℕ → List Record) → (ℕ → List Record) → Type 0
InFront fronts held = (d : ℕ) → d < 4 → fronts d ≡ take 2 (held d)

heads_of : (fronts held : ℕ → List Record) → InFront fronts held → AreFronts held fronts
heads_of fronts held same = λ d low. same d (omega (arith, low))

front_is : SetLaws → (d : Device) (rs front : List Record) → IfSome d.told (λ h. HoldsFront (content h) front) → TellsRecords d rs → front ≡ take 2 rs
front_is laws d rs front held tells =
    laws.fronts.one (content tells.0) rs front tells.2 (subst (λ (t : Option DeviceHistory). IfSome t (λ h. HoldsFront (content h) front)) tells.1 held)

pub fronts_are : SetLaws → {many head logs generation : ℕ} {before : List Device} (held : ℕ → List Record) (u : AreUsed many before head logs generation) → TellAll before held → InFront u.fronts held
fronts_are laws {many} {head} {logs} {generation} {before} held u tells = λ d lt. front_is laws (device_at before d) (held d) (u.fronts d) (u.each d lt) (tells d lt)

-- what the devices held tells the logs in use
pub used_of : SetLaws → {many head logs generation : ℕ} {before : List Device} (held : ℕ → List Record) (u : AreUsed many before head logs generation) → TellAll before held → IsUsed held many head logs generation
used_of laws {many} {head} {logs} {generation} {before} held u tells = ((laws.tell held u.fronts (heads_of u.fronts held (fronts_are laws held u tells))).used many head logs generation).1 u.used

pub fronts_used : SetLaws → (fronts held : ℕ → List Record) (many head logs generation : ℕ) → InFront fronts held → IsUsed held many head logs generation → IsUsed fronts many head logs generation
fronts_used laws fronts held many head logs generation same u = ((laws.tell held fronts (heads_of fronts held same)).used many head logs generation).0 u

fronts_same : (a b : ℕ → List Record) → ((d : ℕ) → d < 4 → b d ≡ a d) → InFront (λ d. take 2 (a d)) b
fronts_same a b same = λ d low. ap (λ (rs : List Record). take 2 rs) (sym (same d low))

-- devices that hold the same tell the same
pub used_same : SetLaws → (a b : ℕ → List Record) (many head logs generation : ℕ) → ((d : ℕ) → d < 4 → b d ≡ a d) → IsUsed a many head logs generation → IsUsed b many head logs generation
used_same laws a b many head logs generation same u =
    let fronts = λ (d : ℕ). take 2 (a d) in
    ((laws.tell b fronts (heads_of fronts b (fronts_same a b same))).used many head logs generation).1
    (fronts_used laws fronts a many head logs generation (λ d low. refl) u)

pub set_same : SetLaws → (a b : ℕ → List Record) (head logs generation : ℕ) → ((d : ℕ) → d < 4 → b d ≡ a d) → IsSet a head logs generation → IsSet b head logs generation
set_same laws a b head logs generation same s =
    let fronts = λ (d : ℕ). take 2 (a d) in
    ((laws.tell b fronts (heads_of fronts b (fronts_same a b same))).set head logs generation).1
    (((laws.tell a fronts (λ d low. refl)).set head logs generation).0 s)

pub none_same : SetLaws → (a b : ℕ → List Record) → ((d : ℕ) → d < 4 → b d ≡ a d) → HasNoSet a → HasNoSet b
none_same laws a b same n =
    let fronts = λ (d : ℕ). take 2 (a d) in
    (laws.tell b fronts (heads_of fronts b (fronts_same a b same))).none.1 ((laws.tell a fronts (λ d low. refl)).none.0 n)

-- they lie on the four devices
pub within_four : (devices : ℕ → List Record) (head logs generation : ℕ) → logs ≤ 4 → IsUsed devices logs head logs generation → head + logs ≤ 4
within_four devices head logs generation few (inl s) = elim s.is_head.side [ inl e ↦ omega (arith, few, e) | inr e ↦ omega (arith, e, s.is_head.low) ]
within_four devices head logs generation few (inr n) = omega (arith, few, n.1)

-- ---- as runs leave them

none_in : (rs : List Record) → take 2 rs ≡ [] → rs ≡ []
none_in [] e = refl
none_in (r ∷ rs) e = absurd (cc e)

pub left_of : SetLaws → (fronts held : ℕ → List Record) (head logs : ℕ) → logs ≤ 4 → InFront fronts held → IsLeftByRuns fronts head logs → IsLeftByRuns held head logs
left_of laws fronts held head logs few same (begun generation s) = begun generation (((laws.tell held fronts (heads_of fronts held same)).set head logs generation).1 s)
left_of laws fronts held head logs few same (unbegun none zero_head empty) =
    unbegun ((laws.tell held fronts (heads_of fronts held same)).none.1 none) zero_head (λ l lt. none_in (held l) (sym (same l (omega (arith, lt, few))) ∙ empty l lt))

pub left_in_front : SetLaws → (fronts held : ℕ → List Record) (head logs : ℕ) → logs ≤ 4 → InFront fronts held → IsLeftByRuns held head logs → IsLeftByRuns fronts head logs
left_in_front laws fronts held head logs few same (begun generation s) = begun generation (((laws.tell held fronts (heads_of fronts held same)).set head logs generation).0 s)
left_in_front laws fronts held head logs few same (unbegun none zero_head empty) =
    unbegun ((laws.tell held fronts (heads_of fronts held same)).none.0 none) zero_head (λ l lt. same l (omega (arith, lt, few)) ∙ ap (λ (rs : List Record). take 2 rs) (empty l lt))

pub left_set : (now : ℕ → List Record) (head logs generation : ℕ) → IsSet now head logs generation → IsLeftByRuns now head logs
left_set now head logs generation s = begun generation s

-- where the lists of the logs in use are the same, and these are in use still, they are as runs leave them
pub left_stays : (devices now : ℕ → List Record) (many head logs generation : ℕ) → 1 ≤ logs → IsUsed now many head logs generation → logs_from now head logs ≡ logs_from devices head logs → IsLeftByRuns devices head logs → IsLeftByRuns now head logs
left_stays devices now many head logs generation some (inl s) same left = begun generation s
left_stays devices now many head logs generation some (inr n) same (begun g s) =
    let e : head ≡ head + 0 = omega arith in
    let there : now head ≡ devices head = ap now e ∙ (same_at devices now head logs 0 (omega (arith, some)) same ∙ sym (ap devices e)) in
    absurd (n.0 head logs s.first (subst (λ (rs : List Record). IsHead head rs logs s.first) (sym there) s.is_head))
left_stays devices now many head logs generation some (inr n) same (unbegun none zero_head empty) =
    unbegun n.0 zero_head (λ l lt. let e : head + l ≡ l = omega (arith, zero_head) in sym (ap now e) ∙ (same_at devices now head logs l lt same ∙ (ap devices e ∙ empty l lt)))

-- ---- one device

-- a device that tells what it holds holds one list
pub one_told : OneListOfRecords → (d : Device) (rs xs : List Record) → DeviceHolds d rs → TellsRecords d xs → rs ≡ xs
one_told list d rs xs held tells = list (content tells.0) rs xs (subst (λ (t : Option DeviceHistory). IfSome t (λ h. HoldsRecords (content h) rs)) tells.1 held) tells.2

-- ---- the four

-- what the devices told that they held is what the bytes hold that they told
pub held_now : OneListOfRecords → (before : List Device) (held now : ℕ → List Record) (found : ℕ → List ℕ) → TellAll before held → TellBytes before found → HoldFour found now → (d : ℕ) → d < 4 → held d ≡ now d
held_now list before held now found tells told holds d low =
    let t = told d low in
    let own = tells d low in
    one_told list (device_at before d) (held d) (now d)
    (subst (λ (o : Option DeviceHistory). IfSome o (λ h. HoldsRecords (content h) (held d))) (sym own.1) own.2) (t.0, t.1, subst (λ (bytes : List ℕ). HoldsRecords bytes (now d)) (sym t.2) (holds d low))
