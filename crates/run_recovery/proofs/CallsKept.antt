-- What calls between runs leave of the logs.
use Rattle.std.specs.Prelude.{◌≡◌, ◌≢◌, refl, ℕ, zero, suc, ◌+◌, ◌<◌, ◌≤◌, ◌⊎◌, IfSome, Option, Some, List, [], ◌∷◌, ◌++◌, length}
use Rattle.std.specs.List.{AllZip}
use Rattle.std.proofs.Common.{inl, inr, arith, sym, ap, subst, ◌∙◌}
use Rattle.std.proofs.lemmas.Bool.{cases_lt}
use Rattle.log_compact.proofs.Moments.{side_of, side_used}
use Rattle.machine_recovery.specs.compact_laws.log_compact.Compacting.{IsBefore, IsOnSide, other_side}
use Rattle.machine_recovery.specs.compact_laws.log_compact.declared.folds.Folded.{Folded}
use Rattle.machine_recovery.specs.compact_laws.log_compact.Finding.{HasNoSet, IsLeftByRuns, IsUsed}
use Rattle.machine_recovery.specs.compact_laws.log_compact.Folds.{BegunListsFold, FoldsAreBegun}
use Rattle.machine_recovery.specs.compact_laws.log_compact.Sets.{IsSet, OneFold, logs_from}
use Rattle.run_opening.specs.log_opening.Cuts.{AreRecent, HoldFour, IsCutCall, IsFrontOfCall}
use Rattle.run_opening.specs.log_opening.Devices.{Device, IsOld, IsToBeCleared, device_at}
use Rattle.record_log.specs.RecordLogLaws.{OneListOfRecords}
use Rattle.record_log.specs.Records.{HoldsRecords, IsKeptImage, KeepsRecords}
use Rattle.run_opening.specs.Begins.{AreEmpty, BeganWith}
use Rattle.run_opening.specs.Opens.{AreSafe, BeginsSafely, ClearsSideSafely, IsKeptOrAdded, KeepAll, KeepsOrAdds, KeepsOrEmpties, records_at, with_first}
use Rattle.run_opening.specs.Starts.{first_record}
use Rattle.snap_base.specs.declared.transactions.State.{State}
use Rattle.record_log.specs.snap_outside.declared.devices.DevOp.{DevOp}
use Rattle.record_log.specs.snap_outside.Disk.{DeviceHistory, content}
use Rattle.record_log.specs.txn_records.declared.records.Record.{Record}
use Rattle.record_log.specs.txn_records.declared.records.Record.TheVariants.{Genesis}
use Rattle.run_recovery.specs.Between.{AreBetween, AreKept, AreOfStates, Call, Compaction, HasCompaction, IsJustBegun, IsPartlyCleared, IsUnbegun, KeepFour, LeadTo, Unbegun, left_last, still}
use Rattle.run_recovery.proofs.AsideLeft.{left_so}
use Rattle.run_recovery.proofs.CompactionKept.{CompactionLaws, behind, compaction_use, folds_behind, recent_behind, set_behind, states_behind, told_recent}
use Rattle.run_recovery.proofs.FourDevices.{SetLaws, TellAll, all_empty, from_at, from_long, held_now, left_set, left_stays, lists_from, none_same, one_told, set_same, used_of, used_same, within_four}
use Rattle.run_recovery.proofs.FoundFour.{to_clear}
use Rattle.run_recovery.proofs.Leading.{FoldsOn, begins_behind, begun_leads, fold_on, written_folds}
use Rattle.run_recovery.proofs.LogsLeft.{first_long}

-- ---- one device

kept_one : (before after : Device) (rs : List Record) (made : List DevOp) (image : List ℕ) (cut : IsCutCall before rs made image) → IsFrontOfCall after cut.history made → KeepsRecords before.told after.told
    → IsKeptImage (content cut.history) rs image
kept_one before after rs made image cut front keeps =
    let k = subst (λ (t : Option DeviceHistory). KeepsRecords t after.told) cut.told keeps in
    left_so (IsKeptImage (content cut.history) rs) cut.history k.0 made front.0 after.told image k.1 front.1 (k.2 cut.durable rs cut.holds) cut.left

added_one : (before after : Device) (rs added : List Record) (made : List DevOp) (image : List ℕ) (cut : IsCutCall before rs made image) → IsFrontOfCall after cut.history made → KeepsOrAdds before.told after.told added
    → IsKeptOrAdded (content cut.history) rs added image
added_one before after rs added made image cut front keeps =
    let k = subst (λ (t : Option DeviceHistory). KeepsOrAdds t after.told added) cut.told keeps in
    left_so (IsKeptOrAdded (content cut.history) rs added) cut.history k.0 made front.0 after.told image k.1 front.1 (k.2 cut.durable rs cut.holds) cut.left

emptied_one : (before after : Device) (rs : List Record) (made : List DevOp) (image : List ℕ) (cut : IsCutCall before rs made image) → IsFrontOfCall after cut.history made → KeepsOrEmpties before.told after.told
    → HoldsRecords image rs ⊎ HoldsRecords image []
emptied_one before after rs made image cut front keeps =
    let k = subst (λ (t : Option DeviceHistory). KeepsOrEmpties t after.told) cut.told keeps in
    left_so (λ i. HoldsRecords i rs ⊎ HoldsRecords i []) cut.history k.0 made front.0 after.told image k.1 front.1 (k.2 cut.durable rs cut.holds) cut.left

-- devices by their numbers
told_at : (R : Device → Device → Type 0) (bs ms : List Device) (l : ℕ) (h : DeviceHistory) → AllZip R bs ms → (device_at bs l).told ≡ Some h → R (device_at bs l) (device_at ms l)
told_at R [] ms l h all told = absurd (cc)
told_at R (b ∷ bs) [] l h all told = absurd all
told_at R (b ∷ bs) (m ∷ ms) zero h all told = all.0
told_at R (b ∷ bs) (m ∷ ms) (suc l) h all told = told_at R bs ms l h all.1 told

-- ---- one call

-- what a call leaves of four devices that held these records in these bytes, with these logs in use
record IsLeft (logs : ℕ) (states : List State) (head : ℕ) (now : ℕ → List Record) (found images : ℕ → List ℕ) : Type 0 where
  kept : ℕ → List Record
  holds : HoldFour images kept
  which : KeepFour logs states now kept
  recent : AreRecent found head logs → AreRecent images head logs

-- what the laws say
pub record CallLaws : Type 0 where
  pub sets : SetLaws
  pub lists : OneListOfRecords
  pub fold : OneFold
  pub written : BegunListsFold
  pub begun : FoldsAreBegun

-- the records of a device are known up to the last of the four
record OneLeft (P : List Record → Type 0) (image : List ℕ) : Type 0 where
  records : List Record
  holds : HoldsRecords image records
  fits : P records

module _ (laws : CallLaws) (logs : ℕ) (states : List State) (head generation : ℕ) (now : ℕ → List Record) (found left : ℕ → List ℕ)
    (some : 1 ≤ logs) (few : logs ≤ 4) (used : IsUsed now logs head logs generation) (holds : HoldFour found now) (held : ℕ → List Record) (u : IsUnbegun logs states held found left) where
  tells : TellAll u.before held
  tells d low = let cut = (u.each d low).0 in (cut.history, cut.told, cut.holds)

  -- the devices held what these bytes hold
  is_held : (d : ℕ) → d < 4 → held d ≡ now d
  is_held = held_now laws.lists u.before held now found tells u.told holds

  as_now : (d : ℕ) → d < 4 → HoldsRecords (left d) (held d) → HoldsRecords (left d) (now d)
  as_now d low h = subst (HoldsRecords (left d)) (is_held d low) h

  kept_at : (d : ℕ) (low : d < 4) → KeepsRecords (device_at u.before d).told (device_at u.after d).told → HoldsRecords (left d) (now d)
  kept_at d low keeps = as_now d low (kept_one (device_at u.before d) (device_at u.after d) (held d) (u.made d) (left d) (u.each d low).0 (u.each d low).1 keeps).0

  -- ---- formats

  was_recent : (d : ℕ) (low : d < 4) → ¬ IsOld (found d) → ¬ IsOld (content (u.each d low).0.history)
  was_recent d low recent = subst (λ (t : Option DeviceHistory). IfSome t (λ h. ¬ IsOld (content h))) (u.each d low).0.told (told_recent u.before found u.told d low recent)

  recent_at : (d : ℕ) (low : d < 4) → KeepsRecords (device_at u.before d).told (device_at u.after d).told → ¬ IsOld (found d) → ¬ IsOld (left d)
  recent_at d low keeps recent =
      (kept_one (device_at u.before d) (device_at u.after d) (held d) (u.made d) (left d) (u.each d low).0 (u.each d low).1 keeps).1 (was_recent d low recent)

  within : head + logs ≤ 4
  within = within_four now head logs generation few used

  all_recent : ((l : ℕ) → l < logs → ¬ IsOld (found (head + l)) → ¬ IsOld (left (head + l))) → AreRecent found head logs → AreRecent left head logs
  all_recent each was l lt = each l lt (was l lt)

  -- ---- each way

  all_kept : KeepAll u.before u.after → IsLeft logs states head now found left
  all_kept all = record {
    kept = now;
    holds = λ d low. kept_at d low (told_at (λ (b a : Device). KeepsRecords b.told a.told) u.before u.after d (tells d low).0 all (tells d low).1);
    which = inl (λ d. refl);
    recent = all_recent (λ l lt. let low : head + l < 4 = omega (arith, lt, within) in
        recent_at (head + l) low (told_at (λ (b a : Device). KeepsRecords b.told a.told) u.before u.after (head + l) (tells (head + l) low).0 all (tells (head + l) low).1));
  }

  -- the logs in use are those by what the bytes hold
  same_use : (other : ℕ) (later : ℕ) → IsUsed held logs other logs later → (other ≡ head) × (later ≡ generation)
  same_use other later there =
      let o = laws.sets.one now logs other logs later head logs generation (used_same laws.sets held now logs other logs later (λ d low. sym (is_held d low)) there) used in
      (o.0, o.2)

  -- the device holds what it held; or none, where it is on the other side of a set with a checkpoint
  abbrev Clears : ℕ → List Record → Type 0
  Clears d records = (records ≡ now d) ⊎ ((records ≡ []) × IsToBeCleared head logs generation d)

  part_left : (d : ℕ) → (low : d < 4) → IsToBeCleared head logs generation d → HoldsRecords (left d) (held d) ⊎ HoldsRecords (left d) [] → OneLeft (Clears d) (left d)
  part_left d low asked (inl h) = record { records = now d; holds = as_now d low h; fits = inl refl }
  part_left d low asked (inr h) = record { records = []; holds = h; fits = inr (refl, asked) }

  one_left : (c : ClearsSideSafely logs u.before u.after) → (d : ℕ) → d < 4 → OneLeft (Clears d) (left d)
  one_left c d low = by (to_clear c.head logs c.generation d)
    where
      same : (c.head ≡ head) × (c.generation ≡ generation)
      same = same_use c.head c.generation (used_of laws.sets held c.used tells)

      by : IsToBeCleared c.head logs c.generation d ⊎ ¬ IsToBeCleared c.head logs c.generation d → OneLeft (Clears d) (left d)
      by (inl asked) =
          part_left d low (subst (λ (g : ℕ). IsToBeCleared head logs g d) same.1 (subst (λ (h : ℕ). IsToBeCleared h logs c.generation d) same.0 asked))
          (emptied_one (device_at u.before d) (device_at u.after d) (held d) (u.made d) (left d) (u.each d low).0 (u.each d low).1 (c.cleared d low asked))
      by (inr not_asked) = record { records = now d; holds = kept_at d low (c.kept d low not_asked); fits = inl refl }

  all_cleared : ClearsSideSafely logs u.before u.after → IsLeft logs states head now found left
  all_cleared c = record { kept = kept; holds = λ d low. holds_at d low (cases_lt d 4); which = by (cases_lt logs 3); recent = all_recent (λ l lt. still_recent l lt) }
    where
      -- no log in use is to be cleared
      not_asked : (l : ℕ) → l < logs → ¬ IsToBeCleared c.head logs c.generation (head + l)
      not_asked l lt asked =
          let its = used_of laws.sets held c.used tells in
          let e = (same_use c.head c.generation its).0 in
          side_of c.head logs (side_used held logs c.head logs c.generation its) some (head + l) (record { behind = omega (arith, e); before = omega (arith, e, lt) }) asked.side

      still_recent : (l : ℕ) → l < logs → ¬ IsOld (found (head + l)) → ¬ IsOld (left (head + l))
      still_recent l lt = let low : head + l < 4 = omega (arith, lt, within) in recent_at (head + l) low (c.kept (head + l) low (not_asked l lt))

      record_of : (d : ℕ) → (d < 4) ⊎ (4 ≤ d) → List Record
      record_of d (inl low) = (one_left c d low).records
      record_of d (inr high) = now d

      kept : ℕ → List Record
      kept d = record_of d (cases_lt d 4)

      holds_at : (d : ℕ) → d < 4 → (s : (d < 4) ⊎ (4 ≤ d)) → HoldsRecords (left d) (record_of d s)
      holds_at d low (inl l) = (one_left c d l).holds
      holds_at d low (inr high) = absurd (omega (arith, low, high))

      fits_at : (d : ℕ) (s : (d < 4) ⊎ (4 ≤ d)) → Clears d (record_of d s)
      fits_at d (inl l) = (one_left c d l).fits
      fits_at d (inr high) = inl refl

      fits : (d : ℕ) → Clears d (kept d)
      fits d = fits_at d (cases_lt d 4)

      -- where there are too many logs for another side, nothing is cleared
      still : 3 ≤ logs → (d : ℕ) → Clears d (kept d) → kept d ≡ now d
      still many d (inl e) = e
      still many d (inr none) = absurd (omega (arith, many, none.1.few))

      either : (d : ℕ) → Clears d (kept d) → (kept d ≡ now d) ⊎ (kept d ≡ [])
      either d (inl e) = inl e
      either d (inr none) = inr none.0

      away : (d : ℕ) → ¬ IsOnSide (other_side head logs) logs d → Clears d (kept d) → kept d ≡ now d
      away d off (inl e) = e
      away d off (inr none) = absurd (off none.1.side)

      same : (c.head ≡ head) × (c.generation ≡ generation)
      same = same_use c.head c.generation (used_of laws.sets held c.used tells)

      set : IsUsed now logs head logs generation → IsSet now head logs generation
      set (inl s) = s
      set (inr n) = absurd (omega (arith, n.3, same.1, c.checkpoint))

      by : (logs < 3) ⊎ (3 ≤ logs) → KeepFour logs states now kept
      by (inl two) = inr (inl (record {
        head = head;
        generation = generation;
        set = set used;
        checkpoint = omega (arith, same.1, c.checkpoint);
        few = omega (arith, two);
        cleared = record { cleared = λ d on. either d (fits d); same = λ d off. away d off (fits d) };
      }))
      by (inr many) = inl (λ d. still many d (fits d))

  -- no log in use held a record, and there was no set
  none_held : (b : BeginsSafely logs states u.before u.after) → (l : ℕ) → l < logs → now l ≡ []
  none_held b l lt =
      let low : l < 4 = omega (arith, lt, few) in
      sym (is_held l low) ∙ sym (one_told laws.lists (device_at u.before l) [] (held l) (b.empty.empty l lt) (tells l low))

  no_set : (b : BeginsSafely logs states u.before u.after) → HasNoSet now
  no_set b = by (used_same laws.sets held now logs 0 logs 0 (λ d low. sym (is_held d low)) (used_of laws.sets held b.empty.used tells))
    where
      by : IsUsed now logs 0 logs 0 → HasNoSet now
      by (inl s) = let none : [] ≡ Genesis logs s.first ∷ s.is_head.rest = sym (none_held b 0 (omega (arith, some))) ∙ s.is_head.begins in absurd (cc none)
      by (inr n) = n.0

  zero_head : (b : BeginsSafely logs states u.before u.after) → head ≡ 0
  zero_head b = by used
    where
      by : IsUsed now logs head logs generation → head ≡ 0
      by (inl s) = absurd (no_set b head logs s.first s.is_head)
      by (inr n) = n.1

  first_recent : (b : BeginsSafely logs states u.before u.after) → (¬ IsOld (found 0) → ¬ IsOld (left 0)) → AreRecent found head logs → AreRecent left head logs
  first_recent b first = all_recent (λ l lt. let e : l ≡ head + l = omega (arith, zero_head b) in subst (λ (d : ℕ). ¬ IsOld (found d) → ¬ IsOld (left d)) e (each l (omega (arith, lt, few))))
    where
      each : (d : ℕ) → d < 4 → ¬ IsOld (found d) → ¬ IsOld (left d)
      each zero low = first
      each (suc d) low = recent_at (suc d) low (b.others (suc d) (omega arith) low)

  first_left : (b : BeginsSafely logs states u.before u.after) → (¬ IsOld (found 0) → ¬ IsOld (left 0)) → HoldsRecords (left 0) (held 0) ⊎ HoldsRecords (left 0) (held 0 ++ first_record logs states ∷ []) → IsLeft logs states head now found left
  first_left b first (inl same) = record { kept = now; holds = each; which = inl (λ d. refl); recent = first_recent b first }
    where
      each : (d : ℕ) → d < 4 → HoldsRecords (left d) (now d)
      each zero low = as_now 0 low same
      each (suc d) low = kept_at (suc d) low (b.others (suc d) (omega arith) low)
  first_left b first (inr more) = record {
    kept = kept;
    holds = each;
    recent = first_recent b first;
    which = inr (inr (record { none = no_set b; empty = none_held b; first = refl; same = same }));
  }
    where
      kept : ℕ → List Record
      kept zero = first_record logs states ∷ []
      kept (suc d) = now (suc d)

      same : (d : ℕ) → 0 < d → kept d ≡ now d
      same zero lt = absurd (omega (arith, lt))
      same (suc d) lt = refl

      each : (d : ℕ) → d < 4 → HoldsRecords (left d) (kept d)
      each zero low = subst (λ (rs : List Record). HoldsRecords (left 0) (rs ++ first_record logs states ∷ [])) (is_held 0 low ∙ none_held b 0 (omega (arith, some))) more
      each (suc d) low = kept_at (suc d) low (b.others (suc d) (omega arith) low)

  left_by_call : AreSafe logs states u.before u.after → IsLeft logs states head now found left
  left_by_call (inl all) = all_kept all
  left_by_call (inr (inl c)) = all_cleared c
  left_by_call (inr (inr b)) =
      let low : 0 < 4 = omega arith in
      let one = added_one (device_at u.before 0) (device_at u.after 0) (held 0) (first_record logs states ∷ []) (u.made 0) (left 0) (u.each 0 low).0 (u.each 0 low).1 b.first in
      first_left b (λ recent. one.1 (was_recent 0 low recent)) one.0

  one_call : IsLeft logs states head now found left
  one_call = left_by_call u.safe

-- ---- the logs in use behind it

module _ (laws : SetLaws) (logs : ℕ) (states : List State) (head generation : ℕ) (now : ℕ → List Record) (some : 1 ≤ logs) (used : IsUsed now logs head logs generation) where
  -- the set that is partly cleared is the one in use
  same_set : (kept : ℕ → List Record) (c : IsPartlyCleared logs now kept) → c.head ≡ head
  same_set kept c = (laws.one now logs c.head logs c.generation head logs generation (inl c.set) used).0

  pub still_used : (kept : ℕ → List Record) (c : IsPartlyCleared logs now kept) → IsUsed kept logs head logs generation × (logs_from kept head logs ≡ logs_from now head logs)
  still_used kept c = laws.clear now kept logs head logs generation some used (subst (λ (h : ℕ). IsBefore now kept (other_side h logs) logs) (same_set kept c) c.cleared)

  pub zeros : HasNoSet now → (head ≡ 0) × (generation ≡ 0)
  zeros none = by used
    where
      by : IsUsed now logs head logs generation → (head ≡ 0) × (generation ≡ 0)
      by (inl s) = absurd (none head logs s.first s.is_head)
      by (inr n) = (n.1, n.3)

  other_same : (kept : ℕ → List Record) (b : IsJustBegun logs states now kept) (d : ℕ) → d ≢ 0 → (kept d ≡ now d) ⊎ (kept d ≡ [])
  other_same kept b zero other = absurd (other refl)
  other_same kept b (suc d) other = inl (b.same (suc d) (omega arith))

  begun_here : (kept : ℕ → List Record) (b : IsJustBegun logs states now kept) → IsSet kept 0 logs 0
  begun_here kept b = laws.begin now kept logs states b.none b.first (other_same kept b)

  used_behind : (kept : ℕ → List Record) → KeepFour logs states now kept → IsUsed kept logs head logs generation
  used_behind kept (inl same) = used_same laws now kept logs head logs generation (λ d low. same d) used
  used_behind kept (inr (inl c)) = (still_used kept c).0
  used_behind kept (inr (inr b)) =
      let z = zeros b.none in
      inl (subst (λ (h : ℕ). IsSet kept h logs generation) (sym z.0) (subst (λ (g : ℕ). IsSet kept 0 logs g) (sym z.1) (begun_here kept b)))

  pub lists_behind : (kept : ℕ → List Record) → ((d : ℕ) → kept d ≡ now d) → logs_from kept head logs ≡ logs_from now head logs
  lists_behind kept same = lists_from kept (logs_from now head logs) head logs (from_long now head logs) (λ l lt. same (head + l) ∙ sym (from_at now head logs l lt))

  left_behind : (kept : ℕ → List Record) → KeepFour logs states now kept → IsLeftByRuns now head logs → IsLeftByRuns kept head logs
  left_behind kept (inl same) was = left_stays now kept logs head logs generation some (used_behind kept (inl same)) (lists_behind kept same) was
  left_behind kept (inr (inl c)) was = left_stays now kept logs head logs generation some (still_used kept c).0 (still_used kept c).1 was
  left_behind kept (inr (inr b)) was = left_set kept head logs 0 (subst (λ (h : ℕ). IsSet kept h logs 0) (sym (zeros b.none).0) (begun_here kept b))

  -- no log in use held a record
  pub none_in_use : (kept : ℕ → List Record) (b : IsJustBegun logs states now kept) → AreEmpty (logs_from now head logs)
  none_in_use kept b =
      all_empty (logs_from now head logs) (λ l lt.
      let there : l < logs = omega (arith, lt, from_long now head logs) in
      let e : head + l ≡ l = omega (arith, (zeros b.none).0) in
      from_at now head logs l there ∙ (ap now e ∙ b.empty l there))

  -- ---- and behind one more

  joined : (mid kept : ℕ → List Record) → KeepFour logs states now mid → KeepFour logs states mid kept → KeepFour logs states now kept
  joined mid kept (inl same) (inl more) = inl (λ d. more d ∙ same d)
  joined mid kept (inl same) (inr (inl c)) = inr (inl (record {
    head = c.head;
    generation = c.generation;
    set = set_same laws mid now c.head logs c.generation (λ d low. sym (same d)) c.set;
    checkpoint = c.checkpoint;
    few = c.few;
    cleared = record {
      cleared = λ d on. elim (c.cleared.cleared d on) [ inl e ↦ inl (e ∙ same d) | inr e ↦ inr e ];
      same = λ d off. c.cleared.same d off ∙ same d;
    };
  }))
  joined mid kept (inl same) (inr (inr b)) = inr (inr (record {
    none = none_same laws mid now (λ d low. sym (same d)) b.none;
    empty = λ l lt. sym (same l) ∙ b.empty l lt;
    first = b.first;
    same = λ d lt. b.same d lt ∙ same d;
  }))
  joined mid kept (inr (inl c)) (inl more) = inr (inl (record {
    head = c.head;
    generation = c.generation;
    set = c.set;
    checkpoint = c.checkpoint;
    few = c.few;
    cleared = record {
      cleared = λ d on. elim (c.cleared.cleared d on) [ inl e ↦ inl (more d ∙ e) | inr e ↦ inr (more d ∙ e) ];
      same = λ d off. more d ∙ c.cleared.same d off;
    };
  }))
  joined mid kept (inr (inl c)) (inr (inl x)) =
      let same : x.head ≡ c.head = (laws.one mid logs x.head logs x.generation head logs generation (inl x.set) (still_used mid c).0).0 ∙ sym (same_set mid c) in
      let more : IsBefore mid kept (other_side c.head logs) logs = subst (λ (h : ℕ). IsBefore mid kept (other_side h logs) logs) same x.cleared in
      inr (inl (record {
        head = c.head;
        generation = c.generation;
        set = c.set;
        checkpoint = c.checkpoint;
        few = c.few;
        cleared = record {
          cleared = λ d on. cleared_twice (kept d) (mid d) (now d) (c.cleared.cleared d on) (more.cleared d on);
          same = λ d off. more.same d off ∙ c.cleared.same d off;
        };
      }))
    where
      cleared_twice : (k m n : List Record) → (m ≡ n) ⊎ (m ≡ []) → (k ≡ m) ⊎ (k ≡ []) → (k ≡ n) ⊎ (k ≡ [])
      cleared_twice k m n (inl a) (inl b) = inl (b ∙ a)
      cleared_twice k m n (inr a) (inl b) = inr (b ∙ a)
      cleared_twice k m n a (inr b) = inr b
  joined mid kept (inr (inl c)) (inr (inr b)) =
      let s : IsUsed mid logs head logs generation = (still_used mid c).0 in
      absurd (no_more s)
    where
      no_more : IsUsed mid logs head logs generation → ⊥
      no_more (inl s) = b.none head logs s.first s.is_head
      no_more (inr n) =
          let same : c.generation ≡ generation = (laws.one now logs c.head logs c.generation head logs generation (inl c.set) used).2 in
          omega (arith, n.3, same, c.checkpoint)
  joined mid kept (inr (inr b)) (inl more) = inr (inr (record {
    none = b.none;
    empty = b.empty;
    first = more 0 ∙ b.first;
    same = λ d lt. more d ∙ b.same d lt;
  }))
  joined mid kept (inr (inr b)) (inr (inl c)) =
      let same : c.generation ≡ 0 = (laws.one mid logs c.head logs c.generation 0 logs 0 (inl c.set) (inl (begun_here mid b))).2 in
      absurd (omega (arith, same, c.checkpoint))
  joined mid kept (inr (inr b)) (inr (inr x)) =
      let s = begun_here mid b in
      absurd (x.none 0 logs s.first s.is_head)

-- ---- what the logs lead to behind it

first_of_lists : (records : List (List Record)) (added : List Record) (devices : ℕ → List Record) (head logs : ℕ) → length records ≡ logs → AreEmpty records → devices head ≡ added
    → ((l : ℕ) → 0 < l → l < logs → devices (head + l) ≡ records_at records l) → logs_from devices head logs ≡ with_first records added
first_of_lists records added devices head logs many empty first others =
    lists_from devices (with_first records added) head logs (first_long records added ∙ many) (λ l lt. at records l empty (omega (arith, lt, many)) others lt)
  where
    at : (records : List (List Record)) (l : ℕ) → AreEmpty records → l < length records → ((l : ℕ) → 0 < l → l < logs → devices (head + l) ≡ records_at records l) → l < logs → devices (head + l) ≡ records_at (with_first records added) l
    at [] l empty lt others few = absurd (omega (arith, lt))
    at (rs ∷ rss) zero empty lt others few =
        let e : head + 0 ≡ head = omega arith in
        ap devices e ∙ (first ∙ sym (ap (λ (xs : List Record). xs ++ added) empty.0))
    at (rs ∷ rss) (suc l) empty lt others few = others (suc l) (omega arith) few

module _ (laws : CallLaws) (logs : ℕ) (states : List State) (head generation : ℕ) (now kept : ℕ → List Record) (some : 1 ≤ logs) (used : IsUsed now logs head logs generation) where
  -- Genesis is written where no log in use held a record
  with_genesis : (b : IsJustBegun logs states now kept) → logs_from kept head logs ≡ with_first (logs_from now head logs) (first_record (length (logs_from now head logs)) states ∷ [])
  with_genesis b =
      let z = zeros laws.sets logs states head generation now some used b.none in
      let many : logs ≡ length (logs_from now head logs) = sym (from_long now head logs) in
      first_of_lists (logs_from now head logs) (first_record (length (logs_from now head logs)) states ∷ []) kept head logs (from_long now head logs)
      (none_in_use laws.sets logs states head generation now some used kept b) (ap kept z.0 ∙ (b.first ∙ ap (λ (n : ℕ). first_record n states ∷ []) many))
      (λ l positive lt. b.same (head + l) (omega (arith, positive)) ∙ sym (from_at now head logs l lt))

  lead_on : KeepFour logs states now kept → (f : Folded) → LeadTo (logs_from now head logs) states f → LeadTo (logs_from kept head logs) states f
  lead_on (inl same) f leads = subst (λ (l : List (List Record)). LeadTo l states f) (sym (lists_behind laws.sets logs states head generation now some used kept same)) leads
  lead_on (inr (inl c)) f leads = subst (λ (l : List (List Record)). LeadTo l states f) (sym (still_used laws.sets logs states head generation now some used kept c).1) leads
  lead_on (inr (inr b)) f leads =
      subst (λ (l : List (List Record)). LeadTo l states f) (sym (with_genesis b))
      (begun_leads laws.fold laws.written laws.begun (logs_from now head logs) states f (omega (arith, some, from_long now head logs)) (none_in_use laws.sets logs states head generation now some used kept b) leads)

  states_on : KeepFour logs states now kept → AreOfStates (logs_from now head logs) states → AreOfStates (logs_from kept head logs) states
  states_on (inl same) are = subst (λ (l : List (List Record)). AreOfStates l states) (sym (lists_behind laws.sets logs states head generation now some used kept same)) are
  states_on (inr (inl c)) are = subst (λ (l : List (List Record)). AreOfStates l states) (sym (still_used laws.sets logs states head generation now some used kept c).1) are
  states_on (inr (inr b)) are =
      let w = written_folds laws.written laws.begun (logs_from now head logs) states (omega (arith, some, from_long now head logs)) (none_in_use laws.sets logs states head generation now some used kept b) in
      inr (subst (λ (l : List (List Record)). BeganWith l states) (sym (with_genesis b)) w.0)

-- ---- all of them

-- what calls leave of four devices that held these records in these bytes, with these logs in use
record AllLeft (logs : ℕ) (states : List State) (head generation : ℕ) (now : ℕ → List Record) (found : ℕ → List ℕ) (calls : List Call) (images : ℕ → List ℕ) : Type 0 where
  kept : ℕ → List Record
  holds : HoldFour images kept
  kept_head : ℕ
  kept_generation : ℕ
  recent : AreRecent found head logs → AreRecent images kept_head logs
  used : IsUsed kept logs kept_head logs kept_generation
  set : IsLeftByRuns now head logs → IsLeftByRuns kept kept_head logs
  unbegun : ¬ HasCompaction calls → (kept_head ≡ head) × (kept_generation ≡ generation) × KeepFour logs states now kept
  folds : FoldsOn calls (logs_from now head logs) (logs_from kept kept_head logs) states

all_left : CallLaws → (logs : ℕ) (states : List State) (head generation : ℕ) (now : ℕ → List Record) (found : ℕ → List ℕ) (calls : List Call) → 1 ≤ logs → logs ≤ 4 → IsUsed now logs head logs generation
    → HoldFour found now → (HasCompaction calls → AreOfStates (logs_from now head logs) states) → AreBetween logs states found calls → AllLeft logs states head generation now found calls (left_last found calls)
all_left laws logs states head generation now found [] some few used holds of_states are = record {
  kept = now;
  holds = holds;
  kept_head = head;
  kept_generation = generation;
  recent = λ was. was;
  used = used;
  set = λ was. was;
  unbegun = λ none. (refl, refl, inl (λ d. refl));
  folds = λ f leads. (f, leads, still refl);
}
all_left laws logs states head generation now found (Unbegun left ∷ calls) some few used holds of_states are =
    let first = one_call laws logs states head generation now found left some few used holds are.0.0 are.0.1 in
    let on = used_behind laws.sets logs states head generation now some used first.kept first.which in
    let rest =
    all_left laws logs states head generation first.kept left calls some few on first.holds (λ among. states_on laws logs states head generation now first.kept some used first.which (of_states among)) are.1 in
    record {
      kept = rest.kept;
      holds = rest.holds;
      kept_head = rest.kept_head;
      kept_generation = rest.kept_generation;
      recent = λ was. rest.recent (first.recent was);
      used = rest.used;
      set = λ was. rest.set (left_behind laws.sets logs states head generation now some used first.kept first.which was);
      unbegun = λ none. let r = rest.unbegun none in (r.0, r.1, joined laws.sets logs states head generation now some used first.kept rest.kept first.which r.2);
      folds = λ f leads.
          let r = rest.folds f (lead_on laws logs states head generation now first.kept some used first.which f leads) in
          (r.0, r.1, fold_on (Unbegun left) calls f f r.0 (still refl) r.2);
    }
all_left laws logs states head generation now found (Compaction left ∷ calls) some few used holds of_states are =
    let mine : CompactionLaws = record { sets = laws.sets; lists = laws.lists; fold = laws.fold; begun = laws.begun } in
    let was = of_states tt in
    let first = behind mine logs states head generation now found left some few used holds was are.0.0 are.0.1 in
    let on = compaction_use mine logs states head generation now found left some few used holds was are.0.0 are.0.1 in
    let again = states_behind mine logs states head generation now found left some few used holds was are.0.0 are.0.1 in
    let rest = all_left laws logs states first.head first.fold.generation first.now left calls some few on first.holds (λ among. again) are.1 in
    record {
      kept = rest.kept;
      holds = rest.holds;
      kept_head = rest.kept_head;
      kept_generation = rest.kept_generation;
      recent = λ old. rest.recent (recent_behind mine logs states head generation now found left some few used holds was are.0.0 are.0.1 old);
      used = rest.used;
      set = λ runs. rest.set (set_behind mine logs states head generation now found left some few used holds was are.0.0 are.0.1 runs);
      unbegun = λ none. absurd (none tt);
      folds = λ f leads.
          let mid = folds_behind mine logs states head generation now found left some few used holds was are.0.0 are.0.1 f leads in
          let r = rest.folds mid.0 mid.1 in
          (r.0, r.1, fold_on (Compaction left) calls f mid.0 r.0 mid.2 r.2);
    }

-- what the law calls_between_runs_lose_nothing says
abbrev pub CallsKeep : Type 0
CallsKeep = (logs : ℕ) (states : List State) (head generation : ℕ) (now : ℕ → List Record) (found : ℕ → List ℕ) (calls : List Call) → 1 ≤ logs → logs ≤ 4 → IsUsed now logs head logs generation → HoldFour found now
    → (HasCompaction calls → AreOfStates (logs_from now head logs) states) → AreBetween logs states found calls → AreKept logs states head generation now found calls (left_last found calls)

pub calls_keep : CallLaws → CallsKeep
calls_keep laws = λ logs states head generation now found calls some few used holds of_states are.
    let all = all_left laws logs states head generation now found calls some few used holds of_states are in
    record {
      kept = all.kept;
      holds = all.holds;
      kept_head = all.kept_head;
      kept_generation = all.kept_generation;
      recent = all.recent;
      used = all.used;
      set = all.set;
      unbegun = all.unbegun;
      folds = all.folds;
      begins = begins_behind laws.fold calls (logs_from now head logs) (logs_from all.kept all.kept_head logs) states all.folds;
    }
