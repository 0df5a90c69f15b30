-- What a compaction between runs leaves of the logs.
use Rattle.std.specs.Prelude.{◌≡◌, refl, ℕ, zero, suc, ◌+◌, ◌<◌, ◌≤◌, ◌⊎◌, IfSome, Option, List, [], ◌∷◌, ◌++◌, length, filter}
use Rattle.std.proofs.Common.{inl, inr, arith, sym, ap, subst, ◌∙◌}
use Rattle.std.proofs.lemmas.List.{append-nil}
use Rattle.std.proofs.lemmas.List.Elements.{filter-append}
use Rattle.log_compaction.specs.Crashes.{CompactsSafely, FoldsAgain}
use Rattle.machine_recovery.specs.compact_laws.log_compact.declared.folds.Folded.{Folded}
use Rattle.machine_recovery.specs.compact_laws.log_compact.Compacting.{AreSameOrNext}
use Rattle.machine_recovery.specs.compact_laws.log_compact.Finding.{IsLeftByRuns, IsUsed}
use Rattle.machine_recovery.specs.compact_laws.log_compact.Folds.{FoldsAreBegun}
use Rattle.machine_recovery.specs.compact_laws.log_compact.Sets.{IsFolded, OneFold, logs_from}
use Rattle.record_log.specs.RecordLogLaws.{OneListOfRecords}
use Rattle.run_opening.specs.Begins.{BeganWith}
use Rattle.run_opening.specs.Opens.{AreSafe, records_at}
use Rattle.run_opening.specs.log_opening.Cuts.{AreRecent, HoldFour, TellBytes}
use Rattle.run_opening.specs.log_opening.Devices.{Device, HoldNoOld, HoldsNoOld, IsOld, device_at}
use Rattle.run_opening.specs.log_opening.Kept.{AreFolded}
use Rattle.snap_base.specs.declared.transactions.State.{State}
use Rattle.snap_recover.specs.Logs.{all_of, is_genesis}
use Rattle.record_log.specs.snap_outside.Disk.{DeviceHistory, content}
use Rattle.record_log.specs.txn_records.declared.records.Record.{Record}
use Rattle.record_log.specs.txn_records.declared.records.Record.TheVariants.{Genesis}
use Rattle.run_recovery.specs.Between.{AreOfStates, Compaction, IsCompaction, IsFoldBehind, compacted, still}
use Rattle.run_recovery.proofs.FourDevices.{SetLaws, TellAll, from_at, from_long, held_now, left_set, left_stays, lists_from, one_told, used_of, used_same, within_four}
use Rattle.run_recovery.proofs.Leading.{FoldsOn, one_lead}
use Rattle.run_recovery.proofs.NextRuns.{began_some, one_beginning}

-- what the laws say
pub record CompactionLaws : Type 0 where
  pub sets : SetLaws
  pub lists : OneListOfRecords
  pub fold : OneFold
  pub begun : FoldsAreBegun

-- where the first of some logs folds alone, there is no other
one_log : (devices : ℕ → List Record) (head logs : ℕ) (first states : List State) → 1 ≤ logs → BeganWith (logs_from devices head 1) first → AreOfStates (logs_from devices head logs) states → logs ≡ 1
one_log devices head zero first states some alone are = absurd (omega (arith, some))
one_log devices head (suc n) first states some alone (inl empty) = absurd (began_some (logs_from devices head 1) first alone (empty.0, tt))
one_log devices head (suc n) first states some alone (inr began) = omega (arith, many, from_long devices (head + 1) n)
  where
    own : filter is_genesis (devices head) ≡ Genesis 1 first ∷ []
    own = ap (filter is_genesis) (sym (append-nil (devices head))) ∙ alone

    both : Genesis 1 first ∷ filter is_genesis (all_of (logs_from devices (head + 1) n)) ≡ Genesis (length (devices head ∷ logs_from devices (head + 1) n)) states ∷ []
    both =
        ap (λ (l : List Record). l ++ filter is_genesis (all_of (logs_from devices (head + 1) n))) (sym own)
        ∙ (sym (filter-append is_genesis (devices head) (all_of (logs_from devices (head + 1) n))) ∙ began)

    many : 1 ≡ length (devices head ∷ logs_from devices (head + 1) n)
    many = let e = both in cc

-- a device that tells bytes which are no log of format 1 with an item holds none
pub told_recent : (ds : List Device) (bytes : ℕ → List ℕ) → TellBytes ds bytes → (d : ℕ) → d < 4 → ¬ IsOld (bytes d) → HoldsNoOld (device_at ds d)
told_recent ds bytes tell d low recent =
    let t = tell d low in
    subst (λ (o : Option DeviceHistory). IfSome o (λ h. ¬ IsOld (content h))) (sym t.1) (subst (λ (b : List ℕ). ¬ IsOld b) (sym t.2) recent)

module _ (laws : CompactionLaws) (logs : ℕ) (states : List State) (head generation : ℕ) (now : ℕ → List Record) (found left : ℕ → List ℕ) (some : 1 ≤ logs) (few : logs ≤ 4) (used : IsUsed now logs head logs generation) (holds : HoldFour found now)
    (of_states : AreOfStates (logs_from now head logs) states) (held : ℕ → List Record) (c : IsCompaction held found left) where
  tells : TellAll c.before held
  tells d low = let cut = (c.crash.each d low).0 in (cut.history, cut.told, cut.holds)

  is_held : (d : ℕ) → d < 4 → held d ≡ now d
  is_held = held_now laws.lists c.before held now found tells c.told holds

  -- ---- the logs that are compacted are those of the runs

  its_use : IsUsed held 1 c.logs.head (length c.logs.lists) c.logs.given.generation
  its_use = used_of laws.sets held c.logs.given.used tells

  runs_use : IsUsed held logs head logs generation
  runs_use = used_same laws.sets now held logs head logs generation is_held used

  within : c.logs.head + length c.logs.lists ≤ 4
  within = by its_use
    where
      by : IsUsed held 1 c.logs.head (length c.logs.lists) c.logs.given.generation → c.logs.head + length c.logs.lists ≤ 4
      by (inl s) =
          let o = laws.sets.one held logs c.logs.head (length c.logs.lists) c.logs.given.generation head logs generation (inl s) runs_use in
          within_four held c.logs.head (length c.logs.lists) c.logs.given.generation (omega (arith, o.1, few)) (inl s)
      by (inr n) = omega (arith, n.1, n.2)

  its_lists : logs_from held c.logs.head (length c.logs.lists) ≡ c.logs.lists
  its_lists =
      lists_from held c.logs.lists c.logs.head (length c.logs.lists) refl
      (λ l lt. sym (one_told laws.lists (device_at c.before (c.logs.head + l)) (records_at c.logs.lists l) (held (c.logs.head + l)) (c.logs.given.held l lt) (tells (c.logs.head + l) (omega (arith, within, lt)))))

  same_lists : logs_from held head logs ≡ logs_from now head logs
  same_lists =
      lists_from held (logs_from now head logs) head logs (from_long now head logs)
      (λ l lt. is_held (head + l) (omega (arith, lt, within_four now head logs generation few used)) ∙ sym (from_at now head logs l lt))

  same : (c.logs.head ≡ head) × (length c.logs.lists ≡ logs)
  same = by its_use runs_use
    where
      by : IsUsed held 1 c.logs.head (length c.logs.lists) c.logs.given.generation → IsUsed held logs head logs generation → (c.logs.head ≡ head) × (length c.logs.lists ≡ logs)
      by (inl s) u = let o = laws.sets.one held logs c.logs.head (length c.logs.lists) c.logs.given.generation head logs generation (inl s) u in (o.0, o.1)
      by (inr n) (inl s) = absurd (n.0 head logs s.first s.is_head)
      by (inr n) (inr m) =
          let here : c.logs.head ≡ head = n.1 ∙ sym m.1 in
          let first : BeganWith c.logs.lists c.logs.fold.first = (laws.begun c.logs.lists c.logs.fold c.logs.folded).one in
          let own : BeganWith (logs_from held c.logs.head (length c.logs.lists)) c.logs.fold.first = subst (λ (l : List (List Record)). BeganWith l c.logs.fold.first) (sym its_lists) first in
          let alone : BeganWith (logs_from held head 1) c.logs.fold.first =
          subst (λ (k : ℕ). BeganWith (logs_from held head k) c.logs.fold.first) n.2 (subst (λ (h : ℕ). BeganWith (logs_from held h (length c.logs.lists)) c.logs.fold.first) here own) in
          (here, n.2 ∙ sym (one_log held head logs c.logs.fold.first states some alone (subst (λ (l : List (List Record)). AreOfStates l states) (sym same_lists) of_states)))

  runs_lists : c.logs.lists ≡ logs_from now head logs
  runs_lists = sym its_lists ∙ (ap (λ (h : ℕ). logs_from held h (length c.logs.lists)) same.0 ∙ (ap (λ (n : ℕ). logs_from held head n) same.1 ∙ same_lists))

  folded : IsFolded (logs_from now head logs) c.logs.fold
  folded = subst (λ (l : List (List Record)). IsFolded l c.logs.fold) runs_lists c.logs.folded

  first_began : BeganWith (logs_from now head logs) c.logs.fold.first
  first_began = (laws.begun (logs_from now head logs) c.logs.fold folded).one

  began : BeganWith (logs_from now head logs) states
  began = by of_states
    where
      by : AreOfStates (logs_from now head logs) states → BeganWith (logs_from now head logs) states
      by (inl empty) = absurd (began_some (logs_from now head logs) c.logs.fold.first first_began empty)
      by (inr b) = b

  first_is : c.logs.fold.first ≡ states
  first_is = one_beginning (logs_from now head logs) c.logs.fold.first states first_began began

  -- ---- what is left

  -- it folds again, and none of the logs in use is of format 1 with an item, where none was
  abbrev pub Again : ℕ → ℕ → Type 0
  Again from many = (again : FoldsAgain held from many c.logs.fold left) × (HoldNoOld from many c.before → AreRecent left again.head many)

  pub again_left : Again head logs
  again_left = subst (λ (n : ℕ). Again head n) same.1 (subst (λ (h : ℕ). Again h (length c.logs.lists)) same.0 (c.safe.folds c.logs held left c.crash, c.safe.recent c.logs held left c.crash))

  abbrev pub behind : FoldsAgain held head logs c.logs.fold left
  behind = again_left.0

  pub recent_behind : AreRecent found head logs → AreRecent left behind.head logs
  recent_behind was = again_left.1 (λ l lt. told_recent c.before found c.told (head + l) (omega (arith, lt, within_four now head logs generation few used)) (was l lt))

  began_behind : BeganWith (logs_from behind.now behind.head logs) states
  began_behind =
      subst (λ (s : List State). BeganWith (logs_from behind.now behind.head logs) s) (behind.same.first ∙ first_is)
      (laws.begun (logs_from behind.now behind.head logs) behind.fold behind.folded).one

  pub states_behind : AreOfStates (logs_from behind.now behind.head logs) states
  states_behind = inr began_behind

  pub compaction_use : IsUsed behind.now logs behind.head logs behind.fold.generation
  compaction_use = by behind.used
    where
      by : IsUsed behind.now 1 behind.head logs behind.fold.generation → IsUsed behind.now logs behind.head logs behind.fold.generation
      by (inl s) = inl s
      by (inr n) = inr (n.0, n.1, refl, n.3)

  pub set_behind : IsLeftByRuns now head logs → IsLeftByRuns behind.now behind.head logs
  set_behind was = by behind.which compaction_use
    where
      by : AreSameOrNext held behind.now head behind.head logs c.logs.fold behind.fold → IsUsed behind.now logs behind.head logs behind.fold.generation → IsLeftByRuns behind.now behind.head logs
      by (inl kept) u =
          subst (λ (h : ℕ). IsLeftByRuns behind.now h logs) (sym kept.0)
          (left_stays now behind.now logs head logs behind.fold.generation some (subst (λ (h : ℕ). IsUsed behind.now logs h logs behind.fold.generation) kept.0 u) (kept.1 ∙ same_lists) was)
      by (inr next) (inl s) = left_set behind.now behind.head logs behind.fold.generation s
      by (inr next) (inr n) = absurd (omega (arith, n.3, next.1))

  pub folds_behind : FoldsOn (Compaction left ∷ []) (logs_from now head logs) (logs_from behind.now behind.head logs) states
  folds_behind f leads = (
    behind.fold,
    inr (began_behind, behind.folded),
    subst (λ (x : Folded). IsFoldBehind (Compaction left ∷ []) x behind.fold) (one_lead laws.fold (logs_from now head logs) states c.logs.fold f (inr (began, folded)) leads) (by behind.which),
  )
    where
      by : AreSameOrNext held behind.now head behind.head logs c.logs.fold behind.fold → IsFoldBehind (Compaction left ∷ []) c.logs.fold behind.fold
      by (inl kept) = still kept.2
      by (inr next) = compacted tt behind.same (omega (arith, next.1)) next.2

-- where the logs do not fold, the call loses no record
pub between_runs : (logs : ℕ) (states : List State) (before after : List Device) → CompactsSafely before after → AreFolded before ⊎ AreSafe logs states before after
between_runs logs states before after safe = elim (safe.keeps) [ inl folded ↦ inl folded | inr keeps ↦ inr (inl keeps) ]
