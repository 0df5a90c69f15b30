-- Where nothing stands in the way, the run begins.
use Rattle.std.proofs.Common.{◌≡◌, ℕ, ◌+◌, ◌<◌, ◌≤◌, inl, inr, List, [], ◌∷◌, ◌++◌, ℤ, zero, suc, length, map, refl, sym, ◌∙◌, ap, subst, arith, Option, Some}
use Rattle.std.proofs.lemmas.List.{append_cancel_left}
use Rattle.std.specs.Prelude.{IfSome, ◌⊎◌}
use Rattle.std.specs.List.{AllByRecursion}
use Rattle.snap_base.specs.declared.transactions.State.{State}
use Rattle.snap_outside.specs.Disk.{DeviceHistory, content}
use Rattle.gate_log.specs.declared.limits.TheConstants.{NEW_LOG_SIZE}
use Rattle.gate_log.specs.declared.logs.LogItem.{LogItem}
use Rattle.gate_log.specs.declared.opens.OpenNo.TheVariants as refusal
use Rattle.gate_log.specs.Bytes.{IsLog, DiffersAt, IsDamagedAt}
use Rattle.gate_log.specs.LogLaws.{OneList, DamageIsNoLog, DifferenceIsNoLog}
use Rattle.gate_log.specs.Opened.{Opened, Refused}
use Rattle.txn_records.specs.declared.records.Record.{Record}
use Rattle.txn_records.specs.Records.{record_bytes, IsRecord}
use Rattle.txn_records.specs.RecordLaws.{OneRecord}
use Rattle.record_log.specs.Records.{HoldsRecords, IsFirstBadIn}
use Rattle.record_log.specs.RecordLogLaws.{OneListOfRecords, NoRecordIsBad}
use Rattle.snap_recover.specs.declared.openings.Opening.{Opening}
use Rattle.snap_recover.specs.declared.refusals.RecoverNo.TheVariants as recover
use Rattle.snap_recover.specs.declared.causes.LogCause.{LogCause}
use Rattle.snap_recover.specs.declared.causes.LogCause.TheVariants as cause
use Rattle.snap_recover.specs.declared.causes.What.{What}
use Rattle.snap_recover.specs.declared.causes.What.TheVariants.{Actors, Field}
use Rattle.log_compact.specs.declared.folds.Folded.{Folded}
use Rattle.log_compact.specs.declared.refusals.FoldNo.TheVariants as fold
use Rattle.log_compact.specs.Finding.{HasNoSet, IsUsed}
use Rattle.log_compact.specs.Folds.{RefusedAreNotFolded}
use Rattle.log_compact.specs.Fronts.{HoldsFront, StopsAt}
use Rattle.log_compact.specs.Sets.{IsFolded, IsHead, IsSet, OneFold, OneSet, generation_of}
use Rattle.log_opening.specs.declared.refusals.LogsNo.{LogsNo}
use Rattle.log_opening.specs.declared.refusals.LogsNo.TheVariants as ending
use Rattle.log_opening.specs.Devices.{Device, device_at, HoldsNoOld, HoldsOld, IsOld}
use Rattle.log_opening.specs.Found.{IsFoldCause}
use Rattle.log_opening.specs.Kept.{AreUsed, DeviceHolds}
use Rattle.log_opening.specs.Counted.{AreNotRead}
use Rattle.run_opening.specs.Begins.{IsUnspent, IsFirstSpent, GoesOn, Begins, IsFieldDifference, IsDifference, IsCause}
use Rattle.run_opening.specs.Starts.{IsNoStart}
use Rattle.run_opening.specs.Opens.{AreNoStart, IsNoRun, TellsLog, TellsRecords, MayOpen, records_at}
use Rattle.run_opening.proofs.Clearing.{asked_within}
use Rattle.run_opening.proofs.Starting.{began_once}

pub record Laws : Type 0 where
  pub lists : OneList
  pub differs : DifferenceIsNoLog
  pub damaged : DamageIsNoLog
  pub one_record : OneRecord
  pub one_list : OneListOfRecords
  pub bad : NoRecordIsBad
  pub one_set : OneSet
  pub one_fold : OneFold
  pub never_both : RefusedAreNotFolded

-- ---- nothing differs from itself

same_field : (fields : List ℤ) (field : ℕ) (k t : ℤ) → IsFieldDifference fields fields field k t → ⊥
same_field fields field k t d =
    let same : k ∷ d.1 ≡ t ∷ d.2 = append_cancel_left d.0 (k ∷ d.1) (t ∷ d.2) (sym d.3 ∙ d.4) in
    d.6 cc

same_states : (states : List State) (what : What) (k t : ℤ) → IsDifference states states what k t → ⊥
same_states states Actors k t d = d.0 refl
same_states states (Field actor field) k t d =
    let g = d.1 in
    let same : g.3 ∷ g.1 ≡ g.4 ∷ g.2 = append_cancel_left g.0 (g.3 ∷ g.1) (g.4 ∷ g.2) (sym g.5 ∙ g.6) in
    let x : g.3 ≡ g.4 = cc in
    same_field g.4.0 field k t (subst (λ (s : State). IsFieldDifference s.0 g.4.0 field k t) x g.8)

-- ---- records on which a run goes on are no cause

spent_not : (o : Opening) (n : ℕ) → IsUnspent o → IsFirstSpent o n → ⊥
spent_not o n u (inl x) = omega (arith, u.tid, x.0)
spent_not o n u (inr (inl x)) = omega (arith, u.bid, x.1)
spent_not o n u (inr (inr x)) = omega (arith, u.c, x.2)

not_refused : Laws → (logs : List (List Record)) (f : Folded) (log : ℕ) (c : LogCause) → IsFolded logs f → IsFoldCause logs log c → ⊥
not_refused laws logs f log cause.NotALog on x = x
not_refused laws logs f log cause.Damage on x = x
not_refused laws logs f log cause.OldFormat on x = x
not_refused laws logs f log cause.BadRecord on x = x
not_refused laws logs f log cause.Stray on x = laws.never_both logs (fold.Stray log) f (λ e. cc) x on
not_refused laws logs f log cause.Back on x = x
not_refused laws logs f log cause.NoGenesis on x = laws.never_both logs (fold.Recover recover.NoGenesis) f (λ e. cc) x.1 on
not_refused laws logs f log cause.TwoGenesis on x = laws.never_both logs (fold.Recover recover.TwoGenesis) f (λ e. cc) x.1 on
not_refused laws logs f log (cause.LogCount kept found) on x = laws.never_both logs (fold.Recover (recover.LogCount kept found)) f (λ e. cc) x.1 on
not_refused laws logs f log (cause.Range k) on (inl x) = laws.never_both logs (fold.Range k log) f (λ e. cc) x on
not_refused laws logs f log (cause.Range k) on (inr x) = laws.never_both logs (fold.Recover (recover.Range k log)) f (λ e. cc) x on
not_refused laws logs f log (cause.Missing k) on x = laws.never_both logs (fold.Recover (recover.Missing k log)) f (λ e. cc) x on
not_refused laws logs f log (cause.Values k u v) on x = laws.never_both logs (fold.Recover (recover.Values k log u v)) f (λ e. cc) x on
not_refused laws logs f log (cause.Spent number) on x = x
not_refused laws logs f log (cause.Differs what kept text) on x = x

no_cause : Laws → (logs : List (List Record)) (states : List State) (o : Opening) (log : ℕ) (c : LogCause) → GoesOn logs states o → IsCause logs states log c → ⊥
no_cause laws logs states o log (cause.Spent number) on x =
    let same : x.1.0.opening ≡ o = ap (λ (f : Folded). f.opening) (laws.one_fold logs x.1.0 on.folded.0 x.1.1 on.folded.1) ∙ on.folded.2 in
    spent_not o number on.unspent (subst (λ (p : Opening). IsFirstSpent p number) same x.1.2)
no_cause laws logs states o log (cause.Differs what kept text) on x =
    same_states states what kept text (subst (λ (ss : List State). IsDifference ss states what kept text) (began_once logs x.1.0.first states x.1.3 on.same) x.1.4)
no_cause laws logs states o log cause.NotALog on x = x
no_cause laws logs states o log cause.Damage on x = x
no_cause laws logs states o log cause.OldFormat on x = x
no_cause laws logs states o log cause.BadRecord on x = x
no_cause laws logs states o log cause.Back on x = x
no_cause laws logs states o log cause.Stray on x = not_refused laws logs on.folded.0 log cause.Stray on.folded.1 x
no_cause laws logs states o log cause.NoGenesis on x = not_refused laws logs on.folded.0 log cause.NoGenesis on.folded.1 x
no_cause laws logs states o log cause.TwoGenesis on x = not_refused laws logs on.folded.0 log cause.TwoGenesis on.folded.1 x
no_cause laws logs states o log (cause.LogCount kept found) on x = not_refused laws logs on.folded.0 log (cause.LogCount kept found) on.folded.1 x
no_cause laws logs states o log (cause.Range k) on x = not_refused laws logs on.folded.0 log (cause.Range k) on.folded.1 x
no_cause laws logs states o log (cause.Missing k) on x = not_refused laws logs on.folded.0 log (cause.Missing k) on.folded.1 x
no_cause laws logs states o log (cause.Values k u v) on x = not_refused laws logs on.folded.0 log (cause.Values k u v) on.folded.1 x

no_start : Laws → (head : ℕ) (logs : List (List Record)) (states : List State) (o : Opening) (answer : LogsNo) → Begins logs states o → IsNoStart head logs states answer → answer ≡ ending.Memory
no_start laws head logs states o (ending.Refused log offset c) (inl fresh) why = absurd (why.1 fresh.0)
no_start laws head logs states o (ending.Refused log offset c) (inr on) why = absurd (no_cause laws logs states o why.2.0 c on why.2.2)
no_start laws head logs states o (ending.Device log) begins why = absurd why
no_start laws head logs states o ending.Memory begins why = refl

-- ---- one front

HasStopped : ℕ → List Record → List (List ℕ) → Type 0
HasStopped n front behind = (length front ≡ n) ⊎ StopsAt behind

-- where the one goes on with a record, the other has not stopped
goes_on_here : (n : ℕ) (r : Record) (more : List (List ℕ)) → 1 ≤ n → IsRecord r → HasStopped n [] (record_bytes r ∷ more) → ⊥
unfolding HasStopped
goes_on_here n r more some is (inl full) = omega (arith, some, full)
goes_on_here n r more some is (inr stops) = stops r is refl

one_less : (n : ℕ) (r : Record) (front : List Record) (behind : List (List ℕ)) → HasStopped (suc n) (r ∷ front) behind → HasStopped n front behind
unfolding HasStopped
one_less n r front behind (inl full) = inl (omega (arith, full))
one_less n r front behind (inr stops) = inr stops

one_front : OneRecord → (n : ℕ) (a b : List Record) (x y : List (List ℕ)) → map record_bytes a ++ x ≡ map record_bytes b ++ y → AllByRecursion IsRecord a → AllByRecursion IsRecord b
    → length a ≤ n → length b ≤ n → HasStopped n a x → HasStopped n b y → a ≡ b
one_front law n [] [] x y same are_a are_b few_a few_b stop_a stop_b = refl
one_front law n [] (s ∷ b) x y same are_a are_b few_a few_b stop_a stop_b =
    absurd (goes_on_here n s (map record_bytes b ++ y) (omega (arith, few_b)) are_b.0 (subst (λ (l : List (List ℕ)). HasStopped n [] l) same stop_a))
one_front law n (r ∷ a) [] x y same are_a are_b few_a few_b stop_a stop_b =
    absurd (goes_on_here n r (map record_bytes a ++ x) (omega (arith, few_a)) are_a.0 (subst (λ (l : List (List ℕ)). HasStopped n [] l) (sym same) stop_b))
one_front law zero (r ∷ a) (s ∷ b) x y same are_a are_b few_a few_b stop_a stop_b = absurd (omega (arith, few_a))
one_front law (suc n) (r ∷ a) (s ∷ b) x y same are_a are_b few_a few_b stop_a stop_b =
    let first : record_bytes r ≡ record_bytes s = cc in
    let rest : map record_bytes a ++ x ≡ map record_bytes b ++ y = cc in
    let here : r ≡ s = law r s are_a.0 are_b.0 first in
    let behind : a ≡ b = one_front law n a b x y rest are_a.1 are_b.1 (omega (arith, few_a)) (omega (arith, few_b)) (one_less n r a x stop_a) (one_less n s b y stop_b) in
    ap (λ (q : Record). q ∷ a) here ∙ ap (λ (l : List Record). s ∷ l) behind

same_front : Laws → (bytes : List ℕ) (a b : List Record) → HoldsFront bytes a → HoldsFront bytes b → a ≡ b
unfolding HasStopped
same_front laws bytes a b one other =
    let same : one.0 ≡ other.0 = laws.lists bytes one.0 other.0 one.1 other.1 in
    let parts : map record_bytes a ++ one.2.behind ≡ map record_bytes b ++ other.2.behind = sym one.2.parts ∙ same ∙ other.2.parts in
    one_front laws.one_record 2 a b one.2.behind other.2.behind parts one.2.each other.2.each one.2.few other.2.few one.2.whole other.2.whole

-- ---- one set

-- the devices below 3 hold the same
abbrev AreAlike : (ℕ → List Record) → (ℕ → List Record) → Type 0
AreAlike f g = (d : ℕ) → d < 3 → f d ≡ g d

head_alike : (f g : ℕ → List Record) (d many : ℕ) (states : List State) → AreAlike f g → IsHead d (f d) many states → IsHead d (g d) many states
head_alike f g d many states alike is = subst (λ (log : List Record). IsHead d log many states) (alike d is.low) is

back_alike : (f g : ℕ → List Record) → AreAlike f g → AreAlike g f
back_alike f g alike d lt = sym (alike d lt)

set_alike : (f g : ℕ → List Record) (head logs generation : ℕ) → AreAlike f g → IsSet f head logs generation → IsSet g head logs generation
set_alike f g head logs generation alike set = record {
  first = set.first;
  is_head = head_alike f g head logs set.first alike set.is_head;
  its = set.its ∙ ap generation_of (alike head set.is_head.low);
  greatest = λ d many states is.
      subst (λ (log : List Record). (generation_of log < generation) ⊎ ((generation_of log ≡ generation) × (head ≤ d))) (alike d is.low)
      (set.greatest d many states (head_alike g f d many states (back_alike f g alike) is));
}

none_alike : (f g : ℕ → List Record) → AreAlike f g → HasNoSet f → HasNoSet g
none_alike f g alike none d many states is = none d many states (head_alike g f d many states (back_alike f g alike) is)

one_used : OneSet → (f g : ℕ → List Record) (many a n i b m j : ℕ) → AreAlike f g → IsUsed f many a n i → IsUsed g many b m j → (a ≡ b) × (n ≡ m) × (i ≡ j)
one_used law f g many a n i b m j alike (inl one) (inl other) = law g a b n m i j (set_alike f g a n i alike one) other
one_used law f g many a n i b m j alike (inl one) (inr other) = absurd (other.0 a n one.first (head_alike f g a n one.first alike one.is_head))
one_used law f g many a n i b m j alike (inr one) (inl other) =
    absurd (one.0 b m other.first (head_alike g f b m other.first (back_alike f g alike) other.is_head))
one_used law f g many a n i b m j alike (inr one) (inr other) = (one.1 ∙ sym other.1, one.2 ∙ sym other.2, one.3 ∙ sym other.3)

-- ---- one device

same_records : Laws → (d : Device) (rs xs : List Record) → TellsRecords d rs → DeviceHolds d xs → xs ≡ rs
same_records laws d rs xs tells holds =
    laws.one_list (content tells.0) xs rs (subst (λ (m : Option DeviceHistory). IfSome m (λ h. HoldsRecords (content h) xs)) tells.1 holds) tells.2

long_differs : Laws → (bytes : List ℕ) (items : List (List ℕ)) (offset : ℕ) → IsLog bytes items → NEW_LOG_SIZE < length bytes → DiffersAt bytes offset → ⊥
long_differs laws bytes items offset (inl short) long differs = omega (arith, short.0, long)
long_differs laws bytes items offset (inr log) long differs = laws.differs bytes offset log.1.0 items differs log.1.1

long_damaged : Laws → (bytes : List ℕ) (items : List (List ℕ)) (offset : ℕ) → IsLog bytes items → NEW_LOG_SIZE < length bytes → IsDamagedAt bytes offset → ⊥
long_damaged laws bytes items offset (inl short) long damaged = omega (arith, short.0, long)
long_damaged laws bytes items offset (inr log) long damaged = laws.damaged bytes offset log.1.0 items damaged log.1.1

opens_well : Laws → (d : Device) (new : Option DeviceHistory) (offset : ℕ) → TellsLog d → Refused d.told new (refusal.NotALog offset) → ⊥
opens_well laws d new offset tells refused =
    let x = subst (λ (m : Option DeviceHistory). Refused m new (refusal.NotALog offset)) tells.2 refused in
    long_differs laws (content tells.0) tells.1 offset tells.3 x.1.0 x.1.1

opens_whole : Laws → (d : Device) (new : Option DeviceHistory) (offset : ℕ) → TellsLog d → Refused d.told new (refusal.Damage offset) → ⊥
opens_whole laws d new offset tells refused =
    let x = subst (λ (m : Option DeviceHistory). Refused m new (refusal.Damage offset)) tells.2 refused in
    long_damaged laws (content tells.0) tells.1 offset tells.3 x.1.0 x.1.1

decodes : Laws → (d : Device) (new : Option DeviceHistory) (rs : List Record) (end offset : ℕ) (items : List LogItem) → TellsRecords d rs → Opened d.told new end items → IsFirstBadIn items offset → ⊥
decodes laws d new rs end offset items tells opened bad =
    laws.bad tells.0 new end offset items rs (subst (λ (m : Option DeviceHistory). Opened m new end items) tells.1 opened) tells.2 bad

never_old : (d : Device) (rs : List Record) → TellsRecords d rs → HoldsNoOld d → HoldsOld d → ⊥
never_old d rs tells none old =
    let no : ¬ IsOld (content tells.0) = subst (λ (m : Option DeviceHistory). IfSome m (λ h. ¬ IsOld (content h))) tells.1 none in
    no (subst (λ (m : Option DeviceHistory). IfSome m (λ h. IsOld (content h))) tells.1 old)

told_front : (d : Device) (front : List Record) (h : DeviceHistory) → d.told ≡ Some h → IfSome d.told (λ g. HoldsFront (content g) front) → HoldsFront (content h) front
told_front d front h tells held = subst (λ (m : Option DeviceHistory). IfSome m (λ g. HoldsFront (content g) front)) tells held

-- lists that hold the same at each place
same_lists : (xs ys : List (List Record)) → length xs ≡ length ys → ((l : ℕ) → l < length xs → records_at xs l ≡ records_at ys l) → xs ≡ ys
same_lists [] [] long each = refl
same_lists [] (y ∷ ys) long each = absurd (omega (arith, long))
same_lists (x ∷ xs) [] long each = absurd (omega (arith, long))
same_lists (x ∷ xs) (y ∷ ys) long each =
    ap (λ (l : List Record). l ∷ xs) (each 0 (omega arith)) ∙ ap (λ (ls : List (List Record)). y ∷ ls) (same_lists xs ys (omega (arith, long)) (λ l lt. each (suc l) (omega (arith, lt))))

-- ---- all four

module _ (laws : Laws) (count : ℕ) (states : List State) (before after : List Device) (records : List (List Record)) (o : Opening) (some : 1 ≤ count) (few : count ≤ 4) (may : MayOpen count states before after records o) where
  told : (n : ℕ) → n < count → TellsRecords (device_at before (may.head + n)) (records_at records n)
  told n lt = may.told n lt

  -- the same logs are in use, whatever tells it
  same_used : (head many generation : ℕ) → AreUsed count before head many generation → (may.head ≡ head) × (count ≡ many) × (may.generation ≡ generation)
  same_used head many generation used =
      one_used laws.one_set may.used.fronts used.fronts count may.head count may.generation head many generation alike may.used.used used.used
    where
      alike : AreAlike may.used.fronts used.fronts
      alike d lt =
          let in_four : d < 4 = omega (arith, lt) in
          let tells = may.each d in_four in
          let one = told_front (device_at before d) (may.used.fronts d) tells.0 tells.2 (may.used.each d in_four) in
          let other = told_front (device_at before d) (used.fronts d) tells.0 tells.2 (used.each d in_four) in
          same_front laws (content tells.0) (may.used.fronts d) (used.fronts d) one other

  -- what is told of one of them is told of the same
  told_at : (head many generation log n : ℕ) → AreUsed count before head many generation → n < many → log ≡ head + n → (n < count) × (may.head + n ≡ log)
  told_at head many generation log n used lt is =
      let same = same_used head many generation used in
      (omega (arith, same.1, lt), omega (arith, same.0, is))

  in_four : (n : ℕ) → n < count → may.head + n < 4
  in_four n lt = by may.used.used
    where
      by : IsUsed may.used.fronts count may.head count may.generation → may.head + n < 4
      by (inl set) = elim (set.is_head.side) [ inl first ↦ omega (arith, first, lt, few) | inr same ↦ omega (arith, same, lt, set.is_head.low) ]
      by (inr none) = omega (arith, none.1, lt, few)

  read_well : (answer : LogsNo) → AreNotRead count before after answer → answer ≡ ending.Memory
  read_well (ending.Refused log offset cause.NotALog) why = absurd (opens_well laws (device_at before log) (device_at after log).told offset (may.each log why.there) why.refused)
  read_well (ending.Refused log offset cause.Damage) why = absurd (opens_whole laws (device_at before log) (device_at after log).told offset (may.each log why.there) why.refused)
  read_well (ending.Refused log offset cause.OldFormat) why =
      let at = told_at why.1.head count why.1.generation log why.1.number why.1.used why.1.asked why.1.is in
      let old : HoldsOld (device_at before (may.head + why.1.number)) = subst (λ (d : ℕ). HoldsOld (device_at before d)) (sym at.1) why.1.old in
      absurd (never_old (device_at before (may.head + why.1.number)) (records_at records why.1.number) (told why.1.number at.0) (may.recent why.1.number at.0) old)
  read_well (ending.Refused log offset cause.BadRecord) why =
      let bad = why.0 in
      let at = told_at bad.head bad.count bad.generation log (length bad.below) bad.used bad.asked bad.is in
      let here : TellsRecords (device_at before log) (records_at records (length bad.below)) = subst (λ (d : ℕ). TellsRecords (device_at before d) (records_at records (length bad.below))) at.1 (told (length bad.below) at.0) in
      absurd (decodes laws (device_at before log) bad.bad.1 (records_at records (length bad.below)) bad.bad.0 offset bad.bad.2 here bad.bad.3 bad.bad.4)
  read_well (ending.Refused log offset (cause.LogCount k f)) why = absurd (why.1.other (sym (same_used log k why.1.generation why.1.used).1))
  read_well (ending.Refused log offset cause.Stray) why = absurd why
  read_well (ending.Refused log offset cause.Back) why = absurd why
  read_well (ending.Refused log offset cause.NoGenesis) why = absurd why
  read_well (ending.Refused log offset cause.TwoGenesis) why = absurd why
  read_well (ending.Refused log offset (cause.Range k)) why = absurd why
  read_well (ending.Refused log offset (cause.Missing k)) why = absurd why
  read_well (ending.Refused log offset (cause.Values k u v)) why = absurd why
  read_well (ending.Refused log offset (cause.Spent n)) why = absurd why
  read_well (ending.Refused log offset (cause.Differs w k t)) why = absurd why
  read_well (ending.Device log) (inl not) = absurd (may.quiet log not.not_opened.there not.rose)
  read_well (ending.Device log) (inr fails) =
      let at = told_at fails.head count fails.generation log fails.number fails.used fails.asked fails.is in
      let there : log < 4 = subst (λ (d : ℕ). d < 4) at.1 (in_four fails.number at.0) in
      absurd (may.quiet log there fails.rose)
  read_well ending.Memory why = refl

  start_well : (answer : LogsNo) → AreNoStart count states before after answer → answer ≡ ending.Memory
  start_well answer why =
      let head : may.head ≡ why.head = (same_used why.head count why.generation why.used).0 in
      let same : why.records ≡ records = same_lists why.records records (why.many ∙ sym may.many) (λ l lt.
      let here : l < count = omega (arith, lt, why.many) in
      let held : DeviceHolds (device_at before (may.head + l)) (records_at why.records l) = subst (λ (h : ℕ). DeviceHolds (device_at before (h + l)) (records_at why.records l)) (sym head) (why.held l lt) in
      same_records laws (device_at before (may.head + l)) (records_at records l) (records_at why.records l) (told l here) held) in
      no_start laws why.head records states o answer may.begins (subst (λ (ls : List (List Record)). IsNoStart why.head ls states answer) same why.why)

  pub completed : (answer : LogsNo) → IsNoRun count states before after answer → answer ≡ ending.Memory
  completed answer (inl (inl why, touched)) = read_well answer why
  completed answer (inl (inr why, touched)) = start_well answer why
  completed answer (inr (inl fails)) =
      let is = fails.2 in
      absurd (may.quiet fails.0 (asked_within is.head count is.generation fails.0 is.asked) is.rose)
  completed answer (inr (inr fails)) = absurd (may.quiet 0 (omega arith) fails.1.rose)
