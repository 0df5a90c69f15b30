-- A round is refused with one answer at most, and then gives nothing; lists that are readable and whole are refused for want of memory alone.
use Rattle.std.proofs.Common.{◌≡◌, ◌≢◌, ℕ, ◌%◌, ◌⊎◌, inl, inr, List, [], ◌∷◌, ◌++◌, length, refl, sym, ap, subst, ◌∙◌, arith}
use Rattle.std.proofs.lemmas.Bool.{cases_lt}
use Rattle.std.proofs.lemmas.List.Concat.{flat_map-append}
use Rattle.std.specs.List.{AllByRecursion}
use Rattle.snap_base.specs.declared.ids.ActorId.{ActorId}
use Rattle.snap_base.specs.declared.ids.Bid.{Bid}
use Rattle.snap_base.specs.declared.ids.Tid.{Tid}
use Rattle.snap_base.specs.declared.transactions.State.{State}
use Rattle.snap_base.proofs.Lists.{all_front, all_back}
use Rattle.txn_records.specs.declared.records.Record.{Record}
use Rattle.txn_records.specs.declared.records.Record.TheVariants.{Genesis}
use Rattle.txn_records.specs.declared.keys.Key.{Key}
use Rattle.txn_records.specs.declared.keys.Key.TheVariants as keys
use Rattle.snap_recover.specs.declared.refusals.RecoverNo.{RecoverNo}
use Rattle.snap_recover.specs.declared.refusals.RecoverNo.TheVariants as recovery
use Rattle.snap_recover.specs.Logs.{all_of, log_of, HasKey, geneses}
use Rattle.snap_recover.specs.Opening.{HasCompleted, HasPrepared, IsInRange}
use Rattle.snap_recover.specs.Refusals.{IsFirstOutOfRange, LacksInfo, LacksComplete, LacksPrepare, LacksValues, IsRefused}
use Rattle.snap_recover.proofs.Lists.{one_first, all_middle}
use Rattle.snap_recover.proofs.OneOpening.{one_info, one_act, same_bid, same_tid, one_first_states}
use Rattle.snap_recover.proofs.OneRefusal.{info_is_there, lacks_is_not_whole, act_lacks_is_not_whole, lacks_values_has_not, one_lack_of_values}
use Rattle.log_compact.specs.Sets.{plain_lists}
use Rattle.snap_follow.specs.declared.refusals.FollowNo.TheVariants.{Back, TwoGenesis, LogCount, Range, Missing, Values, Memory}
use Rattle.snap_follow.specs.Laws.{OneRoundRefusal, RefusedAreNoRounds, RefusedForMemoryAlone}
use Rattle.snap_follow.specs.Refusals.{IsFirstBack, IsFirstSeenBatchLacking, IsFirstSeenActLacking, IsFirstSeenLacking, IsNoneMissing, IsFirstSeenLackingValues}
use Rattle.snap_follow.specs.Rounds.{GrowFrom, AreReadable}

-- ---- a list that went back

one_back : (before lists : List (List Record)) (k l : ℕ) → IsFirstBack before lists k → IsFirstBack before lists l → k ≡ l
one_back before lists k l p q = elim (cases_lt k l) [
  | inl h ↦ absurd (p.is_back (q.lower k h))
  | inr h ↦ elim (cases_lt l k) [ inl g ↦ absurd (q.is_back (p.lower l g)) | inr g ↦ omega arith ]
]

no_back : (before lists : List (List Record)) (k : ℕ) → IsFirstBack before lists k → ¬ GrowFrom before lists
no_back before lists k p grow = p.is_back (grow k p.low)

-- ---- a bad beginning

-- what recovery promises of its refusals
abbrev pub OneAnswer : Type 0
OneAnswer = (logs : List (List Record)) (x y : RecoverNo) → x ≢ recovery.Memory → y ≢ recovery.Memory → IsRefused logs x → IsRefused logs y → x ≡ y

in_range_all : (n : ℕ) (logs : List (List Record)) (r : Record) (k : ℕ) → IsFirstOutOfRange n logs r k → ¬ AllByRecursion (IsInRange n) (all_of logs)
in_range_all n logs r k (b, a, f, h, e, at, i, o) all =
    let apart : AllByRecursion (IsInRange n) (all_of b ++ all_of ((f ++ r ∷ h) ∷ a)) =
    subst (AllByRecursion (IsInRange n)) (flat_map-append (λ (rs : List Record). rs) b ((f ++ r ∷ h) ∷ a)) (subst (λ (z : List (List Record)). AllByRecursion (IsInRange n) (all_of z)) e all) in
    let behind = all_back (IsInRange n) (all_of b) (all_of ((f ++ r ∷ h) ∷ a)) apart in
    o (all_middle (IsInRange n) f r h (all_front (IsInRange n) (f ++ r ∷ h) (all_of a) behind))

two_or_readable : (lists : List (List Record)) → AreReadable lists → IsRefused lists recovery.TwoGenesis → ⊥
two_or_readable lists (inl none) two = let size : length (geneses lists) ≡ 0 = ap (λ (z : List Record). length z) none in absurd (omega (arith, size, two))
two_or_readable lists (inr (first, b)) two = let size : length (geneses lists) ≡ 1 = ap (λ (z : List Record). length z) b.one in absurd (omega (arith, size, two))

count_or_readable : (lists : List (List Record)) (count found : ℕ) → AreReadable lists → IsRefused lists (recovery.LogCount count found) → ⊥
count_or_readable lists count found (inl none) (first, one, size, differ) = let bad : [] ≡ Genesis count first ∷ [] = sym none ∙ one in absurd (cc bad)
count_or_readable lists count found (inr (given, b)) (first, one, size, differ) =
    let same : Genesis (length lists) given ∷ [] ≡ Genesis count first ∷ [] = sym b.one ∙ one in
    let many : length lists ≡ count = cc same in
    differ (sym many ∙ sym size)

range_or_readable : (lists : List (List Record)) (k : Key) (log : ℕ) → AreReadable lists → IsRefused lists (recovery.Range k log) → ⊥
range_or_readable lists k log (inl none) (first, r, one, bad, e) = let no : [] ≡ Genesis (length lists) first ∷ [] = sym none ∙ one in absurd (cc no)
range_or_readable lists k log (inr (given, b)) (first, r, one, bad, e) =
    in_range_all (length given) lists r log (subst (λ (z : List State). IsFirstOutOfRange (length z) lists r log) (one_first_states lists first given one b.one) bad) b.range

-- ---- a key that is lacking

one_lacking : (logs : List (List Record)) (bid : Bid) (k j : Key) (l m : ℕ) → LacksInfo logs bid k l ⊎ LacksComplete logs bid k l → LacksInfo logs bid j m ⊎ LacksComplete logs bid j m → (k ≡ j) × (l ≡ m)
one_lacking logs bid k j l m (inl p) (inl q) = (p.0 ∙ sym q.0, p.1 ∙ sym q.1)
one_lacking logs bid k j l m (inl p) (inr (f, b, a, t, i, w, e, el, out)) =
    absurd (p.2 (subst (λ (z : Key). HasKey (log_of logs bid.0) z) (sym p.0) (info_is_there logs bid (f ++ a ∷ b) t i)))
one_lacking logs bid k j l m (inr (f, b, a, t, i, w, e, el, out)) (inl q) =
    absurd (q.2 (subst (λ (z : Key). HasKey (log_of logs bid.0) z) (sym q.0) (info_is_there logs bid (f ++ a ∷ b) t i)))
one_lacking logs bid k j l m (inr (f, b, a, t, i, w, e, el, out)) (inr (f', b', a', t', i', w', e', el', out')) =
    let infos = one_info logs bid (f ++ a ∷ b) (f' ++ a' ∷ b') t t' i i' in
    let same : a ≡ a' = (one_first (HasCompleted logs bid) f b f' b' a a' infos.0 w w' out out').1 in
    (e ∙ ap (λ (z : ActorId). keys.Complete bid z) same ∙ sym e', el ∙ ap (λ (z : ActorId). z.0 % length logs) same ∙ sym el')

one_prepare : (logs : List (List Record)) (tid : Tid) (k j : Key) (l m : ℕ) → LacksPrepare logs tid k l → LacksPrepare logs tid j m → (k ≡ j) × (l ≡ m)
one_prepare logs tid k j l m (f, b, a, n, c, v, i, w, e, el, out) (f', b', a', n', c', v', i', w', e', el', out') =
    let acts = one_act logs tid n n' c c' v v' (f ++ a ∷ b) (f' ++ a' ∷ b') i i' in
    let same : a ≡ a' = (one_first (HasPrepared logs tid) f b f' b' a a' acts.3 w w' out out').1 in
    (e ∙ ap (λ (z : ActorId). keys.Prepare tid z) same ∙ sym e', el ∙ ap (λ (z : ActorId). z.0 % length logs) same ∙ sym el')

one_batch : (before now : List (List Record)) (k j : Key) (l m : ℕ) → IsFirstSeenBatchLacking before now k l → IsFirstSeenBatchLacking before now j m → (k ≡ j) × (l ≡ m)
one_batch before now k j l m (b, in1, low1, p) (d, in2, low2, q) =
    let same : b.0 ≡ d.0 =
    elim (cases_lt b.0 d.0) [
      | inl h ↦ absurd (lacks_is_not_whole now b k l p (low2 b h in1))
      | inr h ↦ elim (cases_lt d.0 b.0) [ inl g ↦ absurd (lacks_is_not_whole now d j m q (low1 d g in2)) | inr g ↦ omega arith ]
    ] in
    one_lacking now d k j l m (subst (λ (z : Bid). LacksInfo now z k l ⊎ LacksComplete now z k l) (same_bid b d same) p) q

one_act_lacking : (before now : List (List Record)) (k j : Key) (l m : ℕ) → IsFirstSeenActLacking before now k l → IsFirstSeenActLacking before now j m → (k ≡ j) × (l ≡ m)
one_act_lacking before now k j l m (b, in1, low1, p) (d, in2, low2, q) =
    let same : b.0 ≡ d.0 =
    elim (cases_lt b.0 d.0) [
      | inl h ↦ absurd (act_lacks_is_not_whole now b k l p (low2 b h in1))
      | inr h ↦ elim (cases_lt d.0 b.0) [ inl g ↦ absurd (act_lacks_is_not_whole now d j m q (low1 d g in2)) | inr g ↦ omega arith ]
    ] in
    one_prepare now d k j l m (subst (λ (z : Tid). LacksPrepare now z k l) (same_tid b d same) p) q

one_first_lacking : (before now : List (List Record)) (k j : Key) (l m : ℕ) → IsFirstSeenLacking before now k l → IsFirstSeenLacking before now j m → (k ≡ j) × (l ≡ m)
one_first_lacking before now k j l m (inl p) (inl q) = one_batch before now k j l m p q
one_first_lacking before now k j l m (inl p) (inr q) = absurd (lacks_is_not_whole now p.0 k l p.3 (q.0 p.0 p.1))
one_first_lacking before now k j l m (inr p) (inl q) = absurd (lacks_is_not_whole now q.0 j m q.3 (p.0 q.0 q.1))
one_first_lacking before now k j l m (inr p) (inr q) = one_act_lacking before now k j l m p.1 q.1

lacking_is_missing : (before now : List (List Record)) (k : Key) (l : ℕ) → IsFirstSeenLacking before now k l → ¬ IsNoneMissing before now
lacking_is_missing before now k l (inl p) n = lacks_is_not_whole now p.0 k l p.3 (n.0 p.0 p.1)
lacking_is_missing before now k l (inr p) n = act_lacks_is_not_whole now p.1.0 k l p.1.3 (n.1 p.1.0 p.1.1)

one_first_values : (before now : List (List Record)) (k j : Key) (l m c d f g : ℕ) → IsFirstSeenLackingValues before now k l c f → IsFirstSeenLackingValues before now j m d g → (k ≡ j) × (l ≡ m) × (c ≡ d) × (f ≡ g)
one_first_values before now k j l m c d f g (b, in1, low1, p) (e, in2, low2, q) =
    let same : b.0 ≡ e.0 =
    elim (cases_lt b.0 e.0) [
      | inl h ↦ absurd (lacks_values_has_not now b k l c f p (low2 b h in1))
      | inr h ↦ elim (cases_lt e.0 b.0) [ inl y ↦ absurd (lacks_values_has_not now e j m d g q (low1 e y in2)) | inr y ↦ omega arith ]
    ] in
    one_lack_of_values now e k j l m c d f g (subst (λ (z : Bid). LacksValues now z k l c f) (same_bid b e same) p) q

-- ---- the answers that go by recovery's

pub one_refusal : OneAnswer → OneRoundRefusal
one_refusal one before lists (Back k) (Back l) a b p q = let same = one_back before lists k l p q in ap (λ (n : ℕ). Back n) same
one_refusal one before lists (Back k) TwoGenesis a b p q = absurd (no_back before lists k p q.0)
one_refusal one before lists (Back k) (LogCount c f) a b p q = absurd (no_back before lists k p q.0)
one_refusal one before lists (Back k) (Range j l) a b p q = absurd (no_back before lists k p q.0)
one_refusal one before lists (Back k) (Missing j l) a b p q = absurd (no_back before lists k p q.0)
one_refusal one before lists (Back k) (Values j l c f) a b p q = absurd (no_back before lists k p q.0)
one_refusal one before lists (Back k) Memory a b p q = absurd (b refl)
one_refusal one before lists TwoGenesis (Back l) a b p q = absurd (no_back before lists l q p.0)
one_refusal one before lists TwoGenesis TwoGenesis a b p q = refl
one_refusal one before lists TwoGenesis (LogCount c f) a b p q = absurd (cc (one (plain_lists lists) recovery.TwoGenesis (recovery.LogCount c f) (λ e. cc e) (λ e. cc e) p.1 q.1))
one_refusal one before lists TwoGenesis (Range j l) a b p q = absurd (cc (one (plain_lists lists) recovery.TwoGenesis (recovery.Range j l) (λ e. cc e) (λ e. cc e) p.1 q.1))
one_refusal one before lists TwoGenesis (Missing j l) a b p q = absurd (two_or_readable (plain_lists lists) q.1 p.1)
one_refusal one before lists TwoGenesis (Values j l c f) a b p q = absurd (two_or_readable (plain_lists lists) q.1 p.1)
one_refusal one before lists TwoGenesis Memory a b p q = absurd (b refl)
one_refusal one before lists (LogCount c f) (Back l) a b p q = absurd (no_back before lists l q p.0)
one_refusal one before lists (LogCount c f) TwoGenesis a b p q = absurd (cc (one (plain_lists lists) (recovery.LogCount c f) recovery.TwoGenesis (λ e. cc e) (λ e. cc e) p.1 q.1))
one_refusal one before lists (LogCount c f) (LogCount d g) a b p q =
    let same = one (plain_lists lists) (recovery.LogCount c f) (recovery.LogCount d g) (λ e. cc e) (λ e. cc e) p.1 q.1 in
    let count : c ≡ d = cc same in
    let found : f ≡ g = cc in
    λ i. LogCount (count i) (found i)
one_refusal one before lists (LogCount c f) (Range j l) a b p q = absurd (cc (one (plain_lists lists) (recovery.LogCount c f) (recovery.Range j l) (λ e. cc e) (λ e. cc e) p.1 q.1))
one_refusal one before lists (LogCount c f) (Missing j l) a b p q = absurd (count_or_readable (plain_lists lists) c f q.1 p.1)
one_refusal one before lists (LogCount c f) (Values j l d g) a b p q = absurd (count_or_readable (plain_lists lists) c f q.1 p.1)
one_refusal one before lists (LogCount c f) Memory a b p q = absurd (b refl)
one_refusal one before lists (Range k l) (Back m) a b p q = absurd (no_back before lists m q p.0)
one_refusal one before lists (Range k l) TwoGenesis a b p q = absurd (cc (one (plain_lists lists) (recovery.Range k l) recovery.TwoGenesis (λ e. cc e) (λ e. cc e) p.1 q.1))
one_refusal one before lists (Range k l) (LogCount d g) a b p q = absurd (cc (one (plain_lists lists) (recovery.Range k l) (recovery.LogCount d g) (λ e. cc e) (λ e. cc e) p.1 q.1))
one_refusal one before lists (Range k l) (Range j m) a b p q =
    let same = one (plain_lists lists) (recovery.Range k l) (recovery.Range j m) (λ e. cc e) (λ e. cc e) p.1 q.1 in
    let keyed : k ≡ j = cc same in
    let log : l ≡ m = cc same in
    λ i. Range (keyed i) (log i)
one_refusal one before lists (Range k l) (Missing j m) a b p q = absurd (range_or_readable (plain_lists lists) k l q.1 p.1)
one_refusal one before lists (Range k l) (Values j m d g) a b p q = absurd (range_or_readable (plain_lists lists) k l q.1 p.1)
one_refusal one before lists (Range k l) Memory a b p q = absurd (b refl)
one_refusal one before lists (Missing k l) (Back m) a b p q = absurd (no_back before lists m q p.0)
one_refusal one before lists (Missing k l) TwoGenesis a b p q = absurd (two_or_readable (plain_lists lists) p.1 q.1)
one_refusal one before lists (Missing k l) (LogCount d g) a b p q = absurd (count_or_readable (plain_lists lists) d g p.1 q.1)
one_refusal one before lists (Missing k l) (Range j m) a b p q = absurd (range_or_readable (plain_lists lists) j m p.1 q.1)
one_refusal one before lists (Missing k l) (Missing j m) a b p q =
    let same = one_first_lacking (plain_lists before) (plain_lists lists) k j l m p.2 q.2 in
    let keyed : k ≡ j = same.0 in
    let log : l ≡ m = same.1 in
    λ i. Missing (keyed i) (log i)
one_refusal one before lists (Missing k l) (Values j m d g) a b p q = absurd (lacking_is_missing (plain_lists before) (plain_lists lists) k l p.2 q.2)
one_refusal one before lists (Missing k l) Memory a b p q = absurd (b refl)
one_refusal one before lists (Values k l c f) (Back m) a b p q = absurd (no_back before lists m q p.0)
one_refusal one before lists (Values k l c f) TwoGenesis a b p q = absurd (two_or_readable (plain_lists lists) p.1 q.1)
one_refusal one before lists (Values k l c f) (LogCount d g) a b p q = absurd (count_or_readable (plain_lists lists) d g p.1 q.1)
one_refusal one before lists (Values k l c f) (Range j m) a b p q = absurd (range_or_readable (plain_lists lists) j m p.1 q.1)
one_refusal one before lists (Values k l c f) (Missing j m) a b p q = absurd (lacking_is_missing (plain_lists before) (plain_lists lists) j m q.2 p.2)
one_refusal one before lists (Values k l c f) (Values j m d g) a b p q =
    let same = one_first_values (plain_lists before) (plain_lists lists) k j l m c d f g p.3 q.3 in
    let keyed : k ≡ j = same.0 in
    let log : l ≡ m = same.1 in
    let count : c ≡ d = same.2 in
    let found : f ≡ g = same.3 in
    λ i. Values (keyed i) (log i) (count i) (found i)
one_refusal one before lists (Values k l c f) Memory a b p q = absurd (b refl)
one_refusal one before lists Memory y a b p q = absurd (a refl)

-- ---- lists that are readable and whole

pub memory_alone : RefusedForMemoryAlone
memory_alone before lists (Back log) grow readable whole p = absurd (no_back before lists log p grow)
memory_alone before lists TwoGenesis grow readable whole p = absurd (two_or_readable (plain_lists lists) readable p.1)
memory_alone before lists (LogCount count found) grow readable whole p = absurd (count_or_readable (plain_lists lists) count found readable p.1)
memory_alone before lists (Range k log) grow readable whole p = absurd (range_or_readable (plain_lists lists) k log readable p.1)
memory_alone before lists (Missing k log) grow readable whole p = absurd (lacking_is_missing (plain_lists before) (plain_lists lists) k log p.2 (whole.batches, whole.acts))
memory_alone before lists (Values k log count found) grow readable whole p = absurd (lacks_values_has_not (plain_lists lists) p.3.0 k log count found p.3.3 (whole.valued p.3.0 p.3.1))
memory_alone before lists Memory grow readable whole p = refl

pub refused : RefusedAreNoRounds
refused f lists why g other p h = other (memory_alone f.before lists why h.grow h.readable h.whole p)
