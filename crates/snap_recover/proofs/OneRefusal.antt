-- Logs are refused with one answer at most, and not where they recover to an opening.
use Rattle.std.proofs.Common.{◌≡◌, ◌≢◌, ℕ, ℤ, ◌≤◌, ◌%◌, ◌⊎◌, inl, inr, List, [], ◌∷◌, ◌++◌, length, refl, sym, ap, subst, ◌∙◌, arith}
use Rattle.std.proofs.lemmas.Bool.{cases_lt}
use Rattle.std.specs.List.{AllByRecursion, Contains}
use Rattle.std.proofs.lemmas.List.Concat.{flat_map-append}
use Rattle.snap_base.specs.declared.ids.ActorId.{ActorId}
use Rattle.snap_base.specs.declared.ids.Bid.{Bid}
use Rattle.snap_base.specs.declared.ids.Tid.{Tid}
use Rattle.snap_base.specs.declared.transactions.State.{State}
use Rattle.snap_base.proofs.Lists.{all_front, all_back}
use Rattle.txn_records.specs.declared.records.Record.{Record}
use Rattle.txn_records.specs.declared.records.Record.TheVariants.{Genesis, BatchInfo, BatchDone}
use Rattle.txn_records.specs.declared.keys.Key.{Key}
use Rattle.txn_records.specs.declared.keys.Key.TheVariants as keys
use Rattle.txn_records.specs.Records.{key}
use Rattle.snap_recover.specs.declared.openings.Opening.{Opening}
use Rattle.snap_recover.specs.declared.refusals.RecoverNo.{RecoverNo}
use Rattle.snap_recover.specs.declared.refusals.RecoverNo.TheVariants.{NoGenesis, TwoGenesis, LogCount, Range, Missing, Values, Memory}
use Rattle.snap_recover.specs.Logs.{all_of, log_of, HasKey, geneses}
use Rattle.snap_recover.specs.Opening.{IsInfoOf, FitsTids, HasItsValues, HasCompleted, IsBatchWhole, HasPrepared, IsActWhole, IsInRange, AreBegunWith, IsRecovered}
use Rattle.snap_recover.specs.Refusals.{IsFirstOutOfRange, LacksInfo, LacksComplete, LacksPrepare, LacksValues, IsFirstLackingValues, NoneMissing, IsFirstBatchLacking, IsFirstActLacking, IsFirstLacking, IsRefused}
use Rattle.snap_recover.proofs.Lists.{one_first, all_middle, contains_map, contains_middle}
use Rattle.snap_recover.proofs.OneOpening.{one_info, one_commit, one_act, same_bid, same_tid, one_first_states}

-- ---- the record that is not in range

-- all records of the log are in range
abbrev InRange : ℕ → List Record → Type 0
InRange n rs = AllByRecursion (IsInRange n) rs

each_log : (n : ℕ) (logs : List (List Record)) → InRange n (all_of logs) → AllByRecursion (InRange n) logs
each_log n [] h = tt
each_log n (rs ∷ logs) h = (all_front (IsInRange n) rs (all_of logs) h, each_log n logs (all_back (IsInRange n) rs (all_of logs) h))

bad_log : (n : ℕ) (front behind : List Record) (r : Record) → ¬ IsInRange n r → ¬ InRange n (front ++ r ∷ behind)
bad_log n front behind r bad h = bad (all_middle (IsInRange n) front r behind h)

pub one_out_of_range : (n : ℕ) (logs : List (List Record)) (r s : Record) (k l : ℕ) → IsFirstOutOfRange n logs r k → IsFirstOutOfRange n logs s l → (r ≡ s) × (k ≡ l)
one_out_of_range n logs r s k l (b1, a1, f1, h1, e1, k1, i1, o1) (b2, a2, f2, h2, e2, k2, i2, o2) =
    let d1 : InRange n (all_of b1) = all_front (IsInRange n) (all_of b1) f1 i1 in
    let d2 : InRange n (all_of b2) = all_front (IsInRange n) (all_of b2) f2 i2 in
    let g1 : InRange n f1 = all_back (IsInRange n) (all_of b1) f1 i1 in
    let g2 : InRange n f2 = all_back (IsInRange n) (all_of b2) f2 i2 in
    let outer = one_first (InRange n) b1 a1 b2 a2 (f1 ++ r ∷ h1) (f2 ++ s ∷ h2) (sym e1 ∙ e2) (each_log n b1 d1) (each_log n b2 d2) (bad_log n f1 h1 r o1) (bad_log n f2 h2 s o2) in
    let inner = one_first (IsInRange n) f1 h1 f2 h2 r s outer.1 g1 g2 o1 o2 in
    (inner.1, k1 ∙ ap (λ (z : List (List Record)). length z) outer.0 ∙ sym k2)

in_range_all : (n : ℕ) (logs : List (List Record)) (r : Record) (k : ℕ) → IsFirstOutOfRange n logs r k → ¬ InRange n (all_of logs)
in_range_all n logs r k (b, a, f, h, e, ek, i, o) all =
    let P : List Record → Type 0 = InRange n in
    let apart : InRange n (all_of b ++ all_of ((f ++ r ∷ h) ∷ a)) =
    subst P (flat_map-append (λ (rs : List Record). rs) b ((f ++ r ∷ h) ∷ a)) (subst (λ (z : List (List Record)). InRange n (all_of z)) e all) in
    let behind = all_back (IsInRange n) (all_of b) (all_of ((f ++ r ∷ h) ∷ a)) apart in
    bad_log n f h r o (all_front (IsInRange n) (f ++ r ∷ h) (all_of a) behind)

-- ---- the key that is lacking

pub info_is_there : (logs : List (List Record)) (bid : Bid) (actors : List ActorId) (tids : List Tid) → IsInfoOf logs bid actors tids → HasKey (log_of logs bid.0) (keys.Info bid)
info_is_there logs bid actors tids p =
    let here : Contains (p.0 ++ BatchInfo bid actors tids ∷ p.1) (BatchInfo bid actors tids) = contains_middle p.0 (BatchInfo bid actors tids) p.1 in
    contains_map key (log_of logs bid.0) (BatchInfo bid actors tids) (subst (λ (z : List Record). Contains z (BatchInfo bid actors tids)) (sym p.2) here)

abbrev Lacks : List (List Record) → Bid → Key → ℕ → Type 0
Lacks logs bid k log = LacksInfo logs bid k log ⊎ LacksComplete logs bid k log

one_lacking : (logs : List (List Record)) (bid : Bid) (k j : Key) (l m : ℕ) → Lacks logs bid k l → Lacks logs bid j m → (k ≡ j) × (l ≡ m)
one_lacking logs bid k j l m (inl p) (inl q) = (p.0 ∙ sym q.0, p.1 ∙ sym q.1)
one_lacking logs bid k j l m (inl p) (inr (f, b, a, t, i, w, e, el, out)) =
    absurd (p.2 (subst (λ (z : Key). HasKey (log_of logs bid.0) z) (sym p.0) (info_is_there logs bid (f ++ a ∷ b) t i)))
one_lacking logs bid k j l m (inr (f, b, a, t, i, w, e, el, out)) (inl q) =
    absurd (q.2 (subst (λ (z : Key). HasKey (log_of logs bid.0) z) (sym q.0) (info_is_there logs bid (f ++ a ∷ b) t i)))
one_lacking logs bid k j l m (inr (f, b, a, t, i, w, e, el, out)) (inr (f', b', a', t', i', w', e', el', out')) =
    let infos = one_info logs bid (f ++ a ∷ b) (f' ++ a' ∷ b') t t' i i' in
    let same : a ≡ a' = (one_first (HasCompleted logs bid) f b f' b' a a' infos.0 w w' out out').1 in
    (e ∙ ap (λ (z : ActorId). keys.Complete bid z) same ∙ sym e', el ∙ ap (λ (z : ActorId). z.0 % length logs) same ∙ sym el')

pub lacks_is_not_whole : (logs : List (List Record)) (bid : Bid) (k : Key) (l : ℕ) → Lacks logs bid k l → ¬ IsBatchWhole logs bid
lacks_is_not_whole logs bid k l (inl p) w =
    p.2 (subst (λ (z : Key). HasKey (log_of logs bid.0) z) (sym p.0) (info_is_there logs bid w.0 w.1 w.2))
lacks_is_not_whole logs bid k l (inr (f, b, a, t, i, c, e, el, out)) w =
    let infos = one_info logs bid w.0 (f ++ a ∷ b) w.1 t w.2 i in
    out (all_middle (HasCompleted logs bid) f a b (subst (λ (z : List ActorId). AllByRecursion (HasCompleted logs bid) z) infos.0 w.3))

one_first_batch : (logs : List (List Record)) (k j : Key) (l m : ℕ) → IsFirstBatchLacking logs k l → IsFirstBatchLacking logs j m → (k ≡ j) × (l ≡ m)
one_first_batch logs k j l m (b, in1, low1, p) (d, in2, low2, q) =
    let same : b.0 ≡ d.0 =
    elim (cases_lt b.0 d.0) [
      | inl h ↦ absurd (lacks_is_not_whole logs b k l p (low2 b h in1))
      | inr h ↦ elim (cases_lt d.0 b.0) [ inl g ↦ absurd (lacks_is_not_whole logs d j m q (low1 d g in2)) | inr g ↦ omega arith ]
    ] in
    one_lacking logs d k j l m (subst (λ (z : Bid). Lacks logs z k l) (same_bid b d same) p) q

one_prepare : (logs : List (List Record)) (tid : Tid) (k j : Key) (l m : ℕ) → LacksPrepare logs tid k l → LacksPrepare logs tid j m → (k ≡ j) × (l ≡ m)
one_prepare logs tid k j l m (f, b, a, n, c, v, i, w, e, el, out) (f', b', a', n', c', v', i', w', e', el', out') =
    let acts = one_act logs tid n n' c c' v v' (f ++ a ∷ b) (f' ++ a' ∷ b') i i' in
    let same : a ≡ a' = (one_first (HasPrepared logs tid) f b f' b' a a' acts.3 w w' out out').1 in
    (e ∙ ap (λ (z : ActorId). keys.Prepare tid z) same ∙ sym e', el ∙ ap (λ (z : ActorId). z.0 % length logs) same ∙ sym el')

pub act_lacks_is_not_whole : (logs : List (List Record)) (tid : Tid) (k : Key) (l : ℕ) → LacksPrepare logs tid k l → ¬ IsActWhole logs tid
act_lacks_is_not_whole logs tid k l (f, b, a, n, c, v, i, p, e, el, out) w =
    let acts = one_act logs tid w.0 n w.1 c w.2 v w.3 (f ++ a ∷ b) w.4 i in
    out (all_middle (HasPrepared logs tid) f a b (subst (λ (z : List ActorId). AllByRecursion (HasPrepared logs tid) z) acts.3 w.5))

one_first_act : (logs : List (List Record)) (k j : Key) (l m : ℕ) → IsFirstActLacking logs k l → IsFirstActLacking logs j m → (k ≡ j) × (l ≡ m)
one_first_act logs k j l m (b, in1, low1, p) (d, in2, low2, q) =
    let same : b.0 ≡ d.0 =
    elim (cases_lt b.0 d.0) [
      | inl h ↦ absurd (act_lacks_is_not_whole logs b k l p (low2 b h in1))
      | inr h ↦ elim (cases_lt d.0 b.0) [ inl g ↦ absurd (act_lacks_is_not_whole logs d j m q (low1 d g in2)) | inr g ↦ omega arith ]
    ] in
    one_prepare logs d k j l m (subst (λ (z : Tid). LacksPrepare logs z k l) (same_tid b d same) p) q

one_first_lacking : (logs : List (List Record)) (k j : Key) (l m : ℕ) → IsFirstLacking logs k l → IsFirstLacking logs j m → (k ≡ j) × (l ≡ m)
one_first_lacking logs k j l m (inl p) (inl q) = one_first_batch logs k j l m p q
one_first_lacking logs k j l m (inl p) (inr q) = absurd (lacks_is_not_whole logs p.0 k l p.3 (q.0 p.0 p.1))
one_first_lacking logs k j l m (inr p) (inl q) = absurd (lacks_is_not_whole logs q.0 j m q.3 (p.0 q.0 q.1))
one_first_lacking logs k j l m (inr p) (inr q) = one_first_act logs k j l m p.1 q.1

-- what lacks a key is not recovered
lacking_is_not_recovered : (logs : List (List Record)) (k : Key) (l : ℕ) (o : Opening) → IsFirstLacking logs k l → ¬ IsRecovered logs o
lacking_is_not_recovered logs k l o (inl p) h = lacks_is_not_whole logs p.0 k l p.3 (h.whole p.0 p.1)
lacking_is_not_recovered logs k l o (inr p) h = act_lacks_is_not_whole logs p.1.0 k l p.1.3 (h.acts_whole p.1.0 p.1.1)

-- ---- values

pub lacks_values_has_not : (logs : List (List Record)) (bid : Bid) (k : Key) (l c f : ℕ) → LacksValues logs bid k l c f → ¬ HasItsValues logs bid
lacks_values_has_not logs bid k l c f (a, t, v, i, m, ec, ef, ne, ek, el) h =
    let infos = one_info logs bid a h.actors t h.tids i h.info_is in
    let same : BatchDone bid v ≡ h.commit = one_commit logs bid (BatchDone bid v) h.commit m h.commit_is in
    let fits : length v ≡ length h.tids = subst (λ (z : Record). FitsTids z h.tids) (sym same) h.fits in
    ne (ec ∙ ap (λ (z : List Tid). length z) infos.1 ∙ sym fits ∙ sym ef)

pub one_lack_of_values : (logs : List (List Record)) (bid : Bid) (k j : Key) (l m c d f g : ℕ) → LacksValues logs bid k l c f → LacksValues logs bid j m d g → (k ≡ j) × (l ≡ m) × (c ≡ d) × (f ≡ g)
one_lack_of_values logs bid k j l m c d f g (a, t, v, i, o, ec, ef, ne, ek, el) (a', t', v', i', o', ec', ef', ne', ek', el') =
    let tids : t ≡ t' = (one_info logs bid a a' t t' i i').1 in
    let same : BatchDone bid v ≡ BatchDone bid v' = one_commit logs bid (BatchDone bid v) (BatchDone bid v') o o' in
    let values : v ≡ v' = cc in
    (ek ∙ sym ek', el ∙ sym el', ec ∙ ap (λ (z : List Tid). length z) tids ∙ sym ec', ef ∙ ap (λ (z : List ℤ). length z) values ∙ sym ef')

one_first_values : (logs : List (List Record)) (k j : Key) (l m c d f g : ℕ) → IsFirstLackingValues logs k l c f → IsFirstLackingValues logs j m d g → (k ≡ j) × (l ≡ m) × (c ≡ d) × (f ≡ g)
one_first_values logs k j l m c d f g (b, in1, low1, p) (e, in2, low2, q) =
    let same : b.0 ≡ e.0 =
    elim (cases_lt b.0 e.0) [
      | inl h ↦ absurd (lacks_values_has_not logs b k l c f p (low2 b h in1))
      | inr h ↦ elim (cases_lt e.0 b.0) [ inl y ↦ absurd (lacks_values_has_not logs e j m d g q (low1 e y in2)) | inr y ↦ omega arith ]
    ] in
    one_lack_of_values logs e k j l m c d f g (subst (λ (z : Bid). LacksValues logs z k l c f) (same_bid b e same) p) q

-- where a key is lacking, nothing is said of values
lacking_is_missing : (logs : List (List Record)) (k : Key) (l : ℕ) → IsFirstLacking logs k l → ¬ NoneMissing logs
lacking_is_missing logs k l (inl p) n = lacks_is_not_whole logs p.0 k l p.3 (n.0 p.0 p.1)
lacking_is_missing logs k l (inr p) n = act_lacks_is_not_whole logs p.1.0 k l p.1.3 (n.1 p.1.0 p.1.1)

-- ---- answers

one_genesis : (logs : List (List Record)) (c d : ℕ) (s t : List State) → geneses logs ≡ Genesis c s ∷ [] → geneses logs ≡ Genesis d t ∷ [] → c ≡ d
one_genesis logs c d s t p q = let same : Genesis c s ∷ [] ≡ Genesis d t ∷ [] = sym p ∙ q in cc

none_is_one : (logs : List (List Record)) (c : ℕ) (s : List State) → geneses logs ≡ [] → geneses logs ≡ Genesis c s ∷ [] → ⊥
none_is_one logs c s p q = let bad : [] ≡ Genesis c s ∷ [] = sym p ∙ q in cc

two_is_one : (logs : List (List Record)) (c : ℕ) (s : List State) → 2 ≤ length (geneses logs) → geneses logs ≡ Genesis c s ∷ [] → ⊥
two_is_one logs c s p q = let one : length (geneses logs) ≡ 1 = ap (λ (z : List Record). length z) q in omega (arith, one, p)

none_is_two : (logs : List (List Record)) → geneses logs ≡ [] → 2 ≤ length (geneses logs) → ⊥
none_is_two logs p q = let none' : length (geneses logs) ≡ 0 = ap (λ (z : List Record). length z) p in omega (arith, none', q)

-- what is asked after Range holds of logs whose records are all in range
range_is_not_begun : (logs : List (List Record)) (k : Key) (l : ℕ) (first : List State) → IsRefused logs (Range k l) → ¬ AreBegunWith logs first
range_is_not_begun logs k l first (s, r, e, p, ek) b =
    in_range_all (length first) logs r l (subst (λ (z : List State). IsFirstOutOfRange (length z) logs r l) (one_first_states logs s first e b.one) p) b.range

pub one_refusal : (logs : List (List Record)) (x y : RecoverNo) → x ≢ Memory → y ≢ Memory → IsRefused logs x → IsRefused logs y → x ≡ y
one_refusal logs NoGenesis NoGenesis a b p q = refl
one_refusal logs NoGenesis TwoGenesis a b p q = absurd (none_is_two logs p q)
one_refusal logs NoGenesis (LogCount c f) a b p q = absurd (none_is_one logs c q.0 p q.1)
one_refusal logs NoGenesis (Range k l) a b p q = absurd (none_is_one logs (length logs) q.0 p q.2)
one_refusal logs NoGenesis (Missing k l) a b p q = absurd (none_is_one logs (length logs) q.0 p q.1.one)
one_refusal logs NoGenesis (Values k l u v) a b p q = absurd (none_is_one logs (length logs) q.0 p q.1.one)
one_refusal logs NoGenesis Memory a b p q = absurd (b refl)
one_refusal logs TwoGenesis NoGenesis a b p q = absurd (none_is_two logs q p)
one_refusal logs TwoGenesis TwoGenesis a b p q = refl
one_refusal logs TwoGenesis (LogCount c f) a b p q = absurd (two_is_one logs c q.0 p q.1)
one_refusal logs TwoGenesis (Range k l) a b p q = absurd (two_is_one logs (length logs) q.0 p q.2)
one_refusal logs TwoGenesis (Missing k l) a b p q = absurd (two_is_one logs (length logs) q.0 p q.1.one)
one_refusal logs TwoGenesis (Values k l u v) a b p q = absurd (two_is_one logs (length logs) q.0 p q.1.one)
one_refusal logs TwoGenesis Memory a b p q = absurd (b refl)
one_refusal logs (LogCount c f) NoGenesis a b p q = absurd (none_is_one logs c p.0 q p.1)
one_refusal logs (LogCount c f) TwoGenesis a b p q = absurd (two_is_one logs c p.0 q p.1)
one_refusal logs (LogCount c f) (LogCount d g) a b p q =
    let kept : c ≡ d = one_genesis logs c d p.0 q.0 p.1 q.1 in
    let found : f ≡ g = p.2 ∙ sym q.2 in
    λ i. LogCount (kept i) (found i)
one_refusal logs (LogCount c f) (Range k l) a b p q = absurd (p.3 (one_genesis logs c (length logs) p.0 q.0 p.1 q.2 ∙ sym p.2))
one_refusal logs (LogCount c f) (Missing k l) a b p q = absurd (p.3 (one_genesis logs c (length logs) p.0 q.0 p.1 q.1.one ∙ sym p.2))
one_refusal logs (LogCount c f) (Values k l u v) a b p q = absurd (p.3 (one_genesis logs c (length logs) p.0 q.0 p.1 q.1.one ∙ sym p.2))
one_refusal logs (LogCount c f) Memory a b p q = absurd (b refl)
one_refusal logs (Range k l) NoGenesis a b p q = absurd (none_is_one logs (length logs) p.0 q p.2)
one_refusal logs (Range k l) TwoGenesis a b p q = absurd (two_is_one logs (length logs) p.0 q p.2)
one_refusal logs (Range k l) (LogCount d g) a b p q = absurd (q.3 (one_genesis logs d (length logs) q.0 p.0 q.1 p.2 ∙ sym q.2))
one_refusal logs (Range k l) (Range j m) a b p q =
    let states : p.0 ≡ q.0 = one_first_states logs p.0 q.0 p.2 q.2 in
    let there : IsFirstOutOfRange (length q.0) logs p.1 l = subst (λ (z : List State). IsFirstOutOfRange (length z) logs p.1 l) states p.3 in
    let same = one_out_of_range (length q.0) logs p.1 q.1 l m there q.3 in
    let keyed : k ≡ j = p.4 ∙ ap key same.0 ∙ sym q.4 in
    let log : l ≡ m = same.1 in
    λ i. Range (keyed i) (log i)
one_refusal logs (Range k l) (Missing j m) a b p q = absurd (range_is_not_begun logs k l q.0 p q.1)
one_refusal logs (Range k l) (Values j m u v) a b p q = absurd (range_is_not_begun logs k l q.0 p q.1)
one_refusal logs (Range k l) Memory a b p q = absurd (b refl)
one_refusal logs (Missing k l) NoGenesis a b p q = absurd (none_is_one logs (length logs) p.0 q p.1.one)
one_refusal logs (Missing k l) TwoGenesis a b p q = absurd (two_is_one logs (length logs) p.0 q p.1.one)
one_refusal logs (Missing k l) (LogCount d g) a b p q = absurd (q.3 (one_genesis logs d (length logs) q.0 p.0 q.1 p.1.one ∙ sym q.2))
one_refusal logs (Missing k l) (Range j m) a b p q = absurd (range_is_not_begun logs j m p.0 q p.1)
one_refusal logs (Missing k l) (Missing j m) a b p q =
    let same = one_first_lacking logs k j l m p.2 q.2 in
    let keyed : k ≡ j = same.0 in
    let log : l ≡ m = same.1 in
    λ i. Missing (keyed i) (log i)
one_refusal logs (Missing k l) (Values j m u v) a b p q = absurd (lacking_is_missing logs k l p.2 q.2)
one_refusal logs (Missing k l) Memory a b p q = absurd (b refl)
one_refusal logs (Values k l u v) NoGenesis a b p q = absurd (none_is_one logs (length logs) p.0 q p.1.one)
one_refusal logs (Values k l u v) TwoGenesis a b p q = absurd (two_is_one logs (length logs) p.0 q p.1.one)
one_refusal logs (Values k l u v) (LogCount d g) a b p q = absurd (q.3 (one_genesis logs d (length logs) q.0 p.0 q.1 p.1.one ∙ sym q.2))
one_refusal logs (Values k l u v) (Range j m) a b p q = absurd (range_is_not_begun logs j m p.0 q p.1)
one_refusal logs (Values k l u v) (Missing j m) a b p q = absurd (lacking_is_missing logs j m q.2 p.2)
one_refusal logs (Values k l u v) (Values j m d g) a b p q =
    let same = one_first_values logs k j l m u d v g p.3 q.3 in
    let keyed : k ≡ j = same.0 in
    let log : l ≡ m = same.1 in
    let kept : u ≡ d = same.2 in
    let found : v ≡ g = same.3 in
    λ i. Values (keyed i) (log i) (kept i) (found i)
one_refusal logs (Values k l u v) Memory a b p q = absurd (b refl)
one_refusal logs Memory y a b p q = absurd (a refl)

pub refused_is_not_recovered : (logs : List (List Record)) (x : RecoverNo) (o : Opening) → x ≢ Memory → IsRefused logs x → ¬ IsRecovered logs o
refused_is_not_recovered logs NoGenesis o a p h = none_is_one logs (length logs) h.begun.0 p h.begun.1.one
refused_is_not_recovered logs TwoGenesis o a p h = two_is_one logs (length logs) h.begun.0 p h.begun.1.one
refused_is_not_recovered logs (LogCount c f) o a p h = p.3 (one_genesis logs c (length logs) p.0 h.begun.0 p.1 h.begun.1.one ∙ sym p.2)
refused_is_not_recovered logs (Range k l) o a p h = range_is_not_begun logs k l h.begun.0 p h.begun.1
refused_is_not_recovered logs (Missing k l) o a p h = lacking_is_not_recovered logs k l o p.2 h
refused_is_not_recovered logs (Values k l u v) o a p h = lacks_values_has_not logs p.3.0 k l u v p.3.3 (h.valued p.3.0 p.3.1)
refused_is_not_recovered logs Memory o a p h = absurd (a refl)
