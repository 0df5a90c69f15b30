-- What the lists of written records say, in the machine's words.
use Rattle.std.specs.Prelude.{◌≡◌, refl, ℕ, zero, suc, ◌+◌, ◌≤◌, ◌<◌, ◌%◌, ◌==◌, Bool, true, false, ◌&&◌, ◌⊎◌, if◌then◌else◌, Some, List, [], ◌∷◌, ◌++◌, length, map, filter, slice_get, slice_index_or, Contains}
use Rattle.std.specs.List.{AllByRecursion, AllZip, enumerate_from}
use Rattle.std.proofs.Common.{arith, sym, ap, subst, mod-lt, inl, inr, ◌∙◌}
use Rattle.std.proofs.lemmas.Bool.{true≢false, or_cases, eqb-true, eq-eqb}
use Rattle.snap_base.specs.declared.transactions.State.{State}
use Rattle.snap_base.proofs.Lists.{all_filter, all_join, all_mid}
use Rattle.protocol.specs.Facts.{state_in}
use Rattle.protocol.specs.Parts.{Who, OfBatch, OfAct}
use Rattle.protocol.specs.Records as machine
use Rattle.protocol.specs.Records.{LogRecord}
use Rattle.protocol.specs.Words.{is_who}
use Rattle.protocol_laws.proofs.first.Lists.{join_assoc}
use Rattle.protocol_laws.proofs.machine.TrackLists.{is_who_true}
use Rattle.protocol_records.specs.Telling.{told_states, names, last_one}
use Rattle.protocol_records.specs.Crash.{is_in}
use Rattle.followed_runs.specs.Following as follow
use Rattle.followed_runs.specs.Following.{ChangedAhead}
use Rattle.txn_records.specs.declared.records.Record.{Record}
use Rattle.txn_records.specs.declared.records.Record.TheVariants.{Genesis, BatchInfo, BatchComplete, BatchCommit, ActPrepare, ActCommit, BatchDone, ActDone, Checkpoint}
use Rattle.txn_records.specs.declared.keys.Key.{Key}
use Rattle.txn_records.specs.declared.keys.Key.TheVariants as keys
use Rattle.txn_records.specs.Records.{key}
use Rattle.log_set.specs.Told.{bid_of, tid_of, told, all_told}
use Rattle.recovery_laws.specs.Grown.{grown}
use Rattle.recovery_laws.proofs.WrittenLists.{has_commit, commit_has, has_act, act_has, grown_length, grown_at, grown_genesis}
use Rattle.snap_recover.specs.Logs.{HasKey, all_of, log_of, is_genesis, geneses, states_in}
use Rattle.snap_recover.specs.Opening.{AreBegunWith}
use Rattle.snap_recover.proofs.Growing.{has_right, has_cases}
use Rattle.snap_recover.proofs.Lists.{contains_none, contains_cases}
use Rattle.snap_follow.specs.Followed.{HasCommit, Tells, TellsOf, IsLeftBy, ChangesAhead, IsFirstState, StandsAhead, CountsFor, IsFollowedState, AreFollowedStates}
use Rattle.snap_follow.proofs.Changes.{tells_one, one_told, left_more}
use Rattle.followed_logs.specs.OnRecords.{key_of}
use Rattle.followed_logs.proofs.Keys.{is_taken, taken_is, is_then_taken}

-- ---- a log

abbrev pub IsGenesisOf : List State → Record → Type 0
IsGenesisOf first r = (count : ℕ) × (r ≡ Genesis count first)

-- so many lists, in which nothing but Genesis stands, with these states
pub record OnlyGenesis (many : ℕ) (first : List State) (lists : List (List Record)) : Type 0 where
  pub many_are : length lists ≡ many
  pub each : AllByRecursion (AllByRecursion (IsGenesisOf first)) lists

pub log_is : (many : ℕ) (first : List State) (begun : List (List Record)) (logs : ℕ → List LogRecord) (n : ℕ) → 1 ≤ many → OnlyGenesis many first begun → log_of (grown begun logs) n ≡ log_of begun n ++ all_told (logs (n % many))
log_is many first begun logs n some g =
    let e : 0 + n % length begun ≡ n % many = (let z : 0 + n % length begun ≡ n % length begun = omega arith in z) ∙ ap (λ z. n % z) g.many_are in
    ap (λ z. slice_index_or (grown begun logs) (n % z) []) (grown_length 0 begun logs)
    ∙ (grown_at 0 (n % length begun) begun logs (mod-lt n (subst (λ z. 1 ≤ z) (sym g.many_are) some)) ∙ ap (λ z. slice_index_or begun (n % length begun) [] ++ all_told (logs z)) e)

only_at : (first : List State) (lists : List (List Record)) (i : ℕ) → AllByRecursion (AllByRecursion (IsGenesisOf first)) lists → AllByRecursion (IsGenesisOf first) (slice_index_or lists i [])
only_at first [] i h = tt
only_at first (x ∷ xs) zero h = h.0
only_at first (x ∷ xs) (suc i) h = only_at first xs i h.1

pub only_log : (many : ℕ) (first : List State) (begun : List (List Record)) (n : ℕ) → OnlyGenesis many first begun → AllByRecursion (IsGenesisOf first) (log_of begun n)
only_log many first begun n g = only_at first begun (n % length begun) g.each

genesis_key : (first : List State) (rs : List Record) (k : Key) → AllByRecursion (IsGenesisOf first) rs → (k ≡ keys.Genesis → ⊥) → ¬ HasKey rs k
genesis_key first [] k h n c = contains_none k c
genesis_key first (r ∷ rs) k h n c = elim (contains_cases (key r) k (map key rs) c) [ inl e ↦ n (sym e ∙ ap key h.0.1) | inr e ↦ genesis_key first rs k h.1 n e ]

-- ---- commits

pub commit_in : (many : ℕ) (first : List State) (begun : List (List Record)) (logs : ℕ → List LogRecord) (y : Who) → 1 ≤ many → OnlyGenesis many first begun → HasCommit (grown begun logs) (key_of y) → is_in many logs y ≡ true
commit_in many first begun logs (OfBatch k) some g h = elim (has_cases (log_of begun k) (all_told (logs (k % many))) (keys.Commit (bid_of k)) (subst (λ z. HasKey z (keys.Commit (bid_of k))) (log_is many first begun logs k some g) h)) [
  | inl q ↦ absurd (genesis_key first (log_of begun k) (keys.Commit (bid_of k)) (only_log many first begun k g) (λ e. cc e) q)
  | inr q ↦ has_commit (logs (k % many)) (bid_of k) q
]
commit_in many first begun logs (OfAct t) some g h = elim (has_cases (log_of begun t) (all_told (logs (t % many))) (keys.Act (tid_of t)) (subst (λ z. HasKey z (keys.Act (tid_of t))) (log_is many first begun logs t some g) h)) [
  | inl q ↦ absurd (genesis_key first (log_of begun t) (keys.Act (tid_of t)) (only_log many first begun t g) (λ e. cc e) q)
  | inr q ↦ has_act (logs (t % many)) (tid_of t) q
]

pub in_commit : (many : ℕ) (first : List State) (begun : List (List Record)) (logs : ℕ → List LogRecord) (y : Who) → 1 ≤ many → OnlyGenesis many first begun → is_in many logs y ≡ true → HasCommit (grown begun logs) (key_of y)
in_commit many first begun logs (OfBatch k) some g h = subst (λ z. HasKey z (keys.Commit (bid_of k))) (sym (log_is many first begun logs k some g)) (has_right (log_of begun k) (all_told (logs (k % many))) (keys.Commit (bid_of k)) (commit_has (logs (k % many)) k h))
in_commit many first begun logs (OfAct t) some g h = subst (λ z. HasKey z (keys.Act (tid_of t))) (sym (log_is many first begun logs t some g)) (has_right (log_of begun t) (all_told (logs (t % many))) (keys.Act (tid_of t)) (act_has (logs (t % many)) t h))

-- ---- what stands ahead

-- a record that tells a state of the actor, of one
record TellsAt (a : ℕ) (y : Who) (rs : List Record) : Type 0 where
  front : List Record
  own : Record
  behind : List Record
  splits : rs ≡ front ++ own ∷ behind
  is_own : Tells a (key_of y) own

later_at : (a : ℕ) (y : Who) (r : Record) (rs : List Record) → TellsAt a y rs → TellsAt a y (r ∷ rs)
later_at a y r rs s = record { front = r ∷ s.front; own = s.own; behind = s.behind; splits = ap (λ z. r ∷ z) s.splits; is_own = s.is_own }

named_at : (a : ℕ) (y : Who) (rs : List LogRecord) → names y (told_states a rs) ≡ true → TellsAt a y (all_told rs)
named_at a y [] h = absurd (true≢false (sym h))
named_at a y (machine.BatchInfo k xs ts ∷ rs) h = later_at a y (told (machine.BatchInfo k xs ts)) (all_told rs) (named_at a y rs h)
named_at a y (machine.BatchDone k vs ∷ rs) h = later_at a y (told (machine.BatchDone k vs)) (all_told rs) (named_at a y rs h)
named_at a y (machine.ActDone t m c v xs ∷ rs) h = later_at a y (told (machine.ActDone t m c v xs)) (all_told rs) (named_at a y rs h)
named_at a y (machine.BatchComplete k b st ∷ rs) h = by (b == a) refl h (named_at a y rs)
  where
    by : (v : Bool) → (b == a) ≡ v → names y (if v then record { who = OfBatch k; state = st } ∷ told_states a rs else told_states a rs) ≡ true → (names y (told_states a rs) ≡ true → TellsAt a y (all_told rs)) → TellsAt a y (told (machine.BatchComplete k b st) ∷ all_told rs)
    by true e h r = elim (or_cases (is_who y (OfBatch k)) (names y (told_states a rs)) h) [
      | inl q ↦ record { front = []; own = told (machine.BatchComplete k b st); behind = all_told rs; splits = refl; is_own = (eqb-true b a e, ap key_of (is_who_true y (OfBatch k) q)) }
      | inr q ↦ later_at a y (told (machine.BatchComplete k b st)) (all_told rs) (r q)
    ]
    by false e h r = later_at a y (told (machine.BatchComplete k b st)) (all_told rs) (r h)
named_at a y (machine.ActPrepare t b st ∷ rs) h = by (b == a) refl h (named_at a y rs)
  where
    by : (v : Bool) → (b == a) ≡ v → names y (if v then record { who = OfAct t; state = st } ∷ told_states a rs else told_states a rs) ≡ true → (names y (told_states a rs) ≡ true → TellsAt a y (all_told rs)) → TellsAt a y (told (machine.ActPrepare t b st) ∷ all_told rs)
    by true e h r = elim (or_cases (is_who y (OfAct t)) (names y (told_states a rs)) h) [
      | inl q ↦ record { front = []; own = told (machine.ActPrepare t b st); behind = all_told rs; splits = refl; is_own = (eqb-true b a e, ap key_of (is_who_true y (OfAct t) q)) }
      | inr q ↦ later_at a y (told (machine.ActPrepare t b st)) (all_told rs) (r q)
    ]
    by false e h r = later_at a y (told (machine.ActPrepare t b st)) (all_told rs) (r h)

-- ---- what stands ahead, of those that count

-- behind these records the actor has this state and no other one
abbrev Leaves : (Key → Type 0) → (ℕ → State → Type 0) → ℕ → List Record → State → Type 0
Leaves C B a before s = (t : State) → IsLeftBy C B a before t → t ≡ s

module _ (C : Key → Type 0) (B : ℕ → State → Type 0) (counts : Who → Bool) (into : (w : Who) → counts w ≡ true → C (key_of w)) (out : (w : Who) → C (key_of w) → counts w ≡ true) where
  -- a record of no state of the actor
  leaves_quiet : (a : ℕ) (before : List Record) (s : State) (r : Record) → ((k : Key) → ¬ Tells a k r) → Leaves C B a before s → Leaves C B a (before ++ r ∷ []) s
  leaves_quiet a before s r n h t l = elim ((left_more C B a before r t).0 l) [ inl p ↦ absurd (n p.1.0 p.1.2) | inr p ↦ h t p.1 ]

  -- a record of one
  leaves_told : (a : ℕ) (before : List Record) (s st : State) (r : Record) (w : Who) → Tells a (key_of w) r → states_in r ≡ st ∷ [] → Leaves C B a before s → Leaves C B a (before ++ r ∷ []) (if counts w then st else s)
  leaves_told a before s st r w own tells h t l = by (counts w) refl ((left_more C B a before r t).0 l)
    where
      by : (v : Bool) → counts w ≡ v → ((states_in r ≡ t ∷ []) × TellsOf C a r) ⊎ (¬ TellsOf C a r × IsLeftBy C B a before t) → t ≡ (if v then st else s)
      by true e (inl p) = one_told r t st p.0 tells
      by true e (inr p) = absurd (p.0 (key_of w, into w e, own))
      by false e (inl p) = absurd (true≢false (sym (out w (subst C (tells_one a a p.1.0 (key_of w) r p.1.2 own).1 p.1.1)) ∙ e))
      by false e (inr p) = h t p.1

  -- the record changes the actor, and one of the other stands behind it
  here_ahead : (a : ℕ) (z y : Who) (before : List Record) (s st : State) (r : Record) (rs : List Record) → Leaves C B a before s → Tells a (key_of z) r → states_in r ≡ st ∷ [] → ¬ (st ≡ s) → TellsAt a y rs
      → ChangesAhead C B a (key_of z) (key_of y) (before ++ r ∷ rs)
  here_ahead a z y before s st r rs h own tells other at = record {
    front = before ++ r ∷ at.front;
    own = at.own;
    behind = at.behind;
    splits = ap (λ q. before ++ r ∷ q) at.splits ∙ sym (join_assoc before (r ∷ at.front) (at.own ∷ at.behind));
    is_own = at.is_own;
    ahead = record {
      front = before;
      own = r;
      behind = at.front;
      splits = refl;
      is_own = own;
      another = λ t l e. other (one_told r st t tells e ∙ h t l);
    };
  }

  -- the change is behind this record
  ahead_later : (a : ℕ) (z y : Who) (before : List Record) (s : State) (r : LogRecord) (rs : List LogRecord)
      → ((front : List Record) (t : State) → Leaves C B a front t → ChangedAhead counts t z y (told_states a rs) → ChangesAhead C B a (key_of z) (key_of y) (front ++ all_told rs))
      → Leaves C B a (before ++ told r ∷ []) s → ChangedAhead counts s z y (told_states a rs) → ChangesAhead C B a (key_of z) (key_of y) (before ++ told r ∷ all_told rs)
  ahead_later a z y before s r rs more h c = subst (ChangesAhead C B a (key_of z) (key_of y)) (join_assoc before (told r ∷ []) (all_told rs)) (more (before ++ told r ∷ []) s h c)

  -- this record tells a state of the actor
  ahead_told : (a : ℕ) (z y w : Who) (before : List Record) (s st : State) (r : LogRecord) (rs : List LogRecord)
      → ((front : List Record) (t : State) → Leaves C B a front t → ChangedAhead counts t z y (told_states a rs) → ChangesAhead C B a (key_of z) (key_of y) (front ++ all_told rs))
      → Tells a (key_of w) (told r) → states_in (told r) ≡ st ∷ [] → Leaves C B a before s → ChangedAhead counts s z y (record { who = w; state = st } ∷ told_states a rs)
      → ChangesAhead C B a (key_of z) (key_of y) (before ++ told r ∷ all_told rs)
  ahead_told a z y w before s st r rs more own tells h (inl c) =
      here_ahead a z y before s st (told r) (all_told rs) h (subst (λ k. Tells a k (told r)) (sym (ap key_of (is_who_true z w c.0))) own) tells c.1 (named_at a y rs c.2)
  ahead_told a z y w before s st r rs more own tells h (inr c) =
      ahead_later a z y before (if counts w then st else s) r rs more (leaves_told a before s st (told r) w own tells h) c

  tells_ahead : (a : ℕ) (z y : Who) (rs : List LogRecord) (before : List Record) (s : State) → Leaves C B a before s → ChangedAhead counts s z y (told_states a rs) → ChangesAhead C B a (key_of z) (key_of y) (before ++ all_told rs)
  tells_ahead a z y [] before s h c = absurd c
  tells_ahead a z y (machine.BatchInfo k xs ts ∷ rs) before s h c =
      ahead_later a z y before s (machine.BatchInfo k xs ts) rs (tells_ahead a z y rs) (leaves_quiet a before s (told (machine.BatchInfo k xs ts)) (λ j t. t) h) c
  tells_ahead a z y (machine.BatchDone k vs ∷ rs) before s h c =
      ahead_later a z y before s (machine.BatchDone k vs) rs (tells_ahead a z y rs) (leaves_quiet a before s (told (machine.BatchDone k vs)) (λ j t. t) h) c
  tells_ahead a z y (machine.ActDone t m v u xs ∷ rs) before s h c =
      ahead_later a z y before s (machine.ActDone t m v u xs) rs (tells_ahead a z y rs) (leaves_quiet a before s (told (machine.ActDone t m v u xs)) (λ j q. q) h) c
  tells_ahead a z y (machine.BatchComplete k b st ∷ rs) before s h c = by (b == a) refl c (tells_ahead a z y rs)
    where
      by : (v : Bool) → (b == a) ≡ v → ChangedAhead counts s z y (if v then record { who = OfBatch k; state = st } ∷ told_states a rs else told_states a rs)
          → ((front : List Record) (t : State) → Leaves C B a front t → ChangedAhead counts t z y (told_states a rs) → ChangesAhead C B a (key_of z) (key_of y) (front ++ all_told rs))
          → ChangesAhead C B a (key_of z) (key_of y) (before ++ told (machine.BatchComplete k b st) ∷ all_told rs)
      by true e d more = ahead_told a z y (OfBatch k) before s st (machine.BatchComplete k b st) rs more (eqb-true b a e, refl) refl h d
      by false e d more = ahead_later a z y before s (machine.BatchComplete k b st) rs more (leaves_quiet a before s (told (machine.BatchComplete k b st)) (λ j t. true≢false (sym (eq-eqb b a t.0) ∙ e)) h) d
  tells_ahead a z y (machine.ActPrepare t b st ∷ rs) before s h c = by (b == a) refl c (tells_ahead a z y rs)
    where
      by : (v : Bool) → (b == a) ≡ v → ChangedAhead counts s z y (if v then record { who = OfAct t; state = st } ∷ told_states a rs else told_states a rs)
          → ((front : List Record) (u : State) → Leaves C B a front u → ChangedAhead counts u z y (told_states a rs) → ChangesAhead C B a (key_of z) (key_of y) (front ++ all_told rs))
          → ChangesAhead C B a (key_of z) (key_of y) (before ++ told (machine.ActPrepare t b st) ∷ all_told rs)
      by true e d more = ahead_told a z y (OfAct t) before s st (machine.ActPrepare t b st) rs more (eqb-true b a e, refl) refl h d
      by false e d more = ahead_later a z y before s (machine.ActPrepare t b st) rs more (leaves_quiet a before s (told (machine.ActPrepare t b st)) (λ j q. true≢false (sym (eq-eqb b a q.0) ∙ e)) h) d

-- ---- with which states the lists begin

state_at : (first : List State) (a : ℕ) (t : State) → slice_get first a ≡ Some t → t ≡ state_in first a
state_at [] a t e = absurd (cc e)
state_at (x ∷ xs) zero t e = let same : x ≡ t = cc e in sym same
state_at (x ∷ xs) (suc a) t e = state_at xs a t e

all_genesis : (first : List State) (lists : List (List Record)) → AllByRecursion (AllByRecursion (IsGenesisOf first)) lists → AllByRecursion (IsGenesisOf first) (all_of lists)
all_genesis first [] h = tt
all_genesis first (rs ∷ lists) h = all_join (IsGenesisOf first) rs (all_of lists) h.0 (all_genesis first lists h.1)

-- with these
first_is : (many : ℕ) (first states : List State) (begun : List (List Record)) (logs : ℕ → List LogRecord) → OnlyGenesis many first begun → AreBegunWith (grown begun logs) states → states ≡ first
first_is many first states begun logs g b =
    let one : geneses begun ≡ Genesis (length (grown begun logs)) states ∷ [] = sym (grown_genesis 0 begun logs) ∙ b.one in
    let head = (subst (AllByRecursion (IsGenesisOf first)) one (all_filter (IsGenesisOf first) is_genesis (all_of begun) (all_genesis first begun g.each))).0 in
    let same : Genesis (length (grown begun logs)) states ≡ Genesis head.0 first = head.1 in
    cc same

pub genesis_tells : (first : List State) (a : ℕ) (k : Key) (r : Record) → IsGenesisOf first r → ¬ Tells a k r
genesis_tells first a k r h t = subst (Tells a k) h.1 t

first_leaves : (many : ℕ) (first : List State) (begun : List (List Record)) (logs : ℕ → List LogRecord) (a : ℕ) → OnlyGenesis many first begun → Leaves (HasCommit (grown begun logs)) (IsFirstState (grown begun logs)) a (log_of begun a) (state_in first a)
first_leaves many first begun logs a g t (inl (r, told, (front, behind, e, p, quiet))) =
    absurd (genesis_tells first a p.0 r (all_mid (IsGenesisOf first) r front behind (subst (AllByRecursion (IsGenesisOf first)) e (only_log many first begun a g))) p.2)
first_leaves many first begun logs a g t (inr (quiet, (states, b, at))) =
    state_at first a t (subst (λ z. slice_get z a ≡ Some t) (first_is many first states begun logs g b) at)

pub ahead_written : (many : ℕ) (first : List State) (begun : List (List Record)) (logs : ℕ → List LogRecord) (z y : Who) → 1 ≤ many → OnlyGenesis many first begun → follow.StandsAhead many (state_in first) logs z y
    → StandsAhead (grown begun logs) (key_of z) (key_of y)
ahead_written many first begun logs z y some g s = (
  s.0,
  subst (ChangesAhead (HasCommit (grown begun logs)) (IsFirstState (grown begun logs)) s.0 (key_of z) (key_of y)) (sym (log_is many first begun logs s.0 some g))
      (tells_ahead (HasCommit (grown begun logs)) (IsFirstState (grown begun logs)) (is_in many logs) (λ w i. in_commit many first begun logs w some g i) (λ w h. commit_in many first begun logs w some g h)
      s.0 z y (logs (s.0 % many)) (log_of begun s.0) (state_in first s.0) (first_leaves many first begun logs s.0 g) s.1),
)

-- ---- states

-- the state after a record, of a member
one_over : List Key → ℕ → State → Record → State
one_over ks a s (BatchComplete b actor st) = if (actor.0 == a) && is_taken ks (OfBatch b.0) then st else s
one_over ks a s (ActPrepare t actor st) = if (actor.0 == a) && is_taken ks (OfAct t.0) then st else s
one_over ks a s r = s

over : List Key → ℕ → State → List Record → State
over ks a s [] = s
over ks a s (r ∷ rs) = over ks a (one_over ks a s r) rs

over_join : (ks : List Key) (a : ℕ) (s : State) (xs ys : List Record) → over ks a s (xs ++ ys) ≡ over ks a (over ks a s xs) ys
unfolding over
over_join ks a s [] ys = refl
over_join ks a s (x ∷ xs) ys = over_join ks a (one_over ks a s x) xs ys

counts_not : (ks : List Key) (a : ℕ) (s st : State) (actor : ℕ) (y : Who) → (actor ≡ a → Contains ks (key_of y) → ⊥) → (if (actor == a) && is_taken ks y then st else s) ≡ s
counts_not ks a s st actor y n = by (actor == a) (is_taken ks y) refl refl
  where
    by : (b c : Bool) → (actor == a) ≡ b → is_taken ks y ≡ c → (if b && c then st else s) ≡ s
    by true true e f = absurd (n (eqb-true actor a e) (taken_is ks y f))
    by true false e f = refl
    by false c e f = refl

one_not : (ks : List Key) (a : ℕ) (s : State) (r : Record) → ¬ CountsFor ks a r → one_over ks a s r ≡ s
unfolding one_over
one_not ks a s (Genesis l ss) n = refl
one_not ks a s (BatchInfo b xs ts) n = refl
one_not ks a s (BatchComplete b actor st) n = counts_not ks a s st actor.0 (OfBatch b.0) (λ e m. n (keys.Commit (bid_of b.0), m, (e, refl)))
one_not ks a s (BatchCommit b) n = refl
one_not ks a s (ActPrepare t actor st) n = counts_not ks a s st actor.0 (OfAct t.0) (λ e m. n (keys.Act (tid_of t.0), m, (e, refl)))
one_not ks a s (ActCommit t m c xs) n = refl
one_not ks a s (BatchDone b vs) n = refl
one_not ks a s (ActDone t m c v xs) n = refl
one_not ks a s (Checkpoint g nt nb nc bs acts ss) n = refl

over_none : (ks : List Key) (a : ℕ) (s : State) (rs : List Record) → AllByRecursion (λ r. ¬ CountsFor ks a r) rs → over ks a s rs ≡ s
unfolding over
over_none ks a s [] h = refl
over_none ks a s (r ∷ rs) h = ap (λ z. over ks a z rs) (one_not ks a s r h.0) ∙ over_none ks a s rs h.1

counts_so : (ks : List Key) (a : ℕ) (s st : State) (actor : ℕ) (y : Who) → actor ≡ a → Contains ks (key_of y) → (if (actor == a) && is_taken ks y then st else s) ≡ st
counts_so ks a s st actor y e m = rw (eq-eqb actor a e, is_then_taken ks y m) refl

one_counts : (ks : List Key) (a : ℕ) (s st : State) (r : Record) → CountsFor ks a r → states_in r ≡ st ∷ [] → one_over ks a s r ≡ st
unfolding one_over
one_counts ks a s st (Genesis l ss) c e = absurd c.2
one_counts ks a s st (BatchInfo b xs ts) c e = absurd c.2
one_counts ks a s st (BatchComplete b actor x) c e = let i : x ≡ st = cc e in counts_so ks a s x actor.0 (OfBatch b.0) c.2.0 (subst (Contains ks) c.2.1 c.1) ∙ i
one_counts ks a s st (BatchCommit b) c e = absurd c.2
one_counts ks a s st (ActPrepare t actor x) c e = let i : x ≡ st = cc e in counts_so ks a s x actor.0 (OfAct t.0) c.2.0 (subst (Contains ks) c.2.1 c.1) ∙ i
one_counts ks a s st (ActCommit t m c' xs) c e = absurd c.2
one_counts ks a s st (BatchDone b vs) c e = absurd c.2
one_counts ks a s st (ActDone t m c' v xs) c e = absurd c.2
one_counts ks a s st (Checkpoint g nt nb nc bs acts ss) c e = absurd c.2

state_over : (ks : List Key) (logs : List (List Record)) (a : ℕ) (first s : State) → IsFollowedState ks logs a first s → s ≡ over ks a first (log_of logs a)
unfolding over
state_over ks logs a first s (inl (r, e, l)) =
    sym (ap (over ks a first) l.2 ∙ (over_join ks a first l.0 (r ∷ l.1) ∙ (ap (λ z. over ks a z l.1) (one_counts ks a (over ks a first l.0) s r l.3 e) ∙ over_none ks a s l.1 l.4)))
state_over ks logs a first s (inr p) = p.1 ∙ sym (over_none ks a first (log_of logs a) p.0)

over_genesis : (ks : List Key) (a : ℕ) (first : List State) (s : State) (rs : List Record) → AllByRecursion (IsGenesisOf first) rs → over ks a s rs ≡ s
unfolding over one_over
over_genesis ks a first s [] h = refl
over_genesis ks a first s (r ∷ rs) h = ap (λ z. over ks a (one_over ks a s z) rs) h.0.1 ∙ over_genesis ks a first s rs h.1

over_told : (ks : List Key) (a : ℕ) (s : State) (rs : List LogRecord) → over ks a s (all_told rs) ≡ last_one s (filter (λ o. is_taken ks o.who) (told_states a rs))
unfolding over one_over
over_told ks a s [] = refl
over_told ks a s (machine.BatchInfo k xs ts ∷ rs) = over_told ks a s rs
over_told ks a s (machine.BatchDone k vs ∷ rs) = over_told ks a s rs
over_told ks a s (machine.ActDone t m c v xs ∷ rs) = over_told ks a s rs
over_told ks a s (machine.BatchComplete k b st ∷ rs) = by (b == a) (is_taken ks (OfBatch k)) refl (λ z. over_told ks a z rs)
  where
    by : (v u : Bool) → is_taken ks (OfBatch k) ≡ u → ((z : State) → over ks a z (all_told rs) ≡ last_one z (filter (λ o. is_taken ks o.who) (told_states a rs)))
        → over ks a (if v && u then st else s) (all_told rs) ≡ last_one s (filter (λ o. is_taken ks o.who) (if v then record { who = OfBatch k; state = st } ∷ told_states a rs else told_states a rs))
    by true true e r = rw e (r st)
    by true false e r = rw e (r s)
    by false u e r = r s
over_told ks a s (machine.ActPrepare t b st ∷ rs) = by (b == a) (is_taken ks (OfAct t)) refl (λ z. over_told ks a z rs)
  where
    by : (v u : Bool) → is_taken ks (OfAct t) ≡ u → ((z : State) → over ks a z (all_told rs) ≡ last_one z (filter (λ o. is_taken ks o.who) (told_states a rs)))
        → over ks a (if v && u then st else s) (all_told rs) ≡ last_one s (filter (λ o. is_taken ks o.who) (if v then record { who = OfAct t; state = st } ∷ told_states a rs else told_states a rs))
    by true true e r = rw e (r st)
    by true false e r = rw e (r s)
    by false u e r = r s

zip_at : (P : ℕ → State → State → Type 0) (n a : ℕ) (first states : List State) → AllZip (λ (x : ℕ × State) s. P x.0 x.1 s) (enumerate_from n first) states → a < length first → P (n + a) (state_in first a) (state_in states a)
zip_at P n a [] states h l = absurd (omega (arith, l))
zip_at P n a (x ∷ xs) [] h l = elim h [ ]
zip_at P n zero (x ∷ xs) (y ∷ ys) h l = let e : n ≡ n + 0 = omega arith in subst (λ z. P z x y) e h.0
zip_at P n (suc a) (x ∷ xs) (y ∷ ys) h l = let e : n + 1 + a ≡ n + suc a = omega arith in subst (λ z. P z (state_in xs a) (state_in ys a)) e (zip_at P (n + 1) a xs ys h.1 (omega (arith, l)))

pub states_written : (many : ℕ) (begun : List (List Record)) (logs : ℕ → List LogRecord) (ks : List Key) (first states : List State) (a : ℕ) → 1 ≤ many → OnlyGenesis many first begun → AreFollowedStates ks (grown begun logs) first states → a < length first
    → state_in states a ≡ follow.followed_state many (is_taken ks) logs a (state_in first a)
states_written many begun logs ks first states a some g h l =
    let e : 0 + a ≡ a = omega arith in
    let z = zip_at (λ n x s. IsFollowedState ks (grown begun logs) n x s) 0 a first states h l in
    state_over ks (grown begun logs) a (state_in first a) (state_in states a) (subst (λ n. IsFollowedState ks (grown begun logs) n (state_in first a) (state_in states a)) e z)
    ∙ (ap (over ks a (state_in first a)) (log_is many first begun logs a some g)
    ∙ (over_join ks a (state_in first a) (log_of begun a) (all_told (logs (a % many)))
    ∙ (ap (λ w. over ks a w (all_told (logs (a % many)))) (over_genesis ks a first (state_in first a) (log_of begun a) (only_log many first begun a g))
    ∙ over_told ks a (state_in first a) (logs (a % many)))))
