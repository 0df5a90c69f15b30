-- What stands ahead in the lists of written records stands ahead in the machine's logs.
use Rattle.std.specs.Prelude.{◌≡◌, refl, ℕ, zero, suc, ◌≤◌, ◌<◌, ◌%◌, ◌==◌, Bool, true, false, ◌⊎◌, if◌then◌else◌, Some, List, [], ◌∷◌, ◌++◌, length, slice_get}
use Rattle.std.specs.List.{AllByRecursion}
use Rattle.std.proofs.Common.{arith, sym, ap, subst, inl, inr, ◌∙◌}
use Rattle.std.proofs.lemmas.Bool.{true≢false, or_left, or_right, eqb-true, eq-eqb}
use Rattle.std.proofs.lemmas.List.{append-nil}
use Rattle.snap_base.specs.declared.transactions.State.{State}
use Rattle.snap_base.proofs.Lists.{all_mid}
use Rattle.protocol.specs.Facts.{state_in}
use Rattle.protocol.specs.Parts.{Who, OfBatch, OfAct}
use Rattle.protocol.specs.Records as machine
use Rattle.protocol.specs.Records.{LogRecord}
use Rattle.protocol.specs.Words.{is_who}
use Rattle.protocol_laws.proofs.first.Lists.{join_assoc}
use Rattle.protocol_records.specs.Telling.{told_states, names}
use Rattle.protocol_records.specs.Crash.{is_in}
use Rattle.followed_runs.specs.Following as follow
use Rattle.followed_runs.specs.Following.{ChangedAhead}
use Rattle.txn_records.specs.declared.records.Record.{Record}
use Rattle.txn_records.specs.declared.records.Record.TheVariants.{BatchComplete, ActPrepare}
use Rattle.txn_records.specs.declared.keys.Key.{Key}
use Rattle.log_set.specs.Told.{bid_of, tid_of, told, all_told}
use Rattle.recovery_laws.specs.Grown.{grown}
use Rattle.recovery_laws.proofs.KnownLogs.{all_at}
use Rattle.snap_recover.specs.Logs.{log_of, states_in, actors_in}
use Rattle.snap_recover.specs.Opening.{AreBegunWith, IsInRange}
use Rattle.snap_follow.specs.Followed.{HasCommit, Tells, TellsOf, IsLeftBy, IsAnother, ChangesAhead, IsFirstState, StandsAhead}
use Rattle.snap_follow.proofs.Changes.{tells_one, no_split, left_more}
use Rattle.followed_logs.specs.OnRecords.{key_of}
use Rattle.followed_logs.proofs.Written.{IsGenesisOf, OnlyGenesis, log_is, only_log, in_commit, commit_in, genesis_tells}

-- ---- a record

key_who : (z w : Who) → key_of z ≡ key_of w → is_who z w ≡ true
key_who (OfBatch k) (OfBatch j) e = let b : bid_of k ≡ bid_of j = cc e in eq-eqb k j (ap (λ z. z.0) b)
key_who (OfBatch k) (OfAct t) e = absurd (cc e)
key_who (OfAct t) (OfBatch k) e = absurd (cc e)
key_who (OfAct t) (OfAct u) e = let b : tid_of t ≡ tid_of u = cc e in eq-eqb t u (ap (λ z. z.0) b)

-- it tells a state of the actor, of this one
record OneTold (a : ℕ) (r : LogRecord) : Type 0 where
  who : Who
  state : State
  own : Tells a (key_of who) (told r)
  tells : states_in (told r) ≡ state ∷ []
  first : (rs : List LogRecord) → told_states a (r ∷ rs) ≡ record { who = who; state = state } ∷ told_states a rs

-- it tells none of it
record NoneTold (a : ℕ) (r : LogRecord) : Type 0 where
  none : (k : Key) → ¬ Tells a k (told r)
  rest : (rs : List LogRecord) → told_states a (r ∷ rs) ≡ told_states a rs

none_or_one : (a : ℕ) (r : LogRecord) → NoneTold a r ⊎ OneTold a r
none_or_one a (machine.BatchInfo k xs ts) = inl (record { none = λ j t. t; rest = λ rs. refl })
none_or_one a (machine.BatchDone k vs) = inl (record { none = λ j t. t; rest = λ rs. refl })
none_or_one a (machine.ActDone t m c v xs) = inl (record { none = λ j q. q; rest = λ rs. refl })
none_or_one a (machine.BatchComplete k b st) = by (b == a) refl
  where
    by : (v : Bool) → (b == a) ≡ v → NoneTold a (machine.BatchComplete k b st) ⊎ OneTold a (machine.BatchComplete k b st)
    by true e = inr (record {
      who = OfBatch k;
      state = st;
      own = (eqb-true b a e, refl);
      tells = refl;
      first = λ rs. ap (λ (v : Bool). if v then record { who = OfBatch k; state = st } ∷ told_states a rs else told_states a rs) e;
    })
    by false e = inl (record {
      none = λ j t. true≢false (sym (eq-eqb b a t.0) ∙ e);
      rest = λ rs. ap (λ (v : Bool). if v then record { who = OfBatch k; state = st } ∷ told_states a rs else told_states a rs) e;
    })
none_or_one a (machine.ActPrepare t b st) = by (b == a) refl
  where
    by : (v : Bool) → (b == a) ≡ v → NoneTold a (machine.ActPrepare t b st) ⊎ OneTold a (machine.ActPrepare t b st)
    by true e = inr (record {
      who = OfAct t;
      state = st;
      own = (eqb-true b a e, refl);
      tells = refl;
      first = λ rs. ap (λ (v : Bool). if v then record { who = OfAct t; state = st } ∷ told_states a rs else told_states a rs) e;
    })
    by false e = inl (record {
      none = λ j q. true≢false (sym (eq-eqb b a q.0) ∙ e);
      rest = λ rs. ap (λ (v : Bool). if v then record { who = OfAct t; state = st } ∷ told_states a rs else told_states a rs) e;
    })

-- ---- who is named

names_told : (a : ℕ) (y : Who) (rs : List LogRecord) (front : List Record) (own : Record) (behind : List Record) → all_told rs ≡ front ++ own ∷ behind → Tells a (key_of y) own → names y (told_states a rs) ≡ true
names_told a y [] front own behind e t = absurd (no_split front own behind e)
names_told a y (r ∷ rs) front own behind e t = by front e (none_or_one a r) (λ f q. names_told a y rs f own behind q t)
  where
    by : (f : List Record) → told r ∷ all_told rs ≡ f ++ own ∷ behind → NoneTold a r ⊎ OneTold a r → ((f : List Record) → all_told rs ≡ f ++ own ∷ behind → names y (told_states a rs) ≡ true) → names y (told_states a (r ∷ rs)) ≡ true
    by [] q (inl n) rest = let same : own ≡ told r = cc q in absurd (n.none (key_of y) (subst (Tells a (key_of y)) same t))
    by [] q (inr o) rest =
        let same : own ≡ told r = cc q in
        let one = tells_one a a (key_of y) (key_of o.who) (told r) (subst (Tells a (key_of y)) same t) o.own in
        ap (names y) (o.first rs) ∙ or_left (is_who y o.who) (names y (told_states a rs)) (key_who y o.who one.1)
    by (x ∷ f) q (inl n) rest = let more : all_told rs ≡ f ++ own ∷ behind = cc q in ap (names y) (n.rest rs) ∙ rest f more
    by (x ∷ f) q (inr o) rest =
        let more : all_told rs ≡ f ++ own ∷ behind = cc q in
        ap (names y) (o.first rs) ∙ or_right (is_who y o.who) (names y (told_states a rs)) (rest f more)

-- ---- who changes the actor ahead of another

module _ (C : Key → Type 0) (B : ℕ → State → Type 0) (counts : Who → Bool) (into : (w : Who) → counts w ≡ true → C (key_of w)) (out : (w : Who) → C (key_of w) → counts w ≡ true) where
  left_quiet : (a : ℕ) (before : List Record) (s : State) (r : Record) → ((k : Key) → ¬ Tells a k r) → IsLeftBy C B a before s → IsLeftBy C B a (before ++ r ∷ []) s
  left_quiet a before s r n l = (left_more C B a before r s).1 (inr ((λ p. n p.0 p.2), l))

  left_told : (a : ℕ) (before : List Record) (s st : State) (r : Record) (w : Who) → Tells a (key_of w) r → states_in r ≡ st ∷ [] → IsLeftBy C B a before s → IsLeftBy C B a (before ++ r ∷ []) (if counts w then st else s)
  left_told a before s st r w own tells l = by (counts w) refl
    where
      by : (v : Bool) → counts w ≡ v → IsLeftBy C B a (before ++ r ∷ []) (if v then st else s)
      by true e = (left_more C B a before r st).1 (inl (tells, (key_of w, into w e, own)))
      by false e = (left_more C B a before r s).1 (inr ((λ p. true≢false (sym (out w (subst C (tells_one a a p.0 (key_of w) r p.2 own).1 p.1)) ∙ e)), l))

  changed_told : (a : ℕ) (z y : Who) (rs : List LogRecord) (before : List Record) (s : State) (front : List Record) (own : Record) (middle : List Record) (last : Record) (behind : List Record)
      → IsLeftBy C B a before s → all_told rs ≡ front ++ own ∷ (middle ++ last ∷ behind) → Tells a (key_of z) own → IsAnother C B a (before ++ front) own → Tells a (key_of y) last → ChangedAhead counts s z y (told_states a rs)
  changed_told a z y [] before s front own middle last behind l e t n u = absurd (no_split front own (middle ++ last ∷ behind) e)
  changed_told a z y (r ∷ rs) before s front own middle last behind l e t n u = by front e n (none_or_one a r) (λ t' s' f k q m. changed_told a z y rs t' s' f own middle last behind k q t m u)
    where
      by : (f : List Record) → told r ∷ all_told rs ≡ f ++ own ∷ (middle ++ last ∷ behind) → IsAnother C B a (before ++ f) own → NoneTold a r ⊎ OneTold a r
          → ((b : List Record) (v : State) (f : List Record) → IsLeftBy C B a b v → all_told rs ≡ f ++ own ∷ (middle ++ last ∷ behind) → IsAnother C B a (b ++ f) own → ChangedAhead counts v z y (told_states a rs)) → ChangedAhead counts s z y (told_states a (r ∷ rs))
      by [] q m (inl o) rest = let same : own ≡ told r = cc q in absurd (o.none (key_of z) (subst (Tells a (key_of z)) same t))
      by [] q m (inr o) rest =
          let same : own ≡ told r = cc q in
          let more : all_told rs ≡ middle ++ last ∷ behind = cc q in
          let one = tells_one a a (key_of z) (key_of o.who) (told r) (subst (Tells a (key_of z)) same t) o.own in
          subst (ChangedAhead counts s z y) (sym (o.first rs)) (inl (
            key_who z o.who one.1,
            (λ i. m s (subst (λ b. IsLeftBy C B a b s) (sym (append-nil before)) l) (ap states_in same ∙ (o.tells ∙ ap (λ w. w ∷ []) i))),
            names_told a y rs middle last behind more u,
          ))
      by (x ∷ f) q m (inl o) rest =
          let same : x ≡ told r = cc q in
          let more : all_told rs ≡ f ++ own ∷ (middle ++ last ∷ behind) = cc q in
          subst (ChangedAhead counts s z y) (sym (o.rest rs)) (rest (before ++ told r ∷ []) s f (left_quiet a before s (told r) o.none l) more
          (subst (λ b. IsAnother C B a b own) (ap (λ v. before ++ v ∷ f) same ∙ sym (join_assoc before (told r ∷ []) f)) m))
      by (x ∷ f) q m (inr o) rest =
          let same : x ≡ told r = cc q in
          let more : all_told rs ≡ f ++ own ∷ (middle ++ last ∷ behind) = cc q in
          subst (ChangedAhead counts s z y) (sym (o.first rs)) (inr (
          rest (before ++ told r ∷ []) (if counts o.who then o.state else s) f (left_told a before s o.state (told r) o.who o.own o.tells l) more
          (subst (λ b. IsAnother C B a b own) (ap (λ v. before ++ v ∷ f) same ∙ sym (join_assoc before (told r ∷ []) f)) m)
          ))

-- ---- behind the records in front

-- the record stands behind those in front
record StandsBehind (gs rs front : List Record) (own : Record) (rest : List Record) : Type 0 where
  more : List Record
  longer : front ≡ gs ++ more
  splits : rs ≡ more ++ own ∷ rest

stands_behind : (a : ℕ) (k : Key) (first : List State) (gs rs front : List Record) (own : Record) (rest : List Record) → AllByRecursion (IsGenesisOf first) gs → gs ++ rs ≡ front ++ own ∷ rest → Tells a k own → StandsBehind gs rs front own rest
stands_behind a k first [] rs front own rest g e t = record { more = front; longer = refl; splits = e }
stands_behind a k first (r ∷ gs) rs [] own rest g e t = let same : own ≡ r = cc e in absurd (genesis_tells first a k r g.0 (subst (Tells a k) same t))
stands_behind a k first (r ∷ gs) rs (x ∷ front) own rest g e t =
    let same : x ≡ r = cc e in
    let more : gs ++ rs ≡ front ++ own ∷ rest = cc e in
    let s = stands_behind a k first gs rs front own rest g.1 more t in
    record { more = s.more; longer = ap (λ v. v ∷ front) same ∙ ap (λ v. r ∷ v) s.longer; splits = s.splits }

quiet_genesis : (C : Key → Type 0) (a : ℕ) (first : List State) (gs : List Record) → AllByRecursion (IsGenesisOf first) gs → AllByRecursion (λ r. ¬ TellsOf C a r) gs
quiet_genesis C a first [] g = tt
quiet_genesis C a first (r ∷ gs) g = ((λ p. genesis_tells first a p.0 r g.0 p.2), quiet_genesis C a first gs g.1)

there_is : (first : List State) (a : ℕ) → a < length first → slice_get first a ≡ Some (state_in first a)
there_is [] a l = absurd (omega (arith, l))
there_is (x ∷ xs) zero l = refl
there_is (x ∷ xs) (suc a) l = there_is xs a (omega (arith, l))

-- a record in range tells a state of an actor that is there
actor_there : (a n : ℕ) (k : Key) (r : Record) → Tells a k r → AllByRecursion (λ x. x < n) (actors_in r) → a < n
actor_there a n k (BatchComplete bid actor state) t h = subst (λ x. x < n) t.0 h.0
actor_there a n k (ActPrepare tid actor state) t h = subst (λ x. x < n) t.0 h.0
actor_there a n k r t h = absurd t

-- Where the lists are begun with these states.
pub written_ahead : (many : ℕ) (first : List State) (begun : List (List Record)) (logs : ℕ → List LogRecord) (z y : Who) → 1 ≤ many → OnlyGenesis many first begun → AreBegunWith (grown begun logs) first
    → StandsAhead (grown begun logs) (key_of z) (key_of y) → follow.StandsAhead many (state_in first) logs z y
written_ahead many first begun logs z y some g b s = (s.0, found)
  where
    a : ℕ
    a = s.0

    rs : List LogRecord
    rs = logs (a % many)

    ahead : ChangesAhead (HasCommit (grown begun logs)) (IsFirstState (grown begun logs)) a (key_of z) (key_of y) (log_of begun a ++ all_told rs)
    ahead = subst (ChangesAhead (HasCommit (grown begun logs)) (IsFirstState (grown begun logs)) a (key_of z) (key_of y)) (log_is many first begun logs a some g) s.1

    only : AllByRecursion (IsGenesisOf first) (log_of begun a)
    only = only_log many first begun a g

    there : a < length first
    there = actor_there a (length first) (key_of y) s.1.own s.1.is_own
        (all_mid (IsInRange (length first)) s.1.own s.1.front s.1.behind
        (subst (AllByRecursion (IsInRange (length first))) s.1.splits (all_at (IsInRange (length first)) (grown begun logs) (a % length (grown begun logs)) b.range))).actors_below

    joined : log_of begun a ++ all_told rs ≡ ahead.ahead.front ++ ahead.ahead.own ∷ (ahead.ahead.behind ++ ahead.own ∷ ahead.behind)
    joined = ahead.splits ∙ (ap (λ v. v ++ ahead.own ∷ ahead.behind) ahead.ahead.splits ∙ join_assoc ahead.ahead.front (ahead.ahead.own ∷ ahead.ahead.behind) (ahead.own ∷ ahead.behind))

    change : StandsBehind (log_of begun a) (all_told rs) ahead.ahead.front ahead.ahead.own (ahead.ahead.behind ++ ahead.own ∷ ahead.behind)
    change = stands_behind a (key_of z) first (log_of begun a) (all_told rs) ahead.ahead.front ahead.ahead.own (ahead.ahead.behind ++ ahead.own ∷ ahead.behind) only joined ahead.ahead.is_own

    found : ChangedAhead (is_in many logs) (state_in first a) z y (told_states a rs)
    found =
        changed_told (HasCommit (grown begun logs)) (IsFirstState (grown begun logs)) (is_in many logs) (λ w i. in_commit many first begun logs w some g i) (λ w h. commit_in many first begun logs w some g h)
        a z y rs (log_of begun a) (state_in first a) change.more ahead.ahead.own ahead.ahead.behind ahead.own ahead.behind
        (inr (quiet_genesis (HasCommit (grown begun logs)) a first (log_of begun a) only, (first, b, there_is first a there)))
        change.splits ahead.ahead.is_own
        (subst (λ v. IsAnother (HasCommit (grown begun logs)) (IsFirstState (grown begun logs)) a v ahead.ahead.own) change.longer ahead.ahead.another) ahead.is_own
