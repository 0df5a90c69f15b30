-- There is a set that a round takes: of those that were taken or read, those that rest on others are left out again and again.
use Rattle.std.proofs.Common.{◌≡◌, ℕ, zero, suc, ◌<◌, ◌≤◌, ◌%◌, ◌⊎◌, inl, inr, List, [], ◌∷◌, ◌++◌, length, map, refl, sym, ap, subst, ◌∙◌, arith}
use Rattle.std.specs.Prelude.{slice_index_or}
use Rattle.std.specs.List.{AllByRecursion, Contains, flat_map}
use Rattle.std.proofs.lemmas.List.{append-nil}
use Rattle.txn_records.specs.declared.records.Record.{Record}
use Rattle.txn_records.specs.declared.records.Record.TheVariants.{Genesis, BatchInfo, BatchComplete, BatchCommit, ActPrepare, ActCommit, BatchDone, ActDone, Checkpoint}
use Rattle.txn_records.specs.declared.keys.Key.{Key}
use Rattle.txn_records.specs.declared.keys.Key.TheVariants as keys
use Rattle.txn_records.specs.Records.{key}
use Rattle.snap_recover.specs.Logs.{all_of, log_of, actors_in}
use Rattle.snap_recover.proofs.Lists.{all_contains, contains_append, contains_cases, contains_here, contains_none, contains_left, contains_right, contains_middle, contains_map, contains_unmap}
use Rattle.snap_follow.specs.Followed.{HasCommit, Tells, IsAnother, IsFirstState, StandsAhead, MayTake}
use Rattle.snap_follow.specs.Laws.{OneTaking, SomeTaking}
use Rattle.snap_follow.proofs.Changes.{tells_one}
use Rattle.snap_follow.proofs.Deciding.{Decided, among, has_commit, tells, all_decided, those, those_are, are_those, all_or_fewer}
use Rattle.snap_follow.proofs.Decisions.{Found, told_by, another_now}

-- ---- at each place of a list

join_one : {X : Type 0} (xs : List X) (y : X) (ys : List X) → (xs ++ y ∷ []) ++ ys ≡ xs ++ y ∷ ys
join_one [] y ys = refl
join_one (x ∷ xs) y ys = ap (λ z. x ∷ z) (join_one xs y ys)

-- it holds of what stands before each record, and of the record
pub AtEach : (List Record → Record → Type 0) → List Record → List Record → Type 0
AtEach P before [] = Unit {0}
AtEach P before (r ∷ rs) = P before r × AtEach P (before ++ r ∷ []) rs

at_each : (P : List Record → Record → Type 0) → ((front : List Record) (r : Record) → Decided (P front r)) → (before rs : List Record) → Decided (AtEach P before rs)
unfolding AtEach
at_each P d before [] = inl tt
at_each P d before (r ∷ rs) = by (d before r) (at_each P d (before ++ r ∷ []) rs)
  where
    by : Decided (P before r) → Decided (AtEach P (before ++ r ∷ []) rs) → Decided (P before r × AtEach P (before ++ r ∷ []) rs)
    by (inl p) (inl h) = inl (p, h)
    by (inr p) h = inr (λ q. p q.0)
    by (inl p) (inr h) = inr (λ q. h q.1)

at_split : (P : List Record → Record → Type 0) (before rs front : List Record) (own : Record) (rest : List Record) → AtEach P before rs → rs ≡ front ++ own ∷ rest → P (before ++ front) own
unfolding AtEach
at_split P before [] [] own rest f e = absurd (cc e)
at_split P before [] (x ∷ front) own rest f e = absurd (cc e)
at_split P before (r ∷ rs) [] own rest f e = let i : r ≡ own = cc e in subst (λ z. P z own) (sym (append-nil before)) (subst (P before) i f.0)
at_split P before (r ∷ rs) (x ∷ front) own rest f e =
    let i : r ≡ x = cc e in
    let tail : rs ≡ front ++ own ∷ rest = cc e in
    subst (λ z. P (before ++ z ∷ front) own) i (subst (λ z. P z own) (join_one before r front) (at_split P (before ++ r ∷ []) rs front own rest f.1 tail))

from_splits : (P : List Record → Record → Type 0) (before rs : List Record) → ((front : List Record) (own : Record) (rest : List Record) → rs ≡ front ++ own ∷ rest → P (before ++ front) own) → AtEach P before rs
unfolding AtEach
from_splits P before [] h = tt
from_splits P before (r ∷ rs) h = (
  subst (λ z. P z r) (append-nil before) (h [] r rs refl),
  from_splits P (before ++ r ∷ []) rs (λ front own rest e. subst (λ z. P z own) (sym (join_one before r front)) (h (r ∷ front) own rest (ap (λ z. r ∷ z) e))),
)

-- ---- what one rests on, along a list

-- the record, where it changes the actor and its commit is there, is one of these
abbrev pub IsOf : List (List Record) → List Key → ℕ → List Record → Record → Type 0
IsOf now ks a front r = (j : Key) → Tells a j r → HasCommit now j → IsAnother (HasCommit now) (IsFirstState now) a front r → Contains ks j

is_of : (now : List (List Record)) (ks : List Key) (a : ℕ) (front : List Record) (r : Record) → Decided (IsOf now ks a front r)
is_of now ks a front r = by (told_by a r)
  where
    at : (k : Key) → Tells a k r → Decided (HasCommit now k) → Decided (IsAnother (HasCommit now) (IsFirstState now) a front r) → Decided (Contains ks k) → Decided (IsOf now ks a front r)
    at k t c n (inl m) = inl (λ j h i o. subst (Contains ks) (tells_one a a k j r t h).1 m)
    at k t (inr c) n (inr m) = inl (λ j h i o. absurd (c (subst (HasCommit now) (sym (tells_one a a k j r t h).1) i)))
    at k t (inl c) (inr n) (inr m) = inl (λ j h i o. absurd (n o))
    at k t (inl c) (inl n) (inr m) = inr (λ q. m (q k t c n))

    by : Found (λ (k : Key). Tells a k r) → Decided (IsOf now ks a front r)
    by (inl (k, t)) = at k t (has_commit now k) (another_now now a front r) (among ks k)
    by (inr none) = inl (λ j h i o. absurd (none j h))

-- ahead of each of its records
pub Fine : List (List Record) → List Key → ℕ → Key → List Record → Record → Type 0
Fine now ks a k front r = Tells a k r → AtEach (IsOf now ks a) [] front

fine : (now : List (List Record)) (ks : List Key) (a : ℕ) (k : Key) (front : List Record) (r : Record) → Decided (Fine now ks a k front r)
unfolding Fine
fine now ks a k front r = by (tells a k r) (at_each (IsOf now ks a) (is_of now ks a) [] front)
  where
    by : Decided (Tells a k r) → Decided (AtEach (IsOf now ks a) [] front) → Decided (Tells a k r → AtEach (IsOf now ks a) [] front)
    by (inr t) f = inl (λ q. absurd (t q))
    by (inl t) (inl f) = inl (λ q. f)
    by (inl t) (inr f) = inr (λ q. f (q t))

-- ---- over all actors that occur

abbrev pub actors_of : List (List Record) → List ℕ
actors_of now = flat_map actors_in (all_of now)

pub Rests : List (List Record) → List Key → Key → Type 0
Rests now ks k = AllByRecursion (λ a. AtEach (Fine now ks a k) [] (log_of now a)) (actors_of now)

rests : (now : List (List Record)) (ks : List Key) (k : Key) → Decided (Rests now ks k)
unfolding Rests
rests now ks k = all_decided (λ a. AtEach (Fine now ks a k) [] (log_of now a)) (actors_of now) (λ a. at_each (Fine now ks a k) (fine now ks a k) [] (log_of now a))

flat_left : {X Y : Type 0} (f : X → List Y) (xs : List X) (x : X) (y : Y) → Contains xs x → Contains (f x) y → Contains (flat_map f xs) y
flat_left f [] x y h g = absurd (contains_none x h)
flat_left f (z ∷ xs) x y h g = elim (contains_cases z x xs h) [
  | inl e ↦ contains_left (f z) (flat_map f xs) y (subst (λ u. Contains (f u) y) (sym e) g)
  | inr i ↦ contains_right (f z) (flat_map f xs) y (flat_left f xs x y i g)
]

of_some : (logs : List (List Record)) (n : ℕ) (r : Record) → Contains (slice_index_or logs n []) r → Contains (all_of logs) r
of_some [] n r h = absurd (contains_none r h)
of_some (rs ∷ rss) zero r h = contains_left rs (all_of rss) r h
of_some (rs ∷ rss) (suc n) r h = contains_right rs (all_of rss) r (of_some rss n r h)

pub in_all : (logs : List (List Record)) (n : ℕ) (r : Record) → Contains (log_of logs n) r → Contains (all_of logs) r
in_all logs n r h = of_some logs (n % length logs) r h

told_actor : (a : ℕ) (k : Key) (r : Record) → Tells a k r → Contains (actors_in r) a
told_actor a k (Genesis count states) h = absurd h
told_actor a k (BatchInfo bid actors tids) h = absurd h
told_actor a k (BatchComplete bid actor state) h = subst (λ z. Contains (actor.0 ∷ []) z) h.0 (contains_here actor.0 [])
told_actor a k (BatchCommit bid) h = absurd h
told_actor a k (ActPrepare tid actor state) h = subst (λ z. Contains (actor.0 ∷ []) z) h.0 (contains_here actor.0 [])
told_actor a k (ActCommit tid m c actors) h = absurd h
told_actor a k (BatchDone bid values) h = absurd h
told_actor a k (ActDone tid m c value actors) h = absurd h
told_actor a k (Checkpoint generation next_tid next_bid next_c batches acts states) h = absurd h

rests_are : (now : List (List Record)) (ks : List Key) (k j : Key) → Rests now ks k → StandsAhead now j k → HasCommit now j → Contains ks j
unfolding Rests Fine
rests_are now ks k j h (a, s) c =
    let own : Contains (log_of now a) s.own = subst (λ z. Contains z s.own) (sym s.splits) (contains_middle s.front s.own s.behind) in
    let named : Contains (actors_of now) a = flat_left actors_in (all_of now) s.own a (in_all now a s.own own) (told_actor a k s.own s.is_own) in
    let here = all_contains (λ b. AtEach (Fine now ks b k) [] (log_of now b)) (actors_of now) a h named in
    let ahead : AtEach (IsOf now ks a) [] s.front = at_split (Fine now ks a k) [] (log_of now a) s.front s.own s.behind here s.splits s.is_own in
    at_split (IsOf now ks a) [] s.front s.ahead.front s.ahead.own s.ahead.behind ahead s.ahead.splits j s.ahead.is_own c s.ahead.another

are_rests : (now : List (List Record)) (ks : List Key) (k : Key) → ((j : Key) → StandsAhead now j k → HasCommit now j → Contains ks j) → Rests now ks k
unfolding Rests Fine
are_rests now ks k h = each (actors_of now)
  where
    at : (a : ℕ) (front : List Record) (own : Record) (rest : List Record) → log_of now a ≡ front ++ own ∷ rest → Fine now ks a k front own
    at a front own rest e t = from_splits (IsOf now ks a) [] front (λ before r behind f j q c n. h j (
      a,
      record {
        front = front;
        own = own;
        behind = rest;
        splits = e;
        is_own = t;
        ahead = record { front = before; own = r; behind = behind; splits = f; is_own = q; another = n };
      },
    ) c)

    each : (ns : List ℕ) → AllByRecursion (λ a. AtEach (Fine now ks a k) [] (log_of now a)) ns
    each [] = tt
    each (a ∷ ns) = (from_splits (Fine now ks a k) [] (log_of now a) (at a), each ns)

-- ---- left out again and again

abbrev pub Stays : List Key → List (List Record) → List Key → Key → Type 0
Stays taken now ks k = Contains taken k ⊎ Rests now ks k

stays : (taken : List Key) (now : List (List Record)) (ks : List Key) (k : Key) → Decided (Stays taken now ks k)
stays taken now ks k = by (among taken k) (rests now ks k)
  where
    by : Decided (Contains taken k) → Decided (Rests now ks k) → Decided (Stays taken now ks k)
    by (inl t) r = inl (inl t)
    by (inr t) (inl r) = inl (inr r)
    by (inr t) (inr r) = inr (λ q. elim q [ inl i ↦ t i | inr i ↦ r i ])

once : List Key → List (List Record) → List Key → List Key
once taken now ks = those (Stays taken now ks) (stays taken now ks) ks

settle : List Key → List (List Record) → ℕ → List Key → List Key
settle taken now zero ks = ks
settle taken now (suc n) ks = settle taken now n (once taken now ks)

Settled : List Key → List (List Record) → List Key → Type 0
Settled taken now ks = AllByRecursion (Stays taken now ks) ks

settled_stays : (taken : List Key) (now : List (List Record)) (n : ℕ) (ks : List Key) → once taken now ks ≡ ks → settle taken now n ks ≡ ks
unfolding settle
settled_stays taken now zero ks e = refl
settled_stays taken now (suc n) ks e = ap (settle taken now n) e ∙ settled_stays taken now n ks e

settled : (taken : List Key) (now : List (List Record)) (n : ℕ) (ks : List Key) → length ks ≤ n → Settled taken now (settle taken now n ks)
unfolding settle Settled once
settled taken now zero [] l = tt
settled taken now zero (k ∷ ks) l = absurd (omega (arith, l))
settled taken now (suc n) ks l = by (all_or_fewer (Stays taken now ks) (stays taken now ks) ks) (λ m. settled taken now n (once taken now ks) m)
  where
    by : (AllByRecursion (Stays taken now ks) ks × (those (Stays taken now ks) (stays taken now ks) ks ≡ ks)) ⊎ (length (those (Stays taken now ks) (stays taken now ks) ks) < length ks)
        → (length (once taken now ks) ≤ n → Settled taken now (settle taken now n (once taken now ks))) → Settled taken now (settle taken now n (once taken now ks))
    by (inl h) r = subst (λ z. AllByRecursion (Stays taken now z) z) (sym (ap (settle taken now n) h.1 ∙ settled_stays taken now n ks h.1)) h.0
    by (inr h) r = r (omega (arith, h, l))

of_them : (taken : List Key) (now : List (List Record)) (n : ℕ) (ks : List Key) (k : Key) → Contains (settle taken now n ks) k → Contains ks k
unfolding settle once
of_them taken now zero ks k h = h
of_them taken now (suc n) ks k h = (those_are (Stays taken now ks) (stays taken now ks) ks k (of_them taken now n (once taken now ks) k h)).0

taken_stay : (taken : List Key) (now : List (List Record)) (n : ℕ) (ks : List Key) (k : Key) → Contains taken k → Contains ks k → Contains (settle taken now n ks) k
unfolding settle once
taken_stay taken now zero ks k t h = h
taken_stay taken now (suc n) ks k t h = taken_stay taken now n (once taken now ks) k t (are_those (Stays taken now ks) (stays taken now ks) ks k h (inl t))

others_stay : (taken : List Key) (before now : List (List Record)) (others : List Key) (n : ℕ) (ks : List Key) → MayTake taken before now others → ((k : Key) → Contains others k → Contains ks k) → (k : Key) → Contains others k → Contains (settle taken now n ks) k
unfolding settle once
others_stay taken before now others zero ks m s k h = s k h
others_stay taken before now others (suc n) ks m s k h = others_stay taken before now others n (once taken now ks) m (λ k h. are_those (Stays taken now ks) (stays taken now ks) ks k (s k h) (by k h (among taken k))) k h
  where
    by : (k : Key) → Contains others k → Decided (Contains taken k) → Stays taken now ks k
    by k h (inl t) = inl t
    by k h (inr t) = inr (are_rests now ks k (λ j a c. s j (m.rest_on k j h t a c)))

-- ---- from all that were taken or read

start : List Key → List (List Record) → List Key
start taken before = taken ++ those (HasCommit before) (has_commit before) (map key (all_of before))

pub read_key : (before : List (List Record)) (k : Key) → HasCommit before k → Contains (map key (all_of before)) k
read_key before keys.Genesis h = absurd h
read_key before (keys.Info bid) h = absurd h
read_key before (keys.Complete bid actor) h = absurd h
read_key before (keys.Commit bid) h = let r = contains_unmap key (log_of before bid.0) (keys.Commit bid) h in subst (Contains (map key (all_of before))) r.2 (contains_map key (all_of before) r.0 (in_all before bid.0 r.0 r.1))
read_key before (keys.Prepare tid actor) h = absurd h
read_key before keys.Checkpoint h = absurd h
read_key before (keys.Act tid) h = let r = contains_unmap key (log_of before tid.0) (keys.Act tid) h in subst (Contains (map key (all_of before))) r.2 (contains_map key (all_of before) r.0 (in_all before tid.0 r.0 r.1))

pub some_taking : SomeTaking
unfolding start Settled
some_taking taken before now = (members, record { may = may; greatest = greatest })
  where
    first : List Key
    first = start taken before

    members : List Key
    members = settle taken now (length (start taken before)) (start taken before)

    all : Settled taken now (settle taken now (length (start taken before)) (start taken before))
    all = settled taken now (length (start taken before)) (start taken before) (omega arith)

    may : MayTake taken before now (settle taken now (length (start taken before)) (start taken before))
    may = record {
      stay = λ k t. taken_stay taken now (length (start taken before)) (start taken before) k t (contains_left taken _ k t);
      seen = λ k m t. elim (contains_append taken _ k (of_them taken now (length (start taken before)) (start taken before) k m)) [ inl i ↦ absurd (t i) | inr i ↦ (those_are (HasCommit before) (has_commit before) (map key (all_of before)) k i).1 ];
      rest_on = λ k j m t a c. elim (all_contains (Stays taken now members) members k all m) [ inl i ↦ absurd (t i) | inr r ↦ rests_are now members k j r a c ];
    }

    greatest : (others : List Key) → MayTake taken before now others → (k : Key) → Contains others k → Contains (settle taken now (length (start taken before)) (start taken before)) k
    greatest others m = others_stay taken before now others (length (start taken before)) (start taken before) m
        (λ k h. elim (among taken k) [ inl t ↦ contains_left taken _ k t | inr t ↦ let c = m.seen k h t in contains_right taken _ k (are_those (HasCommit before) (has_commit before) (map key (all_of before)) k (read_key before k c) c) ])

pub one_taking : OneTaking
one_taking taken before now xs ys x y k = ((λ h. y.greatest xs x.may k h), (λ h. x.greatest ys y.may k h))
