-- Sets of commits.
use Rattle.std.proofs.Common.{◌≡◌, ◌≢◌, ℕ, zero, suc, ◌+◌, ◌%◌, ◌<◌, ◌≤◌, ◌⊎◌, inl, inr, Bool, true, false, cond, IsTrue, ◌↔◌, List, [], ◌∷◌, ◌++◌, length, map, take, get_or, refl, sym, ap, subst, ◌∙◌, arith}
use Rattle.std.proofs.lemmas.Bool.{cases_Bool, true≢false}
use Rattle.std.proofs.lemmas.List.{map-append, take_all}
use Rattle.std.specs.Prelude.{Contains, if◌then◌else◌}
use Rattle.std.specs.Ordering.{nat_cmp}
use Rattle.std.specs.BTreeSet as bag
use Rattle.std.specs.BTreeSet.{BTreeSet}
use Rattle.std.specs.BTreeMap.{is_at}
use Rattle.snap_base.specs.declared.ids.Bid.{Bid}
use Rattle.snap_base.specs.declared.ids.Tid.{Tid}
use Rattle.txn_records.specs.declared.records.Record.{Record}
use Rattle.txn_records.specs.declared.keys.Key.{Key}
use Rattle.txn_records.specs.declared.keys.Key.TheVariants as keys
use Rattle.txn_records.specs.Records.{key}
use Rattle.snap_recover.specs.declared.openings.Kept.{Kept}
use Rattle.snap_recover.specs.Logs.{log_of, HasKey}
use Rattle.snap_recover.specs.Opening.{commit_of}
use Rattle.snap_recover.specs.Passes.{AddsKeyed}
use Rattle.snap_recover.proofs.Homes.{adds_quiet, has_more, has_last}
use Rattle.snap_recover.proofs.Lists.{contains_none, contains_cases, contains_here, contains_append, contains_left, contains_right}
use Rattle.snap_recover.proofs.OneOpening.{same_bid, same_tid}
use Rattle.snap_recover.proofs.Steps.{taken}
use Rattle.snap_follow.proofs.NumberSets.{inserts, at_true, at_same, empty_set}
use Rattle.snap_follow.specs.declared.commits.Commits.{Commits}
use Rattle.snap_follow.specs.Passes.{In, AddsCommit, Removes, IsInSet, IsOfCommit, size, IsHome, AddsBatches, AddsActs, HasAllCommits, HasMembers}

-- ---- what a set has

in_or_not : (set : BTreeSet ℕ) (n : ℕ) → In set n ⊎ (In set n → ⊥)
in_or_not set n = elim (cases_Bool (bag.contains nat_cmp set n)) [ inl e ↦ inl e | inr e ↦ inr (λ h. true≢false (sym h ∙ e)) ]

pub named_or_not : (set : Commits) (k : Key) → IsInSet set k ⊎ (IsInSet set k → ⊥)
named_or_not set keys.Genesis = inr (λ h. h)
named_or_not set (keys.Info bid) = inr (λ h. h)
named_or_not set (keys.Complete bid actor) = inr (λ h. h)
named_or_not set (keys.Commit bid) = in_or_not set.batches bid.0
named_or_not set (keys.Prepare tid actor) = inr (λ h. h)
named_or_not set (keys.Act tid) = in_or_not set.acts tid.0
named_or_not set keys.Checkpoint = inr (λ h. h)

pub none_named : (set : Commits) → set.batches.keys ≡ [] → set.acts.keys ≡ [] → (k : Key) → ¬ IsInSet set k
none_named set e f keys.Genesis h = h
none_named set e f (keys.Info bid) h = h
none_named set e f (keys.Complete bid actor) h = h
none_named set e f (keys.Commit bid) h = empty_set set.batches e bid.0 h
none_named set e f (keys.Prepare tid actor) h = h
none_named set e f (keys.Act tid) h = empty_set set.acts f tid.0 h
none_named set e f keys.Checkpoint h = h

-- ---- a commit is added

pub batch_added : (bid : Bid) (old new : Commits) → bag.Updates nat_cmp old.batches new.batches bid.0 true → new.acts ≡ old.acts → AddsCommit (keys.Commit bid) old new
batch_added bid old new u e keys.Genesis = ((λ h. absurd h), λ h. elim h [ inl o ↦ o | inr q ↦ absurd (cc q) ])
batch_added bid old new u e (keys.Info b) = ((λ h. absurd h), λ h. elim h [ inl o ↦ o | inr q ↦ absurd (cc q) ])
batch_added bid old new u e (keys.Complete b a) = ((λ h. absurd h), λ h. elim h [ inl o ↦ o | inr q ↦ absurd (cc q) ])
batch_added bid old new u e (keys.Commit b) =
    let i = inserts bid.0 old.batches new.batches u b.0 in (
      λ h. elim (i.0 h) [ inl o ↦ inl o | inr q ↦ inr (ap (λ (z : Bid). keys.Commit z) (same_bid bid b q)) ],
      λ h. elim h [ inl o ↦ i.1 (inl o) | inr q ↦ let same : bid ≡ b = cc q in i.1 (inr (ap (λ (z : Bid). z.0) same)) ],
    )
batch_added bid old new u e (keys.Prepare t a) = ((λ h. absurd h), λ h. elim h [ inl o ↦ o | inr q ↦ absurd (cc q) ])
batch_added bid old new u e (keys.Act t) = (
  (λ h. inl (subst (λ (z : BTreeSet ℕ). In z t.0) e h)),
  λ h. elim h [ inl o ↦ subst (λ (z : BTreeSet ℕ). In z t.0) (sym e) o | inr q ↦ absurd (cc q) ],
)
batch_added bid old new u e keys.Checkpoint = ((λ h. absurd h), λ h. elim h [ inl o ↦ o | inr q ↦ absurd (cc q) ])

pub act_added : (tid : Tid) (old new : Commits) → bag.Updates nat_cmp old.acts new.acts tid.0 true → new.batches ≡ old.batches → AddsCommit (keys.Act tid) old new
act_added tid old new u e keys.Genesis = ((λ h. absurd h), λ h. elim h [ inl o ↦ o | inr q ↦ absurd (cc q) ])
act_added tid old new u e (keys.Info b) = ((λ h. absurd h), λ h. elim h [ inl o ↦ o | inr q ↦ absurd (cc q) ])
act_added tid old new u e (keys.Complete b a) = ((λ h. absurd h), λ h. elim h [ inl o ↦ o | inr q ↦ absurd (cc q) ])
act_added tid old new u e (keys.Commit b) = (
  (λ h. inl (subst (λ (z : BTreeSet ℕ). In z b.0) e h)),
  λ h. elim h [ inl o ↦ subst (λ (z : BTreeSet ℕ). In z b.0) (sym e) o | inr q ↦ absurd (cc q) ],
)
act_added tid old new u e (keys.Prepare t a) = ((λ h. absurd h), λ h. elim h [ inl o ↦ o | inr q ↦ absurd (cc q) ])
act_added tid old new u e (keys.Act t) =
    let i = inserts tid.0 old.acts new.acts u t.0 in (
      λ h. elim (i.0 h) [ inl o ↦ inl o | inr q ↦ inr (ap (λ (z : Tid). keys.Act z) (same_tid tid t q)) ],
      λ h. elim h [ inl o ↦ i.1 (inl o) | inr q ↦ let same : tid ≡ t = cc q in i.1 (inr (ap (λ (z : Tid). z.0) same)) ],
    )
act_added tid old new u e keys.Checkpoint = ((λ h. absurd h), λ h. elim h [ inl o ↦ o | inr q ↦ absurd (cc q) ])

-- ---- and taken out

abbrev pub TakesOut : Key → Commits → Commits → Type 0
TakesOut k old new = (j : Key) → IsInSet new j ↔ (IsInSet old j × (k ≢ j))

gone : (b t r : Bool) → r ≡ cond b false t → IsTrue r ↔ (IsTrue t × (b ≡ true → ⊥))
gone true t r e = ((λ h. absurd (true≢false (sym h ∙ e))), λ h. absurd (h.1 refl))
gone false t r e = ((λ h. (subst IsTrue e h, λ q. true≢false (sym q))), λ h. subst IsTrue (sym e) h.0)

removes : (n : ℕ) (old new : BTreeSet ℕ) → bag.Updates nat_cmp old new n false → (m : ℕ) → In new m ↔ (In old m × (n ≢ m))
removes n old new u m =
    let g = gone (is_at (nat_cmp n) m) (bag.contains nat_cmp old m) (bag.contains nat_cmp new m) (u.0 m) in (
      λ h. ((g.0 h).0, λ e. (g.0 h).1 (subst (λ (z : ℕ). is_at (nat_cmp n) z ≡ true) e (at_same n))),
      λ h. g.1 (h.0, λ e. h.1 (at_true n m e)),
    )

pub batch_removed : (bid : Bid) (old new : Commits) → bag.Updates nat_cmp old.batches new.batches bid.0 false → new.acts ≡ old.acts → TakesOut (keys.Commit bid) old new
batch_removed bid old new u e keys.Genesis = ((λ h. absurd h), λ h. absurd h.0)
batch_removed bid old new u e (keys.Info b) = ((λ h. absurd h), λ h. absurd h.0)
batch_removed bid old new u e (keys.Complete b a) = ((λ h. absurd h), λ h. absurd h.0)
batch_removed bid old new u e (keys.Commit b) =
    let r = removes bid.0 old.batches new.batches u b.0 in (
      λ h. ((r.0 h).0, λ q. (r.0 h).1 (let same : bid ≡ b = cc q in ap (λ (z : Bid). z.0) same)),
      λ h. r.1 (h.0, λ q. h.1 (ap (λ (z : Bid). keys.Commit z) (same_bid bid b q))),
    )
batch_removed bid old new u e (keys.Prepare t a) = ((λ h. absurd h), λ h. absurd h.0)
batch_removed bid old new u e (keys.Act t) = (
  (λ h. (subst (λ (z : BTreeSet ℕ). In z t.0) e h, λ q. absurd (cc q))),
  λ h. subst (λ (z : BTreeSet ℕ). In z t.0) (sym e) h.0,
)
batch_removed bid old new u e keys.Checkpoint = ((λ h. absurd h), λ h. absurd h.0)

pub act_removed : (tid : Tid) (old new : Commits) → bag.Updates nat_cmp old.acts new.acts tid.0 false → new.batches ≡ old.batches → TakesOut (keys.Act tid) old new
act_removed tid old new u e keys.Genesis = ((λ h. absurd h), λ h. absurd h.0)
act_removed tid old new u e (keys.Info b) = ((λ h. absurd h), λ h. absurd h.0)
act_removed tid old new u e (keys.Complete b a) = ((λ h. absurd h), λ h. absurd h.0)
act_removed tid old new u e (keys.Commit b) = (
  (λ h. (subst (λ (z : BTreeSet ℕ). In z b.0) e h, λ q. absurd (cc q))),
  λ h. subst (λ (z : BTreeSet ℕ). In z b.0) (sym e) h.0,
)
act_removed tid old new u e (keys.Prepare t a) = ((λ h. absurd h), λ h. absurd h.0)
act_removed tid old new u e (keys.Act t) =
    let r = removes tid.0 old.acts new.acts u t.0 in (
      λ h. ((r.0 h).0, λ q. (r.0 h).1 (let same : tid ≡ t = cc q in ap (λ (z : Tid). z.0) same)),
      λ h. r.1 (h.0, λ q. h.1 (ap (λ (z : Tid). keys.Act z) (same_tid tid t q))),
    )
act_removed tid old new u e keys.Checkpoint = ((λ h. absurd h), λ h. absurd h.0)

-- the set gets smaller where it was there
pub batch_out : (bid : Bid) (old new : Commits) (there : Bool) → bag.Updates nat_cmp old.batches new.batches bid.0 false → new.acts ≡ old.acts → there ≡ bag.contains nat_cmp old.batches bid.0 → length new.batches.keys + (if there then 1 else 0) ≡ length old.batches.keys
    → Removes (keys.Commit bid) old new
batch_out bid old new there u e is len = record { others = batch_removed bid old new u e; fewer = fewer there len; gone = λ h. gone_by there (is ∙ h) len }
  where
    acts : length new.acts.keys ≡ length old.acts.keys
    acts = ap (λ (z : BTreeSet ℕ). length z.keys) e

    fewer : (b : Bool) → length new.batches.keys + (if b then 1 else 0) ≡ length old.batches.keys → size new ≤ size old
    fewer true l = omega (arith, l, acts)
    fewer false l = omega (arith, l, acts)

    gone_by : (b : Bool) → b ≡ true → length new.batches.keys + (if b then 1 else 0) ≡ length old.batches.keys → size new < size old
    gone_by true h l = omega (arith, l, acts)
    gone_by false h l = absurd (true≢false (sym h))

pub act_out : (tid : Tid) (old new : Commits) (there : Bool) → bag.Updates nat_cmp old.acts new.acts tid.0 false → new.batches ≡ old.batches → there ≡ bag.contains nat_cmp old.acts tid.0 → length new.acts.keys + (if there then 1 else 0) ≡ length old.acts.keys
    → Removes (keys.Act tid) old new
act_out tid old new there u e is len = record { others = act_removed tid old new u e; fewer = fewer there len; gone = λ h. gone_by there (is ∙ h) len }
  where
    batches : length new.batches.keys ≡ length old.batches.keys
    batches = ap (λ (z : BTreeSet ℕ). length z.keys) e

    fewer : (b : Bool) → length new.acts.keys + (if b then 1 else 0) ≡ length old.acts.keys → size new ≤ size old
    fewer true l = omega (arith, l, batches)
    fewer false l = omega (arith, l, batches)

    gone_by : (b : Bool) → b ≡ true → length new.acts.keys + (if b then 1 else 0) ≡ length old.acts.keys → size new < size old
    gone_by true h l = omega (arith, l, batches)
    gone_by false h l = absurd (true≢false (sym h))

-- ---- all of a list

abbrev pub RemovesAll : List Key → Commits → Commits → Type 0
RemovesAll ks old new = (j : Key) → IsInSet new j ↔ (IsInSet old j × ¬ Contains ks j)

in_one_more : (ks : List Key) (k j : Key) → Contains (ks ++ k ∷ []) j → Contains ks j ⊎ (k ≡ j)
in_one_more ks k j h = elim (contains_append ks (k ∷ []) j h) [
  | inl i ↦ inl i
  | inr i ↦ elim (contains_cases k j [] i) [ inl e ↦ inr e | inr n ↦ absurd (contains_none j n) ]
]

pub removes_step : (ks : List Key) (i : ℕ) (k : Key) (old mid new : Commits) → i < length ks → k ≡ get_or ks i k → RemovesAll (take i ks) old mid → TakesOut k mid new → RemovesAll (take (i + 1) ks) old new
removes_step ks i k old mid new l at h g = subst (λ (z : List Key). RemovesAll z old new) (sym (taken ks i k l at)) step
  where
    step : RemovesAll (take i ks ++ k ∷ []) old new
    step j = (
      (λ n. let m = (g j).0 n in let o = (h j).0 m.0 in (o.0, λ c. elim (in_one_more (take i ks) k j c) [ inl c' ↦ o.1 c' | inr e ↦ m.1 e ])),
      λ o. (g j).1 ((h j).1 (o.0, λ c. o.1 (contains_left (take i ks) (k ∷ []) j c)), λ e. o.1 (subst (λ (z : Key). Contains (take i ks ++ k ∷ []) z) e (contains_right (take i ks) (k ∷ []) k (contains_here k [])))),
    )

-- the first of them, where it was there, makes the set smaller
abbrev pub Shrinks : List Key → ℕ → Commits → Commits → Type 0
Shrinks ks i old new = (size new ≤ size old) × ((k : Key) (more : List Key) → ks ≡ k ∷ more → 0 < i → IsInSet old k → size new < size old)

pub shrinks_step : (ks : List Key) (i : ℕ) (k : Key) (old mid new : Commits) → k ≡ get_or ks i k → (i ≡ 0 → mid ≡ old) → Shrinks ks i old mid → size new ≤ size mid → (IsInSet mid k → size new < size mid) → Shrinks ks (i + 1) old new
shrinks_step ks zero k old mid new at first h fewer less =
    (omega (arith, h.0, fewer), λ j more e some named. let here : k ≡ j = at ∙ ap (λ (z : List Key). get_or z 0 k) e in let s = first refl in omega (arith, h.0, less (subst (λ (z : Commits). IsInSet z k) (sym s) (subst (λ (z : Key). IsInSet old z) (sym here) named))))
shrinks_step ks (suc i) k old mid new at first h fewer less = (omega (arith, h.0, fewer), λ j more e some named. omega (arith, h.1 j more e (omega arith) named, fewer))

pub shrinks_end : (ks : List Key) (i : ℕ) (old new : Commits) → length ks ≤ i → Shrinks ks i old new → (k : Key) (more : List Key) → ks ≡ k ∷ more → IsInSet old k → size new < size old
shrinks_end ks i old new l h k more e named = h.1 k more e (omega (arith, l, ap (λ (z : List Key). length z) e)) named

-- ---- what stands in a log

pub home_is_of_commit : (log logs : ℕ) (k : Key) → IsHome log logs k → IsOfCommit k
home_is_of_commit log logs keys.Genesis h = h
home_is_of_commit log logs (keys.Info bid) h = h
home_is_of_commit log logs (keys.Complete bid actor) h = h
home_is_of_commit log logs (keys.Commit bid) h = tt
home_is_of_commit log logs (keys.Prepare tid actor) h = h
home_is_of_commit log logs (keys.Act tid) h = tt
home_is_of_commit log logs keys.Checkpoint h = h

adds_key : {X : Type 0} (AtHome : X → Type 0) (key_at : X → Key) (r : Record) (k : Key) (Old New : X → Type 0) → key r ≡ k → ((x : X) → k ≡ key_at x → AtHome x) → ((x : X) → New x ↔ (Old x ⊎ (k ≡ key_at x))) → AddsKeyed AtHome key_at (r ∷ []) Old New
adds_key AtHome key_at r k Old New e home adds x = (
  λ n. elim ((adds x).0 n) [ inl o ↦ inl o | inr f ↦ inr (home x f, has_last [] r (key_at x) (e ∙ f)) ],
  λ h. elim h [
    | inl o ↦ (adds x).1 (inl o)
    | inr p ↦ elim (has_more [] r (key_at x) p.1) [ inl n ↦ absurd (contains_none (key_at x) n) | inr f ↦ (adds x).1 (inr (sym e ∙ f)) ]
  ],
)

pub batches_add : (log logs : ℕ) (r : Record) (k : Key) (old new : Commits) → IsHome log logs k → key r ≡ k → AddsCommit k old new → AddsBatches log logs (r ∷ []) old new
batches_add log logs r k old new home e adds =
    adds_key (λ (b : Bid). b.0 % logs ≡ log) (λ b. keys.Commit b) r k (λ b. IsInSet old (keys.Commit b)) (λ b. IsInSet new (keys.Commit b)) e
    (λ b q. subst (IsHome log logs) q home) (λ b. adds (keys.Commit b))

pub acts_add : (log logs : ℕ) (r : Record) (k : Key) (old new : Commits) → IsHome log logs k → key r ≡ k → AddsCommit k old new → AddsActs log logs (r ∷ []) old new
acts_add log logs r k old new home e adds =
    adds_key (λ (t : Tid). t.0 % logs ≡ log) (λ t. keys.Act t) r k (λ t. IsInSet old (keys.Act t)) (λ t. IsInSet new (keys.Act t)) e
    (λ t q. subst (IsHome log logs) q home) (λ t. adds (keys.Act t))

pub all_commits : (lists : List (List Record)) (set : Commits) → ((b : Bid) → IsInSet set (keys.Commit b) ↔ HasKey (log_of lists b.0) (keys.Commit b)) → ((t : Tid) → IsInSet set (keys.Act t) ↔ HasKey (log_of lists t.0) (keys.Act t)) → HasAllCommits lists set
all_commits lists set batches acts keys.Genesis = ((λ h. h), λ h. h)
all_commits lists set batches acts (keys.Info bid) = ((λ h. h), λ h. h)
all_commits lists set batches acts (keys.Complete bid actor) = ((λ h. h), λ h. h)
all_commits lists set batches acts (keys.Commit bid) = batches bid
all_commits lists set batches acts (keys.Prepare tid actor) = ((λ h. h), λ h. h)
all_commits lists set batches acts (keys.Act tid) = acts tid
all_commits lists set batches acts keys.Checkpoint = ((λ h. h), λ h. h)

-- ---- the commits of members

pub members_none : (set : Commits) → ((k : Key) → ¬ IsInSet set k) → HasMembers [] set
members_none set none k = ((λ h. absurd (none k h)), λ h. absurd (contains_none k h))

pub members_step : (members : List Kept) (i : ℕ) (x : Kept) (k : Key) (old new : Commits) → i < length members → x ≡ get_or members i x → k ≡ commit_of x → AddsCommit k old new → HasMembers (take i members) old → HasMembers (take (i + 1) members) new
members_step members i x k old new l at e adds h = subst (λ (z : List Kept). HasMembers z new) (sym (taken members i x l at)) step
  where
    keys_of : map commit_of (take i members ++ x ∷ []) ≡ map commit_of (take i members) ++ k ∷ []
    keys_of = map-append commit_of (take i members) (x ∷ []) ∙ ap (λ (z : Key). map commit_of (take i members) ++ z ∷ []) (sym e)

    step : HasMembers (take i members ++ x ∷ []) new
    step j = (
      (λ n. subst (λ (z : List Key). Contains z j) (sym keys_of) (elim ((adds j).0 n) [
        | inl o ↦ contains_left (map commit_of (take i members)) (k ∷ []) j ((h j).0 o)
        | inr q ↦ subst (λ (z : Key). Contains (map commit_of (take i members) ++ k ∷ []) z) q (contains_right (map commit_of (take i members)) (k ∷ []) k (contains_here k []))
      ])),
      λ c. elim (in_one_more (map commit_of (take i members)) k j (subst (λ (z : List Key). Contains z j) keys_of c)) [ inl o ↦ (adds j).1 (inl ((h j).1 o)) | inr q ↦ (adds j).1 (inr q) ],
    )

pub members_end : (members : List Kept) (i : ℕ) (set : Commits) → length members ≤ i → HasMembers (take i members) set → HasMembers members set
members_end members i set l h = subst (λ (z : List Kept). HasMembers z set) (take_all i members l) h

-- ---- a record that is no commit, or one of another log

pub batches_quiet : (log logs : ℕ) (r : Record) (set : Commits) → ¬ IsHome log logs (key r) → AddsBatches log logs (r ∷ []) set set
batches_quiet log logs r set away =
    adds_quiet (λ (b : Bid). b.0 % logs ≡ log) (λ b. keys.Commit b) r (λ b. IsInSet set (keys.Commit b)) (λ b home e. away (subst (IsHome log logs) (sym e) home))

pub acts_quiet : (log logs : ℕ) (r : Record) (set : Commits) → ¬ IsHome log logs (key r) → AddsActs log logs (r ∷ []) set set
acts_quiet log logs r set away =
    adds_quiet (λ (t : Tid). t.0 % logs ≡ log) (λ t. keys.Act t) r (λ t. IsInSet set (keys.Act t)) (λ t home e. away (subst (IsHome log logs) (sym e) home))
