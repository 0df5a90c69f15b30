-- What can be decided of keys and records, and the elements of a list of which something holds.
use Rattle.std.proofs.Common.{◌≡◌, ℕ, ◌<◌, ◌≤◌, ◌⊎◌, inl, inr, List, [], ◌∷◌, length, map, refl, sym, ap, subst, ◌∙◌, arith}
use Rattle.std.specs.List.{AllByRecursion, Contains}
use Rattle.std.proofs.lemmas.Bool.{eqb-true, eq-eqb, cases_Bool, true≢false}
use Rattle.std.specs.Prelude.{◌==◌}
use Rattle.snap_base.specs.declared.ids.ActorId.{ActorId}
use Rattle.snap_base.specs.declared.ids.Bid.{Bid}
use Rattle.snap_base.specs.declared.ids.Tid.{Tid}
use Rattle.txn_records.specs.declared.records.Record.{Record}
use Rattle.txn_records.specs.declared.records.Record.TheVariants.{Genesis, BatchInfo, BatchComplete, BatchCommit, ActPrepare, ActCommit, BatchDone, ActDone, Checkpoint}
use Rattle.txn_records.specs.declared.keys.Key.{Key}
use Rattle.txn_records.specs.declared.keys.Key.TheVariants as keys
use Rattle.txn_records.specs.Records.{key}
use Rattle.snap_recover.specs.Logs.{log_of}
use Rattle.snap_recover.proofs.Lists.{contains_cases, contains_here, contains_there, contains_none}
use Rattle.snap_follow.specs.Followed.{HasCommit, Tells}

abbrev pub Decided : Type 0 → Type 0
Decided P = P ⊎ (P → ⊥)

pub same_number : (m n : ℕ) → Decided (m ≡ n)
same_number m n = elim (cases_Bool (m == n)) [ inl e ↦ inl (eqb-true m n e) | inr e ↦ inr (λ q. true≢false (sym (eq-eqb m n q) ∙ e)) ]

same_bid : (a b : Bid) → Decided (a ≡ b)
same_bid a b = elim (same_number a.0 b.0) [ inl e ↦ inl (ap (λ (n : ℕ). let t : Bid = record { 0 = n } in t) e) | inr e ↦ inr (λ q. e (ap (λ (t : Bid). t.0) q)) ]

same_tid : (a b : Tid) → Decided (a ≡ b)
same_tid a b = elim (same_number a.0 b.0) [ inl e ↦ inl (ap (λ (n : ℕ). let t : Tid = record { 0 = n } in t) e) | inr e ↦ inr (λ q. e (ap (λ (t : Tid). t.0) q)) ]

same_actor : (a b : ActorId) → Decided (a ≡ b)
same_actor a b = elim (same_number a.0 b.0) [ inl e ↦ inl (ap (λ (n : ℕ). let t : ActorId = record { 0 = n } in t) e) | inr e ↦ inr (λ q. e (ap (λ (t : ActorId). t.0) q)) ]

pub same_key : (j k : Key) → Decided (j ≡ k)
same_key keys.Genesis keys.Genesis = inl refl
same_key (keys.Info a) (keys.Info b) = elim (same_bid a b) [ inl e ↦ inl (ap (λ z. keys.Info z) e) | inr e ↦ inr (λ q. let i : a ≡ b = cc q in e i) ]
same_key (keys.Complete a x) (keys.Complete b y) = elim (same_bid a b) [
  | inl e ↦ elim (same_actor x y) [ inl f ↦ inl (ap (λ z. keys.Complete z x) e ∙ ap (λ z. keys.Complete b z) f) | inr f ↦ inr (λ q. let i : x ≡ y = cc q in f i) ]
  | inr e ↦ inr (λ q. let i : a ≡ b = cc q in e i)
]
same_key (keys.Commit a) (keys.Commit b) = elim (same_bid a b) [ inl e ↦ inl (ap (λ z. keys.Commit z) e) | inr e ↦ inr (λ q. let i : a ≡ b = cc q in e i) ]
same_key (keys.Prepare a x) (keys.Prepare b y) = elim (same_tid a b) [
  | inl e ↦ elim (same_actor x y) [ inl f ↦ inl (ap (λ z. keys.Prepare z x) e ∙ ap (λ z. keys.Prepare b z) f) | inr f ↦ inr (λ q. let i : x ≡ y = cc q in f i) ]
  | inr e ↦ inr (λ q. let i : a ≡ b = cc q in e i)
]
same_key (keys.Act a) (keys.Act b) = elim (same_tid a b) [ inl e ↦ inl (ap (λ z. keys.Act z) e) | inr e ↦ inr (λ q. let i : a ≡ b = cc q in e i) ]
same_key keys.Checkpoint keys.Checkpoint = inl refl
same_key j k = inr (λ e. cc e)

pub among : (ks : List Key) (k : Key) → Decided (Contains ks k)
among [] k = inr (λ h. contains_none k h)
among (x ∷ xs) k = by (same_key x k) (among xs k)
  where
    by : Decided (x ≡ k) → Decided (Contains xs k) → Decided (Contains (x ∷ xs) k)
    by (inl e) r = inl (subst (λ z. Contains (x ∷ xs) z) e (contains_here x xs))
    by (inr e) (inl h) = inl (contains_there x k xs h)
    by (inr e) (inr h) = inr (λ q. elim (contains_cases x k xs q) [ inl i ↦ e i | inr i ↦ h i ])

pub has_commit : (logs : List (List Record)) (k : Key) → Decided (HasCommit logs k)
has_commit logs keys.Genesis = inr (λ h. h)
has_commit logs (keys.Info bid) = inr (λ h. h)
has_commit logs (keys.Complete bid actor) = inr (λ h. h)
has_commit logs (keys.Commit bid) = among (map key (log_of logs bid.0)) (keys.Commit bid)
has_commit logs (keys.Prepare tid actor) = inr (λ h. h)
has_commit logs (keys.Act tid) = among (map key (log_of logs tid.0)) (keys.Act tid)
has_commit logs keys.Checkpoint = inr (λ h. h)

pub tells : (a : ℕ) (k : Key) (r : Record) → Decided (Tells a k r)
tells a k (Genesis count states) = inr (λ h. h)
tells a k (BatchInfo bid actors tids) = inr (λ h. h)
tells a k (BatchComplete bid actor state) = elim (same_number actor.0 a) [ inl e ↦ elim (same_key k (keys.Commit bid)) [ inl f ↦ inl (e, f) | inr f ↦ inr (λ q. f q.1) ] | inr e ↦ inr (λ q. e q.0) ]
tells a k (BatchCommit bid) = inr (λ h. h)
tells a k (ActPrepare tid actor state) = elim (same_number actor.0 a) [ inl e ↦ elim (same_key k (keys.Act tid)) [ inl f ↦ inl (e, f) | inr f ↦ inr (λ q. f q.1) ] | inr e ↦ inr (λ q. e q.0) ]
tells a k (ActCommit tid m c actors) = inr (λ h. h)
tells a k (BatchDone bid values) = inr (λ h. h)
tells a k (ActDone tid m c value actors) = inr (λ h. h)
tells a k (Checkpoint generation next_tid next_bid next_c batches acts states) = inr (λ h. h)

pub all_decided : {X : Type 0} (P : X → Type 0) (xs : List X) → ((x : X) → Decided (P x)) → Decided (AllByRecursion P xs)
all_decided P [] d = inl tt
all_decided P (x ∷ xs) d = by (d x) (all_decided P xs d)
  where
    by : Decided (P x) → Decided (AllByRecursion P xs) → Decided (AllByRecursion P (x ∷ xs))
    by (inl p) (inl h) = inl (p, h)
    by (inl p) (inr h) = inr (λ q. h q.1)
    by (inr p) h = inr (λ q. p q.0)

-- ---- those of which it holds

pub those : {X : Type 0} (P : X → Type 0) → ((x : X) → Decided (P x)) → List X → List X
those P d [] = []
those P d (x ∷ xs) = elim (d x) [ inl p ↦ x ∷ those P d xs | inr p ↦ those P d xs ]

pub those_are : {X : Type 0} (P : X → Type 0) (d : (x : X) → Decided (P x)) (xs : List X) (y : X) → Contains (those P d xs) y → Contains xs y × P y
unfolding those
those_are {X} P d [] y h = absurd (contains_none y h)
those_are {X} P d (x ∷ xs) y h = by (d x) h (those_are P d xs y)
  where
    by : (c : Decided (P x)) → Contains (elim c as (λ z. List X) [ inl p ↦ x ∷ those P d xs | inr p ↦ those P d xs ]) y → (Contains (those P d xs) y → Contains xs y × P y) → Contains (x ∷ xs) y × P y
    by (inl p) h r = elim (contains_cases x y (those P d xs) h) [ inl e ↦ (subst (λ z. Contains (x ∷ xs) z) e (contains_here x xs), subst P e p) | inr g ↦ let q = r g in (contains_there x y xs q.0, q.1) ]
    by (inr p) h r = let q = r h in (contains_there x y xs q.0, q.1)

pub are_those : {X : Type 0} (P : X → Type 0) (d : (x : X) → Decided (P x)) (xs : List X) (y : X) → Contains xs y → P y → Contains (those P d xs) y
unfolding those
are_those {X} P d [] y h p = absurd (contains_none y h)
are_those {X} P d (x ∷ xs) y h p = by (d x) (contains_cases x y xs h) (λ g. are_those P d xs y g p)
  where
    by : (c : Decided (P x)) → (x ≡ y) ⊎ Contains xs y → (Contains xs y → Contains (those P d xs) y) → Contains (elim c as (λ z. List X) [ inl q ↦ x ∷ those P d xs | inr q ↦ those P d xs ]) y
    by (inl q) (inl e) r = subst (λ z. Contains (x ∷ those P d xs) z) e (contains_here x (those P d xs))
    by (inl q) (inr g) r = contains_there x y (those P d xs) (r g)
    by (inr q) (inl e) r = absurd (q (subst P (sym e) p))
    by (inr q) (inr g) r = r g

-- it holds of all, or they are fewer
pub all_or_fewer : {X : Type 0} (P : X → Type 0) (d : (x : X) → Decided (P x)) (xs : List X) → (AllByRecursion P xs × (those P d xs ≡ xs)) ⊎ (length (those P d xs) < length xs)
unfolding those
all_or_fewer {X} P d [] = inl (tt, refl)
all_or_fewer {X} P d (x ∷ xs) = by (d x) (all_or_fewer P d xs) (no_more xs)
  where
    no_more : (ys : List X) → length (those P d ys) ≤ length ys
    no_more [] = omega arith
    no_more (y ∷ ys) = at (d y) (no_more ys)
      where
        at : (c : Decided (P y)) → length (those P d ys) ≤ length ys → length (elim c as (λ z. List X) [ inl p ↦ y ∷ those P d ys | inr p ↦ those P d ys ]) ≤ length (y ∷ ys)
        at (inl p) l = omega (arith, l)
        at (inr p) l = omega (arith, l)

    by : (c : Decided (P x)) → (AllByRecursion P xs × (those P d xs ≡ xs)) ⊎ (length (those P d xs) < length xs) → length (those P d xs) ≤ length xs
        → (AllByRecursion P (x ∷ xs) × (elim c as (λ z. List X) [ inl p ↦ x ∷ those P d xs | inr p ↦ those P d xs ] ≡ x ∷ xs)) ⊎ (length (elim c as (λ z. List X) [ inl p ↦ x ∷ those P d xs | inr p ↦ those P d xs ]) < length (x ∷ xs))
    by (inl p) (inl h) l = inl ((p, h.0), ap (λ z. x ∷ z) h.1)
    by (inl p) (inr h) l = inr (omega (arith, h))
    by (inr p) h l = inr (omega (arith, l))
