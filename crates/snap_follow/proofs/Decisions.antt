-- Which state an actor was left with can be decided, and so whether a record tells another one.
use Rattle.std.proofs.Common.{◌≡◌, ℕ, ◌<◌, ◌≤◌, ◌⊎◌, inl, inr, ℤ, Option, Some, None, List, [], ◌∷◌, ◌++◌, length, refl, sym, ap, subst, ◌∙◌, arith}
use Rattle.std.specs.Prelude.{slice_get, ◌↔◌, IsTrue}
use Rattle.std.specs.Ordering.{int_eq}
use Rattle.std.specs.List.{AllByRecursion}
use Rattle.std.specs.Cmp.Lexicographic.{pointwise}
use Rattle.std.proofs.lemmas.Bool.{cases_Bool, cases_lt, true≢false}
use Rattle.std.proofs.lemmas.Bool.Decides.{Decides-int_eq}
use Rattle.std.proofs.lemmas.Slice.Eq.{slice_eq-Decides}
use Rattle.snap_base.specs.declared.transactions.State.{State}
use Rattle.snap_base.proofs.Lists.{all_mid}
use Rattle.txn_records.specs.declared.records.Record.{Record}
use Rattle.txn_records.specs.declared.records.Record.TheVariants.{Genesis, BatchInfo, BatchComplete, BatchCommit, ActPrepare, ActCommit, BatchDone, ActDone, Checkpoint}
use Rattle.txn_records.specs.declared.keys.Key.{Key}
use Rattle.txn_records.specs.declared.keys.Key.TheVariants as keys
use Rattle.snap_recover.specs.declared.ranges.TheConstants.{GREATEST_NUMBER}
use Rattle.snap_recover.specs.Logs.{all_of, geneses, IsLastOf, states_in, actors_in, bids_in, commits_in, tids_in}
use Rattle.snap_recover.specs.Opening.{IsInRange, AreBegunWith}
use Rattle.snap_recover.proofs.Lists.{one_last}
use Rattle.snap_follow.specs.Followed.{HasCommit, Tells, TellsOf, IsLeftBy, IsAnother, IsFirstState}
use Rattle.snap_follow.proofs.Deciding.{Decided, same_number, has_commit, all_decided}
use Rattle.snap_follow.proofs.Changes.{tells_one}

-- it is known which one has it, or none does
abbrev pub Found : {X : Type 0} → (X → Type 0) → Type 0
Found {X} P = ((x : X) × P x) ⊎ ((x : X) → P x → ⊥)

-- ---- states

same_state : (s t : State) → Decided (s ≡ t)
same_state s t = elim (cases_Bool (pointwise int_eq s.0 t.0)) [
  | inl e ↦ inl (ap (λ (z : List ℤ). let u : State = record { 0 = z } in u) (fields.0 e))
  | inr e ↦ inr (λ q. true≢false (sym (fields.1 (ap (λ (z : State). z.0) q)) ∙ e))
]
  where
    fields : IsTrue (pointwise int_eq s.0 t.0) ↔ (s.0 ≡ t.0)
    fields = slice_eq-Decides Decides-int_eq s.0 t.0 (pointwise int_eq s.0 t.0) refl

one_is : (ss : List State) (s : State) → Decided (ss ≡ s ∷ [])
one_is [] s = inr (λ e. absurd (cc e))
one_is (t ∷ []) s = elim (same_state t s) [ inl e ↦ inl (ap (λ (z : State). z ∷ []) e) | inr n ↦ inr (λ e. let same : t ≡ s = cc e in n same) ]
one_is (t ∷ u ∷ ss) s = inr (λ e. absurd (cc e))

-- ---- of whom a record tells

pub told_by : (a : ℕ) (r : Record) → Found (λ (k : Key). Tells a k r)
told_by a (BatchComplete bid actor state) = elim (same_number actor.0 a) [ inl e ↦ inl (keys.Commit bid, (e, refl)) | inr n ↦ inr (λ k t. n t.0) ]
told_by a (ActPrepare tid actor state) = elim (same_number actor.0 a) [ inl e ↦ inl (keys.Act tid, (e, refl)) | inr n ↦ inr (λ k t. n t.0) ]
told_by a (Genesis count states) = inr (λ k t. t)
told_by a (BatchInfo bid actors tids) = inr (λ k t. t)
told_by a (BatchCommit bid) = inr (λ k t. t)
told_by a (ActCommit tid m c actors) = inr (λ k t. t)
told_by a (BatchDone bid values) = inr (λ k t. t)
told_by a (ActDone tid m c value actors) = inr (λ k t. t)
told_by a (Checkpoint generation next_tid next_bid next_c batches acts states) = inr (λ k t. t)

-- ---- the last one that has a property

last_found : (P : Record → Type 0) → ((r : Record) → Decided (P r)) → (rs : List Record) → ((r : Record) × IsLastOf P rs r) ⊎ AllByRecursion (λ r. ¬ P r) rs
last_found P d [] = inr tt
last_found P d (x ∷ xs) = by (last_found P d xs) (d x)
  where
    by : ((r : Record) × IsLastOf P xs r) ⊎ AllByRecursion (λ r. ¬ P r) xs → Decided (P x) → ((r : Record) × IsLastOf P (x ∷ xs) r) ⊎ AllByRecursion (λ r. ¬ P r) (x ∷ xs)
    by (inl (r, (front, behind, e, p, quiet))) c = inl (r, (x ∷ front, behind, ap (λ (z : List Record). x ∷ z) e, p, quiet))
    by (inr none) (inl p) = inl (x, ([], xs, refl, p, none))
    by (inr none) (inr n) = inr (n, none)

-- ---- the state that is left

module _ (Counts : Key → Type 0) (Begins : ℕ → State → Type 0) (counts : (k : Key) → Decided (Counts k)) (begun : (a : ℕ) → Found (Begins a)) (one_begun : (a : ℕ) (s t : State) → Begins a s → Begins a t → s ≡ t) where
  tells_of : (a : ℕ) (r : Record) → Decided (TellsOf Counts a r)
  tells_of a r = by (told_by a r)
    where
      by : Found (λ (k : Key). Tells a k r) → Decided (TellsOf Counts a r)
      by (inl (k, t)) = elim (counts k) [ inl c ↦ inl (k, c, t) | inr n ↦ inr (λ q. n (subst Counts (sym (tells_one a a k q.0 r t q.2).1) q.1)) ]
      by (inr none) = inr (λ q. none q.0 q.2)

  one_left : (a : ℕ) (rs : List Record) (s t : State) → IsLeftBy Counts Begins a rs s → IsLeftBy Counts Begins a rs t → s ≡ t
  one_left a rs s t (inl (r, told, (front, behind, e, p, quiet))) (inl (q, tells, (ahead, rest, f, p', still))) =
      let same : r ≡ q = one_last (TellsOf Counts a) front behind ahead rest r q (sym e ∙ f) p p' quiet still in
      let both : ◌≡◌ {A = List State} (s ∷ []) (t ∷ []) = sym told ∙ ap states_in same ∙ tells in
      cc both
  one_left a rs s t (inl (r, told, (front, behind, e, p, quiet))) (inr (none, b)) =
      absurd (all_mid (λ (z : Record). ¬ TellsOf Counts a z) r front behind (subst (AllByRecursion (λ (z : Record). ¬ TellsOf Counts a z)) e none) p)
  one_left a rs s t (inr (none, b)) (inl (r, told, (front, behind, e, p, quiet))) =
      absurd (all_mid (λ (z : Record). ¬ TellsOf Counts a z) r front behind (subst (AllByRecursion (λ (z : Record). ¬ TellsOf Counts a z)) e none) p)
  one_left a rs s t (inr (none, b)) (inr (still, c)) = one_begun a s t b c

  told_state : (a : ℕ) (r : Record) (k : Key) → Tells a k r → (s : State) × (states_in r ≡ s ∷ [])
  told_state a (BatchComplete bid actor state) k t = (state, refl)
  told_state a (ActPrepare tid actor state) k t = (state, refl)
  told_state a r k t = absurd t

  state_left : (a : ℕ) (rs : List Record) → Found (IsLeftBy Counts Begins a rs)
  state_left a rs = by (last_found (TellsOf Counts a) (tells_of a) rs) (begun a)
    where
      by : ((r : Record) × IsLastOf (TellsOf Counts a) rs r) ⊎ AllByRecursion (λ r. ¬ TellsOf Counts a r) rs → Found (Begins a) → Found (IsLeftBy Counts Begins a rs)
      by (inl (r, l)) b = let told = told_state a r l.3.0 l.3.2 in inl (told.0, inl (r, told.1, l))
      by (inr none) (inl (s, b)) = inl (s, inr (none, b))
      by (inr none) (inr n) = inr no
        where
          no : (s : State) → IsLeftBy Counts Begins a rs s → ⊥
          no s (inl (r, told, (front, behind, e, p, quiet))) = all_mid (λ (z : Record). ¬ TellsOf Counts a z) r front behind (subst (AllByRecursion (λ (z : Record). ¬ TellsOf Counts a z)) e none) p
          no s (inr (still, b)) = n s b

  -- whether it tells another state
  tells_another : (a : ℕ) (rs : List Record) (r : Record) → Decided (IsAnother Counts Begins a rs r)
  tells_another a rs r = by (state_left a rs)
    where
      by : Found (IsLeftBy Counts Begins a rs) → Decided (IsAnother Counts Begins a rs r)
      by (inl (s, left)) = elim (one_is (states_in r) s) [
        | inl e ↦ inr (λ h. h s left e)
        | inr n ↦ inl (λ t l e. n (e ∙ ap (λ (z : State). z ∷ []) (one_left a rs t s l left)))
      ]
      by (inr none) = inl (λ s l e. none s l)

-- ---- the first states

above : (m n : ℕ) → n ≤ m → m < n → ⊥
above m n l k = absurd (omega (arith, l, k))

is_below : (m n : ℕ) → Decided (m < n)
is_below m n = elim (cases_lt m n) [ inl l ↦ inl l | inr g ↦ inr (above m n g) ]

is_at_most : (m n : ℕ) → Decided (m ≤ n)
is_at_most m n = elim (cases_lt n m) [ inl l ↦ inr (λ g. above n m g l) | inr g ↦ inl g ]

in_range : (n : ℕ) (r : Record) → Decided (IsInRange n r)
in_range n r = by (all_decided (λ (a : ℕ). a < n) (actors_in r) (λ a. is_below a n)) (all_decided (λ (k : ℕ). k ≤ GREATEST_NUMBER) (bids_in r ++ (commits_in r ++ tids_in r)) (λ k. is_at_most k GREATEST_NUMBER))
  where
    by : Decided (AllByRecursion (λ (a : ℕ). a < n) (actors_in r)) → Decided (AllByRecursion (λ (k : ℕ). k ≤ GREATEST_NUMBER) (bids_in r ++ (commits_in r ++ tids_in r))) → Decided (IsInRange n r)
    by (inl a) (inl b) = inl (record { actors_below = a; numbers_below = b })
    by (inr a) b = inr (λ h. a h.actors_below)
    by (inl a) (inr b) = inr (λ h. b h.numbers_below)

-- lists begin with one list of states
pub one_begun : (logs : List (List Record)) (xs ys : List State) → AreBegunWith logs xs → AreBegunWith logs ys → xs ≡ ys
one_begun logs xs ys b c = let both : ◌≡◌ {A = List Record} (Genesis (length logs) xs ∷ []) (Genesis (length logs) ys ∷ []) = sym b.one ∙ c.one in cc both

pub one_first : (logs : List (List Record)) (a : ℕ) (s t : State) → IsFirstState logs a s → IsFirstState logs a t → s ≡ t
one_first logs a s t (xs, b, e) (ys, c, f) = let both : ◌≡◌ {A = Option State} (Some s) (Some t) = sym e ∙ (ap (λ (z : List State). slice_get z a) (one_begun logs xs ys b c) ∙ f) in cc both

-- the record, where it is the only Genesis, may begin them
begun_with : (logs : List (List Record)) (count : ℕ) (states : List State) → geneses logs ≡ Genesis count states ∷ [] → Decided (AreBegunWith logs states)
begun_with logs count states e = by (same_number count (length logs)) (all_decided (IsInRange (length states)) (all_of logs) (in_range (length states)))
  where
    by : Decided (count ≡ length logs) → Decided (AllByRecursion (IsInRange (length states)) (all_of logs)) → Decided (AreBegunWith logs states)
    by (inl c) (inl r) = inl (record { one = e ∙ ap (λ (z : ℕ). Genesis z states ∷ []) c; range = r })
    by (inr c) r = inr (λ h. let both : ◌≡◌ {A = List Record} (Genesis count states ∷ []) (Genesis (length logs) states ∷ []) = sym e ∙ h.one in let same : count ≡ length logs = cc both in c same)
    by (inl c) (inr r) = inr (λ h. r h.range)

pub first_found : (logs : List (List Record)) (a : ℕ) → Found (IsFirstState logs a)
first_found logs a = by (geneses logs) refl
  where
    among : (count : ℕ) (states : List State) → geneses logs ≡ Genesis count states ∷ [] → (o : Option State) → slice_get states a ≡ o → Decided (AreBegunWith logs states) → Found (IsFirstState logs a)
    among count states e (Some s) at (inl b) = inl (s, (states, b, at))
    among count states e None at (inl b) = inr (λ s h. let both : ◌≡◌ {A = Option State} None (Some s) = sym at ∙ (ap (λ (z : List State). slice_get z a) (one_begun logs states h.0 b h.1) ∙ h.2) in absurd (cc both))
    among count states e o at (inr n) = inr (λ s h. let both : ◌≡◌ {A = List Record} (Genesis count states ∷ []) (Genesis (length logs) h.0 ∷ []) = sym e ∙ h.1.one in
        let same : h.0 ≡ states = cc both in
        n (subst (AreBegunWith logs) same h.1))

    by : (rs : List Record) → geneses logs ≡ rs → Found (IsFirstState logs a)
    by [] e = inr (λ s h. let both : ◌≡◌ {A = List Record} [] (Genesis (length logs) h.0 ∷ []) = sym e ∙ h.1.one in absurd (cc both))
    by (r ∷ q ∷ rs) e = inr (λ s h. let both : ◌≡◌ {A = List Record} (r ∷ q ∷ rs) (Genesis (length logs) h.0 ∷ []) = sym e ∙ h.1.one in absurd (cc both))
    by (Genesis count states ∷ []) e = among count states e (slice_get states a) refl (begun_with logs count states e)
    by (r ∷ []) e = inr (λ s h. let both : ◌≡◌ {A = List Record} (r ∷ []) (Genesis (length logs) h.0 ∷ []) = sym e ∙ h.1.one in absurd (cc both))

-- ---- along lists

pub another_now : (now : List (List Record)) (a : ℕ) (rs : List Record) (r : Record) → Decided (IsAnother (HasCommit now) (IsFirstState now) a rs r)
another_now now a rs r = tells_another (HasCommit now) (IsFirstState now) (has_commit now) (first_found now) (one_first now) a rs r
