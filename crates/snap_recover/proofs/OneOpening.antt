-- Logs recover to one opening at most.
use Rattle.std.proofs.Common.{◌≡◌, ℕ, ℤ, suc, Option, Some, None, inl, inr, List, [], ◌∷◌, ◌++◌, length, map, get_or, refl, sym, ap, subst, ◌∙◌, arith}
use Rattle.std.specs.List.{AllByRecursion, AllPairs, Contains, enumerate_from}
use Rattle.snap_base.specs.declared.ids.ActorId.{ActorId}
use Rattle.snap_base.specs.declared.ids.Bid.{Bid}
use Rattle.snap_base.specs.declared.ids.Tid.{Tid}
use Rattle.snap_base.specs.declared.transactions.State.{State}
use Rattle.txn_records.specs.declared.records.Record.{Record}
use Rattle.txn_records.specs.declared.records.Record.TheVariants.{Genesis, BatchInfo}
use Rattle.txn_records.specs.declared.keys.Key.{Key}
use Rattle.txn_records.specs.declared.keys.Key.TheVariants as keys
use Rattle.txn_records.specs.Records.{key}
use Rattle.snap_recover.specs.declared.openings.Opening.{Opening}
use Rattle.snap_recover.specs.declared.openings.Kept.{Kept}
use Rattle.snap_recover.specs.declared.openings.Kept.TheVariants as kept
use Rattle.snap_recover.specs.Logs.{log_of, states_in, values_in, geneses}
use Rattle.snap_recover.specs.Opening.{IsInfoOf, IsCommitOf, IsActIn, IsActOf, act_record, Counts, IsStateOf, AreStatesOf, commit_of, IsKeptIn, ComesBefore, IsCommitted, IsRecovered}
use Rattle.snap_recover.proofs.Lists.{one_last, all_middle, zip_one, contains_cases, contains_here, all_contains, contains_none, contains_there, contains_middle, contains_map, contains_unmap}

pub one_info : (logs : List (List Record)) (bid : Bid) (a b : List ActorId) (t u : List Tid) → IsInfoOf logs bid a t → IsInfoOf logs bid b u → (a ≡ b) × (t ≡ u)
one_info logs bid a b t u p q =
    let same : BatchInfo bid a t ≡ BatchInfo bid b u = one_last (λ (r : Record). key r ≡ keys.Info bid) p.0 p.1 q.0 q.1 (BatchInfo bid a t) (BatchInfo bid b u) (sym p.2 ∙ q.2) p.3 q.3 p.4 q.4 in
    (cc, cc)

pub one_commit : (logs : List (List Record)) (bid : Bid) (r s : Record) → IsCommitOf logs bid r → IsCommitOf logs bid s → r ≡ s
one_commit logs bid r s p q = one_last (λ (x : Record). key x ≡ keys.Commit bid) p.0 p.1 q.0 q.1 r s (sym p.2 ∙ q.2) p.3 q.3 p.4 q.4

-- a commit of an ACT tells one thing
act_record_one : (t u : Tid) (m n : Bid) (c d : ℕ) (v w : Option ℤ) (a b : List ActorId) → act_record t m c v a ≡ act_record u n d w b → (m ≡ n) × (c ≡ d) × (v ≡ w) × (a ≡ b)
act_record_one t u m n c d None None a b e = (cc, cc, refl, cc)
act_record_one t u m n c d None (Some w) a b e = absurd (cc)
act_record_one t u m n c d (Some v) None a b e = absurd (cc)
act_record_one t u m n c d (Some v) (Some w) a b e = let value : v ≡ w = cc in (cc, cc, ap (λ (z : ℤ). Some z) value, cc)

pub act_key : (t : Tid) (m : Bid) (c : ℕ) (v : Option ℤ) (a : List ActorId) → key (act_record t m c v a) ≡ keys.Act t
act_key t m c None a = refl
act_key t m c (Some v) a = refl

pub one_act : (logs : List (List Record)) (tid : Tid) (m n : Bid) (c d : ℕ) (v w : Option ℤ) (a b : List ActorId) → IsActOf logs tid m c v a → IsActOf logs tid n d w b → (m ≡ n) × (c ≡ d) × (v ≡ w) × (a ≡ b)
one_act logs tid m n c d v w a b p q =
    act_record_one tid tid m n c d v w a b (one_last (λ (r : Record). key r ≡ keys.Act tid) p.0 p.1 q.0 q.1 (act_record tid m c v a) (act_record tid n d w b) (sym p.2 ∙ q.2) p.3 q.3 p.4 q.4)

pub act_is_in : (logs : List (List Record)) (tid : Tid) (m : Bid) (c : ℕ) (value : Option ℤ) (actors : List ActorId) → IsActOf logs tid m c value actors → IsActIn logs tid
act_is_in logs tid m c value actors p =
    let r : Record = act_record tid m c value actors in
    let here : Contains (p.0 ++ r ∷ p.1) r = contains_middle p.0 r p.1 in
    subst (λ (z : Key). Contains (map key (log_of logs tid.0)) z) (act_key tid m c value actors) (contains_map key (log_of logs tid.0) r (subst (λ (z : List Record). Contains z r) (sym p.2) here))

one_state : (logs : List (List Record)) (a : ℕ) (first s t : State) → IsStateOf logs a first s → IsStateOf logs a first t → s ≡ t
one_state logs a first s t (inl (r, told, p)) (inl (r', told', q)) =
    let same : r ≡ r' = one_last (Counts logs a) p.0 p.1 q.0 q.1 r r' (sym p.2 ∙ q.2) p.3 q.3 p.4 q.4 in
    let one : s ∷ [] ≡ t ∷ [] = sym told ∙ ap states_in same ∙ told' in
    cc
one_state logs a first s t (inl (r, told, p)) (inr q) =
    absurd (all_middle (λ r. ¬ Counts logs a r) p.0 r p.1 (subst (AllByRecursion (λ r. ¬ Counts logs a r)) p.2 q.0) p.3)
one_state logs a first s t (inr p) (inl (r, told, q)) =
    absurd (all_middle (λ r. ¬ Counts logs a r) q.0 r q.1 (subst (AllByRecursion (λ r. ¬ Counts logs a r)) q.2 p.0) q.3)
one_state logs a first s t (inr p) (inr q) = p.1 ∙ sym q.1

pub same_bid : (a b : Bid) → a.0 ≡ b.0 → a ≡ b
same_bid a b e = ap (λ (n : ℕ). let t : Bid = record { 0 = n } in t) e

pub same_tid : (a b : Tid) → a.0 ≡ b.0 → a ≡ b
same_tid a b e = ap (λ (n : ℕ). let t : Tid = record { 0 = n } in t) e

one_kept : (logs : List (List Record)) (a b : Kept) → IsKeptIn logs a → IsKeptIn logs b → commit_of a ≡ commit_of b → a ≡ b
one_kept logs (kept.Batch k t v) (kept.Batch j u w) p q e =
    let same : k ≡ j = cc in
    let info : IsInfoOf logs j p.1.0 t = subst (λ (z : Bid). IsInfoOf logs z p.1.0 t) same p.1.1 in
    let tids : t ≡ u = (one_info logs j p.1.0 q.1.0 t u info q.1.1).1 in
    let commit : IsCommitOf logs j p.2.0 = subst (λ (z : Bid). IsCommitOf logs z p.2.0) same p.2.1 in
    let values : v ≡ w = p.2.2 ∙ ap values_in (one_commit logs j p.2.0 q.2.0 commit q.2.1) ∙ sym q.2.2 in
    cc
one_kept logs (kept.Batch k t v) (kept.Act u n d w) p q e = absurd (cc)
one_kept logs (kept.Act t m c v) (kept.Batch j u w) p q e = absurd (cc)
one_kept logs (kept.Act t m c v) (kept.Act u n d w) p q e =
    let same : t ≡ u = cc in
    let act : IsActOf logs u m c v p.0 = subst (λ (z : Tid). IsActOf logs z m c v p.0) same p.1 in
    let all = one_act logs u m n c d v w p.0 q.0 act q.1 in
    let batches : m ≡ n = all.0 in
    let commits : c ≡ d = all.1 in
    let values : v ≡ w = all.2 in
    cc

-- ---- lists in the order of the places, with the same members

pub before_not_after : (a b : Kept) → ComesBefore a b → ComesBefore b a → ⊥
before_not_after (kept.Batch k t v) (kept.Batch j u w) h g = omega (arith, h, g)
before_not_after (kept.Batch k t v) (kept.Act u n d w) h g = omega (arith, h, g)
before_not_after (kept.Act t m c v) (kept.Batch j u w) h g = omega (arith, h, g)
before_not_after (kept.Act t m c v) (kept.Act u n d w) (inl h) (inl g) = omega (arith, h, g)
before_not_after (kept.Act t m c v) (kept.Act u n d w) (inl h) (inr g) = omega (arith, h, g.0)
before_not_after (kept.Act t m c v) (kept.Act u n d w) (inr h) (inl g) = omega (arith, h.0, g)
before_not_after (kept.Act t m c v) (kept.Act u n d w) (inr (e, inl h)) (inr (f, inl g)) = omega (arith, h, g)
before_not_after (kept.Act t m c v) (kept.Act u n d w) (inr (e, inl h)) (inr (f, inr g)) = omega (arith, h, g.0)
before_not_after (kept.Act t m c v) (kept.Act u n d w) (inr (e, inr h)) (inr (f, inl g)) = omega (arith, h.0, g)
before_not_after (kept.Act t m c v) (kept.Act u n d w) (inr (e, inr h)) (inr (f, inr g)) = omega (arith, h.1, g.1)

head_before : (x : Kept) (xs : List Kept) → AllPairs ComesBefore (x ∷ xs) → (b : Kept) → Contains xs b → ComesBefore x b
head_before x xs h b (k, l, e) =
    let before : ComesBefore x (get_or xs k b) = h 0 (suc k) b (omega arith) (omega (arith, l)) in
    subst (λ (z : Kept). ComesBefore x z) e before

tail_ascends : (x : Kept) (xs : List Kept) → AllPairs ComesBefore (x ∷ xs) → AllPairs ComesBefore xs
tail_ascends x xs h i j d l m = h (suc i) (suc j) d (omega arith) (omega arith)

abbrev Within : List Kept → List Kept → Type 0
Within xs ys = (b : Kept) → Contains xs b → Contains ys b

heads_meet : (x y : Kept) (xs ys : List Kept) → AllPairs ComesBefore (x ∷ xs) → AllPairs ComesBefore (y ∷ ys) → Within (x ∷ xs) (y ∷ ys) → Within (y ∷ ys) (x ∷ xs) → x ≡ y
heads_meet x y xs ys p q f g =
    elim (contains_cases y x ys (f x (contains_here x xs))) [
      | inl e ↦ sym e
      | inr m ↦ elim (contains_cases x y xs (g y (contains_here y ys))) [
        | inl e ↦ e
        | inr n ↦ absurd (before_not_after x y (head_before x xs p y n) (head_before y ys q x m))
      ]
    ]

tails_within : (x y : Kept) (xs ys : List Kept) → AllPairs ComesBefore (x ∷ xs) → x ≡ y → Within (x ∷ xs) (y ∷ ys) → Within xs ys
tails_within x y xs ys p e f b m =
    elim (contains_cases y b ys (f b (contains_there x b xs m))) [
      | inl i ↦ absurd (let here : ComesBefore b b = subst (λ (z : Kept). ComesBefore z b) (e ∙ i) (head_before x xs p b m) in before_not_after b b here here)
      | inr n ↦ n
    ]

pub one_committed : (xs ys : List Kept) → AllPairs ComesBefore xs → AllPairs ComesBefore ys → Within xs ys → Within ys xs → xs ≡ ys
one_committed [] [] p q f g = refl
one_committed [] (y ∷ ys) p q f g = absurd (contains_none y (g y (contains_here y ys)))
one_committed (x ∷ xs) [] p q f g = absurd (contains_none x (f x (contains_here x xs)))
one_committed (x ∷ xs) (y ∷ ys) p q f g =
    let first : x ≡ y = heads_meet x y xs ys p q f g in
    let rest : xs ≡ ys = one_committed xs ys (tail_ascends x xs p) (tail_ascends y ys q) (tails_within x y xs ys p first f) (tails_within y x ys xs q (sym first) g) in
    cc

kept_listed : (logs : List (List Record)) (ys : List Kept) (x : Kept) → IsCommitted logs ys → IsKeptIn logs x → Contains (map commit_of ys) (commit_of x)
kept_listed logs ys (kept.Batch k t v) q h = q.all_batches k h.0
kept_listed logs ys (kept.Act t m c v) q h = q.all_acts t (act_is_in logs t m c v h.0 h.1)

pub committed_within : (logs : List (List Record)) (xs ys : List Kept) → IsCommitted logs xs → IsCommitted logs ys → Within xs ys
committed_within logs xs ys p q b m =
    let here : IsKeptIn logs b = all_contains (IsKeptIn logs) xs b p.each m in
    let r = contains_unmap commit_of ys (commit_of b) (kept_listed logs ys b q here) in
    let there : IsKeptIn logs r.0 = all_contains (IsKeptIn logs) ys r.0 q.each r.1 in
    subst (Contains ys) (one_kept logs r.0 b there here r.2) r.1

pub one_first_states : (logs : List (List Record)) (s t : List State) → geneses logs ≡ Genesis (length logs) s ∷ [] → geneses logs ≡ Genesis (length logs) t ∷ [] → s ≡ t
one_first_states logs s t p q = let same : Genesis (length logs) s ∷ [] ≡ Genesis (length logs) t ∷ [] = sym p ∙ q in cc

pub one_opening : (logs : List (List Record)) (o p : Opening) → IsRecovered logs o → IsRecovered logs p → o ≡ p
one_opening logs o p h k =
    let first : h.begun.0 ≡ k.begun.0 = one_first_states logs h.begun.0 k.begun.0 h.begun.1.one k.begun.1.one in
    let there : AreStatesOf logs k.begun.0 o.states = subst (λ (z : List State). AreStatesOf logs z o.states) first h.begun.2 in
    let states : o.states ≡ p.states =
    zip_one (λ (x : ℕ × State) s. IsStateOf logs x.0 x.1 s) (enumerate_from 0 k.begun.0) o.states p.states (λ x s t a b. one_state logs x.0 x.1 s t a b) there k.begun.2 in
    let committed : o.committed ≡ p.committed =
    one_committed o.committed p.committed h.committed.ascend k.committed.ascend
    (committed_within logs o.committed p.committed h.committed k.committed) (committed_within logs p.committed o.committed k.committed h.committed) in
    let tid : o.next_tid.0 ≡ p.next_tid.0 = h.next_tid ∙ sym k.next_tid in
    let bid : o.next_bid.0 ≡ p.next_bid.0 = h.next_bid ∙ sym k.next_bid in
    let c : o.next_c ≡ p.next_c = h.next_c ∙ sym k.next_c in
    λ i. record {
      states = states i;
      committed = committed i;
      next_tid = record { 0 = tid i };
      next_bid = record { 0 = bid i };
      next_c = c i;
    }
