-- Whoever a round takes has its commit among what is read.
use Rattle.std.specs.Prelude.{◌≡◌, refl, ℕ, zero, suc, ◌+◌, ◌-◌, ◌≤◌, ◌%◌, Bool, true, false, if◌then◌else◌, List, [], ◌∷◌, ◌++◌, length, map, replicate, slice_index_or, Contains}
use Rattle.std.specs.List.{AllByRecursion}
use Rattle.std.proofs.Common.{arith, sym, ap, subst, mod-lt, inl, inr, ◌∙◌}
use Rattle.std.proofs.lemmas.List.{map-append}
use Rattle.snap_base.specs.declared.transactions.State.{State}
use Rattle.protocol.specs.Parts.{Who, OfBatch, OfAct}
use Rattle.protocol.specs.Records.{LogRecord}
use Rattle.protocol_records.specs.Crash.{is_in}
use Rattle.compact_laws.proofs.ListsGrown.{plain_grown}
use Rattle.followed_logs.specs.OnRecords.{IsRunsFront, in_first, key_of}
use Rattle.log_compact.specs.Points.{plains}
use Rattle.log_compact.specs.Sets.{plain_lists}
use Rattle.log_set.specs.Told.{all_told, bid_of, tid_of}
use Rattle.recovery_laws.proofs.WrittenLists.{grown_at, grown_length, has_act, has_commit}
use Rattle.recovery_laws.specs.Grown.{grown}
use Rattle.snap_follow.specs.Followed.{HasCommit}
use Rattle.snap_recover.proofs.Growing.{has_cases}
use Rattle.snap_recover.proofs.Lists.{contains_cases, contains_middle, contains_none}
use Rattle.snap_recover.specs.Logs.{HasKey, log_of}
use Rattle.snap_recover.specs.Opening.{IsKeptIn, act_record, commit_of}
use Rattle.snap_recover.specs.declared.openings.Kept.{Kept}
use Rattle.snap_recover.specs.declared.openings.Kept.TheVariants as kept
use Rattle.txn_records.specs.Records.{key}
use Rattle.txn_records.specs.declared.keys.Key.{Key}
use Rattle.txn_records.specs.declared.keys.Key.TheVariants as keys
use Rattle.txn_records.specs.declared.records.Record.{Record}
use Rattle.txn_records.specs.declared.records.Record.TheVariants.{Genesis}

-- ---- what is kept has a commit

with_key : (front : List Record) (r : Record) (behind rs : List Record) (k : Key) → rs ≡ front ++ r ∷ behind → key r ≡ k → HasKey rs k
with_key front r behind rs k splits e =
    subst (λ (xs : List Record). Contains (map key xs) k) (sym splits)
    (subst (λ (xs : List Key). Contains xs k) (sym (map-append key front (r ∷ behind))) (subst (Contains (map key front ++ key r ∷ map key behind)) e (contains_middle (map key front) (key r) (map key behind))))

has_its_commit : (lists : List (List Record)) (k : Kept) → IsKeptIn lists k → HasCommit lists (commit_of k)
has_its_commit lists (kept.Batch bid tids values) h = h.0
has_its_commit lists (kept.Act tid m c value) h = let last = h.1 in with_key last.0 (act_record tid m c value h.0) last.1 (log_of lists tid.0) (keys.Act tid) last.2 last.3

all_have : (lists : List (List Record)) (ks : List Kept) (k : Key) → AllByRecursion (IsKeptIn lists) ks → Contains (map commit_of ks) k → HasCommit lists k
all_have lists [] k h c = absurd (contains_none k c)
all_have lists (x ∷ xs) k h c = elim (contains_cases (commit_of x) k (map commit_of xs) c) [
  | inl e ↦ subst (HasCommit lists) e (has_its_commit lists x h.0)
  | inr more ↦ all_have lists xs k h.1 more
]

-- ---- in front of the runs' records stands Genesis alone

IsGenesis : Record → Type 0
IsGenesis r = (count : ℕ) × (first : List State) × (r ≡ Genesis count first)

nothing_long : (n : ℕ) → length (map plains (replicate n [])) ≡ n
nothing_long zero = refl
nothing_long (suc n) = ap suc (nothing_long n)

nothing_bare : (n : ℕ) → AllByRecursion (AllByRecursion IsGenesis) (map plains (replicate n []))
nothing_bare zero = tt
nothing_bare (suc n) = (tt, nothing_bare n)

front_bare : (many : ℕ) (first : List State) (front : List Record) (b : Bool) → IsRunsFront many first front → AllByRecursion (AllByRecursion IsGenesis) (plain_lists (in_first many (if b then front else [])))
unfolding IsGenesis
front_bare many first front true h = (subst (AllByRecursion IsGenesis) (sym h) ((many, first, refl), tt), nothing_bare (many - 1))
front_bare many first front false h = (tt, nothing_bare (many - 1))

front_long : (many : ℕ) (rs : List Record) → 1 ≤ many → length (plain_lists (in_first many rs)) ≡ many
front_long many rs some = omega (arith, some, nothing_long (many - 1))

bare_at : (lists : List (List Record)) (i : ℕ) → AllByRecursion (AllByRecursion IsGenesis) lists → AllByRecursion IsGenesis (slice_index_or lists i [])
bare_at [] i h = tt
bare_at (x ∷ xs) zero h = h.0
bare_at (x ∷ xs) (suc i) h = bare_at xs i h.1

no_commit : (rs : List Record) (k : Key) → AllByRecursion IsGenesis rs → (k ≡ keys.Genesis → ⊥) → ¬ HasKey rs k
unfolding IsGenesis
no_commit [] k h n c = contains_none k c
no_commit (r ∷ rs) k h n c = elim (contains_cases (key r) k (map key rs) c) [ inl e ↦ n (sym e ∙ ap key h.0.2) | inr more ↦ no_commit rs k h.1 n more ]

-- ---- so a commit is one of the runs

log_is : (many : ℕ) (bare : List (List Record)) (logs : ℕ → List LogRecord) (n : ℕ) → 1 ≤ many → length bare ≡ many → log_of (grown bare logs) n ≡ log_of bare n ++ all_told (logs (n % many))
log_is many bare logs n some long =
    let e : 0 + n % length bare ≡ n % many = (let z : 0 + n % length bare ≡ n % length bare = omega arith in z) ∙ ap (λ z. n % z) long in
    ap (λ z. slice_index_or (grown bare logs) (n % z) []) (grown_length 0 bare logs)
    ∙ (grown_at 0 (n % length bare) bare logs (mod-lt n (subst (λ z. 1 ≤ z) (sym long) some)) ∙ ap (λ z. slice_index_or bare (n % length bare) [] ++ all_told (logs z)) e)

is_read : (many : ℕ) (bare : List (List Record)) (logs : ℕ → List LogRecord) (w : Who) → 1 ≤ many → length bare ≡ many → AllByRecursion (AllByRecursion IsGenesis) bare → HasCommit (grown bare logs) (key_of w) → is_in many logs w ≡ true
is_read many bare logs (OfBatch k) some long g h =
    let c = keys.Commit (bid_of k) in
    elim (has_cases (log_of bare k) (all_told (logs (k % many))) c (subst (λ z. HasKey z c) (log_is many bare logs k some long) h)) [
      | inl q ↦ absurd (no_commit (log_of bare k) c (bare_at bare (k % length bare) g) (λ e. cc e) q)
      | inr q ↦ has_commit (logs (k % many)) (bid_of k) q
    ]
is_read many bare logs (OfAct t) some long g h =
    let c = keys.Act (tid_of t) in
    elim (has_cases (log_of bare t) (all_told (logs (t % many))) c (subst (λ z. HasKey z c) (log_is many bare logs t some long) h)) [
      | inl q ↦ absurd (no_commit (log_of bare t) c (bare_at bare (t % length bare) g) (λ e. cc e) q)
      | inr q ↦ has_act (logs (t % many)) (tid_of t) q
    ]

pub commit_read : (many : ℕ) (first : List State) (front : List Record) (b : Bool) (logs : ℕ → List LogRecord) (ks : List Kept) (w : Who) → 1 ≤ many → IsRunsFront many first front
    → AllByRecursion (IsKeptIn (plain_lists (grown (in_first many (if b then front else [])) logs))) ks → Contains (map commit_of ks) (key_of w) → is_in many logs w ≡ true
commit_read many first front b logs ks w some is_front each c =
    let begun = in_first many (if b then front else []) in
    is_read many (plain_lists begun) logs w some (front_long many (if b then front else []) some) (front_bare many first front b is_front)
    (subst (λ ls. HasCommit ls (key_of w)) (plain_grown begun logs) (all_have (plain_lists (grown begun logs)) ks (key_of w) each c))
