-- Records as they are written: their keys, numbers and states.
use Rattle.std.specs.Prelude.{◌≡◌, refl, ℕ, ℤ, zero, suc, ◌+◌, ◌<◌, ◌≤◌, ◌==◌, max, Bool, true, false, ◌&&◌, if◌then◌else◌, List, [], ◌∷◌, ◌++◌, length, map, filter, slice_index_or, Contains}
use Rattle.std.specs.List.{AllByRecursion, list_any, flat_map}
use Rattle.std.proofs.Common.{arith, sym, ap, subst, inl, inr, ◌∙◌, append_assoc}
use Rattle.std.proofs.lemmas.Bool.{true≢false, or_cases, or_left, or_right, or_parts, and_parts, eqb-true, eq-eqb}
use Rattle.std.proofs.lemmas.List.{append-nil}
use Rattle.std.proofs.lemmas.List.Concat.{flat_map-append}
use Rattle.snap_base.specs.declared.ids.ActorId.{ActorId}
use Rattle.snap_base.specs.declared.ids.Bid.{Bid}
use Rattle.snap_base.specs.declared.ids.Tid.{Tid}
use Rattle.snap_base.specs.declared.transactions.State.{State}
use Rattle.snap_base.proofs.Lists.{all_join}
use Rattle.protocol.specs.Records as machine
use Rattle.protocol.specs.Records.{LogRecord, is_info, is_complete, is_commit, is_prepare, is_act_commit}
use Rattle.protocol.specs.Words as words
use Rattle.protocol_records.specs.Crash as crash
use Rattle.txn_records.specs.declared.records.Record.{Record}
use Rattle.txn_records.specs.declared.records.Record.TheVariants.{BatchInfo, BatchComplete, BatchDone, ActPrepare, ActDone}
use Rattle.txn_records.specs.declared.keys.Key.TheVariants as keys
use Rattle.txn_records.specs.Records.{key, actor_numbers, tid_numbers}
use Rattle.snap_recover.specs.Logs.{HasKey, all_of, tids_in, bids_in, commits_in, states_in, is_genesis, geneses}
use Rattle.snap_recover.specs.Opening.{greatest}
use Rattle.snap_recover.specs.Passes.{StateOver}
use Rattle.snap_recover.proofs.Lists.{contains_here, contains_there, contains_cases, contains_none}
use Rattle.snap_recover.proofs.Greatest.{greatest_of}
use Rattle.snap_recover.proofs.StatesOver.{over_quiet, over_counts}
use Rattle.log_set.specs.Told.{bid_of, tid_of, actor_of, tids_of, actor_ids, told, all_told}
use Rattle.recovery_laws.specs.Grown.{grown_from}

-- ---- joins

pub written_join : (xs ys : List LogRecord) → all_told (xs ++ ys) ≡ all_told xs ++ all_told ys
written_join [] ys = refl
written_join (x ∷ xs) ys = ap (λ z. told x ∷ z) (written_join xs ys)

-- ---- commits and completions

commit_bid : (k : ℕ) (b : Bid) → keys.Commit (bid_of k) ≡ keys.Commit b → k ≡ b.0
commit_bid k b e = let s : bid_of k ≡ b = cc e in ap (λ z. z.0) s

pub has_commit : (rs : List LogRecord) (b : Bid) → HasKey (all_told rs) (keys.Commit b) → list_any (is_commit b.0) rs ≡ true
has_commit [] b h = absurd (contains_none (keys.Commit b) h)
has_commit (machine.BatchInfo k actors tids ∷ rs) b h = elim (contains_cases (keys.Info (bid_of k)) (keys.Commit b) (map key (all_told rs)) h) [ inl e ↦ absurd (cc e) | inr g ↦ has_commit rs b g ]
has_commit (machine.BatchComplete k a st ∷ rs) b h = elim (contains_cases (keys.Complete (bid_of k) (record { 0 = a })) (keys.Commit b) (map key (all_told rs)) h) [ inl e ↦ absurd (cc e) | inr g ↦ has_commit rs b g ]
has_commit (machine.BatchDone k vs ∷ rs) b h = elim (contains_cases (keys.Commit (bid_of k)) (keys.Commit b) (map key (all_told rs)) h) [ inl e ↦ or_left (k == b.0) _ (eq-eqb k b.0 (commit_bid k b e)) | inr g ↦ or_right (k == b.0) _ (has_commit rs b g) ]
has_commit (machine.ActPrepare t a st ∷ rs) b h = elim (contains_cases (keys.Prepare (tid_of t) (actor_of a)) (keys.Commit b) (map key (all_told rs)) h) [ inl e ↦ absurd (cc e) | inr g ↦ has_commit rs b g ]
has_commit (machine.ActDone t m c v actors ∷ rs) b h = elim (contains_cases (keys.Act (tid_of t)) (keys.Commit b) (map key (all_told rs)) h) [ inl e ↦ absurd (cc e) | inr g ↦ has_commit rs b g ]

pub commit_has : (rs : List LogRecord) (k : ℕ) → list_any (is_commit k) rs ≡ true → HasKey (all_told rs) (keys.Commit (bid_of k))
commit_has [] k h = absurd (true≢false (sym h))
commit_has (machine.BatchInfo j actors tids ∷ rs) k h = contains_there (keys.Info (bid_of j)) (keys.Commit (bid_of k)) (map key (all_told rs)) (commit_has rs k h)
commit_has (machine.BatchComplete j a st ∷ rs) k h = contains_there (keys.Complete (bid_of j) (record { 0 = a })) (keys.Commit (bid_of k)) (map key (all_told rs)) (commit_has rs k h)
commit_has (machine.BatchDone j vs ∷ rs) k h = elim (or_cases (j == k) _ h) [
  | inl e ↦ subst (λ z. Contains (keys.Commit (bid_of j) ∷ map key (all_told rs)) (keys.Commit (bid_of z))) (eqb-true j k e) (contains_here (keys.Commit (bid_of j)) (map key (all_told rs)))
  | inr g ↦ contains_there (keys.Commit (bid_of j)) (keys.Commit (bid_of k)) (map key (all_told rs)) (commit_has rs k g)
]
commit_has (machine.ActPrepare t a st ∷ rs) k h = contains_there (keys.Prepare (tid_of t) (actor_of a)) (keys.Commit (bid_of k)) (map key (all_told rs)) (commit_has rs k h)
commit_has (machine.ActDone t m c v actors ∷ rs) k h = contains_there (keys.Act (tid_of t)) (keys.Commit (bid_of k)) (map key (all_told rs)) (commit_has rs k h)

pub complete_has : (rs : List LogRecord) (k c : ℕ) → list_any (is_complete k c) rs ≡ true → HasKey (all_told rs) (keys.Complete (bid_of k) (record { 0 = c }))
complete_has [] k c h = absurd (true≢false (sym h))
complete_has (machine.BatchInfo j actors tids ∷ rs) k c h = contains_there (keys.Info (bid_of j)) (keys.Complete (bid_of k) (record { 0 = c })) (map key (all_told rs)) (complete_has rs k c h)
complete_has (machine.BatchComplete j a st ∷ rs) k c h = elim (or_cases ((j == k) && (a == c)) _ h) [
  | inl e ↦ let v = and_parts (j == k) (a == c) e in
      subst (λ z. Contains (keys.Complete (bid_of j) (record { 0 = a }) ∷ map key (all_told rs)) (keys.Complete (bid_of z) (record { 0 = c }))) (eqb-true j k v.0)
      (subst (λ z. Contains (keys.Complete (bid_of j) (record { 0 = a }) ∷ map key (all_told rs)) (keys.Complete (bid_of j) (record { 0 = z }))) (eqb-true a c v.1) (contains_here (keys.Complete (bid_of j) (record { 0 = a })) (map key (all_told rs))))
  | inr g ↦ contains_there (keys.Complete (bid_of j) (record { 0 = a })) (keys.Complete (bid_of k) (record { 0 = c })) (map key (all_told rs)) (complete_has rs k c g)
]
complete_has (machine.BatchDone j vs ∷ rs) k c h = contains_there (keys.Commit (bid_of j)) (keys.Complete (bid_of k) (record { 0 = c })) (map key (all_told rs)) (complete_has rs k c h)
complete_has (machine.ActPrepare t a st ∷ rs) k c h = contains_there (keys.Prepare (tid_of t) (actor_of a)) (keys.Complete (bid_of k) (actor_of c)) (map key (all_told rs)) (complete_has rs k c h)
complete_has (machine.ActDone t m d v actors ∷ rs) k c h = contains_there (keys.Act (tid_of t)) (keys.Complete (bid_of k) (actor_of c)) (map key (all_told rs)) (complete_has rs k c h)

-- ---- ACTs

act_tid : (t : ℕ) (u : Tid) → keys.Act (tid_of t) ≡ keys.Act u → t ≡ u.0
act_tid t u e = let s : tid_of t ≡ u = cc e in ap (λ z. z.0) s

pub has_act : (rs : List LogRecord) (u : Tid) → HasKey (all_told rs) (keys.Act u) → list_any (is_act_commit u.0) rs ≡ true
has_act [] u h = absurd (contains_none (keys.Act u) h)
has_act (machine.BatchInfo k actors tids ∷ rs) u h = elim (contains_cases (keys.Info (bid_of k)) (keys.Act u) (map key (all_told rs)) h) [ inl e ↦ absurd (cc e) | inr g ↦ has_act rs u g ]
has_act (machine.BatchComplete k a st ∷ rs) u h = elim (contains_cases (keys.Complete (bid_of k) (actor_of a)) (keys.Act u) (map key (all_told rs)) h) [ inl e ↦ absurd (cc e) | inr g ↦ has_act rs u g ]
has_act (machine.BatchDone k vs ∷ rs) u h = elim (contains_cases (keys.Commit (bid_of k)) (keys.Act u) (map key (all_told rs)) h) [ inl e ↦ absurd (cc e) | inr g ↦ has_act rs u g ]
has_act (machine.ActPrepare t a st ∷ rs) u h = elim (contains_cases (keys.Prepare (tid_of t) (actor_of a)) (keys.Act u) (map key (all_told rs)) h) [ inl e ↦ absurd (cc e) | inr g ↦ has_act rs u g ]
has_act (machine.ActDone t m c v actors ∷ rs) u h = elim (contains_cases (keys.Act (tid_of t)) (keys.Act u) (map key (all_told rs)) h) [ inl e ↦ or_left (t == u.0) _ (eq-eqb t u.0 (act_tid t u e)) | inr g ↦ or_right (t == u.0) _ (has_act rs u g) ]

pub act_has : (rs : List LogRecord) (u : ℕ) → list_any (is_act_commit u) rs ≡ true → HasKey (all_told rs) (keys.Act (tid_of u))
act_has [] u h = absurd (true≢false (sym h))
act_has (machine.BatchInfo j actors tids ∷ rs) u h = contains_there (keys.Info (bid_of j)) (keys.Act (tid_of u)) (map key (all_told rs)) (act_has rs u h)
act_has (machine.BatchComplete j a st ∷ rs) u h = contains_there (keys.Complete (bid_of j) (actor_of a)) (keys.Act (tid_of u)) (map key (all_told rs)) (act_has rs u h)
act_has (machine.BatchDone j vs ∷ rs) u h = contains_there (keys.Commit (bid_of j)) (keys.Act (tid_of u)) (map key (all_told rs)) (act_has rs u h)
act_has (machine.ActPrepare t a st ∷ rs) u h = contains_there (keys.Prepare (tid_of t) (actor_of a)) (keys.Act (tid_of u)) (map key (all_told rs)) (act_has rs u h)
act_has (machine.ActDone t m c v actors ∷ rs) u h = elim (or_cases (t == u) _ h) [
  | inl e ↦ subst (λ z. Contains (keys.Act (tid_of t) ∷ map key (all_told rs)) (keys.Act (tid_of z))) (eqb-true t u e) (contains_here (keys.Act (tid_of t)) (map key (all_told rs)))
  | inr g ↦ contains_there (keys.Act (tid_of t)) (keys.Act (tid_of u)) (map key (all_told rs)) (act_has rs u g)
]

pub prepare_has : (rs : List LogRecord) (u c : ℕ) → list_any (is_prepare u c) rs ≡ true → HasKey (all_told rs) (keys.Prepare (tid_of u) (actor_of c))
prepare_has [] u c h = absurd (true≢false (sym h))
prepare_has (machine.BatchInfo j actors tids ∷ rs) u c h = contains_there (keys.Info (bid_of j)) (keys.Prepare (tid_of u) (actor_of c)) (map key (all_told rs)) (prepare_has rs u c h)
prepare_has (machine.BatchComplete j a st ∷ rs) u c h = contains_there (keys.Complete (bid_of j) (actor_of a)) (keys.Prepare (tid_of u) (actor_of c)) (map key (all_told rs)) (prepare_has rs u c h)
prepare_has (machine.BatchDone j vs ∷ rs) u c h = contains_there (keys.Commit (bid_of j)) (keys.Prepare (tid_of u) (actor_of c)) (map key (all_told rs)) (prepare_has rs u c h)
prepare_has (machine.ActPrepare t a st ∷ rs) u c h = elim (or_cases ((t == u) && (a == c)) _ h) [
  | inl e ↦ let v = and_parts (t == u) (a == c) e in
      subst (λ z. Contains (keys.Prepare (tid_of t) (actor_of a) ∷ map key (all_told rs)) (keys.Prepare (tid_of z) (actor_of c))) (eqb-true t u v.0)
      (subst (λ z. Contains (keys.Prepare (tid_of t) (actor_of a) ∷ map key (all_told rs)) (keys.Prepare (tid_of t) (actor_of z))) (eqb-true a c v.1) (contains_here (keys.Prepare (tid_of t) (actor_of a)) (map key (all_told rs))))
  | inr g ↦ contains_there (keys.Prepare (tid_of t) (actor_of a)) (keys.Prepare (tid_of u) (actor_of c)) (map key (all_told rs)) (prepare_has rs u c g)
]
prepare_has (machine.ActDone t m d v actors ∷ rs) u c h = contains_there (keys.Act (tid_of t)) (keys.Prepare (tid_of u) (actor_of c)) (map key (all_told rs)) (prepare_has rs u c h)

pub no_act : (rs : List LogRecord) (u : Tid) → list_any (is_act_commit u.0) rs ≡ false → AllByRecursion (λ r. ¬ (key r ≡ keys.Act u)) (all_told rs)
no_act [] u h = tt
no_act (machine.BatchInfo k actors tids ∷ rs) u h = ((λ e. absurd (cc e)), no_act rs u h)
no_act (machine.BatchComplete k a st ∷ rs) u h = ((λ e. absurd (cc e)), no_act rs u h)
no_act (machine.BatchDone k vs ∷ rs) u h = ((λ e. absurd (cc e)), no_act rs u h)
no_act (machine.ActPrepare t a st ∷ rs) u h = ((λ e. absurd (cc e)), no_act rs u h)
no_act (machine.ActDone t m c w actors ∷ rs) u h = let v = or_parts (t == u.0) (list_any (is_act_commit u.0) rs) h in ((λ e. true≢false (sym (eq-eqb t u.0 (act_tid t u e)) ∙ v.0)), no_act rs u v.1)

-- the ACT of a record, where it is one of an ACT
abbrev pub act_tids : LogRecord → List ℕ
act_tids (machine.BatchInfo k actors tids) = []
act_tids (machine.BatchComplete k a st) = []
act_tids (machine.BatchDone k vs) = []
act_tids (machine.ActPrepare t a st) = t ∷ []
act_tids (machine.ActDone t m c v actors) = t ∷ []

pub act_from : (rs : List LogRecord) (low u : ℕ) → AllByRecursion (λ r. AllByRecursion (λ n. low ≤ n) (act_tids r)) rs → list_any (is_act_commit u) rs ≡ true → low ≤ u
act_from [] low u h e = absurd (true≢false (sym e))
act_from (machine.BatchInfo j actors tids ∷ rs) low u h e = act_from rs low u h.1 e
act_from (machine.BatchComplete j a st ∷ rs) low u h e = act_from rs low u h.1 e
act_from (machine.BatchDone j vs ∷ rs) low u h e = act_from rs low u h.1 e
act_from (machine.ActPrepare t a st ∷ rs) low u h e = act_from rs low u h.1 e
act_from (machine.ActDone t m c v actors ∷ rs) low u h e = elim (or_cases (t == u) _ e) [ inl q ↦ omega (arith, h.0.0, eqb-true t u q) | inr q ↦ act_from rs low u h.1 q ]

-- ---- infos

pub no_info : (rs : List LogRecord) (b : Bid) → list_any (is_info b.0) rs ≡ false → AllByRecursion (λ r. ¬ (key r ≡ keys.Info b)) (all_told rs)
no_info [] b h = tt
no_info (machine.BatchInfo k actors tids ∷ rs) b h = let v = or_parts (k == b.0) (list_any (is_info b.0) rs) h in ((λ e. let s : bid_of k ≡ b = cc e in true≢false (sym (eq-eqb k b.0 (ap (λ z. z.0) s)) ∙ v.0)), no_info rs b v.1)
no_info (machine.BatchComplete k a st ∷ rs) b h = ((λ e. absurd (cc e)), no_info rs b h)
no_info (machine.BatchDone k vs ∷ rs) b h = ((λ e. absurd (cc e)), no_info rs b h)
no_info (machine.ActPrepare t a st ∷ rs) b h = ((λ e. absurd (cc e)), no_info rs b h)
no_info (machine.ActDone t m c v actors ∷ rs) b h = ((λ e. absurd (cc e)), no_info rs b h)

pub no_done : (rs : List LogRecord) (b : Bid) → list_any (is_commit b.0) rs ≡ false → AllByRecursion (λ r. ¬ (key r ≡ keys.Commit b)) (all_told rs)
no_done [] b h = tt
no_done (machine.BatchInfo k actors tids ∷ rs) b h = ((λ e. absurd (cc e)), no_done rs b h)
no_done (machine.BatchComplete k a st ∷ rs) b h = ((λ e. absurd (cc e)), no_done rs b h)
no_done (machine.BatchDone k vs ∷ rs) b h = let v = or_parts (k == b.0) (list_any (is_commit b.0) rs) h in ((λ e. true≢false (sym (eq-eqb k b.0 (commit_bid k b e)) ∙ v.0)), no_done rs b v.1)
no_done (machine.ActPrepare t a st ∷ rs) b h = ((λ e. absurd (cc e)), no_done rs b h)
no_done (machine.ActDone t m c v actors ∷ rs) b h = ((λ e. absurd (cc e)), no_done rs b h)

-- where the commit of a batch stands
pub record DoneAt (k : ℕ) (rs : List LogRecord) : Type 0 where
  pub values : List ℤ
  pub front : List LogRecord
  pub rest : List LogRecord
  pub splits : rs ≡ front ++ machine.BatchDone k values ∷ rest

done_behind : (k : ℕ) (r : LogRecord) (rs : List LogRecord) → DoneAt k rs → DoneAt k (r ∷ rs)
done_behind k r rs d = record { values = d.values; front = r ∷ d.front; rest = d.rest; splits = ap (λ l. r ∷ l) d.splits }

pub done_at : (k : ℕ) (rs : List LogRecord) → list_any (is_commit k) rs ≡ true → DoneAt k rs
done_at k [] h = absurd (true≢false (sym h))
done_at k (machine.BatchInfo j actors tids ∷ rs) h = done_behind k (machine.BatchInfo j actors tids) rs (done_at k rs h)
done_at k (machine.BatchComplete j a st ∷ rs) h = done_behind k (machine.BatchComplete j a st) rs (done_at k rs h)
done_at k (machine.BatchDone j vs ∷ rs) h = elim (or_cases (j == k) _ h) [
  | inl e ↦ record { values = vs; front = []; rest = rs; splits = ap (λ z. machine.BatchDone z vs ∷ rs) (eqb-true j k e) }
  | inr g ↦ done_behind k (machine.BatchDone j vs) rs (done_at k rs g)
]
done_at k (machine.ActPrepare t a st ∷ rs) h = done_behind k (machine.ActPrepare t a st) rs (done_at k rs h)
done_at k (machine.ActDone t m c v actors ∷ rs) h = done_behind k (machine.ActDone t m c v actors) rs (done_at k rs h)

-- the batch of a record, where it is one of a batch
abbrev pub batch_bids : LogRecord → List ℕ
batch_bids (machine.BatchInfo k actors tids) = k ∷ []
batch_bids (machine.BatchComplete k a st) = k ∷ []
batch_bids (machine.BatchDone k vs) = k ∷ []
batch_bids (machine.ActPrepare t a st) = []
batch_bids (machine.ActDone t m c v actors) = []

-- a record from a number on is of no batch below it
pub info_above : (rs : List LogRecord) (low k : ℕ) → k < low → AllByRecursion (λ r. AllByRecursion (λ n. low ≤ n) (batch_bids r)) rs → list_any (is_info k) rs ≡ false
info_above [] low k l h = refl
info_above (machine.BatchInfo j actors tids ∷ rs) low k l h = let e : (j == k) ≡ false = Rattle.std.proofs.lemmas.Bool.ne_eqb j k (λ q. omega (arith, q, l, h.0.0)) in rw (e, info_above rs low k l h.1) refl
info_above (machine.BatchComplete j a st ∷ rs) low k l h = info_above rs low k l h.1
info_above (machine.BatchDone j vs ∷ rs) low k l h = info_above rs low k l h.1
info_above (machine.ActPrepare t a st ∷ rs) low k l h = info_above rs low k l h.1
info_above (machine.ActDone t m c v actors ∷ rs) low k l h = info_above rs low k l h.1

pub commit_from : (rs : List LogRecord) (low k : ℕ) → AllByRecursion (λ r. AllByRecursion (λ n. low ≤ n) (batch_bids r)) rs → list_any (is_commit k) rs ≡ true → low ≤ k
commit_from [] low k h e = absurd (true≢false (sym e))
commit_from (machine.BatchInfo j actors tids ∷ rs) low k h e = commit_from rs low k h.1 e
commit_from (machine.BatchComplete j a st ∷ rs) low k h e = commit_from rs low k h.1 e
commit_from (machine.BatchDone j vs ∷ rs) low k h e = elim (or_cases (j == k) _ e) [ inl q ↦ omega (arith, h.0.0, eqb-true j k q) | inr q ↦ commit_from rs low k h.1 q ]
commit_from (machine.ActPrepare t a st ∷ rs) low k h e = commit_from rs low k h.1 e
commit_from (machine.ActDone t m c v actors ∷ rs) low k h e = commit_from rs low k h.1 e

-- ---- states

-- what counts, as it is written
abbrev pub Counted : (Record → Type 0) → ℕ → (ℕ → List LogRecord) → ℕ → LogRecord → Type 0
Counted P many logs a (machine.BatchInfo k actors tids) = Unit {0}
Counted P many logs a (machine.BatchComplete k c st) = (crash.tells_member_state many logs a (machine.BatchComplete k c st) ≡ true → P (BatchComplete (bid_of k) (actor_of c) st)) × (crash.tells_member_state many logs a (machine.BatchComplete k c st) ≡ false → ¬ P (BatchComplete (bid_of k) (record { 0 = c }) st))
Counted P many logs a (machine.BatchDone k vs) = Unit {0}
Counted P many logs a (machine.ActPrepare t c st) = (crash.tells_member_state many logs a (machine.ActPrepare t c st) ≡ true → P (ActPrepare (tid_of t) (actor_of c) st)) × (crash.tells_member_state many logs a (machine.ActPrepare t c st) ≡ false → ¬ P (ActPrepare (tid_of t) (actor_of c) st))
Counted P many logs a (machine.ActDone t m c v actors) = Unit {0}

-- infos and commits tell no state
pub record IsOfStates (P : Record → Type 0) : Type 0 where
  pub infos : (b : Bid) (actors : List ActorId) (tids : List Tid) → ¬ P (BatchInfo b actors tids)
  pub commits : (b : Bid) (values : List ℤ) → ¬ P (BatchDone b values)
  pub acts : (t : Tid) (m : Bid) (c : ℕ) (value : ℤ) (actors : List ActorId) → ¬ P (ActDone t m c value actors)

-- a record that tells a state, where it counts and where it does not
over_told : (P : Record → Type 0) (many a : ℕ) (logs : ℕ → List LogRecord) (first : State) (m : LogRecord) (rs : List LogRecord) (r : Record) (st : State) (front : List Record) (s : State) → states_in r ≡ st ∷ [] → ((x : State) → crash.state_told x m ≡ st)
    → (crash.tells_member_state many logs a m ≡ true → P r) → (crash.tells_member_state many logs a m ≡ false → ¬ P r)
    → ((f : List Record) (t : State) → StateOver P f first t → StateOver P (f ++ all_told rs) first (crash.last_told t (filter (crash.tells_member_state many logs a) rs)))
    → StateOver P front first s → StateOver P (front ++ r ∷ all_told rs) first (crash.last_told s (filter (crash.tells_member_state many logs a) (m ∷ rs)))
over_told P many a logs first m rs r st front s tells leaves counted not_counted go o = by (crash.tells_member_state many logs a m) refl
  where
    by : (v : Bool) → crash.tells_member_state many logs a m ≡ v → StateOver P (front ++ r ∷ all_told rs) first (crash.last_told s (if v then m ∷ filter (crash.tells_member_state many logs a) rs else filter (crash.tells_member_state many logs a) rs))
    by true e = subst (λ z. StateOver P z first (crash.last_told (crash.state_told s m) (filter (crash.tells_member_state many logs a) rs))) (append_assoc front (r ∷ []) (all_told rs))
        (go (front ++ r ∷ []) (crash.state_told s m) (subst (λ z. StateOver P (front ++ r ∷ []) first z) (sym (leaves s)) (over_counts P front r first st tells (counted e))))
    by false e = subst (λ z. StateOver P z first (crash.last_told s (filter (crash.tells_member_state many logs a) rs))) (append_assoc front (r ∷ []) (all_told rs))
        (go (front ++ r ∷ []) s (over_quiet P front (r ∷ []) first s (not_counted e, tt) o))

pub over_written : (P : Record → Type 0) (many a : ℕ) (logs : ℕ → List LogRecord) (first : State) (rs : List LogRecord) (front : List Record) (s : State) → IsOfStates P → AllByRecursion (Counted P many logs a) rs → StateOver P front first s
    → StateOver P (front ++ all_told rs) first (crash.last_told s (filter (crash.tells_member_state many logs a) rs))
over_written P many a logs first [] front s i h o = subst (λ z. StateOver P z first s) (sym (append-nil front)) o
over_written P many a logs first (machine.BatchInfo k actors tids ∷ rs) front s i h o =
    let r = BatchInfo (bid_of k) (actor_ids actors) (tids_of tids) in
    subst (λ z. StateOver P z first (crash.last_told s (filter (crash.tells_member_state many logs a) rs))) (append_assoc front (r ∷ []) (all_told rs))
    (over_written P many a logs first rs (front ++ r ∷ []) s i h.1 (over_quiet P front (r ∷ []) first s (i.infos (bid_of k) (actor_ids actors) (tids_of tids), tt) o))
over_written P many a logs first (machine.BatchDone k vs ∷ rs) front s i h o =
    let r = BatchDone (bid_of k) vs in
    subst (λ z. StateOver P z first (crash.last_told s (filter (crash.tells_member_state many logs a) rs))) (append_assoc front (r ∷ []) (all_told rs))
    (over_written P many a logs first rs (front ++ r ∷ []) s i h.1 (over_quiet P front (r ∷ []) first s (i.commits (bid_of k) vs, tt) o))
over_written P many a logs first (machine.ActDone t m c v actors ∷ rs) front s i h o =
    let r = ActDone (tid_of t) (bid_of m) c v (actor_ids actors) in
    subst (λ z. StateOver P z first (crash.last_told s (filter (crash.tells_member_state many logs a) rs))) (append_assoc front (r ∷ []) (all_told rs))
    (over_written P many a logs first rs (front ++ r ∷ []) s i h.1 (over_quiet P front (r ∷ []) first s (i.acts (tid_of t) (bid_of m) c v (actor_ids actors), tt) o))
over_written P many a logs first (machine.BatchComplete k c st ∷ rs) front s i h o = over_told P many a logs first (machine.BatchComplete k c st) rs (BatchComplete (bid_of k) (actor_of c) st) st front s refl (λ x. refl) h.0.0 h.0.1 (λ f t x. over_written P many a logs first rs f t i h.1 x) o
over_written P many a logs first (machine.ActPrepare t c st ∷ rs) front s i h o = over_told P many a logs first (machine.ActPrepare t c st) rs (ActPrepare (tid_of t) (actor_of c) st) st front s refl (λ x. refl) h.0.0 h.0.1 (λ f t x. over_written P many a logs first rs f t i h.1 x) o

-- ---- numbers

pub same_tids : (ts : List ℕ) → tid_numbers (tids_of ts) ≡ ts
same_tids [] = refl
same_tids (t ∷ ts) = ap (λ z. t ∷ z) (same_tids ts)

pub same_actors : (as' : List ℕ) → actor_numbers (actor_ids as') ≡ as'
same_actors [] = refl
same_actors (a ∷ as') = ap (λ z. a ∷ z) (same_actors as')

pub tids_written : (rs : List LogRecord) → flat_map tids_in (all_told rs) ≡ flat_map crash.tids_in rs
tids_written [] = refl
tids_written (machine.BatchInfo k actors tids ∷ rs) = ap (λ z. z ++ flat_map tids_in (all_told rs)) (same_tids tids) ∙ ap (λ z. tids ++ z) (tids_written rs)
tids_written (machine.BatchComplete k a st ∷ rs) = tids_written rs
tids_written (machine.BatchDone k vs ∷ rs) = tids_written rs
tids_written (machine.ActPrepare t a st ∷ rs) = ap (λ z. t ∷ z) (tids_written rs)
tids_written (machine.ActDone t m c v actors ∷ rs) = ap (λ z. t ∷ z) (tids_written rs)

pub bids_written : (rs : List LogRecord) → flat_map bids_in (all_told rs) ≡ flat_map crash.bids_in rs
bids_written [] = refl
bids_written (machine.BatchInfo k actors tids ∷ rs) = ap (λ z. k ∷ z) (bids_written rs)
bids_written (machine.BatchComplete k a st ∷ rs) = ap (λ z. k ∷ z) (bids_written rs)
bids_written (machine.BatchDone k vs ∷ rs) = ap (λ z. k ∷ z) (bids_written rs)
bids_written (machine.ActPrepare t a st ∷ rs) = bids_written rs
bids_written (machine.ActDone t m c v actors ∷ rs) = ap (λ z. m ∷ z) (bids_written rs)

pub cs_written : (rs : List LogRecord) → flat_map commits_in (all_told rs) ≡ flat_map crash.cs_in rs
cs_written [] = refl
cs_written (machine.BatchInfo k actors tids ∷ rs) = cs_written rs
cs_written (machine.BatchComplete k a st ∷ rs) = cs_written rs
cs_written (machine.BatchDone k vs ∷ rs) = cs_written rs
cs_written (machine.ActPrepare t a st ∷ rs) = cs_written rs
cs_written (machine.ActDone t m c v actors ∷ rs) = ap (λ z. c ∷ z) (cs_written rs)

pub no_genesis : (rs : List LogRecord) → filter is_genesis (all_told rs) ≡ []
no_genesis [] = refl
no_genesis (machine.BatchInfo k actors tids ∷ rs) = no_genesis rs
no_genesis (machine.BatchComplete k a st ∷ rs) = no_genesis rs
no_genesis (machine.BatchDone k vs ∷ rs) = no_genesis rs
no_genesis (machine.ActPrepare t a st ∷ rs) = no_genesis rs
no_genesis (machine.ActDone t m c v actors ∷ rs) = no_genesis rs

-- ---- all logs

pub grown_length : (n : ℕ) (earlier : List (List Record)) (logs : ℕ → List LogRecord) → length (grown_from n earlier logs) ≡ length earlier
grown_length n [] logs = refl
grown_length n (rs ∷ rss) logs = ap suc (grown_length (n + 1) rss logs)

pub grown_at : (n i : ℕ) (earlier : List (List Record)) (logs : ℕ → List LogRecord) → i < length earlier → slice_index_or (grown_from n earlier logs) i [] ≡ slice_index_or earlier i [] ++ all_told (logs (n + i))
grown_at n i [] logs l = absurd (omega (arith, l))
grown_at n zero (rs ∷ rss) logs l = let e : n ≡ n + 0 = omega arith in ap (λ z. rs ++ all_told (logs z)) e
grown_at n (suc i) (rs ∷ rss) logs l = let e : n + 1 + i ≡ n + suc i = omega arith in grown_at (n + 1) i rss logs (omega (arith, l)) ∙ ap (λ z. slice_index_or rss i [] ++ all_told (logs z)) e

pub grown_genesis : (n : ℕ) (earlier : List (List Record)) (logs : ℕ → List LogRecord) → geneses (grown_from n earlier logs) ≡ geneses earlier
grown_genesis n [] logs = refl
grown_genesis n (rs ∷ rss) logs =
    filter_join (rs ++ all_told (logs n)) (all_of (grown_from (n + 1) rss logs))
    ∙ (ap (λ z. z ++ geneses (grown_from (n + 1) rss logs)) (filter_join rs (all_told (logs n)) ∙ (ap (λ z. filter is_genesis rs ++ z) (no_genesis (logs n)) ∙ append-nil (filter is_genesis rs)))
    ∙ (ap (λ z. filter is_genesis rs ++ z) (grown_genesis (n + 1) rss logs) ∙ sym (filter_join rs (all_of rss))))
  where
    filter_join : (xs ys : List Record) → filter is_genesis (xs ++ ys) ≡ filter is_genesis xs ++ filter is_genesis ys
    filter_join [] ys = refl
    filter_join (x ∷ xs) ys = by (is_genesis x) (filter_join xs ys)
      where
        by : (v : Bool) → filter is_genesis (xs ++ ys) ≡ filter is_genesis xs ++ filter is_genesis ys → (if v then x ∷ filter is_genesis (xs ++ ys) else filter is_genesis (xs ++ ys)) ≡ (if v then x ∷ filter is_genesis xs else filter is_genesis xs) ++ filter is_genesis ys
        by true e = ap (λ z. x ∷ z) e
        by false e = e

pub grown_all : (P : Record → Type 0) (n : ℕ) (earlier : List (List Record)) (logs : ℕ → List LogRecord) → AllByRecursion P (all_of earlier) → ((l : ℕ) → AllByRecursion P (all_told (logs l))) → AllByRecursion P (all_of (grown_from n earlier logs))
grown_all P n [] logs h k = tt
grown_all P n (rs ∷ rss) logs h k = all_join P (rs ++ all_told (logs n)) (all_of (grown_from (n + 1) rss logs)) (all_join P rs (all_told (logs n)) (Rattle.snap_base.proofs.Lists.all_front P rs (all_of rss) h) (k n)) (grown_all P (n + 1) rss logs (Rattle.snap_base.proofs.Lists.all_back P rs (all_of rss) h) k)

-- so many numbers from this one on, and the logs there
pub all_from : (LogRecord → List ℕ) → (ℕ → List LogRecord) → ℕ → ℕ → List ℕ
all_from numbers logs n zero = []
all_from numbers logs n (suc k) = flat_map numbers (logs n) ++ all_from numbers logs (n + 1) k

pub grown_greatest : (f : Record → List ℕ) (g : LogRecord → List ℕ) (n : ℕ) (earlier : List (List Record)) (logs : ℕ → List LogRecord) → ((l : ℕ) → flat_map f (all_told (logs l)) ≡ flat_map g (logs l))
    → greatest (flat_map f (all_of (grown_from n earlier logs))) ≡ max (greatest (flat_map f (all_of earlier))) (greatest (all_from g logs n (length earlier)))
unfolding all_from
grown_greatest f g n [] logs k = refl
grown_greatest f g n (rs ∷ rss) logs k = omega (
  arith,
  greatest_of f (rs ++ all_told (logs n)) (all_of (grown_from (n + 1) rss logs)),
  greatest_of f rs (all_told (logs n)),
  ap greatest (k n),
  grown_greatest f g (n + 1) rss logs k,
  greatest_of f rs (all_of rss),
  Rattle.snap_recover.proofs.Greatest.greatest_append (flat_map g (logs n)) (all_from g logs (n + 1) (length rss)),
)

same_greatest : (ns : List ℕ) → greatest ns ≡ words.greatest ns
same_greatest [] = refl
same_greatest (n ∷ ns) = ap (max n) (same_greatest ns)

from_join : (g : LogRecord → List ℕ) (logs : ℕ → List LogRecord) (n k : ℕ) → all_from g logs n (k + 1) ≡ all_from g logs n k ++ flat_map g (logs (n + k))
unfolding all_from
from_join g logs n zero = let e : n ≡ n + 0 = omega arith in append-nil (flat_map g (logs n)) ∙ ap (λ z. flat_map g (logs z)) e
from_join g logs n (suc k) =
    let e : n + 1 + k ≡ n + suc k = omega arith in
    let i : suc k + 1 ≡ suc (k + 1) = omega arith in
    ap (all_from g logs n) i ∙ (ap (λ z. flat_map g (logs n) ++ z) (from_join g logs (n + 1) k ∙ ap (λ z. all_from g logs (n + 1) k ++ flat_map g (logs z)) e) ∙ sym (append_assoc (flat_map g (logs n)) (all_from g logs (n + 1) k) (flat_map g (logs (n + suc k)))))

pub from_below : (g : LogRecord → List ℕ) (logs : ℕ → List LogRecord) (n : ℕ) → all_from g logs 0 n ≡ flat_map (λ l. flat_map g (logs l)) (words.below n)
unfolding all_from
from_below g logs zero = refl
from_below g logs (suc n) =
    let i : suc n ≡ n + 1 = omega arith in
    let e : 0 + n ≡ n = omega arith in
    ap (all_from g logs 0) i ∙ (from_join g logs 0 n ∙ (ap (λ z. all_from g logs 0 n ++ flat_map g (logs z)) e ∙ (ap (λ z. z ++ flat_map g (logs n)) (from_below g logs n)
    ∙ sym (flat_map-append (λ l. flat_map g (logs l)) (words.below n) (n ∷ []) ∙ ap (λ z. flat_map (λ l. flat_map g (logs l)) (words.below n) ++ z) (append-nil (flat_map g (logs n)))))))

pub greatest_written : (g : LogRecord → List ℕ) (logs : ℕ → List LogRecord) (n : ℕ) → greatest (all_from g logs 0 n) ≡ words.greatest (flat_map (λ l. flat_map g (logs l)) (words.below n))
greatest_written g logs n = same_greatest (all_from g logs 0 n) ∙ ap words.greatest (from_below g logs n)
