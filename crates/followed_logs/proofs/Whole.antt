-- What commits that were read rest on is there, as it is written.
use Rattle.std.specs.Prelude.{◌≡◌, refl, ℕ, ◌≤◌, ◌%◌, Bool, true, false, Some, List, [], ◌∷◌, ◌++◌}
use Rattle.std.specs.List.{AllByRecursion, list_any}
use Rattle.std.proofs.Common.{arith, sym, ap, subst, inl, inr, ◌∙◌, append_assoc}
use Rattle.std.proofs.lemmas.Bool.{true≢false, or_cases, or_left, or_right, eq-eqb, false_from_ne_true}
use Rattle.snap_base.specs.declared.transactions.State.{State}
use Rattle.snap_base.proofs.Lists.{all_front}
use Rattle.protocol.specs.Records as machine
use Rattle.protocol.specs.Records.{LogRecord, is_info, is_complete, is_commit, is_prepare, is_act_commit}
use Rattle.protocol.specs.Words.{count}
use Rattle.protocol_records.specs.Crash.{BatchIsWhole, ActIsWhole}
use Rattle.protocol_records.proofs.recording.FewLists.{count_more}
use Rattle.protocol_theorems.proofs.quiet.SubPlaces.{count_join}
use Rattle.txn_records.specs.declared.records.Record.{Record}
use Rattle.txn_records.specs.declared.records.Record.TheVariants.{BatchInfo}
use Rattle.txn_records.specs.declared.keys.Key.{Key}
use Rattle.txn_records.specs.declared.keys.Key.TheVariants as keys
use Rattle.txn_records.specs.Records.{key}
use Rattle.snap_recover.specs.Logs.{HasKey, log_of, IsLastOf}
use Rattle.snap_recover.specs.Opening.{HasItsValues, HasCompleted, IsBatchWhole, HasPrepared, IsActWhole}
use Rattle.snap_recover.proofs.Growing.{has_right}
use Rattle.snap_recover.proofs.Lists.{all_middle}
use Rattle.log_set.specs.Told.{bid_of, tid_of, tids_of, actor_ids, all_told}
use Rattle.recovery_laws.specs.Grown.{grown}
use Rattle.recovery_laws.proofs.WrittenLists.{written_join, complete_has, prepare_has, no_act, no_info, no_done}
use Rattle.followed_logs.proofs.Written.{IsGenesisOf, OnlyGenesis, log_is, only_log}

-- ---- at most one

any_counts : (p : LogRecord → Bool) (xs : List LogRecord) → list_any p xs ≡ true → 1 ≤ count p xs
any_counts p [] e = absurd (true≢false (sym e))
any_counts p (x ∷ xs) e = elim (or_cases (p x) (list_any p xs) e) [
  | inl q ↦ omega (arith, count_more p x xs q)
  | inr q ↦ omega (arith, count_join p (x ∷ []) xs, any_counts p xs q)
]

-- where one is in front, none is behind
pub none_behind : (p : LogRecord → Bool) (xs ys : List LogRecord) → list_any p xs ≡ true → count p (xs ++ ys) ≤ 1 → list_any p ys ≡ false
none_behind p xs ys e l = false_from_ne_true (list_any p ys) (λ q. omega (arith, l, count_join p xs ys, any_counts p xs e, any_counts p ys q))

none_after : (p : LogRecord → Bool) (front rest : List LogRecord) (r : LogRecord) → p r ≡ true → count p (front ++ r ∷ rest) ≤ 1 → list_any p rest ≡ false
none_after p front rest r e l = false_from_ne_true (list_any p rest) (λ q. omega (arith, l, count_join p front (r ∷ rest), count_more p r rest e, any_counts p rest q))

pub any_middle : (p : LogRecord → Bool) (front rest : List LogRecord) (r : LogRecord) → p r ≡ true → list_any p (front ++ r ∷ rest) ≡ true
any_middle p [] rest r e = or_left (p r) (list_any p rest) e
any_middle p (x ∷ front) rest r e = or_right (p x) (list_any p (front ++ r ∷ rest)) (any_middle p front rest r e)

-- ---- what is whole

-- of one log each such record is there once
module _ (many : ℕ) (first : List State) (begun : List (List Record)) (logs : ℕ → List LogRecord) (some : 1 ≤ many) (only : OnlyGenesis many first begun) where
  completes_in : (k : ℕ) (actors : List ℕ) → AllByRecursion (λ a. list_any (is_complete k a) (logs (a % many)) ≡ true) actors → AllByRecursion (HasCompleted (grown begun logs) (bid_of k)) (actor_ids actors)
  completes_in k [] h = tt
  completes_in k (a ∷ actors) h = (
    subst (λ z. HasKey z (keys.Complete (bid_of k) (record { 0 = a }))) (sym (log_is many first begun logs a some only)) (has_right (log_of begun a) (all_told (logs (a % many))) (keys.Complete (bid_of k) (record { 0 = a })) (complete_has (logs (a % many)) k a h.0)),
    completes_in k actors h.1,
  )

  prepares_in : (t : ℕ) (actors : List ℕ) → AllByRecursion (λ a. list_any (is_prepare t a) (logs (a % many)) ≡ true) actors → AllByRecursion (HasPrepared (grown begun logs) (tid_of t)) (actor_ids actors)
  prepares_in t [] h = tt
  prepares_in t (a ∷ actors) h = (
    subst (λ z. HasKey z (keys.Prepare (tid_of t) (record { 0 = a }))) (sym (log_is many first begun logs a some only)) (has_right (log_of begun a) (all_told (logs (a % many))) (keys.Prepare (tid_of t) (record { 0 = a })) (prepare_has (logs (a % many)) t a h.0)),
    prepares_in t actors h.1,
  )

  -- what stands in the log behind these records
  splits_so : (n : ℕ) (front rest : List LogRecord) (r : LogRecord) → logs (n % many) ≡ front ++ r ∷ rest → log_of (grown begun logs) n ≡ (log_of begun n ++ all_told front) ++ all_told (r ∷ rest)
  splits_so n front rest r e =
      log_is many first begun logs n some only
      ∙ (ap (λ z. log_of begun n ++ all_told z) e
      ∙ (ap (λ z. log_of begun n ++ z) (written_join front (r ∷ rest)) ∙ sym (append_assoc (log_of begun n) (all_told front) (all_told (r ∷ rest)))))

  pub batch_whole : (k : ℕ) → count (is_info k) (logs (k % many)) ≤ 1 → BatchIsWhole many logs k → IsBatchWhole (grown begun logs) (bid_of k)
  batch_whole k one x =
      let r = machine.BatchInfo k x.actors x.tids in
      let none = none_after (is_info k) x.front x.rest r (eq-eqb k k refl) (subst (λ z. count (is_info k) z ≤ 1) x.info one) in (
        actor_ids x.actors,
        tids_of x.tids,
        (log_of begun k ++ all_told x.front, all_told x.rest, splits_so k x.front x.rest r x.info, refl, no_info x.rest (bid_of k) none),
        completes_in k x.actors x.completes,
      )

  pub act_whole : (t : ℕ) → count (is_act_commit t) (logs (t % many)) ≤ 1 → ActIsWhole many logs t → IsActWhole (grown begun logs) (tid_of t)
  act_whole t one x =
      let r = machine.ActDone t x.m x.c x.v x.actors in
      let none = none_after (is_act_commit t) x.front x.rest r (eq-eqb t t refl) (subst (λ z. count (is_act_commit t) z ≤ 1) x.commit one) in (
        bid_of x.m,
        x.c,
        Some x.v,
        actor_ids x.actors,
        (log_of begun t ++ all_told x.front, all_told x.rest, splits_so t x.front x.rest r x.commit, refl, no_act x.rest (tid_of t) none),
        prepares_in t x.actors x.prepares,
      )

-- ---- the last of some records

last_behind : (P : Record → Type 0) (gs rs : List Record) (r : Record) → AllByRecursion (λ x. ¬ P x) gs → IsLastOf P (gs ++ rs) r → IsLastOf P rs r
last_behind P [] rs r h l = l
last_behind P (g ∷ gs) rs r h ([], behind, e, p, q) = let i : r ≡ g = cc e in absurd (h.0 (subst P i p))
last_behind P (g ∷ gs) rs r h (f ∷ fs, behind, e, p, q) = let t : gs ++ rs ≡ fs ++ r ∷ behind = cc e in last_behind P gs rs r h.1 (fs, behind, t, p, q)

last_front : (P : Record → Type 0) (rs more : List Record) (r : Record) → AllByRecursion (λ x. ¬ P x) more → IsLastOf P (rs ++ more) r → IsLastOf P rs r
last_front P [] more r h (front, behind, e, p, q) = absurd (all_middle (λ x. ¬ P x) front r behind (subst (AllByRecursion (λ x. ¬ P x)) e h) p)
last_front P (x ∷ rs) more r h ([], behind, e, p, q) =
    let i : x ≡ r = cc e in
    let t : behind ≡ rs ++ more = cc e in
    ([], rs, ap (λ z. z ∷ rs) i, p, all_front (λ y. ¬ P y) rs more (subst (AllByRecursion (λ y. ¬ P y)) t q))
last_front P (x ∷ rs) more r h (f ∷ fs, behind, e, p, q) =
    let i : x ≡ f = cc e in
    let t : rs ++ more ≡ fs ++ r ∷ behind = cc e in
    let s = last_front P rs more r h (fs, behind, t, p, q) in
    (f ∷ s.0, s.1, ap (λ z. z ∷ rs) i ∙ ap (λ z. f ∷ z) s.2, s.3, s.4)

last_added : (P : Record → Type 0) (gs rs : List Record) (r : Record) → IsLastOf P rs r → IsLastOf P (gs ++ rs) r
last_added P gs rs r (front, behind, e, p, q) = (gs ++ front, behind, ap (λ z. gs ++ z) e ∙ sym (append_assoc gs front (r ∷ behind)), p, q)

not_genesis : (first : List State) (k : Key) (rs : List Record) → AllByRecursion (IsGenesisOf first) rs → (keys.Genesis ≡ k → ⊥) → AllByRecursion (λ r. ¬ (key r ≡ k)) rs
not_genesis first k [] h n = tt
not_genesis first k (r ∷ rs) h n = ((λ e. n (sym (ap key h.0.1) ∙ e)), not_genesis first k rs h.1 n)

-- ---- its values

module _ (many : ℕ) (first : List State) (begun early : List (List Record)) (logs all : ℕ → List LogRecord) (some : 1 ≤ many) (only : OnlyGenesis many first begun) (bare : OnlyGenesis many first early) where
  -- what is the last of all that there is, and stood there earlier, was the last then
  last_then : (n : ℕ) (k : Key) (r : Record) (more : List LogRecord) → (keys.Genesis ≡ k → ⊥) → all (n % many) ≡ logs (n % many) ++ more → AllByRecursion (λ x. ¬ (key x ≡ k)) (all_told more)
      → IsLastOf (λ x. key x ≡ k) (log_of (grown begun all) n) r → IsLastOf (λ x. key x ≡ k) (log_of (grown early logs) n) r
  last_then n k r more other e none l =
      let P : Record → Type 0 = λ x. key x ≡ k in
      let a = last_behind P (log_of begun n) (all_told (all (n % many))) r (not_genesis first k (log_of begun n) (only_log many first begun n only) other) (subst (λ z. IsLastOf P z r) (log_is many first begun all n some only) l) in
      let b = last_front P (all_told (logs (n % many))) (all_told more) r none (subst (λ z. IsLastOf P z r) (ap all_told e ∙ written_join (logs (n % many)) more) a) in
      subst (λ z. IsLastOf P z r) (sym (log_is many first early logs n some bare)) (last_added P (log_of early n) (all_told (logs (n % many))) r b)

  pub its_values : (k : ℕ) (more : List LogRecord) → all (k % many) ≡ logs (k % many) ++ more → list_any (is_info k) (logs (k % many)) ≡ true → list_any (is_commit k) (logs (k % many)) ≡ true
      → count (is_info k) (all (k % many)) ≤ 1 → count (is_commit k) (all (k % many)) ≤ 1 → HasItsValues (grown begun all) (bid_of k) → HasItsValues (grown early logs) (bid_of k)
  its_values k more e info commit one once v = record {
    actors = v.actors;
    tids = v.tids;
    commit = v.commit;
    info_is = last_then k (keys.Info (bid_of k)) (BatchInfo (bid_of k) v.actors v.tids) more (λ q. cc q) e
        (no_info more (bid_of k) (none_behind (is_info k) (logs (k % many)) more info (subst (λ z. count (is_info k) z ≤ 1) e one))) v.info_is;
    commit_is = last_then k (keys.Commit (bid_of k)) v.commit more (λ q. cc q) e
        (no_done more (bid_of k) (none_behind (is_commit k) (logs (k % many)) more commit (subst (λ z. count (is_commit k) z ≤ 1) e once))) v.commit_is;
    fits = v.fits;
  }
