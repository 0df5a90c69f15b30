-- What is in is whole in logs that a run grew.
use Rattle.std.specs.Prelude.{◌≡◌, refl, ℕ, ℤ, Option, Some, ◌<◌, ◌≤◌, ◌%◌, Bool, true, false, ◌||◌, if◌then◌else◌, List, [], ◌∷◌, ◌++◌, length, filter}
use Rattle.std.specs.List.{AllByRecursion, list_any}
use Rattle.std.proofs.Common.{arith, sym, ap, subst, inl, inr, ◌∙◌, append_assoc}
use Rattle.std.proofs.lemmas.Bool.{true≢false, eq-eqb, false_from_ne_true}
use Rattle.snap_base.specs.declared.ids.ActorId.{ActorId}
use Rattle.snap_base.specs.declared.ids.Bid.{Bid}
use Rattle.snap_base.specs.declared.ids.Tid.{Tid}
use Rattle.snap_base.proofs.Lists.{all_join, weaker}
use Rattle.protocol.specs.Fixed.{Fixed}
use Rattle.protocol.specs.Records as machine
use Rattle.protocol.specs.Records.{LogRecord, is_info, is_complete, is_commit, is_prepare, is_act_commit}
use Rattle.protocol.specs.Parts.{Machine}
use Rattle.protocol.specs.Words.{count}
use Rattle.protocol_records.specs.RecordLaws.{OfInfo, OfCommit, OfActCommit}
use Rattle.protocol_records.proofs.recording.FewLists.{count_more}
use Rattle.txn_records.specs.declared.records.Record.{Record}
use Rattle.txn_records.specs.declared.records.Record.TheVariants.{BatchInfo, BatchDone, ActDone}
use Rattle.txn_records.specs.declared.keys.Key.TheVariants as keys
use Rattle.txn_records.specs.Records.{key}
use Rattle.snap_recover.specs.declared.openings.Opening.{Opening}
use Rattle.snap_recover.specs.Logs.{HasKey, log_of}
use Rattle.snap_recover.specs.Opening.{IsIn, IsInfoOf, IsCommitOf, HasCompleted, IsBatchWhole, IsActIn, IsActOf, act_record, HasPrepared, IsActWhole}
use Rattle.snap_recover.proofs.Growing.{has_left, has_right}
use Rattle.log_set.specs.Told.{bid_of, tid_of, actor_of, tids_of, actor_ids, all_told}
use Rattle.recovery_laws.specs.Grown.{grown}
use Rattle.recovery_laws.proofs.WrittenLists.{written_join, complete_has, prepare_has, no_act, no_info, no_done, info_above}
use Rattle.recovery_laws.proofs.KnownLogs.{Known, log_grown, in_old, in_cases, new_low, act_old, act_cases, new_act_low}

-- ---- what was there stays

pub completed_stays : {C : Type 0} (w : Fixed C) (earlier : List (List Record)) (o : Opening) (s : Machine C) (logs : ℕ → List LogRecord) (b : Bid) (a : ActorId) → Known w earlier o s logs → HasCompleted earlier b a → HasCompleted (grown earlier logs) b a
completed_stays w earlier o s logs b a g h = subst (λ z. HasKey z (keys.Complete b a)) (sym (log_grown w earlier o s logs a.0 g)) (has_left (log_of earlier a.0) (all_told (logs (a.0 % w.text.logs))) (keys.Complete b a) h)

pub info_stays : {C : Type 0} (w : Fixed C) (earlier : List (List Record)) (o : Opening) (s : Machine C) (logs : ℕ → List LogRecord) (b : Bid) (actors : List ActorId) (tids : List Tid) → Known w earlier o s logs → b.0 < w.text.opening.next_bid → IsInfoOf earlier b actors tids → IsInfoOf (grown earlier logs) b actors tids
info_stays w earlier o s logs b actors tids g l (front, behind, e, p, quiet) =
    let more = all_told (logs (b.0 % w.text.logs)) in
    let n = no_info (logs (b.0 % w.text.logs)) b (info_above (logs (b.0 % w.text.logs)) w.text.opening.next_bid b.0 l (g.low (b.0 % w.text.logs))) in
    (front, behind ++ more, log_grown w earlier o s logs b.0 g ∙ (ap (λ z. z ++ more) e ∙ append_assoc front (BatchInfo b actors tids ∷ behind) more), p, all_join (λ r. ¬ (key r ≡ keys.Info b)) behind more quiet n)

pub done_stays : {C : Type 0} (w : Fixed C) (earlier : List (List Record)) (o : Opening) (s : Machine C) (logs : ℕ → List LogRecord) (b : Bid) (r : Record) → Known w earlier o s logs → b.0 < w.text.opening.next_bid → IsCommitOf earlier b r → IsCommitOf (grown earlier logs) b r
done_stays w earlier o s logs b r g l (front, behind, e, p, quiet) =
    let more = all_told (logs (b.0 % w.text.logs)) in
    let none : list_any (is_commit b.0) (logs (b.0 % w.text.logs)) ≡ false = false_from_ne_true (list_any (is_commit b.0) (logs (b.0 % w.text.logs))) (λ q. omega (arith, l, new_low w earlier o s logs b.0 g q)) in
    let n = no_done (logs (b.0 % w.text.logs)) b none in
    (front, behind ++ more, log_grown w earlier o s logs b.0 g ∙ (ap (λ z. z ++ more) e ∙ append_assoc front (r ∷ behind) more), p, all_join (λ r. ¬ (key r ≡ keys.Commit b)) behind more quiet n)

-- ---- the infos and the commits of the run

count_any : {X : Type 0} (p : X → Bool) (xs : List X) → list_any p xs ≡ true → 1 ≤ count p xs
count_any p [] e = absurd (true≢false (sym e))
count_any p (x ∷ xs) e = by (p x) refl e (count_any p xs)
  where
    by : (b : Bool) → p x ≡ b → (b || list_any p xs) ≡ true → (list_any p xs ≡ true → 1 ≤ count p xs) → 1 ≤ length (if b then x ∷ filter p xs else filter p xs)
    by true f e k = omega arith
    by false f e k = k e

pub count_behind : {X : Type 0} (p : X → Bool) (front behind : List X) → count p behind ≤ count p (front ++ behind)
count_behind p [] behind = omega arith
count_behind p (x ∷ xs) behind = by (p x) (count_behind p xs behind)
  where
    by : (b : Bool) → count p behind ≤ length (filter p (xs ++ behind)) → count p behind ≤ length (if b then x ∷ filter p (xs ++ behind) else filter p (xs ++ behind))
    by true k = omega (arith, k)
    by false k = k

pub info_new : {C : Type 0} (w : Fixed C) (earlier : List (List Record)) (o : Opening) (s : Machine C) (logs : ℕ → List LogRecord) (k : ℕ) (actors tids : List ℕ) (front rest : List LogRecord) → Known w earlier o s logs → logs (k % w.text.logs) ≡ front ++ machine.BatchInfo k actors tids ∷ rest
    → IsInfoOf (grown earlier logs) (bid_of k) (actor_ids actors) (tids_of tids)
info_new w earlier o s logs k actors tids front rest g e =
    let r = machine.BatchInfo k actors tids in
    let one : count (is_info k) (front ++ machine.BatchInfo k actors tids ∷ rest) ≤ 1 = subst (λ z. count (is_info k) z ≤ 1) e (g.once (OfInfo k) (k % w.text.logs)) in
    let none : list_any (is_info k) rest ≡ false = false_from_ne_true (list_any (is_info k) rest) (λ q. omega (arith, one, count_behind (is_info k) front (r ∷ rest), count_more (is_info k) r rest (eq-eqb k k refl), count_any (is_info k) rest q)) in
    (log_of earlier k ++ all_told front, all_told rest, log_grown w earlier o s logs k g ∙ (ap (λ z. log_of earlier k ++ all_told z) e ∙ (ap (λ z. log_of earlier k ++ z) (written_join front (r ∷ rest)) ∙ sym (append_assoc (log_of earlier k) (all_told front) (BatchInfo (bid_of k) (actor_ids actors) (tids_of tids) ∷ all_told rest)))), refl, no_info rest (bid_of k) none)

pub done_new : {C : Type 0} (w : Fixed C) (earlier : List (List Record)) (o : Opening) (s : Machine C) (logs : ℕ → List LogRecord) (k : ℕ) (values : List ℤ) (front rest : List LogRecord) → Known w earlier o s logs → logs (k % w.text.logs) ≡ front ++ machine.BatchDone k values ∷ rest
    → IsCommitOf (grown earlier logs) (bid_of k) (BatchDone (bid_of k) values)
done_new w earlier o s logs k values front rest g e =
    let r = machine.BatchDone k values in
    let one : count (is_commit k) (front ++ machine.BatchDone k values ∷ rest) ≤ 1 = subst (λ z. count (is_commit k) z ≤ 1) e (g.once (OfCommit k) (k % w.text.logs)) in
    let none : list_any (is_commit k) rest ≡ false = false_from_ne_true (list_any (is_commit k) rest) (λ q. omega (arith, one, count_behind (is_commit k) front (r ∷ rest), count_more (is_commit k) r rest (eq-eqb k k refl), count_any (is_commit k) rest q)) in
    (log_of earlier k ++ all_told front, all_told rest, log_grown w earlier o s logs k g ∙ (ap (λ z. log_of earlier k ++ all_told z) e ∙ (ap (λ z. log_of earlier k ++ z) (written_join front (r ∷ rest)) ∙ sym (append_assoc (log_of earlier k) (all_told front) (BatchDone (bid_of k) values ∷ all_told rest)))), refl, no_done rest (bid_of k) none)

completed_new : {C : Type 0} (w : Fixed C) (earlier : List (List Record)) (o : Opening) (s : Machine C) (logs : ℕ → List LogRecord) (k : ℕ) (as' : List ℕ) → Known w earlier o s logs → AllByRecursion (λ a. list_any (is_complete k a) (logs (a % w.text.logs)) ≡ true) as' → AllByRecursion (HasCompleted (grown earlier logs) (bid_of k)) (actor_ids as')
completed_new w earlier o s logs k [] g h = tt
completed_new w earlier o s logs k (a ∷ as') g h = (
  subst (λ z. HasKey z (keys.Complete (bid_of k) (record { 0 = a }))) (sym (log_grown w earlier o s logs a g)) (has_right (log_of earlier a) (all_told (logs (a % w.text.logs))) (keys.Complete (bid_of k) (record { 0 = a })) (complete_has (logs (a % w.text.logs)) k a h.0)),
  completed_new w earlier o s logs k as' g h.1,
)

same_bid : (b : Bid) → bid_of b.0 ≡ b
same_bid b = refl

pub whole_grown : {C : Type 0} (w : Fixed C) (earlier : List (List Record)) (o : Opening) (s : Machine C) (logs : ℕ → List LogRecord) (b : Bid) → Known w earlier o s logs → IsIn (grown earlier logs) b → IsBatchWhole (grown earlier logs) b
whole_grown w earlier o s logs b g h = elim (in_cases w earlier o s logs b g h) [
  | inl q ↦ let x = g.before.whole b q in (x.0, x.1, info_stays w earlier o s logs b x.0 x.1 g (in_old w earlier o s logs b g q) x.2, weaker (HasCompleted earlier b) (HasCompleted (grown earlier logs) b) x.0 (λ a k. completed_stays w earlier o s logs b a g k) x.3)
  | inr q ↦ let x = g.whole b.0 q in (actor_ids x.actors, tids_of x.tids, info_new w earlier o s logs b.0 x.actors x.tids x.front x.rest g x.info, completed_new w earlier o s logs b.0 x.actors g x.completes)
]

-- ---- ACTs

prepared_stays : {C : Type 0} (w : Fixed C) (earlier : List (List Record)) (o : Opening) (s : Machine C) (logs : ℕ → List LogRecord) (t : Tid) (a : ActorId) → Known w earlier o s logs → HasPrepared earlier t a → HasPrepared (grown earlier logs) t a
prepared_stays w earlier o s logs t a g h = subst (λ z. HasKey z (keys.Prepare t a)) (sym (log_grown w earlier o s logs a.0 g)) (has_left (log_of earlier a.0) (all_told (logs (a.0 % w.text.logs))) (keys.Prepare t a) h)

pub commit_stays : {C : Type 0} (w : Fixed C) (earlier : List (List Record)) (o : Opening) (s : Machine C) (logs : ℕ → List LogRecord) (t : Tid) (m : Bid) (c : ℕ) (value : Option ℤ) (actors : List ActorId) → Known w earlier o s logs → t.0 < w.text.opening.next_tid → IsActOf earlier t m c value actors → IsActOf (grown earlier logs) t m c value actors
commit_stays w earlier o s logs t m c value actors g l (front, behind, e, p, quiet) =
    let more = all_told (logs (t.0 % w.text.logs)) in
    let none : list_any (is_act_commit t.0) (logs (t.0 % w.text.logs)) ≡ false = false_from_ne_true (list_any (is_act_commit t.0) (logs (t.0 % w.text.logs))) (λ q. omega (arith, l, new_act_low w earlier o s logs t.0 g q)) in
    let n = no_act (logs (t.0 % w.text.logs)) t none in
    (front, behind ++ more, log_grown w earlier o s logs t.0 g ∙ (ap (λ z. z ++ more) e ∙ append_assoc front (act_record t m c value actors ∷ behind) more), p, all_join (λ r. ¬ (key r ≡ keys.Act t)) behind more quiet n)

pub commit_new : {C : Type 0} (w : Fixed C) (earlier : List (List Record)) (o : Opening) (s : Machine C) (logs : ℕ → List LogRecord) (t m c : ℕ) (value : ℤ) (actors : List ℕ) (front rest : List LogRecord) → Known w earlier o s logs → logs (t % w.text.logs) ≡ front ++ machine.ActDone t m c value actors ∷ rest
    → IsActOf (grown earlier logs) (tid_of t) (bid_of m) c (Some value) (actor_ids actors)
commit_new w earlier o s logs t m c value actors front rest g e =
    let r = machine.ActDone t m c value actors in
    let one : count (is_act_commit t) (front ++ machine.ActDone t m c value actors ∷ rest) ≤ 1 = subst (λ z. count (is_act_commit t) z ≤ 1) e (g.once (OfActCommit t) (t % w.text.logs)) in
    let none : list_any (is_act_commit t) rest ≡ false = false_from_ne_true (list_any (is_act_commit t) rest) (λ q. omega (arith, one, count_behind (is_act_commit t) front (r ∷ rest), count_more (is_act_commit t) r rest (eq-eqb t t refl), count_any (is_act_commit t) rest q)) in
    (log_of earlier t ++ all_told front, all_told rest, log_grown w earlier o s logs t g ∙ (ap (λ z. log_of earlier t ++ all_told z) e ∙ (ap (λ z. log_of earlier t ++ z) (written_join front (r ∷ rest)) ∙ sym (append_assoc (log_of earlier t) (all_told front) (ActDone (tid_of t) (bid_of m) c value (actor_ids actors) ∷ all_told rest)))), refl, no_act rest (tid_of t) none)

prepared_new : {C : Type 0} (w : Fixed C) (earlier : List (List Record)) (o : Opening) (s : Machine C) (logs : ℕ → List LogRecord) (t : ℕ) (as' : List ℕ) → Known w earlier o s logs → AllByRecursion (λ a. list_any (is_prepare t a) (logs (a % w.text.logs)) ≡ true) as' → AllByRecursion (HasPrepared (grown earlier logs) (tid_of t)) (actor_ids as')
prepared_new w earlier o s logs t [] g h = tt
prepared_new w earlier o s logs t (a ∷ as') g h = (
  subst (λ z. HasKey z (keys.Prepare (tid_of t) (actor_of a))) (sym (log_grown w earlier o s logs a g)) (has_right (log_of earlier a) (all_told (logs (a % w.text.logs))) (keys.Prepare (tid_of t) (actor_of a)) (prepare_has (logs (a % w.text.logs)) t a h.0)),
  prepared_new w earlier o s logs t as' g h.1,
)

pub act_whole_grown : {C : Type 0} (w : Fixed C) (earlier : List (List Record)) (o : Opening) (s : Machine C) (logs : ℕ → List LogRecord) (t : Tid) → Known w earlier o s logs → IsActIn (grown earlier logs) t → IsActWhole (grown earlier logs) t
act_whole_grown w earlier o s logs t g h = elim (act_cases w earlier o s logs t g h) [
  | inl q ↦ let x = g.before.acts_whole t q in (x.0, x.1, x.2, x.3, commit_stays w earlier o s logs t x.0 x.1 x.2 x.3 g (act_old w earlier o s logs t g q) x.4, weaker (HasPrepared earlier t) (HasPrepared (grown earlier logs) t) x.3 (λ a k. prepared_stays w earlier o s logs t a g k) x.5)
  | inr q ↦ let x = g.whole_acts t.0 q in (bid_of x.m, x.c, Some x.v, actor_ids x.actors, commit_new w earlier o s logs t.0 x.m x.c x.v x.actors x.front x.rest g x.commit, prepared_new w earlier o s logs t.0 x.actors g x.prepares)
]
