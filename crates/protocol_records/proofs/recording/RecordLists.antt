-- Records over all logs, as one log gets some more.
use Rattle.std.specs.Prelude.{◌≡◌, refl, ℕ, zero, suc, ◌+◌, ◌≤◌, ◌==◌, Bool, true, false, ◌||◌, if◌then◌else◌, Some, None, option_map, List, [], ◌∷◌, ◌++◌, length, map, filter, slice_index_or, slice_set}
use Rattle.std.specs.List.{AllByRecursion, list_any}
use Rattle.std.proofs.Common.{arith, sym, ap, inl, inr}
use Rattle.std.proofs.lemmas.Bool.{true≢false, or_cases}
use Rattle.protocol.specs.Records.{LogRecord}
use Rattle.protocol.specs.Parts.{Batch, Log}
use Rattle.protocol.specs.Words.{count, batch_of}
use Rattle.protocol.specs.Effects.{no_log, added, synced}
use Rattle.protocol_records.specs.RecordLaws.{all_records}
use Rattle.protocol_laws.proofs.first.Lists.{all_join, set_each}
use Rattle.protocol_theorems.proofs.quiet.SubPlaces.{count_join}

-- ---- a fact of each record and its log

pub each_added : (P : ℕ → LogRecord → Type 0) (rs : List LogRecord) (logs : List Log) (i : ℕ) → AllByRecursion (P i) rs → ((l : ℕ) → AllByRecursion (P l) (slice_index_or logs l no_log).records)
    → (l : ℕ) → AllByRecursion (P l) (slice_index_or (slice_set logs i (added rs (slice_index_or logs i no_log))) l no_log).records
each_added P rs logs i k h = set_each (λ l (x : Log). AllByRecursion (P l) x.records) logs i (added rs (slice_index_or logs i no_log)) no_log (all_join (P i) (slice_index_or logs i no_log).records rs (h i) k) h

pub each_synced : (P : ℕ → LogRecord → Type 0) (logs : List Log) (i : ℕ) → ((l : ℕ) → AllByRecursion (P l) (slice_index_or logs l no_log).records)
    → (l : ℕ) → AllByRecursion (P l) (slice_index_or (slice_set logs i (synced (slice_index_or logs i no_log))) l no_log).records
each_synced P logs i h = set_each (λ l (x : Log). AllByRecursion (P l) x.records) logs i (synced (slice_index_or logs i no_log)) no_log (h i) h

-- one that passes a test has the fact
pub of_any : {X : Type 0} (P : X → Type 0) (p : X → Bool) (Q : Type 0) (xs : List X) → AllByRecursion P xs → ((x : X) → P x → p x ≡ true → Q) → list_any p xs ≡ true → Q
of_any P p Q [] h k e = absurd (true≢false (sym e))
of_any P p Q (x ∷ xs) h k e = elim (or_cases (p x) (list_any p xs) e) [ inl q ↦ k x h.0 q | inr q ↦ of_any P p Q xs h.1 k q ]

-- ---- counts

pub count_added : (p : LogRecord → Bool) (rs : List LogRecord) (logs : List Log) (i : ℕ) → count p (all_records (slice_set logs i (added rs (slice_index_or logs i no_log)))) ≤ count p (all_records logs) + count p rs
count_added p rs [] i = omega arith
count_added p rs (x ∷ xs) zero = omega (arith, count_join p (x.records ++ rs) (all_records xs), count_join p x.records rs, count_join p x.records (all_records xs))
count_added p rs (x ∷ xs) (suc i) = omega (arith, count_join p x.records (all_records (slice_set xs i (added rs (slice_index_or xs i no_log)))), count_join p x.records (all_records xs), count_added p rs xs i)

pub all_synced : (logs : List Log) (i : ℕ) → all_records (slice_set logs i (synced (slice_index_or logs i no_log))) ≡ all_records logs
all_synced [] i = refl
all_synced (x ∷ xs) zero = refl
all_synced (x ∷ xs) (suc i) = ap (λ z. x.records ++ z) (all_synced xs i)

none_in : (p : LogRecord → Bool) (rs : List LogRecord) → (list_any p rs ≡ true → ⊥) → count p rs ≡ 0
none_in p [] n = refl
none_in p (r ∷ rs) n = by (p r) n (none_in p rs)
  where
    by : (b : Bool) → ((b || list_any p rs) ≡ true → ⊥) → ((list_any p rs ≡ true → ⊥) → count p rs ≡ 0) → length (if b then r ∷ filter p rs else filter p rs) ≡ 0
    by true m k = absurd (m refl)
    by false m k = k m

pub none_counted : (p : LogRecord → Bool) (logs : List Log) → ((l : ℕ) → list_any p (slice_index_or logs l no_log).records ≡ true → ⊥) → count p (all_records logs) ≡ 0
none_counted p [] n = refl
none_counted p (x ∷ xs) n = omega (arith, count_join p x.records (all_records xs), none_in p x.records (n 0), none_counted p xs (λ l. n (suc l)))

-- ---- every record lies in some log

pub in_all : (P : LogRecord → Type 0) (logs : List Log) → ((l : ℕ) → AllByRecursion P (slice_index_or logs l no_log).records) → AllByRecursion P (all_records logs)
in_all P [] h = tt
in_all P (x ∷ xs) h = all_join P x.records (all_records xs) (h 0) (in_all P xs (λ l. h (suc l)))

-- ---- batches that are alike in their numbers and one thing more

pub found_alike : {Y : Type 0} (f : Batch → Y) (k : ℕ) (xs ys : List Batch) → map (λ b. b.bid) ys ≡ map (λ b. b.bid) xs → map f ys ≡ map f xs → option_map f (batch_of k ys) ≡ option_map f (batch_of k xs)
found_alike f k [] [] e i = refl
found_alike f k [] (y ∷ ys) e i = absurd (cc e)
found_alike f k (x ∷ xs) [] e i = absurd (cc e)
found_alike f k (x ∷ xs) (y ∷ ys) e i = by (x.bid == k) (y.bid == k) (ap (λ z. z == k) bid) (cc i) (found_alike f k xs ys (cc e) (cc i))
  where
    bid : y.bid ≡ x.bid
    bid = cc e

    by : (v u : Bool) → u ≡ v → f y ≡ f x → option_map f (batch_of k ys) ≡ option_map f (batch_of k xs) → option_map f (if u then Some y else batch_of k ys) ≡ option_map f (if v then Some x else batch_of k xs)
    by true true q j r = ap Some j
    by true false q j r = absurd (true≢false (sym q))
    by false true q j r = absurd (true≢false q)
    by false false q j r = r

pub found_more : {Y : Type 0} (f : Batch → Y) (k : ℕ) (n : Batch) (xs : List Batch) (y : Y) → option_map f (batch_of k xs) ≡ Some y → option_map f (batch_of k (xs ++ n ∷ [])) ≡ Some y
found_more f k n [] y e = absurd (cc e)
found_more f k n (x ∷ xs) y e = by (x.bid == k) e (found_more f k n xs y)
  where
    by : (v : Bool) → option_map f (if v then Some x else batch_of k xs) ≡ Some y → (option_map f (batch_of k xs) ≡ Some y → option_map f (batch_of k (xs ++ n ∷ [])) ≡ Some y) → option_map f (if v then Some x else batch_of k (xs ++ n ∷ [])) ≡ Some y
    by true q r = q
    by false q r = r q

pub found_new : (k : ℕ) (n : Batch) (xs : List Batch) → n.bid ≡ k → batch_of k xs ≡ None → batch_of k (xs ++ n ∷ []) ≡ Some n
found_new k n [] i e = rw (Rattle.std.proofs.lemmas.Bool.eq-eqb n.bid k i) refl
found_new k n (x ∷ xs) i e = by (x.bid == k) e (found_new k n xs i)
  where
    by : (v : Bool) → (if v then Some x else batch_of k xs) ≡ None → (batch_of k xs ≡ None → batch_of k (xs ++ n ∷ []) ≡ Some n) → (if v then Some x else batch_of k (xs ++ n ∷ [])) ≡ Some n
    by true q r = absurd (cc q)
    by false q r = r q
