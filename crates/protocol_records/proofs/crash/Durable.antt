-- What is durable stays so, and what is added is in one log.
use Rattle.std.specs.Prelude.{◌≡◌, refl, ℕ, zero, suc, ◌%◌, Bool, true, false, ◌⊎◌, if◌then◌else◌, Option, Some, None, List, [], ◌∷◌, ◌++◌, length, map, take, slice_get, slice_index_or, slice_set, ◌&&◌, ◌||◌, not}
use Rattle.std.specs.List.{AllByRecursion, list_any}
use Rattle.std.proofs.Common.{sym, ap, inl, inr, ◌∙◌, subst}
use Rattle.std.proofs.lemmas.Bool.{true≢false, or_cases, or_left, or_right}
use Rattle.std.proofs.lemmas.List.{append-nil}
use Rattle.protocol.specs.Fixed.{Fixed}
use Rattle.protocol.specs.Records.{LogRecord, is_commit, is_act_commit}
use Rattle.protocol.specs.Parts.{Act, Who, OfBatch, OfAct, Log, Machine}
use Rattle.protocol.specs.Events.{Event, Form, Complete, Sync, Commit, Prepare, Decide}
use Rattle.protocol.specs.Words.{is_who, is_value, is_durable, holds, act_of, value_of}
use Rattle.protocol.specs.Effects.{after, no_log, added, synced, act_commit}
use Rattle.protocol.specs.History.{History, grown, kept_act, kept_reader}
use Rattle.protocol_laws.specs.Commits.{is_kept}
use Rattle.protocol_records.specs.Logged.{durable_at, logged_at, is_sure, WrittenHaveValues}
use Rattle.protocol_laws.proofs.first.Lists.{any_front, any_join, any_take}
use Rattle.protocol_laws.proofs.machine.MarksKept.{log_synced}

-- ---- lists

pub any_back : {X : Type 0} (p : X → Bool) (xs ys : List X) → list_any p ys ≡ true → list_any p (xs ++ ys) ≡ true
any_back p [] ys h = h
any_back p (x ∷ xs) ys h = or_right (p x) _ (any_back p xs ys h)

pub take_more : {X : Type 0} (p : X → Bool) (n : ℕ) (xs ys : List X) → list_any p (take n xs) ≡ true → list_any p (take n (xs ++ ys)) ≡ true
take_more p zero xs ys h = absurd (true≢false (sym h))
take_more p (suc n) [] ys h = absurd (true≢false (sym h))
take_more p (suc n) (x ∷ xs) ys h = elim (or_cases (p x) (list_any p (take n xs)) h) [ inl e ↦ or_left (p x) _ e | inr e ↦ or_right (p x) _ (take_more p n xs ys e) ]

pub take_all : {X : Type 0} (xs : List X) → take (length xs) xs ≡ xs
take_all [] = refl
take_all (x ∷ xs) = ap (λ l. x ∷ l) (take_all xs)

-- ---- what is durable stays so

durable_added : (p : LogRecord → Bool) (rs : List LogRecord) (logs : List Log) (l m : ℕ) → durable_at p logs m ≡ true → durable_at p (slice_set logs l (added rs (slice_index_or logs l no_log))) m ≡ true
durable_added p rs [] l m h = h
durable_added p rs (x ∷ xs) zero zero h = take_more p x.synced x.records rs h
durable_added p rs (x ∷ xs) zero (suc m) h = h
durable_added p rs (x ∷ xs) (suc l) zero h = h
durable_added p rs (x ∷ xs) (suc l) (suc m) h = durable_added p rs xs l m h

durable_synced : (p : LogRecord → Bool) (logs : List Log) (l m : ℕ) → durable_at p logs m ≡ true → durable_at p (slice_set logs l (synced (slice_index_or logs l no_log))) m ≡ true
durable_synced p [] l m h = h
durable_synced p (x ∷ xs) zero zero h = ap (list_any p) (take_all x.records) ∙ any_take p x.synced x.records h
durable_synced p (x ∷ xs) zero (suc m) h = h
durable_synced p (x ∷ xs) (suc l) zero h = h
durable_synced p (x ∷ xs) (suc l) (suc m) h = durable_synced p xs l m h

pub durable_stays : {C : Type 0} (w : Fixed C) (e : Event) (s : Machine C) (p : LogRecord → Bool) (m : ℕ) → durable_at p s.logs m ≡ true → durable_at p (after w e s).logs m ≡ true
unfolding after
durable_stays w (Form k) s p m h = durable_added p _ s.logs (k % w.text.logs) m h
durable_stays w (Complete k a) s p m h = durable_added p _ s.logs (a % w.text.logs) m h
durable_stays w (Sync l) s p m h = durable_synced p s.logs l m h
durable_stays w (Commit k) s p m h = durable_added p _ s.logs (k % w.text.logs) m h
durable_stays w (Prepare t a) s p m h = durable_added p _ s.logs (a % w.text.logs) m h
durable_stays w (Decide t) s p m h = durable_added p _ s.logs (t % w.text.logs) m h
durable_stays w e s p m h = h

pub sure_stays : {C : Type 0} (w : Fixed C) (e : Event) (s : Machine C) (y : Who) → is_sure w.text.logs s.logs y ≡ true → is_sure w.text.logs (after w e s).logs y ≡ true
sure_stays w e s (OfBatch k) h = durable_stays w e s (Rattle.protocol.specs.Records.is_commit k) (k % w.text.logs) h
sure_stays w e s (OfAct t) h = durable_stays w e s (Rattle.protocol.specs.Records.is_act_commit t) (t % w.text.logs) h

-- ---- what is added

pub logged_added : (p : LogRecord → Bool) (rs : List LogRecord) (logs : List Log) (l m : ℕ) → logged_at p (slice_set logs l (added rs (slice_index_or logs l no_log))) m ≡ true → (logged_at p logs m ≡ true) ⊎ (list_any p rs ≡ true)
logged_added p rs [] l m h = inl h
logged_added p rs (x ∷ xs) zero zero h = any_join p x.records rs h
logged_added p rs (x ∷ xs) zero (suc m) h = inl h
logged_added p rs (x ∷ xs) (suc l) zero h = inl h
logged_added p rs (x ∷ xs) (suc l) (suc m) h = logged_added p rs xs l m h

-- a fact of each record
pub all_added : (P : LogRecord → Type 0) (rs : List LogRecord) (logs : List Log) (l m : ℕ) → AllByRecursion P rs → AllByRecursion P (slice_index_or logs m no_log).records → AllByRecursion P (slice_index_or (slice_set logs l (added rs (slice_index_or logs l no_log))) m no_log).records
all_added P rs [] l m k h = h
all_added P rs (x ∷ xs) zero zero k h = join x.records h
  where
    join : (ys : List LogRecord) → AllByRecursion P ys → AllByRecursion P (ys ++ rs)
    join [] g = k
    join (y ∷ ys) g = (g.0, join ys g.1)
all_added P rs (x ∷ xs) zero (suc m) k h = h
all_added P rs (x ∷ xs) (suc l) zero k h = h
all_added P rs (x ∷ xs) (suc l) (suc m) k h = all_added P rs xs l m k h

-- what the condition of an event says
pub durable_is : (p : LogRecord → Bool) (logs : List Log) (l : ℕ) → holds (is_durable p) (slice_get logs l) ≡ true → durable_at p logs l ≡ true
durable_is p [] l h = absurd (true≢false (sym h))
durable_is p (x ∷ xs) zero h = h
durable_is p (x ∷ xs) (suc l) h = durable_is p xs l h

-- ---- who has a commit record committed

act_written : (t c : ℕ) (kept readers : List Who) (o : Option Act) → list_any (is_act_commit t) (act_commit c o) ≡ true → (is_kept (OfAct t) (kept ++ kept_act o) || is_kept (OfAct t) (readers ++ kept_reader o)) ≡ true
act_written t c kept readers None h = absurd (true≢false (sym h))
act_written t c kept readers (Some x) h = by (is_value x.result) x.reader h
  where
    by : (b v : Bool) → list_any (is_act_commit t) (if b then Rattle.protocol.specs.Records.ActDone x.tid x.m c (value_of x.result) (Rattle.protocol.specs.Effects.ascending (map (λ p. p.actor) x.places)) ∷ [] else []) ≡ true → (is_kept (OfAct t) (kept ++ (if b && not v then OfAct x.tid ∷ [] else [])) || is_kept (OfAct t) (readers ++ (if b && v then OfAct x.tid ∷ [] else []))) ≡ true
    by true false g = or_left (is_kept (OfAct t) (kept ++ OfAct x.tid ∷ [])) _ (any_back (λ z. is_who z (OfAct t)) kept (OfAct x.tid ∷ []) g)
    by true true g = or_right (is_kept (OfAct t) (kept ++ [])) _ (any_back (λ z. is_who z (OfAct t)) readers (OfAct x.tid ∷ []) g)
    by false v g = absurd (true≢false (sym g))

-- who committed stays among those
kept_grows : (y : Who) (kept readers more extra : List Who) → (is_kept y kept || is_kept y readers) ≡ true → (is_kept y (kept ++ more) || is_kept y (readers ++ extra)) ≡ true
kept_grows y kept readers more extra h = elim (or_cases (is_kept y kept) (is_kept y readers) h) [ inl q ↦ or_left (is_kept y (kept ++ more)) _ (any_front (λ z. is_who z y) kept more q) | inr q ↦ or_right (is_kept y (kept ++ more)) _ (any_front (λ z. is_who z y) readers extra q) ]

no_batch_in : (k c : ℕ) (o : Option Act) → list_any (is_commit k) (act_commit c o) ≡ true → ⊥
no_batch_in k c None h = true≢false (sym h)
no_batch_in k c (Some x) h = by (is_value x.result) h
  where
    by : (b : Bool) → list_any (is_commit k) (if b then Rattle.protocol.specs.Records.ActDone x.tid x.m c (value_of x.result) (Rattle.protocol.specs.Effects.ascending (map (λ p. p.actor) x.places)) ∷ [] else []) ≡ true → ⊥
    by true g = true≢false (sym g)
    by false g = true≢false (sym g)

pub written_kept : {C : Type 0} (w : Fixed C) (e : Event) (s : Machine C) (h : History) → WrittenHaveValues w s h → WrittenHaveValues w (after w e s) (grown w e s h)
unfolding WrittenHaveValues after grown
written_kept w (Form k) s h g (OfBatch j) q = elim (logged_added (is_commit j) _ s.logs (k % w.text.logs) (j % w.text.logs) q) [ inl v ↦ g (OfBatch j) v | inr v ↦ absurd (true≢false (sym v)) ]
written_kept w (Form k) s h g (OfAct u) q = elim (logged_added (is_act_commit u) _ s.logs (k % w.text.logs) (u % w.text.logs) q) [ inl v ↦ g (OfAct u) v | inr v ↦ absurd (true≢false (sym v)) ]
written_kept w (Complete k a) s h g (OfBatch j) q = elim (logged_added (is_commit j) _ s.logs (a % w.text.logs) (j % w.text.logs) q) [ inl v ↦ g (OfBatch j) v | inr v ↦ absurd (true≢false (sym v)) ]
written_kept w (Complete k a) s h g (OfAct u) q = elim (logged_added (is_act_commit u) _ s.logs (a % w.text.logs) (u % w.text.logs) q) [ inl v ↦ g (OfAct u) v | inr v ↦ absurd (true≢false (sym v)) ]
written_kept w (Prepare t a) s h g (OfBatch j) q = elim (logged_added (is_commit j) _ s.logs (a % w.text.logs) (j % w.text.logs) q) [ inl v ↦ g (OfBatch j) v | inr v ↦ absurd (true≢false (sym v)) ]
written_kept w (Prepare t a) s h g (OfAct u) q = elim (logged_added (is_act_commit u) _ s.logs (a % w.text.logs) (u % w.text.logs) q) [ inl v ↦ g (OfAct u) v | inr v ↦ absurd (true≢false (sym v)) ]
written_kept w (Commit k) s h g (OfBatch j) q = elim (logged_added (is_commit j) _ s.logs (k % w.text.logs) (j % w.text.logs) q) [ inl v ↦ on_readers (OfBatch j) (kept_grows (OfBatch j) h.kept h.kept_readers (OfBatch k ∷ []) [] (g (OfBatch j) v)) | inr v ↦ or_left (is_kept (OfBatch j) (h.kept ++ OfBatch k ∷ [])) _ (any_back (λ z. is_who z (OfBatch j)) h.kept (OfBatch k ∷ []) v) ]
  where
    on_readers : (y : Who) → (is_kept y (h.kept ++ OfBatch k ∷ []) || is_kept y (h.kept_readers ++ [])) ≡ true → (is_kept y (h.kept ++ OfBatch k ∷ []) || is_kept y h.kept_readers) ≡ true
    on_readers y e = subst (λ z. (is_kept y (h.kept ++ OfBatch k ∷ []) || is_kept y z) ≡ true) (append-nil h.kept_readers) e
written_kept w (Commit k) s h g (OfAct u) q = elim (logged_added (is_act_commit u) _ s.logs (k % w.text.logs) (u % w.text.logs) q) [ inl v ↦ subst (λ z. (is_kept (OfAct u) (h.kept ++ OfBatch k ∷ []) || is_kept (OfAct u) z) ≡ true) (append-nil h.kept_readers) (kept_grows (OfAct u) h.kept h.kept_readers (OfBatch k ∷ []) [] (g (OfAct u) v)) | inr v ↦ absurd (true≢false (sym v)) ]
written_kept w (Decide t) s h g (OfBatch j) q = elim (logged_added (is_commit j) _ s.logs (t % w.text.logs) (j % w.text.logs) q) [ inl v ↦ kept_grows (OfBatch j) h.kept h.kept_readers (kept_act (act_of t s.book.acts)) (kept_reader (act_of t s.book.acts)) (g (OfBatch j) v) | inr v ↦ absurd (no_batch_in j s.book.next_c (act_of t s.book.acts) v) ]
written_kept w (Decide t) s h g (OfAct u) q = elim (logged_added (is_act_commit u) _ s.logs (t % w.text.logs) (u % w.text.logs) q) [ inl v ↦ kept_grows (OfAct u) h.kept h.kept_readers (kept_act (act_of t s.book.acts)) (kept_reader (act_of t s.book.acts)) (g (OfAct u) v) | inr v ↦ act_written u s.book.next_c h.kept h.kept_readers (act_of t s.book.acts) v ]
written_kept w (Sync l) s h g (OfBatch j) q = g (OfBatch j) (sym (ap (list_any (is_commit j)) (log_synced s.logs l (j % w.text.logs))) ∙ q)
written_kept w (Sync l) s h g (OfAct u) q = g (OfAct u) (sym (ap (list_any (is_act_commit u)) (log_synced s.logs l (u % w.text.logs))) ∙ q)
written_kept w e s h g y q = g y q
