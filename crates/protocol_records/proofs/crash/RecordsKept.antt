-- Who has a commit record in a log has committed with a value.
use Rattle.std.specs.Prelude.{◌≡◌, refl, ℕ, ℤ, zero, suc, ◌%◌, ◌⊎◌, Bool, true, false, if◌then◌else◌, Option, Some, None, List, [], ◌∷◌, ◌++◌, map, replicate, slice_index_or, slice_set, ◌&&◌, ◌||◌, not}
use Rattle.std.specs.List.{list_any}
use Rattle.std.proofs.Common.{sym, subst, inl, inr, ◌∙◌}
use Rattle.std.proofs.lemmas.Bool.{or_cases, or_left, or_right, true≢false}
use Rattle.protocol.specs.Fixed.{Fixed}
use Rattle.protocol.specs.Records.{LogRecord, BatchInfo, BatchComplete, BatchDone, ActPrepare, ActDone, is_commit, is_act_commit}
use Rattle.protocol.specs.Parts.{Act, Who, OfBatch, OfAct, Log, Machine}
use Rattle.protocol.specs.Events.{Event, Form, Complete, Sync, Commit, Prepare, Decide}
use Rattle.protocol.specs.Words.{is_who, is_value, act_of, batch_of, value_of, values_of}
use Rattle.protocol.specs.Effects.{after, log_at, no_log, added, act_commit}
use Rattle.protocol.specs.Runs.{opening}
use Rattle.protocol.specs.History.{History, no_history, grown, kept_act, kept_reader}
use Rattle.protocol_laws.specs.Commits.{is_kept}
use Rattle.protocol.specs.Moments.{left_in}
use Rattle.protocol_records.specs.Crash.{is_in}
use Rattle.protocol_laws.proofs.first.Lists.{any_join, any_take}
use Rattle.protocol_theorems.proofs.order.ChainLists.{kept_grows}

abbrev pub is_record_of : Who → LogRecord → Bool
is_record_of (OfBatch k) r = is_commit k r
is_record_of (OfAct t) r = is_act_commit t r

unfoldable pub RecordsAreKept : {C : Type 0} → Machine C → History → Type 0
RecordsAreKept s h = (y : Who) (l : ℕ) → list_any (is_record_of y) (log_at s l).records ≡ true → (is_kept y h.kept || is_kept y h.kept_readers) ≡ true

added_to : (p : LogRecord → Bool) (rs : List LogRecord) (logs : List Log) (l i : ℕ) (g : Log) → g ≡ slice_index_or logs l no_log → list_any p (slice_index_or (slice_set logs l (added rs g)) i no_log).records ≡ true
    → (list_any p (slice_index_or logs i no_log).records ≡ true) ⊎ (list_any p rs ≡ true)
added_to p rs [] l i g e h = inl h
added_to p rs (x ∷ xs) zero zero g e h = any_join p x.records rs (subst (λ z. list_any p (z.records ++ rs) ≡ true) e h)
added_to p rs (x ∷ xs) zero (suc i) g e h = inl h
added_to p rs (x ∷ xs) (suc l) zero g e h = inl h
added_to p rs (x ∷ xs) (suc l) (suc i) g e h = added_to p rs xs l i g e h

synced_to : (p : LogRecord → Bool) (logs : List Log) (l i n : ℕ) → list_any p (slice_index_or (slice_set logs l (record (slice_index_or logs l no_log) { synced = n })) i no_log).records ≡ true → list_any p (slice_index_or logs i no_log).records ≡ true
synced_to p [] l i n h = h
synced_to p (x ∷ xs) zero zero n h = h
synced_to p (x ∷ xs) zero (suc i) n h = h
synced_to p (x ∷ xs) (suc l) zero n h = h
synced_to p (x ∷ xs) (suc l) (suc i) n h = synced_to p xs l i n h

kept_end : (kept more : List Who) (y : Who) → is_kept y more ≡ true → is_kept y (kept ++ more) ≡ true
kept_end [] more y e = e
kept_end (z ∷ zs) more y e = or_right (is_who z y) _ (kept_end zs more y e)

-- what is added at each event
no_one : (y : Who) (r : LogRecord) → ((z : Who) → is_record_of z r ≡ false) → list_any (is_record_of y) (r ∷ []) ≡ true → ⊥
no_one y r n h = elim (or_cases (is_record_of y r) false h) [ inl q ↦ true≢false (sym q ∙ n y) | inr q ↦ true≢false (sym q) ]

info_none : (k : ℕ) (actors ts : List ℕ) (z : Who) → is_record_of z (BatchInfo k actors ts) ≡ false
info_none k actors ts (OfBatch j) = refl
info_none k actors ts (OfAct t) = refl

complete_none : (k a : ℕ) (st : Rattle.snap_base.specs.declared.transactions.State.State) (z : Who) → is_record_of z (BatchComplete k a st) ≡ false
complete_none k a st (OfBatch j) = refl
complete_none k a st (OfAct t) = refl

prepare_none : (t a : ℕ) (st : Rattle.snap_base.specs.declared.transactions.State.State) (z : Who) → is_record_of z (ActPrepare t a st) ≡ false
prepare_none t a st (OfBatch j) = refl
prepare_none t a st (OfAct u) = refl

commit_one : (k : ℕ) (vs : List ℤ) (y : Who) → list_any (is_record_of y) (BatchDone k vs ∷ []) ≡ true → is_kept y (OfBatch k ∷ []) ≡ true
commit_one k vs (OfBatch j) h = h
commit_one k vs (OfAct t) h = absurd (true≢false (sym h))

decide_one : (c : ℕ) (o : Option Act) (y : Who) → list_any (is_record_of y) (act_commit c o) ≡ true → (is_kept y (kept_act o) || is_kept y (kept_reader o)) ≡ true
decide_one c None y h = absurd (true≢false (sym h))
decide_one c (Some x) y h = by (is_value x.result) x.reader y h
  where
    by : (b v : Bool) (y : Who) → list_any (is_record_of y) (if b then ActDone x.tid x.m c (value_of x.result) (Rattle.protocol.specs.Effects.ascending (map (λ p. p.actor) x.places)) ∷ [] else []) ≡ true → (is_kept y (if b && not v then OfAct x.tid ∷ [] else []) || is_kept y (if b && v then OfAct x.tid ∷ [] else [])) ≡ true
    by true v (OfBatch k) h = absurd (true≢false (sym h))
    by true true (OfAct t) h = h
    by true false (OfAct t) h = or_left (is_kept (OfAct t) (OfAct x.tid ∷ [])) _ h
    by false v y h = absurd (true≢false (sym h))

either : (y : Who) (a b a' b' : List Who) → (is_kept y a ≡ true → is_kept y a' ≡ true) → (is_kept y b ≡ true → is_kept y b' ≡ true) → (is_kept y a || is_kept y b) ≡ true → (is_kept y a' || is_kept y b') ≡ true
either y a b a' b' k l h = elim (or_cases (is_kept y a) (is_kept y b) h) [ inl q ↦ or_left (is_kept y a') _ (k q) | inr q ↦ or_right (is_kept y a') _ (l q) ]

pub kept : {C : Type 0} (w : Fixed C) (e : Event) (s : Machine C) (h : History) → RecordsAreKept s h → RecordsAreKept (after w e s) (grown w e s h)
unfolding RecordsAreKept after grown
kept w (Form k) s h g = λ y l q. elim (added_to (is_record_of y) _ s.logs _ l _ refl q) [ inl r ↦ g y l r | inr r ↦ absurd (no_one y _ (info_none k _ _) r) ]
kept w (Complete k a) s h g = λ y l q. elim (added_to (is_record_of y) _ s.logs _ l _ refl q) [ inl r ↦ g y l r | inr r ↦ absurd (no_one y _ (complete_none k a _) r) ]
kept w (Prepare t a) s h g = λ y l q. elim (added_to (is_record_of y) _ s.logs _ l _ refl q) [ inl r ↦ g y l r | inr r ↦ absurd (no_one y _ (prepare_none t a _) r) ]
kept w (Sync i) s h g = λ y l q. g y l (synced_to (is_record_of y) s.logs i l _ q)
kept w (Commit k) s h g = λ y l q. elim (added_to (is_record_of y) (BatchDone k (values_of (batch_of k s.desk.batches)) ∷ []) s.logs _ l _ refl q) [ inl r ↦ either y h.kept h.kept_readers _ _ (λ v. kept_grows h.kept (OfBatch k ∷ []) y v) (λ v. v) (g y l r) | inr r ↦ or_left (is_kept y (h.kept ++ OfBatch k ∷ [])) _ (kept_end h.kept (OfBatch k ∷ []) y (commit_one k _ y r)) ]
kept w (Decide t) s h g = λ y l q. elim (added_to (is_record_of y) (act_commit s.book.next_c (act_of t s.book.acts)) s.logs _ l _ refl q) [
  | inl r ↦ either y h.kept h.kept_readers (h.kept ++ kept_act (act_of t s.book.acts)) (h.kept_readers ++ kept_reader (act_of t s.book.acts)) (λ v. kept_grows h.kept (kept_act (act_of t s.book.acts)) y v) (λ v. kept_grows h.kept_readers (kept_reader (act_of t s.book.acts)) y v) (g y l r)
  | inr r ↦ either y (kept_act (act_of t s.book.acts)) (kept_reader (act_of t s.book.acts)) (h.kept ++ kept_act (act_of t s.book.acts)) (h.kept_readers ++ kept_reader (act_of t s.book.acts)) (λ v. kept_end h.kept (kept_act (act_of t s.book.acts)) y v) (λ v. kept_end h.kept_readers (kept_reader (act_of t s.book.acts)) y v) (decide_one s.book.next_c (act_of t s.book.acts) y r)
]
kept w e s h g = g

pub opened : {C : Type 0} (w : Fixed C) → RecordsAreKept (opening w) no_history
unfolding RecordsAreKept
opened w y l q = absurd (none w.text.logs l q)
  where
    none : (n l : ℕ) → list_any (is_record_of y) (slice_index_or (replicate n no_log) l no_log).records ≡ true → ⊥
    none zero l q = true≢false (sym q)
    none (suc n) zero q = true≢false (sym q)
    none (suc n) (suc l) q = none n l q

-- who is in by what is left has committed by then
pub in_is_kept : {C : Type 0} (w : Fixed C) (s : Machine C) (h : History) (left : ℕ → ℕ) (y : Who) → RecordsAreKept s h → is_in w.text.logs (left_in s left) y ≡ true → (is_kept y h.kept || is_kept y h.kept_readers) ≡ true
unfolding RecordsAreKept
in_is_kept w s h left (OfBatch k) g e = g (OfBatch k) (k % w.text.logs) (any_take (is_commit k) (left (k % w.text.logs)) (log_at s (k % w.text.logs)).records e)
in_is_kept w s h left (OfAct t) g e = g (OfAct t) (t % w.text.logs) (any_take (is_act_commit t) (left (t % w.text.logs)) (log_at s (t % w.text.logs)).records e)
