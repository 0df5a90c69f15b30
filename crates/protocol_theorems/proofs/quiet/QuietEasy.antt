-- Where no event is allowed: records, epochs, outboxes, messages, marks.
use Rattle.std.specs.Prelude.{◌≡◌, refl, ℕ, zero, suc, ◌<◌, ◌≤◌, ◌%◌, nat_lt, not, Bool, true, false, ◌&&◌, ◌||◌, if◌then◌else◌, ◌⊎◌, Option, Some, None, is_some, List, [], ◌∷◌, length, find, slice_get, slice_index_or}
use Rattle.std.specs.List.{list_any, list_all}
use Rattle.std.proofs.Common.{arith, sym, subst, inl, inr, ◌∙◌}
use Rattle.std.proofs.lemmas.Bool.{and_parts, true≢false, eq-eqb, lt-ltb, cases_Bool, cases_lt}
use Rattle.std.proofs.lemmas.List.{take_all}
use Rattle.snap_base.proofs.Lists.{each_found}
use Rattle.protocol.specs.Fixed.{Fixed, Next, Go, Ended}
use Rattle.protocol.specs.Records.{LogRecord, is_commit, is_act_commit}
use Rattle.protocol.specs.Parts.{Act, Joined, Batch, Outcome, Machine}
use Rattle.protocol.specs.Events.{Send, End, Sync, Settle, Rollback, DropSub, Seal, Finish, Trim}
use Rattle.protocol.specs.Words.{holds, is_aborted, is_doomed, is_sealed, is_decided, is_settled, is_committing, is_durable, is_going, is_ended, is_empty, is_live_act, act_of, joined_of, sub_of, outcome_of, batch_of, declared_of}
use Rattle.protocol.specs.Conditions.{conditions, epoch}
use Rattle.protocol.specs.Effects.{cell_at, log_at, no_cell, no_log}
use Rattle.protocol.specs.Runs.{IsQuiet}
use Rattle.protocol_theorems.specs.Quiet.{AreFoundByNumber, MarksAreWritten}

-- ---- tests

pub passes : {X : Type 0} (test : X → Bool) (o : Option X) (x : X) → o ≡ Some x → test x ≡ true → holds test o ≡ true
passes test o x e h = rw e h

pub there : {X : Type 0} (test : X → Bool) (xs : List X) (i : ℕ) (d : X) → i < length xs → test (slice_index_or xs i d) ≡ true → holds test (slice_get xs i) ≡ true
there test [] i d l h = absurd (omega (arith, l))
there test (x ∷ xs) zero d l h = h
there test (x ∷ xs) (suc i) d l h = there test xs i d (omega (arith, l)) h

-- all pass, or one does not
pub all_or_one : {X : Type 0} (f : X → Bool) (xs : List X) → (list_all f xs ≡ true) ⊎ ((x : X) × (i : ℕ) × (slice_get xs i ≡ Some x) × (f x ≡ false))
all_or_one f [] = inl refl
all_or_one {X} f (x ∷ xs) = by (f x) refl (all_or_one f xs)
  where
    by : (b : Bool) → f x ≡ b → (list_all f xs ≡ true) ⊎ ((y : X) × (i : ℕ) × (slice_get xs i ≡ Some y) × (f y ≡ false)) → ((b && list_all f xs) ≡ true) ⊎ ((y : X) × (i : ℕ) × (slice_get (x ∷ xs) i ≡ Some y) × (f y ≡ false))
    by false e r = inr (x, zero, refl, e)
    by true e (inl h) = inl h
    by true e (inr r) = inr (r.0, suc r.1, r.2, r.3)

pub any_at : {X : Type 0} (f : X → Bool) (xs : List X) (i : ℕ) (x : X) → slice_get xs i ≡ Some x → f x ≡ true → list_any f xs ≡ true
any_at f [] i x e h = absurd (cc e)
any_at f (y ∷ xs) zero x e h = let q : y ≡ x = cc e in rw (q, h) refl
any_at f (y ∷ xs) (suc i) x e h = by (f y) (any_at f xs i x e h)
  where
    by : (b : Bool) → list_any f xs ≡ true → (b || list_any f xs) ≡ true
    by true g = refl
    by false g = g

pub list_all_of : {X : Type 0} (f : X → Bool) (xs : List X) → ((i : ℕ) (x : X) → slice_get xs i ≡ Some x → f x ≡ false → ⊥) → list_all f xs ≡ true
list_all_of f xs none = elim (all_or_one f xs) [ inl h ↦ h | inr r ↦ absurd (none r.1 r.0 r.2 r.3) ]

pub all_in : {X : Type 0} (f : X → Bool) (xs : List X) (i : ℕ) (x : X) → slice_get xs i ≡ Some x → list_all f xs ≡ true → f x ≡ true
all_in f [] i x e h = absurd (cc e)
all_in f (y ∷ xs) zero x e h = let q : y ≡ x = cc e in subst (λ z. f z ≡ true) q (and_parts (f y) (list_all f xs) h).0
all_in f (y ∷ xs) (suc i) x e h = all_in f xs i x e (and_parts (f y) (list_all f xs) h).1

-- who is found is there
pub found_at : {X : Type 0} (p : X → Bool) (xs : List X) (x : X) → find p xs ≡ Some x → (i : ℕ) × (slice_get xs i ≡ Some x)
found_at p [] x e = absurd (cc e)
found_at {X} p (y ∷ xs) x e = by (p y) e (found_at p xs x)
  where
    by : (b : Bool) → (if b then Some y else find p xs) ≡ Some x → (find p xs ≡ Some x → (i : ℕ) × (slice_get xs i ≡ Some x)) → (i : ℕ) × (slice_get (y ∷ xs) i ≡ Some x)
    by true g k = (zero, g)
    by false g k = let r = k g in (suc r.0, r.1)

pub not_false : (b : Bool) → not b ≡ false → b ≡ true
not_false true e = refl
not_false false e = absurd (true≢false e)

pub false_not : (b : Bool) → b ≡ false → not b ≡ true
false_not true e = absurd (true≢false e)
false_not false e = refl

-- ---- records

pub synced : {C : Type 0} (w : Fixed C) (s : Machine C) → IsQuiet w s → (l : ℕ) → l < length s.logs → length (log_at s l).records ≤ (log_at s l).synced
unfolding conditions
synced w s q l r = elim (cases_lt (log_at s l).synced (length (log_at s l).records)) [
  | inl h ↦ absurd (q (Sync l) (there (λ g. nat_lt g.synced (length g.records)) s.logs l no_log r (lt-ltb (log_at s l).synced (length (log_at s l).records) h), tt))
  | inr h ↦ h
]

-- a record that is there is durable
pub durable : {C : Type 0} (w : Fixed C) (s : Machine C) → IsQuiet w s → length s.logs ≡ w.text.logs → 1 ≤ w.text.logs → (n : ℕ) (test : LogRecord → Bool) → list_any test (log_at s (n % w.text.logs)).records ≡ true → holds (is_durable test) (slice_get s.logs (n % w.text.logs)) ≡ true
durable w s q e l n test h =
    let r : n % w.text.logs < length s.logs = subst (λ z. n % w.text.logs < z) (sym e) (Rattle.std.proofs.Math.Nat.mod-lt n l) in
    there (is_durable test) s.logs (n % w.text.logs) no_log r (rw (take_all (log_at s (n % w.text.logs)).synced (log_at s (n % w.text.logs)).records (synced w s q (n % w.text.logs) r)) h)

-- ---- cells

pub up_to_date : {C : Type 0} (w : Fixed C) (s : Machine C) → IsQuiet w s → (a : ℕ) → a < length s.cells → (cell_at s a).epoch ≤ epoch s.book → (cell_at s a).epoch ≡ epoch s.book
unfolding conditions
up_to_date w s q a r l = elim (cases_lt (cell_at s a).epoch (epoch s.book)) [
  | inl h ↦ absurd (q (Rollback a) (there (λ c. nat_lt c.epoch (epoch s.book)) s.cells a no_cell r (lt-ltb (cell_at s a).epoch (epoch s.book) h), tt))
  | inr h ↦ omega (arith, h, l)
]

going_or_ended : {C : Type 0} (n : Next C) → (is_going n ≡ true) ⊎ (is_ended n ≡ true)
going_or_ended (Go b d) = inl refl
going_or_ended (Ended r) = inr refl

pub no_outcome : {C : Type 0} (w : Fixed C) (s : Machine C) → IsQuiet w s → (t a : ℕ) → a < length s.cells → is_some (outcome_of t (cell_at s a).outbox) ≡ true → ⊥
unfolding conditions
no_outcome {C} w s q t a r h = by (outcome_of t (cell_at s a).outbox) refl h
  where
    by : (o : Option (Outcome C)) → outcome_of t (cell_at s a).outbox ≡ o → is_some o ≡ true → ⊥
    by None e g = true≢false (sym g)
    by (Some x) e g = elim (going_or_ended x.next) [
      | inl i ↦ q (Send t a) (there (λ c. holds (λ x. is_going x.next) (outcome_of t c.outbox)) s.cells a no_cell r (passes (λ x. is_going x.next) (outcome_of t (cell_at s a).outbox) x e i), tt)
      | inr i ↦ q (End t a) (there (λ c. holds (λ x. is_ended x.next) (outcome_of t c.outbox)) s.cells a no_cell r (passes (λ x. is_ended x.next) (outcome_of t (cell_at s a).outbox) x e i), tt)
    ]

-- nothing lies in an outbox
pub empty_outbox : {C : Type 0} (w : Fixed C) (s : Machine C) → IsQuiet w s → (a : ℕ) → a < length s.cells → (cell_at s a).outbox ≡ []
empty_outbox {C} w s q a r = by (cell_at s a).outbox refl
  where
    by : (xs : List (Outcome C)) → (cell_at s a).outbox ≡ xs → xs ≡ []
    by [] e = refl
    by (x ∷ xs) e = absurd (no_outcome w s q x.tid a r (subst (λ z. is_some (outcome_of x.tid z) ≡ true) (sym e) (rw (eq-eqb x.tid x.tid refl) refl)))

-- ---- messages

pub no_aborted_sub : {C : Type 0} (w : Fixed C) (s : Machine C) → IsQuiet w s → (k a : ℕ) → is_some (sub_of k a s.post.subs) ≡ true → is_aborted k s.book.cascades ≡ false
unfolding conditions
no_aborted_sub w s q k a h = elim (cases_Bool (is_aborted k s.book.cascades)) [
  | inl e ↦ absurd (q (DropSub k a) (h, (e, tt)))
  | inr e ↦ e
]

-- ---- ACTs that are doomed or sealed have left

pub has_left : {C : Type 0} (w : Fixed C) (s : Machine C) → IsQuiet w s → (t a : ℕ) (x : Act) (p : Joined) → act_of t s.book.acts ≡ Some x → (is_doomed x.status || is_sealed x.status) ≡ true → joined_of a x ≡ Some p → p.finished ≡ true
unfolding conditions
has_left w s q t a x p e d j = elim (cases_Bool p.finished) [
  | inl f ↦ f
  | inr f ↦ absurd (q (Finish t a) (passes (λ x. is_doomed x.status || is_sealed x.status) (act_of t s.book.acts) x e d, (passes (λ x. holds (λ p. not p.finished) (joined_of a x)) (act_of t s.book.acts) x e (passes (λ p. not p.finished) (joined_of a x) p j (false_not p.finished f)), tt)))
]

pub all_left : {C : Type 0} (w : Fixed C) (s : Machine C) → IsQuiet w s → AreFoundByNumber w s → (t : ℕ) (x : Act) → act_of t s.book.acts ≡ Some x → (is_doomed x.status || is_sealed x.status) ≡ true → list_all (λ p. p.finished) x.places ≡ true
all_left w s q f t x e d = list_all_of (λ p. p.finished) x.places (λ i p g n. true≢false (sym (has_left w s q t p.actor x p e d (each_found (λ p. joined_of p.actor x ≡ Some p) x.places i p g (f.joined t x e))) ∙ n))

-- who is doomed is not live
pub doomed_is_over : {C : Type 0} (w : Fixed C) (s : Machine C) → IsQuiet w s → AreFoundByNumber w s → (t : ℕ) (x : Act) → act_of t s.book.acts ≡ Some x → is_doomed x.status ≡ true → is_live_act x ≡ false
doomed_is_over w s q f t x e d = by (is_empty x.places)
  where
    by : (b : Bool) → not (if b then is_doomed x.status else list_all (λ p. p.finished) x.places) ≡ false
    by true = rw d refl
    by false = rw (all_left w s q f t x e (rw d refl)) refl

-- ---- nobody is just decided, or commits

pub not_decided : {C : Type 0} (w : Fixed C) (s : Machine C) → IsQuiet w s → MarksAreWritten w s → 1 ≤ w.text.logs → (t : ℕ) (x : Act) → act_of t s.book.acts ≡ Some x → is_decided x.status ≡ false
unfolding conditions
not_decided w s q r l t x e = elim (cases_Bool (is_decided x.status)) [
  | inl d ↦ absurd (q (Seal t) (passes (λ x. is_decided x.status) (act_of t s.book.acts) x e d, (durable w s q r.logs l t (is_act_commit t) (r.act_commit t x e d), tt)))
  | inr d ↦ d
]

pub not_committing : {C : Type 0} (w : Fixed C) (s : Machine C) → IsQuiet w s → MarksAreWritten w s → 1 ≤ w.text.logs → (k : ℕ) (b : Batch) → batch_of k s.desk.batches ≡ Some b → b.aborted ≡ false → is_committing b.stage ≡ false
unfolding conditions
not_committing w s q r l k b e n = elim (cases_Bool (is_committing b.stage)) [
  | inl d ↦ absurd (q (Settle k) (passes (λ b. is_committing b.stage && not b.aborted) (batch_of k s.desk.batches) b e (rw (d, n) refl), (durable w s q r.logs l k (is_commit k) (r.commit k b e d), tt)))
  | inr d ↦ d
]

-- who is settled is trimmed everywhere
pub settled_is_trimmed : {C : Type 0} (w : Fixed C) (s : Machine C) → IsQuiet w s → AreFoundByNumber w s → (k : ℕ) (b : Batch) → batch_of k s.desk.batches ≡ Some b → b.aborted ≡ false → is_settled b.stage ≡ true → list_all (λ p. p.trimmed) b.places ≡ true
unfolding conditions
settled_is_trimmed w s q f k b e n d = list_all_of (λ p. p.trimmed) b.places (λ i p g z.
    q (Trim k p.actor) (passes (λ b. is_settled b.stage && (not b.aborted && holds (λ x. not x.trimmed) (declared_of p.actor b))) (batch_of k s.desk.batches) b e (rw (d, n) (passes (λ x. not x.trimmed) (declared_of p.actor b) p (each_found (λ p. (declared_of p.actor b ≡ Some p) × (p.actor < length s.cells)) b.places i p g (f.declared k b e)).0 (false_not p.trimmed z))), tt))
