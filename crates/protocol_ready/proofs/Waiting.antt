-- What waits at the ring, in the post, for a log, at the desk and in the book stays allowed while others come, and where only one of
-- two can be allowed.
use Rattle.std.specs.Prelude.{◌≡◌, refl, ℕ, zero, suc, ◌%◌, ◌==◌, nat_lt, Bool, true, false, not, ◌&&◌, Option, Some, None, ◌∷◌, if◌then◌else◌, [], List, ◌++◌, length, map, slice_get, slice_set, slice_index_or}
use Rattle.std.specs.List.{list_all}
use Rattle.std.proofs.Common.{arith, sym, ap, subst, ◌∙◌}
use Rattle.std.proofs.lemmas.Bool.{eqb-false, eqb-true, true≢false, and_parts, ltb-true, lt-ltb}
use Rattle.std.proofs.lemmas.List.{length-append}
use Rattle.snap_base.proofs.Lists.{get_other}
use Rattle.protocol.specs.Fixed.{Fixed, tx_at, is_pact}
use Rattle.protocol.specs.OnRing.{joined_at}
use Rattle.protocol.specs.Records.{LogRecord}
use Rattle.protocol.specs.Parts.{Declared, Stage, Formed, Committing, Settled, Act, Batch, Machine}
use Rattle.protocol.specs.Events.{Event, Submit, Pass, Form, Admit, Arrive, Complete, Sync, Note, Commit, Settle, Abort, DropSub, Prepare, Vouch, Decide, Seal, Finish, Trim}
use Rattle.protocol.specs.Words.{is_empty, holds, act_of, is_open, is_formed, is_committing, is_settled, is_next_to_commit, batch_of}
use Rattle.protocol.specs.Conditions.{IsAllowed, conditions, has_unsynced, awaits_note, awaits_settling, awaits_trim, is_noted_everywhere}
use Rattle.protocol.specs.OnDesk as desk
use Rattle.protocol.specs.Effects.{after, log_at, no_log, added}
use Rattle.protocol_ready.specs.Touched.{is_abort, changes_stage}
use Rattle.protocol_ready.specs.Refusing.{is_submit, is_form, is_on_batches, committed_by, is_at}
use Rattle.protocol_laws.proofs.first.Lists.{some_held}
use Rattle.protocol_ready.proofs.Remaining.{found_first}
use Rattle.protocol_ready.proofs.TouchedParts.{set_passes}

-- what is allowed, and stays so
abbrev pub Stays : {C : Type 0} → Fixed C → Event → Machine C → Event → Type 0
Stays w e s f = IsAllowed w f s → IsAllowed w f (after w e s)

pub never : (b : Bool) → b ≡ true → not b ≡ true → ⊥
never true h n = true≢false (sym n)
never false h n = true≢false (sym h)

-- ---- the ring

pub submit_went : {C : Type 0} (w : Fixed C) (e : Event) (s : Machine C) (n : ℕ) → is_abort e ≡ false → IsAllowed w e s → (Submit n ≡ e → ⊥) → Stays w e s (Submit n)
unfolding conditions after
submit_went w (Submit m) s n z al apart h = absurd (apart (ap Submit (eqb-true n s.ring.next_tx (and_parts _ _ h.0).0 ∙ sym (eqb-true m s.ring.next_tx (and_parts _ _ al.0).0))))
submit_went w (Abort k) s n z al apart h = absurd (true≢false z)
submit_went w _ s n z al apart h = h

pub pass_went : {C : Type 0} (w : Fixed C) (e : Event) (s : Machine C) (c : ℕ) → is_abort e ≡ false → IsAllowed w e s → is_submit e ≡ false → (Pass c ≡ e → ⊥) → Stays w e s (Pass c)
unfolding conditions after
pass_went w (Submit n) s c z al g apart h = absurd (true≢false g)
pass_went w (Pass d) s c z al g apart h = absurd (apart (ap Pass (eqb-true c _ h.0 ∙ sym (eqb-true d _ al.0))))
pass_went w (Form k) s c z al g apart h = absurd (never _ (and_parts _ _ h.1.0).0 al.1.0)
pass_went w (Admit t) s c z al g apart h = absurd (never _ (and_parts _ _ h.1.0).1 al.1.0)
pass_went w (Abort k) s c z al g apart h = absurd (true≢false z)
pass_went w _ s c z al g apart h = h

-- who waits at a coordinator waits there still when one more comes
joined_more : (queues : List (List ℕ)) (c n h : ℕ) → not (is_empty (slice_index_or queues h [])) ≡ true → not (is_empty (slice_index_or (slice_set queues c (slice_index_or queues c [] ++ n ∷ [])) h [])) ≡ true
joined_more [] c n h e = e
joined_more ([] ∷ qs) zero n zero e = refl
joined_more ((x ∷ q) ∷ qs) zero n zero e = refl
joined_more (q ∷ qs) zero n (suc h) e = e
joined_more (q ∷ qs) (suc c) n zero e = e
joined_more (q ∷ qs) (suc c) n (suc h) e = joined_more qs c n h e

pub submitted_form : {C : Type 0} (w : Fixed C) (n : ℕ) (s : Machine C) (k : ℕ) → Stays w (Submit n) s (Form k)
unfolding conditions after
submitted_form w n s k h = (h.0, (by (is_pact (tx_at w.text n)), h.1.1))
  where
    by : (b : Bool) → not (is_empty (slice_index_or (if b then joined_at (n % w.text.coordinators) n s.ring.pacts else s.ring.pacts) s.ring.holder [])) ≡ true
    by true = joined_more s.ring.pacts (n % w.text.coordinators) n s.ring.holder h.1.0
    by false = h.1.0

pub submitted_admit : {C : Type 0} (w : Fixed C) (n : ℕ) (s : Machine C) (t : ℕ) → Stays w (Submit n) s (Admit t)
unfolding conditions after
submitted_admit w n s t h = (h.0, (by (is_pact (tx_at w.text n)), h.1.1))
  where
    by : (b : Bool) → not (is_empty (slice_index_or (if b then s.ring.acts else joined_at (n % w.text.coordinators) n s.ring.acts) s.ring.holder [])) ≡ true
    by true = h.1.0
    by false = joined_more s.ring.acts (n % w.text.coordinators) n s.ring.holder h.1.0

-- ---- the post

pub posted_sub : {C : Type 0} (w : Fixed C) (j : ℕ) (s : Machine C) (k a : ℕ) → Stays w (Form j) s (Arrive k a)
unfolding conditions after
posted_sub w j s k a h = rw (found_first (λ m. (m.bid == k) && (m.actor == a)) s.post.subs _ h.0) h

pub posted_drop : {C : Type 0} (w : Fixed C) (j : ℕ) (s : Machine C) (k a : ℕ) → Stays w (Form j) s (DropSub k a)
unfolding conditions after
posted_drop w j s k a h = rw (found_first (λ m. (m.bid == k) && (m.actor == a)) s.post.subs _ h.0) h

-- ---- the logs

longer : {X : Type 0} (n : ℕ) (xs ys : List X) → nat_lt n (length xs) ≡ true → nat_lt n (length (xs ++ ys)) ≡ true
longer n xs ys h = lt-ltb n (length (xs ++ ys)) (omega (arith, ltb-true n (length xs) h, length-append xs ys))

added_went : {C : Type 0} (s : Machine C) (l j : ℕ) (rs : List LogRecord) → holds has_unsynced (slice_get s.logs l) ≡ true → holds has_unsynced (slice_get (slice_set s.logs j (added rs (log_at s j))) l) ≡ true
added_went s l j rs = set_passes has_unsynced s.logs l j no_log (added rs (log_at s j)) (longer (log_at s j).synced (log_at s j).records rs)

pub sync_went : {C : Type 0} (w : Fixed C) (e : Event) (s : Machine C) (l : ℕ) → (Sync l ≡ e → ⊥) → Stays w e s (Sync l)
unfolding conditions after
sync_went w (Form k) s l apart h = (added_went s l (k % w.text.logs) _ h.0, tt)
sync_went w (Complete k a) s l apart h = (added_went s l (a % w.text.logs) _ h.0, tt)
sync_went w (Commit k) s l apart h = (added_went s l (k % w.text.logs) _ h.0, tt)
sync_went w (Prepare t a) s l apart h = (added_went s l (a % w.text.logs) _ h.0, tt)
sync_went w (Decide t) s l apart h = (added_went s l (t % w.text.logs) _ h.0, tt)
sync_went w (Sync m) s l apart h = by (m == l) refl
  where
    by : (b : Bool) → (m == l) ≡ b → IsAllowed w (Sync l) (after w (Sync m) s)
    by true e = absurd (apart (ap Sync (sym (eqb-true m l e))))
    by false e = rw (get_other s.logs l m _ (eqb-false m l e)) h
sync_went w _ s l apart h = h

-- ---- the desk

one_stage : (p q : Batch → Bool) (o : Option Batch) → ((b : Batch) → p b ≡ true → q b ≡ true → ⊥) → holds p o ≡ true → holds q o ≡ true → ⊥
one_stage p q None d h g = true≢false (sym h)
one_stage p q (Some b) d h g = d b h g

formed_commits : (st : Stage) → is_formed st ≡ true → is_committing st ≡ true → ⊥
formed_commits Formed h g = true≢false (sym g)
formed_commits Committing h g = true≢false (sym h)
formed_commits Settled h g = true≢false (sym h)

formed_settled : (st : Stage) → is_formed st ≡ true → is_settled st ≡ true → ⊥
formed_settled Formed h g = true≢false (sym g)
formed_settled Committing h g = true≢false (sym h)
formed_settled Settled h g = true≢false (sym h)

commits_settled : (st : Stage) → is_committing st ≡ true → is_settled st ≡ true → ⊥
commits_settled Formed h g = true≢false (sym h)
commits_settled Committing h g = true≢false (sym g)
commits_settled Settled h g = true≢false (sym h)

-- a batch that commits is open, and one that is settled then commits: so it awaits nothing else by its stage
pub settle_stage : {C : Type 0} (w : Fixed C) (e : Event) (s : Machine C) (k : ℕ) → is_form e ≡ false → IsAllowed w e s → (Settle k ≡ e → ⊥) → IsAllowed w (Settle k) s → changes_stage e k ≡ false
unfolding conditions
settle_stage w (Form j) s k f al apart h = absurd (true≢false f)
settle_stage w (Commit j) s k f al apart h = by (j == k) refl
  where
    by : (b : Bool) → (j == k) ≡ b → b ≡ false
    by true e = absurd (one_stage _ _ (batch_of k s.desk.batches) (λ b u v. formed_commits b.stage (and_parts _ _ (and_parts _ _ u).0).0 (and_parts _ _ v).0) (subst (λ j. holds (λ b. is_open b && is_next_to_commit j s.desk.batches) (batch_of j s.desk.batches) ≡ true) (eqb-true j k e) al.0) h.0)
    by false e = refl
settle_stage w (Settle j) s k f al apart h = by (j == k) refl
  where
    by : (b : Bool) → (j == k) ≡ b → b ≡ false
    by true e = absurd (apart (ap Settle (sym (eqb-true j k e))))
    by false e = refl
settle_stage w _ s k f al apart h = refl

pub trim_stage : {C : Type 0} (w : Fixed C) (e : Event) (s : Machine C) (k a : ℕ) → is_form e ≡ false → IsAllowed w e s → IsAllowed w (Trim k a) s → changes_stage e k ≡ false
unfolding conditions
trim_stage w (Form j) s k a f al h = absurd (true≢false f)
trim_stage w (Commit j) s k a f al h = by (j == k) refl
  where
    by : (b : Bool) → (j == k) ≡ b → b ≡ false
    by true e = absurd (one_stage _ _ (batch_of k s.desk.batches) (λ b u v. formed_settled b.stage (and_parts _ _ (and_parts _ _ u).0).0 (and_parts _ _ v).0) (subst (λ j. holds (λ b. is_open b && is_next_to_commit j s.desk.batches) (batch_of j s.desk.batches) ≡ true) (eqb-true j k e) al.0) h.0)
    by false e = refl
trim_stage w (Settle j) s k a f al h = by (j == k) refl
  where
    by : (b : Bool) → (j == k) ≡ b → b ≡ false
    by true e = absurd (one_stage _ _ (batch_of k s.desk.batches) (λ b u v. commits_settled b.stage (and_parts _ _ u).0 (and_parts _ _ v).0) (subst (λ j. holds (λ b. is_committing b.stage && not b.aborted) (batch_of j s.desk.batches) ≡ true) (eqb-true j k e) al.0) h.0)
    by false e = refl
trim_stage w _ s k a f al h = refl

pub note_stage : {C : Type 0} (w : Fixed C) (e : Event) (s : Machine C) (k a : ℕ) → is_form e ≡ false → is_at k (committed_by e) ≡ false → IsAllowed w e s → IsAllowed w (Note k a) s → changes_stage e k ≡ false
unfolding conditions
note_stage w (Form j) s k a f g al h = absurd (true≢false f)
note_stage w (Commit j) s k a f g al h = g
note_stage w (Settle j) s k a f g al h = by (j == k) refl
  where
    by : (b : Bool) → (j == k) ≡ b → b ≡ false
    by true e = absurd (one_stage _ _ (batch_of k s.desk.batches) (λ b u v. formed_commits b.stage (and_parts _ _ (and_parts _ _ v).0).0 (and_parts _ _ u).0) (subst (λ j. holds (λ b. is_committing b.stage && not b.aborted) (batch_of j s.desk.batches) ≡ true) (eqb-true j k e) al.0) h.0)
    by false e = refl
note_stage w _ s k a f g al h = refl

pub commit_stage : (e : Event) (k : ℕ) → is_on_batches e ≡ false → (Commit k ≡ e → ⊥) → changes_stage e k ≡ false
commit_stage (Form j) k h apart = absurd (true≢false h)
commit_stage (Settle j) k h apart = absurd (true≢false h)
commit_stage (Commit j) k h apart = by (j == k) refl
  where
    by : (b : Bool) → (j == k) ≡ b → b ≡ false
    by true e = absurd (apart (ap Commit (sym (eqb-true j k e))))
    by false e = refl
commit_stage _ k h apart = refl

pub abort_stage : (e : Event) (k : ℕ) → is_on_batches e ≡ false → is_at k (committed_by e) ≡ false → changes_stage e k ≡ false
abort_stage (Form j) k h g = absurd (true≢false h)
abort_stage (Settle j) k h g = absurd (true≢false h)
abort_stage (Commit j) k h g = g
abort_stage _ k h g = refl

-- a new batch stands behind those that there are
pub formed_note : {C : Type 0} (w : Fixed C) (j : ℕ) (s : Machine C) (k a : ℕ) → awaits_note k a s.desk.batches ≡ true → awaits_note k a (after w (Form j) s).desk.batches ≡ true
unfolding after
formed_note w j s k a h = ap (holds _) (found_first (λ b. b.bid == k) s.desk.batches _ (some_held _ _ h)) ∙ h

pub formed_settle : {C : Type 0} (w : Fixed C) (j : ℕ) (s : Machine C) (k : ℕ) → awaits_settling k s.desk.batches ≡ true → awaits_settling k (after w (Form j) s).desk.batches ≡ true
unfolding after
formed_settle w j s k h = ap (holds _) (found_first (λ b. b.bid == k) s.desk.batches _ (some_held _ _ h)) ∙ h

pub formed_trim : {C : Type 0} (w : Fixed C) (j : ℕ) (s : Machine C) (k a : ℕ) → awaits_trim k a s.desk.batches ≡ true → awaits_trim k a (after w (Form j) s).desk.batches ≡ true
unfolding after
formed_trim w j s k a h = ap (holds _) (found_first (λ b. b.bid == k) s.desk.batches _ (some_held _ _ h)) ∙ h

-- a mark is added
all_noted : (a : ℕ) (ps : List Declared) → list_all (λ p. p.noted) ps ≡ true → list_all (λ p. p.noted) (map (λ p. desk.mark_if (p.actor == a) desk.is_noted p) ps) ≡ true
all_noted a [] h = refl
all_noted a (p ∷ ps) h = let q = and_parts p.noted (list_all (λ p. p.noted) ps) h in by (p.actor == a) q.0 (all_noted a ps q.1)
  where
    by : (x : Bool) → p.noted ≡ true → list_all (λ p. p.noted) (map (λ p. desk.mark_if (p.actor == a) desk.is_noted p) ps) ≡ true
        → ((desk.mark_if x desk.is_noted p).noted && list_all (λ p. p.noted) (map (λ p. desk.mark_if (p.actor == a) desk.is_noted p) ps)) ≡ true
    by true n r = r
    by false n r = rw n r

batch_noted : (k j a : ℕ) (bs : List Batch) → holds (λ b. list_all (λ p. p.noted) b.places) (batch_of k bs) ≡ true → holds (λ b. list_all (λ p. p.noted) b.places) (batch_of k (desk.changed_batch j (desk.marked a desk.is_noted) bs)) ≡ true
batch_noted k j a [] h = h
batch_noted k j a (b ∷ bs) h = by (b.bid == j) (b.bid == k) refl h (batch_noted k j a bs)
  where
    by : (q z : Bool) → (b.bid == k) ≡ z → holds (λ b. list_all (λ p. p.noted) b.places) (if z then Some b else batch_of k bs) ≡ true
        → (holds (λ b. list_all (λ p. p.noted) b.places) (batch_of k bs) ≡ true → holds (λ b. list_all (λ p. p.noted) b.places) (batch_of k (desk.changed_batch j (desk.marked a desk.is_noted) bs)) ≡ true)
        → holds (λ b. list_all (λ p. p.noted) b.places) (if (desk.change_if q (desk.marked a desk.is_noted) b).bid == k then Some (desk.change_if q (desk.marked a desk.is_noted) b) else batch_of k (desk.changed_batch j (desk.marked a desk.is_noted) bs)) ≡ true
    by true true y i r = rw y (all_noted a b.places i)
    by true false y i r = rw y (r i)
    by false true y i r = rw y i
    by false false y i r = rw y (r i)

pub noted_more : {C : Type 0} (w : Fixed C) (j a : ℕ) (s : Machine C) (k : ℕ) → is_noted_everywhere k s.desk.batches ≡ true → is_noted_everywhere k (after w (Note j a) s).desk.batches ≡ true
unfolding after
noted_more w j a s k h = batch_noted k j a s.desk.batches h

-- ---- the book

-- a new ACT stands behind those that there are
admitted_first : {C : Type 0} (w : Fixed C) (u : ℕ) (s : Machine C) (t : ℕ) (p : Act → Bool) → holds p (act_of t s.book.acts) ≡ true → act_of t (after w (Admit u) s).book.acts ≡ act_of t s.book.acts
unfolding after
admitted_first w u s t p h = found_first (λ x. x.tid == t) s.book.acts _ (some_held p _ h)

pub admitted_prepare : {C : Type 0} (w : Fixed C) (u : ℕ) (s : Machine C) (t a : ℕ) → Stays w (Admit u) s (Prepare t a)
unfolding conditions
admitted_prepare w u s t a h = rw (admitted_first w u s t _ h.0) h

pub admitted_vouch : {C : Type 0} (w : Fixed C) (u : ℕ) (s : Machine C) (t a : ℕ) → Stays w (Admit u) s (Vouch t a)
unfolding conditions after
admitted_vouch w u s t a h = (ap (holds _) (found_first (λ x. x.tid == t) s.book.acts _ (some_held _ _ h.0)) ∙ h.0, h.1)

pub admitted_decide : {C : Type 0} (w : Fixed C) (u : ℕ) (s : Machine C) (t : ℕ) → Stays w (Admit u) s (Decide t)
unfolding conditions after
admitted_decide w u s t h = rw (found_first (λ x. x.tid == t) s.book.acts _ (some_held _ _ h.0)) h

pub admitted_seal : {C : Type 0} (w : Fixed C) (u : ℕ) (s : Machine C) (t : ℕ) → Stays w (Admit u) s (Seal t)
unfolding conditions after
admitted_seal w u s t h = (ap (holds _) (found_first (λ x. x.tid == t) s.book.acts _ (some_held _ _ h.0)) ∙ h.0, h.1)

pub admitted_finish : {C : Type 0} (w : Fixed C) (u : ℕ) (s : Machine C) (t a : ℕ) → Stays w (Admit u) s (Finish t a)
unfolding conditions after
admitted_finish w u s t a h = rw (found_first (λ x. x.tid == t) s.book.acts _ (some_held _ _ h.0)) h
