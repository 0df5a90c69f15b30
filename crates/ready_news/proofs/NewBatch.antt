-- A batch that was just formed: none had its number before, nothing of it is recorded but that it is there, and none of its
-- transactions has a verdict.
use Rattle.std.specs.Prelude.{◌≡◌, refl, ℕ, zero, suc, ◌+◌, ◌<◌, ◌≤◌, ◌%◌, ◌==◌, not, Bool, true, false, ◌&&◌, ◌||◌, if◌then◌else◌, is_some, Option, Some, None, List, [], ◌∷◌, ◌++◌, length, map, find, slice_get, slice_set, slice_index_or}
use Rattle.std.specs.List.{list_any, AllByRecursion}
use Rattle.std.proofs.Common.{arith, sym, subst, inl, inr}
use Rattle.std.proofs.lemmas.Bool.{true≢false, and_parts, both_ways, eqb-true}
use Rattle.aml_slice.specs.Controls.{Rest}
use Rattle.snap_base.specs.declared.verdicts.Verdict.{Verdict}
use Rattle.snap_base.proofs.Booleans.{either_way, not_so}
use Rattle.snap_base.proofs.Lists.{all_last}
use Rattle.protocol.specs.Conditions.{IsAllowed, conditions}
use Rattle.protocol.specs.Effects.{after, added, log_at, no_log}
use Rattle.protocol.specs.Events.{Form, Note, Reply}
use Rattle.protocol.specs.Fixed.{Fixed}
use Rattle.protocol.specs.Numbers.{from}
use Rattle.protocol.specs.OnDesk as desk
use Rattle.protocol.specs.OnRing as ring
use Rattle.protocol.specs.Parts.{Act, Cascade, Pact, Batch, Log, Machine}
use Rattle.protocol.specs.Records.{LogRecord, BatchInfo, BatchComplete, BatchDone, ActPrepare, ActDone, is_complete}
use Rattle.protocol.specs.Verdicts.{or_else, pact_verdict, verdict, verdict_in_batch, verdict_of_pact, verdict_of_act}
use Rattle.protocol.specs.Words.{holds, covers, batch_of, is_aborted, is_among, is_durable}
use Rattle.protocol_laws.proofs.first.Lists.{any_join, any_take}
use Rattle.protocol_records.specs.RecordLaws.{TellsOf, batch_actors}
use Rattle.protocol_theorems.proofs.quiet.SubPlaces.{new_batch}
use Rattle.ready_news.specs.New.{is_new}
use Rattle.ready_news.proofs.AfterRuns.{Holding}
use Rattle.ready_news.proofs.NewReplies.{was_none}
use Rattle.ready_news.proofs.Replies.{either_some, first_some}

abbrev pub fresh : Fixed Rest → Machine Rest → ℕ → Batch
fresh w s k = desk.new_batch k (ring.next_actors w.text s.ring) (ring.next_pacts w.text s.ring)

-- ---- its number

below_from : (low m k : ℕ) → low + m ≤ k → AllByRecursion (λ j. j < k) (from low m)
below_from low zero k h = tt
below_from low (suc m) k h = (omega (arith, h), below_from (low + 1) m k (omega (arith, h)))

its : (w : Fixed Rest) (s : Machine Rest) (k : ℕ) → Holding w s → IsAllowed w (Form k) s → (batch_of k s.desk.batches ≡ None) × (batch_of k (s.desk.batches ++ fresh w s k ∷ []) ≡ Some (fresh w s k))
unfolding conditions
its w s k before ok =
    let low = w.text.opening.next_bid in
    let number : k ≡ s.ring.next_bid = eqb-true k s.ring.next_bid ok.0 in
    let below : AllByRecursion (λ j. j < k) (from low (length s.desk.batches)) = below_from low (length s.desk.batches) k (omega (arith, number, before.next_bid)) in
    new_batch k (fresh w s k) s.desk.batches refl (subst (AllByRecursion (λ j. j < k)) (sym before.bids) below)

-- what does not hold of it is not asked for
pub formed_no : (w : Fixed Rest) (s : Machine Rest) (k j : ℕ) (test : Batch → Bool) → Holding w s → IsAllowed w (Form k) s → test (fresh w s k) ≡ false → (k == j) ≡ true → holds test (batch_of j (after w (Form k) s).desk.batches) ≡ true → ⊥
unfolding after
formed_no w s k j test before ok fails here h =
    both_ways (test (fresh w s k)) fails
    (subst (λ o. holds test o ≡ true) (its w s k before ok).1 (subst (λ i. holds test (batch_of i (s.desk.batches ++ fresh w s k ∷ [])) ≡ true) (sym (eqb-true k j here)) h))

-- ---- what is recorded of it

recorded : (test : LogRecord → Bool) (o : Option Log) → holds (is_durable test) o ≡ true → holds (λ g. list_any test g.records) o ≡ true
recorded test None h = h
recorded test (Some g) h = any_take test g.synced g.records h

-- in a log to which a record was added that fails the test
recorded_back : (test : LogRecord → Bool) (r : LogRecord) (gs : List Log) (i j : ℕ) → (list_any test (r ∷ []) ≡ true → ⊥) → holds (λ g. list_any test g.records) (slice_get (slice_set gs j (added (r ∷ []) (slice_index_or gs j no_log))) i) ≡ true
    → holds (λ g. list_any test g.records) (slice_get gs i) ≡ true
recorded_back test r [] i j other h = h
recorded_back test r (g ∷ gs) zero zero other h = elim (any_join test g.records (r ∷ []) h) [ inl e ↦ e | inr e ↦ absurd (other e) ]
recorded_back test r (g ∷ gs) (suc i) zero other h = h
recorded_back test r (g ∷ gs) zero (suc j) other h = h
recorded_back test r (g ∷ gs) (suc i) (suc j) other h = recorded_back test r gs i j other h

recorded_at : (test : LogRecord → Bool) (gs : List Log) (i : ℕ) → holds (λ g. list_any test g.records) (slice_get gs i) ≡ true → list_any test (slice_index_or gs i no_log).records ≡ true
recorded_at test [] i h = not_so h
recorded_at test (g ∷ gs) zero h = h
recorded_at test (g ∷ gs) (suc i) h = recorded_at test gs i h

-- of a batch that is not there no completion is recorded
none_complete : (k a : ℕ) (bs : List Batch) (xs : List Act) → batch_of k bs ≡ None → (rs : List LogRecord) → AllByRecursion (TellsOf bs xs) rs → list_any (is_complete k a) rs ≡ true → ⊥
none_complete k a bs xs none [] told h = not_so h
none_complete k a bs xs none (BatchInfo j actors tids ∷ rs) told h = none_complete k a bs xs none rs told.1 h
none_complete k a bs xs none (BatchComplete j b state ∷ rs) told h = either_way ((j == k) && (b == a)) (list_any (is_complete k a) rs) h here (none_complete k a bs xs none rs told.1)
  where
    here : ((j == k) && (b == a)) ≡ true → ⊥
    here q =
        let known : holds (λ x. is_among b (batch_actors x)) (batch_of k bs) ≡ true = subst (λ i. holds (λ x. is_among b (batch_actors x)) (batch_of i bs) ≡ true) (eqb-true j k (and_parts (j == k) (b == a) q).0) told.0 in
        not_so (subst (λ o. holds (λ x. is_among b (batch_actors x)) o ≡ true) none known)
none_complete k a bs xs none (BatchDone j values ∷ rs) told h = none_complete k a bs xs none rs told.1 h
none_complete k a bs xs none (ActPrepare t b state ∷ rs) told h = none_complete k a bs xs none rs told.1 h
none_complete k a bs xs none (ActDone t m c value actors ∷ rs) told h = none_complete k a bs xs none rs told.1 h

pub formed_note : (w : Fixed Rest) (s : Machine Rest) (k j a : ℕ) → Holding w s → IsAllowed w (Form k) s → (k == j) ≡ true → IsAllowed w (Note j a) (after w (Form k) s) → ⊥
unfolding conditions after
formed_note w s k j a before ok here c =
    let l = a % w.text.logs in
    let info = BatchInfo k (ring.next_actors w.text s.ring) (map (λ p. p.tid) (ring.next_pacts w.text s.ring)) in
    let logs = slice_set s.logs (k % w.text.logs) (added (info ∷ []) (log_at s (k % w.text.logs))) in
    let none : batch_of j s.desk.batches ≡ None = subst (λ i. batch_of i s.desk.batches ≡ None) (eqb-true k j here) (its w s k before ok).0 in
    let was = recorded_back (is_complete j a) info s.logs l (k % w.text.logs) (λ e. not_so e) (recorded (is_complete j a) (slice_get logs l) c.1.0) in
    none_complete j a s.desk.batches s.book.acts none (log_at s l).records (before.told l) (recorded_at (is_complete j a) s.logs l was)

-- ---- its transactions

none_found : {X : Type 0} (p : X → Bool) (xs : List X) → list_any p xs ≡ false → find p xs ≡ None
none_found p [] h = refl
none_found p (x ∷ xs) h = by (p x) h (none_found p xs)
  where
    by : (c : Bool) → (c || list_any p xs) ≡ false → (list_any p xs ≡ false → find p xs ≡ None) → (if c then Some x else find p xs) ≡ None
    by true g f = absurd (true≢false g)
    by false g f = f g

-- no cascade covers it
uncovered : (w : Fixed Rest) (s : Machine Rest) (k : ℕ) → Holding w (after w (Form k) s) → find (covers k) s.book.cascades ≡ None
unfolding after
uncovered w s k later = none_found (covers k) s.book.cascades (sym (all_last (λ b. b.aborted ≡ is_aborted b.bid s.book.cascades) s.desk.batches (fresh w s k) later.marked))

new_verdict : (cs : List Cascade) (n k : ℕ) (actors : List ℕ) (all ps : List Pact) → find (covers k) cs ≡ None → verdict_in_batch cs n (desk.new_batch k actors all) ps ≡ None
new_verdict cs n k actors all [] none = refl
new_verdict cs n k actors all (p ∷ ps) none = by (p.tx == n) (new_verdict cs n k actors all ps none)
  where
    by : (c : Bool) → verdict_in_batch cs n (desk.new_batch k actors all) ps ≡ None
        → (if c then pact_verdict (find (covers k) cs) (desk.new_batch k actors all) p else verdict_in_batch cs n (desk.new_batch k actors all) ps) ≡ None
    by true r = subst (λ o. pact_verdict o (desk.new_batch k actors all) p ≡ None) (sym none) refl
    by false r = r

formed_same : (cs : List Cascade) (n : ℕ) (b : Batch) (bs : List Batch) → verdict_in_batch cs n b b.pacts ≡ None → is_some (verdict_of_pact cs n (bs ++ b ∷ [])) ≡ true → is_some (verdict_of_pact cs n bs) ≡ true
formed_same cs n b [] none h = by (verdict_in_batch cs n b b.pacts) none h
  where
    by : (v : Option Verdict) → v ≡ None → is_some (or_else v None) ≡ true → false ≡ true
    by None e g = g
    by (Some x) e g = absurd (cc e)
formed_same cs n b (c ∷ bs) none h = either_some (verdict_in_batch cs n c c.pacts) (verdict_of_pact cs n (bs ++ b ∷ [])) (verdict_of_pact cs n bs) (formed_same cs n b bs none) h

pub formed_told : {X : Type 0} (w : Fixed Rest) (s : Machine Rest) (k n : ℕ) → Holding w (after w (Form k) s) → is_new w (Form k) s (Reply n) ≡ true → holds not (slice_get (after w (Form k) s).desk.replied n) ≡ true
    → is_some (verdict n (after w (Form k) s).book (after w (Form k) s).desk) ≡ true → X
unfolding after
formed_told w s k n later q h v =
    let cs = s.book.cascades in
    let bs = s.desk.batches in
    let pacts = ring.next_pacts w.text s.ring in
    let none = new_verdict cs n k (ring.next_actors w.text s.ring) pacts pacts (uncovered w s k later) in
    was_none w (Form k) s n q h (first_some (verdict_of_pact cs n (bs ++ fresh w s k ∷ [])) (verdict_of_pact cs n bs) (verdict_of_act n s.book.acts) (formed_same cs n (fresh w s k) bs none) v)
