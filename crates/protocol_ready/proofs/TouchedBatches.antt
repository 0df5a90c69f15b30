-- What an event leaves of each batch, of results, and of whether a transaction has a verdict.
use Rattle.std.specs.Prelude.{◌≡◌, refl, ℕ, ◌==◌, Bool, true, false, not, ◌&&◌, if◌then◌else◌, Option, Some, None, List, [], ◌∷◌, ◌++◌, ◌⊎◌, map, find, slice_get}
use Rattle.std.specs.List.{list_any, list_all}
use Rattle.snap_base.specs.declared.transactions.TxResult.{TxResult}
use Rattle.snap_base.proofs.Lists.{get_other}
use Rattle.std.proofs.Common.{sym, ap, inl, inr, ◌∙◌}
use Rattle.std.proofs.lemmas.Bool.{eqb-false, eqb-true, eq-eqb, or_parts, true≢false}
use Rattle.protocol.specs.Fixed.{Fixed, Next, Go, Ended}
use Rattle.protocol.specs.Parts.{Declared, Pact, Batch, Outcome, Machine}
use Rattle.protocol.specs.Events.{Event, Form, End, Note, Commit, Settle, Abort, Reply, Trim}
use Rattle.protocol.specs.Words.{holds, has_act, outcome_of, batch_of, names_pact, pact_result, result_among, is_committing, is_settled, is_open, declared_of}
use Rattle.protocol.specs.OnDesk as desk
use Rattle.protocol.specs.Effects.{after, cell_at}
use Rattle.protocol_ready.specs.Touched.{changes_stage, changes_note, changes_noted, changes_trim, changes_results, changes_result, changes_settled, changes_replied, is_abort}
use Rattle.protocol_ready.proofs.TouchedParts.{find_append}

-- ---- one batch among all

-- a test that cannot tell the changed batch
batch_holds : (p : Batch → Bool) (k j : ℕ) (f : Batch → Batch) (bs : List Batch) → ((b : Batch) → (f b).bid ≡ b.bid) → ((j == k) ≡ true → (b : Batch) → p (f b) ≡ p b) → holds p (batch_of k (desk.changed_batch j f bs)) ≡ holds p (batch_of k bs)
batch_holds p k j f [] h e = refl
batch_holds p k j f (b ∷ bs) h e = by (b.bid == j) refl (b.bid == k) refl (batch_holds p k j f bs h e)
  where
    by : (q : Bool) → (b.bid == j) ≡ q → (z : Bool) → (b.bid == k) ≡ z → holds p (batch_of k (desk.changed_batch j f bs)) ≡ holds p (batch_of k bs)
        → holds p (if (desk.change_if q f b).bid == k then Some (desk.change_if q f b) else batch_of k (desk.changed_batch j f bs)) ≡ holds p (if z then Some b else batch_of k bs)
    by true x true y r = rw (ap (λ n. n == k) (h b) ∙ y) (e (eq-eqb j k (sym (eqb-true b.bid j x) ∙ eqb-true b.bid k y)) b)
    by true x false y r = rw (ap (λ n. n == k) (h b) ∙ y) r
    by false x true y r = rw y refl
    by false x false y r = rw y r

-- a result of a tid that the batch does not name
unnamed : (t : ℕ) (r : TxResult) (ps : List Pact) → list_any (λ p. p.tid == t) ps ≡ false → map (desk.with_result t r) ps ≡ ps
unnamed t r [] h = refl
unnamed t r (p ∷ ps) h = let o = or_parts (p.tid == t) (list_any (λ p. p.tid == t) ps) h in rw (o.0, unnamed t r ps o.1) refl

unnamed_batch : (t : ℕ) (r : TxResult) (b : Batch) → names_pact t b ≡ false → desk.with_results t r b ≡ b
unnamed_batch t r b h = by b.aborted
  where
    by : (q : Bool) → record b { pacts = if q then b.pacts else map (desk.with_result t r) b.pacts } ≡ b
    by true = refl
    by false = rw (unnamed t r b.pacts h) refl

results_other : (k t : ℕ) (r : TxResult) (bs : List Batch) → holds (names_pact t) (batch_of k bs) ≡ false → batch_of k (map (desk.with_results t r) bs) ≡ batch_of k bs
results_other k t r [] h = refl
results_other k t r (b ∷ bs) h = by (b.bid == k) h (results_other k t r bs)
  where
    by : (q : Bool) → holds (names_pact t) (if q then Some b else batch_of k bs) ≡ false → (holds (names_pact t) (batch_of k bs) ≡ false → batch_of k (map (desk.with_results t r) bs) ≡ batch_of k bs)
        → (if q then Some (desk.with_results t r b) else batch_of k (map (desk.with_results t r) bs)) ≡ (if q then Some b else batch_of k bs)
    by true g i = rw (unnamed_batch t r b g) refl
    by false g i = i g

-- a list of batches that keeps what is looked at, whatever the outcome
pub noted_same : {C X : Type 0} (g : List Batch → X) (t : ℕ) (own : Bool) (o : Option (Outcome C)) (bs : List Batch) → ((r : TxResult) → g (map (desk.with_results t r) bs) ≡ g bs)
    → g (if own then bs else desk.noted_from t o bs) ≡ g bs
noted_same {C} g t true o bs h = refl
noted_same {C} g t false None bs h = refl
noted_same {C} g t false (Some x) bs h = by x.next
  where
    by : (n : Next C) → g (desk.noted_for t n bs) ≡ g bs
    by (Go b control) = refl
    by (Ended r) = h r

results_hold : (p : Batch → Bool) (k t : ℕ) (r : TxResult) (bs : List Batch) → ((b : Batch) → p (desk.with_results t r b) ≡ p b) → holds p (batch_of k (map (desk.with_results t r) bs)) ≡ holds p (batch_of k bs)
results_hold p k t r [] h = refl
results_hold p k t r (b ∷ bs) h = by (b.bid == k) (results_hold p k t r bs h)
  where
    by : (q : Bool) → holds p (batch_of k (map (desk.with_results t r) bs)) ≡ holds p (batch_of k bs)
        → holds p (if q then Some (desk.with_results t r b) else batch_of k (map (desk.with_results t r) bs)) ≡ holds p (if q then Some b else batch_of k bs)
    by true i = h b
    by false i = i

-- what the test has to bear of the event
abbrev pub Bears : {C : Type 0} → (Batch → Bool) → Event → Machine C → ℕ → Type 0
Bears p (End t a) s k = (holds (names_pact t) (batch_of k s.desk.batches) ≡ false) ⊎ ((r : TxResult) (b : Batch) → p (desk.with_results t r b) ≡ p b)
Bears p (Note j a) s k = (j == k) ≡ true → (b : Batch) → p (desk.marked a desk.is_noted b) ≡ p b
Bears p (Trim j a) s k = (j == k) ≡ true → (b : Batch) → p (desk.marked a desk.is_trimmed b) ≡ p b
Bears p _ s k = Unit {0}

pub batch_test : {C : Type 0} (w : Fixed C) (e : Event) (s : Machine C) (k : ℕ) (p : Batch → Bool) → is_abort e ≡ false → changes_stage e k ≡ false → Bears p e s k
    → holds p (batch_of k (after w e s).desk.batches) ≡ holds p (batch_of k s.desk.batches)
unfolding after
batch_test w (Form j) s k p z h x = ap (holds p) (find_append (λ b. b.bid == k) s.desk.batches _ (rw h refl))
batch_test w (End t a) s k p z h (inl x) = ap (holds p) (noted_same (batch_of k) t (has_act t (cell_at s a).entries) (outcome_of t (cell_at s a).outbox) s.desk.batches (λ r. results_other k t r s.desk.batches x))
batch_test w (End t a) s k p z h (inr x) = noted_same (λ bs. holds p (batch_of k bs)) t (has_act t (cell_at s a).entries) (outcome_of t (cell_at s a).outbox) s.desk.batches (λ r. results_hold p k t r s.desk.batches (x r))
batch_test w (Note j a) s k p z h x = batch_holds p k j _ s.desk.batches (λ b. refl) x
batch_test w (Trim j a) s k p z h x = batch_holds p k j _ s.desk.batches (λ b. refl) x
batch_test w (Commit j) s k p z h x = batch_holds p k j _ s.desk.batches (λ b. refl) (λ e. absurd (true≢false (sym e ∙ h)))
batch_test w (Settle j) s k p z h x = batch_holds p k j _ s.desk.batches (λ b. refl) (λ e. absurd (true≢false (sym e ∙ h)))
batch_test w (Abort j) s k p z h x = absurd (true≢false z)
batch_test w _ s k p z h x = refl

-- ---- the tests

declared_kept : (q : Declared → Bool) (a b : ℕ) (f : Declared → Declared) (ps : List Declared) → ((p : Declared) → (f p).actor ≡ p.actor) → (((b == a) ≡ true) → (p : Declared) → q (f p) ≡ q p)
    → holds q (find (λ p. p.actor == a) (map (λ p. desk.mark_if (p.actor == b) f p) ps)) ≡ holds q (find (λ p. p.actor == a) ps)
declared_kept q a b f [] h k = refl
declared_kept q a b f (p ∷ ps) h k = by (p.actor == b) refl (p.actor == a) refl (declared_kept q a b f ps h k)
  where
    by : (x : Bool) → (p.actor == b) ≡ x → (y : Bool) → (p.actor == a) ≡ y → holds q (find (λ p. p.actor == a) (map (λ p. desk.mark_if (p.actor == b) f p) ps)) ≡ holds q (find (λ p. p.actor == a) ps)
        → holds q (if (desk.mark_if x f p).actor == a then Some (desk.mark_if x f p) else find (λ p. p.actor == a) (map (λ p. desk.mark_if (p.actor == b) f p) ps)) ≡ holds q (if y then Some p else find (λ p. p.actor == a) ps)
    by true u true v r = rw (ap (λ n. n == a) (h p) ∙ v) (k (eq-eqb b a (sym (eqb-true p.actor b u) ∙ eqb-true p.actor a v)) p)
    by true u false v r = rw (ap (λ n. n == a) (h p) ∙ v) r
    by false u true v r = rw v refl
    by false u false v r = rw v r

unless : {X : Type 0} (x y : Bool) → (x && y) ≡ false → x ≡ true → y ≡ true → X
unless true y h e f = absurd (true≢false (sym f ∙ h))
unless false y h e f = absurd (true≢false (sym e))

open_bears : {C : Type 0} (e : Event) (s : Machine C) (k : ℕ) (x : Bool) → Bears (λ b. is_open b && x) e s k
open_bears (End t a) s k x = inr (λ r b. refl)
open_bears (Note j a) s k x = λ e b. refl
open_bears (Trim j a) s k x = λ e b. refl
open_bears _ s k x = tt

pub open_test : {C : Type 0} (w : Fixed C) (e : Event) (s : Machine C) (k : ℕ) (x : Bool) → is_abort e ≡ false → changes_stage e k ≡ false
    → holds (λ b. is_open b && x) (batch_of k (after w e s).desk.batches) ≡ holds (λ b. is_open b && x) (batch_of k s.desk.batches)
open_test w e s k x z h = batch_test w e s k (λ b. is_open b && x) z h (open_bears e s k x)

note_bears : {C : Type 0} (e : Event) (s : Machine C) (k a : ℕ) → changes_note e k a ≡ false → Bears (λ b. is_open b && holds (λ p. not p.noted) (declared_of a b)) e s k
note_bears (End t b) s k a h = inr (λ r b. refl)
note_bears (Note j b) s k a h = λ e x. ap (λ q. is_open x && q) (declared_kept (λ p. not p.noted) a b desk.is_noted x.places (λ p. refl) (unless (j == k) (b == a) h e))
note_bears (Trim j b) s k a h = λ e x. ap (λ q. is_open x && q) (declared_kept (λ p. not p.noted) a b desk.is_trimmed x.places (λ p. refl) (λ f p. refl))
note_bears _ s k a h = tt

pub note_test : {C : Type 0} (w : Fixed C) (e : Event) (s : Machine C) (k a : ℕ) → is_abort e ≡ false → changes_stage e k ≡ false → changes_note e k a ≡ false
    → holds (λ b. is_open b && holds (λ p. not p.noted) (declared_of a b)) (batch_of k (after w e s).desk.batches) ≡ holds (λ b. is_open b && holds (λ p. not p.noted) (declared_of a b)) (batch_of k s.desk.batches)
note_test w e s k a z h i = batch_test w e s k _ z h (note_bears e s k a i)

trim_bears : {C : Type 0} (e : Event) (s : Machine C) (k a : ℕ) → changes_trim e k a ≡ false → Bears (λ b. is_settled b.stage && (not b.aborted && holds (λ p. not p.trimmed) (declared_of a b))) e s k
trim_bears (End t b) s k a h = inr (λ r b. refl)
trim_bears (Note j b) s k a h = λ e x. ap (λ q. is_settled x.stage && (not x.aborted && q)) (declared_kept (λ p. not p.trimmed) a b desk.is_noted x.places (λ p. refl) (λ f p. refl))
trim_bears (Trim j b) s k a h = λ e x. ap (λ q. is_settled x.stage && (not x.aborted && q)) (declared_kept (λ p. not p.trimmed) a b desk.is_trimmed x.places (λ p. refl) (unless (j == k) (b == a) h e))
trim_bears _ s k a h = tt

pub trim_test : {C : Type 0} (w : Fixed C) (e : Event) (s : Machine C) (k a : ℕ) → is_abort e ≡ false → changes_stage e k ≡ false → changes_trim e k a ≡ false
    → holds (λ b. is_settled b.stage && (not b.aborted && holds (λ p. not p.trimmed) (declared_of a b))) (batch_of k (after w e s).desk.batches) ≡ holds (λ b. is_settled b.stage && (not b.aborted && holds (λ p. not p.trimmed) (declared_of a b))) (batch_of k s.desk.batches)
trim_test w e s k a z h i = batch_test w e s k _ z h (trim_bears e s k a i)

commits_bear : {C : Type 0} (e : Event) (s : Machine C) (k : ℕ) → Bears (λ b. is_committing b.stage && not b.aborted) e s k
commits_bear (End t b) s k = inr (λ r b. refl)
commits_bear (Note j b) s k = λ e x. refl
commits_bear (Trim j b) s k = λ e x. refl
commits_bear _ s k = tt

pub commits_test : {C : Type 0} (w : Fixed C) (e : Event) (s : Machine C) (k : ℕ) → is_abort e ≡ false → changes_stage e k ≡ false
    → holds (λ b. is_committing b.stage && not b.aborted) (batch_of k (after w e s).desk.batches) ≡ holds (λ b. is_committing b.stage && not b.aborted) (batch_of k s.desk.batches)
commits_test w e s k z h = batch_test w e s k _ z h (commits_bear e s k)

-- a test of the PACTs
pacts_bear : {C : Type 0} (q : List Pact → Bool) (e : Event) (s : Machine C) (k : ℕ) → changes_results e s k ≡ false → Bears (λ b. q b.pacts) e s k
pacts_bear q (End t b) s k h = inl h
pacts_bear q (Note j b) s k h = λ e x. refl
pacts_bear q (Trim j b) s k h = λ e x. refl
pacts_bear q _ s k h = tt

pub pacts_test : {C : Type 0} (w : Fixed C) (e : Event) (s : Machine C) (k : ℕ) (q : List Pact → Bool) → is_abort e ≡ false → changes_stage e k ≡ false → changes_results e s k ≡ false
    → holds (λ b. q b.pacts) (batch_of k (after w e s).desk.batches) ≡ holds (λ b. q b.pacts) (batch_of k s.desk.batches)
pacts_test w e s k q z h i = batch_test w e s k _ z h (pacts_bear q e s k i)

all_noted : (a : ℕ) (ps : List Declared) → list_all (λ p. p.noted) (map (λ p. desk.mark_if (p.actor == a) desk.is_trimmed p) ps) ≡ list_all (λ p. p.noted) ps
all_noted a [] = refl
all_noted a (p ∷ ps) = by (p.actor == a) (all_noted a ps)
  where
    by : (q : Bool) → list_all (λ p. p.noted) (map (λ p. desk.mark_if (p.actor == a) desk.is_trimmed p) ps) ≡ list_all (λ p. p.noted) ps
        → list_all (λ p. p.noted) (desk.mark_if q desk.is_trimmed p ∷ map (λ p. desk.mark_if (p.actor == a) desk.is_trimmed p) ps) ≡ list_all (λ p. p.noted) (p ∷ ps)
    by true r = rw r refl
    by false r = rw r refl

noted_bears : {C : Type 0} (e : Event) (s : Machine C) (k : ℕ) → changes_noted e k ≡ false → Bears (λ b. list_all (λ p. p.noted) b.places) e s k
noted_bears (End t b) s k h = inr (λ r b. refl)
noted_bears (Note j b) s k h = λ e x. absurd (true≢false (sym e ∙ h))
noted_bears (Trim j b) s k h = λ e x. all_noted b x.places
noted_bears _ s k h = tt

pub noted_test : {C : Type 0} (w : Fixed C) (e : Event) (s : Machine C) (k : ℕ) → is_abort e ≡ false → changes_stage e k ≡ false → changes_noted e k ≡ false
    → holds (λ b. list_all (λ p. p.noted) b.places) (batch_of k (after w e s).desk.batches) ≡ holds (λ b. list_all (λ p. p.noted) b.places) (batch_of k s.desk.batches)
noted_test w e s k z h i = batch_test w e s k _ z h (noted_bears e s k i)

-- ---- results

result_changed : (t j : ℕ) (f : Batch → Batch) (bs : List Batch) → ((b : Batch) → (f b).pacts ≡ b.pacts) → pact_result t (desk.changed_batch j f bs) ≡ pact_result t bs
result_changed t j f [] h = refl
result_changed t j f (b ∷ bs) h = by (b.bid == j) (result_changed t j f bs h)
  where
    by : (q : Bool) → pact_result t (desk.changed_batch j f bs) ≡ pact_result t bs → pact_result t (desk.change_if q f b ∷ desk.changed_batch j f bs) ≡ pact_result t (b ∷ bs)
    by true r = rw (h b, r) refl
    by false r = rw r refl

result_append : (t : ℕ) (new : Batch) (bs : List Batch) → names_pact t new ≡ false → pact_result t (bs ++ new ∷ []) ≡ pact_result t bs
result_append t new [] h = rw h refl
result_append t new (b ∷ bs) h = rw (result_append t new bs h) refl

pub names_kept : (t u : ℕ) (r : TxResult) (ps : List Pact) → list_any (λ p. p.tid == t) (map (desk.with_result u r) ps) ≡ list_any (λ p. p.tid == t) ps
names_kept t u r [] = refl
names_kept t u r (p ∷ ps) = rw (names_kept t u r ps) refl

among_kept : (t u : ℕ) (r : TxResult) (ps : List Pact) → (u == t) ≡ false → result_among t (map (desk.with_result u r) ps) ≡ result_among t ps
among_kept t u r [] h = refl
among_kept t u r (p ∷ ps) h = by (p.tid == t) refl (p.tid == u) refl (among_kept t u r ps h)
  where
    by : (q : Bool) → (p.tid == t) ≡ q → (z : Bool) → (p.tid == u) ≡ z → result_among t (map (desk.with_result u r) ps) ≡ result_among t ps
        → (if q then (if z then Some r else p.result) else result_among t (map (desk.with_result u r) ps)) ≡ (if q then p.result else result_among t ps)
    by true f true g i = absurd (true≢false (sym (eq-eqb u t (sym (eqb-true p.tid u g) ∙ eqb-true p.tid t f)) ∙ h))
    by true f false g i = refl
    by false f z g i = i

result_other : (t u : ℕ) (r : TxResult) (bs : List Batch) → (u == t) ≡ false → pact_result t (map (desk.with_results u r) bs) ≡ pact_result t bs
result_other t u r [] h = refl
result_other t u r (b ∷ bs) h = by b.aborted (result_other t u r bs h)
  where
    by : (q : Bool) → pact_result t (map (desk.with_results u r) bs) ≡ pact_result t bs
        → (if list_any (λ p. p.tid == t) (if q then b.pacts else map (desk.with_result u r) b.pacts) then result_among t (if q then b.pacts else map (desk.with_result u r) b.pacts) else pact_result t (map (desk.with_results u r) bs)) ≡ pact_result t (b ∷ bs)
    by true i = rw i refl
    by false i = rw (i, names_kept t u r b.pacts, among_kept t u r b.pacts h) refl

taken_result : (t k : ℕ) (bs : List Batch) → pact_result t (map (desk.taken k) bs) ≡ pact_result t bs
taken_result t k [] = refl
taken_result t k (b ∷ bs) = rw (taken_result t k bs) refl

pub result_stays : {C : Type 0} (w : Fixed C) (e : Event) (s : Machine C) (t : ℕ) → changes_result w e s t ≡ false → pact_result t (after w e s).desk.batches ≡ pact_result t s.desk.batches
unfolding after
result_stays w (Form k) s t h = result_append t _ s.desk.batches h
result_stays w (End u a) s t h = noted_same (pact_result t) u (has_act u (cell_at s a).entries) (outcome_of u (cell_at s a).outbox) s.desk.batches (λ r. result_other t u r s.desk.batches h)
result_stays w (Note j a) s t h = result_changed t j _ s.desk.batches (λ b. refl)
result_stays w (Commit j) s t h = result_changed t j _ s.desk.batches (λ b. refl)
result_stays w (Settle j) s t h = result_changed t j _ s.desk.batches (λ b. refl)
result_stays w (Trim j a) s t h = result_changed t j _ s.desk.batches (λ b. refl)
result_stays w (Abort j) s t h = taken_result t j s.desk.batches
result_stays w _ s t h = refl

-- ---- the settled number and the replies

pub settled_stays : {C : Type 0} (w : Fixed C) (e : Event) (s : Machine C) → changes_settled e ≡ false → (after w e s).desk.settled ≡ s.desk.settled
unfolding after
settled_stays w (Settle j) s h = absurd (true≢false h)
settled_stays w _ s h = refl

pub replied_stays : {C : Type 0} (w : Fixed C) (e : Event) (s : Machine C) (n : ℕ) → changes_replied e n ≡ false → slice_get (after w e s).desk.replied n ≡ slice_get s.desk.replied n
unfolding after
replied_stays w (Reply m) s n h = get_other s.desk.replied n m true (eqb-false m n h)
replied_stays w _ s n h = refl

pub cascades_stay : {C : Type 0} (w : Fixed C) (e : Event) (s : Machine C) → is_abort e ≡ false → (after w e s).book.cascades ≡ s.book.cascades
unfolding after
cascades_stay w (Abort j) s h = absurd (true≢false h)
cascades_stay w _ s h = refl
