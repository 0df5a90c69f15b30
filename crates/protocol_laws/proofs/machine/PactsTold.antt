-- The PACTs of a batch that committed are among those that committed, with the batch's places and their results; so a verdict
-- that names a place is of one that has it, with that result.
use Rattle.std.specs.Prelude.{◌≡◌, refl, ℕ, ◌==◌, not, Bool, true, false, ◌&&◌, if◌then◌else◌, Option, Some, None, is_some, List, [], ◌∷◌, ◌++◌, map, max}
use Rattle.std.specs.List.{AllByRecursion, list_all}
use Rattle.std.proofs.Common.{sym, ap, subst, inl, inr, ◌∙◌}
use Rattle.std.proofs.lemmas.Bool.{true≢false, eqb-true, eq-eqb, and_parts}
use Rattle.snap_base.specs.declared.transactions.TxResult.{TxResult}
use Rattle.snap_base.specs.declared.verdicts.Place.{Place}
use Rattle.snap_base.specs.declared.verdicts.Verdict.{Verdict}
use Rattle.protocol.specs.Fixed.{Fixed, Next, Go, Ended}
use Rattle.protocol.specs.Rivals.{Lock}
use Rattle.protocol.specs.Parts.{Act, Batch, Book, Pact, Committing, Settled, Status, Live, Doomed, Decided, Sealed, Who, OfBatch, OfAct, Outcome, Pair, Cell, Machine}
use Rattle.protocol.specs.Events.{Event, Form, Admit, Arrive, Ask, End, Note, Commit, Settle, Abort, Prepare, Vouch, Decide, Seal, Finish, Trim}
use Rattle.protocol.specs.Words.{is_value, is_live_status, is_formed, is_committing, batch_of, has_act, outcome_of, lock_of, floor_at}
use Rattle.protocol.specs.Verdicts.{verdict, pact_place, act_place, died}
use Rattle.protocol.specs.Conditions.{IsAllowed, conditions}
use Rattle.protocol.specs.Effects.{after, cell_at}
use Rattle.protocol.specs.OnDesk as desk
use Rattle.protocol.specs.OnBook as book
use Rattle.protocol.specs.Spread.{raised, crossed_out, is_crossed}
use Rattle.protocol.specs.History.{History, Done, grown, done_pact, done_batch}
use Rattle.protocol_laws.specs.Told.{EachBatch, AmongDone, has_number, ActTold, PactTold, BatchTold}
use Rattle.protocol_laws.proofs.first.SettlingKept as settling
use Rattle.protocol_laws.proofs.machine.MarksKept as marks
use Rattle.protocol_laws.proofs.first.PairsFound.{TidsAscend, each_act}
use Rattle.protocol_laws.proofs.machine.ControlWalk.{AllControls}
use Rattle.protocol_laws.proofs.machine.Resting.{NoResult, NoneNoted}
use Rattle.protocol_laws.proofs.machine.ActsTold.{among_more, among_behind, ActsTold}
use Rattle.protocol_laws.proofs.first.Lists.{all_found, some_of, weaker}
use Rattle.protocol_laws.proofs.machine.VerdictsSay as verdicts
use Rattle.protocol_laws.proofs.machine.VerdictsSay.{Says, IsNoPlace, DoomedWell}
use Rattle.protocol_laws.specs.Told.{IsAmongDone}
use Rattle.protocol_laws.proofs.first.Statuses.{committing_not_formed, if_bid}
use Rattle.protocol_laws.proofs.machine.CommitRecords.{batch_map}
use Rattle.protocol_laws.proofs.machine.RunOwed.{found_all}

-- ---- PACTs

unfoldable pub PactsTold : {C : Type 0} → Machine C → History → Type 0
PactsTold s h = EachBatch (BatchTold h.committed) s.desk.batches

more_told : (ds new : List Done) (k : ℕ) (b : Batch) → BatchTold ds k b → BatchTold (ds ++ new) k b
more_told ds new k b h = λ e. weaker _ _ b.pacts (λ p i. (among_more (OfBatch k) p.tid p.tx (pact_place k p.tid) p.result ds new i.0, i.1)) (h e)

each_changed : (P Q : ℕ → Batch → Type 0) (j : ℕ) (f : Batch → Batch) (bs : List Batch) → ((b : Batch) → (f b).bid ≡ b.bid) → ((k : ℕ) (b : Batch) → P k b → Q k b) → ((b : Batch) → batch_of j bs ≡ Some b → P j b → Q j (f b)) → EachBatch P bs → EachBatch Q (desk.changed_batch j f bs)
each_changed P Q j f bs i other own h = batch_map P Q (λ b. desk.change_if (b.bid == j) f b) bs (λ b. if_bid (b.bid == j) f b (i b)) (λ k b e p. by k b e p (b.bid == j) refl) h
  where
    by : (k : ℕ) (b : Batch) → batch_of k bs ≡ Some b → P k b → (v : Bool) → (b.bid == j) ≡ v → Q k (desk.change_if v f b)
    by k b e p true q = let n : k ≡ j = sym (eqb-true b.bid k (marks.found_bid k b bs e)) ∙ eqb-true b.bid j q in subst (λ z. Q z (f b)) (sym n) (own b (subst (λ z. batch_of z bs ≡ Some b) n e) (subst (λ z. P z b) n p))
    by k b e p false q = other k b p

-- what a commit adds
new_pacts : (k : ℕ) (h : History) (ps : List Pact) → list_all (λ p. is_value p.result) ps ≡ true → AllByRecursion (PactTold (map (done_pact k h) ps) k) ps
new_pacts k h [] v = tt
new_pacts k h (p ∷ ps) v =
    let q = and_parts (is_value p.result) (list_all (λ p. is_value p.result) ps) v in (
      (record { done = done_pact k h p; front = []; rest = map (done_pact k h) ps; splits = refl; who = refl; tid = refl; tx = refl; place = refl; result = refl }, value_some p.result q.0),
      weaker _ _ ps (λ x i. (among_behind (OfBatch k) x.tid x.tx (pact_place k x.tid) x.result (done_pact k h p ∷ []) (map (done_pact k h) ps) i.0, i.1)) (new_pacts k h ps q.1),
    )
  where
    value_some : (r : Option TxResult) → is_value r ≡ true → is_some r ≡ true
    value_some None e = absurd (true≢false (sym e))
    value_some (Some x) e = refl

-- a result is noted of one that had none
noted_told : (t k : ℕ) (r : TxResult) (ds : List Done) (ps : List Pact) → AllByRecursion (λ p. p.tid ≡ t → p.result ≡ None) ps → AllByRecursion (PactTold ds k) ps → AllByRecursion (PactTold ds k) (map (desk.with_result t r) ps)
noted_told t k r ds [] n h = tt
noted_told t k r ds (p ∷ ps) n h = (by (p.tid == t) refl, noted_told t k r ds ps n.1 h.1)
  where
    by : (v : Bool) → (p.tid == t) ≡ v → PactTold ds k (record p { result = if v then Some r else p.result })
    by true e = absurd (true≢false (sym h.0.1 ∙ ap is_some (n.0 (eqb-true p.tid t e))))
    by false e = h.0

pub pacts_kept : {C : Type 0} (w : Fixed C) (e : Event) (s : Machine C) (h : History) → IsAllowed w e s → AllControls (NoneNoted s) s → PactsTold s h → PactsTold (after w e s) (grown w e s h)
unfolding PactsTold conditions after grown
pacts_kept w (Form k) s h ok n g = λ j b e. elim (marks.found_more j b _ s.desk.batches e) [ inl q ↦ g j b q | inr q ↦ subst (BatchTold h.committed j) q.1 (λ f. absurd (true≢false f)) ]
pacts_kept {C} w (End t a) s h ok n g = by (has_act t (cell_at s a).entries) (outcome_of t (cell_at s a).outbox) refl
  where
    none : (x : Outcome C) → outcome_of t (cell_at s a).outbox ≡ Some x → NoResult t s.desk.batches
    none x e = let f = all_found (λ x. NoneNoted s x.tid x.next) (λ x. x.tid == t) (cell_at s a).outbox x (n.outboxes a) e in subst (λ z. NoResult z s.desk.batches) (eqb-true x.tid t f.1) f.0

    result : (r : TxResult) (k : ℕ) (b : Batch) → AllByRecursion (λ p. p.tid ≡ t → p.result ≡ None) b.pacts → BatchTold h.committed k b → (v : Bool) → is_formed b.stage ≡ false → AllByRecursion (PactTold h.committed k) (if v then b.pacts else map (desk.with_result t r) b.pacts)
    result r k b q i true f = i f
    result r k b q i false f = noted_told t k r h.committed b.pacts q (i f)

    next : (m : Next C) → NoResult t s.desk.batches → EachBatch (BatchTold h.committed) (desk.noted_for t m s.desk.batches)
    next (Go b x) q = g
    next (Ended r) q = batch_map (BatchTold h.committed) (BatchTold h.committed) (desk.with_results t r) s.desk.batches (λ b. refl) (λ k b e i f. result r k b (found_all (λ b. AllByRecursion (λ p. p.tid ≡ t → p.result ≡ None) b.pacts) k b s.desk.batches e q) i b.aborted f) g

    by : (v : Bool) (o : Option (Outcome C)) → outcome_of t (cell_at s a).outbox ≡ o → EachBatch (BatchTold h.committed) (if v then s.desk.batches else desk.noted_from t o s.desk.batches)
    by true o e = g
    by false None e = g
    by false (Some x) e = next x.next (none x e)
pacts_kept w (Note k a) s h ok n g = each_changed (BatchTold h.committed) (BatchTold h.committed) k (desk.marked a desk.is_noted) s.desk.batches (λ b. refl) (λ j b i. i) (λ b e i. i) g
pacts_kept w (Commit k) s h ok n g = each_changed (BatchTold h.committed) (BatchTold (h.committed ++ done_batch k h (batch_of k s.desk.batches))) k (desk.with_stage Committing) s.desk.batches (λ b. refl)
    (λ j b i. more_told h.committed _ j b i)
    (λ b e i f. weaker _ _ b.pacts (λ p j. (among_behind (OfBatch k) p.tid p.tx (pact_place k p.tid) p.result h.committed _ (subst (λ z. AmongDone (OfBatch k) p.tid p.tx (pact_place k p.tid) p.result (done_batch k h z)) (sym e) j.0), j.1)) (new_pacts k h b.pacts (some_of (λ b. list_all (λ p. is_value p.result) b.pacts) (batch_of k s.desk.batches) b e ok.1.0))) g
pacts_kept w (Settle k) s h ok n g = each_changed (BatchTold h.committed) (BatchTold h.committed) k (desk.with_stage Settled) s.desk.batches (λ b. refl) (λ j b i. i)
    (λ b e i f. i (committing_not_formed b.stage (and_parts (is_committing b.stage) (not b.aborted) (some_of (λ b. is_committing b.stage && not b.aborted) (batch_of k s.desk.batches) b e ok.0)).0)) g
pacts_kept w (Abort k) s h ok n g = batch_map (BatchTold h.committed) (BatchTold h.committed) (desk.taken k) s.desk.batches (λ b. refl) (λ j b e i. i) g
pacts_kept w (Decide t) s h ok n g = λ j b e. more_told h.committed _ j b (g j b e)
pacts_kept w (Trim k a) s h ok n g = each_changed (BatchTold h.committed) (BatchTold h.committed) k (desk.marked a desk.is_trimmed) s.desk.batches (λ b. refl) (λ j b i. i) (λ b e i. i) g
pacts_kept w e s h ok n g = g

-- ---- an ACT that is given up was told no place

unfoldable pub NoPlaces : {C : Type 0} → Machine C → Type 0
NoPlaces s = AllByRecursion DoomedWell s.book.acts

all_well : (f : Act → Act) (xs : List Act) → ((x : Act) → DoomedWell x → DoomedWell (f x)) → AllByRecursion DoomedWell xs → AllByRecursion DoomedWell (map f xs)
all_well f [] k h = tt
all_well f (x ∷ xs) k h = (k x h.0, all_well f xs k h.1)

if_well : (b : Bool) (f : Act → Act) (x : Act) → (DoomedWell x → DoomedWell (f x)) → DoomedWell x → DoomedWell (book.change_if b f x)
if_well true f x k h = k h
if_well false f x k h = h

doom_well : (b : Bool) (v : Verdict) (st : Status) → IsNoPlace v → ((u : Verdict) → st ≡ Doomed u → IsNoPlace u) → (u : Verdict) → (if b then Doomed v else st) ≡ Doomed u → IsNoPlace u
doom_well true v st n h u e = let i : v ≡ u = cc e in subst IsNoPlace i n
doom_well false v st n h u e = h u e

crossed_well : (a : ℕ) (x : Act) → DoomedWell x → DoomedWell (crossed_out a x)
crossed_well a x h = doom_well (is_crossed x) _ x.status (tt) h

died_well : (a older own : ℕ) (x : Act) → DoomedWell x → DoomedWell (book.doomed_by (died a older own) x)
died_well a older own x h = doom_well (is_live_status x.status) _ x.status (tt) h

cascaded_well : (k by : ℕ) (x : Act) → DoomedWell x → DoomedWell (book.cascaded k by x)
cascaded_well k n x h = doom_well _ _ x.status (tt) h

decided_well : (c : ℕ) (x : Act) → DoomedWell x → DoomedWell (book.decided_as c x)
decided_well c x h = λ u e. by (is_value x.result) x.status h u e
  where
    by : (b : Bool) (st : Status) → ((u : Verdict) → st ≡ Doomed u → IsNoPlace u) → (u : Verdict) → book.decided_status c b st ≡ Doomed u → IsNoPlace u
    by true Live h u e = absurd (cc e)
    by false Live h u e = absurd (cc e)
    by b (Doomed v) h u e = h u e
    by b (Decided d) h u e = absurd (cc e)
    by b (Sealed d) h u e = absurd (cc e)

sealed_well : (x : Act) → DoomedWell x → DoomedWell (book.sealed x)
sealed_well x h = λ u e. by x.status h u e
  where
    by : (st : Status) → ((u : Verdict) → st ≡ Doomed u → IsNoPlace u) → (u : Verdict) → book.sealed_status st ≡ Doomed u → IsNoPlace u
    by Live h u e = absurd (cc e)
    by (Doomed v) h u e = h u e
    by (Decided d) h u e = absurd (cc e)
    by (Sealed d) h u e = absurd (cc e)

raised_well : (ps : List Pair) (xs : List Act) → AllByRecursion DoomedWell xs → AllByRecursion DoomedWell (raised ps xs)
raised_well ps [] h = tt
raised_well ps (x ∷ xs) h = (h.0, raised_well ps xs h.1)

asked_well : {C : Type 0} (o : Option ℕ) (group : List Lock) (t a : ℕ) (c : Cell C) (b : Book) → AllByRecursion DoomedWell b.acts → AllByRecursion DoomedWell (book.asked_acts o group t a (max c.last (floor_at t b.acts c)) b)
asked_well (Some older) group t a c b h = all_well _ b.acts (λ x i. if_well (x.tid == t) _ x (died_well a older t x) i) h
asked_well None group t a c b h = all_well (crossed_out a) _ (crossed_well a) (raised_well _ _ (all_well _ b.acts (λ x i. if_well (x.tid == t) _ x (λ j. j) i) h))

ended_well : {C : Type 0} (t : ℕ) (b : Bool) (o : Option (Outcome C)) (xs : List Act) → AllByRecursion DoomedWell xs → AllByRecursion DoomedWell (if b then book.noted_from t o xs else xs)
ended_well t false o xs h = h
ended_well t true None xs h = h
ended_well {C} t true (Some x) xs h = by x.next
  where
    by : (y : Next C) → AllByRecursion DoomedWell (book.noted_for t y xs)
    by (Go b c) = h
    by (Ended r) = all_well _ xs (λ z i. if_well (z.tid == t) (book.with_result r) z (λ j. j) i) h

new_well : (n : Act) (xs : List Act) → DoomedWell n → AllByRecursion DoomedWell xs → AllByRecursion DoomedWell (xs ++ n ∷ [])
new_well n [] k h = (k, tt)
new_well n (x ∷ xs) k h = (h.0, new_well n xs k h.1)

pub no_places : {C : Type 0} (w : Fixed C) (e : Event) (s : Machine C) → NoPlaces s → NoPlaces (after w e s)
unfolding NoPlaces after
no_places w (Admit t) s i = new_well _ s.book.acts (λ u e. absurd (cc e)) i
no_places w (Arrive k b) s i = all_well (crossed_out b) _ (crossed_well b) (all_well _ s.book.acts (λ x j. j) i)
no_places w (Ask t b) s i = asked_well (book.in_the_way (lock_of t s.book.acts) (cell_at s b).entries) (book.met (lock_of t s.book.acts) (cell_at s b).entries) t b (cell_at s b) s.book i
no_places w (End t b) s i = ended_well t (has_act t (cell_at s b).entries) (outcome_of t (cell_at s b).outbox) s.book.acts i
no_places w (Abort k) s i = all_well _ s.book.acts (cascaded_well k _) i
no_places w (Prepare t b) s i = all_well _ s.book.acts (λ x j. if_well (x.tid == t) (book.marked b book.is_prepared) x (λ l. l) j) i
no_places w (Vouch t b) s i = all_well _ s.book.acts (λ x j. if_well (x.tid == t) (book.marked b book.is_vouched) x (λ l. l) j) i
no_places w (Decide t) s i = all_well _ s.book.acts (λ x j. if_well (x.tid == t) (book.decided_as s.book.next_c) x (decided_well s.book.next_c x) j) i
no_places w (Seal t) s i = all_well _ s.book.acts (λ x j. if_well (x.tid == t) book.sealed x (sealed_well x) j) i
no_places w (Finish t b) s i = all_well _ s.book.acts (λ x j. if_well (x.tid == t) (book.marked b book.has_left) x (λ l. l) j) i
no_places w e s i = i

-- ---- what a verdict says

pub among : (y : Who) (t m n : ℕ) (p : Place) (o : Option TxResult) (r : TxResult) (ds : List Done) → AmongDone y t m p o ds → m ≡ n → o ≡ Some r → IsAmongDone n p r ds
among y t m n p o r ds a i j = record { done = a.done; front = a.front; rest = a.rest; splits = a.splits; tx = a.tx ∙ i; place = a.place; result = a.result ∙ j }

-- A verdict that names a place is of one that committed there, with that result.
pub verdict_says : {C : Type 0} (w : Fixed C) (n : ℕ) (s : Machine C) (h : History) (v : Verdict) → settling.Settling w s → TidsAscend s → PactsTold s h → ActsTold s h → NoPlaces s → verdict n s.book s.desk ≡ Some v → Says (λ p r. IsAmongDone n p r h.committed) v
unfolding PactsTold ActsTold NoPlaces
verdict_says w n s h v g a p i d e = verdicts.verdict_says n (λ p r. IsAmongDone n p r h.committed) s v
    (weaker _ _ s.desk.batches (λ b k f. weaker _ _ b.pacts (λ p j q r o. among (OfBatch b.bid) p.tid p.tx n (pact_place b.bid p.tid) p.result r h.committed j.0 q o) (k (ap is_formed f))) (settling.each_batch w s (BatchTold h.committed) g p))
    (weaker _ _ s.book.acts (λ x k q c f r o. among (OfAct x.tid) x.tid x.tx n (act_place x.m c) x.result r h.committed (k c (ap (has_number c) f ∙ eq-eqb c c refl)) q o) (each_act s (ActTold h.committed) a i)) d e
