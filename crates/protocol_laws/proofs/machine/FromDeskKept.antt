-- Sub-batches are of the desk's batches, event by event.
use Rattle.std.specs.Prelude.{◌≡◌, refl, ℕ, zero, suc, ◌<◌, ◌==◌, Bool, true, false, ◌&&◌, ◌||◌, if◌then◌else◌, Option, Some, None, is_some, List, [], ◌∷◌, ◌++◌, map, filter, find, slice_index_or, slice_set}
use Rattle.std.specs.List.{AllByRecursion, list_any, list_all}
use Rattle.std.proofs.Common.{arith, sym, ap, subst, inl, inr, ◌∙◌}
use Rattle.std.proofs.lemmas.List.{append-nil}
use Rattle.std.proofs.lemmas.Bool.{eqb-true, eq-eqb, ne_eqb, and_parts, or_cases, or_parts, or_left, or_right, true≢false}
use Rattle.snap_base.specs.declared.transactions.TxResult.{TxResult}
use Rattle.protocol.specs.Fixed.{Fixed, Next, Go, Ended}
use Rattle.protocol.specs.Rivals.{Lock}
use Rattle.protocol.specs.Parts.{Ring, Cascade, OfBatch, Batch, Pact, Declared, Committing, Settled, SubBatch, Entry, BatchEntry, ActEntry, Outcome, Cell, Machine}
use Rattle.protocol.specs.Events.{Event, Form, Arrive, Ask, Take, Run, Send, Close, Complete, End, Note, Commit, Settle, Abort, Rollback, DropSub, Finish, Trim}
use Rattle.protocol.specs.Words.{holds, is_among, batch_of, declared_of, names_pact, is_who, who_of, is_complete_batch, is_batch_entry, ahead, has_act, outcome_of, sub_of, lock_of}
use Rattle.protocol.specs.Contents.{complete_mark}
use Rattle.protocol.specs.Conditions.{IsAllowed, conditions}
use Rattle.protocol.specs.Effects.{after, cell_at, no_cell}
use Rattle.protocol.specs.OnRing as ring
use Rattle.protocol.specs.OnBook as book
use Rattle.protocol.specs.OnDesk as desk
use Rattle.protocol.specs.OnCell as cell
use Rattle.protocol.specs.OnCell.{is_cut}
use Rattle.protocol_laws.specs.Tracks.{key_of, is_key_among, Differ}
use Rattle.protocol_laws.specs.FromDesk.{is_declared, is_pact_of, MessageOf, EntryOf, CompleteInOrder, FromDesk}
use Rattle.protocol_laws.proofs.machine.TrackLists
use Rattle.protocol_laws.proofs.machine.TracksKept.{held}
use Rattle.protocol_laws.proofs.first.Lists.{all_filter, all_found, all_join, all_map, weaker}
use Rattle.protocol_laws.proofs.first.Statuses.{if_bid}
use Rattle.protocol_laws.proofs.first.KeptByEvents.{complete_done}
use Rattle.protocol_laws.proofs.machine.TurnLists.{is_batch}

-- ---- a fact of a batch that no event takes back

holds_map : (q : Batch → Bool) (f : Batch → Batch) → ((b : Batch) → (f b).bid ≡ b.bid) → ((b : Batch) → q b ≡ true → q (f b) ≡ true) → (k : ℕ) (bs : List Batch) → holds q (batch_of k bs) ≡ true → holds q (batch_of k (map f bs)) ≡ true
holds_map q f i g k [] h = h
holds_map q f i g k (x ∷ bs) h = subst (λ z. holds q (if z == k then Some (f x) else batch_of k (map f bs)) ≡ true) (sym (i x)) (by (x.bid == k) h (holds_map q f i g k bs))
  where
    by : (v : Bool) → holds q (if v then Some x else batch_of k bs) ≡ true → (holds q (batch_of k bs) ≡ true → holds q (batch_of k (map f bs)) ≡ true) → holds q (if v then Some (f x) else batch_of k (map f bs)) ≡ true
    by true h r = g x h
    by false h r = r h

holds_more : (q : Batch → Bool) (k : ℕ) (n : Batch) (bs : List Batch) → holds q (batch_of k bs) ≡ true → holds q (batch_of k (bs ++ n ∷ [])) ≡ true
holds_more q k n [] h = absurd (true≢false (sym h))
holds_more q k n (x ∷ bs) h = by (x.bid == k) h (holds_more q k n bs)
  where
    by : (v : Bool) → holds q (if v then Some x else batch_of k bs) ≡ true → (holds q (batch_of k bs) ≡ true → holds q (batch_of k (bs ++ n ∷ [])) ≡ true) → holds q (if v then Some x else batch_of k (bs ++ n ∷ [])) ≡ true
    by true h r = h
    by false h r = r h

-- what looks at the actors and tids alone
pub record Fixedly (q : Batch → Bool) : Type 0 where
  pub places : (b : Batch) (a : ℕ) (f : Declared → Declared) → ((p : Declared) → (f p).actor ≡ p.actor) → q b ≡ true → q (desk.marked a f b) ≡ true
  pub pacts : (b : Batch) (t : ℕ) (r : TxResult) → q b ≡ true → q (desk.with_results t r b) ≡ true
  pub stage : (b : Batch) (st : Rattle.protocol.specs.Parts.Stage) → q b ≡ true → q (record b { stage = st }) ≡ true
  pub aborted : (b : Batch) (v : Bool) → q b ≡ true → q (record b { aborted = v }) ≡ true

if_keeps : (q : Batch → Bool) (v : Bool) (f : Batch → Batch) (b : Batch) → (q b ≡ true → q (f b) ≡ true) → q b ≡ true → q (desk.change_if v f b) ≡ true
if_keeps q true f b g h = g h
if_keeps q false f b g h = h

pub desk_stays : {C : Type 0} (w : Fixed C) (e : Event) (s : Machine C) (q : Batch → Bool) → Fixedly q → (k : ℕ) → holds q (batch_of k s.desk.batches) ≡ true → holds q (batch_of k (after w e s).desk.batches) ≡ true
unfolding after
desk_stays w (Form j) s q x k h = holds_more q k _ s.desk.batches h
desk_stays {C} w (End t a) s q x k h = by (has_act t (cell_at s a).entries) (outcome_of t (cell_at s a).outbox)
  where
    next : (n : Next C) → holds q (batch_of k (desk.noted_for t n s.desk.batches)) ≡ true
    next (Go b y) = h
    next (Ended r) = holds_map q (desk.with_results t r) (λ b. refl) (λ b g. x.pacts b t r g) k s.desk.batches h

    by : (v : Bool) (o : Option (Outcome C)) → holds q (batch_of k (if v then s.desk.batches else desk.noted_from t o s.desk.batches)) ≡ true
    by true o = h
    by false None = h
    by false (Some y) = next y.next
desk_stays w (Note j a) s q x k h = holds_map q _ (λ b. if_bid (b.bid == j) (desk.marked a desk.is_noted) b refl) (λ b g. if_keeps q (b.bid == j) (desk.marked a desk.is_noted) b (x.places b a desk.is_noted (λ p. refl)) g) k s.desk.batches h
desk_stays w (Trim j a) s q x k h = holds_map q _ (λ b. if_bid (b.bid == j) (desk.marked a desk.is_trimmed) b refl) (λ b g. if_keeps q (b.bid == j) (desk.marked a desk.is_trimmed) b (x.places b a desk.is_trimmed (λ p. refl)) g) k s.desk.batches h
desk_stays w (Commit j) s q x k h = holds_map q _ (λ b. if_bid (b.bid == j) (desk.with_stage Committing) b refl) (λ b g. if_keeps q (b.bid == j) (desk.with_stage Committing) b (x.stage b Committing) g) k s.desk.batches h
desk_stays w (Settle j) s q x k h = holds_map q _ (λ b. if_bid (b.bid == j) (desk.with_stage Settled) b refl) (λ b g. if_keeps q (b.bid == j) (desk.with_stage Settled) b (x.stage b Settled) g) k s.desk.batches h
desk_stays w (Abort j) s q x k h = holds_map q (desk.taken j) (λ b. refl) (λ b g. x.aborted b _ g) k s.desk.batches h
desk_stays w e s q x k h = h

find_marked : (a c : ℕ) (f : Declared → Declared) (ps : List Declared) → ((p : Declared) → (f p).actor ≡ p.actor) → is_some (find (λ p. p.actor == c) ps) ≡ true → is_some (find (λ p. p.actor == c) (map (λ p. desk.mark_if (p.actor == a) f p) ps)) ≡ true
find_marked a c f [] i h = h
find_marked a c f (p ∷ ps) i h = subst (λ z. is_some (if z == c then Some (desk.mark_if (p.actor == a) f p) else find (λ p. p.actor == c) (map (λ p. desk.mark_if (p.actor == a) f p) ps)) ≡ true) (sym (same (p.actor == a))) (by (p.actor == c) h (find_marked a c f ps i))
  where
    same : (v : Bool) → (desk.mark_if v f p).actor ≡ p.actor
    same true = i p
    same false = refl

    by : (v : Bool) → is_some (if v then Some p else find (λ p. p.actor == c) ps) ≡ true → (is_some (find (λ p. p.actor == c) ps) ≡ true → is_some (find (λ p. p.actor == c) (map (λ p. desk.mark_if (p.actor == a) f p) ps)) ≡ true)
        → is_some (if v then Some (desk.mark_if (p.actor == a) f p) else find (λ p. p.actor == c) (map (λ p. desk.mark_if (p.actor == a) f p) ps)) ≡ true
    by true h r = refl
    by false h r = r h

pub declared_fixed : (c : ℕ) → Fixedly (λ b. is_some (declared_of c b))
declared_fixed c = record { places = λ b a f i h. find_marked a c f b.places i h; pacts = λ b t r h. h; stage = λ b st h. h; aborted = λ b v h. h }

names_results : (u t : ℕ) (r : TxResult) (ps : List Pact) → list_any (λ p. p.tid == u) (map (desk.with_result t r) ps) ≡ list_any (λ p. p.tid == u) ps
names_results u t r [] = refl
names_results u t r (p ∷ ps) = ap (λ z. (p.tid == u) || z) (names_results u t r ps)

pub pact_fixed : (u : ℕ) → Fixedly (names_pact u)
pact_fixed u = record { places = λ b a f i h. h; pacts = λ b t r h. by b.aborted b t r h; stage = λ b st h. h; aborted = λ b v h. h }
  where
    by : (v : Bool) (b : Batch) (t : ℕ) (r : TxResult) → names_pact u b ≡ true → list_any (λ p. p.tid == u) (if v then b.pacts else map (desk.with_result t r) b.pacts) ≡ true
    by true b t r h = h
    by false b t r h = names_results u t r b.pacts ∙ h

-- ---- lists

pub all_staying : (P : Entry → Type 0) (cs : List Cascade) (es : List Entry) → AllByRecursion P es → AllByRecursion P (cell.staying cs es)
all_staying P cs [] h = tt
all_staying P cs (e ∷ es) h = by (is_cut cs (who_of e)) (all_staying P cs es h.1)
  where
    by : (b : Bool) → AllByRecursion P (cell.staying cs es) → AllByRecursion P (if b then [] else e ∷ cell.staying cs es)
    by true g = tt
    by false g = (h.0, g)

-- ---- entries

entry_done : (a t : ℕ) (bs : List Batch) (e : Entry) → EntryOf a bs e → EntryOf a bs (cell.done_in t e)
entry_done a t bs (BatchEntry b) h = (h.0, all_map _ _ (cell.done_if t) b.slots (λ s g. g) h.1)
entry_done a t bs (ActEntry x) h = h

entry_complete : (a k : ℕ) (bs : List Batch) (e : Entry) → EntryOf a bs e → EntryOf a bs (cell.complete_in k e)
entry_complete a k bs (BatchEntry b) h = h
entry_complete a k bs (ActEntry x) h = h

entry_stays : {C : Type 0} (w : Fixed C) (ev : Event) (s : Machine C) (a : ℕ) (e : Entry) → EntryOf a s.desk.batches e → EntryOf a (after w ev s).desk.batches e
entry_stays w ev s a (BatchEntry b) h = (desk_stays w ev s _ (declared_fixed a) b.bid h.0, weaker _ _ b.slots (λ x g. desk_stays w ev s _ (pact_fixed x.tid) b.bid g) h.1)
entry_stays w ev s a (ActEntry x) h = tt

message_stays : {C : Type 0} (w : Fixed C) (ev : Event) (s : Machine C) (m : SubBatch) → MessageOf s.desk.batches m → MessageOf (after w ev s).desk.batches m
message_stays w ev s m h = record { declared = desk_stays w ev s _ (declared_fixed m.actor) m.bid h.declared; pacts = weaker _ _ m.tids (λ t g. desk_stays w ev s _ (pact_fixed t) m.bid g) h.pacts }

-- at one cell
pub one_cell : {C : Type 0} (P : ℕ → Cell C → Type 0) (xs : List (Cell C)) (a : ℕ) (c : Cell C) → (P a (slice_index_or xs a no_cell) → P a c) → ((b : ℕ) → P b (slice_index_or xs b no_cell)) → (b : ℕ) → P b (slice_index_or (slice_set xs a c) b no_cell)
one_cell P [] a c k h b = h b
one_cell P (x ∷ xs) zero c k h zero = k (h zero)
one_cell P (x ∷ xs) zero c k h (suc b) = h (suc b)
one_cell P (x ∷ xs) (suc a) c k h zero = h zero
one_cell {C} P (x ∷ xs) (suc a) c k h (suc b) = one_cell (λ i y. P (suc i) y) xs a c k (λ i. h (suc i)) b

-- ---- complete in order

any_more : (p : Entry → Bool) (e : Entry) (es : List Entry) → p e ≡ false → list_any p (es ++ e ∷ []) ≡ list_any p es
any_more p e [] h = rw h refl
any_more p e (x ∷ es) h = ap (λ z. p x || z) (any_more p e es h)

order_more : (e : Entry) (es : List Entry) → complete_mark e ≡ false → CompleteInOrder es → CompleteInOrder (es ++ e ∷ [])
order_more e [] c h = (λ q. absurd (true≢false (sym q)), tt)
order_more e (x ∷ es) c h = (λ q. h.0 (sym (any_more complete_mark e es c) ∙ q), order_more e es c h.1)

any_done : (t : ℕ) (es : List Entry) → list_any complete_mark (map (cell.done_in t) es) ≡ list_any complete_mark es
any_done t [] = refl
any_done t (e ∷ es) = rw (complete_done t e, any_done t es) refl

order_done : (t : ℕ) (es : List Entry) → CompleteInOrder es → CompleteInOrder (map (cell.done_in t) es)
order_done t [] h = tt
order_done t (e ∷ es) h = (λ q. complete_done t e ∙ h.0 (sym (any_done t es) ∙ q), order_done t es h.1)

any_filter : (p q : Entry → Bool) (es : List Entry) → list_any p (filter q es) ≡ true → list_any p es ≡ true
any_filter p q [] h = h
any_filter p q (e ∷ es) h = by (q e) h (any_filter p q es)
  where
    by : (b : Bool) → list_any p (if b then e ∷ filter q es else filter q es) ≡ true → (list_any p (filter q es) ≡ true → list_any p es ≡ true) → (p e || list_any p es) ≡ true
    by true g r = elim (or_cases (p e) (list_any p (filter q es)) g) [ inl v ↦ or_left (p e) (list_any p es) v | inr v ↦ or_right (p e) (list_any p es) (r v) ]
    by false g r = or_right (p e) (list_any p es) (r g)

order_filter : (q : Entry → Bool) (es : List Entry) → CompleteInOrder es → CompleteInOrder (filter q es)
order_filter q [] h = tt
order_filter q (e ∷ es) h = by (q e) (order_filter q es h.1)
  where
    by : (b : Bool) → CompleteInOrder (filter q es) → CompleteInOrder (if b then e ∷ filter q es else filter q es)
    by true g = (λ v. h.0 (any_filter complete_mark q es v), g)
    by false g = g

any_staying : (cs : List Cascade) (es : List Entry) → list_any complete_mark (cell.staying cs es) ≡ true → list_any complete_mark es ≡ true
any_staying cs [] h = h
any_staying cs (e ∷ es) h = by (is_cut cs (who_of e)) h (any_staying cs es)
  where
    by : (b : Bool) → list_any complete_mark (if b then [] else e ∷ cell.staying cs es) ≡ true → (list_any complete_mark (cell.staying cs es) ≡ true → list_any complete_mark es ≡ true) → (complete_mark e || list_any complete_mark es) ≡ true
    by true g r = absurd (true≢false (sym g))
    by false g r = elim (or_cases (complete_mark e) (list_any complete_mark (cell.staying cs es)) g) [ inl v ↦ or_left (complete_mark e) (list_any complete_mark es) v | inr v ↦ or_right (complete_mark e) (list_any complete_mark es) (r v) ]

order_staying : (cs : List Cascade) (es : List Entry) → CompleteInOrder es → CompleteInOrder (cell.staying cs es)
order_staying cs [] h = tt
order_staying cs (e ∷ es) h = by (is_cut cs (who_of e)) (order_staying cs es h.1)
  where
    by : (b : Bool) → CompleteInOrder (cell.staying cs es) → CompleteInOrder (if b then [] else e ∷ cell.staying cs es)
    by true g = tt
    by false g = (λ v. h.0 (any_staying cs es v), g)

mark_same : (k : ℕ) (e : Entry) → is_who (who_of e) (OfBatch k) ≡ false → complete_mark (cell.complete_in k e) ≡ complete_mark e
mark_same k (BatchEntry b) q = rw q (or_no b.complete)
  where
    or_no : (b : Bool) → (b || false) ≡ b
    or_no true = refl
    or_no false = refl
mark_same k (ActEntry x) q = refl

mark_own : (k : ℕ) (e : Entry) → is_batch_entry k e ≡ true → complete_mark (cell.complete_in k e) ≡ true
mark_own k (BatchEntry b) q = or_right b.complete (b.bid == k) q
mark_own k (ActEntry x) q = absurd (true≢false (sym q))

mark_still : (k : ℕ) (e : Entry) → complete_mark e ≡ true → complete_mark (cell.complete_in k e) ≡ true
mark_still k (BatchEntry b) q = or_left b.complete (b.bid == k) q
mark_still k (ActEntry x) q = q

any_same : (k : ℕ) (es : List Entry) → is_key_among (OfBatch k) (map key_of es) ≡ false → list_any complete_mark (map (cell.complete_in k) es) ≡ list_any complete_mark es
any_same k [] h = refl
any_same k (e ∷ es) h = let p = or_parts (is_who (who_of e) (OfBatch k)) (is_key_among (OfBatch k) (map key_of es)) h in rw (mark_same k e p.0, any_same k es p.1) refl

order_same : (k : ℕ) (es : List Entry) → is_key_among (OfBatch k) (map key_of es) ≡ false → CompleteInOrder es → CompleteInOrder (map (cell.complete_in k) es)
order_same k [] e h = tt
order_same k (x ∷ es) e h = let p = or_parts (is_who (who_of x) (OfBatch k)) (is_key_among (OfBatch k) (map key_of es)) e in (λ q. mark_same k x p.0 ∙ h.0 (sym (any_same k es p.1) ∙ q), order_same k es p.1 h.1)

complete_is : (e : Entry) → is_complete_batch e ≡ complete_mark e
complete_is (BatchEntry b) = refl
complete_is (ActEntry x) = refl

order_complete : (k : ℕ) (es : List Entry) → list_all is_complete_batch (ahead (is_batch_entry k) es) ≡ true → Differ (map key_of es) → CompleteInOrder es → CompleteInOrder (map (cell.complete_in k) es)
order_complete k [] a d h = tt
order_complete k (e ∷ es) a d h = by (is_batch_entry k e) refl a (order_complete k es)
  where
    by : (b : Bool) → is_batch_entry k e ≡ b → list_all is_complete_batch (if b then [] else e ∷ ahead (is_batch_entry k) es) ≡ true
        → (list_all is_complete_batch (ahead (is_batch_entry k) es) ≡ true → Differ (map key_of es) → CompleteInOrder es → CompleteInOrder (map (cell.complete_in k) es))
        → (list_any complete_mark (map (cell.complete_in k) es) ≡ true → complete_mark (cell.complete_in k e) ≡ true) × CompleteInOrder (map (cell.complete_in k) es)
    by true q a r =
        let who : who_of e ≡ OfBatch k = TrackLists.is_who_true (who_of e) (OfBatch k) (sym (is_batch k e) ∙ q) in
        (λ v. mark_own k e q, order_same k es (subst (λ z. is_key_among z (map key_of es) ≡ false) who d.0) h.1)
    by false q a r =
        let p = and_parts (is_complete_batch e) (list_all is_complete_batch (ahead (is_batch_entry k) es)) a in
        (λ v. mark_still k e (sym (complete_is e) ∙ p.0), r p.1 d.1 h.1)

-- ---- a batch is formed

pub declared_new : (a : ℕ) (xs : List ℕ) → is_among a xs ≡ true → is_some (find (λ p. p.actor == a) (map desk.new_declared xs)) ≡ true
declared_new a [] h = h
declared_new a (x ∷ xs) h = by (x == a) h (declared_new a xs)
  where
    by : (v : Bool) → (v || is_among a xs) ≡ true → (is_among a xs ≡ true → is_some (find (λ p. p.actor == a) (map desk.new_declared xs)) ≡ true) → is_some (if v then Some (desk.new_declared x) else find (λ p. p.actor == a) (map desk.new_declared xs)) ≡ true
    by true h r = refl
    by false h r = r h

pub found_new : (q : Batch → Bool) (k : ℕ) (n : Batch) (bs : List Batch) → AllByRecursion (λ b. b < k) (map (λ b. b.bid) bs) → n.bid ≡ k → q n ≡ true → holds q (batch_of k (bs ++ n ∷ [])) ≡ true
found_new q k n [] a e h = rw (eq-eqb n.bid k e) h
found_new q k n (x ∷ bs) a e h = rw (ne_eqb x.bid k (λ v. omega (arith, v, a.0))) (found_new q k n bs a.1 e h)

tids_new : (p : Pact → Bool) (ps qs : List Pact) → ((t : ℕ) → list_any (λ q. q.tid == t) ps ≡ true → list_any (λ q. q.tid == t) qs ≡ true) → AllByRecursion (λ t. list_any (λ q. q.tid == t) qs ≡ true) (map (λ q. q.tid) (filter p ps))
tids_new p [] qs f = tt
tids_new p (x ∷ ps) qs f = by (p x) (f x.tid (or_left (x.tid == x.tid) (list_any (λ q. q.tid == x.tid) ps) (eq-eqb x.tid x.tid refl))) (tids_new p ps qs (λ t g. f t (or_right (x.tid == t) (list_any (λ q. q.tid == t) ps) g)))
  where
    by : (v : Bool) → list_any (λ q. q.tid == x.tid) qs ≡ true → AllByRecursion (λ t. list_any (λ q. q.tid == t) qs ≡ true) (map (λ q. q.tid) (filter p ps)) → AllByRecursion (λ t. list_any (λ q. q.tid == t) qs ≡ true) (map (λ q. q.tid) (if v then x ∷ filter p ps else filter p ps))
    by true a b = (a, b)
    by false a b = b

new_messages : {C : Type 0} (w : Fixed C) (k : ℕ) (r : Ring) (bs : List Batch) (xs : List ℕ) → AllByRecursion (λ b. b < k) (map (λ b. b.bid) bs) → ((a : ℕ) → is_among a xs ≡ true → is_among a (ring.next_actors w.text r) ≡ true)
    → AllByRecursion (MessageOf (bs ++ desk.new_batch k (ring.next_actors w.text r) (ring.next_pacts w.text r) ∷ [])) (map (ring.first_sub w.text k r) xs)
new_messages w k r bs [] f g = tt
new_messages w k r bs (a ∷ xs) f g =
    let own = g a (or_left (a == a) (is_among a xs) (eq-eqb a a refl)) in (
      record {
        declared = found_new (λ b. is_some (declared_of a b)) k _ bs f refl (declared_new a (ring.next_actors w.text r) own);
        pacts = weaker _ _ (ring.next_tids_on w.text r a) (λ t q. found_new (names_pact t) k _ bs f refl q) (tids_new (ring.declares w.text a) (ring.next_pacts w.text r) (ring.next_pacts w.text r) (λ t q. q));
      },
      new_messages w k r bs xs f (λ c q. g c (or_right (a == c) (is_among c xs) q)),
    )

-- ---- over states

arrive : {C : Type 0} (k a : ℕ) (bs : List Batch) (subs : List SubBatch) (c : Cell C) → AllByRecursion (MessageOf bs) subs → AllByRecursion (EntryOf a bs) c.entries → AllByRecursion (EntryOf a bs) (cell.batch_placed k (sub_of k a subs) c).entries
arrive {C} k a bs subs c m h = by (sub_of k a subs) refl
  where
    slots : (j : ℕ) (ts : List ℕ) → AllByRecursion (λ t. is_pact_of t j bs ≡ true) ts → AllByRecursion (λ s. is_pact_of s.tid j bs ≡ true) (map cell.not_done ts)
    slots j [] h = tt
    slots j (t ∷ ts) h = (h.0, slots j ts h.1)

    by : (o : Option SubBatch) → sub_of k a subs ≡ o → AllByRecursion (EntryOf a bs) (c.entries ++ cell.batch_entries k o)
    by None e = rw (append-nil c.entries) h
    by (Some x) e =
        let f = all_found (MessageOf bs) (λ y. (y.bid == k) && (y.actor == a)) subs x m e in
        let p = and_parts (x.bid == k) (x.actor == a) f.1 in
        let i : x.bid ≡ k = eqb-true x.bid k p.0 in
        let j : x.actor ≡ a = eqb-true x.actor a p.1 in
        all_join (EntryOf a bs) c.entries _ h ((subst (λ z. is_declared z a bs ≡ true) i (subst (λ z. is_declared x.bid z bs ≡ true) j f.0.declared), slots k x.tids (subst (λ z. AllByRecursion (λ t. is_pact_of t z bs ≡ true) x.tids) i f.0.pacts)), tt)

abbrev pub Of : {C : Type 0} → Machine C → ℕ → Cell C → Type 0
Of s a c = AllByRecursion (EntryOf a s.desk.batches) c.entries

abbrev pub Ord : {C : Type 0} → ℕ → Cell C → Type 0
Ord a c = CompleteInOrder c.entries

run_of : (a t : ℕ) (bs : List Batch) (b : Bool) (es : List Entry) → AllByRecursion (EntryOf a bs) es → AllByRecursion (EntryOf a bs) (if b then map (cell.done_in t) es else es)
run_of a t bs true es h = all_map (EntryOf a bs) (EntryOf a bs) (cell.done_in t) es (entry_done a t bs) h
run_of a t bs false es h = h

run_order : (t : ℕ) (b : Bool) (es : List Entry) → CompleteInOrder es → CompleteInOrder (if b then map (cell.done_in t) es else es)
run_order t true es h = order_done t es h
run_order t false es h = h

ask_of : (a : ℕ) (t : Lock) (bs : List Batch) (o : Option ℕ) (es : List Entry) → AllByRecursion (EntryOf a bs) es → AllByRecursion (EntryOf a bs) (es ++ cell.act_entries t o)
ask_of a t bs None es h = all_join (EntryOf a bs) es _ h (tt, tt)
ask_of a t bs (Some x) es h = rw (append-nil es) h

ask_order : (t : Lock) (o : Option ℕ) (es : List Entry) → CompleteInOrder es → CompleteInOrder (es ++ cell.act_entries t o)
ask_order t None es h = order_more _ es refl h
ask_order t (Some x) es h = rw (append-nil es) h

arrive_order : (k : ℕ) (o : Option SubBatch) (es : List Entry) → CompleteInOrder es → CompleteInOrder (es ++ cell.batch_entries k o)
arrive_order k None es h = rw (append-nil es) h
arrive_order k (Some m) es h = order_more _ es refl h

entries_kept : {C : Type 0} (w : Fixed C) (e : Event) (s : Machine C) → FromDesk s → (a : ℕ) → AllByRecursion (EntryOf a s.desk.batches) (cell_at (after w e s) a).entries
unfolding after
entries_kept w (Arrive k a) s h = one_cell (Of s) s.cells a _ (arrive k a s.desk.batches s.post.subs (cell_at s a) h.subs) h.entries
entries_kept w (Ask t a) s h = one_cell (Of s) s.cells a _ (ask_of a (lock_of t s.book.acts) s.desk.batches (book.in_the_way (lock_of t s.book.acts) (cell_at s a).entries) (cell_at s a).entries) h.entries
entries_kept w (Take t a) s h = one_cell (Of s) s.cells a _ (λ x. x) h.entries
entries_kept w (Run t a) s h = one_cell (Of s) s.cells a _ (run_of a t s.desk.batches (cell.is_done_after w.code a (cell.slice_of w.code t (cell_at s a))) (cell_at s a).entries) h.entries
entries_kept w (Send t a) s h = one_cell (Of s) s.cells a _ (λ x. x) h.entries
entries_kept w (End t a) s h = one_cell (Of s) s.cells a _ (λ x. x) h.entries
entries_kept w (Close t a) s h = one_cell (Of s) s.cells a _ (all_map (EntryOf a s.desk.batches) (EntryOf a s.desk.batches) (cell.done_in t) (cell_at s a).entries (entry_done a t s.desk.batches)) h.entries
entries_kept w (Complete k a) s h = one_cell (Of s) s.cells a _ (all_map (EntryOf a s.desk.batches) (EntryOf a s.desk.batches) (cell.complete_in k) (cell_at s a).entries (entry_complete a k s.desk.batches)) h.entries
entries_kept w (Rollback a) s h = one_cell (Of s) s.cells a _ (all_staying (EntryOf a s.desk.batches) s.book.cascades (cell_at s a).entries) h.entries
entries_kept w (Finish t a) s h = one_cell (Of s) s.cells a _ (all_filter (EntryOf a s.desk.batches) _ (cell_at s a).entries) h.entries
entries_kept w (Trim k a) s h = one_cell (Of s) s.cells a _ (all_filter (EntryOf a s.desk.batches) _ (cell_at s a).entries) h.entries
entries_kept w e s h = h.entries

order_kept : {C : Type 0} (w : Fixed C) (e : Event) (s : Machine C) → IsAllowed w e s → ((a : ℕ) → Differ (map key_of (cell_at s a).entries)) → FromDesk s → (a : ℕ) → CompleteInOrder (cell_at (after w e s) a).entries
unfolding conditions after
order_kept w (Arrive k a) s ok d h = one_cell Ord s.cells a _ (arrive_order k (sub_of k a s.post.subs) (cell_at s a).entries) h.in_order
order_kept w (Ask t a) s ok d h = one_cell Ord s.cells a _ (ask_order (lock_of t s.book.acts) (book.in_the_way (lock_of t s.book.acts) (cell_at s a).entries) (cell_at s a).entries) h.in_order
order_kept w (Take t a) s ok d h = one_cell Ord s.cells a _ (λ x. x) h.in_order
order_kept w (Run t a) s ok d h = one_cell Ord s.cells a _ (run_order t (cell.is_done_after w.code a (cell.slice_of w.code t (cell_at s a))) (cell_at s a).entries) h.in_order
order_kept w (Send t a) s ok d h = one_cell Ord s.cells a _ (λ x. x) h.in_order
order_kept w (End t a) s ok d h = one_cell Ord s.cells a _ (λ x. x) h.in_order
order_kept w (Close t a) s ok d h = one_cell Ord s.cells a _ (order_done t (cell_at s a).entries) h.in_order
order_kept w (Complete k a) s ok d h = one_cell Ord s.cells a _ (order_complete k (cell_at s a).entries (held (λ c. list_all is_complete_batch (ahead (is_batch_entry k) c.entries)) s.cells a no_cell ok.1.0) (d a)) h.in_order
order_kept w (Rollback a) s ok d h = one_cell Ord s.cells a _ (order_staying s.book.cascades (cell_at s a).entries) h.in_order
order_kept w (Finish t a) s ok d h = one_cell Ord s.cells a _ (order_filter _ (cell_at s a).entries) h.in_order
order_kept w (Trim k a) s ok d h = one_cell Ord s.cells a _ (order_filter _ (cell_at s a).entries) h.in_order
order_kept w e s ok d h = h.in_order

subs_kept : {C : Type 0} (w : Fixed C) (e : Event) (s : Machine C) → AllByRecursion (λ b. b < s.ring.next_bid) (map (λ b. b.bid) s.desk.batches) → IsAllowed w e s → FromDesk s → AllByRecursion (MessageOf (after w e s).desk.batches) (after w e s).post.subs
unfolding conditions after
subs_kept w (Form k) s f ok h =
    let i : k ≡ s.ring.next_bid = eqb-true k s.ring.next_bid ok.0 in
    all_join _ s.post.subs _ (weaker _ _ s.post.subs (message_stays w (Form k) s) h.subs)
    (new_messages w k s.ring s.desk.batches (ring.next_actors w.text s.ring) (subst (λ z. AllByRecursion (λ b. b < z) (map (λ b. b.bid) s.desk.batches)) (sym i) f) (λ a q. q))
subs_kept w (Arrive k a) s f ok h = all_filter _ _ s.post.subs h.subs
subs_kept w (DropSub k a) s f ok h = all_filter _ _ s.post.subs h.subs
subs_kept w e s f ok h = weaker _ _ s.post.subs (message_stays w e s) h.subs

pub kept : {C : Type 0} (w : Fixed C) (e : Event) (s : Machine C) → AllByRecursion (λ b. b < s.ring.next_bid) (map (λ b. b.bid) s.desk.batches) → ((a : ℕ) → Differ (map key_of (cell_at s a).entries)) → IsAllowed w e s → FromDesk s → FromDesk (after w e s)
kept w e s f d ok h = record {
  subs = subs_kept w e s f ok h;
  entries = λ a. weaker _ _ (cell_at (after w e s) a).entries (entry_stays w e s a) (entries_kept w e s h a);
  in_order = order_kept w e s ok d h;
}
