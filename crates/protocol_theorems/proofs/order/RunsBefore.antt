-- Who may still commit after an event might before it, or is new.
use Rattle.std.specs.Prelude.{◌≡◌, refl, ℕ, max, nat_le, ◌==◌, not, Bool, true, false, ◌&&◌, ◌||◌, ◌⊎◌, if◌then◌else◌, Option, Some, None, List, [], ◌∷◌, ◌++◌, map}
use Rattle.std.specs.List.{list_any}
use Rattle.std.proofs.Common.{sym, ap, subst, inl, inr, ◌∙◌}
use Rattle.std.proofs.lemmas.Bool.{true≢false, and_parts, and_from, eqb-true}
use Rattle.snap_base.specs.declared.transactions.TxResult.{TxResult}
use Rattle.protocol.specs.Fixed.{Fixed, Next, Go, Ended}
use Rattle.protocol.specs.Parts.{Act, Pact, Batch, Pair, Stage, Committing, Settled, Outcome, Cell, Machine}
use Rattle.protocol.specs.Events.{Event, Form, Admit, Arrive, Ask, End, Note, Commit, Settle, Abort, Prepare, Vouch, Decide, Seal, Finish, Trim}
use Rattle.protocol.specs.Words.{holds, is_value, is_open, is_formed, is_live_status, names_pact, batch_of, act_of, has_act, outcome_of, lock_of, floor_at}
use Rattle.protocol.specs.Spread.{raised, carried, crossed_out, is_crossed, doomed_by_order}
use Rattle.protocol.specs.Effects.{after, cell_at}
use Rattle.protocol.specs.OnRing as ring
use Rattle.protocol.specs.OnDesk as desk
use Rattle.protocol.specs.OnBook as book
use Rattle.protocol_laws.proofs.first.Statuses.{if_bid, if_tid, live_decided, live_if, live_sealed}

-- ---- batches

abbrev pub is_open_with : ℕ → Batch → Bool
is_open_with t b = is_open b && names_pact t b

pub batch_back : (q : Batch → Bool) (f : Batch → Batch) → ((b : Batch) → (f b).bid ≡ b.bid) → ((b : Batch) → q (f b) ≡ true → q b ≡ true) → (k : ℕ) (bs : List Batch) → holds q (batch_of k (map f bs)) ≡ true → holds q (batch_of k bs) ≡ true
batch_back q f i g k [] h = h
batch_back q f i g k (b ∷ bs) h = by (b.bid == k) (subst (λ z. holds q (if z == k then Some (f b) else batch_of k (map f bs)) ≡ true) (i b) h) (batch_back q f i g k bs)
  where
    by : (v : Bool) → holds q (if v then Some (f b) else batch_of k (map f bs)) ≡ true → (holds q (batch_of k (map f bs)) ≡ true → holds q (batch_of k bs) ≡ true) → holds q (if v then Some b else batch_of k bs) ≡ true
    by true h r = g b h
    by false h r = r h

pub batch_more : (q : Batch → Bool) (k : ℕ) (n : Batch) (bs : List Batch) → holds q (batch_of k (bs ++ n ∷ [])) ≡ true → (holds q (batch_of k bs) ≡ true) ⊎ ((n.bid ≡ k) × (q n ≡ true))
batch_more q k n [] h = by (n.bid == k) refl h
  where
    by : (v : Bool) → (n.bid == k) ≡ v → holds q (if v then Some n else None) ≡ true → (false ≡ true) ⊎ ((n.bid ≡ k) × (q n ≡ true))
    by true e h = inr (eqb-true n.bid k e, h)
    by false e h = inl h
batch_more q k n (b ∷ bs) h = by (b.bid == k) h (batch_more q k n bs)
  where
    by : (v : Bool) → holds q (if v then Some b else batch_of k (bs ++ n ∷ [])) ≡ true → (holds q (batch_of k (bs ++ n ∷ [])) ≡ true → (holds q (batch_of k bs) ≡ true) ⊎ ((n.bid ≡ k) × (q n ≡ true)))
        → (holds q (if v then Some b else batch_of k bs) ≡ true) ⊎ ((n.bid ≡ k) × (q n ≡ true))
    by true h r = inl h
    by false h r = r h

pub if_open : (q : Batch → Bool) (v : Bool) (f : Batch → Batch) (b : Batch) → (q (f b) ≡ true → q b ≡ true) → q (desk.change_if v f b) ≡ true → q b ≡ true
if_open q true f b g h = g h
if_open q false f b g h = h

not_formed : (t : ℕ) (st : Stage) (b : Batch) → is_formed st ≡ false → is_open_with t (desk.with_stage st b) ≡ true → ⊥
not_formed t st b n e = true≢false (sym (and_parts (is_formed st) (not b.aborted) (and_parts (is_formed st && not b.aborted) (names_pact t b) e).0).0 ∙ n)

not_taken : (t k : ℕ) (b : Batch) → is_open_with t (desk.taken k b) ≡ true → is_open_with t b ≡ true
not_taken t k b e =
    let p = and_parts (is_formed b.stage && not (b.aborted || nat_le k b.bid)) (names_pact t b) e in
    let q = and_parts (is_formed b.stage) (not (b.aborted || nat_le k b.bid)) p.0 in
    and_from (is_formed b.stage && not b.aborted) (names_pact t b) (and_from (is_formed b.stage) (not b.aborted) q.0 (by b.aborted q.1)) p.1
  where
    by : (v : Bool) → not (v || nat_le k b.bid) ≡ true → not v ≡ true
    by true e = e
    by false e = refl

names_results : (t u : ℕ) (r : TxResult) (ps : List Pact) → list_any (λ p. p.tid == t) (map (desk.with_result u r) ps) ≡ list_any (λ p. p.tid == t) ps
names_results t u r [] = refl
names_results t u r (p ∷ ps) = ap (λ z. (p.tid == t) || z) (names_results t u r ps)

with_results_open : (t u : ℕ) (r : TxResult) (b : Batch) → is_open_with t (desk.with_results u r b) ≡ true → is_open_with t b ≡ true
with_results_open t u r b e = by b.aborted refl e
  where
    by : (v : Bool) → b.aborted ≡ v → ((is_formed b.stage && not b.aborted) && list_any (λ p. p.tid == t) (if v then b.pacts else map (desk.with_result u r) b.pacts)) ≡ true → is_open_with t b ≡ true
    by true q e = e
    by false q e = subst (λ z. ((is_formed b.stage && not b.aborted) && z) ≡ true) (names_results t u r b.pacts) e

-- it is the batch that was formed, with this PACT
abbrev pub JustFormed : {C : Type 0} → Fixed C → Event → Machine C → ℕ → ℕ → Type 0
JustFormed w (Form j) s k t = (j ≡ k) × (list_any (λ p. p.tid == t) (ring.next_pacts w.text s.ring) ≡ true)
JustFormed w _ s k t = ⊥

pub batch_was : {C : Type 0} (w : Fixed C) (e : Event) (s : Machine C) (k t : ℕ) → holds (is_open_with t) (batch_of k (after w e s).desk.batches) ≡ true → (holds (is_open_with t) (batch_of k s.desk.batches) ≡ true) ⊎ JustFormed w e s k t
unfolding after
batch_was w (Form j) s k t h = batch_more (is_open_with t) k (desk.new_batch j (ring.next_actors w.text s.ring) (ring.next_pacts w.text s.ring)) s.desk.batches h
batch_was {C} w (End u a) s k t h = inl (by (has_act u (cell_at s a).entries) (outcome_of u (cell_at s a).outbox) h)
  where
    next : (x : Next C) → holds (is_open_with t) (batch_of k (desk.noted_for u x s.desk.batches)) ≡ true → holds (is_open_with t) (batch_of k s.desk.batches) ≡ true
    next (Go b y) h = h
    next (Ended r) h = batch_back (is_open_with t) (desk.with_results u r) (λ b. refl) (with_results_open t u r) k s.desk.batches h

    by : (v : Bool) (o : Option (Outcome C)) → holds (is_open_with t) (batch_of k (if v then s.desk.batches else desk.noted_from u o s.desk.batches)) ≡ true → holds (is_open_with t) (batch_of k s.desk.batches) ≡ true
    by true o h = h
    by false None h = h
    by false (Some x) h = next x.next h
batch_was w (Note j a) s k t h = inl (batch_back (is_open_with t) _ (λ b. if_bid (b.bid == j) (desk.marked a desk.is_noted) b refl) (λ b q. if_open (is_open_with t) (b.bid == j) (desk.marked a desk.is_noted) b (λ x. x) q) k s.desk.batches h)
batch_was w (Trim j a) s k t h = inl (batch_back (is_open_with t) _ (λ b. if_bid (b.bid == j) (desk.marked a desk.is_trimmed) b refl) (λ b q. if_open (is_open_with t) (b.bid == j) (desk.marked a desk.is_trimmed) b (λ x. x) q) k s.desk.batches h)
batch_was w (Commit j) s k t h = inl (batch_back (is_open_with t) _ (λ b. if_bid (b.bid == j) (desk.with_stage Committing) b refl) (λ b q. if_open (is_open_with t) (b.bid == j) (desk.with_stage Committing) b (λ x. absurd (not_formed t Committing b refl x)) q) k s.desk.batches h)
batch_was w (Settle j) s k t h = inl (batch_back (is_open_with t) _ (λ b. if_bid (b.bid == j) (desk.with_stage Settled) b refl) (λ b q. if_open (is_open_with t) (b.bid == j) (desk.with_stage Settled) b (λ x. absurd (not_formed t Settled b refl x)) q) k s.desk.batches h)
batch_was w (Abort j) s k t h = inl (batch_back (is_open_with t) (desk.taken j) (λ b. refl) (not_taken t j) k s.desk.batches h)
batch_was w e s k t h = inl h

-- ---- ACTs

abbrev pub lives : Act → Bool
lives x = is_live_status x.status

act_back : (f : Act → Act) → ((x : Act) → (f x).tid ≡ x.tid) → ((x : Act) → lives (f x) ≡ true → lives x ≡ true) → (t : ℕ) (xs : List Act) → holds lives (act_of t (map f xs)) ≡ true → holds lives (act_of t xs) ≡ true
act_back f i g t [] h = h
act_back f i g t (x ∷ xs) h = by (x.tid == t) (subst (λ z. holds lives (if z == t then Some (f x) else act_of t (map f xs)) ≡ true) (i x) h) (act_back f i g t xs)
  where
    by : (v : Bool) → holds lives (if v then Some (f x) else act_of t (map f xs)) ≡ true → (holds lives (act_of t (map f xs)) ≡ true → holds lives (act_of t xs) ≡ true) → holds lives (if v then Some x else act_of t xs) ≡ true
    by true h r = g x h
    by false h r = r h

act_more : (t : ℕ) (n : Act) (xs : List Act) → holds lives (act_of t (xs ++ n ∷ [])) ≡ true → (holds lives (act_of t xs) ≡ true) ⊎ (n.tid ≡ t)
act_more t n [] h = by (n.tid == t) refl h
  where
    by : (v : Bool) → (n.tid == t) ≡ v → holds lives (if v then Some n else None) ≡ true → (false ≡ true) ⊎ (n.tid ≡ t)
    by true e h = inr (eqb-true n.tid t e)
    by false e h = inl h
act_more t n (x ∷ xs) h = by (x.tid == t) h (act_more t n xs)
  where
    by : (v : Bool) → holds lives (if v then Some x else act_of t (xs ++ n ∷ [])) ≡ true → (holds lives (act_of t (xs ++ n ∷ [])) ≡ true → (holds lives (act_of t xs) ≡ true) ⊎ (n.tid ≡ t)) → (holds lives (if v then Some x else act_of t xs) ≡ true) ⊎ (n.tid ≡ t)
    by true h r = inl h
    by false h r = r h

if_lives : (v : Bool) (f : Act → Act) (x : Act) → (lives (f x) ≡ true → lives x ≡ true) → lives (book.change_if v f x) ≡ true → lives x ≡ true
if_lives true f x g h = g h
if_lives false f x g h = h

changed : (t u : ℕ) (f : Act → Act) (xs : List Act) → ((x : Act) → (f x).tid ≡ x.tid) → ((x : Act) → lives (f x) ≡ true → lives x ≡ true) → holds lives (act_of t (book.changed_act u f xs)) ≡ true → holds lives (act_of t xs) ≡ true
changed t u f xs i g h = act_back (λ x. book.change_if (x.tid == u) f x) (λ x. if_tid (x.tid == u) f x (i x)) (λ x. if_lives (x.tid == u) f x (g x)) t xs h

-- who is not given up lives where it did
by_order : (t a : ℕ) (xs : List Act) → holds lives (act_of t (doomed_by_order a xs)) ≡ true → holds lives (act_of t xs) ≡ true
by_order t a xs h = act_back (crossed_out a) (λ x. refl) (λ x q. live_if (is_crossed x) _ x.status q) t xs h

raised_back : (t : ℕ) (ps : List Pair) (xs : List Act) → holds lives (act_of t (raised ps xs)) ≡ true → holds lives (act_of t xs) ≡ true
raised_back t ps [] h = h
raised_back t ps (x ∷ xs) h = by (x.tid == t) h (raised_back t ps xs)
  where
    by : (v : Bool) → holds lives (if v then Some (record x { m = max x.m (carried ps x (raised ps xs)) }) else act_of t (raised ps xs)) ≡ true → (holds lives (act_of t (raised ps xs)) ≡ true → holds lives (act_of t xs) ≡ true) → holds lives (if v then Some x else act_of t xs) ≡ true
    by true h r = h
    by false h r = r h

asked_back : {C : Type 0} (u t a : ℕ) (o : Option ℕ) (c : Cell C) (b : Rattle.protocol.specs.Parts.Book) → holds lives (act_of u (book.asked_acts o (book.met (lock_of t b.acts) c.entries) t a (max c.last (floor_at t b.acts c)) b)) ≡ true → holds lives (act_of u b.acts) ≡ true
asked_back u t a (Some older) c b h = changed u t (book.doomed_by (Rattle.protocol.specs.Verdicts.died a older t)) b.acts (λ x. refl) (λ x q. live_if (is_live_status x.status) _ x.status q) h
asked_back u t a None c b h = changed u t (book.joins a (max c.last (floor_at t b.acts c))) b.acts (λ x. refl) (λ x q. q) (raised_back u _ _ (by_order u a _ h))

abbrev pub JustAdmitted : Event → ℕ → Type 0
JustAdmitted (Admit u) t = u ≡ t
JustAdmitted _ t = ⊥

pub act_was : {C : Type 0} (w : Fixed C) (e : Event) (s : Machine C) (t : ℕ) → holds lives (act_of t (after w e s).book.acts) ≡ true → (holds lives (act_of t s.book.acts) ≡ true) ⊎ JustAdmitted e t
unfolding after
act_was w (Admit u) s t h = act_more t _ s.book.acts h
act_was w (Arrive k a) s t h = inl (act_back (book.lowered k (book.tids_on (cell_at s a).entries)) (λ x. refl) (λ x q. q) t s.book.acts (by_order t a _ h))
act_was w (Ask u a) s t h = inl (asked_back t u a (book.in_the_way (lock_of u s.book.acts) (cell_at s a).entries) (cell_at s a) s.book h)
act_was {C} w (End u a) s t h = inl (by (has_act u (cell_at s a).entries) (outcome_of u (cell_at s a).outbox) h)
  where
    next : (x : Next C) → holds lives (act_of t (book.noted_for u x s.book.acts)) ≡ true → holds lives (act_of t s.book.acts) ≡ true
    next (Go b y) h = h
    next (Ended r) h = changed t u (book.with_result r) s.book.acts (λ x. refl) (λ x q. q) h

    by : (v : Bool) (o : Option (Outcome C)) → holds lives (act_of t (if v then book.noted_from u o s.book.acts else s.book.acts)) ≡ true → holds lives (act_of t s.book.acts) ≡ true
    by false o h = h
    by true None h = h
    by true (Some x) h = next x.next h
act_was w (Abort k) s t h = inl (act_back _ (λ x. refl) (λ x q. live_if (is_live_status x.status && nat_le k x.m) _ x.status q) t s.book.acts h)
act_was w (Prepare u a) s t h = inl (changed t u _ s.book.acts (λ x. refl) (λ x q. q) h)
act_was w (Vouch u a) s t h = inl (changed t u _ s.book.acts (λ x. refl) (λ x q. q) h)
act_was w (Decide u) s t h = inl (changed t u _ s.book.acts (λ x. refl) (λ x q. live_decided s.book.next_c (is_value x.result) x.status q) h)
act_was w (Seal u) s t h = inl (changed t u _ s.book.acts (λ x. refl) (λ x q. live_sealed x.status q) h)
act_was w (Finish u a) s t h = inl (changed t u _ s.book.acts (λ x. refl) (λ x q. q) h)
act_was w e s t h = inl h
