-- What stays of an ACT that is decided, sealed or given up, and how many ACTs are live, while others are given up, decided and leave.
use Rattle.std.specs.Prelude.{◌≡◌, refl, ℕ, ◌==◌, ◌≤◌, nat_lt, max, Bool, true, false, not, ◌&&◌, ◌||◌, if◌then◌else◌, Option, Some, None, List, [], ◌∷◌, ◌++◌, length, map, filter}
use Rattle.std.specs.List.{list_all}
use Rattle.std.proofs.Common.{arith, sym, ap, ◌∙◌}
use Rattle.std.proofs.lemmas.Bool.{true≢false, and_parts, ltb-true, lt-ltb}
use Rattle.snap_base.specs.declared.verdicts.Verdict.{Verdict}
use Rattle.protocol.specs.Fixed.{Fixed}
use Rattle.protocol.specs.Rivals.{Lock}
use Rattle.protocol.specs.Parts.{Act, Joined, Batch, Declared, Pair, Book, Status, Live, Doomed, Decided, Sealed, Machine}
use Rattle.protocol.specs.Events.{Form, Admit, Arrive, Ask, Decide, Seal, Finish, Trim}
use Rattle.protocol.specs.Words.{holds, count, is_empty, act_of, joined_of, is_live_status, is_doomed, is_decided, is_sealed, is_live_act, is_live_batch}
use Rattle.protocol.specs.Spread.{raised, carried, reaches, crossed_out, doomed_by_order}
use Rattle.protocol.specs.OnBook as book
use Rattle.protocol.specs.OnDesk as desk
use Rattle.protocol.specs.Verdicts.{died}
use Rattle.protocol.specs.Conditions.{conditions}
use Rattle.protocol.specs.Effects.{after, cell_at}
use Rattle.protocol_laws.proofs.first.Lists.{some_held}
use Rattle.protocol_ready.proofs.Remaining.{found_first}
use Rattle.protocol_ready.proofs.Waiting.{Stays, never}

-- ---- a test of an ACT that stays true

kept_by : (p : Act → Bool) (f : Act → Act) (t : ℕ) (xs : List Act) → ((x : Act) → (f x).tid ≡ x.tid) → ((x : Act) → p x ≡ true → p (f x) ≡ true) → holds p (act_of t xs) ≡ true → holds p (act_of t (map f xs)) ≡ true
kept_by p f t [] k h e = e
kept_by p f t (x ∷ xs) k h e = by (x.tid == t) refl e (kept_by p f t xs k h)
  where
    by : (z : Bool) → (x.tid == t) ≡ z → holds p (if z then Some x else act_of t xs) ≡ true → (holds p (act_of t xs) ≡ true → holds p (act_of t (map f xs)) ≡ true)
        → holds p (if (f x).tid == t then Some (f x) else act_of t (map f xs)) ≡ true
    by true q i r = rw (ap (λ n. n == t) (k x) ∙ q) (h x i)
    by false q i r = rw (ap (λ n. n == t) (k x) ∙ q) (r i)

raised_by : (p : Act → Bool) (t : ℕ) (pairs : List Pair) (xs : List Act) → ((x : Act) (m : ℕ) → p (record x { m = m }) ≡ p x) → holds p (act_of t xs) ≡ true → holds p (act_of t (raised pairs xs)) ≡ true
raised_by p t pairs [] k e = e
raised_by p t pairs (x ∷ xs) k e = by (x.tid == t) e (raised_by p t pairs xs k)
  where
    by : (z : Bool) → holds p (if z then Some x else act_of t xs) ≡ true → (holds p (act_of t xs) ≡ true → holds p (act_of t (raised pairs xs)) ≡ true)
        → holds p (if z then Some (record x { m = max x.m (carried pairs x (raised pairs xs)) }) else act_of t (raised pairs xs)) ≡ true
    by true i r = k x (max x.m (carried pairs x (raised pairs xs))) ∙ i
    by false i r = r i

changed_by : (p : Act → Bool) (f : Act → Act) (t u : ℕ) (xs : List Act) → ((x : Act) → (f x).tid ≡ x.tid) → ((x : Act) → p x ≡ true → p (f x) ≡ true) → holds p (act_of t xs) ≡ true → holds p (act_of t (book.changed_act u f xs)) ≡ true
changed_by p f t u xs k h = kept_by p (λ x. book.change_if (x.tid == u) f x) t xs (λ x. tid (x.tid == u) x) (λ x. still (x.tid == u) x)
  where
    tid : (b : Bool) (x : Act) → (book.change_if b f x).tid ≡ x.tid
    tid true x = k x
    tid false x = refl

    still : (b : Bool) (x : Act) → p x ≡ true → p (book.change_if b f x) ≡ true
    still true x e = h x e
    still false x e = e

-- what the test has to bear
record Lasts (p : Act → Bool) : Type 0 where
  crossed : (a : ℕ) (x : Act) → p x ≡ true → p (crossed_out a x) ≡ true
  lowered : (k : ℕ) (tids : List ℕ) (x : Act) → p x ≡ true → p (book.lowered k tids x) ≡ true
  raised : (x : Act) (m : ℕ) → p (record x { m = m }) ≡ p x
  joins : (a m : ℕ) (x : Act) → p x ≡ true → p (book.joins a m x) ≡ true
  doomed : (v : Verdict) (x : Act) → p x ≡ true → p (book.doomed_by v x) ≡ true

arrived_by : (p : Act → Bool) → Lasts p → (t k a : ℕ) (tids : List ℕ) (xs : List Act) → holds p (act_of t xs) ≡ true → holds p (act_of t (doomed_by_order a (map (book.lowered k tids) xs))) ≡ true
arrived_by p l t k a tids xs e = kept_by p (crossed_out a) t (map (book.lowered k tids) xs) (λ x. refl) (l.crossed a) (kept_by p (book.lowered k tids) t xs (λ x. refl) (l.lowered k tids) e)

asked_by : (p : Act → Bool) → Lasts p → (t : ℕ) (o : Option ℕ) (group : List Lock) (u a m : ℕ) (b : Book) → holds p (act_of t b.acts) ≡ true → holds p (act_of t (book.asked_acts o group u a m b)) ≡ true
asked_by p l t (Some older) group u a m b e = changed_by p (book.doomed_by (died a older u)) t u b.acts (λ x. refl) (l.doomed (died a older u)) e
asked_by p l t None group u a m b e =
    kept_by p (crossed_out a) t (raised (b.pairs ++ book.new_pairs u a group b.acts) (book.changed_act u (book.joins a m) b.acts)) (λ x. refl) (l.crossed a)
    (raised_by p t (b.pairs ++ book.new_pairs u a group b.acts) (book.changed_act u (book.joins a m) b.acts) l.raised (changed_by p (book.joins a m) t u b.acts (λ x. refl) (l.joins a m) e))

-- ---- the tests

decided_then : (st : Status) (r : Bool) (v : Verdict) → is_decided st ≡ true → is_decided (if is_live_status st && r then Doomed v else st) ≡ true
decided_then Live r v h = absurd (true≢false (sym h))
decided_then (Doomed w) r v h = absurd (true≢false (sym h))
decided_then (Decided c) r v h = refl
decided_then (Sealed c) r v h = absurd (true≢false (sym h))

decided_still : (st : Status) (v : Verdict) → is_decided st ≡ true → is_decided (if is_live_status st then Doomed v else st) ≡ true
decided_still Live v h = absurd (true≢false (sym h))
decided_still (Doomed w) v h = absurd (true≢false (sym h))
decided_still (Decided c) v h = refl
decided_still (Sealed c) v h = absurd (true≢false (sym h))

decided_lasts : Lasts (λ x. is_decided x.status)
decided_lasts = record {
  crossed = λ a x h. decided_then x.status (reaches x.m x.n) _ h;
  lowered = λ k tids x h. h;
  raised = λ x m. refl;
  joins = λ a m x h. h;
  doomed = λ v x h. decided_still x.status v h;
}

leaving_then : (st : Status) (r : Bool) (v : Verdict) → (is_doomed st || is_sealed st) ≡ true → (is_doomed (if is_live_status st && r then Doomed v else st) || is_sealed (if is_live_status st && r then Doomed v else st)) ≡ true
leaving_then Live r v h = absurd (true≢false (sym h))
leaving_then (Doomed w) r v h = refl
leaving_then (Decided c) r v h = absurd (true≢false (sym h))
leaving_then (Sealed c) r v h = refl

leaving_still : (st : Status) (v : Verdict) → (is_doomed st || is_sealed st) ≡ true → (is_doomed (if is_live_status st then Doomed v else st) || is_sealed (if is_live_status st then Doomed v else st)) ≡ true
leaving_still Live v h = absurd (true≢false (sym h))
leaving_still (Doomed w) v h = refl
leaving_still (Decided c) v h = absurd (true≢false (sym h))
leaving_still (Sealed c) v h = refl

leaving_lasts : Lasts (λ x. is_doomed x.status || is_sealed x.status)
leaving_lasts = record {
  crossed = λ a x h. leaving_then x.status (reaches x.m x.n) _ h;
  lowered = λ k tids x h. h;
  raised = λ x m. refl;
  joins = λ a m x h. h;
  doomed = λ v x h. leaving_still x.status v h;
}

there_lasts : (a : ℕ) → Lasts (λ x. holds (λ p. not p.finished) (joined_of a x))
there_lasts a = record {
  crossed = λ b x h. h;
  lowered = λ k tids x h. h;
  raised = λ x m. refl;
  joins = λ b m x h. ap (holds (λ p. not p.finished)) (found_first (λ p. p.actor == a) x.places _ (some_held _ _ h)) ∙ h;
  doomed = λ v x h. h;
}

-- ---- so these stay allowed

pub arrived_seal : {C : Type 0} (w : Fixed C) (k b : ℕ) (s : Machine C) (t : ℕ) → Stays w (Arrive k b) s (Seal t)
unfolding conditions after
arrived_seal w k b s t h = (arrived_by (λ x. is_decided x.status) decided_lasts t k b _ s.book.acts h.0, h.1)

pub asked_seal : {C : Type 0} (w : Fixed C) (u b : ℕ) (s : Machine C) (t : ℕ) → Stays w (Ask u b) s (Seal t)
unfolding conditions after
asked_seal w u b s t h = (asked_by (λ x. is_decided x.status) decided_lasts t _ _ u b _ s.book h.0, h.1)

pub arrived_finish : {C : Type 0} (w : Fixed C) (k b : ℕ) (s : Machine C) (t a : ℕ) → Stays w (Arrive k b) s (Finish t a)
unfolding conditions after
arrived_finish w k b s t a h = (
  arrived_by (λ x. is_doomed x.status || is_sealed x.status) leaving_lasts t k b _ s.book.acts h.0,
  (arrived_by (λ x. holds (λ p. not p.finished) (joined_of a x)) (there_lasts a) t k b _ s.book.acts h.1.0, tt),
)

pub asked_finish : {C : Type 0} (w : Fixed C) (u b : ℕ) (s : Machine C) (t a : ℕ) → Stays w (Ask u b) s (Finish t a)
unfolding conditions after
asked_finish w u b s t a h = (
  asked_by (λ x. is_doomed x.status || is_sealed x.status) leaving_lasts t _ _ u b _ s.book h.0,
  (asked_by (λ x. holds (λ p. not p.finished) (joined_of a x)) (there_lasts a) t _ _ u b _ s.book h.1.0, tt),
)

-- ---- how many are live: no more where each that is live then was so before

fewer : {X : Type 0} (p : X → Bool) (f : X → X) (xs : List X) → ((x : X) → p (f x) ≡ true → p x ≡ true) → length (filter p (map f xs)) ≤ length (filter p xs)
fewer p f [] h = omega arith
fewer p f (x ∷ xs) h = by (p (f x)) refl (p x) refl (fewer p f xs h)
  where
    by : (q : Bool) → p (f x) ≡ q → (z : Bool) → p x ≡ z → length (filter p (map f xs)) ≤ length (filter p xs)
        → length (if q then f x ∷ filter p (map f xs) else filter p (map f xs)) ≤ length (if z then x ∷ filter p xs else filter p xs)
    by true e true g r = omega (arith, r)
    by true e false g r = absurd (true≢false (sym (h x e) ∙ g))
    by false e true g r = omega (arith, r)
    by false e false g r = r

room_stays : (xs ys : List Act) (n : ℕ) → count is_live_act ys ≤ count is_live_act xs → nat_lt (count is_live_act xs) n ≡ true → nat_lt (count is_live_act ys) n ≡ true
room_stays xs ys n l h = lt-ltb (count is_live_act ys) n (omega (arith, l, ltb-true (count is_live_act xs) n h))

-- one whose places stay, and its doom
live_before : (ps : List Joined) (d e : Bool) → (d ≡ true → e ≡ true) → not (if is_empty ps then e else list_all (λ p. p.finished) ps) ≡ true → not (if is_empty ps then d else list_all (λ p. p.finished) ps) ≡ true
live_before [] true e k h = absurd (never e (k refl) h)
live_before [] false e k h = refl
live_before (p ∷ ps) d e k h = h

doomed_then : (st : Status) (r : Bool) (v : Verdict) → is_doomed st ≡ true → is_doomed (if is_live_status st && r then Doomed v else st) ≡ true
doomed_then Live r v h = absurd (true≢false (sym h))
doomed_then (Doomed w) r v h = refl
doomed_then (Decided c) r v h = absurd (true≢false (sym h))
doomed_then (Sealed c) r v h = absurd (true≢false (sym h))

decided_doom : (c : ℕ) (b : Bool) (st : Status) → is_doomed st ≡ true → is_doomed (book.decided_status c b st) ≡ true
decided_doom c b Live h = absurd (true≢false (sym h))
decided_doom c b (Doomed v) h = refl
decided_doom c b (Decided d) h = absurd (true≢false (sym h))
decided_doom c b (Sealed d) h = absurd (true≢false (sym h))

sealed_doom : (st : Status) → is_doomed st ≡ true → is_doomed (book.sealed_status st) ≡ true
sealed_doom Live h = absurd (true≢false (sym h))
sealed_doom (Doomed v) h = refl
sealed_doom (Decided d) h = absurd (true≢false (sym h))
sealed_doom (Sealed d) h = absurd (true≢false (sym h))

-- one that leaves an actor
all_left : (a : ℕ) (ps : List Joined) → list_all (λ p. p.finished) ps ≡ true → list_all (λ p. p.finished) (map (λ p. book.mark_if (p.actor == a) book.has_left p) ps) ≡ true
all_left a [] h = refl
all_left a (p ∷ ps) h = let q = and_parts p.finished (list_all (λ p. p.finished) ps) h in by (p.actor == a) q.0 (all_left a ps q.1)
  where
    by : (x : Bool) → p.finished ≡ true → list_all (λ p. p.finished) (map (λ p. book.mark_if (p.actor == a) book.has_left p) ps) ≡ true
        → ((book.mark_if x book.has_left p).finished && list_all (λ p. p.finished) (map (λ p. book.mark_if (p.actor == a) book.has_left p) ps)) ≡ true
    by true n r = r
    by false n r = rw n r

left_before : (a : ℕ) (ps : List Joined) (d : Bool) → not (if is_empty (map (λ p. book.mark_if (p.actor == a) book.has_left p) ps) then d else list_all (λ p. p.finished) (map (λ p. book.mark_if (p.actor == a) book.has_left p) ps)) ≡ true
    → not (if is_empty ps then d else list_all (λ p. p.finished) ps) ≡ true
left_before a [] d h = h
left_before a (p ∷ ps) d h = by (list_all (λ p. p.finished) (p ∷ ps)) refl
  where
    by : (b : Bool) → list_all (λ p. p.finished) (p ∷ ps) ≡ b → not (list_all (λ p. p.finished) (p ∷ ps)) ≡ true
    by true q = absurd (never _ (all_left a (p ∷ ps) q) h)
    by false q = ap not q

changed_fewer : (f : Act → Act) (u : ℕ) (xs : List Act) → ((x : Act) → is_live_act (f x) ≡ true → is_live_act x ≡ true) → count is_live_act (book.changed_act u f xs) ≤ count is_live_act xs
changed_fewer f u xs h = fewer is_live_act (λ x. book.change_if (x.tid == u) f x) xs (λ x. by (x.tid == u) x)
  where
    by : (b : Bool) (x : Act) → is_live_act (book.change_if b f x) ≡ true → is_live_act x ≡ true
    by true x e = h x e
    by false x e = e

pub arrived_admit : {C : Type 0} (w : Fixed C) (k b : ℕ) (s : Machine C) (t : ℕ) → Stays w (Arrive k b) s (Admit t)
unfolding conditions after
arrived_admit w k b s t h =
    let tids = book.tids_on (cell_at s b).entries in
    let l : count is_live_act (map (book.lowered k tids) s.book.acts) ≤ count is_live_act s.book.acts = fewer is_live_act (book.lowered k tids) s.book.acts (λ x e. e) in
    let c : count is_live_act (map (crossed_out b) (map (book.lowered k tids) s.book.acts)) ≤ count is_live_act (map (book.lowered k tids) s.book.acts) =
    fewer is_live_act (crossed_out b) (map (book.lowered k tids) s.book.acts) (λ x e. live_before x.places (is_doomed x.status) (is_doomed (crossed_out b x).status) (doomed_then x.status (reaches x.m x.n) _) e) in
    (h.0, (h.1.0, (room_stays s.book.acts (map (crossed_out b) (map (book.lowered k tids) s.book.acts)) w.text.acts (omega (arith, l, c)) h.1.1.0, tt)))

pub decided_admit : {C : Type 0} (w : Fixed C) (u : ℕ) (s : Machine C) (t : ℕ) → Stays w (Decide u) s (Admit t)
unfolding conditions after
decided_admit w u s t h = (h.0, (h.1.0, (room_stays s.book.acts (book.changed_act u (book.decided_as s.book.next_c) s.book.acts) w.text.acts (changed_fewer (book.decided_as s.book.next_c) u s.book.acts (λ x e. live_before x.places (is_doomed x.status) (is_doomed (book.decided_as s.book.next_c x).status) (decided_doom s.book.next_c _ x.status) e)) h.1.1.0, tt)))

pub sealed_admit : {C : Type 0} (w : Fixed C) (u : ℕ) (s : Machine C) (t : ℕ) → Stays w (Seal u) s (Admit t)
unfolding conditions after
sealed_admit w u s t h = (h.0, (h.1.0, (room_stays s.book.acts (book.changed_act u book.sealed s.book.acts) w.text.acts (changed_fewer book.sealed u s.book.acts (λ x e. live_before x.places (is_doomed x.status) (is_doomed (book.sealed x).status) (sealed_doom x.status) e)) h.1.1.0, tt)))

pub finished_admit : {C : Type 0} (w : Fixed C) (u b : ℕ) (s : Machine C) (t : ℕ) → Stays w (Finish u b) s (Admit t)
unfolding conditions after
finished_admit w u b s t h = (h.0, (h.1.0, (room_stays s.book.acts (book.changed_act u (book.marked b book.has_left) s.book.acts) w.text.acts (changed_fewer (book.marked b book.has_left) u s.book.acts (λ x e. left_before b x.places (is_doomed x.status) e)) h.1.1.0, tt)))

-- ---- how many batches are live, where one leaves an actor

all_trimmed : (a : ℕ) (ps : List Declared) → list_all (λ p. p.trimmed) ps ≡ true → list_all (λ p. p.trimmed) (map (λ p. desk.mark_if (p.actor == a) desk.is_trimmed p) ps) ≡ true
all_trimmed a [] h = refl
all_trimmed a (p ∷ ps) h = let q = and_parts p.trimmed (list_all (λ p. p.trimmed) ps) h in by (p.actor == a) q.0 (all_trimmed a ps q.1)
  where
    by : (x : Bool) → p.trimmed ≡ true → list_all (λ p. p.trimmed) (map (λ p. desk.mark_if (p.actor == a) desk.is_trimmed p) ps) ≡ true
        → ((desk.mark_if x desk.is_trimmed p).trimmed && list_all (λ p. p.trimmed) (map (λ p. desk.mark_if (p.actor == a) desk.is_trimmed p) ps)) ≡ true
    by true n r = r
    by false n r = rw n r

trimmed_before : (a : ℕ) (ps : List Declared) (d : Bool) → (d && not (list_all (λ p. p.trimmed) (map (λ p. desk.mark_if (p.actor == a) desk.is_trimmed p) ps))) ≡ true → (d && not (list_all (λ p. p.trimmed) ps)) ≡ true
trimmed_before a ps d h = by (list_all (λ p. p.trimmed) ps) refl
  where
    by : (b : Bool) → list_all (λ p. p.trimmed) ps ≡ b → (d && not (list_all (λ p. p.trimmed) ps)) ≡ true
    by true q = absurd (never _ (all_trimmed a ps q) (and_parts d _ h).1)
    by false q = rw ((and_parts d _ h).0, q) refl

pub trimmed_form : {C : Type 0} (w : Fixed C) (j a : ℕ) (s : Machine C) (k : ℕ) → Stays w (Trim j a) s (Form k)
unfolding conditions after
trimmed_form w j a s k h = (h.0, (h.1.0, (lt-ltb _ w.text.batches (omega (arith, l, ltb-true (count is_live_batch s.desk.batches) w.text.batches h.1.1.0)), tt)))
  where
    by : (q : Bool) (b : Batch) → is_live_batch (desk.change_if q (desk.marked a desk.is_trimmed) b) ≡ true → is_live_batch b ≡ true
    by true b e = trimmed_before a b.places (not b.aborted) e
    by false b e = e

    l : count is_live_batch (desk.changed_batch j (desk.marked a desk.is_trimmed) s.desk.batches) ≤ count is_live_batch s.desk.batches
    l = fewer is_live_batch (λ b. desk.change_if (b.bid == j) (desk.marked a desk.is_trimmed) b) s.desk.batches (λ b. by (b.bid == j) b)
