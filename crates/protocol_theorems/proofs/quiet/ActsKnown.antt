-- Facts of each ACT that is found by its tid, and of each record that is there, event by event.
use Rattle.std.specs.Prelude.{◌≡◌, refl, ℕ, zero, suc, ◌+◌, ◌<◌, ◌≤◌, ◌%◌, ◌==◌, max, not, Bool, true, false, ◌&&◌, ◌||◌, if◌then◌else◌, ◌⊎◌, Option, Some, None, is_some, List, [], ◌∷◌, ◌++◌, length, map, slice_index_or, slice_set}
use Rattle.std.specs.List.{AllByRecursion, list_any, list_all}
use Rattle.std.proofs.Common.{sym, subst, inl, inr, ◌∙◌}
use Rattle.std.proofs.lemmas.List.{get_or-set_same}
use Rattle.std.proofs.lemmas.Bool.{and_parts, or_left, or_right, true≢false, eqb-true, eq-eqb}
use Rattle.snap_base.specs.declared.verdicts.Verdict.{Verdict}
use Rattle.protocol.specs.Fixed.{Fixed, Next, Go, Ended, base, is_reader}
use Rattle.protocol.specs.Records.{LogRecord, ActPrepare, is_prepare, is_act_commit}
use Rattle.protocol.specs.Rivals.{Lock}
use Rattle.protocol.specs.Parts.{Act, Book, Joined, Pair, Status, Live, Doomed, Decided, Sealed, Outcome, Cell, Machine}
use Rattle.protocol.specs.Events.{Event, Form, Admit, Arrive, Ask, End, Complete, Sync, Commit, Abort, Prepare, Vouch, Decide, Seal, Finish}
use Rattle.protocol.specs.Words.{holds, is_empty, is_doomed, is_sealed, is_decided, is_live_status, is_value, is_live_act, act_of, has_act, outcome_of, lock_of, floor_at}
use Rattle.protocol.specs.Spread.{raised, carried, crossed_out, is_crossed}
use Rattle.protocol.specs.Conditions.{IsAllowed, conditions}
use Rattle.protocol.specs.Effects.{after, cell_at, log_at, no_log, added, act_commit, synced}
use Rattle.protocol.specs.Runs.{opening}
use Rattle.protocol.specs.OnPost.{next_act}
use Rattle.protocol.specs.OnBook as book
use Rattle.protocol.specs.Verdicts.{died}
use Rattle.protocol_laws.proofs.first.Lists.{all_join, any_front, weaker}
use Rattle.protocol_laws.proofs.first.Statuses.{if_tid}
use Rattle.protocol_laws.proofs.machine.ActsFound.{found_tid}

-- ---- each ACT that is found

pub EachAct : (ℕ → Act → Type 0) → List Act → Type 0
EachAct P xs = (t : ℕ) (x : Act) → act_of t xs ≡ Some x → P t x

act_mapped : (f : Act → Act) → ((x : Act) → (f x).tid ≡ x.tid) → (t : ℕ) (c : Act) (xs : List Act) → act_of t (map f xs) ≡ Some c → (x : Act) × (act_of t xs ≡ Some x) × (f x ≡ c)
act_mapped f i t c [] e = absurd (cc e)
act_mapped f i t c (x ∷ xs) e = by (x.tid == t) (subst (λ z. (if z == t then Some (f x) else act_of t (map f xs)) ≡ Some c) (i x) e) (act_mapped f i t c xs)
  where
    by : (b : Bool) → (if b then Some (f x) else act_of t (map f xs)) ≡ Some c → (act_of t (map f xs) ≡ Some c → (y : Act) × (act_of t xs ≡ Some y) × (f y ≡ c)) → (y : Act) × ((if b then Some x else act_of t xs) ≡ Some y) × (f y ≡ c)
    by true g k = (x, refl, cc g)
    by false g k = k g

act_raised : (ps : List Pair) (t : ℕ) (c : Act) (xs : List Act) → act_of t (raised ps xs) ≡ Some c → (x : Act) × (m : ℕ) × (act_of t xs ≡ Some x) × (record x { m = m } ≡ c)
act_raised ps t c [] e = absurd (cc e)
act_raised ps t c (x ∷ xs) e = by (x.tid == t) e (act_raised ps t c xs)
  where
    by : (b : Bool) → (if b then Some (record x { m = max x.m (carried ps x (raised ps xs)) }) else act_of t (raised ps xs)) ≡ Some c → (act_of t (raised ps xs) ≡ Some c → (y : Act) × (m : ℕ) × (act_of t xs ≡ Some y) × (record y { m = m } ≡ c)) → (y : Act) × (m : ℕ) × ((if b then Some x else act_of t xs) ≡ Some y) × (record y { m = m } ≡ c)
    by true g k = (x, max x.m (carried ps x (raised ps xs)), refl, cc g)
    by false g k = k g

act_more : (t : ℕ) (c n : Act) (xs : List Act) → act_of t (xs ++ n ∷ []) ≡ Some c → (act_of t xs ≡ Some c) ⊎ ((n ≡ c) × (n.tid ≡ t))
act_more t c n [] e = by (n.tid == t) refl e
  where
    by : (b : Bool) → (n.tid == t) ≡ b → (if b then Some n else None) ≡ Some c → (act_of t [] ≡ Some c) ⊎ ((n ≡ c) × (n.tid ≡ t))
    by true i g = inr (cc g, eqb-true n.tid t i)
    by false i g = absurd (cc g)
act_more t c n (x ∷ xs) e = by (x.tid == t) e (act_more t c n xs)
  where
    by : (b : Bool) → (if b then Some x else act_of t (xs ++ n ∷ [])) ≡ Some c → (act_of t (xs ++ n ∷ []) ≡ Some c → (act_of t xs ≡ Some c) ⊎ ((n ≡ c) × (n.tid ≡ t))) → ((if b then Some x else act_of t xs) ≡ Some c) ⊎ ((n ≡ c) × (n.tid ≡ t))
    by true g k = inl g
    by false g k = k g

pub each_map : (P Q : ℕ → Act → Type 0) (f : Act → Act) (xs : List Act) → ((x : Act) → (f x).tid ≡ x.tid) → ((t : ℕ) (x : Act) → act_of t xs ≡ Some x → P t x → Q t (f x)) → EachAct P xs → EachAct Q (map f xs)
unfolding EachAct
each_map P Q f xs i k h t c e = let g = act_mapped f i t c xs e in subst (Q t) g.2 (k t g.0 g.1 (h t g.0 g.1))

pub each_changed : (P Q : ℕ → Act → Type 0) (u : ℕ) (f : Act → Act) (xs : List Act) → ((x : Act) → (f x).tid ≡ x.tid) → ((t : ℕ) (x : Act) → P t x → Q t x) → ((x : Act) → act_of u xs ≡ Some x → P u x → Q u (f x)) → EachAct P xs → EachAct Q (book.changed_act u f xs)
each_changed P Q u f xs i w k h = each_map P Q (λ x. book.change_if (x.tid == u) f x) xs (λ x. if_tid (x.tid == u) f x (i x)) (λ t x e p. by t x e p (x.tid == u) refl) h
  where
    by : (t : ℕ) (x : Act) → act_of t xs ≡ Some x → P t x → (v : Bool) → (x.tid == u) ≡ v → Q t (book.change_if v f x)
    by t x e p true j =
        let q : t ≡ u = sym (found_tid t x xs e) ∙ eqb-true x.tid u j in
        subst (λ z. Q z (f x)) (sym q) (k x (subst (λ z. act_of z xs ≡ Some x) q e) (subst (λ z. P z x) q p))
    by t x e p false j = w t x p

pub each_raised : (P : ℕ → Act → Type 0) (ps : List Pair) (xs : List Act) → ((t m : ℕ) (x : Act) → P t x → P t (record x { m = m })) → EachAct P xs → EachAct P (raised ps xs)
unfolding EachAct
each_raised P ps xs k h t c e = let g = act_raised ps t c xs e in subst (P t) g.3 (k t g.1 g.0 (h t g.0 g.2))

pub each_more : (P : ℕ → Act → Type 0) (xs : List Act) (n : Act) → P n.tid n → EachAct P xs → EachAct P (xs ++ n ∷ [])
unfolding EachAct
each_more P xs n p h t c e = elim (act_more t c n xs e) [ inl g ↦ h t c g | inr g ↦ subst (P t) g.0 (subst (λ z. P z n) g.1 p) ]

pub each_weaker : (P Q : ℕ → Act → Type 0) (xs : List Act) → ((t : ℕ) (x : Act) → P t x → Q t x) → EachAct P xs → EachAct Q xs
unfolding EachAct
each_weaker P Q xs k h t x e = k t x (h t x e)

-- ---- records

pub one_of : {X : Type 0} (P : ℕ → X → Type 0) (d : X) (xs : List X) (i : ℕ) (y : X) → (P i (slice_index_or xs i d) → P i y) → ((b : ℕ) → P b (slice_index_or xs b d)) → (b : ℕ) → P b (slice_index_or (slice_set xs i y) b d)
one_of P d [] i y k h b = h b
one_of P d (x ∷ xs) zero y k h zero = k (h zero)
one_of P d (x ∷ xs) zero y k h (suc b) = h (suc b)
one_of P d (x ∷ xs) (suc i) y k h zero = h zero
one_of P d (x ∷ xs) (suc i) y k h (suc b) = one_of (λ j z. P (suc j) z) d xs i y k (λ j. h (suc j)) b

any_back : {X : Type 0} (p : X → Bool) (xs ys : List X) → list_any p ys ≡ true → list_any p (xs ++ ys) ≡ true
any_back p [] ys h = h
any_back p (x ∷ xs) ys h = or_right (p x) (list_any p (xs ++ ys)) (any_back p xs ys h)

-- the log has such a record
abbrev pub IsIn : {C : Type 0} → (LogRecord → Bool) → ℕ → Machine C → Type 0
IsIn test l s = list_any test (log_at s l).records ≡ true

more : {C : Type 0} (s : Machine C) (test : LogRecord → Bool) (j : ℕ) (rs : List LogRecord) (l : ℕ) → IsIn test l s → list_any test (slice_index_or (slice_set s.logs j (added rs (log_at s j))) l no_log).records ≡ true
more s test j rs l h = one_of (λ b g. list_any test (log_at s b).records ≡ true → list_any test g.records ≡ true) no_log s.logs j (added rs (log_at s j)) (λ k i. any_front test (log_at s j).records rs i) (λ b i. i) l h

-- what is there stays
pub stays : {C : Type 0} (w : Fixed C) (e : Event) (s : Machine C) (test : LogRecord → Bool) (l : ℕ) → IsIn test l s → IsIn test l (after w e s)
unfolding after
stays w (Form k) s test l h = more s test (k % w.text.logs) _ l h
stays w (Complete k a) s test l h = more s test (a % w.text.logs) _ l h
stays w (Sync j) s test l h = one_of (λ b g. list_any test (log_at s b).records ≡ true → list_any test g.records ≡ true) no_log s.logs j (synced (log_at s j)) (λ k. k) (λ b i. i) l h
stays w (Commit k) s test l h = more s test (k % w.text.logs) _ l h
stays w (Prepare t a) s test l h = more s test (a % w.text.logs) _ l h
stays w (Decide t) s test l h = more s test (t % w.text.logs) _ l h
stays w e s test l h = h

-- what is added is there
pub there_now : {C : Type 0} (s : Machine C) (test : LogRecord → Bool) (l : ℕ) (rs : List LogRecord) → l < length s.logs → list_any test rs ≡ true → list_any test (slice_index_or (slice_set s.logs l (added rs (log_at s l))) l no_log).records ≡ true
there_now s test l rs r h = rw (get_or-set_same s.logs l (added rs (log_at s l)) no_log r) (any_back test (log_at s l).records rs h)

-- ---- what each ACT has

-- who is decided has a result, who has left an actor is over; marks have their records
pub record Fit {C : Type 0} (w : Fixed C) (s : Machine C) (t : ℕ) (x : Act) : Type 0 where
  pub ended : (is_decided x.status || is_sealed x.status) ≡ true → is_some x.result ≡ true
  pub left : AllByRecursion (λ p. p.finished ≡ true → (is_doomed x.status || is_sealed x.status) ≡ true) x.places
  pub prepared : AllByRecursion (λ p. p.prepared ≡ true → IsIn (is_prepare t p.actor) (p.actor % w.text.logs) s) x.places
  pub committed : is_decided x.status ≡ true → IsIn (is_act_commit t) (t % w.text.logs) s

all_marked : (P Q : Joined → Type 0) (a : ℕ) (f : Joined → Joined) (ps : List Joined) → ((p : Joined) → P p → Q p) → ((p : Joined) → p.actor ≡ a → P p → Q (f p)) → AllByRecursion P ps → AllByRecursion Q (map (λ p. book.mark_if (p.actor == a) f p) ps)
all_marked P Q a f [] w k h = tt
all_marked P Q a f (p ∷ ps) w k h = (by (p.actor == a) refl, all_marked P Q a f ps w k h.1)
  where
    by : (v : Bool) → (p.actor == a) ≡ v → Q (book.mark_if v f p)
    by true i = k p (eqb-true p.actor a i) h.0
    by false i = w p h.0

grows : {C : Type 0} (w : Fixed C) (e : Event) (s : Machine C) (t : ℕ) (x : Act) → Fit w s t x → Fit w (after w e s) t x
grows w e s t x h = record {
  ended = h.ended;
  left = h.left;
  prepared = weaker _ _ x.places (λ p k i. stays w e s (is_prepare t p.actor) (p.actor % w.text.logs) (k i)) h.prepared;
  committed = λ d. stays w e s (is_act_commit t) (t % w.text.logs) (h.committed d);
}

doom : {C : Type 0} (w : Fixed C) (s : Machine C) (t : ℕ) (x : Act) (n : Option ℕ) (b : Bool) (v : Verdict) → Fit w s t x → Fit w s t (record x { n = n; status = if b then Doomed v else x.status })
doom w s t x n true v h = record { ended = λ e. absurd (true≢false (sym e)); left = weaker _ _ x.places (λ p k e. refl) h.left; prepared = h.prepared; committed = λ e. absurd (true≢false (sym e)) }
doom w s t x n false v h = record { ended = h.ended; left = h.left; prepared = h.prepared; committed = h.committed }

lowered_fit : {C : Type 0} (w : Fixed C) (s : Machine C) (t : ℕ) (x : Act) (m : ℕ) (n : Option ℕ) → Fit w s t x → Fit w s t (record x { m = m; n = n })
lowered_fit w s t x m n h = record { ended = h.ended; left = h.left; prepared = h.prepared; committed = h.committed }

joined_fit : {C : Type 0} (w : Fixed C) (s : Machine C) (t a m : ℕ) (x : Act) → Fit w s t x → Fit w s t (book.joins a m x)
joined_fit w s t a m x h = record { ended = h.ended; left = all_join _ x.places _ h.left (λ e. absurd (true≢false (sym e)), tt); prepared = all_join _ x.places _ h.prepared (λ e. absurd (true≢false (sym e)), tt); committed = h.committed }

asked : {C : Type 0} (w : Fixed C) (s : Machine C) (o : Option ℕ) (group : List Lock) (t a : ℕ) (c : Cell C) (b : Book) → EachAct (Fit w s) b.acts → EachAct (Fit w s) (book.asked_acts o group t a (max c.last (floor_at t b.acts c)) b)
asked w s (Some older) group t a c b h = each_changed (Fit w s) (Fit w s) t (book.doomed_by (died a older t)) b.acts (λ x. refl) (λ u x p. p) (λ x e p. doom w s t x x.n (is_live_status x.status) (died a older t) p) h
asked w s None group t a c b h =
    each_map (Fit w s) (Fit w s) (crossed_out a) _ (λ x. refl) (λ u x e p. doom w s u x x.n (is_crossed x) (Rattle.protocol.specs.Verdicts.out_of_order x.m (Rattle.std.specs.Prelude.unwrap_or x.n 0) a) p)
    (each_raised (Fit w s) (b.pairs ++ book.new_pairs t a group b.acts) _ (λ u m x p. lowered_fit w s u x m x.n p)
    (each_changed (Fit w s) (Fit w s) t (book.joins a (max c.last (floor_at t b.acts c))) b.acts (λ x. refl) (λ u x p. p) (λ x e p. joined_fit w s t a (max c.last (floor_at t b.acts c)) x p) h))

noted : {C : Type 0} (w : Fixed C) (s : Machine C) (t : ℕ) (n : Next C) (xs : List Act) → EachAct (Fit w s) xs → EachAct (Fit w s) (book.noted_for t n xs)
noted w s t (Go b d) xs h = h
noted w s t (Ended r) xs h = each_changed (Fit w s) (Fit w s) t (book.with_result r) xs (λ x. refl) (λ u x p. p) (λ x e p. record { ended = λ d. refl; left = p.left; prepared = p.prepared; committed = p.committed }) h

ended_acts : {C : Type 0} (w : Fixed C) (s : Machine C) (v : Bool) (t : ℕ) (o : Option (Outcome C)) (xs : List Act) → EachAct (Fit w s) xs → EachAct (Fit w s) (if v then book.noted_from t o xs else xs)
ended_acts w s true t None xs h = h
ended_acts w s true t (Some x) xs h = noted w s t x.next xs h
ended_acts w s false t o xs h = h

-- a live one is decided
decided : {C : Type 0} (w : Fixed C) (s : Machine C) (t c : ℕ) (x : Act) → is_some x.result ≡ true → is_live_status x.status ≡ true → (is_value x.result ≡ true → IsIn (is_act_commit t) (t % w.text.logs) s) → Fit w s t x → Fit w s t (book.decided_as c x)
decided w s t c x r l i h = by (is_value x.result) refl x.status l h.left
  where
    by : (v : Bool) → is_value x.result ≡ v → (st : Status) → is_live_status st ≡ true → AllByRecursion (λ p. p.finished ≡ true → (is_doomed st || is_sealed st) ≡ true) x.places → Fit w s t (record x { status = book.decided_status c v st })
    by true e Live l k = record { ended = λ d. r; left = weaker _ _ x.places (λ p f g. absurd (true≢false (sym (f g)))) k; prepared = h.prepared; committed = λ d. i e }
    by false e Live l k = record { ended = λ d. r; left = weaker _ _ x.places (λ p f g. refl) k; prepared = h.prepared; committed = λ d. absurd (true≢false (sym d)) }
    by v e (Doomed y) l k = absurd (true≢false (sym l))
    by v e (Decided y) l k = absurd (true≢false (sym l))
    by v e (Sealed y) l k = absurd (true≢false (sym l))

sealed : {C : Type 0} (w : Fixed C) (s : Machine C) (t : ℕ) (x : Act) → Fit w s t x → Fit w s t (book.sealed x)
sealed w s t x h = by x.status h.ended h.left
  where
    by : (st : Status) → ((is_decided st || is_sealed st) ≡ true → is_some x.result ≡ true) → AllByRecursion (λ p. p.finished ≡ true → (is_doomed st || is_sealed st) ≡ true) x.places → Fit w s t (record x { status = book.sealed_status st })
    by Live e k = record { ended = e; left = k; prepared = h.prepared; committed = λ d. absurd (true≢false (sym d)) }
    by (Doomed v) e k = record { ended = e; left = k; prepared = h.prepared; committed = λ d. absurd (true≢false (sym d)) }
    by (Decided c) e k = record { ended = e; left = weaker _ _ x.places (λ p f g. refl) k; prepared = h.prepared; committed = λ d. absurd (true≢false (sym d)) }
    by (Sealed c) e k = record { ended = e; left = k; prepared = h.prepared; committed = λ d. absurd (true≢false (sym d)) }

pub AllFit : {C : Type 0} → Fixed C → Machine C → Type 0
AllFit w s = EachAct (Fit w s) s.book.acts

pub in_logs : {C : Type 0} (w : Fixed C) (s : Machine C) (n : ℕ) → 1 ≤ w.text.logs → length s.logs ≡ w.text.logs → n % w.text.logs < length s.logs
in_logs w s n l e = subst (λ z. n % w.text.logs < z) (sym e) (Rattle.std.proofs.Math.Nat.mod-lt n l)

kept : {C : Type 0} (w : Fixed C) (e : Event) (s : Machine C) → 1 ≤ w.text.logs → length s.logs ≡ w.text.logs → IsAllowed w e s → EachAct (Fit w (after w e s)) s.book.acts → AllFit w (after w e s)
unfolding AllFit conditions after
kept w (Admit t) s l g ok h = each_more (Fit w (after w (Admit t) s)) s.book.acts (book.new_act t (next_act s.ring) (is_reader w (next_act s.ring)) (base w.text)) (record { ended = λ e. absurd (true≢false (sym e)); left = tt; prepared = tt; committed = λ e. absurd (true≢false (sym e)) }) h
kept w (Arrive k a) s l g ok h =
    each_map (Fit w (after w (Arrive k a) s)) (Fit w (after w (Arrive k a) s)) (crossed_out a) _ (λ x. refl) (λ u x e p. doom w (after w (Arrive k a) s) u x x.n (is_crossed x) (Rattle.protocol.specs.Verdicts.out_of_order x.m (Rattle.std.specs.Prelude.unwrap_or x.n 0) a) p)
    (each_map (Fit w (after w (Arrive k a) s)) (Fit w (after w (Arrive k a) s)) (book.lowered k (book.tids_on (cell_at s a).entries)) s.book.acts (λ x. refl) (λ u x e p. lowered_fit w (after w (Arrive k a) s) u x x.m _ p) h)
kept w (Ask t a) s l g ok h = asked w (after w (Ask t a) s) (book.in_the_way (lock_of t s.book.acts) (cell_at s a).entries) (book.met (lock_of t s.book.acts) (cell_at s a).entries) t a (cell_at s a) s.book h
kept w (End t a) s l g ok h = ended_acts w (after w (End t a) s) (has_act t (cell_at s a).entries) t (outcome_of t (cell_at s a).outbox) s.book.acts h
kept w (Abort k) s l g ok h = each_map (Fit w (after w (Abort k) s)) (Fit w (after w (Abort k) s)) (book.cascaded k (book.failed_tx (book.why k s.desk))) s.book.acts (λ x. refl) (λ u x e p. doom w (after w (Abort k) s) u x None _ (Rattle.protocol.specs.Verdicts.taken_along k (book.failed_tx (book.why k s.desk))) p) h
kept w (Prepare t a) s l g ok h = each_changed (Fit w (after w (Prepare t a) s)) (Fit w (after w (Prepare t a) s)) t (book.marked a book.is_prepared) s.book.acts (λ x. refl) (λ u x p. p) (λ x e p. record {
  ended = p.ended;
  left = all_marked _ (λ p. p.finished ≡ true → (is_doomed x.status || is_sealed x.status) ≡ true) a book.is_prepared x.places (λ y k. k) (λ y i k. k) p.left;
  prepared = all_marked _ (λ p. p.prepared ≡ true → IsIn (is_prepare t p.actor) (p.actor % w.text.logs) (after w (Prepare t a) s)) a book.is_prepared x.places (λ y k. k) (λ y i k d. subst (λ z. IsIn (is_prepare t z) (z % w.text.logs) (after w (Prepare t a) s)) (sym i) now) p.prepared;
  committed = p.committed;
}) h
  where
    now : IsIn (is_prepare t a) (a % w.text.logs) (after w (Prepare t a) s)
    now = there_now s (is_prepare t a) (a % w.text.logs) (ActPrepare t a (cell_at s a).state ∷ []) (in_logs w s a l g) (rw (eq-eqb t t refl, eq-eqb a a refl) refl)
kept w (Vouch t a) s l g ok h = each_changed (Fit w (after w (Vouch t a) s)) (Fit w (after w (Vouch t a) s)) t (book.marked a book.is_vouched) s.book.acts (λ x. refl) (λ u x p. p) (λ x e p. record {
  ended = p.ended;
  left = all_marked _ (λ p. p.finished ≡ true → (is_doomed x.status || is_sealed x.status) ≡ true) a book.is_vouched x.places (λ y k. k) (λ y i k. k) p.left;
  prepared = all_marked _ (λ p. p.prepared ≡ true → IsIn (is_prepare t p.actor) (p.actor % w.text.logs) (after w (Vouch t a) s)) a book.is_vouched x.places (λ y k. k) (λ y i k. k) p.prepared;
  committed = p.committed;
}) h
kept w (Decide t) s l g ok h = each_changed (Fit w (after w (Decide t) s)) (Fit w (after w (Decide t) s)) t (book.decided_as s.book.next_c) s.book.acts (λ x. refl) (λ u x p. p) (λ x e p.
    let y = subst (λ z. holds (λ x. is_some x.result && is_live_status x.status) z ≡ true) e ok.0 in
    let q = and_parts (is_some x.result) (is_live_status x.status) y in
    decided w (after w (Decide t) s) t s.book.next_c x q.0 q.1 (λ v. there_now s (is_act_commit t) (t % w.text.logs) (act_commit s.book.next_c (act_of t s.book.acts)) (in_logs w s t l g) (rw (e, v, eq-eqb x.tid t (found_tid t x s.book.acts e)) refl)) p) h
kept w (Seal t) s l g ok h = each_changed (Fit w (after w (Seal t) s)) (Fit w (after w (Seal t) s)) t book.sealed s.book.acts (λ x. refl) (λ u x p. p) (λ x e p. sealed w (after w (Seal t) s) t x p) h
kept w (Finish t a) s l g ok h = each_changed (Fit w (after w (Finish t a) s)) (Fit w (after w (Finish t a) s)) t (book.marked a book.has_left) s.book.acts (λ x. refl) (λ u x p. p) (λ x e p. record {
  ended = p.ended;
  left = all_marked _ (λ p. p.finished ≡ true → (is_doomed x.status || is_sealed x.status) ≡ true) a book.has_left x.places (λ y k. k) (λ y i k d. subst (λ z. holds (λ x. is_doomed x.status || is_sealed x.status) z ≡ true) e ok.0) p.left;
  prepared = all_marked _ (λ p. p.prepared ≡ true → IsIn (is_prepare t p.actor) (p.actor % w.text.logs) (after w (Finish t a) s)) a book.has_left x.places (λ y k. k) (λ y i k. k) p.prepared;
  committed = p.committed;
}) h
kept w e s l g ok h = h

pub fit_kept : {C : Type 0} (w : Fixed C) (e : Event) (s : Machine C) → 1 ≤ w.text.logs → length s.logs ≡ w.text.logs → IsAllowed w e s → AllFit w s → AllFit w (after w e s)
unfolding AllFit
fit_kept w e s l g ok h = kept w e s l g ok (each_weaker (Fit w s) (Fit w (after w e s)) s.book.acts (grows w e s) h)

pub fit_opened : {C : Type 0} (w : Fixed C) → AllFit w (opening w)
unfolding AllFit EachAct
fit_opened w = λ t x e. absurd (cc e)

pub fit_is : {C : Type 0} (w : Fixed C) (s : Machine C) → AllFit w s → (t : ℕ) (x : Act) → act_of t s.book.acts ≡ Some x → Fit w s t x
unfolding AllFit EachAct
fit_is w s h = h

-- who has left all its actors is doomed or sealed
pub over : {C : Type 0} (w : Fixed C) (s : Machine C) → AllFit w s → (t : ℕ) (x : Act) → act_of t s.book.acts ≡ Some x → is_live_act x ≡ false → (is_doomed x.status || is_sealed x.status) ≡ true
over w s h t x e l = by x.places (fit_is w s h t x e).left l
  where
    by : (ps : List Joined) → AllByRecursion (λ p. p.finished ≡ true → (is_doomed x.status || is_sealed x.status) ≡ true) ps → not (if is_empty ps then is_doomed x.status else list_all (λ p. p.finished) ps) ≡ false → (is_doomed x.status || is_sealed x.status) ≡ true
    by [] k d = or_left (is_doomed x.status) (is_sealed x.status) (Rattle.protocol_theorems.proofs.quiet.QuietEasy.not_false (is_doomed x.status) d)
    by (p ∷ ps) k d = k.0 (and_parts p.finished (list_all (λ p. p.finished) ps) (Rattle.protocol_theorems.proofs.quiet.QuietEasy.not_false (p.finished && list_all (λ p. p.finished) ps) d)).0
