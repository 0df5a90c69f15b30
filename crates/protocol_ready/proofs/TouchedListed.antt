-- An allowed event that is touched is listed.
use Rattle.std.specs.Prelude.{◌≡◌, ℕ, ◌%◌, ◌==◌, Bool, true, false, ◌&&◌, Option, Some, None, List, [], ◌∷◌, ◌++◌, map, filter}
use Rattle.std.specs.List.{list_any}
use Rattle.std.proofs.Common.{sym, ap, subst, inl, inr, ◌∙◌}
use Rattle.std.proofs.lemmas.Bool.{eqb-true, and_parts, true≢false, or_cases}
use Rattle.protocol.specs.Fixed.{Fixed}
use Rattle.protocol.specs.Records.{LogRecord, BatchInfo, BatchComplete, BatchDone, ActPrepare, ActDone, is_info, is_complete, is_commit, is_prepare, is_act_commit}
use Rattle.protocol.specs.Rivals.{Lock}
use Rattle.protocol.specs.Parts.{Act, Book, Pact, Machine}
use Rattle.protocol.specs.Events.{Event, Form, Admit, Arrive, Ask, Take, Run, Send, End, Close, Complete, Sync, Note, Commit, Settle, Abort, Rollback, DropSub, DropControl, Prepare, Vouch, Decide, Seal, Finish, Reply, Trim}
use Rattle.protocol.specs.Words.{is_among, names_pact, batch_of, act_of}
use Rattle.protocol.specs.Spread.{is_crossed, raised}
use Rattle.protocol.specs.OnRing.{next_pacts}
use Rattle.protocol.specs.OnBook.{changed_act, joins, lowered, tids_on, new_pairs}
use Rattle.protocol.specs.Effects.{cell_at, log_at}
use Rattle.protocol_ready.specs.Touched
use Rattle.protocol_ready.specs.Lying.{on_doom, on_boxes, on_entries, on_epoch, arrivals, on_control, on_subs, of_record, on_act, on_stage, on_result, on_marks, vouches_of}
use Rattle.protocol_ready.specs.Ready.{by_doom, by_boxes, by_inbox, by_outbox, by_entries, by_mark, by_epoch, by_tail, by_control, by_subs, by_log, by_fresh, by_acts, by_votes, by_stage, by_marks, by_results, by_result, by_replied, by_verdict, told_txs, crossed_txs, txs_named, asked_txs}
use Rattle.protocol_ready.proofs.Listing.{Has, has_left, has_right, has_map, has_filter, has_flat_map, held, found_in, any_of}

-- ---- by what changed

two_is : (kind : ℕ → ℕ → Event) (u t b a : ℕ) → ((b == a) && (u == t)) ≡ true → kind u b ≡ kind t a
two_is kind u t b a h =
    let q = and_parts (b == a) (u == t) h in
    ap (λ n. kind n b) (eqb-true u t q.1) ∙ ap (kind t) (eqb-true b a q.0)

two_same : (kind : ℕ → ℕ → Event) (j k b a : ℕ) → ((j == k) && (b == a)) ≡ true → kind j b ≡ kind k a
two_same kind j k b a h =
    let q = and_parts (j == k) (b == a) h in
    ap (λ n. kind n b) (eqb-true j k q.0) ∙ ap (kind k) (eqb-true b a q.1)

pub no : {X : Type 0} → false ≡ true → X
no h = absurd (true≢false (sym h))

pub boxes : {C : Type 0} (e : Event) (t : Machine C) (a : ℕ) (f : Event) → Touched.changes_boxes e a ≡ true → Has (on_boxes a t) f → Has (by_boxes e t) f
boxes (Rollback b) t a f h g = subst (λ n. Has (on_boxes n t) f) (sym (eqb-true b a h)) g
boxes (Finish u b) t a f h g = subst (λ n. Has (on_boxes n t) f) (sym (eqb-true b a h)) g
boxes _ t a f h g = no h

pub inbox : (e : Event) (t a : ℕ) → Touched.changes_inbox e t a ≡ true → Has (by_inbox e) (Run t a)
inbox (Ask u b) t a h = inl (two_is Run u t b a h)
inbox (Take u b) t a h = inl (two_is Run u t b a h)
inbox (Run u b) t a h = inl (two_is Run u t b a h)
inbox _ t a h = no h

pub outbox : (e : Event) (t a : ℕ) → Touched.changes_outbox e t a ≡ true → Has (by_outbox e) (Send t a) × Has (by_outbox e) (End t a)
outbox (Run u b) t a h = (inl (two_is Send u t b a h), inr (inl (two_is End u t b a h)))
outbox (Send u b) t a h = (inl (two_is Send u t b a h), inr (inl (two_is End u t b a h)))
outbox (End u b) t a h = (inl (two_is Send u t b a h), inr (inl (two_is End u t b a h)))
outbox _ t a h = no h

pub entries : {C : Type 0} (e : Event) (t : Machine C) (a : ℕ) (f : Event) → Touched.changes_entries e a ≡ true → Has (on_entries a t) f → Has (by_entries e t) f
entries (Arrive k b) t a f h g = subst (λ n. Has (on_entries n t) f) (sym (eqb-true b a h)) g
entries (Ask u b) t a f h g = subst (λ n. Has (on_entries n t) f) (sym (eqb-true b a h)) g
entries (Rollback b) t a f h g = subst (λ n. Has (on_entries n t) f) (sym (eqb-true b a h)) g
entries (Finish u b) t a f h g = subst (λ n. Has (on_entries n t) f) (sym (eqb-true b a h)) g
entries (Trim k b) t a f h g = subst (λ n. Has (on_entries n t) f) (sym (eqb-true b a h)) g
entries _ t a f h g = no h

pub marks : {C : Type 0} (w : Fixed C) (e : Event) (s t : Machine C) (a : ℕ) (f : Event) → Touched.changes_marks w e s a ≡ true → Has (on_marks a t) f → Has (by_mark w e s t) f
marks w (Run u b) s t a f h g =
    let q = and_parts (b == a) _ h in
    rw q.1 (inr (subst (λ n. Has (on_marks n t) f) (sym (eqb-true b a q.0)) g))
marks w (Close u b) s t a f h g = inr (subst (λ n. Has (on_marks n t) f) (sym (eqb-true b a h)) g)
marks w (Complete k b) s t a f h g = subst (λ n. Has (on_marks n t) f) (sym (eqb-true b a h)) g
marks w _ s t a f h g = no h

pub dones : {C : Type 0} (w : Fixed C) (e : Event) (s t : Machine C) (u a : ℕ) → Touched.changes_done w e s u a ≡ true → Has (by_mark w e s t) (Close u a)
dones w (Run v b) s t u a h =
    let q = and_parts ((b == a) && (v == u)) _ h in
    rw q.1 (inl (two_is Close v u b a q.0))
dones w (Close v b) s t u a h = inl (two_is Close v u b a h)
dones w _ s t u a h = no h

pub epochs : {C : Type 0} (e : Event) (t : Machine C) (a : ℕ) (f : Event) → Touched.changes_epoch e a ≡ true → Has (on_epoch a t) f → Has (by_epoch e t) f
epochs (Rollback b) t a f h g = subst (λ n. Has (on_epoch n t) f) (sym (eqb-true b a h)) g
epochs _ t a f h g = no h

pub tails : {C : Type 0} (e : Event) (t : Machine C) (a : ℕ) (f : Event) → Touched.changes_tail e a ≡ true → Has (arrivals a t) f → Has (by_tail e t) f
tails (Arrive k b) t a f h g = subst (λ n. Has (arrivals n t) f) (sym (eqb-true b a h)) g
tails (Rollback b) t a f h g = subst (λ n. Has (arrivals n t) f) (sym (eqb-true b a h)) g
tails _ t a f h g = no h

pub controls : {C : Type 0} (w : Fixed C) (e : Event) (s t : Machine C) (u : ℕ) (f : Event) → Touched.changes_control w e s u ≡ true → Has (on_control u t) f → Has (by_control w e s t) f
controls w (Form k) s t u f h g =
    let p = any_of (λ p. p.tid == u) (next_pacts w.text s.ring) h in
    has_flat_map (λ p. on_control p.tid t) (next_pacts w.text s.ring) p.it f p.has (subst (λ n. Has (on_control n t) f) (sym (eqb-true p.it.tid u p.does)) g)
controls w (Admit v) s t u f h g = subst (λ n. Has (on_control n t) f) (sym (eqb-true v u h)) g
controls w (Ask v a) s t u f h g = subst (λ n. Has (on_control n t) f) (sym (eqb-true v u h)) g
controls w (Take v a) s t u f h g = subst (λ n. Has (on_control n t) f) (sym (eqb-true v u h)) g
controls w (Send v a) s t u f h g = subst (λ n. Has (on_control n t) f) (sym (eqb-true v u h)) g
controls w (DropControl v) s t u f h g = subst (λ n. Has (on_control n t) f) (sym (eqb-true v u h)) g
controls w _ s t u f h g = no h

-- the messages of a batch: all of them, or one
pub all_subs : {C : Type 0} (e : Event) (t : Machine C) (k : ℕ) (f : Event) → Touched.changes_subs e k ≡ true → Has (on_subs k t) f → Has (by_subs e t) f
all_subs (Form j) t k f h g = subst (λ n. Has (on_subs n t) f) (sym (eqb-true j k h)) g
all_subs _ t k f h g = no h

pub one_sub : {C : Type 0} (e : Event) (t : Machine C) (k a : ℕ) → Touched.changes_sub e k a ≡ true → Has (by_subs e t) (Arrive k a) × Has (by_subs e t) (DropSub k a)
one_sub (Arrive j b) t k a h = (inl (two_same Arrive j k b a h), inr (inl (two_same DropSub j k b a h)))
one_sub (DropSub j b) t k a h = (inl (two_same Arrive j k b a h), inr (inl (two_same DropSub j k b a h)))
one_sub _ t k a h = no h

pub logs : {C : Type 0} (w : Fixed C) (e : Event) (l : ℕ) → Touched.changes_log w e l ≡ true → Has (by_log w e) (Sync l)
logs w (Form k) l h = inl (ap Sync (eqb-true (k % w.text.logs) l h))
logs w (Complete k a) l h = inl (ap Sync (eqb-true (a % w.text.logs) l h))
logs w (Sync m) l h = inl (ap Sync (eqb-true m l h))
logs w (Commit k) l h = inl (ap Sync (eqb-true (k % w.text.logs) l h))
logs w (Prepare t a) l h = inl (ap Sync (eqb-true (a % w.text.logs) l h))
logs w (Decide t) l h = inl (ap Sync (eqb-true (t % w.text.logs) l h))
logs w _ l h = no h

pub records : {C : Type 0} (e : Event) (s : Machine C) (test : LogRecord → Bool) (l : ℕ) (f : Event) → ((r : LogRecord) → test r ≡ true → Has (of_record r) f) → Touched.makes_durable e s test l ≡ true → Has (by_fresh e s) f
records (Sync m) s test l f g h =
    let r = any_of test (Touched.made_durable (log_at s m)) (and_parts (m == l) _ h).1 in
    has_flat_map of_record (Touched.made_durable (log_at s m)) r.it f r.has (g r.it r.does)
records _ s test l f g h = no h

pub of_info : (k : ℕ) (r : LogRecord) → is_info k r ≡ true → Has (of_record r) (Commit k)
of_info k (BatchInfo j actors tids) h = inl (ap Commit (eqb-true j k h))
of_info k _ h = no h

pub of_complete : (k a : ℕ) (r : LogRecord) → is_complete k a r ≡ true → Has (of_record r) (Note k a)
of_complete k a (BatchComplete j b state) h = inl (two_same Note j k b a h)
of_complete k a _ h = no h

pub of_commit : (k : ℕ) (r : LogRecord) → is_commit k r ≡ true → Has (of_record r) (Settle k)
of_commit k (BatchDone j vs) h = inl (ap Settle (eqb-true j k h))
of_commit k _ h = no h

pub of_prepare : (t a : ℕ) (r : LogRecord) → is_prepare t a r ≡ true → Has (of_record r) (Vouch t a)
of_prepare t a (ActPrepare u b state) h = inl (two_same Vouch u t b a h)
of_prepare t a _ h = no h

pub of_act_commit : (t : ℕ) (r : LogRecord) → is_act_commit t r ≡ true → Has (of_record r) (Seal t)
of_act_commit t (ActDone u m c v actors) h = inl (ap Seal (eqb-true u t h))
of_act_commit t _ h = no h

pub among_has : (t : ℕ) (ts : List ℕ) → is_among t ts ≡ true → Has ts t
among_has t ts h = let x = any_of (λ x. x == t) ts h in subst (Has ts) (eqb-true x.it t x.does) x.has

pub acts : {C : Type 0} (e : Event) (s t : Machine C) (u : ℕ) (f : Event) → Touched.changes_act e s u ≡ true → Has (on_act u t) f → Has (by_acts e s t) f
acts e s t u f h g = has_flat_map (λ u. on_act u t) (Touched.acts_changed e s) u f (among_has u (Touched.acts_changed e s) h) g

pub dooms : {C : Type 0} (e : Event) (s t : Machine C) (u : ℕ) (f : Event) → Touched.changes_doom e s u ≡ true → Has (on_doom u t) f → Has (by_doom e s t) f
dooms e s t u f h g = has_flat_map (λ u. on_doom u t) (Touched.doomed_changed e s) u f (among_has u (Touched.doomed_changed e s) h) g

pub prepared : {C : Type 0} (e : Event) (t : Machine C) (u a : ℕ) → Touched.changes_prepared e u a ≡ true → Has (by_votes e t) (Prepare u a) × Has (by_votes e t) (Vouch u a)
prepared (Prepare v b) t u a h = (inl (two_is Prepare v u b a h), inr (inl (two_is Vouch v u b a h)))
prepared _ t u a h = no h

pub vouched : {C : Type 0} (e : Event) (t : Machine C) (u a : ℕ) → Touched.changes_vouched e u a ≡ true → Has (by_votes e t) (Vouch u a)
vouched (Vouch v b) t u a h = inl (two_is Vouch v u b a h)
vouched _ t u a h = no h

pub votes : {C : Type 0} (e : Event) (t : Machine C) (u : ℕ) → Touched.changes_votes e u ≡ true → Has (by_votes e t) (Decide u)
votes (Vouch v b) t u h = inr (inl (ap Decide (eqb-true v u h)))
votes _ t u h = no h

pub finished : {C : Type 0} (e : Event) (t : Machine C) (u a : ℕ) → Touched.changes_finished e u a ≡ true → Has (by_votes e t) (Finish u a)
finished (Finish v b) t u a h = inl (two_is Finish v u b a h)
finished _ t u a h = no h

pub left : {C : Type 0} (e : Event) (t : Machine C) (u : ℕ) (f : Event) → Touched.changes_left e u ≡ true → Has (vouches_of u (act_of u t.book.acts)) f → Has (by_votes e t) f
left (Finish v b) t u f h g = inr (subst (λ n. Has (vouches_of n (act_of n t.book.acts)) f) (sym (eqb-true v u h)) g)
left _ t u f h g = no h

pub stages : {C : Type 0} (e : Event) (t : Machine C) (k : ℕ) (f : Event) → Touched.changes_stage e k ≡ true → Has (on_stage k t) f → Has (by_stage e t) f
stages (Form j) t k f h g = subst (λ n. Has (on_stage n t) f) (sym (eqb-true j k h)) g
stages (Commit j) t k f h g = subst (λ n. Has (on_stage n t) f) (sym (eqb-true j k h)) g
stages (Settle j) t k f h g = subst (λ n. Has (on_stage n t) f) (sym (eqb-true j k h)) g
stages _ t k f h g = no h

pub notes : (e : Event) (k a : ℕ) → Touched.changes_note e k a ≡ true → Has (by_marks e) (Note k a)
notes (Note j b) k a h = inl (two_same Note j k b a h)
notes _ k a h = no h

pub noted : (e : Event) (k : ℕ) → Touched.changes_noted e k ≡ true → Has (by_marks e) (Commit k)
noted (Note j b) k h = inr (inl (ap Commit (eqb-true j k h)))
noted _ k h = no h

pub trims : (e : Event) (k a : ℕ) → Touched.changes_trim e k a ≡ true → Has (by_marks e) (Trim k a)
trims (Trim j b) k a h = inl (two_same Trim j k b a h)
trims _ k a h = no h

pub results : {C : Type 0} (e : Event) (s : Machine C) (k : ℕ) (f : Event) → Touched.changes_results e s k ≡ true → Has (Commit k ∷ Abort k ∷ []) f → Has (by_results e s) f
results (End u a) s k f h g =
    let b = held (names_pact u) (batch_of k s.desk.batches) h in
    let r = found_in (λ b. b.bid == k) s.desk.batches b.it b.is in
    has_flat_map (λ b. Commit b.bid ∷ Abort b.bid ∷ []) (filter (names_pact u) s.desk.batches) b.it f (has_filter (names_pact u) s.desk.batches b.it r.0 b.does) (subst (λ n. Has (Commit n ∷ Abort n ∷ []) f) (sym (eqb-true b.it.bid k r.1)) g)
results _ s k f h g = no h

pub result : {C : Type 0} (w : Fixed C) (e : Event) (s t : Machine C) (u : ℕ) (f : Event) → Touched.changes_result w e s u ≡ true → Has (on_result u t) f → Has (by_result w e s t) f
result w (Form k) s t u f h g =
    let p = any_of (λ p. p.tid == u) (next_pacts w.text s.ring) h in
    has_flat_map (λ p. on_result p.tid t) (next_pacts w.text s.ring) p.it f p.has (subst (λ n. Has (on_result n t) f) (sym (eqb-true p.it.tid u p.does)) g)
result w (End v a) s t u f h g = subst (λ n. Has (on_result n t) f) (sym (eqb-true v u h)) g
result w _ s t u f h g = no h

pub replied : (e : Event) (n : ℕ) → Touched.changes_replied e n ≡ true → Has (by_replied e) (Reply n)
replied (Reply m) n h = inl (ap Reply (eqb-true m n h))
replied _ n h = no h

-- ---- verdicts

named : (t n : ℕ) (xs : List Act) → Touched.names_act t n xs ≡ true → Has (txs_named t xs) n
named t n xs h =
    let x = any_of (λ x. (x.tid == t) && (x.tx == n)) xs h in
    let q = and_parts (x.it.tid == t) (x.it.tx == n) x.does in
    subst (Has (txs_named t xs)) (eqb-true x.it.tx n q.1) (has_map (λ x. x.tx) (filter (λ x. x.tid == t) xs) x.it (has_filter (λ x. x.tid == t) xs x.it x.has q.0))

crossed : (n : ℕ) (xs : List Act) → Touched.has_crossed_act n xs ≡ true → Has (crossed_txs xs) n
crossed n xs h =
    let x = any_of (λ x. is_crossed x && (x.tx == n)) xs h in
    let q = and_parts (is_crossed x.it) (x.it.tx == n) x.does in
    subst (Has (crossed_txs xs)) (eqb-true x.it.tx n q.1) (has_map (λ x. x.tx) (filter is_crossed xs) x.it (has_filter is_crossed xs x.it x.has q.0))

asked : (n : ℕ) (o : Option ℕ) (group : List Lock) (t a m : ℕ) (b : Book) → Touched.asked_verdict o group t a m b n ≡ true → Has (asked_txs o group t a m b) n
asked n (Some older) group t a m b h = named t n b.acts h
asked n None group t a m b h = crossed n (raised (b.pairs ++ new_pairs t a group b.acts) (changed_act t (joins a m) b.acts)) h

in_pacts : (n : ℕ) (ps : List Pact) → list_any (λ p. p.tx == n) ps ≡ true → Has (map (λ p. p.tx) ps) n
in_pacts n ps h = let p = any_of (λ p. p.tx == n) ps h in subst (Has (map (λ p. p.tx) ps)) (eqb-true p.it.tx n p.does) (has_map (λ p. p.tx) ps p.it p.has)

in_some_pacts : (t n : ℕ) (ps : List Pact) → list_any (λ p. (p.tid == t) && (p.tx == n)) ps ≡ true → Has (map (λ p. p.tx) (filter (λ p. p.tid == t) ps)) n
in_some_pacts t n ps h =
    let p = any_of (λ p. (p.tid == t) && (p.tx == n)) ps h in
    let q = and_parts (p.it.tid == t) (p.it.tx == n) p.does in
    subst (Has (map (λ p. p.tx) (filter (λ p. p.tid == t) ps))) (eqb-true p.it.tx n q.1) (has_map (λ p. p.tx) (filter (λ p. p.tid == t) ps) p.it (has_filter (λ p. p.tid == t) ps p.it p.has q.0))

told : {C : Type 0} (w : Fixed C) (e : Event) (s : Machine C) (n : ℕ) → Touched.changes_verdict w e s n ≡ true → Has (told_txs w e s) n
told w (Form k) s n h = in_pacts n (next_pacts w.text s.ring) h
told w (Admit t) s n h = inl (eqb-true _ n h)
told w (Arrive k a) s n h = crossed n (map (lowered k (tids_on (cell_at s a).entries)) s.book.acts) h
told w (Ask t a) s n h = asked n _ _ t a _ s.book h
told w (End t a) s n h = elim (or_cases (Touched.has_pact_with (λ p. (p.tid == t) && (p.tx == n)) s.desk.batches) _ h) [ inl x ↦ pact x | inr y ↦ has_right _ _ n (named t n s.book.acts y) ]
  where
    pact : Touched.has_pact_with (λ p. (p.tid == t) && (p.tx == n)) s.desk.batches ≡ true → Has (told_txs w (End t a) s) n
    pact x =
        let b = any_of (λ b. list_any (λ p. (p.tid == t) && (p.tx == n)) b.pacts) s.desk.batches x in
        has_left _ _ n (has_flat_map (λ b. map (λ p. p.tx) (filter (λ p. p.tid == t) b.pacts)) s.desk.batches b.it n b.has (in_some_pacts t n b.it.pacts b.does))
told w (Settle k) s n h =
    let b = any_of (λ b. (b.bid == k) && list_any (λ p. p.tx == n) b.pacts) s.desk.batches h in
    let q = and_parts (b.it.bid == k) (list_any (λ p. p.tx == n) b.it.pacts) b.does in
    has_flat_map (λ b. map (λ p. p.tx) b.pacts) (filter (λ b. b.bid == k) s.desk.batches) b.it n (has_filter (λ b. b.bid == k) s.desk.batches b.it b.has q.0) (in_pacts n b.it.pacts q.1)
told w (Decide t) s n h = named t n s.book.acts h
told w (Seal t) s n h = named t n s.book.acts h
told w _ s n h = no h

pub verdicts : {C : Type 0} (w : Fixed C) (e : Event) (s : Machine C) (n : ℕ) → Touched.changes_verdict w e s n ≡ true → Has (by_verdict w e s) (Reply n)
verdicts w e s n h = has_map Reply (told_txs w e s) n (told w e s n h)
