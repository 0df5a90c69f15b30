-- The marks and records of batches, event by event.
use Rattle.std.specs.Prelude.{◌≡◌, refl, ℕ, zero, suc, ◌<◌, ◌%◌, ◌==◌, not, Bool, true, false, ◌&&◌, ◌||◌, ◌⊎◌, if◌then◌else◌, Option, Some, None, is_some, List, [], ◌∷◌, ◌++◌, map, find, slice_get, slice_index_or, slice_set}
use Rattle.std.specs.List.{AllByRecursion, list_any, list_all}
use Rattle.std.proofs.Common.{arith, sym, ap, subst, inl, inr, ◌∙◌}
use Rattle.std.proofs.lemmas.Bool.{eqb-true, and_parts, or_cases, or_left, or_right, true≢false, cases_Bool, false_from_ne_true}
use Rattle.protocol.specs.Cutting.{Ascends}
use Rattle.snap_base.proofs.Booleans.{or_false}
use Rattle.protocol.specs.Fixed.{Fixed, Next, Go, Ended}
use Rattle.protocol.specs.Records.{LogRecord, is_complete}
use Rattle.protocol.specs.Parts.{Act, Desk, Cascade, Who, OfBatch, OfAct, Batch, Declared, Committing, Settled, Entry, BatchEntry, ActEntry, Outcome, Log, Cell, Machine}
use Rattle.protocol.specs.Events.{Event, Form, Arrive, Ask, Run, Complete, End, Sync, Note, Commit, Settle, Abort, Rollback, Prepare, Decide, Finish, Trim}
use Rattle.protocol.specs.Words.{holds, who_on, is_who, is_value, is_aborted, is_formed, is_committing, is_durable, batch_of, is_batch_entry, is_complete_batch, has_act, outcome_of, act_of, value_of, lock_of}
use Rattle.protocol.specs.Conditions.{IsAllowed, conditions}
use Rattle.protocol.specs.Effects.{after, cell_at, log_at, no_cell, no_log, added, synced, act_commit}
use Rattle.protocol.specs.OnRing as ring
use Rattle.protocol.specs.OnBook as book
use Rattle.protocol.specs.OnDesk as desk
use Rattle.protocol.specs.OnCell as cell
use Rattle.protocol.specs.History.{History, Ran, Stands, Gone, grown, with_at, not_run, ran_in, completed, left_for_good, without_standing, long_staying, asks, kept_act, batches_in, batch_in, is_traceless}
use Rattle.protocol_laws.specs.Tracks.{key_of, keys_in, is_key_among}
use Rattle.protocol_laws.specs.Places.{FitsCell, Places}
use Rattle.protocol_laws.specs.Commits.{is_kept}
use Rattle.protocol_laws.specs.Marks.{is_done_as, is_done, IsAbortedOrDone, Marks, Recorded, Marked, Known}
use Rattle.protocol_laws.proofs.first.SettlingKeys as keys
use Rattle.protocol_laws.proofs.machine.TrackLists
use Rattle.protocol_laws.proofs.machine.TracksKept.{held, Tracked}
use Rattle.protocol_laws.proofs.machine.PlaceLists
use Rattle.protocol_laws.proofs.machine.PlacesKept.{Placed}
use Rattle.protocol_laws.proofs.first.Lists.{all_back, all_map, any_front, any_join, any_take, list_all_mapped, weaker}
use Rattle.protocol_laws.proofs.first.Statuses.{committing_not_formed, if_bid}
use Rattle.protocol_laws.proofs.machine.PlaceLists.{ascends_back}

-- ---- lists

any_map : {X : Type 0} (p : X → Bool) (f : X → X) (xs : List X) → ((x : X) → p x ≡ true → p (f x) ≡ true) → list_any p xs ≡ true → list_any p (map f xs) ≡ true
any_map p f [] k h = h
any_map p f (x ∷ xs) k h = elim (or_cases (p x) (list_any p xs) h) [ inl e ↦ or_left (p (f x)) (list_any p (map f xs)) (k x e) | inr e ↦ or_right (p (f x)) (list_any p (map f xs)) (any_map p f xs k e) ]

at_one : {X : Type 0} (P : ℕ → X → Type 0) (a b : ℕ) (new : X) (long : ℕ → X) → (P a (long a) → P a new) → P b (long b) → P b (with_at a new long b)
at_one P a b new long k h = elim (cases_Bool (b == a)) [
  | inl e ↦ let q : b ≡ a = eqb-true b a e in rw e (subst (λ z. P z new) (sym q) (k (subst (λ z. P z (long z)) q h)))
  | inr e ↦ rw e h
]

-- ---- what is over stays over

done_left : (k : ℕ) (who : Who) (r : Ran) → is_done_as k r ≡ true → is_done_as k (left_for_good who r) ≡ true
done_left k who (Stands y c ss) h = by (is_who y who)
  where
    by : (b : Bool) → is_done_as k (if b then Gone y ss else Stands y c ss) ≡ true
    by true = (and_parts c (is_who y (OfBatch k)) h).1
    by false = h
done_left k who (Gone y ss) h = h

done_completed : (k j : ℕ) (r : Ran) → is_done_as k r ≡ true → is_done_as k (completed j r) ≡ true
done_completed k j (Stands y c ss) h = let p = and_parts c (is_who y (OfBatch k)) h in rw (p.0, p.1) refl
done_completed k j (Gone y ss) h = h

done_ran : (k : ℕ) (who : Who) (x : Rattle.protocol.specs.History.Slice) (r : Ran) → is_done_as k r ≡ true → is_done_as k (ran_in who x r) ≡ true
done_ran k who x (Stands y c ss) h = h
done_ran k who x (Gone y ss) h = h

done_without : (k t : ℕ) (rs : List Ran) → is_done k rs ≡ true → is_done k (without_standing (OfAct t) rs) ≡ true
done_without k t [] h = h
done_without k t (Stands (OfBatch j) c ss ∷ rs) h = elim (or_cases (c && (j == k)) (is_done k rs) h) [ inl e ↦ or_left (c && (j == k)) _ e | inr e ↦ or_right (c && (j == k)) _ (done_without k t rs e) ]
done_without k t (Stands (OfAct u) c ss ∷ rs) h = by (u == t) (elim (or_cases (c && false) (is_done k rs) h) [ inl e ↦ absurd (true≢false (sym e ∙ no c)) | inr e ↦ done_without k t rs e ])
  where
    no : (c : Bool) → (c && false) ≡ false
    no true = refl
    no false = refl

    by : (b : Bool) → is_done k (without_standing (OfAct t) rs) ≡ true → is_done k (if b then without_standing (OfAct t) rs else Stands (OfAct u) c ss ∷ without_standing (OfAct t) rs) ≡ true
    by true g = g
    by false g = or_right (c && false) _ g
done_without k t (Gone y ss ∷ rs) h = elim (or_cases (is_who y (OfBatch k)) (is_done k rs) h) [ inl e ↦ or_left (is_who y (OfBatch k)) _ e | inr e ↦ or_right (is_who y (OfBatch k)) _ (done_without k t rs e) ]

of_who : (P : ℕ → Type 0) (k : ℕ) (y : Who) (ks : List ℕ) → is_who y (OfBatch k) ≡ true → AllByRecursion P (batch_in y ++ ks) → P k
of_who P k y ks e h = (subst (λ z. AllByRecursion P (batch_in z ++ ks)) (TrackLists.is_who_true y (OfBatch k) e) h).0

-- what holds of all batches holds of one that is done
pub at_done : (P : ℕ → Type 0) (k : ℕ) (rs : List Ran) → is_done k rs ≡ true → AllByRecursion P (batches_in rs) → P k
at_done P k [] e h = absurd (true≢false (sym e))
at_done P k (Stands y c ss ∷ rs) e h = elim (or_cases (c && is_who y (OfBatch k)) (is_done k rs) e) [
  | inl q ↦ of_who P k y (batches_in rs) (and_parts c (is_who y (OfBatch k)) q).1 h
  | inr q ↦ at_done P k rs q (all_back P (batch_in y) (batches_in rs) h)
]
at_done P k (Gone y ss ∷ rs) e h = elim (or_cases (is_who y (OfBatch k)) (is_done k rs) e) [
  | inl q ↦ of_who P k y (batches_in rs) q h
  | inr q ↦ at_done P k rs q (all_back P (batch_in y) (batches_in rs) h)
]

done_staying : (next ep tail k : ℕ) (cs : List Cascade) (rs : List Ran) → is_done k rs ≡ true → AllByRecursion (FitsCell next cs ep tail) (batches_in rs) → Ascends (batches_in rs) → IsAbortedOrDone k cs (long_staying cs rs)
done_staying next ep tail k cs [] e f a = inr e
done_staying next ep tail k cs (Gone y ss ∷ rs) e f a = elim (or_cases (is_who y (OfBatch k)) (is_done k rs) e) [
  | inl q ↦ inr (or_left (is_who y (OfBatch k)) _ q)
  | inr q ↦ elim (done_staying next ep tail k cs rs q (all_back (FitsCell next cs ep tail) (batch_in y) (batches_in rs) f) (ascends_back (batch_in y) (batches_in rs) a)) [ inl v ↦ inl v | inr v ↦ inr (or_right (is_who y (OfBatch k)) _ v) ]
]
done_staying next ep tail k cs (Stands (OfAct t) c ss ∷ rs) e f a = elim (or_cases (c && false) (is_done k rs) e) [
  | inl q ↦ absurd (true≢false (sym (and_parts c false q).1))
  | inr q ↦ elim (done_staying next ep tail k cs rs q f a) [ inl v ↦ inl v | inr v ↦ inr (or_right (c && false) _ v) ]
]
done_staying next ep tail k cs (Stands (OfBatch x) c ss ∷ rs) e f a = by (is_aborted x cs) refl (λ q. done_staying next ep tail k cs rs q f.1 a.1)
  where
    by : (b : Bool) → is_aborted x cs ≡ b → (is_done k rs ≡ true → IsAbortedOrDone k cs (long_staying cs rs)) → IsAbortedOrDone k cs (if b then [] else Stands (OfBatch x) c ss ∷ long_staying cs rs)
    by true g r = elim (or_cases (c && (x == k)) (is_done k rs) e) [
      | inl q ↦ inl (ap (λ z. is_aborted z cs) (sym (eqb-true x k (and_parts c (x == k) q).1)) ∙ g)
      | inr q ↦
          let m = at_done (FitsCell next cs ep tail) k rs q f.1 in
          inl (PlaceLists.suffix x k cs g (omega (arith, at_done (λ j. x < j) k rs q a.0)) (omega (arith, f.0.aborted g, m.placed)))
    ]
    by false g r = elim (or_cases (c && (x == k)) (is_done k rs) e) [
      | inl q ↦ inr (or_left (c && (x == k)) _ q)
      | inr q ↦ elim (r q) [ inl v ↦ inl v | inr v ↦ inr (or_right (c && (x == k)) _ v) ]
    ]

over_still : (k : ℕ) (cs : List Cascade) (rs rs' : List Ran) → (is_done k rs ≡ true → is_done k rs' ≡ true) → IsAbortedOrDone k cs rs → IsAbortedOrDone k cs rs'
over_still k cs rs rs' f (inl a) = inl a
over_still k cs rs rs' f (inr d) = inr (f d)

over_more : (k : ℕ) (cs : List Cascade) (rs ys : List Ran) → IsAbortedOrDone k cs rs → IsAbortedOrDone k cs (rs ++ ys)
over_more k cs rs ys h = over_still k cs rs (rs ++ ys) (any_front (is_done_as k) rs ys) h

over_map : (k : ℕ) (cs : List Cascade) (f : Ran → Ran) (rs : List Ran) → ((r : Ran) → is_done_as k r ≡ true → is_done_as k (f r) ≡ true) → IsAbortedOrDone k cs rs → IsAbortedOrDone k cs (map f rs)
over_map k cs f rs g h = over_still k cs rs (map f rs) (any_map (is_done_as k) f rs g) h

over_run : (k : ℕ) (cs : List Cascade) (who : Who) (x : Rattle.protocol.specs.History.Slice) (rs : List Ran) → IsAbortedOrDone k cs rs → IsAbortedOrDone k cs (map (ran_in who x) rs)
over_run k cs who x rs h = over_map k cs (ran_in who x) rs (done_ran k who x) h

over_finish : (k : ℕ) (cs : List Cascade) (t : ℕ) (q : Bool) (rs : List Ran) → IsAbortedOrDone k cs rs → IsAbortedOrDone k cs (if q then without_standing (OfAct t) rs else map (left_for_good (OfAct t)) rs)
over_finish k cs t true rs h = over_still k cs rs (without_standing (OfAct t) rs) (done_without k t rs) h
over_finish k cs t false rs h = over_map k cs (left_for_good (OfAct t)) rs (done_left k (OfAct t)) h

pub over_stays : {C : Type 0} (w : Fixed C) (e : Event) (s : Machine C) (h : History) → Placed w s h → (k a : ℕ) → IsAbortedOrDone k s.book.cascades (h.long a) → IsAbortedOrDone k (after w e s).book.cascades ((grown w e s h).long a)
unfolding Placed after grown
over_stays w (Arrive j b) s h p k a o = at_one (λ c long. IsAbortedOrDone k s.book.cascades long) b a _ h.long (over_more k s.book.cascades (h.long b) (map not_run (OfBatch j ∷ []))) o
over_stays w (Ask t b) s h p k a o = at_one (λ c long. IsAbortedOrDone k s.book.cascades long) b a _ h.long (over_more k s.book.cascades (h.long b) (map not_run (asks t (book.in_the_way (lock_of t s.book.acts) (cell_at s b).entries)))) o
over_stays w (Run t b) s h p k a o = at_one (λ c long. IsAbortedOrDone k s.book.cascades long) b a _ h.long (TrackLists.on_reads (IsAbortedOrDone k s.book.cascades) (cell.reads_on t (cell_at s b).entries) _ _ (h.long b) (over_run k s.book.cascades (who_on t (cell_at s b).entries) (record { tid = t; found = (cell_at s b).state; left = (cell.slice_run w.code t b (cell_at s b)).state }) (h.long b))) o
over_stays w (Complete j b) s h p k a o = at_one (λ c long. IsAbortedOrDone k s.book.cascades long) b a _ h.long (over_map k s.book.cascades (completed j) (h.long b) (done_completed k j)) o
over_stays w (Abort j) s h p k a (inl q) = inl (keys.aborted_more k s.book.cascades _ ∙ or_left (is_aborted k s.book.cascades) _ q)
over_stays w (Abort j) s h p k a (inr q) = inr q
over_stays w (Rollback b) s h p k a o = at_one (λ c long. IsAbortedOrDone k s.book.cascades long) b a _ h.long (by (h.long b) (p b)) o
  where
    by : (rs : List Ran) → Places s.ring.next_bid s.desk.settled s.book.cascades (cell_at s b).epoch (cell_at s b).tail rs → IsAbortedOrDone k s.book.cascades rs → IsAbortedOrDone k s.book.cascades (long_staying s.book.cascades rs)
    by rs g (inl q) = inl q
    by rs g (inr q) = done_staying s.ring.next_bid (cell_at s b).epoch (cell_at s b).tail k s.book.cascades rs q g.fit g.ascends
over_stays w (Finish t b) s h p k a o = at_one (λ c long. IsAbortedOrDone k s.book.cascades long) b a _ h.long (over_finish k s.book.cascades t (is_traceless (act_of t s.book.acts)) (h.long b)) o
over_stays w (Trim j b) s h p k a o = at_one (λ c long. IsAbortedOrDone k s.book.cascades long) b a _ h.long (over_map k s.book.cascades (left_for_good (OfBatch j)) (h.long b) (done_left k (OfBatch j))) o
over_stays w e s h p k a o = o

-- ---- records

log_added : (p : LogRecord → Bool) (rs : List LogRecord) (logs : List Log) (l m : ℕ) → list_any p (slice_index_or (slice_set logs l (added rs (slice_index_or logs l no_log))) m no_log).records ≡ true
    → (list_any p (slice_index_or logs m no_log).records ≡ true) ⊎ (list_any p rs ≡ true)
log_added p rs [] l m h = inl h
log_added p rs (x ∷ xs) zero zero h = any_join p x.records rs h
log_added p rs (x ∷ xs) zero (suc m) h = inl h
log_added p rs (x ∷ xs) (suc l) zero h = inl h
log_added p rs (x ∷ xs) (suc l) (suc m) h = log_added p rs xs l m h

pub log_synced : (logs : List Log) (l m : ℕ) → (slice_index_or (slice_set logs l (synced (slice_index_or logs l no_log))) m no_log).records ≡ (slice_index_or logs m no_log).records
log_synced [] l m = refl
log_synced (x ∷ xs) zero zero = refl
log_synced (x ∷ xs) zero (suc m) = refl
log_synced (x ∷ xs) (suc l) zero = refl
log_synced (x ∷ xs) (suc l) (suc m) = log_synced xs l m

none_complete : (k a c : ℕ) (o : Option Act) → list_any (is_complete k a) (act_commit c o) ≡ false
none_complete k a c None = refl
none_complete k a c (Some x) = by (is_value x.result)
  where
    by : (b : Bool) → list_any (is_complete k a) (if b then Rattle.protocol.specs.Records.ActDone x.tid x.m c (value_of x.result) (Rattle.protocol.specs.Effects.ascending (map (λ p. p.actor) x.places)) ∷ [] else []) ≡ false
    by true = refl
    by false = refl

batch_among : (k : ℕ) (p : Entry → Bool) (es : List Entry) → holds p (find (is_batch_entry k) es) ≡ true → is_key_among (OfBatch k) (map key_of es) ≡ true
batch_among k p [] h = absurd (true≢false (sym h))
batch_among k p (BatchEntry b ∷ es) h = by (b.bid == k) h (batch_among k p es)
  where
    by : (q : Bool) → holds p (if q then Some (BatchEntry b) else find (is_batch_entry k) es) ≡ true → (holds p (find (is_batch_entry k) es) ≡ true → is_key_among (OfBatch k) (map key_of es) ≡ true) → (q || is_key_among (OfBatch k) (map key_of es)) ≡ true
    by true g r = refl
    by false g r = r g
batch_among k p (ActEntry x ∷ es) h = batch_among k p es h

now_done : (k : ℕ) (rs : List Ran) → is_key_among (OfBatch k) (keys_in rs) ≡ true → is_done k (map (completed k) rs) ≡ true
now_done k [] h = h
now_done k (Stands y c ss ∷ rs) h = elim (or_cases (is_who y (OfBatch k)) (is_key_among (OfBatch k) (keys_in rs)) h) [
  | inl e ↦ or_left _ (is_done k (map (completed k) rs)) (rw (e, or_right c true refl) refl)
  | inr e ↦ or_right ((c || is_who y (OfBatch k)) && is_who y (OfBatch k)) _ (now_done k rs e)
]
now_done k (Gone y ss ∷ rs) h = or_right (is_who y (OfBatch k)) _ (now_done k rs h)

pub recorded_kept : {C : Type 0} (w : Fixed C) (e : Event) (s : Machine C) (h : History) → IsAllowed w e s → Placed w s h → Tracked w s h → Recorded w s h → Recorded w (after w e s) (grown w e s h)
unfolding Recorded Tracked conditions after grown
recorded_kept w (Form j) s h ok p t r k a q = elim (log_added (is_complete k a) _ s.logs (j % w.text.logs) (a % w.text.logs) q) [ inl v ↦ r k a v | inr v ↦ absurd (true≢false (sym v)) ]
recorded_kept w (Commit j) s h ok p t r k a q = elim (log_added (is_complete k a) _ s.logs (j % w.text.logs) (a % w.text.logs) q) [ inl v ↦ r k a v | inr v ↦ absurd (true≢false (sym v)) ]
recorded_kept w (Prepare u b) s h ok p t r k a q = elim (log_added (is_complete k a) _ s.logs (b % w.text.logs) (a % w.text.logs) q) [ inl v ↦ r k a v | inr v ↦ absurd (true≢false (sym v)) ]
recorded_kept w (Decide u) s h ok p t r k a q = elim (log_added (is_complete k a) _ s.logs (u % w.text.logs) (a % w.text.logs) q) [ inl v ↦ r k a v | inr v ↦ absurd (true≢false (sym v ∙ none_complete k a s.book.next_c (act_of u s.book.acts))) ]
recorded_kept w (Sync l) s h ok p t r k a q = r k a (sym (ap (list_any (is_complete k a)) (log_synced s.logs l (a % w.text.logs))) ∙ q)
recorded_kept w (Complete j b) s h ok p t r k a q = elim (log_added (is_complete k a) _ s.logs (b % w.text.logs) (a % w.text.logs) q) [
  | inl v ↦ over_stays w (Complete j b) s h p k a (r k a v)
  | inr v ↦ elim (or_cases ((j == k) && (b == a)) false v) [
    | inl u ↦ let x = and_parts (j == k) (b == a) u in new (eqb-true j k x.0) (eqb-true b a x.1)
    | inr u ↦ absurd (true≢false (sym u))
  ]
]
  where
    self : (n : ℕ) → (n == n) ≡ true
    self n = Rattle.std.proofs.lemmas.Bool.eq-eqb n n refl

    new : j ≡ k → b ≡ a → IsAbortedOrDone k s.book.cascades (with_at b (map (completed j) (h.long b)) h.long a)
    new e f = subst (λ z. IsAbortedOrDone k s.book.cascades (with_at b (map (completed j) (h.long b)) h.long z)) f (rw (self b) (subst (λ z. IsAbortedOrDone z s.book.cascades (map (completed j) (h.long b))) e
        (inr (now_done j (h.long b) (ap (is_key_among (OfBatch j)) (sym (t b).stands) ∙ batch_among j (λ e. not (is_complete_batch e)) (cell_at s b).entries (held (λ c. holds (λ e. not (is_complete_batch e)) (find (is_batch_entry j) c.entries)) s.cells b no_cell ok.0))))))
recorded_kept w e s h ok p t r k a q = over_stays w e s h p k a (r k a q)

-- ---- the desk's batches by number

pub found_bid : (k : ℕ) (b : Batch) (bs : List Batch) → batch_of k bs ≡ Some b → (b.bid == k) ≡ true
found_bid k b [] e = absurd (cc e)
found_bid k b (x ∷ bs) e = by (x.bid == k) refl e (found_bid k b bs)
  where
    by : (q : Bool) → (x.bid == k) ≡ q → (if q then Some x else batch_of k bs) ≡ Some b → (batch_of k bs ≡ Some b → (b.bid == k) ≡ true) → (b.bid == k) ≡ true
    by true f e r = let g : x ≡ b = cc e in subst (λ z. (z.bid == k) ≡ true) g f
    by false f e r = r e

pub found_mapped : (f : Batch → Batch) → ((b : Batch) → (f b).bid ≡ b.bid) → (k : ℕ) (c : Batch) (bs : List Batch) → batch_of k (map f bs) ≡ Some c → (b : Batch) × (batch_of k bs ≡ Some b) × (f b ≡ c)
found_mapped f i k c [] e = absurd (cc e)
found_mapped f i k c (x ∷ bs) e = by (x.bid == k) (subst (λ z. (if z == k then Some (f x) else batch_of k (map f bs)) ≡ Some c) (i x) e) (found_mapped f i k c bs)
  where
    by : (q : Bool) → (if q then Some (f x) else batch_of k (map f bs)) ≡ Some c → (batch_of k (map f bs) ≡ Some c → (b : Batch) × (batch_of k bs ≡ Some b) × (f b ≡ c)) → (b : Batch) × ((if q then Some x else batch_of k bs) ≡ Some b) × (f b ≡ c)
    by true e r = (x, refl, cc e)
    by false e r = r e

some_mapped : (f : Batch → Batch) → ((b : Batch) → (f b).bid ≡ b.bid) → (k : ℕ) (bs : List Batch) → is_some (batch_of k (map f bs)) ≡ is_some (batch_of k bs)
some_mapped f i k [] = refl
some_mapped f i k (x ∷ bs) = subst (λ z. is_some (if z == k then Some (f x) else batch_of k (map f bs)) ≡ is_some (if x.bid == k then Some x else batch_of k bs)) (sym (i x)) (by (x.bid == k) (some_mapped f i k bs))
  where
    by : (q : Bool) → is_some (batch_of k (map f bs)) ≡ is_some (batch_of k bs) → is_some (if q then Some (f x) else batch_of k (map f bs)) ≡ is_some (if q then Some x else batch_of k bs)
    by true h = refl
    by false h = h

pub found_more : (k : ℕ) (c n : Batch) (bs : List Batch) → batch_of k (bs ++ n ∷ []) ≡ Some c → (batch_of k bs ≡ Some c) ⊎ ((batch_of k bs ≡ None) × (n ≡ c))
found_more k c n [] e = by (n.bid == k) e
  where
    by : (q : Bool) → (if q then Some n else None) ≡ Some c → (None ≡ Some c) ⊎ ((batch_of k [] ≡ None) × (n ≡ c))
    by true e = inr (refl, cc e)
    by false e = absurd (cc e)
found_more k c n (x ∷ bs) e = by (x.bid == k) e (found_more k c n bs)
  where
    by : (q : Bool) → (if q then Some x else batch_of k (bs ++ n ∷ [])) ≡ Some c → (batch_of k (bs ++ n ∷ []) ≡ Some c → (batch_of k bs ≡ Some c) ⊎ ((batch_of k bs ≡ None) × (n ≡ c))) → ((if q then Some x else batch_of k bs) ≡ Some c) ⊎ (((if q then Some x else batch_of k bs) ≡ None) × (n ≡ c))
    by true e r = inl e
    by false e r = r e

some_more : (k : ℕ) (n : Batch) (bs : List Batch) → is_some (batch_of k bs) ≡ true → is_some (batch_of k (bs ++ n ∷ [])) ≡ true
some_more k n [] h = absurd (true≢false (sym h))
some_more k n (x ∷ bs) h = by (x.bid == k) h (some_more k n bs)
  where
    by : (q : Bool) → is_some (if q then Some x else batch_of k bs) ≡ true → (is_some (batch_of k bs) ≡ true → is_some (batch_of k (bs ++ n ∷ [])) ≡ true) → is_some (if q then Some x else batch_of k (bs ++ n ∷ [])) ≡ true
    by true h r = refl
    by false h r = r h

-- ---- marks

-- another state of the long schedules and of who is kept
pub carried : (cs ds : List Cascade) (long long' : ℕ → List Ran) (kept kept' : List Who) (k : ℕ) (b : Batch) → ((a : ℕ) → IsAbortedOrDone k cs (long a) → IsAbortedOrDone k ds (long' a)) → is_kept (OfBatch k) kept' ≡ is_kept (OfBatch k) kept → Marks cs long kept k b → Marks ds long' kept' k b
carried cs ds long long' kept kept' k b f e h = record { noted = weaker _ _ b.places (λ p g n. f p.actor (g n)) h.noted; all_noted = h.all_noted; known = e ∙ h.known }

-- a batch with the same places and stage
same_batch : (cs : List Cascade) (long : ℕ → List Ran) (kept : List Who) (k : ℕ) (b c : Batch) → c.places ≡ b.places → c.stage ≡ b.stage → Marks cs long kept k b → Marks cs long kept k c
same_batch cs long kept k b c e f h = record { noted = rw e h.noted; all_noted = λ q. rw e (h.all_noted (sym (ap is_formed f) ∙ q)); known = h.known ∙ sym (ap (λ z. not (is_formed z)) f) }

new_places : (cs : List Cascade) (long : ℕ → List Ran) (k : ℕ) (xs : List ℕ) → AllByRecursion (λ p. p.noted ≡ true → IsAbortedOrDone k cs (long p.actor)) (map desk.new_declared xs)
new_places cs long k [] = tt
new_places cs long k (x ∷ xs) = (λ q. absurd (true≢false (sym q)), new_places cs long k xs)

kept_end : (k : ℕ) (who : Who) (kept : List Who) → is_kept (OfBatch k) (kept ++ who ∷ []) ≡ (is_kept (OfBatch k) kept || is_who who (OfBatch k))
kept_end k who [] = or_false (is_who who (OfBatch k))
kept_end k who (x ∷ xs) = rw (kept_end k who xs) (by (is_who x (OfBatch k)))
  where
    by : (b : Bool) → (b || (is_kept (OfBatch k) xs || is_who who (OfBatch k))) ≡ ((b || is_kept (OfBatch k) xs) || is_who who (OfBatch k))
    by true = refl
    by false = refl

-- a batch is committing
committing : (cs : List Cascade) (long : ℕ → List Ran) (kept : List Who) (j k : ℕ) (b : Batch) (q : Bool) → (k == j) ≡ q → (k ≡ j → list_all (λ p. p.noted) b.places ≡ true) → Marks cs long kept j b → Marks cs long (kept ++ OfBatch k ∷ []) j (desk.change_if q (desk.with_stage Committing) b)
committing cs long kept j k b true e n h = record { noted = h.noted; all_noted = λ q. n (eqb-true k j e); known = kept_end j (OfBatch k) kept ∙ or_right (is_kept (OfBatch j) kept) (k == j) e }
committing cs long kept j k b false e n h = record { noted = h.noted; all_noted = h.all_noted; known = kept_end j (OfBatch k) kept ∙ (rw (e, or_false (is_kept (OfBatch j) kept)) h.known) }

settling : (cs : List Cascade) (long : ℕ → List Ran) (kept : List Who) (j k : ℕ) (b : Batch) (q : Bool) → (k == j) ≡ q → (k ≡ j → is_formed b.stage ≡ false) → Marks cs long kept j b → Marks cs long kept j (desk.change_if q (desk.with_stage Settled) b)
settling cs long kept j k b true e n h = let f = n (eqb-true k j e) in record { noted = h.noted; all_noted = λ q. h.all_noted f; known = h.known ∙ ap not f }
settling cs long kept j k b false e n h = h

note_one : (cs : List Cascade) (long : ℕ → List Ran) (j a : ℕ) (q : Bool) (p : Declared) → (p.actor == a) ≡ q → IsAbortedOrDone j cs (long a) → (p.noted ≡ true → IsAbortedOrDone j cs (long p.actor)) → ((desk.mark_if q desk.is_noted p).noted ≡ true → IsAbortedOrDone j cs (long (desk.mark_if q desk.is_noted p).actor))
note_one cs long j a true p e o h = λ v. subst (λ z. IsAbortedOrDone j cs (long z)) (sym (eqb-true p.actor a e)) o
note_one cs long j a false p e o h = h

noted_more : (q : Bool) (p : Declared) → p.noted ≡ true → (desk.mark_if q desk.is_noted p).noted ≡ true
noted_more true p h = refl
noted_more false p h = h

noting : (cs : List Cascade) (long : ℕ → List Ran) (kept : List Who) (j k a : ℕ) (b : Batch) (q : Bool) → (k == j) ≡ q → (k ≡ j → IsAbortedOrDone j cs (long a)) → Marks cs long kept j b → Marks cs long kept j (desk.change_if q (desk.marked a desk.is_noted) b)
noting cs long kept j k a b true e o h = record {
  noted = all_map _ _ _ b.places (λ p g. note_one cs long j a (p.actor == a) p refl (o (eqb-true k j e)) g) h.noted;
  all_noted = λ q. list_all_mapped (λ p. p.noted) _ b.places (λ p g. noted_more (p.actor == a) p g) (h.all_noted q);
  known = h.known;
}
noting cs long kept j k a b false e o h = h

trim_one : (cs : List Cascade) (long : ℕ → List Ran) (j : ℕ) (q : Bool) (p : Declared) → (p.noted ≡ true → IsAbortedOrDone j cs (long p.actor)) → ((desk.mark_if q desk.is_trimmed p).noted ≡ true → IsAbortedOrDone j cs (long (desk.mark_if q desk.is_trimmed p).actor))
trim_one cs long j true p h = h
trim_one cs long j false p h = h

trim_noted : (q : Bool) (p : Declared) → p.noted ≡ true → (desk.mark_if q desk.is_trimmed p).noted ≡ true
trim_noted true p h = h
trim_noted false p h = h

trimming : (cs : List Cascade) (long : ℕ → List Ran) (kept : List Who) (j a : ℕ) (b : Batch) (q : Bool) → Marks cs long kept j b → Marks cs long kept j (desk.change_if q (desk.marked a desk.is_trimmed) b)
trimming cs long kept j a b true h = record {
  noted = all_map _ _ _ b.places (λ p g. trim_one cs long j (p.actor == a) p g) h.noted;
  all_noted = λ q. list_all_mapped (λ p. p.noted) _ b.places (λ p g. trim_noted (p.actor == a) p g) (h.all_noted q);
  known = h.known;
}
trimming cs long kept j a b false h = h

-- results leave places and stages
record SamePlaces (j : ℕ) (bs : List Batch) (c : Batch) : Type 0 where
  old : Batch
  is_it : batch_of j bs ≡ Some old
  places : c.places ≡ old.places
  stage : c.stage ≡ old.stage

ended : {C : Type 0} (j t : ℕ) (c : Cell C) (d : Desk) (b : Batch) → batch_of j (desk.pact_ended t (has_act t c.entries) (outcome_of t c.outbox) d).batches ≡ Some b → SamePlaces j d.batches b
ended {C} j t c d b e = by (has_act t c.entries) (outcome_of t c.outbox) e
  where
    next : (n : Next C) → batch_of j (desk.noted_for t n d.batches) ≡ Some b → SamePlaces j d.batches b
    next (Go a x) e = record { old = b; is_it = e; places = refl; stage = refl }
    next (Ended r) e = let g = found_mapped (desk.with_results t r) (λ b. refl) j b d.batches e in record { old = g.0; is_it = g.1; places = ap (λ z. z.places) (sym g.2); stage = ap (λ z. z.stage) (sym g.2) }

    by : (q : Bool) (o : Option (Outcome C)) → batch_of j (if q then d.batches else desk.noted_from t o d.batches) ≡ Some b → SamePlaces j d.batches b
    by true o e = record { old = b; is_it = e; places = refl; stage = refl }
    by false None e = record { old = b; is_it = e; places = refl; stage = refl }
    by false (Some x) e = next x.next e

turn : (j k : ℕ) → (k == j) ≡ (j == k)
turn j k = TrackLists.is_who_sym (OfBatch k) (OfBatch j)

-- what the conditions say of the batch that is found
pub held_of : (p : Batch → Bool) (k j : ℕ) (b : Batch) (bs : List Batch) → batch_of j bs ≡ Some b → holds p (batch_of k bs) ≡ true → k ≡ j → p b ≡ true
held_of p k j b bs e h q = subst (λ o. holds p o ≡ true) (ap (λ z. batch_of z bs) q ∙ e) h

durable : (p : LogRecord → Bool) (logs : List Log) (l : ℕ) → holds (is_durable p) (slice_get logs l) ≡ true → list_any p (slice_index_or logs l no_log).records ≡ true
durable p logs l h = let g = held (is_durable p) logs l no_log h in any_take p (slice_index_or logs l no_log).synced (slice_index_or logs l no_log).records g

decided_same : (k : ℕ) (kept : List Who) (o : Option Act) → is_kept (OfBatch k) (kept ++ kept_act o) ≡ is_kept (OfBatch k) kept
decided_same k kept None = ap (is_kept (OfBatch k)) (Rattle.std.proofs.lemmas.List.append-nil kept)
decided_same k kept (Some x) = by (is_value x.result && not x.reader)
  where
    by : (q : Bool) → is_kept (OfBatch k) (kept ++ (if q then OfAct x.tid ∷ [] else [])) ≡ is_kept (OfBatch k) kept
    by true = kept_end k (OfAct x.tid) kept ∙ or_false (is_kept (OfBatch k) kept)
    by false = ap (is_kept (OfBatch k)) (Rattle.std.proofs.lemmas.List.append-nil kept)

pub marked_kept : {C : Type 0} (w : Fixed C) (e : Event) (s : Machine C) (h : History) → IsAllowed w e s → Placed w s h → Recorded w s h → Known s h → Marked s h → Marked (after w e s) (grown w e s h)
unfolding Marked Recorded Known conditions after grown
marked_kept w (Form k) s h ok p r n m j b e = elim (found_more j b (desk.new_batch k (ring.next_actors w.text s.ring) (ring.next_pacts w.text s.ring)) s.desk.batches e) [
  | inl q ↦ m j b q
  | inr q ↦ subst (λ z. Marks s.book.cascades h.long h.kept j z) q.1 (record {
    noted = new_places s.book.cascades h.long j (ring.next_actors w.text s.ring);
    all_noted = λ v. absurd (true≢false v);
    known = false_from_ne_true (is_kept (OfBatch j) h.kept) (λ v. true≢false (sym (n j v) ∙ ap is_some q.0));
  })
]
marked_kept w (End t a) s h ok p r n m j b e = let g = ended j t (cell_at s a) s.desk b e in same_batch s.book.cascades h.long h.kept j g.old b g.places g.stage (m j g.old g.is_it)
marked_kept w (Note k a) s h ok p r n m j b e =
    let g = found_mapped (λ b. desk.change_if (b.bid == k) (desk.marked a desk.is_noted) b) (λ b. if_bid (b.bid == k) (desk.marked a desk.is_noted) b refl) j b s.desk.batches e in
    let i : g.0.bid ≡ j = eqb-true g.0.bid j (found_bid j g.0 s.desk.batches g.1) in
    subst (λ z. Marks s.book.cascades h.long h.kept j z) (ap (λ z. desk.change_if (z == k) (desk.marked a desk.is_noted) g.0) (sym i) ∙ g.2)
    (noting s.book.cascades h.long h.kept j k a g.0 (j == k) (turn j k) (λ q. r j a (subst (λ z. list_any (is_complete z a) (log_at s (a % w.text.logs)).records ≡ true) q (durable (is_complete k a) s.logs (a % w.text.logs) ok.1.0))) (m j g.0 g.1))
marked_kept w (Commit k) s h ok p r n m j b e =
    let g = found_mapped (λ b. desk.change_if (b.bid == k) (desk.with_stage Committing) b) (λ b. if_bid (b.bid == k) (desk.with_stage Committing) b refl) j b s.desk.batches e in
    let i : g.0.bid ≡ j = eqb-true g.0.bid j (found_bid j g.0 s.desk.batches g.1) in
    subst (λ z. Marks s.book.cascades h.long (h.kept ++ OfBatch k ∷ []) j z) (ap (λ z. desk.change_if (z == k) (desk.with_stage Committing) g.0) (sym i) ∙ g.2)
    (committing s.book.cascades h.long h.kept j k g.0 (j == k) (turn j k) (held_of (λ b. list_all (λ p. p.noted) b.places) k j g.0 s.desk.batches g.1 ok.1.1.0) (m j g.0 g.1))
marked_kept w (Settle k) s h ok p r n m j b e =
    let g = found_mapped (λ b. desk.change_if (b.bid == k) (desk.with_stage Settled) b) (λ b. if_bid (b.bid == k) (desk.with_stage Settled) b refl) j b s.desk.batches e in
    let i : g.0.bid ≡ j = eqb-true g.0.bid j (found_bid j g.0 s.desk.batches g.1) in
    subst (λ z. Marks s.book.cascades h.long h.kept j z) (ap (λ z. desk.change_if (z == k) (desk.with_stage Settled) g.0) (sym i) ∙ g.2)
    (settling s.book.cascades h.long h.kept j k g.0 (j == k) (turn j k) (λ q. committing_not_formed g.0.stage (and_parts (is_committing g.0.stage) (not g.0.aborted) (held_of (λ b. is_committing b.stage && not b.aborted) k j g.0 s.desk.batches g.1 ok.0 q)).0) (m j g.0 g.1))
marked_kept w (Abort k) s h ok p r n m j b e =
    let g = found_mapped (desk.taken k) (λ b. refl) j b s.desk.batches e in
    carried s.book.cascades _ h.long h.long h.kept h.kept j b (λ a o. over_stays w (Abort k) s h p j a o) refl (same_batch s.book.cascades h.long h.kept j g.0 b (ap (λ z. z.places) (sym g.2)) (ap (λ z. z.stage) (sym g.2)) (m j g.0 g.1))
marked_kept w (Trim k a) s h ok p r n m j b e =
    let g = found_mapped (λ b. desk.change_if (b.bid == k) (desk.marked a desk.is_trimmed) b) (λ b. if_bid (b.bid == k) (desk.marked a desk.is_trimmed) b refl) j b s.desk.batches e in
    carried s.book.cascades s.book.cascades h.long _ h.kept h.kept j b (λ c o. over_stays w (Trim k a) s h p j c o) refl (subst (λ z. Marks s.book.cascades h.long h.kept j z) g.2 (trimming s.book.cascades h.long h.kept j a g.0 (g.0.bid == k) (m j g.0 g.1)))
marked_kept w (Decide t) s h ok p r n m j b e = carried s.book.cascades s.book.cascades h.long h.long h.kept _ j b (λ a o. o) (decided_same j h.kept (act_of t s.book.acts)) (m j b e)
marked_kept w (Arrive k a) s h ok p r n m j b e = carried s.book.cascades s.book.cascades h.long _ h.kept h.kept j b (λ c o. over_stays w (Arrive k a) s h p j c o) refl (m j b e)
marked_kept w (Ask t a) s h ok p r n m j b e = carried s.book.cascades s.book.cascades h.long _ h.kept h.kept j b (λ c o. over_stays w (Ask t a) s h p j c o) refl (m j b e)
marked_kept w (Run t a) s h ok p r n m j b e = carried s.book.cascades s.book.cascades h.long _ h.kept h.kept j b (λ c o. over_stays w (Run t a) s h p j c o) refl (m j b e)
marked_kept w (Complete k a) s h ok p r n m j b e = carried s.book.cascades s.book.cascades h.long _ h.kept h.kept j b (λ c o. over_stays w (Complete k a) s h p j c o) refl (m j b e)
marked_kept w (Rollback a) s h ok p r n m j b e = carried s.book.cascades s.book.cascades h.long _ h.kept h.kept j b (λ c o. over_stays w (Rollback a) s h p j c o) refl (m j b e)
marked_kept w (Finish t a) s h ok p r n m j b e = carried s.book.cascades s.book.cascades h.long _ h.kept h.kept j b (λ c o. over_stays w (Finish t a) s h p j c o) refl (m j b e)
marked_kept w e s h ok p r n m j b q = m j b q

pub known_kept : {C : Type 0} (w : Fixed C) (e : Event) (s : Machine C) (h : History) → IsAllowed w e s → Known s h → Known (after w e s) (grown w e s h)
unfolding Known conditions after grown
known_kept w (Form k) s h ok n j q = some_more j _ s.desk.batches (n j q)
known_kept {C} w (End t a) s h ok n j q = by (has_act t (cell_at s a).entries) (outcome_of t (cell_at s a).outbox)
  where
    next : (x : Next C) → is_some (batch_of j (desk.noted_for t x s.desk.batches)) ≡ true
    next (Go a x) = n j q
    next (Ended r) = some_mapped (desk.with_results t r) (λ b. refl) j s.desk.batches ∙ n j q

    by : (v : Bool) (o : Option (Outcome C)) → is_some (batch_of j (if v then s.desk.batches else desk.noted_from t o s.desk.batches)) ≡ true
    by true o = n j q
    by false None = n j q
    by false (Some x) = next x.next
known_kept w (Note k a) s h ok n j q = some_mapped _ (λ b. if_bid (b.bid == k) (desk.marked a desk.is_noted) b refl) j s.desk.batches ∙ n j q
known_kept w (Commit k) s h ok n j q = some_mapped _ (λ b. if_bid (b.bid == k) (desk.with_stage Committing) b refl) j s.desk.batches ∙ elim (or_cases (is_kept (OfBatch j) h.kept) (k == j) (sym (kept_end j (OfBatch k) h.kept) ∙ q)) [
  | inl v ↦ n j v
  | inr v ↦ subst (λ z. is_some (batch_of z s.desk.batches) ≡ true) (eqb-true k j v) (some_held _ (batch_of k s.desk.batches) ok.0)
]
  where
    some_held : {X : Type 0} (p : X → Bool) (o : Option X) → holds p o ≡ true → is_some o ≡ true
    some_held p None h = absurd (true≢false (sym h))
    some_held p (Some x) h = refl
known_kept w (Settle k) s h ok n j q = some_mapped _ (λ b. if_bid (b.bid == k) (desk.with_stage Settled) b refl) j s.desk.batches ∙ n j q
known_kept w (Abort k) s h ok n j q = some_mapped (desk.taken k) (λ b. refl) j s.desk.batches ∙ n j q
known_kept w (Trim k a) s h ok n j q = some_mapped _ (λ b. if_bid (b.bid == k) (desk.marked a desk.is_trimmed) b refl) j s.desk.batches ∙ n j q
known_kept w (Decide t) s h ok n j q = n j (sym (decided_same j h.kept (act_of t s.book.acts)) ∙ q)
known_kept w e s h ok n j q = n j q
