-- What may go on at an actor, by its cell, and what an event there leaves as it was.
use Rattle.std.specs.Prelude.{◌≡◌, refl, ℕ, zero, suc, ◌==◌, not, Bool, true, false, ◌&&◌, ◌||◌, if◌then◌else◌, is_some, Option, Some, None, List, [], ◌∷◌, ◌++◌, map, filter, find, slice_get, slice_set, slice_index_or, Contains}
use Rattle.std.specs.List.{flat_map, list_all, list_any}
use Rattle.std.specs.Option.{option_and_then}
use Rattle.std.proofs.Common.{sym, ap, subst, inl, inr, ◌∙◌}
use Rattle.std.proofs.lemmas.Bool.{true≢false, and_from, and_parts, eqb-true, eq-eqb, or_cases, or_left, or_right}
use Rattle.std.proofs.lemmas.List.Elements.{Contains-append_left, Contains-append_right}
use Rattle.aml_slice.specs.Controls.{Rest}
use Rattle.listing_facts.specs.hybrid_schedule.Listed.{completable_on, done_bid, first_open, undone_by, undone_if, undone_in}
use Rattle.listing_facts.specs.hybrid_schedule.Schedules.{can_run, has_turn}
use Rattle.protocol.specs.Conditions.{IsAllowed, conditions, has_ended_on, has_gone_on, has_its_turn, lacks_completion, is_complete_ahead, has_done_all, waits_in}
use Rattle.protocol.specs.Effects.{after, cell_at, no_cell}
use Rattle.protocol.specs.Events.{Arrive, Ask, Run, Send, End, Close, Complete, Finish, Trim}
use Rattle.protocol.specs.Fixed.{Fixed}
use Rattle.protocol.specs.OnCell.{act_entries, act_left, act_placed, batch_entries, batch_left, batch_placed, done_if, done_in, not_done, own_entries, is_tid_among, where_placed}
use Rattle.protocol.specs.Parts.{ControlMessage, SubBatch, Slot, Entry, BatchEntry, ActEntry, Outcome, Cell, Machine}
use Rattle.protocol.specs.Rivals.{Lock}
use Rattle.protocol.specs.Words.{act_of, ahead, control_of, has_undone, holds, is_act_entry, is_all_done, is_batch_entry, is_clear, is_complete_batch, is_ended, is_entry_of, is_going, is_over_for, is_turn_of, is_undone, lock_of, sub_of, waiting_of}
use Rattle.protocol_laws.proofs.first.Lists.{any_join}
use Rattle.protocol_ready.proofs.Listing.{Has, from_filter, from_has, has_filter, has_flat_map, has_map, has_right, held, some, found_in, any_of}
use Rattle.protocol_ready.proofs.TouchedBatches.{result_stays}
use Rattle.protocol_ready.proofs.TouchedListed.{no}
use Rattle.protocol_ready.proofs.TouchedParts.{find_append, find_filter}
use Rattle.ready_listing.specs.Listed.{of_waiting}
use Rattle.ready_listing.proofs.Lists.{first_of_all, in_flat_map}
use Rattle.ready_news.proofs.Asking.{older_at}
use Rattle.ready_news.specs.InCells.{of_completable, runnable_in, wakes}

-- ---- what may run or be completed is listed

waiting_has : (t : ℕ) (c : Cell Rest) → waits_in t c ≡ true → Has (map (λ x. x.tid) c.inbox) t
waiting_has t c h =
    let x = some (waiting_of t c.inbox) h in
    let f = found_in (λ x. x.tid == t) c.inbox x.it x.is in
    subst (λ n. Has (map (λ x. x.tid) c.inbox) n) (eqb-true x.it.tid t f.1) (has_map (λ x. x.tid) c.inbox x.it f.0)

pub run_listed : (w : Fixed Rest) (s : Machine Rest) (t a : ℕ) (c : Cell Rest) → slice_get s.cells a ≡ Some c → IsAllowed w (Run t a) s → Contains (wakes a c) (Run t a)
unfolding conditions
run_listed w s t a c at ok =
    let waits : waits_in t c ≡ true = subst (λ o. holds (waits_in t) o ≡ true) at ok.0 in
    let clear : is_clear t c.entries ≡ true = subst (λ o. holds (λ z. is_clear t z.entries) o ≡ true) at ok.1.0 in
    let turn : has_turn t c.entries ≡ true = subst (λ o. holds (has_its_turn t) o ≡ true) at ok.1.1.0 in
    let among : Has (runnable_in c) t = has_filter (λ u. can_run u c.entries) (map (λ x. x.tid) c.inbox) t (waiting_has t c waits) (and_from (is_clear t c.entries) (has_turn t c.entries) clear turn) in
    Contains-append_left (flat_map (of_waiting a) (runnable_in c)) (of_completable a (completable_on c.entries)) (Run t a)
    (in_flat_map (of_waiting a) (runnable_in c) t (Run t a) (from_has (runnable_in c) t among) (first_of_all [] (Run t a)))

completable : (k : ℕ) (es : List Entry) → holds (λ e. not (is_complete_batch e)) (find (is_batch_entry k) es) ≡ true → list_all is_complete_batch (ahead (is_batch_entry k) es) ≡ true → holds is_all_done (find (is_batch_entry k) es) ≡ true → completable_on es ≡ Some k
completable k [] h g d = no h
completable k (ActEntry x ∷ es) h g d = no g
completable k (BatchEntry b ∷ es) h g d = by (b.bid == k) refl h g d (completable k es)
  where
    by : (v : Bool) → (b.bid == k) ≡ v
        → holds (λ e. not (is_complete_batch e)) (if v then Some (BatchEntry b) else find (is_batch_entry k) es) ≡ true
        → list_all is_complete_batch (if v then [] else BatchEntry b ∷ ahead (is_batch_entry k) es) ≡ true
        → holds is_all_done (if v then Some (BatchEntry b) else find (is_batch_entry k) es) ≡ true
        → (holds (λ e. not (is_complete_batch e)) (find (is_batch_entry k) es) ≡ true → list_all is_complete_batch (ahead (is_batch_entry k) es) ≡ true → holds is_all_done (find (is_batch_entry k) es) ≡ true → completable_on es ≡ Some k)
        → completable_on (BatchEntry b ∷ es) ≡ Some k
    by true q h g d rest =
        subst (λ v. option_and_then done_bid (if v then Some (BatchEntry b) else first_open es) ≡ Some k) (sym h)
        (subst (λ v. (if v then Some b.bid else None) ≡ Some k) (sym d) (ap Some (eqb-true b.bid k q)))
    by false q h g d rest =
        let parts = and_parts b.complete (list_all is_complete_batch (ahead (is_batch_entry k) es)) g in
        subst (λ v. option_and_then done_bid (if not v then Some (BatchEntry b) else first_open es) ≡ Some k) (sym parts.0) (rest h parts.1 d)

pub complete_listed : (w : Fixed Rest) (s : Machine Rest) (k a : ℕ) (c : Cell Rest) → slice_get s.cells a ≡ Some c → IsAllowed w (Complete k a) s → Contains (wakes a c) (Complete k a)
unfolding conditions
complete_listed w s k a c at ok =
    let lacks : lacks_completion k c ≡ true = subst (λ o. holds (lacks_completion k) o ≡ true) at ok.0 in
    let front : is_complete_ahead k c ≡ true = subst (λ o. holds (is_complete_ahead k) o ≡ true) at ok.1.0 in
    let done : has_done_all k c ≡ true = subst (λ o. holds (has_done_all k) o ≡ true) at ok.1.1.0 in
    Contains-append_right (flat_map (of_waiting a) (runnable_in c)) (of_completable a (completable_on c.entries)) (Complete k a)
    (subst (λ o. Contains (of_completable a o) (Complete k a)) (sym (completable k c.entries lacks front done)) (first_of_all [] (Complete k a)))

-- ---- a cell that changed

-- a test that the cell which is put in passes only if the one before it does
test_back : (p : Cell Rest → Bool) (xs : List (Cell Rest)) (i j : ℕ) (y : Cell Rest) → (p y ≡ true → p (slice_index_or xs j no_cell) ≡ true) → holds p (slice_get (slice_set xs j y) i) ≡ true → holds p (slice_get xs i) ≡ true
test_back p [] i j y f h = h
test_back p (x ∷ xs) zero zero y f h = f h
test_back p (x ∷ xs) (suc i) zero y f h = h
test_back p (x ∷ xs) zero (suc j) y f h = h
test_back p (x ∷ xs) (suc i) (suc j) y f h = test_back p xs i j y f h

-- where a part of the list has one, all of it has
any_among : {X : Type 0} (p q : X → Bool) (xs : List X) → list_any p (filter q xs) ≡ true → list_any p xs ≡ true
any_among p q [] h = h
any_among p q (x ∷ xs) h = by (q x) h (any_among p q xs)
  where
    by : (b : Bool) → list_any p (if b then x ∷ filter q xs else filter q xs) ≡ true → (list_any p (filter q xs) ≡ true → list_any p xs ≡ true) → (p x || list_any p xs) ≡ true
    by true g i = elim (or_cases (p x) (list_any p (filter q xs)) g) [ inl e ↦ or_left (p x) (list_any p xs) e | inr e ↦ or_right (p x) (list_any p xs) (i e) ]
    by false g i = or_right (p x) (list_any p xs) (i g)

-- where some go by their numbers, what is still found was found
number_back : (t : ℕ) (kept : ℕ → Bool) (p : Outcome Rest → Bool) (xs : List (Outcome Rest)) → holds p (find (λ x. x.tid == t) (filter (λ x. kept x.tid) xs)) ≡ true → holds p (find (λ x. x.tid == t) xs) ≡ true
number_back t kept p xs h =
    let x = held p (find (λ x. x.tid == t) (filter (λ x. kept x.tid) xs)) h in
    let f = found_in (λ x. x.tid == t) (filter (λ x. kept x.tid) xs) x.it x.is in
    let stays : kept t ≡ true = ap kept (sym (eqb-true x.it.tid t f.1)) ∙ (from_filter (λ x. kept x.tid) xs x.it f.0).1 in
    subst (λ o. holds p o ≡ true) (find_filter (λ x. x.tid == t) (λ x. kept x.tid) xs (λ y e. ap kept (eqb-true y.tid t e) ∙ stays)) h

-- ---- a PACT that is done on an actor is not owed anything there

slots_done : (t : ℕ) (ss : List Slot) → list_any (λ s. (s.tid == t) && not s.done) (map (done_if t) ss) ≡ false
slots_done t [] = refl
slots_done t (s ∷ ss) = by (s.tid == t) s.done (slots_done t ss)
  where
    by : (v d : Bool) → list_any (λ s. (s.tid == t) && not s.done) (map (done_if t) ss) ≡ false
        → ((v && not (d || v)) || list_any (λ s. (s.tid == t) && not s.done) (map (done_if t) ss)) ≡ false
    by true true r = r
    by true false r = r
    by false d r = r

pub done_owes_nothing : (t : ℕ) (es : List Entry) → has_undone t (map (done_in t) es) ≡ false
done_owes_nothing t [] = refl
done_owes_nothing t (BatchEntry b ∷ es) = rw (slots_done t b.slots) (done_owes_nothing t es)
done_owes_nothing t (ActEntry x ∷ es) = done_owes_nothing t es

-- ---- an entry at the end is ahead of no other one

ahead_back : (p meant : Entry → Bool) (xs ys : List Entry) → list_all p (ahead meant (xs ++ ys)) ≡ true → list_all p (ahead meant xs) ≡ true
ahead_back p meant [] ys h = refl
ahead_back p meant (x ∷ xs) ys h = by (meant x) h (ahead_back p meant xs ys)
  where
    by : (b : Bool) → list_all p (if b then [] else x ∷ ahead meant (xs ++ ys)) ≡ true → (list_all p (ahead meant (xs ++ ys)) ≡ true → list_all p (ahead meant xs) ≡ true) → list_all p (if b then [] else x ∷ ahead meant xs) ≡ true
    by true g i = refl
    by false g i = let q = and_parts (p x) (list_all p (ahead meant (xs ++ ys))) g in and_from (p x) (list_all p (ahead meant xs)) q.0 (i q.1)

clear_back : (t : ℕ) (xs ys : List Entry) → list_any (is_entry_of t) ys ≡ false → is_clear t (xs ++ ys) ≡ true → is_clear t xs ≡ true
clear_back t xs ys none h =
    let own = held (λ own. list_all (is_over_for own) (ahead (is_entry_of t) (xs ++ ys))) (find (is_entry_of t) (xs ++ ys)) h in
    subst (λ o. holds (λ own. list_all (is_over_for own) (ahead (is_entry_of t) xs)) o ≡ true) (sym (sym (find_append (is_entry_of t) xs ys none) ∙ own.is)) (ahead_back (is_over_for own.it) (is_entry_of t) xs ys own.does)

found_back : (p meant : Entry → Bool) (xs ys : List Entry) → list_any meant ys ≡ false → holds p (find meant (xs ++ ys)) ≡ true → holds p (find meant xs) ≡ true
found_back p meant xs ys none h = subst (λ o. holds p o ≡ true) (find_append meant xs ys none) h

-- ---- an ACT asks: what waited and stood there may go on no more than before

module _ (u t : ℕ) (other : (u == t) ≡ false) where
  no_entry : (x : Lock) (older : Option ℕ) → x.tid ≡ u → list_any (is_entry_of t) (act_entries x older) ≡ false
  no_entry x None e = ap (λ n. (n == t) || false) e ∙ ap (λ b. b || false) other
  no_entry x (Some o) e = refl

  no_waiting : (older : Option ℕ) (o : Option (ControlMessage Rest)) → ((m : ControlMessage Rest) → o ≡ Some m → (m.tid == u) ≡ true) → list_any (λ x. x.tid == t) (where_placed older o) ≡ false
  no_waiting (Some n) o same = refl
  no_waiting None None same = refl
  no_waiting None (Some m) same = ap (λ n. (n == t) || false) (eqb-true m.tid u (same m refl)) ∙ ap (λ b. b || false) other

no_batch : (k : ℕ) (x : Lock) (older : Option ℕ) → list_any (is_batch_entry k) (act_entries x older) ≡ false
no_batch k x None = refl
no_batch k x (Some o) = refl

no_debt : (t : ℕ) (x : Lock) (older : Option ℕ) → list_any (is_undone t) (act_entries x older) ≡ true → ⊥
no_debt t x None h = no h
no_debt t x (Some o) h = no h

-- none of a list that ends with some which the test does not hold of
front_any : {X : Type 0} (p : X → Bool) (xs ys : List X) → (list_any p ys ≡ true → ⊥) → list_any p (xs ++ ys) ≡ true → list_any p xs ≡ true
front_any p xs ys none h = elim (any_join p xs ys h) [ inl e ↦ e | inr e ↦ absurd (none e) ]

pub ask_runs : (w : Fixed Rest) (u b : ℕ) (s : Machine Rest) (t a : ℕ) → (u == t) ≡ false → IsAllowed w (Run t a) (after w (Ask u b) s) → IsAllowed w (Run t a) s
unfolding conditions after
ask_runs w u b s t a other ok =
    let older = older_at u b s in
    let lock = lock_of u s.book.acts in
    let own = control_of u s.post.controls in
    let old = cell_at s b in
    let new = act_placed lock older own old in
    let none : list_any (is_entry_of t) (act_entries lock older) ≡ false = no_entry u t other lock older refl in
    let late : list_any (λ x. x.tid == t) (where_placed older own) ≡ false = no_waiting u t other older own (λ m e. (found_in (λ m. m.tid == u) s.post.controls m e).1) in (
      test_back (waits_in t) s.cells a b new (λ h. subst (λ o. is_some o ≡ true) (find_append (λ x. x.tid == t) old.inbox (where_placed older own) late) h) ok.0,
      (
        test_back (λ c. is_clear t c.entries) s.cells a b new (clear_back t old.entries (act_entries lock older) none) ok.1.0,
        (test_back (has_its_turn t) s.cells a b new (found_back (is_turn_of t) (is_entry_of t) old.entries (act_entries lock older) none) ok.1.1.0, tt),
      ),
    )

pub ask_completes : (w : Fixed Rest) (u b : ℕ) (s : Machine Rest) (k a : ℕ) → IsAllowed w (Complete k a) (after w (Ask u b) s) → IsAllowed w (Complete k a) s
unfolding conditions after
ask_completes w u b s k a ok =
    let older = older_at u b s in
    let lock = lock_of u s.book.acts in
    let old = cell_at s b in
    let new = act_placed lock older (control_of u s.post.controls) old in
    let more = act_entries lock older in (
      test_back (lacks_completion k) s.cells a b new (found_back (λ e. not (is_complete_batch e)) (is_batch_entry k) old.entries more (no_batch k lock older)) ok.0,
      (
        test_back (is_complete_ahead k) s.cells a b new (ahead_back is_complete_batch (is_batch_entry k) old.entries more) ok.1.0,
        (test_back (has_done_all k) s.cells a b new (found_back is_all_done (is_batch_entry k) old.entries more (no_batch k lock older)) ok.1.1.0, tt),
      ),
    )

pub ask_closes : (w : Fixed Rest) (u b : ℕ) (s : Machine Rest) (t a : ℕ) → IsAllowed w (Close t a) (after w (Ask u b) s) → IsAllowed w (Close t a) s
unfolding conditions after
ask_closes w u b s t a ok =
    let older = older_at u b s in
    let lock = lock_of u s.book.acts in
    let old = cell_at s b in
    (ok.0, (test_back (λ c. has_undone t c.entries) s.cells a b (act_placed lock older (control_of u s.post.controls) old) (front_any (is_undone t) old.entries (act_entries lock older) (no_debt t lock older)) ok.1.0, tt))

-- ---- an ACT or a batch leaves: nothing that is left there has become allowed

pub finish_sends : (w : Fixed Rest) (u b : ℕ) (s : Machine Rest) (t a : ℕ) → IsAllowed w (Send t a) (after w (Finish u b) s) → IsAllowed w (Send t a) s
unfolding conditions after
finish_sends w u b s t a ok =
    let old = cell_at s b in
    (test_back (has_gone_on t) s.cells a b (act_left u (act_of u s.book.acts) old) (number_back t (λ n. not (is_tid_among n (own_entries u old.entries))) (λ x. is_going x.next) old.outbox) ok.0, tt)

pub finish_ends : (w : Fixed Rest) (u b : ℕ) (s : Machine Rest) (t a : ℕ) → IsAllowed w (End t a) (after w (Finish u b) s) → IsAllowed w (End t a) s
unfolding conditions after
finish_ends w u b s t a ok =
    let old = cell_at s b in
    (test_back (has_ended_on t) s.cells a b (act_left u (act_of u s.book.acts) old) (number_back t (λ n. not (is_tid_among n (own_entries u old.entries))) (λ x. is_ended x.next) old.outbox) ok.0, tt)

pub finish_closes : (w : Fixed Rest) (u b : ℕ) (s : Machine Rest) (t a : ℕ) → IsAllowed w (Close t a) (after w (Finish u b) s) → IsAllowed w (Close t a) s
unfolding conditions after
finish_closes w u b s t a ok = (ok.0, (test_back (λ c. has_undone t c.entries) s.cells a b (act_left u (act_of u s.book.acts) (cell_at s b)) (any_among (is_undone t) (λ e. not (is_act_entry u e)) (cell_at s b).entries) ok.1.0, tt))

pub trim_closes : (w : Fixed Rest) (k b : ℕ) (s : Machine Rest) (t a : ℕ) → IsAllowed w (Close t a) (after w (Trim k b) s) → IsAllowed w (Close t a) s
unfolding conditions after
trim_closes w k b s t a ok = (
  subst (λ o. is_some o ≡ true) (result_stays w (Trim k b) s t refl) ok.0,
  (test_back (λ c. has_undone t c.entries) s.cells a b (batch_left k (cell_at s b)) (any_among (is_undone t) (λ e. not (is_batch_entry k e)) (cell_at s b).entries) ok.1.0, tt),
)

-- ---- a sub-batch comes: whom it names, it owes something

pub arrive_closes : (w : Fixed Rest) (k b : ℕ) (s : Machine Rest) (t a : ℕ) → list_any (is_undone t) (batch_entries k (sub_of k b s.post.subs)) ≡ false → IsAllowed w (Close t a) (after w (Arrive k b) s) → IsAllowed w (Close t a) s
unfolding conditions after
arrive_closes w k b s t a none ok =
    let old = cell_at s b in
    let m = sub_of k b s.post.subs in
    (ok.0, (test_back (λ c. has_undone t c.entries) s.cells a b (batch_placed k m old) (front_any (is_undone t) old.entries (batch_entries k m) (λ h. true≢false (sym h ∙ none))) ok.1.0, tt))

undone_slot : (t : ℕ) (slots : List Slot) → list_any (λ s. (s.tid == t) && not s.done) slots ≡ true → Has (undone_in slots) t
undone_slot t slots h =
    let s = any_of (λ s. (s.tid == t) && not s.done) slots h in
    let q = and_parts (s.it.tid == t) (not s.it.done) s.does in
    subst (λ n. Has (undone_in slots) n) (eqb-true s.it.tid t q.0) (has_map (λ s. s.tid) (filter (λ s. not s.done) slots) s.it (has_filter (λ s. not s.done) slots s.it s.has q.1))

pub named_by : (k t : ℕ) (es : List Entry) (o : Option SubBatch) → list_any (is_undone t) (batch_entries k o) ≡ true → Contains (undone_by k (es ++ batch_entries k o)) t
named_by k t es None h = no h
named_by k t es (Some m) h =
    let slots = map not_done m.tids in
    let own : Entry = BatchEntry (record { bid = k; slots = slots; complete = false }) in
    let owed : Has (undone_in slots) t = undone_slot t slots (elim (or_cases (is_undone t own) false h) [ inl e ↦ e | inr e ↦ no e ]) in
    from_has (undone_by k (es ++ own ∷ [])) t
    (has_flat_map (λ e. undone_if (is_batch_entry k e) e) (es ++ own ∷ []) own t (has_right es (own ∷ []) own (inl refl)) (subst (λ v. Has (undone_if v own) t) (sym (eq-eqb k k refl)) owed))
