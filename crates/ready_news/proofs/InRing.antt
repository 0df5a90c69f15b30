-- What is listed of the ring and of the logs tells what is new there.
use Rattle.std.specs.Prelude.{◌≡◌, refl, ℕ, ◌+◌, zero, suc, ◌%◌, ◌==◌, nat_lt, not, Bool, true, false, ◌&&◌, if◌then◌else◌, Option, Some, None, List, [], ◌∷◌, ◌++◌, ◌≤◌, drop, map, length, slice_get, slice_index_or, slice_set, Contains}
use Rattle.std.proofs.Common.{arith, length-append, sym, ap, subst, ◌∙◌}
use Rattle.std.proofs.lemmas.Bool.{true≢false, and_from, eqb-true, eq-eqb, ltb-false, ltb-true}
use Rattle.std.proofs.lemmas.List.{length-drop, length-map}
use Rattle.std.proofs.lemmas.List.Elements.{Contains-append_left, Contains-append_right}
use Rattle.std.proofs.lemmas.Option.{same_Some}
use Rattle.aml_slice.specs.Controls.{Rest}
use Rattle.protocol.specs.Conditions.{conditions, refusal, first_false, queue, is_idle_at, is_idle, lacks_pacts, lacks_acts, has_room_for_batch, has_room_for_act, has_unsynced}
use Rattle.protocol.specs.Effects.{act_commit, added, adds, after, ascending, cell_at, log_at, no_log, synced}
use Rattle.protocol.specs.Events.{Event, Submit, Pass, Form, Admit, Complete, Sync, Commit, Abort, Prepare, Decide}
use Rattle.protocol.specs.Fixed.{Fixed, is_pact, tx_at}
use Rattle.snap_hand.specs.log_set.Logs.{LogList}
use Rattle.snap_hand.specs.log_set.Shown.{ShowsLog, told_bytes}
use Rattle.snap_hand.specs.token_ring.Asked.{first_waiting}
use Rattle.protocol.specs.OnRing.{joined_at, next_actors, next_pacts}
use Rattle.protocol.specs.Records.{LogRecord, BatchInfo, BatchComplete, BatchDone, ActPrepare, ActDone}
use Rattle.protocol.specs.Parts.{Act, Book, Desk, Ring, Log, Machine}
use Rattle.protocol.specs.Words.{act_of, batch_of, count, holds, is_empty, is_live_act, is_live_batch, is_value, value_of, values_of}
use Rattle.protocol_ready.specs.Telling.{RingTells, LogTells}
use Rattle.protocol_ready.specs.Touched.{is_touched}
use Rattle.protocol_ready.proofs.TouchedListed.{no}
use Rattle.ready_listing.specs.Listed.{on_ring}
use Rattle.ready_listing.proofs.Lists.{first_of_all, placed}
use Rattle.ready_news.specs.InBook.{only}
use Rattle.ready_news.specs.InRing.{is_lone_in, changes_ring, ring_listed, passes, is_first, forms_first, admits_first, forms, admits, forms_any, admits_any, forms_if, admits_if, frees_batches, frees_acts, draws, all_next, logs_listed}
use Rattle.ready_news.specs.New.{is_new}
use Rattle.ready_news.proofs.Common.{Among, new_is_due, new_is_touched, new_was_refused}
use Rattle.ready_news.proofs.InPost.{where_so}
use Rattle.ready_news.proofs.Counted.{Framed, acts_counted, batches_counted}

-- ---- the ring

ring_stays : (w : Fixed Rest) (e : Event) (s : Machine Rest) → changes_ring e ≡ false → (after w e s).ring ≡ s.ring
unfolding after
ring_stays w (Submit n) s h = absurd (true≢false h)
ring_stays w (Pass c) s h = absurd (true≢false h)
ring_stays w (Form k) s h = absurd (true≢false h)
ring_stays w (Admit t) s h = absurd (true≢false h)
ring_stays w (Abort k) s h = absurd (true≢false h)
ring_stays w _ s h = refl

submits : (w : Fixed Rest) (s : Machine Rest) (n : ℕ) → n ≡ s.ring.next_tx → nat_lt n (length w.text.txs) ≡ true → (refusal w (Submit n) s == 0) ≡ true
unfolding refusal conditions
submits w s n e h = rw (eq-eqb n s.ring.next_tx e, h) refl

passes_then : (w : Fixed Rest) (s : Machine Rest) (c : ℕ) → c ≡ (s.ring.holder + 1) % w.text.coordinators → is_idle_at s.ring.holder s.ring ≡ true → is_idle s.ring ≡ false → (refusal w (Pass c) s == 0) ≡ true
unfolding refusal conditions
passes_then w s c e h g = rw (eq-eqb c ((s.ring.holder + 1) % w.text.coordinators) e, h, g) refl

-- what is refused as before is not new
as_before : (w : Fixed Rest) (e : Event) (s : Machine Rest) (f : Event) → refusal w f (after w e s) ≡ refusal w f s → is_new w e s f ≡ true → ⊥
as_before w e s f same q = true≢false (sym (new_is_due w e s f q) ∙ (ap (λ n. n == 0) same ∙ new_was_refused w e s f q))

no_submit : (w : Fixed Rest) (e : Event) (s : Machine Rest) → (after w e s).ring.next_tx ≡ s.ring.next_tx → is_new w e s (Submit (after w e s).ring.next_tx) ≡ true → nat_lt (after w e s).ring.next_tx (length w.text.txs) ≡ true → ⊥
no_submit w e s n q a = true≢false (sym (submits w s (after w e s).ring.next_tx n a) ∙ new_was_refused w e s (Submit (after w e s).ring.next_tx) q)

-- of three conditions that all hold the last one holds
third_holds : (a b c : Bool) → (first_false 1 (a ∷ b ∷ c ∷ []) == 0) ≡ true → c ≡ true
third_holds true true true h = refl
third_holds true true false h = no h
third_holds true false c h = no h
third_holds false b c h = no h

-- what may be formed, or admitted, has room
form_room : (w : Fixed Rest) (s : Machine Rest) (k : ℕ) → (refusal w (Form k) s == 0) ≡ true → has_room_for_batch w.text s.desk ≡ true
unfolding refusal conditions
form_room w s k h = third_holds (k == s.ring.next_bid) (not (lacks_pacts s.ring)) (has_room_for_batch w.text s.desk) h

admit_room : (w : Fixed Rest) (s : Machine Rest) (t : ℕ) → (refusal w (Admit t) s == 0) ≡ true → has_room_for_act w.text s.book ≡ true
unfolding refusal conditions
admit_room w s t h = third_holds (t == s.ring.next_tid) (not (lacks_acts s.ring)) (has_room_for_act w.text s.book) h

both_so : (a b : Bool) (f : Event) → a ≡ true → b ≡ true → Contains (only (a && b) f) f
both_so a b f h g = where_so (a && b) f (and_from a b h g)

pass_where : (coordinators : ℕ) (r : Ring) → is_idle_at r.holder r ≡ true → Contains (passes coordinators r) (Pass ((r.holder + 1) % coordinators))
pass_where coordinators r h = where_so (is_idle_at r.holder r) (Pass ((r.holder + 1) % coordinators)) h

-- ---- who is submitted is the first where nothing waited

alone_first : (n : ℕ) (ns : List ℕ) → is_empty ns ≡ true → is_first n (first_waiting (ns ++ n ∷ [])) ≡ true
alone_first n [] h = eq-eqb n n refl
alone_first n (m ∷ ns) h = no h

joined_first : (n c h : ℕ) (queues : List (List ℕ)) → is_empty (queue queues h) ≡ true → is_empty (queue (joined_at c n queues) h) ≡ false → is_first n (first_waiting (queue (joined_at c n queues) h)) ≡ true
joined_first n c h [] e g = absurd (true≢false g)
joined_first n zero zero (x ∷ xs) e g = alone_first n x e
joined_first n zero (suc h) (x ∷ xs) e g = absurd (true≢false (sym e ∙ g))
joined_first n (suc c) zero (x ∷ xs) e g = absurd (true≢false (sym e ∙ g))
joined_first n (suc c) (suc h) (x ∷ xs) e g = joined_first n c h xs e g

pact_first : (pact : Bool) (n c h : ℕ) (queues : List (List ℕ)) → is_empty (queue queues h) ≡ true → is_empty (queue (if pact then joined_at c n queues else queues) h) ≡ false → is_first n (first_waiting (queue (if pact then joined_at c n queues else queues) h)) ≡ true
pact_first true n c h queues e g = joined_first n c h queues e g
pact_first false n c h queues e g = absurd (true≢false (sym e ∙ g))

act_first : (pact : Bool) (n c h : ℕ) (queues : List (List ℕ)) → is_empty (queue queues h) ≡ true → is_empty (queue (if pact then queues else joined_at c n queues) h) ≡ false → is_first n (first_waiting (queue (if pact then queues else joined_at c n queues) h)) ≡ true
act_first true n c h queues e g = absurd (true≢false (sym e ∙ g))
act_first false n c h queues e g = joined_first n c h queues e g

form_lacked : (w : Fixed Rest) (s : Machine Rest) (n k : ℕ) → is_new w (Submit n) s (Form k) ≡ true → lacks_pacts (after w (Submit n) s).ring ≡ false → lacks_pacts s.ring ≡ true
unfolding refusal conditions after
form_lacked w s n k q a = by (lacks_pacts s.ring) refl
  where
    by : (b : Bool) → lacks_pacts s.ring ≡ b → lacks_pacts s.ring ≡ true
    by true e = e
    by false e = absurd (as_before w (Submit n) s (Form k) (ap (λ b. first_false 1 ((k == s.ring.next_bid) ∷ not b ∷ has_room_for_batch w.text s.desk ∷ [])) (a ∙ sym e)) q)

form_first : (w : Fixed Rest) (s : Machine Rest) (n k : ℕ) → is_new w (Submit n) s (Form k) ≡ true → lacks_pacts (after w (Submit n) s).ring ≡ false → is_first n (first_waiting (queue (after w (Submit n) s).ring.pacts (after w (Submit n) s).ring.holder)) ≡ true
unfolding after
form_first w s n k q a = pact_first (is_pact (tx_at w.text n)) n (n % w.text.coordinators) s.ring.holder s.ring.pacts (form_lacked w s n k q a) a

admit_lacked : (w : Fixed Rest) (s : Machine Rest) (n t : ℕ) → is_new w (Submit n) s (Admit t) ≡ true → lacks_acts (after w (Submit n) s).ring ≡ false → lacks_acts s.ring ≡ true
unfolding refusal conditions after
admit_lacked w s n t q a = by (lacks_acts s.ring) refl
  where
    by : (b : Bool) → lacks_acts s.ring ≡ b → lacks_acts s.ring ≡ true
    by true e = e
    by false e = absurd (as_before w (Submit n) s (Admit t) (ap (λ b. first_false 1 ((t == s.ring.next_tid) ∷ not b ∷ has_room_for_act w.text s.book ∷ [])) (a ∙ sym e)) q)

admit_first : (w : Fixed Rest) (s : Machine Rest) (n t : ℕ) → is_new w (Submit n) s (Admit t) ≡ true → lacks_acts (after w (Submit n) s).ring ≡ false → is_first n (first_waiting (queue (after w (Submit n) s).ring.acts (after w (Submit n) s).ring.holder)) ≡ true
unfolding after
admit_first w s n t q a = act_first (is_pact (tx_at w.text n)) n (n % w.text.coordinators) s.ring.holder s.ring.acts (admit_lacked w s n t q a) a

-- an admission leaves the batches' queue, their number and their room
admit_forms : (w : Fixed Rest) (s : Machine Rest) (t k : ℕ) → refusal w (Form k) (after w (Admit t) s) ≡ refusal w (Form k) s
unfolding refusal conditions after
admit_forms w s t k = refl

form_same : (w : Fixed Rest) (s t : Machine Rest) (k : ℕ) → t.ring ≡ s.ring → count is_live_batch t.desk.batches ≡ count is_live_batch s.desk.batches → refusal w (Form k) t ≡ refusal w (Form k) s
unfolding refusal conditions
form_same w s t k r c = rw (r, c) refl

admit_same : (w : Fixed Rest) (s t : Machine Rest) (u : ℕ) → t.ring ≡ s.ring → count is_live_act t.book.acts ≡ count is_live_act s.book.acts → refusal w (Admit u) t ≡ refusal w (Admit u) s
unfolding refusal conditions
admit_same w s t u r c = rw (r, c) refl

-- ---- what is new has room after the event

module _ (w : Fixed Rest) (e : Event) (s : Machine Rest) where
  abbrev ring_after : Ring
  ring_after = (after w e s).ring

  abbrev desk_after : Desk
  desk_after = (after w e s).desk

  abbrev book_after : Book
  book_after = (after w e s).book

  form_in : (waits : Bool) → waits ≡ true → is_new w e s (Form ring_after.next_bid) ≡ true → Contains (forms waits w.text desk_after ring_after) (Form ring_after.next_bid)
  form_in waits h q = both_so waits (has_room_for_batch w.text desk_after) (Form ring_after.next_bid) h (form_room w (after w e s) ring_after.next_bid (new_is_due w e s (Form ring_after.next_bid) q))

  admit_in : (waits : Bool) → waits ≡ true → is_new w e s (Admit ring_after.next_tid) ≡ true → Contains (admits waits w.text book_after ring_after) (Admit ring_after.next_tid)
  admit_in waits h q = both_so waits (has_room_for_act w.text book_after) (Admit ring_after.next_tid) h (admit_room w (after w e s) ring_after.next_tid (new_is_due w e s (Admit ring_after.next_tid) q))

  form_any_in : lacks_pacts ring_after ≡ false → is_new w e s (Form ring_after.next_bid) ≡ true → Contains (forms_any w.text desk_after ring_after) (Form ring_after.next_bid)
  form_any_in a q = form_in (not (lacks_pacts ring_after)) (ap not a) q

  admit_any_in : lacks_acts ring_after ≡ false → is_new w e s (Admit ring_after.next_tid) ≡ true → Contains (admits_any w.text book_after ring_after) (Admit ring_after.next_tid)
  admit_any_in a q = admit_in (not (lacks_acts ring_after)) (ap not a) q

  module _ (framed : Framed w) (es : List Event) where
    ring_next : Among (on_ring w.text.coordinators ring_after) es → RingTells (is_new w e s) w.text ring_after es
    ring_next more =
        let all = on_ring w.text.coordinators ring_after in
        let had : (f : Event) (i : ℕ) → slice_get all i ≡ Some f → Contains es f = λ f i g. more f (placed all i f g) in
        record {
          submit = λ q a. had (Submit ring_after.next_tx) 0 refl;
          pass = λ q a b. had (Pass ((ring_after.holder + 1) % w.text.coordinators)) 1 refl;
          form = λ q a. had (Form ring_after.next_bid) 2 refl;
          admit = λ q a. had (Admit ring_after.next_tid) 3 refl;
        }

    form_drawn : changes_ring e ≡ false → Among (draws e w.text desk_after book_after ring_after) es → is_new w e s (Form ring_after.next_bid) ≡ true → lacks_pacts ring_after ≡ false → Contains es (Form ring_after.next_bid)
    form_drawn h more q a = by (frees_batches e) refl
      where
        by : (c : Bool) → frees_batches e ≡ c → Contains es (Form ring_after.next_bid)
        by true g = more (Form ring_after.next_bid) (Contains-append_left (forms_if (frees_batches e) w.text desk_after ring_after) (admits_if (frees_acts e) w.text book_after ring_after) (Form ring_after.next_bid) (subst (λ c. Contains (forms_if c w.text desk_after ring_after) (Form ring_after.next_bid)) (sym g) (form_any_in a q)))
        by false g = absurd (as_before w e s (Form ring_after.next_bid) (form_same w s (after w e s) ring_after.next_bid (ring_stays w e s h) (batches_counted w e s (framed e s) h g)) q)

    admit_drawn : changes_ring e ≡ false → Among (draws e w.text desk_after book_after ring_after) es → is_new w e s (Admit ring_after.next_tid) ≡ true → lacks_acts ring_after ≡ false → Contains es (Admit ring_after.next_tid)
    admit_drawn h more q a = by (frees_acts e) refl
      where
        by : (c : Bool) → frees_acts e ≡ c → Contains es (Admit ring_after.next_tid)
        by true g = more (Admit ring_after.next_tid) (Contains-append_right (forms_if (frees_batches e) w.text desk_after ring_after) (admits_if (frees_acts e) w.text book_after ring_after) (Admit ring_after.next_tid) (subst (λ c. Contains (admits_if c w.text book_after ring_after) (Admit ring_after.next_tid)) (sym g) (admit_any_in a q)))
        by false g = absurd (as_before w e s (Admit ring_after.next_tid) (admit_same w s (after w e s) ring_after.next_tid (ring_stays w e s h) (acts_counted w e s (framed e s) h g)) q)

    ring_draws : changes_ring e ≡ false → Among (draws e w.text desk_after book_after ring_after) es → RingTells (is_new w e s) w.text ring_after es
    ring_draws h more =
        let is : ring_after ≡ s.ring = ring_stays w e s h in
        record {
          submit = λ q a. absurd (no_submit w e s (ap (λ x. x.next_tx) is) q a);
          pass = λ q a b. absurd (true≢false (sym (passes_then w s ((ring_after.holder + 1) % w.text.coordinators) (ap (λ x. (x.holder + 1) % w.text.coordinators) is) (ap (λ x. is_idle_at x.holder x) (sym is) ∙ a) (ap is_idle (sym is) ∙ b)) ∙ new_was_refused w e s (Pass ((ring_after.holder + 1) % w.text.coordinators)) q));
          form = λ q a. form_drawn h more q a;
          admit = λ q a. admit_drawn h more q a;
        }

module _ (w : Fixed Rest) (s : Machine Rest) (es : List Event) where
  abbrev Told : Event → Type 0
  Told e = Among (ring_listed e w.text (after w e s).desk (after w e s).book (after w e s).ring) es → RingTells (is_new w e s) w.text (after w e s).ring es

  submit_told : (n : ℕ) → Told (Submit n)
  submit_told n more =
      let e = Submit n in
      let r = (after w e s).ring in
      let token = passes w.text.coordinators r in
      let batches = forms_first n w.text (after w e s).desk r in
      let acts = admits_first n w.text (after w e s).book r in
      let first : Among ((Submit r.next_tx ∷ []) ++ (token ++ batches)) es = λ f c. more f (Contains-append_left ((Submit r.next_tx ∷ []) ++ (token ++ batches)) acts f c) in
      let rest : Among (token ++ batches) es = λ f c. first f (Contains-append_right (Submit r.next_tx ∷ []) (token ++ batches) f c) in
      record {
        submit = λ q a. first (Submit r.next_tx) (Contains-append_left (Submit r.next_tx ∷ []) (token ++ batches) (Submit r.next_tx) (first_of_all [] (Submit r.next_tx)));
        pass = λ q a b. rest (Pass ((r.holder + 1) % w.text.coordinators)) (Contains-append_left token batches (Pass ((r.holder + 1) % w.text.coordinators)) (pass_where w.text.coordinators r a));
        form = λ q a. rest (Form r.next_bid) (Contains-append_right token batches (Form r.next_bid) (form_in w e s (is_first n (first_waiting (queue r.pacts r.holder))) (form_first w s n r.next_bid q a) q));
        admit = λ q a. more (Admit r.next_tid) (Contains-append_right ((Submit r.next_tx ∷ []) ++ (token ++ batches)) acts (Admit r.next_tid) (admit_in w e s (is_first n (first_waiting (queue r.acts r.holder))) (admit_first w s n r.next_tid q a) q));
      }

  next_told : (e : Event) → (after w e s).ring.next_tx ≡ s.ring.next_tx → Among (all_next w.text (after w e s).desk (after w e s).book (after w e s).ring) es → RingTells (is_new w e s) w.text (after w e s).ring es
  next_told e same more =
      let r = (after w e s).ring in
      let token = passes w.text.coordinators r in
      let batches = forms_any w.text (after w e s).desk r in
      let acts = admits_any w.text (after w e s).book r in
      let first : Among (token ++ batches) es = λ f c. more f (Contains-append_left (token ++ batches) acts f c) in
      record {
        submit = λ q a. absurd (no_submit w e s same q a);
        pass = λ q a b. first (Pass ((r.holder + 1) % w.text.coordinators)) (Contains-append_left token batches (Pass ((r.holder + 1) % w.text.coordinators)) (pass_where w.text.coordinators r a));
        form = λ q a. first (Form r.next_bid) (Contains-append_right token batches (Form r.next_bid) (form_any_in w e s a q));
        admit = λ q a. more (Admit r.next_tid) (Contains-append_right (token ++ batches) acts (Admit r.next_tid) (admit_any_in w e s a q));
      }

  pass_told : (c : ℕ) → Told (Pass c)
  unfolding after
  pass_told c more = next_told (Pass c) refl more

  form_told : (k : ℕ) → Told (Form k)
  unfolding after
  form_told k more = next_told (Form k) refl more

  admit_told : (t : ℕ) → Told (Admit t)
  unfolding after
  admit_told t more =
      let r = (after w (Admit t) s).ring in
      let token = passes w.text.coordinators r in
      let acts = admits_any w.text (after w (Admit t) s).book r in
      record {
        submit = λ q a. absurd (no_submit w (Admit t) s refl q a);
        pass = λ q a b. more (Pass ((r.holder + 1) % w.text.coordinators)) (Contains-append_left token acts (Pass ((r.holder + 1) % w.text.coordinators)) (pass_where w.text.coordinators r a));
        form = λ q a. absurd (as_before w (Admit t) s (Form r.next_bid) (admit_forms w s t r.next_bid) q);
        admit = λ q a. more (Admit r.next_tid) (Contains-append_right token acts (Admit r.next_tid) (admit_any_in w (Admit t) s a q));
      }

pub ring_told : (w : Fixed Rest) (e : Event) (s : Machine Rest) → Framed w → (es : List Event) → Among (ring_listed e w.text (after w e s).desk (after w e s).book (after w e s).ring) es → RingTells (is_new w e s) w.text (after w e s).ring es
ring_told w (Submit n) s framed es more = submit_told w s es n more
ring_told w (Pass c) s framed es more = pass_told w s es c more
ring_told w (Form k) s framed es more = form_told w s es k more
ring_told w (Admit t) s framed es more = admit_told w s es t more
ring_told w (Abort k) s framed es more = ring_next w (Abort k) s framed es more
ring_told w e s framed es more = ring_draws w e s framed es refl more

-- ---- the logs

-- the logs at hand show the logs
abbrev AreLogs : List (Option LogList) → List Log → Type 0
AreLogs at_hand logs = (l : ℕ) (x : LogList) → slice_get at_hand l ≡ Some (Some x) → (g : Log) × ((slice_get logs l ≡ Some g) × ShowsLog x g)

-- where just one record is not synced it waits alone
lone_shown : (at_hand : List (Option LogList)) (logs : List Log) (l : ℕ) (g : Log) → AreLogs at_hand logs → slice_get logs l ≡ Some g → length g.records ≡ g.synced + 1 → is_lone_in (slice_get at_hand l) ≡ true
lone_shown at_hand logs l g shown at one = by (slice_get at_hand l) refl
  where
    by : (o : Option (Option LogList)) → slice_get at_hand l ≡ o → is_lone_in o ≡ true
    by None e = refl
    by (Some None) e = refl
    by (Some (Some x)) e =
        let r = shown l x e in
        let shows : ShowsLog x g = subst (ShowsLog x) (same_Some r.0 g (sym r.1.0 ∙ at)) r.1.1 in
        eq-eqb (length x.waiting) 1 (ap length shows.waiting ∙ (length-map (drop g.synced g.records) told_bytes ∙ omega (arith, length-drop g.synced g.records, one)))

-- a log that has something to sync, and had nothing before it got at most one record
one_added : (rs : List LogRecord) (xs : List Log) (l : ℕ) (g : Log) → length rs ≤ 1 → slice_get (slice_set xs l (added rs (slice_index_or xs l no_log))) l ≡ Some g → holds has_unsynced (slice_get xs l) ≡ false → has_unsynced g ≡ true → length g.records ≡ g.synced + 1
one_added rs [] l g few at before now = absurd (cc at)
one_added rs (x ∷ xs) zero g few at before now =
    let is = same_Some (added rs x) g at in
    let more = subst (λ z. has_unsynced z ≡ true) (sym is) now in
    subst (λ z. length z.records ≡ z.synced + 1) is (omega (arith, ltb-false x.synced (length x.records) before, ltb-true x.synced (length (x.records ++ rs)) more, length-append x.records rs, few))
one_added rs (x ∷ xs) (suc l) g few at before now = one_added rs xs l g few at before now

-- what was synced has nothing to sync
none_left : (xs : List Log) (l : ℕ) (g : Log) → slice_get (slice_set xs l (synced (slice_index_or xs l no_log))) l ≡ Some g → has_unsynced g ≡ true → ⊥
none_left [] l g at now = cc at
none_left (x ∷ xs) zero g at now =
    let more = subst (λ z. has_unsynced z ≡ true) (sym (same_Some (synced x) g at)) now in
    omega (arith, ltb-true (length x.records) (length x.records) more)
none_left (x ∷ xs) (suc l) g at now = none_left xs l g at now

few_commits : (c : ℕ) (o : Option Act) → length (act_commit c o) ≤ 1
few_commits c None = omega arith
few_commits c (Some x) = by (is_value x.result) (ActDone x.tid x.m c (value_of x.result) (ascending (map (λ p. p.actor) x.places)) ∷ []) (omega arith)
  where
    by : (b : Bool) (rs : List LogRecord) → length rs ≤ 1 → length (if b then rs else []) ≤ 1
    by true rs h = h
    by false rs h = omega arith

was_synced : (w : Fixed Rest) (e : Event) (s : Machine Rest) (l : ℕ) → is_new w e s (Sync l) ≡ true → holds has_unsynced (slice_get s.logs l) ≡ false
unfolding refusal conditions
was_synced w e s l q = by (holds has_unsynced (slice_get s.logs l)) (new_was_refused w e s (Sync l) q)
  where
    by : (b : Bool) → (first_false 1 (b ∷ []) == 0) ≡ false → b ≡ false
    by true h = absurd (true≢false h)
    by false h = refl

module _ (w : Fixed Rest) (s : Machine Rest) (es : List Event) (at_hand : List (Option LogList)) (l : ℕ) (g : Log) (now : has_unsynced g ≡ true) where
  -- where records were added
  added_listed : (e : Event) (m : ℕ) (rs : List LogRecord) → length rs ≤ 1 → is_new w e s (Sync l) ≡ true → AreLogs at_hand (adds s m rs) → slice_get (adds s m rs) l ≡ Some g → (m == l) ≡ true → Among (only (is_lone_in (slice_get at_hand m)) (Sync m)) es → Contains es (Sync l)
  added_listed e m rs few q shown at here more =
      let is = eqb-true m l here in
      let one = one_added rs s.logs l g few (subst (λ n. slice_get (adds s n rs) l ≡ Some g) is at) (was_synced w e s l q) now in
      subst (λ n. Among (only (is_lone_in (slice_get at_hand n)) (Sync n)) es) is more (Sync l)
      (where_so (is_lone_in (slice_get at_hand l)) (Sync l) (lone_shown at_hand (adds s m rs) l g shown at one))

  sync_listed : (e : Event) → is_new w e s (Sync l) ≡ true → is_touched w e s (Sync l) ≡ true → AreLogs at_hand (after w e s).logs → slice_get (after w e s).logs l ≡ Some g → Among (logs_listed w.text.logs at_hand e) es → Contains es (Sync l)
  unfolding after
  sync_listed (Form k) q t shown at more = added_listed (Form k) (k % w.text.logs) (BatchInfo k (next_actors w.text s.ring) (map (λ p. p.tid) (next_pacts w.text s.ring)) ∷ []) (omega arith) q shown at t more
  sync_listed (Complete k a) q t shown at more = added_listed (Complete k a) (a % w.text.logs) (BatchComplete k a (cell_at s a).state ∷ []) (omega arith) q shown at t more
  sync_listed (Sync m) q t shown at more =
      absurd (none_left s.logs l g (subst (λ n. slice_get (slice_set s.logs n (synced (log_at s n))) l ≡ Some g) (eqb-true m l t) at) now)
  sync_listed (Commit k) q t shown at more = added_listed (Commit k) (k % w.text.logs) (BatchDone k (values_of (batch_of k s.desk.batches)) ∷ []) (omega arith) q shown at t more
  sync_listed (Prepare u a) q t shown at more = added_listed (Prepare u a) (a % w.text.logs) (ActPrepare u a (cell_at s a).state ∷ []) (omega arith) q shown at t more
  sync_listed (Decide u) q t shown at more = added_listed (Decide u) (u % w.text.logs) (act_commit s.book.next_c (act_of u s.book.acts)) (few_commits s.book.next_c (act_of u s.book.acts)) q shown at t more
  sync_listed (Abort k) q t shown at more = absurd (true≢false (sym (subst (λ o. holds has_unsynced o ≡ true) (sym at) now) ∙ was_synced w (Abort k) s l q))
  sync_listed _ q t shown at more = no t

pub logs_told : (w : Fixed Rest) (e : Event) (s : Machine Rest) (es : List Event) (at_hand : List (Option LogList)) → AreLogs at_hand (after w e s).logs → Among (logs_listed w.text.logs at_hand e) es
    → (l : ℕ) (g : Log) → slice_get (after w e s).logs l ≡ Some g → LogTells (is_new w e s) l g es
logs_told w e s es at_hand shown more l g at q now = sync_listed w s es at_hand l g now e q (new_is_touched w e s (Sync l) q) shown at more
