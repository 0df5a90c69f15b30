-- What is listed of replies tells what is new there, by what holds of the state before the event.
use Rattle.std.specs.Prelude.{◌≡◌, refl, ℕ, ◌≤◌, ◌==◌, not, Bool, true, false, ◌&&◌, if◌then◌else◌, is_some, Option, Some, None, List, [], ◌∷◌, ◌++◌, length, map, slice_get, Contains}
use Rattle.std.specs.List.{list_any, AllByRecursion}
use Rattle.std.proofs.Common.{sym, subst, ◌∙◌}
use Rattle.std.proofs.lemmas.Bool.{true≢false}
use Rattle.aml_slice.specs.Controls.{Rest}
use Rattle.ready_listing.specs.Listed.{of_reply}
use Rattle.ready_listing.proofs.Lists.{first_of_all, in_flat_map}
use Rattle.protocol.specs.Conditions.{conditions, refusal, may_leave}
use Rattle.protocol.specs.Effects.{after, cell_at}
use Rattle.protocol.specs.Events.{Event, Admit, End, Settle, Decide, Seal, Reply}
use Rattle.protocol.specs.Fixed.{Fixed, Next, Go, Ended}
use Rattle.protocol.specs.Numbers.{from, times}
use Rattle.protocol.specs.OnBook as book
use Rattle.protocol.specs.OnDesk as desk
use Rattle.protocol.specs.Parts.{Act, Book, Cascade, Batch, Desk, Outcome, Machine}
use Rattle.protocol.specs.Verdicts.{or_else, verdict, verdict_of_pact, verdict_of_act}
use Rattle.protocol.specs.Words.{holds, act_of, batch_of, has_act, outcome_of, is_settled}
use Rattle.protocol_ready.specs.Touched.{is_touched}
use Rattle.listing_facts.specs.batch_table.Listed.{txs_at}
use Rattle.book_part.specs.order_book.Asked.{tx_of}
use Rattle.ready_news.specs.InAnswers.{replies_of, of_tx, of_tx_if, of_over, of_txs}
use Rattle.ready_news.specs.New.{is_new}
use Rattle.ready_news.proofs.Common.{new_was_refused}
use Rattle.ready_news.proofs.Replies.{either_some, first_some, added_same, named_is, tx_changed, batch_has, txs_settled, pacts_same, acts_same, acts_quiet}

-- ---- what was refused before had no verdict

reply_was : (w : Fixed Rest) (s : Machine Rest) (n : ℕ) → holds not (slice_get s.desk.replied n) ≡ true → is_some (verdict n s.book s.desk) ≡ true → (refusal w (Reply n) s == 0) ≡ true
unfolding refusal conditions
reply_was w s n h g = rw (h, g) refl

pub was_none : {X : Type 0} (w : Fixed Rest) (e : Event) (s : Machine Rest) (n : ℕ) → is_new w e s (Reply n) ≡ true → holds not (slice_get s.desk.replied n) ≡ true → is_some (verdict n s.book s.desk) ≡ true → X
was_none w e s n q h g = absurd (true≢false (sym (reply_was w s n h g) ∙ new_was_refused w e s (Reply n) q))

pub reply_in : (b : Book) (t n : ℕ) → tx_of (act_of t b.acts) ≡ Some n → Contains (of_tx b t) (Reply n)
reply_in b t n e = subst (λ o. Contains (replies_of o) (Reply n)) (sym e) (first_of_all [] (Reply n))

pub over_in : (b : Book) (t n : ℕ) → may_leave t b.acts ≡ true → tx_of (act_of t b.acts) ≡ Some n → Contains (of_over b t) (Reply n)
over_in b t n over e = subst (λ c. Contains (of_tx_if c b t) (Reply n)) (sym over) (reply_in b t n e)

pub txs_in : (d : Desk) (k n : ℕ) → Contains (txs_at (batch_of k d.batches)) n → Contains (of_txs d k) (Reply n)
txs_in d k n c = in_flat_map of_reply (txs_at (batch_of k d.batches)) n (Reply n) c (first_of_all [] (Reply n))

-- ---- an event that changes one ACT

-- a change of ACT t, where the batches and the cascades stay: it is given up or sealed then, and it is the one that is meant
pub one_changed : (w : Fixed Rest) (e : Event) (s : Machine Rest) (t n : ℕ) (f : Act → Act) → ((x : Act) → (f x).tid ≡ x.tid) → ((x : Act) → (f x).tx ≡ x.tx) → times t (map (λ x. x.tid) s.book.acts) ≤ 1
    → is_new w e s (Reply n) ≡ true → holds not (slice_get s.desk.replied n) ≡ true
    → is_some (or_else (verdict_of_pact s.book.cascades n s.desk.batches) (verdict_of_act n (book.changed_act t f s.book.acts))) ≡ true
    → (may_leave t (book.changed_act t f s.book.acts) ≡ true) × (tx_of (act_of t (book.changed_act t f s.book.acts)) ≡ Some n)
one_changed w e s t n f i j once q h v = by (list_any (λ x. (x.tid == t) && (x.tx == n)) s.book.acts) (may_leave t (book.changed_act t f s.book.acts)) refl refl
  where
    none : {X : Type 0} → (is_some (verdict_of_act n (book.changed_act t f s.book.acts)) ≡ true → is_some (verdict_of_act n s.book.acts) ≡ true) → X
    none k = was_none w e s n q h (either_some (verdict_of_pact s.book.cascades n s.desk.batches) (verdict_of_act n (book.changed_act t f s.book.acts)) (verdict_of_act n s.book.acts) k v)

    by : (c d : Bool) → list_any (λ x. (x.tid == t) && (x.tx == n)) s.book.acts ≡ c → may_leave t (book.changed_act t f s.book.acts) ≡ d → (may_leave t (book.changed_act t f s.book.acts) ≡ true) × (tx_of (act_of t (book.changed_act t f s.book.acts)) ≡ Some n)
    by true true g over = (over, tx_changed t t f s.book.acts i j ∙ named_is t n s.book.acts once g)
    by false true g over = none (acts_same n t f s.book.acts j g)
    by c false g over = none (acts_quiet n t f s.book.acts i j once over)

pub sealed_told : (w : Fixed Rest) (s : Machine Rest) (t n : ℕ) → times t (map (λ x. x.tid) s.book.acts) ≤ 1 → is_new w (Seal t) s (Reply n) ≡ true → holds not (slice_get (after w (Seal t) s).desk.replied n) ≡ true
    → is_some (verdict n (after w (Seal t) s).book (after w (Seal t) s).desk) ≡ true → Contains (of_over (after w (Seal t) s).book t) (Reply n)
unfolding after
sealed_told w s t n once q h v =
    let it = one_changed w (Seal t) s t n book.sealed (λ x. refl) (λ x. refl) once q h v in
    over_in (book.act_sealed t s.book) t n it.0 it.1

pub decided_told : (w : Fixed Rest) (s : Machine Rest) (t n : ℕ) → times t (map (λ x. x.tid) s.book.acts) ≤ 1 → is_new w (Decide t) s (Reply n) ≡ true → holds not (slice_get (after w (Decide t) s).desk.replied n) ≡ true
    → is_some (verdict n (after w (Decide t) s).book (after w (Decide t) s).desk) ≡ true → Contains (of_over (after w (Decide t) s).book t) (Reply n)
unfolding after
decided_told w s t n once q h v =
    let it = one_changed w (Decide t) s t n (book.decided_as s.book.next_c) (λ x. refl) (λ x. refl) once q h v in
    over_in (book.act_decided t s.book) t n it.0 it.1

-- ---- an ACT that begins

pub admitted_told : {X : Type 0} (w : Fixed Rest) (s : Machine Rest) (t n : ℕ) → is_new w (Admit t) s (Reply n) ≡ true → holds not (slice_get (after w (Admit t) s).desk.replied n) ≡ true → is_some (verdict n (after w (Admit t) s).book (after w (Admit t) s).desk) ≡ true → X
unfolding after
admitted_told w s t n q h v = was_none w (Admit t) s n q h (either_some (verdict_of_pact s.book.cascades n s.desk.batches) (verdict_of_act n (s.book.acts ++ _ ∷ [])) (verdict_of_act n s.book.acts) (added_same n _ s.book.acts refl) v)

-- ---- a batch that settles

pub settled_told : (w : Fixed Rest) (s : Machine Rest) (k n low : ℕ) → map (λ b. b.bid) s.desk.batches ≡ from low (length s.desk.batches) → is_touched w (Settle k) s (Reply n) ≡ true → Contains (of_txs (after w (Settle k) s).desk k) (Reply n)
unfolding after
settled_told w s k n low bids h =
    txs_in (desk.batch_settled k s.desk) k n (subst (λ ns. Contains ns n) (sym (txs_settled k _ s.desk.batches)) (batch_has k low n s.desk.batches bids h))

-- ---- a transaction that ends

module _ (n t : ℕ) (cs : List Cascade) (bs : List Batch) (results : AllByRecursion (λ b. is_settled b.stage ≡ true → AllByRecursion (λ p. is_some p.result ≡ true) b.pacts) bs) where
  next_same : (x : Next Rest) → is_some (verdict_of_pact cs n (desk.noted_for t x bs)) ≡ true → is_some (verdict_of_pact cs n bs) ≡ true
  next_same (Go b c) h = h
  next_same (Ended r) h = pacts_same cs n t r bs results h

  from_same : (o : Option (Outcome Rest)) → is_some (verdict_of_pact cs n (desk.noted_from t o bs)) ≡ true → is_some (verdict_of_pact cs n bs) ≡ true
  from_same None h = h
  from_same (Some x) h = next_same x.next h

  pub ended_same : (is_act : Bool) (o : Option (Outcome Rest)) → is_some (verdict_of_pact cs n (if is_act then bs else desk.noted_from t o bs)) ≡ true → is_some (verdict_of_pact cs n bs) ≡ true
  ended_same true o h = h
  ended_same false o h = from_same o h

module _ (n t : ℕ) (acts : List Act) where
  act_next : (x : Next Rest) → list_any (λ x. (x.tid == t) && (x.tx == n)) acts ≡ false → is_some (verdict_of_act n (book.noted_for t x acts)) ≡ true → is_some (verdict_of_act n acts) ≡ true
  act_next (Go b c) g h = h
  act_next (Ended r) g h = acts_same n t (book.with_result r) acts (λ x. refl) g h

  act_from : (o : Option (Outcome Rest)) → list_any (λ x. (x.tid == t) && (x.tx == n)) acts ≡ false → is_some (verdict_of_act n (book.noted_from t o acts)) ≡ true → is_some (verdict_of_act n acts) ≡ true
  act_from None g h = h
  act_from (Some x) g h = act_next x.next g h

  pub act_ended_same : (is_act : Bool) (o : Option (Outcome Rest)) → list_any (λ x. (x.tid == t) && (x.tx == n)) acts ≡ false → is_some (verdict_of_act n (if is_act then book.noted_from t o acts else acts)) ≡ true → is_some (verdict_of_act n acts) ≡ true
  act_ended_same true o g h = act_from o g h
  act_ended_same false o g h = h

  module _ (once : times t (map (λ x. x.tid) acts) ≤ 1) where
    quiet_next : (x : Next Rest) → may_leave t (book.noted_for t x acts) ≡ false → is_some (verdict_of_act n (book.noted_for t x acts)) ≡ true → is_some (verdict_of_act n acts) ≡ true
    quiet_next (Go b c) g h = h
    quiet_next (Ended r) g h = acts_quiet n t (book.with_result r) acts (λ x. refl) (λ x. refl) once g h

    quiet_from : (o : Option (Outcome Rest)) → may_leave t (book.noted_from t o acts) ≡ false → is_some (verdict_of_act n (book.noted_from t o acts)) ≡ true → is_some (verdict_of_act n acts) ≡ true
    quiet_from None g h = h
    quiet_from (Some x) g h = quiet_next x.next g h

    pub act_ended_quiet : (is_act : Bool) (o : Option (Outcome Rest)) → may_leave t (if is_act then book.noted_from t o acts else acts) ≡ false → is_some (verdict_of_act n (if is_act then book.noted_from t o acts else acts)) ≡ true → is_some (verdict_of_act n acts) ≡ true
    act_ended_quiet true o g h = quiet_from o g h
    act_ended_quiet false o g h = h

  tx_next : (x : Next Rest) → tx_of (act_of t (book.noted_for t x acts)) ≡ tx_of (act_of t acts)
  tx_next (Go b c) = refl
  tx_next (Ended r) = tx_changed t t (book.with_result r) acts (λ x. refl) (λ x. refl)

  tx_from : (o : Option (Outcome Rest)) → tx_of (act_of t (book.noted_from t o acts)) ≡ tx_of (act_of t acts)
  tx_from None = refl
  tx_from (Some x) = tx_next x.next

  pub tx_ended : (is_act : Bool) (o : Option (Outcome Rest)) → tx_of (act_of t (if is_act then book.noted_from t o acts else acts)) ≡ tx_of (act_of t acts)
  tx_ended true o = tx_from o
  tx_ended false o = refl

pub ended_told : (w : Fixed Rest) (s : Machine Rest) (t a n : ℕ) → times t (map (λ x. x.tid) s.book.acts) ≤ 1 → AllByRecursion (λ b. is_settled b.stage ≡ true → AllByRecursion (λ p. is_some p.result ≡ true) b.pacts) s.desk.batches
    → is_new w (End t a) s (Reply n) ≡ true → holds not (slice_get (after w (End t a) s).desk.replied n) ≡ true → is_some (verdict n (after w (End t a) s).book (after w (End t a) s).desk) ≡ true → Contains (of_over (after w (End t a) s).book t) (Reply n)
unfolding after
ended_told w s t a n once results q h v = by (list_any (λ x. (x.tid == t) && (x.tx == n)) s.book.acts) (may_leave t (book.act_ended t (has_act t (cell_at s a).entries) (outcome_of t (cell_at s a).outbox) s.book).acts) refl refl
  where
    none : {X : Type 0} → (is_some (verdict_of_act n (if has_act t (cell_at s a).entries then book.noted_from t (outcome_of t (cell_at s a).outbox) s.book.acts else s.book.acts)) ≡ true → is_some (verdict_of_act n s.book.acts) ≡ true) → X
    none k =
        let pacts = verdict_of_pact s.book.cascades n s.desk.batches in
        let acts = verdict_of_act n (if has_act t (cell_at s a).entries then book.noted_from t (outcome_of t (cell_at s a).outbox) s.book.acts else s.book.acts) in
        was_none w (End t a) s n q h
        (either_some pacts acts (verdict_of_act n s.book.acts) k
        (first_some (verdict_of_pact s.book.cascades n (if has_act t (cell_at s a).entries then s.desk.batches else desk.noted_from t (outcome_of t (cell_at s a).outbox) s.desk.batches)) pacts acts (ended_same n t s.book.cascades s.desk.batches results (has_act t (cell_at s a).entries) (outcome_of t (cell_at s a).outbox)) v))

    by : (c d : Bool) → list_any (λ x. (x.tid == t) && (x.tx == n)) s.book.acts ≡ c → may_leave t (book.act_ended t (has_act t (cell_at s a).entries) (outcome_of t (cell_at s a).outbox) s.book).acts ≡ d
        → Contains (of_over (book.act_ended t (has_act t (cell_at s a).entries) (outcome_of t (cell_at s a).outbox) s.book) t) (Reply n)
    by true true g over = over_in (book.act_ended t (has_act t (cell_at s a).entries) (outcome_of t (cell_at s a).outbox) s.book) t n over (tx_ended n t s.book.acts (has_act t (cell_at s a).entries) (outcome_of t (cell_at s a).outbox) ∙ named_is t n s.book.acts once g)
    by false true g over = none (act_ended_same n t s.book.acts (has_act t (cell_at s a).entries) (outcome_of t (cell_at s a).outbox) g)
    by c false g over = none (act_ended_quiet n t s.book.acts once (has_act t (cell_at s a).entries) (outcome_of t (cell_at s a).outbox) over)
