-- What is listed of replies tells what is new there.
use Rattle.std.specs.Prelude.{◌≡◌, refl, ℕ, ◌+◌, ◌-◌, ◌≤◌, ◌==◌, nat_le, not, Bool, true, false, ◌&&◌, ◌||◌, is_some, Option, Some, None, List, [], ◌∷◌, ◌++◌, length, map, slice_get, slice_set, Contains}
use Rattle.std.specs.List.{list_any}
use Rattle.std.proofs.Common.{arith, sym, ap, subst, inl, inr, ◌∙◌}
use Rattle.std.proofs.lemmas.Bool.{false≢true, and_parts, or_cases, or_left, or_right, both_ways, eqb-true, eq-eqb, leb-true}
use Rattle.std.proofs.lemmas.List.Elements.{Contains-append_left, Contains-append_right, Contains-append_cases}
use Rattle.aml_slice.specs.Controls.{Rest}
use Rattle.ready_listing.proofs.Lists.{in_flat_map}
use Rattle.protocol.specs.Conditions.{IsAllowed, conditions, may_leave}
use Rattle.protocol.specs.Effects.{after, cell_at}
use Rattle.protocol.specs.Events.{Event, Form, Admit, Arrive, Ask, End, Settle, Abort, Decide, Seal, Reply}
use Rattle.protocol.specs.Fixed.{Fixed, base}
use Rattle.protocol.specs.Numbers.{from, times}
use Rattle.protocol.specs.OnBook as book
use Rattle.protocol.specs.OnDesk as desk
use Rattle.protocol.specs.Parts.{Ring, Book, Desk, Machine}
use Rattle.protocol.specs.Rivals.{Lock}
use Rattle.protocol.specs.Verdicts.{or_else, verdict, verdict_of_act, verdict_of_pact, died}
use Rattle.protocol.specs.Words.{holds, act_of}
use Rattle.protocol_ready.specs.Telling.{AnswersTell}
use Rattle.protocol_ready.specs.Touched.{is_touched, asked_verdict}
use Rattle.protocol_ready.proofs.Again.{put_fails}
use Rattle.protocol_ready.proofs.Listing.{Has, any_of, from_has, has_map}
use Rattle.book_part.specs.order_book.Asked.{tx_of}
use Rattle.ready_news.specs.InAnswers.{of_over, of_txs, of_given_up, of_later, of_batches, of_acts, by_answers}
use Rattle.ready_news.specs.New.{is_new}
use Rattle.ready_news.proofs.AfterRuns.{Holding, on_schedule}
use Rattle.ready_news.proofs.Asking.{behind_at, group_at, older_at}
use Rattle.ready_news.proofs.Common.{Among, new_is_touched}
use Rattle.ready_news.proofs.Cascading.{cascade_tells, is_above, is_cut, is_from, is_within}
use Rattle.ready_news.proofs.NewBatch.{formed_told}
use Rattle.ready_news.proofs.GivenUp.{Known, arrival_listed, ask_listed, fallen_listed}
use Rattle.ready_news.proofs.NewReplies.{over_in, txs_in, was_none, sealed_told, decided_told, admitted_told, settled_told, ended_told}
use Rattle.ready_news.proofs.Replies.{acts_quiet, batch_has, either_some, named_is, tx_changed}

either : (a b : Bool) → (a || b) ≡ true → (b ≡ true → ⊥) → a ≡ true
either a b h n = elim (or_cases a b h) [ inl x ↦ x | inr y ↦ absurd (n y) ]

-- ---- an arrival, and an ask

arrived_told : (w : Fixed Rest) (s : Machine Rest) (k a n : ℕ) → Holding w s → ((t : ℕ) → times t (map (λ y. y.tid) (after w (Arrive k a) s).book.acts) ≤ 1) → is_touched w (Arrive k a) s (Reply n) ≡ true → Contains (of_given_up (after w (Arrive k a) s).book) (Reply n)
unfolding after
arrived_told w s k a n h once touched =
    let tids = book.tids_on (cell_at s a).entries in
    arrival_listed s.book.acts h.known k a tids (book.batch_arrived k a tids s.book) refl once (λ x among e. h.stand a x.tid x (on_schedule x.tid (cell_at s a).entries among) e) n touched

asked_as : (o : Option ℕ) (group : List Lock) (t a m n : ℕ) (b c : Book) (d : Desk) → Known b.acts → c.acts ≡ book.asked_acts o group t a m b → ((u : ℕ) → times u (map (λ y. y.tid) c.acts) ≤ 1) → asked_verdict o group t a m b n ≡ true
    → is_some (or_else (verdict_of_pact b.cascades n d.batches) (verdict_of_act n c.acts)) ≡ true → (is_some (or_else (verdict_of_pact b.cascades n d.batches) (verdict_of_act n b.acts)) ≡ true → ⊥) → Contains (of_over c t ++ of_given_up c) (Reply n)
asked_as (Some older) group t a m n b c d known e once named v not_before = by (may_leave t c.acts) refl
  where
    same : tx_of (act_of t c.acts) ≡ Some n
    same = ap (λ xs. tx_of (act_of t xs)) e ∙ (tx_changed t t (book.doomed_by (died a older t)) b.acts (λ x. refl) (λ x. refl) ∙ named_is t n b.acts (known.once t) named)

    quiet : may_leave t c.acts ≡ false → is_some (verdict_of_act n c.acts) ≡ true → is_some (verdict_of_act n b.acts) ≡ true
    quiet g h = acts_quiet n t (book.doomed_by (died a older t)) b.acts (λ x. refl) (λ x. refl) (known.once t) (subst (λ xs. may_leave t xs ≡ false) e g) (subst (λ xs. is_some (verdict_of_act n xs) ≡ true) e h)

    by : (k : Bool) → may_leave t c.acts ≡ k → Contains (of_over c t ++ of_given_up c) (Reply n)
    by true g = Contains-append_left (of_over c t) (of_given_up c) (Reply n) (over_in c t n g same)
    by false g = absurd (not_before (either_some (verdict_of_pact b.cascades n d.batches) (verdict_of_act n c.acts) (verdict_of_act n b.acts) (quiet g) v))
asked_as None group t a m n b c d known e once named v not_before =
    Contains-append_right (of_over c t) (of_given_up c) (Reply n) (ask_listed b.acts known (b.pairs ++ book.new_pairs t a group b.acts) t a m c e once n named)

asked_told : (w : Fixed Rest) (s : Machine Rest) (t a n : ℕ) → Holding w s → ((u : ℕ) → times u (map (λ y. y.tid) (after w (Ask t a) s).book.acts) ≤ 1) → is_new w (Ask t a) s (Reply n) ≡ true → holds not (slice_get (after w (Ask t a) s).desk.replied n) ≡ true
    → is_some (verdict n (after w (Ask t a) s).book (after w (Ask t a) s).desk) ≡ true → Contains (of_over (after w (Ask t a) s).book t ++ of_given_up (after w (Ask t a) s).book) (Reply n)
unfolding after
asked_told w s t a n before once q h v =
    let older = older_at t a s in
    let group = group_at t a s in
    let m = behind_at t a s in
    asked_as older group t a m n s.book (book.act_asked older group t a m s.book) s.desk before.known refl once (new_is_touched w (Ask t a) s (Reply n) q) v (λ g. was_none w (Ask t a) s n q h g)

-- ---- a cascade

any_has : {X : Type 0} (p : X → Bool) (xs : List X) (x : X) → Has xs x → p x ≡ true → list_any p xs ≡ true
any_has p [] x h e = absurd h
any_has p (y ∷ ys) x (inl i) e = or_left (p y) (list_any p ys) (ap p i ∙ e)
any_has p (y ∷ ys) x (inr h) e = or_right (p y) (list_any p ys) (any_has p ys x h e)

cut_told : (d : Desk) (k n low next : ℕ) → map (λ b. b.bid) d.batches ≡ from low (length d.batches) → next ≡ low + length d.batches → map (λ b. b.bid) (map (desk.taken k) d.batches) ≡ from low (length (map (desk.taken k) d.batches)) → list_any (is_cut k n) d.batches ≡ true
    → Contains (of_later k next (desk.batches_aborted k d)) (Reply n)
cut_told d k n low next bids is later h =
    let b = any_of (is_cut k n) d.batches h in
    let parts = and_parts (nat_le k b.it.bid) (list_any (λ p. p.tx == n) b.it.pacts) b.does in
    let within = is_within low b.it d.batches bids b.has in
    let number : Contains (from k (next - k)) b.it.bid = from_has (from k (next - k)) b.it.bid (is_from k next b.it.bid (leb-true k b.it.bid parts.0) (omega (arith, within.1, is))) in
    let named = any_has (λ c. (c.bid == b.it.bid) && list_any (λ p. p.tx == n) c.pacts) (map (desk.taken k) d.batches) (desk.taken k b.it) (has_map (desk.taken k) d.batches b.it b.has) (rw (eq-eqb b.it.bid b.it.bid refl) parts.1) in
    let tx = batch_has b.it.bid low n (map (desk.taken k) d.batches) later named in
    in_flat_map (of_txs (desk.batches_aborted k d)) (from k (next - k)) b.it.bid (Reply n) number (txs_in (desk.batches_aborted k d) b.it.bid n tx)

aborted_told : (w : Fixed Rest) (s : Machine Rest) (k n : ℕ) → IsAllowed w (Abort k) s → Holding w s → Holding w (after w (Abort k) s)
    → is_new w (Abort k) s (Reply n) ≡ true → holds not (slice_get (after w (Abort k) s).desk.replied n) ≡ true → is_some (verdict n (after w (Abort k) s).book (after w (Abort k) s).desk) ≡ true
    → Contains (of_later k (after w (Abort k) s).ring.next_bid (after w (Abort k) s).desk ++ of_given_up (after w (Abort k) s).book) (Reply n)
unfolding after conditions
aborted_told w s k n ok before later q h v =
    let low = w.text.opening.next_bid in
    let by = book.failed_tx (book.why k s.desk) in
    let b = book.batch_aborted k (s.ring.next_bid - 1) (book.why k s.desk) s.book in
    let batches = of_later k s.ring.next_bid (desk.batches_aborted k s.desk) in
    let first : low ≤ k = is_above low k _ s.desk.batches before.bids ok.0 in
    elim (cascade_tells k by n _ refl s.book.cascades s.desk.batches s.book.acts v) [
      | inl cut ↦ Contains-append_left batches (of_given_up b) (Reply n) (cut_told s.desk k n low s.ring.next_bid before.bids before.next_bid later.bids cut)
      | inr rest ↦ elim rest [
        | inl fallen ↦ Contains-append_right batches (of_given_up b) (Reply n) (fallen_listed s.book.acts before.known (base w.text) k by n before.low (omega (arith, first, before.first_bid)) b refl later.known.once fallen)
        | inr had ↦ was_none w (Abort k) s n q h had
      ]
    ]

-- ---- a reply

-- a transaction that was just answered awaits no reply
replied_no : (w : Fixed Rest) (s : Machine Rest) (m n : ℕ) → is_touched w (Reply m) s (Reply n) ≡ true → holds not (slice_get (after w (Reply m) s).desk.replied n) ≡ true → ⊥
unfolding after
replied_no w s m n touched awaits =
    let same : m ≡ n = eqb-true m n (either (m == n) false touched false≢true) in
    both_ways _ (put_fails not s.desk.replied m true refl) (subst (λ i. holds not (slice_get (slice_set s.desk.replied m true) i) ≡ true) (sym same) awaits)

-- ---- by the event

module _ (w : Fixed Rest) (s : Machine Rest) (before : Holding w s) (es : List Event) where
  pub answers_told : (e : Event) → IsAllowed w e s → Holding w (after w e s) → Among (by_answers (after w e s).ring.next_bid (after w e s).book (after w e s).desk e) es → AnswersTell (is_new w e s) (after w e s).book (after w e s).desk es
  answers_told (Form k) ok later more = λ n q h v. formed_told w s k n later q h v
  answers_told (Admit t) ok later more = λ n q h v. admitted_told w s t n q h v
  answers_told (Arrive k a) ok later more = λ n q h v. more (Reply n) (arrived_told w s k a n before later.known.once (new_is_touched w (Arrive k a) s (Reply n) q))
  answers_told (Ask t a) ok later more = λ n q h v. more (Reply n) (asked_told w s t a n before later.known.once q h v)
  answers_told (End t a) ok later more = λ n q h v. more (Reply n) (ended_told w s t a n (before.known.once t) before.results q h v)
  answers_told (Settle k) ok later more = λ n q h v. more (Reply n) (Contains-append_left (of_txs (after w (Settle k) s).desk k) [] (Reply n) (settled_told w s k n w.text.opening.next_bid before.bids (new_is_touched w (Settle k) s (Reply n) q)))
  answers_told (Abort k) ok later more = λ n q h v. more (Reply n) (aborted_told w s k n ok before later q h v)
  answers_told (Decide t) ok later more = λ n q h v. more (Reply n) (decided_told w s t n (before.known.once t) q h v)
  answers_told (Seal t) ok later more = λ n q h v. more (Reply n) (sealed_told w s t n (before.known.once t) q h v)
  answers_told (Reply m) ok later more = λ n q h v. absurd (replied_no w s m n (new_is_touched w (Reply m) s (Reply n) q) h)
  answers_told _ ok later more = λ n q h v. absurd (false≢true q)

-- the code has this number of the ring, and this desk
pub answers_shown : (w : Fixed Rest) (e : Event) (s : Machine Rest) (next : ℕ) (r : Ring) (d : Desk) (es : List Event) → IsAllowed w e s → next ≡ r.next_bid → (after w e s).ring ≡ r → (after w e s).desk ≡ d → Holding w s → Holding w (after w e s)
    → Among (of_batches next d e) es → Among (of_acts (after w e s).book e) es → AnswersTell (is_new w e s) (after w e s).book (after w e s).desk es
answers_shown w e s next r d es ok number ring same before later batches acts =
    let n : next ≡ (after w e s).ring.next_bid = number ∙ ap (λ r. r.next_bid) (sym ring) in
    let desk : Among (of_batches (after w e s).ring.next_bid (after w e s).desk e) es = subst (λ k. Among (of_batches k (after w e s).desk e) es) n (subst (λ x. Among (of_batches next x e) es) (sym same) batches) in
    answers_told w s before es e ok later (λ f c. both (of_batches (after w e s).ring.next_bid (after w e s).desk e) (of_acts (after w e s).book e) f c (desk f) (acts f))
  where
    both : (xs ys : List Event) (f : Event) → Contains (xs ++ ys) f → (Contains xs f → Contains es f) → (Contains ys f → Contains es f) → Contains es f
    both xs ys f c a b = elim (Contains-append_cases xs ys f c) [ inl x ↦ a x | inr y ↦ b y ]
