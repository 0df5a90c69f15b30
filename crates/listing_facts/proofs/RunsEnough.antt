-- What the book lists, and which replies are due, after every run.
use Rattle.std.specs.Prelude.{◌≡◌, refl, ℕ, ◌+◌, ◌<◌, ◌≤◌, ◌==◌, nat_lt, nat_le, not, Bool, true, false, ◌&&◌, ◌||◌, if◌then◌else◌, is_some, Option, Some, None, List, [], ◌∷◌, ◌++◌, ◌⊎◌, length, map, filter, find, Contains}
use Rattle.std.specs.List.{list_all}
use Rattle.std.proofs.Common.{arith, sym, ap, subst, inl, inr, ◌∙◌}
use Rattle.std.proofs.lemmas.Bool.{eqb-true, eq-eqb, and_parts, true≢false, cases_Bool, ltb-true}
use Rattle.protocol.specs.Fixed.{Fixed}
use Rattle.protocol.specs.Parts.{Status, Live, Doomed, Decided, Sealed, Joined, Act, Book, Cascade, Pact, Batch, Machine}
use Rattle.protocol.specs.Events.{Event}
use Rattle.protocol.specs.Words.{holds, is_empty, below, covers, act_of, joined_of, is_value, is_doomed, is_decided, is_sealed, is_live_status, is_live_act}
use Rattle.protocol.specs.Numbers.{flat, times, one_if, once_in, txs_in, TransactionsInOnePlace}
use Rattle.protocol.specs.Verdicts.{or_else, pact_verdict, act_verdict, verdict_in_batch, verdict_of_pact, verdict_of_act, verdict}
use Rattle.protocol_theorems.specs.BookFits.{actors_at}
use Rattle.protocol_records.specs.Overs.{EndsWhole}
use Rattle.protocol_ready.specs.Telling.{BookTells, AnswersTell}
use Rattle.protocol_ready.proofs.Listing.{Has, from_has, has_left, has_right, has_map, has_filter, has_below, held, found_in}
use Rattle.batch_table.specs.Listed.{is_unreplied, unreplied_below}
use Rattle.book_part.specs.Listed.{live_tids}
use Rattle.listing_facts.specs.Listing.{BookLists, AnswersList}
use Rattle.listing_facts.proofs.PartsEnough.{some_not}

-- ---- ACTs

live_has : (t : ℕ) (b : Book) (x : Act) → act_of t b.acts ≡ Some x → is_live_act x ≡ true → Contains (live_tids b) t
live_has t b x e l =
    let r = found_in (λ x. x.tid == t) b.acts x e in
    from_has (live_tids b) t (subst (λ n. Has (live_tids b) n) (eqb-true x.tid t r.1) (has_map (λ x. x.tid) (filter is_live_act b.acts) x (has_filter is_live_act b.acts x r.0 l)))

place_has : (t a : ℕ) (b : Book) (x : Act) (p : Joined) → act_of t b.acts ≡ Some x → joined_of a x ≡ Some p → Contains (actors_at (act_of t b.acts)) a
place_has t a b x p e f =
    let r = found_in (λ p. p.actor == a) x.places p f in
    subst (λ o. Contains (actors_at o) a) (sym e) (from_has (map (λ p. p.actor) x.places) a (subst (λ n. Has (map (λ p. p.actor) x.places) n) (eqb-true p.actor a r.1) (has_map (λ p. p.actor) x.places p r.0)))

undecided_goes_on : (st : Status) → is_live_status st ≡ true → (is_doomed st || is_sealed st) ≡ true → ⊥
undecided_goes_on Live h e = true≢false (sym e)
undecided_goes_on (Doomed why) h e = true≢false (sym h)
undecided_goes_on (Decided c) h e = true≢false (sym h)
undecided_goes_on (Sealed c) h e = true≢false (sym h)

decided_goes_on : (st : Status) → is_decided st ≡ true → (is_doomed st || is_sealed st) ≡ true → ⊥
decided_goes_on Live h e = true≢false (sym h)
decided_goes_on (Doomed why) h e = true≢false (sym h)
decided_goes_on (Decided c) h e = true≢false (sym e)
decided_goes_on (Sealed c) h e = true≢false (sym h)

undoomed_is_sealed : (d s : Bool) → not d ≡ true → (d || s) ≡ true → s ≡ true
undoomed_is_sealed true s n e = absurd (true≢false (sym n))
undoomed_is_sealed false s n e = e

-- who can't be over is live
unless_over : (x : Act) → ((is_live_act x ≡ false) → ⊥) → is_live_act x ≡ true
unless_over x h = elim (cases_Bool (is_live_act x)) [ inl l ↦ l | inr f ↦ absurd (h f) ]

unfinished_live : (x : Act) (a : ℕ) → holds (λ p. not p.finished) (joined_of a x) ≡ true → is_live_act x ≡ true
unfinished_live x a h = by x.places h
  where
    by : (ps : List Joined) → holds (λ p. not p.finished) (find (λ p. p.actor == a) ps) ≡ true → not (if is_empty ps then is_doomed x.status else list_all (λ p. p.finished) ps) ≡ true
    by [] g = absurd (true≢false (sym g))
    by (p ∷ ps) g = ap not (some_not (λ p. p.finished) (λ p. p.actor == a) (p ∷ ps) g)

pub book_enough : (asked : Event → Bool) (b : Book) (es : List Event) → ((t : ℕ) (x : Act) → act_of t b.acts ≡ Some x → EndsWhole x) → BookLists asked b es → BookTells asked b es
book_enough asked b es ends l = record {
  prepare = λ t a q h g.
      let x = held (λ x. is_value x.result && not (is_doomed x.status)) (act_of t b.acts) h in
      let parts = and_parts (is_value x.it.result) (not (is_doomed x.it.status)) x.does in
      let unprepared : holds (λ p. not p.prepared) (joined_of a x.it) ≡ true = subst (λ o. holds (λ x. holds (λ p. not p.prepared) (joined_of a x)) o ≡ true) x.is g in
      let p = held (λ p. not p.prepared) (joined_of a x.it) unprepared in
      let end = ends t x.it x.is in
      let live = unless_over x.it (λ f. true≢false (sym unprepared ∙ end.prepared (undoomed_is_sealed (is_doomed x.it.status) (is_sealed x.it.status) parts.1 (end.left f)) parts.0 a)) in
      (l.actors t a (live_has t b x.it x.is live) (place_has t a b x.it p.it x.is p.is)).0 q;
  vouch = λ t a q h.
      let x = held (λ x. is_live_act x && (not (is_doomed x.status) && holds (λ p. p.prepared && not p.vouched) (joined_of a x))) (act_of t b.acts) h in
      let parts = and_parts (is_live_act x.it) (not (is_doomed x.it.status) && holds (λ p. p.prepared && not p.vouched) (joined_of a x.it)) x.does in
      let rest = and_parts (not (is_doomed x.it.status)) (holds (λ p. p.prepared && not p.vouched) (joined_of a x.it)) parts.1 in
      let p = held (λ p. p.prepared && not p.vouched) (joined_of a x.it) rest.1 in
      (l.actors t a (live_has t b x.it x.is parts.0) (place_has t a b x.it p.it x.is p.is)).1 q;
  decide = λ t q h.
      let x = held (λ x. is_some x.result && is_live_status x.status) (act_of t b.acts) h in
      let parts = and_parts (is_some x.it.result) (is_live_status x.it.status) x.does in
      (l.acts t (live_has t b x.it x.is (unless_over x.it (λ f. undecided_goes_on x.it.status parts.1 ((ends t x.it x.is).left f))))).0 q;
  seal = λ t q h.
      let x = held (λ x. is_decided x.status) (act_of t b.acts) h in
      (l.acts t (live_has t b x.it x.is (unless_over x.it (λ f. decided_goes_on x.it.status x.does ((ends t x.it x.is).left f))))).1 q;
  finish = λ t a q h g.
      let x = held (λ x. holds (λ p. not p.finished) (joined_of a x)) (act_of t b.acts) g in
      let p = held (λ p. not p.finished) (joined_of a x.it) x.does in
      (l.actors t a (live_has t b x.it x.is (unfinished_live x.it a x.does)) (place_has t a b x.it p.it x.is p.is)).2 q;
}

-- ---- replies

some_either : {X : Type 0} (x y : Option X) → is_some (or_else x y) ≡ true → (is_some x ≡ true) ⊎ (is_some y ≡ true)
some_either None y h = inr h
some_either (Some x) y h = inl refl

act_with : (n : ℕ) (xs : List Act) → is_some (verdict_of_act n xs) ≡ true → Has (map (λ x. x.tx) xs) n
act_with n [] h = absurd (true≢false (sym h))
act_with n (x ∷ xs) h = by (x.tx == n) refl h (act_with n xs)
  where
    by : (v : Bool) → (x.tx == n) ≡ v → is_some (if v then act_verdict x.status x.m x.result else verdict_of_act n xs) ≡ true → (is_some (verdict_of_act n xs) ≡ true → Has (map (λ x. x.tx) xs) n) → Has (map (λ x. x.tx) (x ∷ xs)) n
    by true e g k = inl (eqb-true x.tx n e)
    by false e g k = inr (k g)

pact_in : (cascades : List Cascade) (n : ℕ) (b : Batch) (ps : List Pact) → is_some (verdict_in_batch cascades n b ps) ≡ true → Has (map (λ p. p.tx) ps) n
pact_in cascades n b [] h = absurd (true≢false (sym h))
pact_in cascades n b (p ∷ ps) h = by (p.tx == n) refl h (pact_in cascades n b ps)
  where
    by : (v : Bool) → (p.tx == n) ≡ v → is_some (if v then pact_verdict (find (covers b.bid) cascades) b p else verdict_in_batch cascades n b ps) ≡ true → (is_some (verdict_in_batch cascades n b ps) ≡ true → Has (map (λ p. p.tx) ps) n) → Has (map (λ p. p.tx) (p ∷ ps)) n
    by true e g k = inl (eqb-true p.tx n e)
    by false e g k = inr (k g)

pact_with : (cascades : List Cascade) (n : ℕ) (bs : List Batch) → is_some (verdict_of_pact cascades n bs) ≡ true → Has (flat (map (λ b. map (λ p. p.tx) b.pacts) bs)) n
pact_with cascades n [] h = absurd (true≢false (sym h))
pact_with cascades n (b ∷ bs) h =
    let txs = map (λ p. p.tx) b.pacts in
    let others = flat (map (λ b. map (λ p. p.tx) b.pacts) bs) in
    elim (some_either (verdict_in_batch cascades n b b.pacts) (verdict_of_pact cascades n bs) h) [
      | inl i ↦ has_left txs others n (pact_in cascades n b b.pacts i)
      | inr i ↦ has_right txs others n (pact_with cascades n bs i)
    ]

counted : (b : Bool) (x : ℕ) (xs : List ℕ) → length (if b then x ∷ xs else xs) ≡ one_if b + length xs
counted true x xs = omega arith
counted false x xs = omega arith

has_times : (n : ℕ) (xs : List ℕ) → Has xs n → 1 ≤ times n xs
has_times n [] h = absurd h
has_times n (x ∷ xs) (inl e) = omega (arith, counted (x == n) x (filter (λ x. x == n) xs), ap one_if (eq-eqb x n e))
has_times n (x ∷ xs) (inr h) = omega (arith, counted (x == n) x (filter (λ x. x == n) xs), has_times n xs h)

once_below : (high n : ℕ) → 1 ≤ once_in 0 high n → n < high
once_below high n h = by (nat_le 0 n) (nat_lt n high) refl h
  where
    by : (a b : Bool) → nat_lt n high ≡ b → 1 ≤ one_if (a && b) → n < high
    by true true e i = ltb-true n high e
    by true false e i = absurd (omega (arith, i))
    by false b e i = absurd (omega (arith, i))

submitted : {C : Type 0} (w : Fixed C) (s : Machine C) (n : ℕ) → TransactionsInOnePlace w s → is_some (verdict n s.book s.desk) ≡ true → n < s.ring.next_tx
submitted w s n once h =
    let queues = flat s.ring.pacts ++ flat s.ring.acts in
    let pacts = flat (map (λ b. map (λ p. p.tx) b.pacts) s.desk.batches) in
    let acts = map (λ x. x.tx) s.book.acts in
    let there : Has (txs_in s) n = has_right queues (pacts ++ acts) n
    (elim (some_either (verdict_of_pact s.book.cascades n s.desk.batches) (verdict_of_act n s.book.acts) h) [
      | inl i ↦ has_left pacts acts n (pact_with s.book.cascades n s.desk.batches i)
      | inr i ↦ has_right pacts acts n (act_with n s.book.acts i)
    ]) in
    once_below s.ring.next_tx n (omega (arith, has_times n (txs_in s) there, once n))

pub answers_enough : {C : Type 0} (w : Fixed C) (s : Machine C) (asked : Event → Bool) (es : List Event) → TransactionsInOnePlace w s → AnswersList asked s.ring.next_tx s.desk es → AnswersTell asked s.book s.desk es
answers_enough w s asked es once l = λ n q h v.
    let low = submitted w s n once v in
    l n (from_has (unreplied_below s.ring.next_tx s.desk.replied) n (has_filter (is_unreplied s.desk.replied) (below s.ring.next_tx) n (has_below n s.ring.next_tx low) h)) q
