-- A submitted transaction is in one place.
use Rattle.std.specs.Prelude.{◌≡◌, refl, ℕ, zero, suc, ◌+◌, ◌<◌, ◌≤◌, ◌%◌, ◌==◌, nat_lt, not, Bool, true, false, if◌then◌else◌, List, [], ◌∷◌, ◌++◌, length, map, take, drop, replicate, slice_index_or}
use Rattle.std.proofs.Common.{arith, sym, ap, subst, mod-lt, ◌∙◌}
use Rattle.std.proofs.lemmas.List.{length-replicate}
use Rattle.std.proofs.lemmas.Bool.{eqb-true, and_parts, true≢false}
use Rattle.protocol.specs.Fixed.{Fixed, IsText, tx_at, is_pact}
use Rattle.protocol.specs.Parts.{Machine}
use Rattle.protocol.specs.Events.{Event, Submit, Form, Admit}
use Rattle.protocol.specs.Words.{is_empty}
use Rattle.protocol.specs.Conditions.{IsAllowed, conditions}
use Rattle.protocol.specs.Effects.{after}
use Rattle.protocol.specs.Runs.{opening, IsRun, reached}
use Rattle.protocol.specs.Contents.{NextTx, PactQueues, ActQueues, BatchTxs, ActTxs}
use Rattle.protocol.specs.Numbers.{flat, times, once_in, TransactionsInOnePlace}
use Rattle.protocol.specs.OnRing.{numbered, joined_at, left_at}
use Rattle.protocol_laws.proofs.first.Along.{along}
use Rattle.protocol_laws.proofs.first.Frames.{frame}
use Rattle.protocol_laws.proofs.first.Times

-- ---- over lists

pub record ArePlaced (coordinators next : ℕ) (pacts acts : List (List ℕ)) (batches : List (List ℕ)) (book : List ℕ) : Type 0 where
  pub pact_queues : length pacts ≡ coordinators
  pub act_queues : length acts ≡ coordinators
  pub each : (n : ℕ) → times n ((flat pacts ++ flat acts) ++ (flat batches ++ book)) ≡ once_in 0 next n

same : {c nt nt' : ℕ} {ps ps' qs qs' bs bs' : List (List ℕ)} {as' as'' : List ℕ} → nt' ≡ nt → ps' ≡ ps → qs' ≡ qs → bs' ≡ bs → as'' ≡ as'
    → ArePlaced c nt ps qs bs as' → ArePlaced c nt' ps' qs' bs' as''
same a b c d e h = rw (a, b, c, d, e) h

-- the sum over the four places
parted : (n : ℕ) (ps qs bs : List (List ℕ)) (xs : List ℕ) → times n ((flat ps ++ flat qs) ++ (flat bs ++ xs)) ≡ times n (flat ps) + times n (flat qs) + times n (flat bs) + times n xs
parted n ps qs bs xs = omega (arith, Times.times_append n (flat ps ++ flat qs) (flat bs ++ xs), Times.times_append n (flat ps) (flat qs), Times.times_append n (flat bs) xs)

-- one joins a queue
joins : (n x c : ℕ) (qs : List (List ℕ)) → c < length qs → times n (flat (joined_at c x qs)) ≡ times n (flat qs) + times n (x ∷ [])
joins n x c qs h = omega (arith, Times.times_set n qs c (slice_index_or qs c [] ++ x ∷ []) h, Times.times_append n (slice_index_or qs c []) (x ∷ []))

-- the first few leave it
leave : (n few c : ℕ) (qs : List (List ℕ)) → c < length qs → times n (flat (left_at c few qs)) + times n (take few (slice_index_or qs c [])) ≡ times n (flat qs)
leave n few c qs h = omega (arith, Times.times_set n qs c (drop few (slice_index_or qs c [])) h, Times.times_split n few (slice_index_or qs c []))

-- a queue that is not empty is there
is_there : (qs : List (List ℕ)) (c : ℕ) → not (is_empty (slice_index_or qs c [])) ≡ true → c < length qs
is_there [] c h = absurd (true≢false (sym h))
is_there (q ∷ qs) zero h = omega arith
is_there (q ∷ qs) (suc c) h = omega (arith, is_there qs c h)

numbered_txs : (t : ℕ) (ns : List ℕ) → map (λ p. p.tx) (numbered t ns) ≡ ns
numbered_txs t [] = refl
numbered_txs t (n ∷ ns) = rw (numbered_txs (t + 1) ns) refl

-- the first of a queue that is not empty
first_of : (q : List ℕ) → not (is_empty q) ≡ true → take 1 q ≡ slice_index_or q 0 0 ∷ []
first_of [] h = absurd (true≢false (sym h))
first_of (x ∷ q) h = refl

pub remainder : (n c : ℕ) → 1 ≤ c → n % c < c
remainder n c h = mod-lt n h

submit_pact : (c k next : ℕ) (ps qs bs : List (List ℕ)) (xs : List ℕ) → k < c → ArePlaced c next ps qs bs xs → ArePlaced c (next + 1) (joined_at k next ps) qs bs xs
submit_pact c k next ps qs bs xs lt h = record {
  pact_queues = Times.length_set ps k _ ∙ h.pact_queues;
  act_queues = h.act_queues;
  each = λ n. omega (arith, h.each n, parted n ps qs bs xs, parted n (joined_at k next ps) qs bs xs, joins n next k ps (omega (arith, lt, h.pact_queues)), Times.times_from next 1 n, Times.once_joined 0 next (next + 1) n (omega arith) (omega arith));
}

submit_act : (c k next : ℕ) (ps qs bs : List (List ℕ)) (xs : List ℕ) → k < c → ArePlaced c next ps qs bs xs → ArePlaced c (next + 1) ps (joined_at k next qs) bs xs
submit_act c k next ps qs bs xs lt h = record {
  pact_queues = h.pact_queues;
  act_queues = Times.length_set qs k _ ∙ h.act_queues;
  each = λ n. omega (arith, h.each n, parted n ps qs bs xs, parted n ps (joined_at k next qs) bs xs, joins n next k qs (omega (arith, lt, h.act_queues)), Times.times_from next 1 n, Times.once_joined 0 next (next + 1) n (omega arith) (omega arith));
}

form : (c k few next : ℕ) (ps qs bs : List (List ℕ)) (xs : List ℕ) → k < length ps → ArePlaced c next ps qs bs xs
    → ArePlaced c next (left_at k few ps) qs (bs ++ take few (slice_index_or ps k []) ∷ []) xs
form c k few next ps qs bs xs lt h = record {
  pact_queues = Times.length_set ps k _ ∙ h.pact_queues;
  act_queues = h.act_queues;
  each = λ n. omega (arith, h.each n, parted n ps qs bs xs, parted n (left_at k few ps) qs (bs ++ take few (slice_index_or ps k []) ∷ []) xs, leave n few k ps lt, Times.times_flat_append n bs (take few (slice_index_or ps k []) ∷ []), Times.times_one n (take few (slice_index_or ps k [])));
}

admit : (c k next : ℕ) (ps qs bs : List (List ℕ)) (xs : List ℕ) → k < length qs → take 1 (slice_index_or qs k []) ≡ slice_index_or (slice_index_or qs k []) 0 0 ∷ [] → ArePlaced c next ps qs bs xs
    → ArePlaced c next ps (left_at k 1 qs) bs (xs ++ slice_index_or (slice_index_or qs k []) 0 0 ∷ [])
admit c k next ps qs bs xs lt e h = record {
  pact_queues = h.pact_queues;
  act_queues = Times.length_set qs k _ ∙ h.act_queues;
  each = λ n. omega (arith, h.each n, parted n ps qs bs xs, parted n ps (left_at k 1 qs) bs (xs ++ slice_index_or (slice_index_or qs k []) 0 0 ∷ []), leave n 1 k qs lt, Times.times_append n xs (slice_index_or (slice_index_or qs k []) 0 0 ∷ []), ap (times n) e);
}

-- ---- over states

unfoldable pub Placed : {C : Type 0} → Fixed C → Machine C → Type 0
Placed w s = ArePlaced w.text.coordinators s.ring.next_tx s.ring.pacts s.ring.acts (map (λ b. map (λ p. p.tx) b.pacts) s.desk.batches) (map (λ x. x.tx) s.book.acts)

pub kept : {C : Type 0} (w : Fixed C) → IsText w.text → (e : Event) (s : Machine C) → IsAllowed w e s → Placed w s → Placed w (after w e s)
unfolding Placed conditions after
kept w text (Submit n) s ok h =
    let e : n ≡ s.ring.next_tx = eqb-true n s.ring.next_tx (and_parts (n == s.ring.next_tx) (nat_lt n (length w.text.txs)) ok.0).0 in
    let lt = remainder n w.text.coordinators text.some_coordinators in
    by (is_pact (tx_at w.text n)) n e lt
  where
    by : (pact : Bool) (n : ℕ) → n ≡ s.ring.next_tx → n % w.text.coordinators < w.text.coordinators
        → ArePlaced w.text.coordinators (s.ring.next_tx + 1) (if pact then joined_at (n % w.text.coordinators) n s.ring.pacts else s.ring.pacts) (if pact then s.ring.acts else joined_at (n % w.text.coordinators) n s.ring.acts)
        (map (λ b. map (λ p. p.tx) b.pacts) s.desk.batches) (map (λ x. x.tx) s.book.acts)
    by true n e lt = rw e (submit_pact _ (s.ring.next_tx % w.text.coordinators) s.ring.next_tx _ _ _ _ (subst (λ m. m % w.text.coordinators < w.text.coordinators) e lt) h)
    by false n e lt = rw e (submit_act _ (s.ring.next_tx % w.text.coordinators) s.ring.next_tx _ _ _ _ (subst (λ m. m % w.text.coordinators < w.text.coordinators) e lt) h)
kept w text (Form k) s ok h =
    rw (Times.map_join (λ b. map (λ p. p.tx) b.pacts) s.desk.batches _, numbered_txs s.ring.next_tid _)
    (form _ s.ring.holder w.text.batch _ _ _ _ _ (is_there s.ring.pacts s.ring.holder ok.1.0) h)
kept w text (Admit t) s ok h =
    rw (Times.map_join (λ x. x.tx) s.book.acts _)
    (admit _ s.ring.holder _ _ _ _ _ (is_there s.ring.acts s.ring.holder ok.1.0) (first_of _ ok.1.0) h)
kept w text e s ok h = same (frame w e s NextTx refl) (frame w e s PactQueues refl) (frame w e s ActQueues refl) (frame w e s BatchTxs refl) (frame w e s ActTxs refl) h

empty_queues : (c n : ℕ) → times n (flat (replicate c [])) ≡ 0
empty_queues zero n = refl
empty_queues (suc c) n = empty_queues c n

pub opened : {C : Type 0} (w : Fixed C) → Placed w (opening w)
unfolding Placed
opened w = record {
  pact_queues = length-replicate w.text.coordinators [];
  act_queues = length-replicate w.text.coordinators [];
  each = λ n. omega (arith, parted n (replicate w.text.coordinators []) (replicate w.text.coordinators []) [] [], empty_queues w.text.coordinators n, Times.times_from 0 0 n);
}

pub transactions_in_one_place : {C : Type 0} (w : Fixed C) (es : List Event) → IsText w.text → IsRun w es → TransactionsInOnePlace w (reached w es)
unfolding Placed
transactions_in_one_place w es text run = (along w (Placed w) (kept w text) es (opening w) run (opened w)).each
