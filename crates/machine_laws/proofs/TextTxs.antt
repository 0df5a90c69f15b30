-- What committed are transactions of the text.
use Rattle.std.specs.Prelude.{◌≡◌, refl, ℕ, ◌<◌, ◌≤◌, ◌==◌, nat_lt, Bool, true, false, ◌&&◌, ◌||◌, if◌then◌else◌, ◌⊎◌, Some, List, [], ◌∷◌, ◌++◌, length, map, filter, find}
use Rattle.std.specs.List.{AllByRecursion, list_any}
use Rattle.std.proofs.Common.{arith, sym, subst, inl, inr}
use Rattle.std.proofs.lemmas.Bool.{and_parts, ltb-true, eqb-true, eq-eqb, cases_lt}
use Rattle.snap_base.proofs.Lists.{all_front, all_back}
use Rattle.protocol.specs.Fixed.{Fixed}
use Rattle.protocol.specs.Parts.{Pact, Batch, Machine}
use Rattle.protocol.specs.Events.{Event, Submit}
use Rattle.protocol.specs.Conditions.{IsAllowed, conditions}
use Rattle.protocol.specs.Effects.{after}
use Rattle.protocol.specs.Runs.{EachAllowed, IsRun, opening, reached, state_after}
use Rattle.protocol.specs.Words.{batch_of}
use Rattle.protocol.specs.Numbers.{flat, times, TransactionsInOnePlace}
use Rattle.protocol.specs.History.{Done, history}
use Rattle.protocol_laws.proofs.Lemmas.{once_from}
use Rattle.protocol_verdicts.specs.EvidenceSerial.{IsCommittedPact, IsCommittedAct}

-- ---- no more are submitted than the text has

kept : {C : Type 0} (w : Fixed C) (e : Event) (s : Machine C) → IsAllowed w e s → s.ring.next_tx ≤ length w.text.txs → (after w e s).ring.next_tx ≤ length w.text.txs
unfolding after conditions
kept w (Submit n) s ok h =
    let both = and_parts (n == s.ring.next_tx) (nat_lt n (length w.text.txs)) ok.0 in
    let same = eqb-true n s.ring.next_tx both.0 in
    let below = ltb-true n (length w.text.txs) both.1 in
    omega (arith, same, below)
kept w e s ok h = h

few_submitted : {C : Type 0} (w : Fixed C) (es : List Event) (s : Machine C) → s.ring.next_tx ≤ length w.text.txs → EachAllowed w es s → (state_after w es s).ring.next_tx ≤ length w.text.txs
few_submitted w [] s h run = h
few_submitted w (e ∷ es) s h run = few_submitted w es (after w e s) (kept w e s run.0 h) run.1

-- ---- what is in one place is below the next

more : (n x : ℕ) (xs : List ℕ) → times n xs ≤ times n (x ∷ xs)
more n x xs = by (x == n)
  where
    by : (b : Bool) → length (filter (λ y. y == n) xs) ≤ length (if b then x ∷ filter (λ y. y == n) xs else filter (λ y. y == n) xs)
    by true = omega arith
    by false = omega arith

own : (x : ℕ) (xs : List ℕ) → 1 ≤ times x (x ∷ xs)
own x xs = by (x == x) (eq-eqb x x refl)
  where
    by : (b : Bool) → b ≡ true → 1 ≤ length (if b then x ∷ filter (λ y. y == x) xs else filter (λ y. y == x) xs)
    by true e = omega arith
    by false e = absurd cc

all_below : (next : ℕ) (xs : List ℕ) → ((n : ℕ) → next ≤ n → times n xs ≡ 0) → AllByRecursion (λ n. n < next) xs
all_below next [] h = tt
all_below next (x ∷ xs) h = (by (cases_lt x next), all_below next xs (λ n l. omega (arith, h n l, more n x xs)))
  where
    by : (x < next) ⊎ (next ≤ x) → x < next
    by (inl l) = l
    by (inr l) = absurd (omega (arith, h x l, own x xs))

-- ---- from a list to who is in it

of_each : {X Y : Type 0} (P : Y → Type 0) (f : X → Y) (xs : List X) → AllByRecursion P (map f xs) → AllByRecursion (λ x. P (f x)) xs
of_each P f [] h = tt
of_each P f (x ∷ xs) h = (h.0, of_each P f xs h.1)

of_batches : (P : ℕ → Type 0) (bs : List Batch) → AllByRecursion P (flat (map (λ b. map (λ p. p.tx) b.pacts) bs)) → AllByRecursion (λ b. AllByRecursion (λ p. P p.tx) b.pacts) bs
of_batches P [] h = tt
of_batches P (b ∷ bs) h = (of_each P (λ p. p.tx) b.pacts (all_front P _ _ h), of_batches P bs (all_back P (map (λ p. p.tx) b.pacts) _ h))

found : {X : Type 0} (P : X → Type 0) (p : X → Bool) (xs : List X) (y : X) → find p xs ≡ Some y → AllByRecursion P xs → P y
found P p [] y e h = absurd (cc e)
found P p (x ∷ xs) y e h = by (p x) e (λ q. found P p xs y q h.1)
  where
    by : (b : Bool) → (if b then Some x else find p xs) ≡ Some y → (find p xs ≡ Some y → P y) → P y
    by true q later = let same : x ≡ y = cc q in subst P same h.0
    by false q later = later q

named : (P : ℕ → Type 0) (t n : ℕ) (ps : List Pact) → list_any (λ p. (p.tid == t) && (p.tx == n)) ps ≡ true → AllByRecursion (λ p. P p.tx) ps → P n
named P t n [] e h = absurd cc
named P t n (p ∷ ps) e h = by ((p.tid == t) && (p.tx == n)) refl e (λ q. named P t n ps q h.1)
  where
    by : (b : Bool) → ((p.tid == t) && (p.tx == n)) ≡ b → (b || list_any (λ p. (p.tid == t) && (p.tx == n)) ps) ≡ true → (list_any (λ p. (p.tid == t) && (p.tx == n)) ps ≡ true → P n) → P n
    by true is q later = subst P (eqb-true p.tx n (and_parts (p.tid == t) (p.tx == n) is).1) h.0
    by false is q later = later q

-- ---- what committed

record TxsBelow {C : Type 0} (next : ℕ) (s : Machine C) : Type 0 where
  batches : AllByRecursion (λ b. AllByRecursion (λ (p : Pact). p.tx < next) b.pacts) s.desk.batches
  acts : AllByRecursion (λ x. x.tx < next) s.book.acts

txs_below : {C : Type 0} (w : Fixed C) (s : Machine C) → TransactionsInOnePlace w s → TxsBelow s.ring.next_tx s
txs_below w s one = record {
  batches = of_batches (λ n. n < s.ring.next_tx) s.desk.batches (all_front (λ n. n < s.ring.next_tx) _ (map (λ x. x.tx) s.book.acts) placed);
  acts = of_each (λ n. n < s.ring.next_tx) (λ x. x.tx) s.book.acts (all_back (λ n. n < s.ring.next_tx) (flat (map (λ b. map (λ p. p.tx) b.pacts) s.desk.batches)) _ placed);
}
  where
    placed : AllByRecursion (λ n. n < s.ring.next_tx) (flat (map (λ b. map (λ p. p.tx) b.pacts) s.desk.batches) ++ map (λ x. x.tx) s.book.acts)
    placed = all_back (λ n. n < s.ring.next_tx) (flat s.ring.pacts ++ flat s.ring.acts) _ (all_below s.ring.next_tx _ (λ n l. let e = one n in let z = once_from 0 s.ring.next_tx n l in omega (arith, e, z)))

committed_below : {C : Type 0} (next : ℕ) (s : Machine C) (d : Done) → TxsBelow next s → IsCommittedPact s d ⊎ IsCommittedAct s d → d.tx < next
committed_below next s d h (inl c) = named (λ n. n < next) d.place.order d.tx c.batch.pacts c.names (found (λ b. AllByRecursion (λ (p : Pact). p.tx < next) b.pacts) (λ b. b.bid == d.place.batch.0) s.desk.batches c.batch c.found h.batches)
committed_below next s d h (inr c) = subst (λ n. n < next) (sym c.tx) (found (λ x. x.tx < next) (λ x. x.tid == c.tid) s.book.acts c.act c.found h.acts)

-- who committed is one of the text's transactions
committed_there : {C : Type 0} (w : Fixed C) (s : Machine C) (ds : List Done) → s.ring.next_tx ≤ length w.text.txs → TransactionsInOnePlace w s → AllByRecursion (λ d. IsCommittedPact s d ⊎ IsCommittedAct s d) ds → AllByRecursion (λ d. d.tx < length w.text.txs) ds
committed_there w s [] few one h = tt
committed_there w s (d ∷ ds) few one h = (let below = committed_below s.ring.next_tx s d (txs_below w s one) h.0 in omega (arith, few, below), committed_there w s ds few one h.1)

pub there_after : {C : Type 0} (w : Fixed C) (es : List Event) → IsRun w es → TransactionsInOnePlace w (reached w es) → AllByRecursion (λ d. IsCommittedPact (reached w es) d ⊎ IsCommittedAct (reached w es) d) (history w es).committed → AllByRecursion (λ d. d.tx < length w.text.txs) (history w es).committed
there_after w es run one h = committed_there w (reached w es) (history w es).committed (few_submitted w es (opening w) (omega arith) run) one h

-- a batch's PACTs are
pub pacts_there : {C : Type 0} (w : Fixed C) (es : List Event) → IsRun w es → TransactionsInOnePlace w (reached w es) → (k : ℕ) (b : Batch) → batch_of k (reached w es).desk.batches ≡ Some b → AllByRecursion (λ (p : Pact). p.tx < length w.text.txs) b.pacts
pacts_there {C} w es run one k b e = each b.pacts (found (λ b. AllByRecursion (λ (p : Pact). p.tx < s.ring.next_tx) b.pacts) (λ b. b.bid == k) s.desk.batches b e (txs_below w s one).batches)
  where
    s : Machine C
    s = reached w es

    few : s.ring.next_tx ≤ length w.text.txs
    few = few_submitted w es (opening w) (omega arith) run

    each : (ps : List Pact) → AllByRecursion (λ (p : Pact). p.tx < s.ring.next_tx) ps → AllByRecursion (λ (p : Pact). p.tx < length w.text.txs) ps
    each [] h = tt
    each (p ∷ ps) h = (let below = h.0 in omega (arith, few, below), each ps h.1)
