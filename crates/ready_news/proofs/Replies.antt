-- Which replies an event may make due: what it changes in a verdict, by the transaction.
use Rattle.std.specs.Prelude.{◌≡◌, refl, ℕ, suc, ◌+◌, ◌<◌, ◌≤◌, ◌==◌, Bool, true, false, ◌&&◌, ◌||◌, if◌then◌else◌, is_some, Option, Some, None, List, [], ◌∷◌, ◌++◌, length, map, filter, find, Contains}
use Rattle.std.specs.List.{list_any, AllByRecursion}
use Rattle.std.proofs.Common.{arith, sym, ap, subst, inl, inr, ◌∙◌}
use Rattle.std.proofs.lemmas.Bool.{eqb-true, and_parts, or_cases}
use Rattle.snap_base.specs.declared.transactions.TxResult.{TxResult}
use Rattle.snap_base.specs.declared.verdicts.Place.{Place}
use Rattle.snap_base.specs.declared.verdicts.Verdict.{Verdict}
use Rattle.snap_base.proofs.Booleans.{not_so}
use Rattle.protocol.specs.Conditions.{may_leave}
use Rattle.protocol.specs.Parts.{Act, Cascade, Pact, Status, Live, Doomed, Decided, Sealed, Stage, Formed, Committing, Settled, Batch}
use Rattle.protocol.specs.Numbers.{from, times}
use Rattle.protocol.specs.OnDesk as desk
use Rattle.protocol.specs.OnBook as book
use Rattle.protocol.specs.Words.{holds, covers, act_of, batch_of, is_doomed, is_sealed, is_settled}
use Rattle.protocol.specs.Verdicts.{or_else, settled_verdict, pact_place, pact_verdict, act_verdict, verdict_in_batch, verdict_of_pact, verdict_of_act}
use Rattle.protocol_theorems.proofs.quiet.QuietEnd.{has_ended}
use Rattle.listing_facts.specs.batch_table.Listed.{txs_at}
use Rattle.book_part.specs.order_book.Asked.{tx_of}
use Rattle.protocol_ready.proofs.Listing.{Has, from_has, has_map, any_of}

-- ---- two that may tell

pub either_some : (p a b : Option Verdict) → (is_some a ≡ true → is_some b ≡ true) → is_some (or_else p a) ≡ true → is_some (or_else p b) ≡ true
either_some None a b f h = f h
either_some (Some v) a b f h = refl

pub first_some : (p q a : Option Verdict) → (is_some p ≡ true → is_some q ≡ true) → is_some (or_else p a) ≡ true → is_some (or_else q a) ≡ true
first_some None None a f h = h
first_some None (Some v) a f h = refl
first_some (Some u) None a f h = not_so (f refl)
first_some (Some u) (Some v) a f h = refl

-- ---- an ACT that is new has no verdict

pub added_same : (n : ℕ) (x : Act) (xs : List Act) → act_verdict x.status x.m x.result ≡ None → is_some (verdict_of_act n (xs ++ x ∷ [])) ≡ true → is_some (verdict_of_act n xs) ≡ true
added_same n x [] e h = by (x.tx == n) h
  where
    by : (c : Bool) → is_some (if c then act_verdict x.status x.m x.result else None) ≡ true → false ≡ true
    by true g = subst (λ v. is_some v ≡ true) e g
    by false g = g
added_same n x (y ∷ ys) e h = by (y.tx == n) h (added_same n x ys e)
  where
    by : (c : Bool) → is_some (if c then act_verdict y.status y.m y.result else verdict_of_act n (ys ++ x ∷ [])) ≡ true → (is_some (verdict_of_act n (ys ++ x ∷ [])) ≡ true → is_some (verdict_of_act n ys) ≡ true) → is_some (if c then act_verdict y.status y.m y.result else verdict_of_act n ys) ≡ true
    by true g k = g
    by false g k = k g

-- ---- the ACT of a tid has this transaction

pub names : ℕ → ℕ → List Act → Bool
names t n acts = list_any (λ x. (x.tid == t) && (x.tx == n)) acts

more_times : (b : Bool) (x : ℕ) (xs : List ℕ) → length xs ≤ length (if b then x ∷ xs else xs)
more_times true x xs = omega arith
more_times false x xs = omega arith

one_time : (b : Bool) (x : ℕ) (xs : List ℕ) → b ≡ true → length (if b then x ∷ xs else xs) ≡ suc (length xs)
one_time true x xs e = refl
one_time false x xs e = not_so e

named_times : (t n : ℕ) (acts : List Act) → list_any (λ x. (x.tid == t) && (x.tx == n)) acts ≡ true → 1 ≤ times t (map (λ x. x.tid) acts)
named_times t n [] h = not_so h
named_times t n (x ∷ xs) h =
    let rest = filter (λ y. y == t) (map (λ x. x.tid) xs) in
    elim (or_cases ((x.tid == t) && (x.tx == n)) (list_any (λ x. (x.tid == t) && (x.tx == n)) xs) h) [
      | inl a ↦ omega (arith, one_time (x.tid == t) x.tid rest (and_parts (x.tid == t) (x.tx == n) a).0)
      | inr b ↦ omega (arith, more_times (x.tid == t) x.tid rest, named_times t n xs b)
    ]

pub named_is : (t n : ℕ) (acts : List Act) → times t (map (λ x. x.tid) acts) ≤ 1 → list_any (λ x. (x.tid == t) && (x.tx == n)) acts ≡ true → tx_of (act_of t acts) ≡ Some n
named_is t n [] once h = not_so h
named_is t n (x ∷ xs) once h = by (x.tid == t) refl once h (named_is t n xs)
  where
    rest : List ℕ
    rest = filter (λ y. y == t) (map (λ x. x.tid) xs)

    by : (c : Bool) → (x.tid == t) ≡ c → length (if c then x.tid ∷ filter (λ y. y == t) (map (λ x. x.tid) xs) else filter (λ y. y == t) (map (λ x. x.tid) xs)) ≤ 1
        → ((c && (x.tx == n)) || list_any (λ x. (x.tid == t) && (x.tx == n)) xs) ≡ true
        → (times t (map (λ x. x.tid) xs) ≤ 1 → list_any (λ x. (x.tid == t) && (x.tx == n)) xs ≡ true → tx_of (act_of t xs) ≡ Some n)
        → tx_of (if c then Some x else act_of t xs) ≡ Some n
    by true e l g k = elim (or_cases (x.tx == n) (list_any (λ x. (x.tid == t) && (x.tx == n)) xs) g) [ inl a ↦ ap Some (eqb-true x.tx n a) | inr b ↦ absurd (omega (arith, l, named_times t n xs b)) ]
    by false e l g k = k l g

-- a change that leaves tids and transactions leaves which it is
pub tx_changed : (t u : ℕ) (f : Act → Act) (acts : List Act) → ((x : Act) → (f x).tid ≡ x.tid) → ((x : Act) → (f x).tx ≡ x.tx) → tx_of (act_of t (book.changed_act u f acts)) ≡ tx_of (act_of t acts)
tx_changed t u f [] i j = refl
tx_changed t u f (x ∷ xs) i j = by (x.tid == u) (tx_changed t u f xs i j)
  where
    at : (y : Act) → y.tid ≡ x.tid → y.tx ≡ x.tx → tx_of (act_of t (book.changed_act u f xs)) ≡ tx_of (act_of t xs) → tx_of (act_of t (y ∷ book.changed_act u f xs)) ≡ tx_of (act_of t (x ∷ xs))
    at y p q k = on (y.tid == t) (x.tid == t) (ap (λ m. m == t) p)
      where
        on : (c d : Bool) → c ≡ d → tx_of (if c then Some y else act_of t (book.changed_act u f xs)) ≡ tx_of (if d then Some x else act_of t xs)
        on true true e = ap Some q
        on true false e = not_so (sym e)
        on false true e = not_so e
        on false false e = k

    by : (c : Bool) → tx_of (act_of t (book.changed_act u f xs)) ≡ tx_of (act_of t xs) → tx_of (act_of t (book.change_if c f x ∷ book.changed_act u f xs)) ≡ tx_of (act_of t (x ∷ xs))
    by true k = at (f x) (i x) (j x) k
    by false k = at x refl refl k

-- ---- the batch of a number has this transaction

none_above : (k low n : ℕ) (bs : List Batch) → map (λ b. b.bid) bs ≡ from low (length bs) → k < low → list_any (λ b. (b.bid == k) && list_any (λ p. p.tx == n) b.pacts) bs ≡ true → ⊥
none_above k low n [] e l h = not_so h
none_above k low n (b ∷ bs) e l h =
    let head : b.bid ≡ low = cc e in
    let tail : map (λ b. b.bid) bs ≡ from (low + 1) (length bs) = cc e in
    elim (or_cases ((b.bid == k) && list_any (λ p. p.tx == n) b.pacts) _ h) [
      | inl a ↦ absurd (omega (arith, head, l, eqb-true b.bid k (and_parts (b.bid == k) _ a).0))
      | inr c ↦ none_above k (low + 1) n bs tail (omega arith) c
    ]

tx_has : (n : ℕ) (ps : List Pact) → list_any (λ p. p.tx == n) ps ≡ true → Contains (map (λ p. p.tx) ps) n
tx_has n ps h = let p = any_of (λ p. p.tx == n) ps h in from_has (map (λ p. p.tx) ps) n (subst (λ m. Has (map (λ p. p.tx) ps) m) (eqb-true p.it.tx n p.does) (has_map (λ p. p.tx) ps p.it p.has))

pub batch_has : (k low n : ℕ) (bs : List Batch) → map (λ b. b.bid) bs ≡ from low (length bs) → list_any (λ b. (b.bid == k) && list_any (λ p. p.tx == n) b.pacts) bs ≡ true → Contains (txs_at (batch_of k bs)) n
batch_has k low n [] e h = not_so h
batch_has k low n (b ∷ bs) e h = by (b.bid == k) refl h (batch_has k (low + 1) n bs tail)
  where
    head : b.bid ≡ low
    head = cc e

    tail : map (λ b. b.bid) bs ≡ from (low + 1) (length bs)
    tail = cc e

    by : (c : Bool) → (b.bid == k) ≡ c → ((c && list_any (λ p. p.tx == n) b.pacts) || list_any (λ b. (b.bid == k) && list_any (λ p. p.tx == n) b.pacts) bs) ≡ true
        → (list_any (λ b. (b.bid == k) && list_any (λ p. p.tx == n) b.pacts) bs ≡ true → Contains (txs_at (batch_of k bs)) n)
        → Contains (txs_at (if c then Some b else batch_of k bs)) n
    by true q g f = elim (or_cases (list_any (λ p. p.tx == n) b.pacts) _ g) [ inl a ↦ tx_has n b.pacts a | inr r ↦ absurd (none_above k (low + 1) n bs tail (omega (arith, head, eqb-true b.bid k q)) r) ]
    by false q g f = f g

pub txs_settled : (k : ℕ) (st : Stage) (bs : List Batch) → txs_at (batch_of k (desk.changed_batch k (desk.with_stage st) bs)) ≡ txs_at (batch_of k bs)
txs_settled k st [] = refl
txs_settled k st (b ∷ bs) = by (b.bid == k) refl (txs_settled k st bs)
  where
    by : (c : Bool) → (b.bid == k) ≡ c → txs_at (batch_of k (desk.changed_batch k (desk.with_stage st) bs)) ≡ txs_at (batch_of k bs) → txs_at (batch_of k (desk.change_if c (desk.with_stage st) b ∷ desk.changed_batch k (desk.with_stage st) bs)) ≡ txs_at (if c then Some b else batch_of k bs)
    by true q h = rw q refl
    by false q h = rw q h

-- ---- a PACT's result tells nothing where its batch has not settled, and nothing new where it has

settled_same : (st : Stage) (p : Place) (r q : Option TxResult) → (is_settled st ≡ true → is_some r ≡ true) → is_some (settled_verdict st p q) ≡ true → is_some (settled_verdict st p r) ≡ true
settled_same Formed p r q f h = h
settled_same Committing p r q f h = h
settled_same Settled p r q f h = has_ended p r (f refl)

in_batch_same : (cs : List Cascade) (n t : ℕ) (r : TxResult) (b c : Batch) (ps : List Pact) → b.bid ≡ c.bid → b.stage ≡ c.stage → (is_settled b.stage ≡ true → AllByRecursion (λ p. is_some p.result ≡ true) ps)
    → is_some (verdict_in_batch cs n c (map (desk.with_result t r) ps)) ≡ true → is_some (verdict_in_batch cs n b ps) ≡ true
in_batch_same cs n t r b c [] i j a h = not_so h
in_batch_same cs n t r b c (p ∷ ps) i j a h = by (p.tx == n) h (in_batch_same cs n t r b c ps i j (λ s. (a s).1))
  where
    told : (o : Option Cascade) → is_some (pact_verdict o c (desk.with_result t r p)) ≡ true → is_some (pact_verdict o b p) ≡ true
    told (Some x) g = refl
    told None g = settled_same b.stage (pact_place b.bid p.tid) p.result (desk.with_result t r p).result (λ s. (a s).0) (subst (λ st. is_some (settled_verdict st (pact_place b.bid p.tid) (desk.with_result t r p).result) ≡ true) (sym j) (subst (λ k. is_some (settled_verdict c.stage (pact_place k p.tid) (desk.with_result t r p).result) ≡ true) (sym i) g))

    by : (d : Bool) → is_some (if d then pact_verdict (find (covers c.bid) cs) c (desk.with_result t r p) else verdict_in_batch cs n c (map (desk.with_result t r) ps)) ≡ true
        → (is_some (verdict_in_batch cs n c (map (desk.with_result t r) ps)) ≡ true → is_some (verdict_in_batch cs n b ps) ≡ true)
        → is_some (if d then pact_verdict (find (covers b.bid) cs) b p else verdict_in_batch cs n b ps) ≡ true
    by true g k = told (find (covers b.bid) cs) (subst (λ m. is_some (pact_verdict (find (covers m) cs) c (desk.with_result t r p)) ≡ true) (sym i) g)
    by false g k = k g

same_batch : (cs : List Cascade) (n : ℕ) (b c : Batch) (ps : List Pact) → b.bid ≡ c.bid → b.stage ≡ c.stage → is_some (verdict_in_batch cs n c ps) ≡ true → is_some (verdict_in_batch cs n b ps) ≡ true
same_batch cs n b c [] i j h = not_so h
same_batch cs n b c (p ∷ ps) i j h = by (p.tx == n) h (same_batch cs n b c ps i j)
  where
    told : (o : Option Cascade) → is_some (pact_verdict o c p) ≡ true → is_some (pact_verdict o b p) ≡ true
    told (Some x) g = refl
    told None g = subst (λ st. is_some (settled_verdict st (pact_place b.bid p.tid) p.result) ≡ true) (sym j) (subst (λ k. is_some (settled_verdict c.stage (pact_place k p.tid) p.result) ≡ true) (sym i) g)

    by : (d : Bool) → is_some (if d then pact_verdict (find (covers c.bid) cs) c p else verdict_in_batch cs n c ps) ≡ true → (is_some (verdict_in_batch cs n c ps) ≡ true → is_some (verdict_in_batch cs n b ps) ≡ true) → is_some (if d then pact_verdict (find (covers b.bid) cs) b p else verdict_in_batch cs n b ps) ≡ true
    by true g k = told (find (covers b.bid) cs) (subst (λ m. is_some (pact_verdict (find (covers m) cs) c p) ≡ true) (sym i) g)
    by false g k = k g

with_results_same : (cs : List Cascade) (n t : ℕ) (r : TxResult) (b : Batch) → (is_settled b.stage ≡ true → AllByRecursion (λ p. is_some p.result ≡ true) b.pacts) → is_some (verdict_in_batch cs n (desk.with_results t r b) (desk.with_results t r b).pacts) ≡ true → is_some (verdict_in_batch cs n b b.pacts) ≡ true
with_results_same cs n t r b a h = by b.aborted h
  where
    by : (d : Bool) → is_some (verdict_in_batch cs n (desk.with_results t r b) (if d then b.pacts else map (desk.with_result t r) b.pacts)) ≡ true → is_some (verdict_in_batch cs n b b.pacts) ≡ true
    by true g = same_batch cs n b (desk.with_results t r b) b.pacts refl refl g
    by false g = in_batch_same cs n t r b (desk.with_results t r b) b.pacts refl refl a g

pub pacts_same : (cs : List Cascade) (n t : ℕ) (r : TxResult) (bs : List Batch) → AllByRecursion (λ b. is_settled b.stage ≡ true → AllByRecursion (λ p. is_some p.result ≡ true) b.pacts) bs
    → is_some (verdict_of_pact cs n (map (desk.with_results t r) bs)) ≡ true → is_some (verdict_of_pact cs n bs) ≡ true
pacts_same cs n t r [] a h = not_so h
pacts_same cs n t r (b ∷ bs) a h =
    let head = verdict_in_batch cs n b b.pacts in
    let rest = verdict_of_pact cs n bs in
    either_some head (verdict_of_pact cs n (map (desk.with_results t r) bs)) rest (pacts_same cs n t r bs a.1)
    (first_some (verdict_in_batch cs n (desk.with_results t r b) (desk.with_results t r b).pacts) head (verdict_of_pact cs n (map (desk.with_results t r) bs)) (with_results_same cs n t r b a.0) h)

-- ---- an ACT's result tells nothing new of others

pub acts_same : (n t : ℕ) (f : Act → Act) (acts : List Act) → ((x : Act) → (f x).tx ≡ x.tx) → list_any (λ x. (x.tid == t) && (x.tx == n)) acts ≡ false → is_some (verdict_of_act n (book.changed_act t f acts)) ≡ true → is_some (verdict_of_act n acts) ≡ true
acts_same n t f [] j none h = h
acts_same n t f (x ∷ xs) j none h = by (x.tid == t) none h (acts_same n t f xs j)
  where
    same : (d : Bool) → list_any (λ x. (x.tid == t) && (x.tx == n)) xs ≡ false → is_some (if d then act_verdict x.status x.m x.result else verdict_of_act n (book.changed_act t f xs)) ≡ true
        → (list_any (λ x. (x.tid == t) && (x.tx == n)) xs ≡ false → is_some (verdict_of_act n (book.changed_act t f xs)) ≡ true → is_some (verdict_of_act n xs) ≡ true)
        → is_some (if d then act_verdict x.status x.m x.result else verdict_of_act n xs) ≡ true
    same true e g k = g
    same false e g k = k e g

    other : (d : Bool) → (d || list_any (λ x. (x.tid == t) && (x.tx == n)) xs) ≡ false → is_some (if d then act_verdict (f x).status (f x).m (f x).result else verdict_of_act n (book.changed_act t f xs)) ≡ true
        → (list_any (λ x. (x.tid == t) && (x.tx == n)) xs ≡ false → is_some (verdict_of_act n (book.changed_act t f xs)) ≡ true → is_some (verdict_of_act n xs) ≡ true)
        → is_some (if d then act_verdict x.status x.m x.result else verdict_of_act n xs) ≡ true
    other true e g k = not_so (sym e)
    other false e g k = k e g

    by : (c : Bool) → ((c && (x.tx == n)) || list_any (λ x. (x.tid == t) && (x.tx == n)) xs) ≡ false → is_some (verdict_of_act n (book.change_if c f x ∷ book.changed_act t f xs)) ≡ true
        → (list_any (λ x. (x.tid == t) && (x.tx == n)) xs ≡ false → is_some (verdict_of_act n (book.changed_act t f xs)) ≡ true → is_some (verdict_of_act n xs) ≡ true)
        → is_some (if x.tx == n then act_verdict x.status x.m x.result else verdict_of_act n xs) ≡ true
    by true e g k = other (x.tx == n) e (subst (λ m. is_some (if m == n then act_verdict (f x).status (f x).m (f x).result else verdict_of_act n (book.changed_act t f xs)) ≡ true) (j x) g) k
    by false e g k = same (x.tx == n) e g k

-- ---- an ACT that is changed, and neither given up nor sealed then, has no verdict

no_verdict : (st : Status) (m : ℕ) (r : Option TxResult) → (is_doomed st || is_sealed st) ≡ false → act_verdict st m r ≡ None
no_verdict Live m r h = refl
no_verdict (Doomed v) m r h = not_so (sym h)
no_verdict (Decided c) m r h = refl
no_verdict (Sealed c) m r h = not_so (sym h)

pub acts_quiet : (n t : ℕ) (f : Act → Act) (acts : List Act) → ((x : Act) → (f x).tid ≡ x.tid) → ((x : Act) → (f x).tx ≡ x.tx) → times t (map (λ x. x.tid) acts) ≤ 1 → may_leave t (book.changed_act t f acts) ≡ false
    → is_some (verdict_of_act n (book.changed_act t f acts)) ≡ true → is_some (verdict_of_act n acts) ≡ true
acts_quiet n t f [] i j once quiet h = h
acts_quiet n t f (x ∷ xs) i j once quiet h = by (x.tid == t) refl once quiet h (acts_quiet n t f xs i j)
  where
    unnamed : (v : Bool) → list_any (λ x. (x.tid == t) && (x.tx == n)) xs ≡ v → length (x.tid ∷ filter (λ y. y == t) (map (λ x. x.tid) xs)) ≤ 1 → list_any (λ x. (x.tid == t) && (x.tx == n)) xs ≡ false
    unnamed true e l = absurd (omega (arith, l, named_times t n xs e))
    unnamed false e l = e

    changed : (d : Bool) → act_verdict (f x).status (f x).m (f x).result ≡ None → list_any (λ x. (x.tid == t) && (x.tx == n)) xs ≡ false
        → is_some (if d then act_verdict (f x).status (f x).m (f x).result else verdict_of_act n (book.changed_act t f xs)) ≡ true → is_some (if d then act_verdict x.status x.m x.result else verdict_of_act n xs) ≡ true
    changed true e u g = not_so (subst (λ v. is_some v ≡ true) e g)
    changed false e u g = acts_same n t f xs j u g

    same : (d : Bool) → is_some (if d then act_verdict x.status x.m x.result else verdict_of_act n (book.changed_act t f xs)) ≡ true → (is_some (verdict_of_act n (book.changed_act t f xs)) ≡ true → is_some (verdict_of_act n xs) ≡ true)
        → is_some (if d then act_verdict x.status x.m x.result else verdict_of_act n xs) ≡ true
    same true g k = g
    same false g k = k g

    by : (c : Bool) → (x.tid == t) ≡ c → length (if c then x.tid ∷ filter (λ y. y == t) (map (λ x. x.tid) xs) else filter (λ y. y == t) (map (λ x. x.tid) xs)) ≤ 1
        → holds (λ x. is_doomed x.status || is_sealed x.status) (if (book.change_if c f x).tid == t then Some (book.change_if c f x) else act_of t (book.changed_act t f xs)) ≡ false
        → is_some (verdict_of_act n (book.change_if c f x ∷ book.changed_act t f xs)) ≡ true
        → (times t (map (λ x. x.tid) xs) ≤ 1 → may_leave t (book.changed_act t f xs) ≡ false → is_some (verdict_of_act n (book.changed_act t f xs)) ≡ true → is_some (verdict_of_act n xs) ≡ true)
        → is_some (if x.tx == n then act_verdict x.status x.m x.result else verdict_of_act n xs) ≡ true
    by true e l q g k =
        let here : ((f x).tid == t) ≡ true = ap (λ m. m == t) (i x) ∙ e in
        let its : (is_doomed (f x).status || is_sealed (f x).status) ≡ false = subst (λ c. holds (λ x. is_doomed x.status || is_sealed x.status) (if c then Some (f x) else act_of t (book.changed_act t f xs)) ≡ false) here q in
        changed (x.tx == n) (no_verdict (f x).status (f x).m (f x).result its) (unnamed (list_any (λ x. (x.tid == t) && (x.tx == n)) xs) refl l)
        (subst (λ m. is_some (if m == n then act_verdict (f x).status (f x).m (f x).result else verdict_of_act n (book.changed_act t f xs)) ≡ true) (j x) g)
    by false e l q g k = same (x.tx == n) g (k l (subst (λ c. holds (λ x. is_doomed x.status || is_sealed x.status) (if c then Some x else act_of t (book.changed_act t f xs)) ≡ false) e q))
