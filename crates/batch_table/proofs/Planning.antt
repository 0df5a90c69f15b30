-- The batch that the ring plans may join the desk: what its number, tids and transactions are, and that nobody has them.
use Rattle.std.proofs.Common.{◌≡◌, ℕ, zero, suc, ◌+◌, ◌<◌, ◌≤◌, ◌==◌, max, Bool, true, false, not, ◌&&◌, List, [], ◌∷◌, ◌++◌, length, map, take, refl, ap, sym, ◌∙◌, subst, arith}
use Rattle.std.specs.Prelude.{slice_index_or, filter, nat_lt, nat_le}
use Rattle.std.specs.List.{AllByRecursion}
use Rattle.std.proofs.lemmas.Bool.{eqb-true, eq-eqb, ltb-true, false≢true, and_parts}
use Rattle.protocol.specs.Fixed.{Fixed, base}
use Rattle.protocol.specs.Parts.{Batch, Machine}
use Rattle.protocol.specs.Words.{is_empty, count, greatest, is_live_batch, is_settled}
use Rattle.protocol.specs.Conditions.{conditions, queue}
use Rattle.protocol.specs.OnRing.{numbered}
use Rattle.protocol.specs.Numbers.{from, flat, times, one_if, once_in}
use Rattle.batch_table.specs.Joining.{bids_of, pact_tids, batch_tids, pact_txs, batch_txs, first_number, first_or_zero, AreConsecutive, AllTidsBelow}
use Rattle.batch_table.specs.Laws.{PlannedMayJoin}
use Rattle.batch_table.proofs.ByNumber.{cons_parts}
use Rattle.batch_table.proofs.LiveCount.{count_head, count_append}

-- ---- PACTs that are numbered

length_from : (t n : ℕ) → length (from t n) ≡ n
length_from t zero = refl
length_from t (suc n) = ap (λ x. suc x) (length_from (t + 1) n)

numbered_tids : (t : ℕ) (ns : List ℕ) → pact_tids (numbered t ns) ≡ from t (length ns)
numbered_tids t [] = refl
numbered_tids t (n ∷ ns) = ap (λ x. t ∷ x) (numbered_tids (t + 1) ns)

numbered_txs : (t : ℕ) (ns : List ℕ) → pact_txs (numbered t ns) ≡ ns
numbered_txs t [] = refl
numbered_txs t (n ∷ ns) = ap (λ x. n ∷ x) (numbered_txs (t + 1) ns)

numbered_length : (t : ℕ) (ns : List ℕ) → length (numbered t ns) ≡ length ns
numbered_length t [] = refl
numbered_length t (n ∷ ns) = ap (λ x. suc x) (numbered_length (t + 1) ns)

from_consecutive : (t n : ℕ) → AreConsecutive (from t n)
from_consecutive t zero = refl
from_consecutive t (suc n) = ap (λ x. from t (suc x)) (sym (length_from (t + 1) n))

first_of_from : (t n : ℕ) → 0 < n → first_or_zero (from t n) ≡ t
first_of_from t zero l = absurd (omega arith)
first_of_from t (suc n) l = refl

some_taken : (b : ℕ) (xs : List ℕ) → 1 ≤ b → not (is_empty xs) ≡ true → 0 < length (take b xs)
some_taken b [] l e = absurd (false≢true e)
some_taken zero (x ∷ xs) l e = absurd (omega arith)
some_taken (suc b) (x ∷ xs) l e = omega arith

-- ---- how often a number is in a list

times_taken : (n b : ℕ) (xs : List ℕ) → times n (take b xs) ≤ times n xs
times_taken n zero xs = omega arith
times_taken n (suc b) [] = omega arith
times_taken n (suc b) (x ∷ xs) = omega (arith, count_head (λ y. y == n) x xs, count_head (λ y. y == n) x (take b xs), times_taken n b xs)

pub times_in_flat : (n i : ℕ) (xss : List (List ℕ)) → times n (slice_index_or xss i []) ≤ times n (flat xss)
times_in_flat n i [] = omega arith
times_in_flat n zero (xs ∷ xss) = omega (arith, count_append (λ y. y == n) xs (flat xss))
times_in_flat n (suc i) (xs ∷ xss) = omega (arith, count_append (λ y. y == n) xs (flat xss), times_in_flat n i xss)

at_most_one : (c : Bool) → one_if c ≤ 1
at_most_one true = omega arith
at_most_one false = omega arith

-- who is in is in range
pub in_range : (low high n : ℕ) → 1 ≤ once_in low high n → n < high
in_range low high n h =
    cond_one (nat_le low n && nat_lt n high) h (λ e. ltb-true n high (and_parts (nat_le low n) (nat_lt n high) e).1)
  where
    cond_one : (c : Bool) → 1 ≤ one_if c → (c ≡ true → n < high) → n < high
    cond_one true h f = f refl
    cond_one false h f = absurd (omega arith)

all_below : (high : ℕ) (xs : List ℕ) → ((n : ℕ) → 1 ≤ times n xs → n < high) → AllByRecursion (λ x. x < high) xs
all_below high [] h = tt
all_below high (x ∷ xs) h = (
  h x (omega (arith, count_head (λ y. y == x) x xs, ap one_if (eq-eqb x x refl))),
  all_below high xs (λ n l. h n (omega (arith, l, count_head (λ y. y == n) x xs))),
)

-- ---- the number that comes next

next_is : (o settled k : ℕ) (bs : List Batch) → bids_of bs ≡ from o (length bs) → k ≡ o + length bs → (bs ≡ [] → settled + 1 ≡ o) → k ≡ first_number settled bs + length bs
next_is o settled k [] e q begun = omega (arith, begun refl)
next_is o settled k (b ∷ bs) e q begun = omega (arith, (cons_parts b.bid o (bids_of bs) (from (o + 1) (length bs)) e).0)

nothing_settled : (low : ℕ) (bs : List Batch) → bs ≡ [] → max low (greatest (map (λ b. b.bid) (filter (λ b. is_settled b.stage) bs))) ≡ low
nothing_settled low bs e = ap (λ z. max low (greatest (map (λ b. b.bid) (filter (λ b. is_settled b.stage) z)))) e ∙ omega arith

-- ---- all of it

pub planned_may_join : {C : Type 0} (w : Fixed C) (s : Machine C) → PlannedMayJoin w s
unfolding conditions
planned_may_join w s text drawn placed settling replied k ok =
    let r = s.ring in
    let t = r.next_tid in
    let ns = take w.text.batch (queue r.pacts r.holder) in
    let some : 0 < length ns = some_taken w.text.batch (queue r.pacts r.holder) text.some_batch ok.1.0 in
    let own : (n : ℕ) → times n ns ≤ times n (flat r.pacts) = λ n. omega (arith, times_taken n w.text.batch (queue r.pacts r.holder), times_in_flat n r.holder r.pacts) in
    let queued : (n : ℕ) → times n (flat r.pacts) ≤ times n (flat r.pacts ++ flat r.acts) = λ n. omega (arith, count_append (λ y. y == n) (flat r.pacts) (flat r.acts)) in
    let kept : (n : ℕ) → times n (flat (batch_txs s.desk.batches)) ≤ times n (flat (batch_txs s.desk.batches) ++ map (λ x. x.tx) s.book.acts) = λ n. omega (arith, count_append (λ y. y == n) (flat (batch_txs s.desk.batches)) (map (λ x. x.tx) s.book.acts)) in
    let whole : (n : ℕ) → times n (flat r.pacts ++ flat r.acts) + times n (flat (batch_txs s.desk.batches) ++ map (λ x. x.tx) s.book.acts) ≡ once_in 0 r.next_tx n =
    λ n. sym (count_append (λ y. y == n) (flat r.pacts ++ flat r.acts) (flat (batch_txs s.desk.batches) ++ map (λ x. x.tx) s.book.acts)) ∙ placed n in
    record {
      numbered = next_is w.text.opening.next_bid s.desk.settled k s.desk.batches drawn.bids (eqb-true k r.next_bid ok.0 ∙ drawn.next_bid)
          (λ e. omega (arith, settling.settled_is ∙ nothing_settled (base w.text) s.desk.batches e, text.bids));
      some = omega (arith, some, numbered_length t ns);
      consecutive = subst (λ z. AreConsecutive z) (sym (numbered_tids t ns)) (from_consecutive t (length ns));
      above = subst (λ z. AllTidsBelow z s.desk.batches) (sym (ap first_or_zero (numbered_tids t ns) ∙ first_of_from t (length ns) some))
          (all_below t (flat (batch_tids s.desk.batches)) (λ n l. in_range w.text.opening.next_tid t n
          (omega (arith, l, count_append (λ y. y == n) (flat (batch_tids s.desk.batches)) (map (λ x. x.tid) s.book.acts), drawn.tids n))));
      in_text = subst (λ z. AllByRecursion (λ x. x < length s.desk.replied) z) (sym (numbered_txs t ns))
          (all_below (length s.desk.replied) ns (λ n l. omega (arith, replied, in_range 0 r.next_tx n (omega (arith, l, own n, queued n, whole n)))));
      once = λ n. omega (arith, ap (λ z. times n z) (numbered_txs t ns), count_append (λ y. y == n) (flat (batch_txs s.desk.batches)) (pact_txs (numbered t ns)), own n, queued n, kept n, whole n, at_most_one (nat_le 0 n && nat_lt n r.next_tx));
      few = omega (arith, ltb-true (count is_live_batch s.desk.batches) w.text.batches ok.1.1.0, text.few_batches);
    }
