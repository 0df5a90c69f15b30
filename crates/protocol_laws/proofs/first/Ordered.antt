-- The candidates ascend, so those of them that are allowed are all allowed events, in order.
use Rattle.std.specs.Prelude.{◌≡◌, refl, ℕ, zero, suc, ◌+◌, ◌-◌, ◌<◌, ◌≤◌, ◌==◌, nat_lt, Bool, true, false, if◌then◌else◌, List, [], ◌∷◌, ◌++◌, length, map, filter, slice_index_or, Contains}
use Rattle.std.specs.List.{AllByRecursion, flat_map}
use Rattle.std.proofs.Common.{arith, ap, ◌∙◌}
use Rattle.std.proofs.lemmas.Bool.{eqb-true, eq-eqb, lt-ltb, or_left, or_right, and_from}
use Rattle.std.proofs.lemmas.List.Elements.{All-contains, filter_passes}
use Rattle.protocol.specs.Fixed.{Fixed, IsText}
use Rattle.protocol.specs.Parts.{Machine}
use Rattle.protocol.specs.Events.{Event, Submit, Pass, Form, Admit, Arrive, Ask, Take, Run, Send, End, Close, Complete, Sync, Note, Commit, Settle, Abort, Rollback, DropSub, DropControl, Prepare, Vouch, Decide, Seal, Finish, Reply, Trim}
use Rattle.protocol.specs.Words.{below}
use Rattle.protocol.specs.Numbers.{from}
use Rattle.protocol.specs.Conditions.{refusal}
use Rattle.protocol.specs.Runs.{IsRun, reached}
use Rattle.protocol.specs.Candidates.{each, each_two, tids_drawn, bids_drawn, offers, candidates, allowed_candidates}
use Rattle.protocol.specs.Schedule.{Rank, ranked, rank, is_rank_below, IsBelowEach, AscendByRank, IsEnabled}
use Rattle.protocol_laws.proofs.first.FirstFalse.{allowed_or_refused}
use Rattle.protocol_laws.proofs.first.Candidates.{allowed_is_candidate}
use Rattle.protocol_laws.proofs.first.Lists.{all_filter, all_join, all_map, weaker}
use Rattle.protocol_laws.proofs.first.RangesNamed.{all_below}

-- ---- ranks

kind_below : (x y : Rank) → x.kind < y.kind → is_rank_below x y ≡ true
kind_below x y h = or_left (nat_lt x.kind y.kind) _ (lt-ltb x.kind y.kind h)

first_below : (k x y m n : ℕ) → x < y → is_rank_below (ranked k x m) (ranked k y n) ≡ true
first_below k x y m n h = or_right (nat_lt k k) _ (and_from (k == k) _ (eq-eqb k k refl) (or_left (nat_lt x y) _ (lt-ltb x y h)))

second_below : (k x m n : ℕ) → m < n → is_rank_below (ranked k x m) (ranked k x n) ≡ true
second_below k x m n h = or_right (nat_lt k k) _ (and_from (k == k) _ (eq-eqb k k refl) (or_right (nat_lt x x) _ (and_from (x == x) _ (eq-eqb x x refl) (lt-ltb m n h))))

-- ---- lists of numbers that rise

abbrev Rises : List ℕ → Type 0
Rises [] = Unit {0}
Rises (n ∷ ns) = AllByRecursion (λ m. n < m) ns × Rises ns

from_above : (n low k : ℕ) → n < low → AllByRecursion (λ m. n < m) (from low k)
from_above n low zero h = tt
from_above n low (suc k) h = (h, from_above n (low + 1) k (omega (arith, h)))

from_rises : (low k : ℕ) → Rises (from low k)
from_rises low zero = tt
from_rises low (suc k) = (from_above low (low + 1) k (omega arith), from_rises (low + 1) k)

rises_end : (ns : List ℕ) (n : ℕ) → AllByRecursion (λ m. m < n) ns → Rises ns → Rises (ns ++ n ∷ [])
rises_end [] n h g = (tt, tt)
rises_end (m ∷ ns) n h g = (all_join _ ns (n ∷ []) g.0 (h.0, tt), rises_end ns n h.1 g.1)

below_rises : (n : ℕ) → Rises (below n)
below_rises zero = tt
below_rises (suc n) = rises_end (below n) n (all_below n n (omega arith)) (below_rises n)

-- ---- lists of events that ascend

each_below : (r : Rank) (es : List Event) → AllByRecursion (λ e. is_rank_below r (rank e) ≡ true) es → IsBelowEach r es
each_below r [] h = tt
each_below r (e ∷ es) h = (h.0, each_below r es h.1)

below_all : (r : Rank) (es : List Event) → IsBelowEach r es → AllByRecursion (λ e. is_rank_below r (rank e) ≡ true) es
below_all r [] h = tt
below_all r (e ∷ es) h = (h.0, below_all r es h.1)

joined : (es fs : List Event) → AscendByRank es → AscendByRank fs → AllByRecursion (λ e. IsBelowEach (rank e) fs) es → AscendByRank (es ++ fs)
joined [] fs h g i = g
joined (e ∷ es) fs h g i = (each_below (rank e) (es ++ fs) (all_join _ es fs (below_all (rank e) es h.0) (below_all (rank e) fs i.0)), joined es fs h.1 g i.1)

pub filtered : (p : Event → Bool) (es : List Event) → AscendByRank es → AscendByRank (filter p es)
filtered p [] h = tt
filtered p (e ∷ es) h = by (p e) (filtered p es h.1)
  where
    by : (b : Bool) → AscendByRank (filter p es) → AscendByRank (if b then e ∷ filter p es else filter p es)
    by true g = (each_below (rank e) (filter p es) (all_filter _ p es (below_all (rank e) es h.0)), g)
    by false g = g

-- ---- events of one kind

pub record IsGroup (kind : ℕ) (es : List Event) : Type 0 where
  pub ascends : AscendByRank es
  pub kinds : AllByRecursion (λ e. (rank e).kind ≡ kind) es

alone : (j n m : ℕ) (e : Event) → rank e ≡ ranked j n m → IsGroup j (e ∷ [])
alone j n m e r = record { ascends = (tt, tt); kinds = (ap (λ r. r.kind) r, tt) }

one_number : (j : ℕ) (kind : ℕ → Event) (ns : List ℕ) → ((n : ℕ) → rank (kind n) ≡ ranked j n 0) → Rises ns → IsGroup j (each kind ns)
one_number j kind ns r h = record { ascends = ascend ns h; kinds = all_kinds ns }
  where
    all_kinds : (ns : List ℕ) → AllByRecursion (λ e. (rank e).kind ≡ j) (map kind ns)
    all_kinds [] = tt
    all_kinds (n ∷ ns) = (ap (λ r. r.kind) (r n), all_kinds ns)

    ascend : (ns : List ℕ) → Rises ns → AscendByRank (map kind ns)
    ascend [] h = tt
    ascend (n ∷ ns) h = (each_below (rank (kind n)) (map kind ns) (all_map _ _ kind ns (λ m l. rw (r n, r m) (first_below j n m 0 0 l)) h.0), ascend ns h.1)

all_two : (P : Event → Type 0) (Q : ℕ → Type 0) (kind : ℕ → ℕ → Event) (xs ys : List ℕ) → ((x y : ℕ) → Q x → P (kind x y)) → AllByRecursion Q xs → AllByRecursion P (each_two kind xs ys)
all_two P Q kind [] ys k h = tt
all_two P Q kind (x ∷ xs) ys k h = all_join P (map (kind x) ys) (each_two kind xs ys) (inner ys) (all_two P Q kind xs ys k h.1)
  where
    inner : (ys : List ℕ) → AllByRecursion P (map (kind x) ys)
    inner [] = tt
    inner (y ∷ ys) = (k x y h.0, inner ys)

all_any : (xs : List ℕ) → AllByRecursion (λ x. Unit {0}) xs
all_any [] = tt
all_any (x ∷ xs) = (tt, all_any xs)

two_numbers : (j : ℕ) (kind : ℕ → ℕ → Event) (xs ys : List ℕ) → ((x y : ℕ) → rank (kind x y) ≡ ranked j x y) → Rises xs → Rises ys → IsGroup j (each_two kind xs ys)
two_numbers j kind xs ys r h g = record {
  ascends = ascend xs h;
  kinds = all_two (λ e. (rank e).kind ≡ j) (λ x. Unit {0}) kind xs ys (λ x y u. ap (λ r. r.kind) (r x y)) (all_any xs);
}
  where
    inner : (x : ℕ) (ys : List ℕ) → Rises ys → AscendByRank (map (kind x) ys)
    inner x [] g = tt
    inner x (y ∷ ys) g = (each_below (rank (kind x y)) (map (kind x) ys) (all_map _ _ (kind x) ys (λ z l. rw (r x y, r x z) (second_below j x y z l)) g.0), inner x ys g.1)

    cross : (x : ℕ) (xs zs : List ℕ) → AllByRecursion (λ m. x < m) xs → AllByRecursion (λ e. IsBelowEach (rank e) (each_two kind xs ys)) (map (kind x) zs)
    cross x xs [] l = tt
    cross x xs (y ∷ zs) l = (
      each_below (rank (kind x y)) (each_two kind xs ys) (all_two (λ e. is_rank_below (rank (kind x y)) (rank e) ≡ true) (λ m. x < m) kind xs ys (λ m z k. rw (r x y, r m z) (first_below j x m y z k)) l),
      cross x xs zs l,
    )

    ascend : (xs : List ℕ) → Rises xs → AscendByRank (each_two kind xs ys)
    ascend [] h = tt
    ascend (x ∷ xs) h = joined (map (kind x) ys) (each_two kind xs ys) (inner x ys g) (ascend xs h.1) (cross x xs ys h.0)

-- ---- groups one after the other

abbrev Graded : ℕ → List (List Event) → Type 0
Graded n [] = Unit {0}
Graded n (es ∷ ess) = IsGroup n es × Graded (n + 1) ess

from_kind : (n : ℕ) (ess : List (List Event)) → Graded n ess → AllByRecursion (λ e. n ≤ (rank e).kind) (flat_map (λ es. es) ess)
from_kind n [] h = tt
from_kind n (es ∷ ess) h = all_join _ es (flat_map (λ es. es) ess)
    (weaker _ _ es (λ e q. omega (arith, q)) h.0.kinds)
    (weaker _ _ (flat_map (λ es. es) ess) (λ e q. omega (arith, q)) (from_kind (n + 1) ess h.1))

graded : (n : ℕ) (ess : List (List Event)) → Graded n ess → AscendByRank (flat_map (λ es. es) ess)
graded n [] h = tt
graded n (es ∷ ess) h = joined es (flat_map (λ es. es) ess) h.0.ascends (graded (n + 1) ess h.1)
    (weaker _ _ es (λ e q. each_below (rank e) (flat_map (λ es. es) ess) (weaker _ _ (flat_map (λ es. es) ess) (λ f l. kind_below (rank e) (rank f) (omega (arith, q, l))) (from_kind (n + 1) ess h.1))) h.0.kinds)

pub candidates_ascend : {C : Type 0} (w : Fixed C) (s : Machine C) → AscendByRank (candidates w s)
candidates_ascend w s =
    let ks = bids_drawn w s in
    let ts = tids_drawn w s in
    let cells = below (length s.cells) in
    let kr : Rises ks = from_rises w.text.opening.next_bid (s.ring.next_bid - w.text.opening.next_bid) in
    let tr : Rises ts = from_rises w.text.opening.next_tid (s.ring.next_tid - w.text.opening.next_tid) in
    let cr : Rises cells = below_rises (length s.cells) in
    graded 1 (offers ks ts cells w s) (
      alone 1 s.ring.next_tx 0 (Submit s.ring.next_tx) refl,
      (
        one_number 2 Pass (below w.text.coordinators) (λ n. refl) (below_rises w.text.coordinators),
        (
          alone 3 s.ring.next_bid 0 (Form s.ring.next_bid) refl,
          (
            alone 4 s.ring.next_tid 0 (Admit s.ring.next_tid) refl,
            (
              two_numbers 5 Arrive ks cells (λ x y. refl) kr cr,
              (
                two_numbers 6 Ask ts cells (λ x y. refl) tr cr,
                (
                  two_numbers 7 Take ts cells (λ x y. refl) tr cr,
                  (
                    two_numbers 8 Run ts cells (λ x y. refl) tr cr,
                    (
                      two_numbers 9 Send ts cells (λ x y. refl) tr cr,
                      (
                        two_numbers 10 End ts cells (λ x y. refl) tr cr,
                        (
                          two_numbers 11 Close ts cells (λ x y. refl) tr cr,
                          (
                            two_numbers 12 Complete ks cells (λ x y. refl) kr cr,
                            (
                              one_number 13 Sync (below w.text.logs) (λ n. refl) (below_rises w.text.logs),
                              (
                                two_numbers 14 Note ks cells (λ x y. refl) kr cr,
                                (
                                  one_number 15 Commit ks (λ n. refl) kr,
                                  (
                                    one_number 16 Settle ks (λ n. refl) kr,
                                    (
                                      one_number 17 Abort ks (λ n. refl) kr,
                                      (
                                        one_number 18 Rollback cells (λ n. refl) cr,
                                        (
                                          two_numbers 19 DropSub ks cells (λ x y. refl) kr cr,
                                          (
                                            one_number 20 DropControl ts (λ n. refl) tr,
                                            (
                                              two_numbers 21 Prepare ts cells (λ x y. refl) tr cr,
                                              (
                                                two_numbers 22 Vouch ts cells (λ x y. refl) tr cr,
                                                (
                                                  one_number 23 Decide ts (λ n. refl) tr,
                                                  (
                                                    one_number 24 Seal ts (λ n. refl) tr,
                                                    (
                                                      two_numbers 25 Finish ts cells (λ x y. refl) tr cr,
                                                      (
                                                        one_number 26 Reply (below (length w.text.txs)) (λ n. refl) (below_rises (length w.text.txs)),
                                                        (
                                                          two_numbers 27 Trim ks cells (λ x y. refl) kr cr,
                                                          tt,
                                                        ),
                                                      ),
                                                    ),
                                                  ),
                                                ),
                                              ),
                                            ),
                                          ),
                                        ),
                                      ),
                                    ),
                                  ),
                                ),
                              ),
                            ),
                          ),
                        ),
                      ),
                    ),
                  ),
                ),
              ),
            ),
          ),
        ),
      ),
    )

-- ---- those that are allowed

in_filter : {X : Type 0} (p : X → Bool) (xs : List X) (x : X) (i : ℕ) → i < length xs → slice_index_or xs i x ≡ x → p x ≡ true → Contains (filter p xs) x
in_filter p [] x i l e h = absurd (omega (arith, l))
in_filter p (y ∷ xs) x zero l e h = rw (ap p e ∙ h) (0, omega arith, e)
in_filter p (y ∷ xs) x (suc i) l e h = by (p y) (in_filter p xs x i (omega (arith, l)) e h)
  where
    by : (b : Bool) → Contains (filter p xs) x → Contains (if b then y ∷ filter p xs else filter p xs) x
    by true g = (suc g.0, omega (arith, g.1), g.2)
    by false g = g

pub enabled : {C : Type 0} (w : Fixed C) (es : List Event) → IsText w.text → IsRun w es → IsEnabled w (reached w es) (allowed_candidates w (reached w es))
enabled w es text run =
    let s = reached w es in
    record {
      all = λ e. (
        (λ c. (allowed_or_refused w e s).0 (eqb-true (refusal w e s) 0 (All-contains (λ e. (refusal w e s == 0) ≡ true) (allowed_candidates w s) e (filter_passes (λ e. refusal w e s == 0) (candidates w s)) c))),
        (λ ok. let c = allowed_is_candidate w es e text run ok in in_filter (λ e. refusal w e s == 0) (candidates w s) e c.0 c.1 c.2 (eq-eqb (refusal w e s) 0 ((allowed_or_refused w e s).1 ok))),
      );
      ascends = filtered (λ e. refusal w e s == 0) (candidates w s) (candidates_ascend w s);
    }
