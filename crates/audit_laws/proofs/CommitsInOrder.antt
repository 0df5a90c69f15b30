-- Batches commit in the order of their numbers, and none but an ACT fails at a place.
use Rattle.std.specs.Prelude.{◌≡◌, refl, ℕ, ◌+◌, ◌<◌, ◌≤◌, ◌==◌, max, nat_lt, not, Bool, true, false, ◌&&◌, ◌||◌, ◌⊎◌, if◌then◌else◌, Option, Some, None, List, [], ◌∷◌, ◌++◌, map, filter}
use Rattle.std.specs.List.{AllByRecursion, list_all}
use Rattle.std.proofs.Common.{arith, sym, ap, subst, ◌∙◌, inl, inr}
use Rattle.std.proofs.lemmas.Bool.{true≢false, and_parts, eqb-true, ltb-true, ltb-false}
use Rattle.std.proofs.lemmas.List.{append-nil}
use Rattle.snap_base.proofs.Lists.{all_found, all_join}
use Rattle.snap_base.proofs.Options.{none_is_some, same_some}
use Rattle.protocol_laws.proofs.Lemmas.{found_bid}
use Rattle.snap_base.specs.declared.transactions.TxResult.TheVariants.{Fail}
use Rattle.protocol.specs.Conditions.{IsAllowed, conditions}
use Rattle.protocol.specs.Effects.{after}
use Rattle.protocol.specs.Events.{Event, Commit, Decide}
use Rattle.protocol.specs.Fixed.{Fixed}
use Rattle.protocol.specs.History.{Done, History, done_act, done_batch, done_pact, grown, history_after, no_history}
use Rattle.protocol.specs.Parts as parts
use Rattle.protocol.specs.Parts.{Act, Batch, Machine, Pact, Stage, Committing, Settled, Who, OfBatch, OfAct}
use Rattle.protocol.specs.Runs.{opening, state_after, EachAllowed, IsRun}
use Rattle.protocol.specs.Settling.{AllOverBelow, BatchesSettleInOrder}
use Rattle.protocol.specs.Words.{act_of, batch_of, greatest, holds, is_committing, is_formed, is_next_to_commit, is_open, is_settled, is_value}
use Rattle.protocol_verdicts.specs.EvidenceSerial.{IsCommittedAct, IsCommittedPact}
use Rattle.audit_words.specs.Beside.{BatchesRise}
use Rattle.audit_words.specs.Clauses.{IsNotBelow}

-- ---- what each is

abbrev pub IsAt : Who → Done → Type 0
IsAt (OfBatch k) d = (d.place.batch.0 ≡ k) × (d.place.side ≡ 0) × (is_value d.result ≡ true)
IsAt (OfAct t) d = d.place.side ≡ 1

abbrev pub IsItself : Done → Type 0
IsItself d = IsAt d.who d

abbrev pub IsThere : {C : Type 0} → Machine C → Done → Type 0
IsThere s d = IsCommittedPact s d ⊎ IsCommittedAct s d

rise_join : (xs ys : List Done) → BatchesRise xs → BatchesRise ys → AllByRecursion (λ d. AllByRecursion (λ e. IsNotBelow d.who e.who) ys) xs → BatchesRise (xs ++ ys)
rise_join [] ys h k a = k
rise_join (x ∷ xs) ys h k a = (all_join (λ e. IsNotBelow x.who e.who) xs ys h.0 a.0, rise_join xs ys h.1 k a.1)

-- ---- batches

found_is : (P : Batch → Type 0) (k : ℕ) (b : Batch) (bs : List Batch) → batch_of k bs ≡ Some b → AllByRecursion P bs → P b
found_is P k b bs e h = (all_found P (λ x. x.bid == k) bs b h e).0

bid_is : (k : ℕ) (b : Batch) (bs : List Batch) → batch_of k bs ≡ Some b → b.bid ≡ k
bid_is k b bs e = eqb-true b.bid k (found_bid k b bs e)

-- a settled batch is no greater than the greatest of them
settled_below : (k : ℕ) (b : Batch) (bs : List Batch) → batch_of k bs ≡ Some b → is_settled b.stage ≡ true → b.bid ≤ greatest (map (λ x. x.bid) (filter (λ x. is_settled x.stage) bs))
settled_below k b [] e h = absurd (none_is_some b e)
settled_below k b (c ∷ bs) e h = by (c.bid == k) e (λ q. settled_below k b bs q h)
  where
    first : (d : Bool) → d ≡ true → c.bid ≤ greatest (map (λ x. x.bid) (if d then c ∷ filter (λ x. is_settled x.stage) bs else filter (λ x. is_settled x.stage) bs))
    first true e = above c.bid (greatest (map (λ x. x.bid) (filter (λ x. is_settled x.stage) bs)))
      where
        above : (m n : ℕ) → m ≤ max m n
        above m n = omega arith
    first false e = absurd (true≢false (sym e))

    later : (d : Bool) → b.bid ≤ greatest (map (λ x. x.bid) (filter (λ x. is_settled x.stage) bs)) → b.bid ≤ greatest (map (λ x. x.bid) (if d then c ∷ filter (λ x. is_settled x.stage) bs else filter (λ x. is_settled x.stage) bs))
    later true l = omega (arith, l)
    later false l = l

    by : (d : Bool) → (if d then Some c else batch_of k bs) ≡ Some b → (batch_of k bs ≡ Some b → b.bid ≤ greatest (map (λ x. x.bid) (filter (λ x. is_settled x.stage) bs)))
        → b.bid ≤ greatest (map (λ x. x.bid) (filter (λ x. is_settled x.stage) (c ∷ bs)))
    by true e more = subst (λ (x : Batch). x.bid ≤ greatest (map (λ y. y.bid) (filter (λ y. is_settled y.stage) (c ∷ bs)))) (same_some c b e)
        (first (is_settled c.stage) (subst (λ (x : Batch). is_settled x.stage ≡ true) (sym (same_some c b e)) h))
    by false e more = later (is_settled c.stage) (more e)

-- an open batch is not over
not_over : (b : Batch) → is_open b ≡ true → (b.aborted || is_settled b.stage) ≡ false
not_over b e = by b.aborted b.stage (and_parts (is_formed b.stage) (not b.aborted) e).0 (and_parts (is_formed b.stage) (not b.aborted) e).1
  where
    by : (a : Bool) (st : Stage) → is_formed st ≡ true → not a ≡ true → (a || is_settled st) ≡ false
    by true st h k = absurd (true≢false (sym k))
    by false parts.Formed h k = refl
    by false Committing h k = refl
    by false Settled h k = absurd (true≢false (sym h))

-- who committed is of no greater batch than an open one
no_greater : {C : Type 0} (w : Fixed C) (s : Machine C) (k j : ℕ) (b c : Batch) → BatchesSettleInOrder w s → batch_of k s.desk.batches ≡ Some b → is_open b ≡ true → batch_of j s.desk.batches ≡ Some c → is_formed c.stage ≡ false → j ≤ k
no_greater w s k j b c o at_k is_free at_j past = by (nat_lt k j) refl
  where
    over : (n : ℕ) → AllOverBelow n s.desk.batches → b.bid < n → ⊥
    over n h l = true≢false (sym (found_is (λ (x : Batch). x.bid < n → (x.aborted || is_settled x.stage) ≡ true) k b s.desk.batches at_k h l) ∙ not_over b is_free)

    staged : k < j → (st : Stage) → c.stage ≡ st → ⊥
    staged l parts.Formed e = true≢false (sym (ap is_formed e) ∙ past)
    staged l Committing e =
        over c.bid (found_is (λ (x : Batch). is_committing x.stage ≡ true → AllOverBelow x.bid s.desk.batches) j c s.desk.batches at_j o.below_committing (ap is_committing e))
        (omega (arith, l, bid_is k b s.desk.batches at_k, bid_is j c s.desk.batches at_j))
    staged l Settled e =
        over (s.desk.settled + 1) o.below_settled
        (omega (arith, l, bid_is k b s.desk.batches at_k, bid_is j c s.desk.batches at_j, settled_below j c s.desk.batches at_j (ap is_settled e), o.settled_is))

    by : (d : Bool) → nat_lt k j ≡ d → j ≤ k
    by true e = absurd (staged (ltb-true k j e) c.stage refl)
    by false e = ltb-false k j e

-- ---- one event

never_below : (u : Who) (t : ℕ) → IsNotBelow u (OfAct t)
never_below (OfBatch k) t = tt
never_below (OfAct u) t = tt

all_pacts : (P : Done → Type 0) (k : ℕ) (h : History) (ps : List Pact) → ((p : Pact) → is_value p.result ≡ true → P (done_pact k h p)) → list_all (λ p. is_value p.result) ps ≡ true → AllByRecursion P (map (done_pact k h) ps)
all_pacts P k h [] f e = tt
all_pacts P k h (p ∷ ps) f e =
    let q = and_parts (is_value p.result) (list_all (λ x. is_value x.result) ps) e in
    (f p q.0, all_pacts P k h ps f q.1)

pacts_rise : (k : ℕ) (h : History) (ps : List Pact) → list_all (λ p. is_value p.result) ps ≡ true → BatchesRise (map (done_pact k h) ps)
pacts_rise k h [] e = tt
pacts_rise k h (p ∷ ps) e =
    let q = and_parts (is_value p.result) (list_all (λ x. is_value x.result) ps) e in
    (all_pacts (λ d. IsNotBelow (OfBatch k) d.who) k h ps (λ x v. same k) q.1, pacts_rise k h ps q.1)
  where
    same : (n : ℕ) → n ≤ n
    same n = omega arith

abbrev Both : List Done → Type 0
Both ds = BatchesRise ds × AllByRecursion IsItself ds

committing : {C : Type 0} (w : Fixed C) (s : Machine C) (h : History) (k : ℕ) (o : Option Batch) → batch_of k s.desk.batches ≡ o → BatchesSettleInOrder w s → AllByRecursion (IsThere s) h.committed
    → holds (λ b. is_open b && is_next_to_commit k s.desk.batches) o ≡ true → holds (λ b. list_all (λ p. is_value p.result) b.pacts) o ≡ true → Both h.committed → Both (h.committed ++ done_batch k h o)
committing w s h k None e o there x y z = absurd (true≢false (sym x))
committing w s h k (Some b) e o there x y z = (
  rise_join h.committed (map (done_pact k h) b.pacts) z.0 (pacts_rise k h b.pacts y) (all_of h.committed there z.1),
  all_join IsItself h.committed (map (done_pact k h) b.pacts) z.1 (all_pacts IsItself k h b.pacts (λ p v. (refl, refl, v)) y),
)
  where
    is_free : is_open b ≡ true
    is_free = (and_parts (is_open b) (is_next_to_commit k s.desk.batches) x).0

    below : (d : Done) (u : Who) → IsThere s d → IsAt u d → IsNotBelow u (OfBatch k)
    below d (OfAct t) i a = tt
    below d (OfBatch j) (inr i) a = absurd (zero_one (sym a.1 ∙ i.side))
      where
        zero_one : ◌≡◌ {A = ℕ} 0 1 → ⊥
        zero_one e = omega (arith, e)
    below d (OfBatch j) (inl i) a = subst (λ (n : ℕ). n ≤ k) a.0 (no_greater w s k d.place.batch.0 b i.batch o e is_free i.found i.past)

    all_of : (ds : List Done) → AllByRecursion (IsThere s) ds → AllByRecursion IsItself ds → AllByRecursion (λ d. AllByRecursion (λ e. IsNotBelow d.who e.who) (map (done_pact k h) b.pacts)) ds
    all_of [] i a = tt
    all_of (d ∷ ds) i a = (all_pacts (λ e. IsNotBelow d.who e.who) k h b.pacts (λ p v. below d d.who i.0 a.0) y, all_of ds i.1 a.1)

deciding : (h : History) (c : ℕ) (o : Option Act) → Both h.committed → Both (h.committed ++ done_act c h o)
deciding h c None z = subst Both (sym (append-nil h.committed)) z
deciding h c (Some x) z =
    (rise_join h.committed (done_act c h (Some x)) z.0 (tt, tt) (all h.committed), all_join IsItself h.committed (done_act c h (Some x)) z.1 (refl, tt))
  where
    all : (ds : List Done) → AllByRecursion (λ d. AllByRecursion (λ e. IsNotBelow d.who e.who) (done_act c h (Some x))) ds
    all [] = tt
    all (d ∷ ds) = ((never_below d.who x.tid, tt), all ds)

one_event : {C : Type 0} (w : Fixed C) (e : Event) (s : Machine C) (h : History) → IsAllowed w e s → BatchesSettleInOrder w s → AllByRecursion (IsThere s) h.committed → Both h.committed → Both (grown w e s h).committed
unfolding grown conditions
one_event w (Commit k) s h ok o there z = committing w s h k (batch_of k s.desk.batches) refl o there ok.0 ok.1.0 z
one_event w (Decide t) s h ok o there z = deciding h s.book.next_c (act_of t s.book.acts) z
one_event w e s h ok o there z = z

-- ---- a run

along : {C : Type 0} (w : Fixed C) (es : List Event) (s : Machine C) (h : History)
    → ((fs : List Event) → EachAllowed w fs s → BatchesSettleInOrder w (state_after w fs s) × AllByRecursion (IsThere (state_after w fs s)) (history_after w fs s h).committed)
    → EachAllowed w es s → Both h.committed → Both (history_after w es s h).committed
along w [] s h f run z = z
along w (e ∷ es) s h f run z =
    along w es (after w e s) (grown w e s h) (λ fs r. f (e ∷ fs) (run.0, r)) run.1 (one_event w e s h run.0 (f [] tt).0 (f [] tt).1 z)

pub both_along : {C : Type 0} (w : Fixed C) (es : List Event)
    → ((fs : List Event) → IsRun w fs → BatchesSettleInOrder w (state_after w fs (opening w)) × AllByRecursion (IsThere (state_after w fs (opening w))) (history_after w fs (opening w) no_history).committed)
    → IsRun w es → BatchesRise (history_after w es (opening w) no_history).committed × AllByRecursion IsItself (history_after w es (opening w) no_history).committed
both_along w es f run = along w es (opening w) no_history f run (tt, tt)

-- who failed at a place is an ACT
pub fails_alone : (front : List Done) (d : Done) (rest : List Done) (c : ℕ) → AllByRecursion IsItself (front ++ d ∷ rest) → d.result ≡ Some (Fail c) → d.place.side ≡ 1
fails_alone (x ∷ front) d rest c h e = fails_alone front d rest c h.1 e
fails_alone [] d rest c h e = by d.who h.0
  where
    by : (u : Who) → IsAt u d → d.place.side ≡ 1
    by (OfAct t) a = a
    by (OfBatch k) a = absurd (true≢false (sym a.2 ∙ ap is_value e))
