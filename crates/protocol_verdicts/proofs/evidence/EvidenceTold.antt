-- What verdicts tell, over every run.
use Rattle.protocol.specs.Laws.{OfEveryRun}
use Rattle.std.specs.Prelude.{◌≡◌, refl, ℕ, zero, suc, ◌+◌, ◌<◌, ◌≤◌, ◌==◌, not, Bool, true, false, ◌&&◌, ◌||◌, ◌⊎◌, Option, Some, None, is_some, List, [], ◌∷◌, ◌++◌, length, map, filter, if◌then◌else◌, nat_lt}
use Rattle.std.specs.List.{AllByRecursion, list_any}
use Rattle.std.proofs.Common.{arith, sym, ap, subst, inl, inr, ◌∙◌}
use Rattle.std.proofs.lemmas.Bool.{true≢false, eqb-true, and_parts, or_left, or_from, or_cases, le-ltb, cases_lt, not-true, false_from_ne_true}
use Rattle.snap_base.specs.declared.transactions.State.{State}
use Rattle.snap_base.specs.declared.transactions.Tx.{Tx}
use Rattle.snap_base.specs.declared.transactions.TxResult.{TxResult}
use Rattle.snap_base.specs.declared.transactions.TxResult.TheVariants.{Value, Fail}
use Rattle.snap_base.specs.declared.verdicts.Verdict.TheVariants as verdicts
use Rattle.protocol.specs.Fixed.{Fixed, tx_at}
use Rattle.protocol.specs.Facts.{Alone, serial}
use Rattle.protocol.specs.Parts.{Act, Pact, Batch, Cascade, Who, OfBatch, OfAct, Stage, Formed, Committing, Settled, Decided, Sealed, Machine}
use Rattle.protocol.specs.Events.{Event, Commit, Abort, Decide}
use Rattle.protocol.specs.Words.{holds, is_value, is_formed, is_settled, is_open, is_next_to_commit, batch_of, act_of}
use Rattle.protocol.specs.Verdicts.{verdict, pact_place, act_place}
use Rattle.protocol.specs.Conditions.{IsAllowed, conditions}
use Rattle.protocol.specs.Effects.{after}
use Rattle.protocol.specs.Runs.{opening, state_after, EachAllowed, IsRun, reached}
use Rattle.protocol.specs.History.{History, Done, no_history, history, history_after, grown, done_pact, done_batch, done_act, kept_act}
use Rattle.protocol_laws.specs.Told.{has_number, PactTold}
use Rattle.protocol_laws.specs.Commits.{is_kept}
use Rattle.protocol_laws.specs.Marks.{Marked, Known}
use Rattle.protocol_laws.specs.Told.{IsAmongDone}
use Rattle.protocol_verdicts.specs.Evidence.{Gives, IsGiven, Fails, VerdictsStand}
use Rattle.protocol_verdicts.specs.EvidenceSerial.{counts, FailsInSerial, FailedAt, VerdictsTell, IsCommittedPact, IsCommittedAct}
use Rattle.protocol_verdicts.proofs.evidence.EvidenceCommitted.{committed_is}
use Rattle.protocol.specs.Chains.{by_place, txs_of}
use Rattle.protocol_laws.proofs.first.Lists.{all_filter, all_join, both_all, filter_join, join_nil, weaker}
use Rattle.protocol_laws.proofs.first.SettlingKept as settling
use Rattle.protocol_laws.proofs.first.SettlingKeys as keys
use Rattle.protocol_laws.proofs.machine.PlacesRise.{below_open}
use Rattle.protocol_laws.proofs.machine.ActsKept.{kept_too}
use Rattle.protocol_laws.proofs.machine.Good.{Given}
use Rattle.protocol_laws.proofs.machine.BatchesCommit.{Numbered}
use Rattle.protocol_laws.proofs.machine.AllGood.{AllGood, all_good, along_good, none_allowed}
use Rattle.protocol_laws.proofs.machine.Higher.{higher}
use Rattle.protocol_laws.proofs.machine.ActsTold.{ActsTold}
use Rattle.protocol_laws.proofs.machine.PactsTold.{PactsTold, among}
use Rattle.protocol_laws.proofs.machine.MarksKept.{found_bid}
use Rattle.protocol_theorems.proofs.order.LastLaw.{whole, order_of_runs}
use Rattle.protocol_verdicts.proofs.evidence.EvidenceSerial.{result_there, pacts_serial, next_settled, by_tid_of}
use Rattle.protocol_verdicts.proofs.evidence.EvidenceRuns.{verdicts_stand}
use Rattle.protocol_verdicts.proofs.evidence.EvidenceBetween.{first_ones}
use Rattle.protocol.specs.Rests.{IsRest, IsTxIn}
use Rattle.protocol_laws.proofs.first.Statuses.{settled_not_formed}
use Rattle.protocol_laws.proofs.machine.ShowsKept.{kept_join}

-- ---- a committed PACT's batch is kept

abbrev pub PactKept : List Who → Done → Type 0
PactKept kept d = d.place.side ≡ 0 → is_kept (OfBatch d.place.batch.0) kept ≡ true

unfoldable pub PactsKept : {C : Type 0} → Machine C → History → Type 0
PactsKept s h = AllByRecursion (PactKept h.kept) h.committed

all_pacts : (k : ℕ) (h : History) (kept : List Who) (ps : List Pact) → is_kept (OfBatch k) kept ≡ true → AllByRecursion (PactKept kept) (map (done_pact k h) ps)
all_pacts k h kept [] e = tt
all_pacts k h kept (p ∷ ps) e = ((λ q. e), all_pacts k h kept ps e)

of_batch : (k : ℕ) (h : History) (kept : List Who) (o : Option Batch) → is_kept (OfBatch k) kept ≡ true → AllByRecursion (PactKept kept) (done_batch k h o)
of_batch k h kept None e = tt
of_batch k h kept (Some b) e = all_pacts k h kept b.pacts e

of_act : (c : ℕ) (h : History) (kept : List Who) (o : Option Act) → AllByRecursion (PactKept kept) (done_act c h o)
of_act c h kept None = tt
of_act c h kept (Some x) = ((λ q. absurd (omega (arith, q))), tt)

pacts_kept : {C : Type 0} (w : Fixed C) (e : Event) (s : Machine C) (h : History) → PactsKept s h → PactsKept (after w e s) (grown w e s h)
unfolding PactsKept grown
pacts_kept w (Commit k) s h g = all_join (PactKept (h.kept ++ OfBatch k ∷ [])) h.committed _ (weaker (PactKept h.kept) (PactKept (h.kept ++ OfBatch k ∷ [])) h.committed (λ d i q. kept_join (OfBatch d.place.batch.0) h.kept (OfBatch k ∷ []) (i q)) g) (of_batch k h (h.kept ++ OfBatch k ∷ []) (batch_of k s.desk.batches) (kept_too (OfBatch k) h.kept (Rattle.std.proofs.lemmas.Bool.eq-eqb k k refl)))
pacts_kept w (Decide t) s h g = all_join (PactKept (h.kept ++ kept_act (act_of t s.book.acts))) h.committed _ (weaker (PactKept h.kept) (PactKept (h.kept ++ kept_act (act_of t s.book.acts))) h.committed (λ d i q. kept_join (OfBatch d.place.batch.0) h.kept (kept_act (act_of t s.book.acts)) (i q)) g) (of_act s.book.next_c h (h.kept ++ kept_act (act_of t s.book.acts)) (act_of t s.book.acts))
pacts_kept w e s h g = g

pacts_are_kept : {C : Type 0} (w : Fixed C) (Of : Tx → C → Type 0) (finish : C → List State → Alone) (es : List Event) → Given w Of finish → IsRun w es → PactsKept (reached w es) (history w es)
unfolding PactsKept
pacts_are_kept w Of finish es v run = along_good w Of finish PactsKept v (λ e s h ok g i. pacts_kept w e s h i) tt es run

-- what committed of batches is settled where a batch above it is next to commit
settled_there : {C : Type 0} (w : Fixed C) (Of : Tx → C → Type 0) (finish : C → List State → Alone) (k : ℕ) (s : Machine C) (h : History) → AllGood w Of finish s h → is_next_to_commit k s.desk.batches ≡ true → (d : Done) → d.place.batch.0 < k → PactKept h.kept d → d.place.side ≡ 0
    → holds (λ b. is_settled b.stage) (batch_of d.place.batch.0 s.desk.batches) ≡ true
unfolding Marked Known settling.Settling
settled_there w Of finish k s h g next d l i q = at (batch_of d.place.batch.0 s.desk.batches) refl (g.good.known d.place.batch.0 (i q))
  where
    formed : (st : Stage) → true ≡ not (is_formed st) → is_formed st ≡ false
    formed Formed e = absurd (true≢false e)
    formed Committing e = refl
    formed Settled e = refl

    at : (o : Option Batch) → batch_of d.place.batch.0 s.desk.batches ≡ o → is_some o ≡ true → holds (λ b. is_settled b.stage) o ≡ true
    at None e f = absurd (true≢false (sym f))
    at (Some c) e f =
        let n = formed c.stage (sym (i q) ∙ (g.good.marked d.place.batch.0 c e).known) in
        let m = settling.mark_is w s d.place.batch.0 c e g.good.settling in
        let y = settling.in_keys c (λ z. z.bid == d.place.batch.0) s.desk.batches e in
        next_settled w k d.place.batch.0 s c g.good.settling next l (sym m ∙ false_from_ne_true c.aborted (λ a. true≢false (sym (g.good.settling.formed (settling.key_of c) y.0 a) ∙ n))) e

-- ---- what commits after an Abort does not count for it

has_first : ℕ → List Cascade → Bool
has_first k cs = list_any (λ x. x.first == k) cs

-- the Abort of k is past, and so are the numbers below c
record IsPast {C : Type 0} (k c : ℕ) (s : Machine C) : Type 0 where
  pub cascade : has_first k s.book.cascades ≡ true
  pub number : c ≤ s.book.next_c

first_more : (k : ℕ) (x : Cascade) (cs : List Cascade) → has_first k cs ≡ true → has_first k (cs ++ x ∷ []) ≡ true
unfolding has_first
first_more k x [] e = absurd (true≢false (sym e))
first_more k x (y ∷ ys) e = by (y.first == k) e (first_more k x ys)
  where
    by : (b : Bool) → (b || list_any (λ x. x.first == k) ys) ≡ true → (list_any (λ x. x.first == k) ys ≡ true → list_any (λ x. x.first == k) (ys ++ x ∷ []) ≡ true) → (b || list_any (λ x. x.first == k) (ys ++ x ∷ [])) ≡ true
    by true e r = refl
    by false e r = r e

first_new : (k : ℕ) (x : Cascade) (cs : List Cascade) → x.first ≡ k → has_first k (cs ++ x ∷ []) ≡ true
unfolding has_first
first_new k x [] e = or_left (x.first == k) false (Rattle.std.proofs.lemmas.Bool.eq-eqb x.first k e)
first_new k x (y ∷ ys) e = Rattle.std.proofs.lemmas.Bool.or_right (y.first == k) _ (first_new k x ys e)

past_kept : {C : Type 0} (w : Fixed C) (e : Event) (s : Machine C) (k c : ℕ) → IsPast k c s → IsPast k c (after w e s)
unfolding after
past_kept w (Abort j) s k c g = record { cascade = first_more k _ s.book.cascades g.cascade; number = g.number }
past_kept w (Decide t) s k c g = record { cascade = g.cascade; number = omega (arith, g.number) }
past_kept w e s k c g = record { cascade = g.cascade; number = g.number }

past_now : {C : Type 0} (w : Fixed C) (s : Machine C) (k c : ℕ) → s.book.next_c ≡ c → IsPast k c (after w (Abort k) s)
unfolding after
past_now w s k c e = record { cascade = first_new k _ s.book.cascades refl; number = omega (arith, e) }

-- who stands below a cascade does not commit
none_below : (k : ℕ) (y : keys.Key) (xs : List keys.Key) (cs : List Cascade) → has_first k cs ≡ true → AllByRecursion (λ c. keys.OverBelow c.first xs) cs → keys.IsIn y xs → keys.is_over y ≡ false → k ≤ y.bid
unfolding has_first keys.OverBelow
none_below k y xs [] e h i o = absurd (true≢false (sym e))
none_below k y xs (c ∷ cs) e h i o = by (or_cases (c.first == k) (list_any (λ x. x.first == k) cs) e) (λ f. none_below k y xs cs f h.1 i o)
  where
    by : ((c.first == k) ≡ true) ⊎ (list_any (λ x. x.first == k) cs ≡ true) → (list_any (λ x. x.first == k) cs ≡ true → k ≤ y.bid) → k ≤ y.bid
    by (inl q) r = at (cases_lt y.bid k)
      where
        at : (y.bid < k) ⊎ (k ≤ y.bid) → k ≤ y.bid
        at (inl l) = absurd (true≢false (sym (h.0 y i (omega (arith, l, eqb-true c.first k q))) ∙ o))
        at (inr l) = l
    by (inr q) r = r q

and_false : (v b : Bool) → b ≡ false → (v && b) ≡ false
and_false true b e = e
and_false false b e = refl

pacts_out : (k c j : ℕ) (h : History) (ps : List Pact) → k ≤ j → filter (counts k c) (map (done_pact j h) ps) ≡ []
pacts_out k c j h [] l = refl
pacts_out k c j h (p ∷ ps) l = ap (λ b. if b then done_pact j h p ∷ filter (counts k c) (map (done_pact j h) ps) else filter (counts k c) (map (done_pact j h) ps)) (and_false (is_value p.result) (nat_lt j k) (le-ltb j k l)) ∙ pacts_out k c j h ps l

batch_out : {C : Type 0} (w : Fixed C) (k c j : ℕ) (s : Machine C) (h : History) → settling.Settling w s → IsPast k c s → (o : Option Batch) → batch_of j s.desk.batches ≡ o → holds (λ b. is_open b && is_next_to_commit j s.desk.batches) o ≡ true → filter (counts k c) (done_batch j h o) ≡ []
unfolding settling.Settling
batch_out w k c j s h g p None e q = refl
batch_out w k c j s h g p (Some b) e q =
    let o = and_parts (is_formed b.stage) (not b.aborted) (and_parts (is_open b) (is_next_to_commit j s.desk.batches) q).0 in
    let i = settling.in_keys b (λ z. z.bid == j) s.desk.batches e in
    let l = none_below k (settling.key_of b) (map settling.key_of s.desk.batches) s.book.cascades p.cascade g.below_cascades i.0 (or_from b.aborted (is_settled b.stage) (not-true b.aborted o.1) (not_settled b.stage o.0)) in
    pacts_out k c j h b.pacts (omega (arith, l, eqb-true b.bid j i.1))
  where
    not_settled : (st : Stage) → is_formed st ≡ true → is_settled st ≡ false
    not_settled Formed e = refl
    not_settled Committing e = refl
    not_settled Settled e = absurd (true≢false (sym e))

act_out : (k c n : ℕ) (h : History) (o : Option Act) → c ≤ n → filter (counts k c) (done_act n h o) ≡ []
act_out k c n h None l = refl
act_out k c n h (Some x) l = by (is_value x.result && nat_lt n c) (and_false (is_value x.result) (nat_lt n c) (le-ltb n c l))
  where
    d : Done
    d = record { who = OfAct x.tid; tid = x.tid; tx = x.tx; place = Rattle.protocol.specs.Verdicts.act_place x.m n; result = x.result; reader = x.reader; views = Rattle.protocol.specs.History.act_view h x }

    by : (b : Bool) → b ≡ false → (if b then d ∷ [] else []) ≡ []
    by true e = absurd (true≢false e)
    by false e = refl

filter_more : (p : Done → Bool) (xs ys : List Done) → filter p ys ≡ [] → filter p (xs ++ ys) ≡ filter p xs
filter_more p xs ys e = filter_join p xs ys ∙ (ap (λ z. filter p xs ++ z) e ∙ join_nil (filter p xs))

one_out : {C : Type 0} (w : Fixed C) (k c : ℕ) (e : Event) (s : Machine C) (h : History) → IsAllowed w e s → settling.Settling w s → IsPast k c s → filter (counts k c) (grown w e s h).committed ≡ filter (counts k c) h.committed
unfolding grown conditions
one_out w k c (Commit j) s h ok g p = filter_more (counts k c) h.committed (done_batch j h (batch_of j s.desk.batches)) (batch_out w k c j s h g p (batch_of j s.desk.batches) refl ok.0)
one_out w k c (Decide t) s h ok g p = filter_more (counts k c) h.committed (done_act s.book.next_c h (act_of t s.book.acts)) (act_out k c s.book.next_c h (act_of t s.book.acts) p.number)
one_out w k c e s h ok g p = refl

later_out : {C : Type 0} (w : Fixed C) (k c : ℕ) (es : List Event) (s : Machine C) (h : History) → EachAllowed w es s → settling.Settling w s → IsPast k c s → filter (counts k c) (history_after w es s h).committed ≡ filter (counts k c) h.committed
later_out w k c [] s h run g p = refl
later_out w k c (e ∷ es) s h run g p = later_out w k c es (after w e s) (grown w e s h) run.1 (settling.kept w e s run.0 g) (past_kept w e s k c p) ∙ one_out w k c e s h run.0 g p

abort_grows : {C : Type 0} (w : Fixed C) (k : ℕ) (s : Machine C) (h : History) → (grown w (Abort k) s h).committed ≡ h.committed
unfolding grown
abort_grows w k s h = refl

from_abort : {C : Type 0} (w : Fixed C) (k c : ℕ) (front later : List Event) (s : Machine C) (h : History) → EachAllowed w (front ++ Abort k ∷ later) s → settling.Settling w s → (state_after w front s).book.next_c ≡ c
    → filter (counts k c) (history_after w (front ++ Abort k ∷ later) s h).committed ≡ filter (counts k c) (history_after w front s h).committed
from_abort w k c [] later s h run g e = later_out w k c later (after w (Abort k) s) (grown w (Abort k) s h) run.1 (settling.kept w (Abort k) s run.0 g) (past_now w s k c e) ∙ ap (filter (counts k c)) (abort_grows w k s h)
from_abort w k c (f ∷ front) later s h run g e = from_abort w k c front later (after w f s) (grown w f s h) run.1 (settling.kept w f s run.0 g) e

-- ---- a batch that failed

fails_there : {C : Type 0} (w : Fixed C) (Of : Tx → C → Type 0) (finish : C → List State → Alone) (n k c code : ℕ) (front : List Event) (ds : List Done) → Given w Of finish → IsRun w front → IsAllowed w (Abort k) (reached w front) → filter (counts k c) ds ≡ filter (counts k c) (history w front).committed → Fails n k c code (Abort k) (reached w front)
    → FailsInSerial w finish n k c code (reached w front) ds
unfolding conditions PactsKept Numbered
fails_there w Of finish n k c code front ds v run ok same r =
    let s = reached w front in
    let g = all_good w Of finish front v run in
    let i = (higher w Of finish front v run).places in
    let a = and_parts (is_open r.batch) (is_next_to_commit k s.desk.batches) (subst (λ o. holds (λ b. is_open b && is_next_to_commit k s.desk.batches) o ≡ true) r.found ok.0) in
    let p = pacts_serial w Of finish k c code s (history w front) r.batch r.front r.rest r.pact v.facts g.good (whole w Of finish front v run).ordered i r.next_c a.0 a.1 r.found r.splits r.values r.fails in
    record {
      batch = r.batch;
      pact = r.pact;
      front = r.front;
      rest = r.rest;
      found = r.found;
      splits = r.splits;
      by_tid = by_tid_of 0 r.batch.pacts (g.good.numbered k r.batch r.found);
      tx = r.tx;
      values = r.values;
      fails = r.fails;
      settled = subst (AllByRecursion (λ d. d.place.side ≡ 0 → holds (λ b. is_settled b.stage) (batch_of d.place.batch.0 s.desk.batches) ≡ true)) (sym same)
          (all_filter (λ d. d.place.side ≡ 0 → holds (λ b. is_settled b.stage) (batch_of d.place.batch.0 s.desk.batches) ≡ true) (counts k c) (history w front).committed
          (both_all _ _ _ (history w front).committed (λ d x y. settled_there w Of finish k s (history w front) g a.1 d (below_open d.place.batch.0 k s.desk.batches r.batch r.found a.0 x.1) y) i.low (pacts_are_kept w Of finish front v run)));
      runs = subst (λ z. map Some (serial w.code finish (serial w.code finish w.text.opening.states (txs_of w (by_place z))).world (map (λ p. tx_at w.text p.tx) (r.front ++ r.pact ∷ []))).results ≡ map (λ p. p.result) (r.front ++ r.pact ∷ [])) (sym same) p;
    }

failed_at : {C : Type 0} (w : Fixed C) (Of : Tx → C → Type 0) (finish : C → List State → Alone) (n k c code : ℕ) (es : List Event) → Given w Of finish → IsRun w es → IsGiven w n (verdicts.BatchCode (record { 0 = k }) c code) es → FailedAt w finish n k c code es
failed_at w Of finish n k c code es v run g =
    let r : Fails n k c code g.event (reached w g.front) = g.gives in
    let split = subst (λ z. es ≡ g.front ++ z ∷ g.later) r.event g.splits in
    let whole_run = subst (λ z. EachAllowed w z (opening w)) split run in
    let f = first_ones w g.front (Abort k) g.later (opening w) whole_run in
    let same = ap (λ z. filter (counts k c) (history w z).committed) split ∙ from_abort w k c g.front g.later (opening w) no_history whole_run (settling.opened w v.text) r.next_c in
    record { front = g.front; later = g.later; splits = split; next_c = r.next_c; there = fails_there w Of finish n k c code g.front (history w es).committed v f.0 f.1 same (subst (λ z. Fails n k c code z (reached w g.front)) r.event r) }

-- ---- the law

cascade_of : {C : Type 0} (w : Fixed C) (es : List Event) (n k by : ℕ) → VerdictsStand w (λ c world. record { result = Value (Rattle.std.specs.Prelude.pos 0); world = world }) es → IsGiven w n (verdicts.Cascade (record { 0 = k }) (record { 0 = by })) es
    → (c : ℕ) × ((code : ℕ) × (verdict by (reached w es).book (reached w es).desk ≡ Some (verdicts.BatchCode (record { 0 = k }) c code)))
cascade_of w es n k by st g = at g.gives
  where
    give : (code : ℕ) → Fails by k (reached w g.front).book.next_c code g.event (reached w g.front) → verdict by (reached w es).book (reached w es).desk ≡ Some (verdicts.BatchCode (record { 0 = k }) (reached w g.front).book.next_c code)
    give code r = (st.evidence by (verdicts.BatchCode (record { 0 = k }) (reached w g.front).book.next_c code)).1 (record { front = g.front; event = g.event; later = g.later; splits = g.splits; gives = r })

    at : Gives w n (verdicts.Cascade (record { 0 = k }) (record { 0 = by })) g.event (reached w g.front) → (c : ℕ) × ((code : ℕ) × (verdict by (reached w es).book (reached w es).desk ≡ Some (verdicts.BatchCode (record { 0 = k }) c code)))
    at (inl r) = ((reached w g.front).book.next_c, (r.code, give r.code r.failing))
    at (inr r) = ((reached w g.front).book.next_c, (r.code, give r.code r.failing))

all_committed : {C : Type 0} (w : Fixed C) (Of : Tx → C → Type 0) (finish : C → List State → Alone) (es : List Event) → Given w Of finish → IsRun w es → AllByRecursion (λ d. IsCommittedPact (reached w es) d ⊎ IsCommittedAct (reached w es) d) (history w es).committed
unfolding PactsKept
all_committed w Of finish es v run = committed_is w Of finish es v run (pacts_are_kept w Of finish es v run)

batches_told : {C : Type 0} (w : Fixed C) (Of : Tx → C → Type 0) (finish : C → List State → Alone) (es : List Event) → Given w Of finish → IsRun w es → (k : ℕ) (b : Batch) → batch_of k (reached w es).desk.batches ≡ Some b → is_settled b.stage ≡ true
    → AllByRecursion (λ p. (r : TxResult) × ((p.result ≡ Some r) × IsAmongDone p.tx (pact_place b.bid p.tid) r (history w es).committed)) b.pacts
unfolding PactsTold
batches_told w Of finish es v run k b e q = weaker _ _ b.pacts (λ p i. one p (subst (λ j. PactTold (history w es).committed j p) (sym (eqb-true b.bid k (found_bid k b (reached w es).desk.batches e))) i)) ((all_good w Of finish es v run).pacts_told k b e (settled_not_formed b.stage q))
  where
    one : (p : Pact) → PactTold (history w es).committed b.bid p → (r : TxResult) × ((p.result ≡ Some r) × IsAmongDone p.tx (pact_place b.bid p.tid) r (history w es).committed)
    one p i = let r = some_there p.result i.1 in (r.0, (r.1, among (OfBatch b.bid) p.tid p.tx p.tx (pact_place b.bid p.tid) p.result r.0 (history w es).committed i.0 refl r.1))
      where
        some_there : (o : Option TxResult) → is_some o ≡ true → (r : TxResult) × (o ≡ Some r)
        some_there None e = absurd (Rattle.std.proofs.lemmas.Bool.true≢false (sym e))
        some_there (Some r) e = (r, refl)

acts_told : {C : Type 0} (w : Fixed C) (Of : Tx → C → Type 0) (finish : C → List State → Alone) (es : List Event) → Given w Of finish → IsRun w es → (t c : ℕ) (x : Act) (r : TxResult) → act_of t (reached w es).book.acts ≡ Some x → (x.status ≡ Decided c) ⊎ (x.status ≡ Sealed c) → x.result ≡ Some r
    → IsAmongDone x.tx (act_place x.m c) r (history w es).committed
unfolding ActsTold
acts_told w Of finish es v run t c x r e q i =
    among (OfAct t) t x.tx x.tx (act_place x.m c) x.result r (history w es).committed ((all_good w Of finish es v run).told t x e c (at q)) refl i
  where
    at : (x.status ≡ Decided c) ⊎ (x.status ≡ Sealed c) → has_number c x.status ≡ true
    at (inl f) = ap (has_number c) f ∙ Rattle.std.proofs.lemmas.Bool.eq-eqb c c refl
    at (inr f) = ap (has_number c) f ∙ Rattle.std.proofs.lemmas.Bool.eq-eqb c c refl

-- Of every run of every accepted text.
pub verdicts_tell : {C : Type 0} → OfEveryRun (VerdictsTell {C = C})
verdicts_tell {C} w finish es f t run =
    let stand = verdicts_stand w finish es f t run in
    let order = order_of_runs w finish es f t run in
    record {
      committed = of_committed es run (length w.text.opening.states) refl;
      batches = λ k b e q. of_batches es run (length w.text.opening.states) refl k b e q;
      acts = λ t c x r e q i. of_acts es run (length w.text.opening.states) refl t c x r e q i;
      value = λ n p v q. result_there w finish (reached w es) (history w es) n p (Value v) order (order.told_value n p v q);
      code = λ n p c q. result_there w finish (reached w es) (history w es) n p (Fail c) order (order.told_code n p c q);
      batch_code = λ n k c code q. by es run (length w.text.opening.states) refl n k c code ((stand.evidence n (verdicts.BatchCode (record { 0 = k }) c code)).0 q);
      cascade = λ n k by q. cascade_of w es n k by (record { evidence = stand.evidence; stay = stand.stay; between = stand.between; of_pacts = stand.of_pacts; of_acts = stand.of_acts }) ((stand.evidence n (verdicts.Cascade (record { 0 = k }) (record { 0 = by }))).0 q);
    }
  where
    no_split : (front later : List Event) (e : Event) → [] ≡ front ++ e ∷ later → ⊥
    no_split [] later e q = cc q
    no_split (f ∷ front) later e q = cc q

    of_committed : (es : List Event) → IsRun w es → (m : ℕ) → length w.text.opening.states ≡ m → AllByRecursion (λ d. IsCommittedPact (reached w es) d ⊎ IsCommittedAct (reached w es) d) (history w es).committed
    of_committed es run (suc m) l = all_committed w (IsRest w.code (IsTxIn w.text)) finish es (record { text = t; actors = omega (arith, l); facts = f }) run
    of_committed [] run zero l = tt
    of_committed (e ∷ es) run zero l = absurd (none_allowed w e t l run.0)

    of_batches : (es : List Event) → IsRun w es → (m : ℕ) → length w.text.opening.states ≡ m → (k : ℕ) (b : Batch) → batch_of k (reached w es).desk.batches ≡ Some b → is_settled b.stage ≡ true
        → AllByRecursion (λ p. (r : TxResult) × ((p.result ≡ Some r) × IsAmongDone p.tx (pact_place b.bid p.tid) r (history w es).committed)) b.pacts
    of_batches es run (suc m) l k b e q = batches_told w (IsRest w.code (IsTxIn w.text)) finish es (record { text = t; actors = omega (arith, l); facts = f }) run k b e q
    of_batches [] run zero l k b e q = absurd (cc e)
    of_batches (e ∷ es) run zero l k b g q = absurd (none_allowed w e t l run.0)

    of_acts : (es : List Event) → IsRun w es → (m : ℕ) → length w.text.opening.states ≡ m → (u c : ℕ) (x : Act) (r : TxResult) → act_of u (reached w es).book.acts ≡ Some x → (x.status ≡ Decided c) ⊎ (x.status ≡ Sealed c) → x.result ≡ Some r
        → IsAmongDone x.tx (act_place x.m c) r (history w es).committed
    of_acts es run (suc m) l u c x r e q i = acts_told w (IsRest w.code (IsTxIn w.text)) finish es (record { text = t; actors = omega (arith, l); facts = f }) run u c x r e q i
    of_acts [] run zero l u c x r e q i = absurd (cc e)
    of_acts (e ∷ es) run zero l u c x r g q i = absurd (none_allowed w e t l run.0)

    by : (es : List Event) → IsRun w es → (m : ℕ) → length w.text.opening.states ≡ m → (n k c code : ℕ) → IsGiven w n (verdicts.BatchCode (record { 0 = k }) c code) es → FailedAt w finish n k c code es
    by es run (suc m) l n k c code g = failed_at w (IsRest w.code (IsTxIn w.text)) finish n k c code es (record { text = t; actors = omega (arith, l); facts = f }) run g
    by [] run zero l n k c code g = absurd (no_split g.front g.later g.event g.splits)
    by (e ∷ es) run zero l n k c code g = absurd (none_allowed w e t l run.0)
