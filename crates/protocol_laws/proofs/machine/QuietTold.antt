-- In a quiet state each transaction that committed is told so, at its place, with its result.
use Rattle.std.specs.Prelude.{◌≡◌, refl, ℕ, ◌+◌, ◌%◌, ◌≤◌, ◌==◌, not, Bool, true, false, ◌&&◌, if◌then◌else◌, Option, Some, None, is_some, List, [], ◌∷◌, ◌++◌, map, find}
use Rattle.std.specs.List.{AllByRecursion, list_all}
use Rattle.std.proofs.Common.{arith, sym, ap, subst, inl, inr, ◌∙◌}
use Rattle.std.proofs.lemmas.Bool.{true≢false, eqb-true, eq-eqb, and_parts, and_from, or_parts, false_from_ne_true, not-true}
use Rattle.snap_base.specs.declared.transactions.TxResult.{TxResult}
use Rattle.snap_base.specs.declared.verdicts.Verdict.{Verdict}
use Rattle.snap_base.specs.declared.transactions.TxResult.TheVariants.{Value, Fail}
use Rattle.snap_base.proofs.Options.{somebody}
use Rattle.protocol.specs.Fixed.{Fixed}
use Rattle.protocol.specs.Records.{is_commit, is_act_commit}
use Rattle.protocol.specs.Parts.{Act, Batch, Cascade, Pact, Stage, Formed, Committing, Settled, Status, Live, Doomed, Decided, Sealed, Who, OfBatch, OfAct, Machine}
use Rattle.protocol.specs.Events.{Event, Form, End, Commit, Settle, Decide, Seal}
use Rattle.protocol.specs.Words.{holds, is_value, is_decided, is_formed, is_committing, is_settled, is_aborted, is_durable, is_ended, covers, act_of, batch_of, outcome_of}
use Rattle.protocol.specs.Verdicts.{verdict, verdict_of_pact, verdict_of_act, verdict_in_batch, pact_verdict, settled_verdict, act_verdict, ended_at, or_else, pact_place, act_place}
use Rattle.protocol.specs.Conditions.{IsAllowed, conditions}
use Rattle.protocol.specs.Numbers.{flat, times, one_if, once_in, TransactionsInOnePlace}
use Rattle.protocol.specs.Effects.{after, cell_at, no_cell}
use Rattle.protocol.specs.OnDesk as desk
use Rattle.protocol.specs.Runs.{IsQuiet}
use Rattle.protocol.specs.History.{History, Done, grown, done_pact, done_batch, done_act}
use Rattle.protocol_laws.specs.Told.{EachBatch, has_number, IsDonePact, AnyPact, PactFrom, FromBatches}
use Rattle.protocol_laws.specs.Commits.{is_kept}
use Rattle.protocol_laws.specs.Marks.{Marked, Known}
use Rattle.protocol_laws.proofs.first.Times
use Rattle.protocol_laws.proofs.first.SettlingKept as settling
use Rattle.protocol_laws.proofs.machine.MarksKept as marks
use Rattle.protocol_laws.proofs.machine.ControlWalk.{AllControls}
use Rattle.protocol_laws.proofs.machine.TracksKept.{held}
use Rattle.protocol_laws.proofs.machine.TurnsKept.{one_is}
use Rattle.protocol_laws.proofs.machine.Resting.{NoResult, NoneNoted}
use Rattle.protocol_laws.proofs.machine.ActsTold.{AllFrom, at_placed}
use Rattle.protocol_laws.proofs.machine.CommitRecords as records
use Rattle.protocol_laws.proofs.machine.CommitRecords.{BatchHolds, ActsRecorded, BatchesRecorded, batches_keep}
use Rattle.protocol_laws.proofs.first.Lists.{all_found, all_join}
use Rattle.protocol_laws.proofs.first.Statuses.{value_some}
use Rattle.protocol_laws.proofs.machine.ShowsKept.{kept_join, kept_last}

-- ---- what committed of a batch is among its PACTs

unfoldable pub PactsFrom : {C : Type 0} → Machine C → History → Type 0
PactsFrom s h = FromBatches s.desk.batches h.kept h.committed

any_holds : (k : ℕ) (d : Done) → BatchHolds (λ j b. j ≡ k → AnyPact (IsDonePact k d) b.pacts)
any_holds k d = record { placed = λ j b ps p. p; taken = λ j b v p. p }

-- a result is noted of one that had none
any_noted : (t k : ℕ) (r : TxResult) (d : Done) (ps : List Pact) → AllByRecursion (λ p. p.tid ≡ t → p.result ≡ None) ps → AnyPact (IsDonePact k d) ps → AnyPact (IsDonePact k d) (map (desk.with_result t r) ps)
any_noted t k r d [] n h = h
any_noted t k r d (p ∷ ps) n (inl h) = inl (by (p.tid == t) refl)
  where
    by : (v : Bool) → (p.tid == t) ≡ v → IsDonePact k d (record p { result = if v then Some r else p.result })
    by true e = absurd (true≢false (sym h.ended ∙ ap is_some (n.0 (eqb-true p.tid t e))))
    by false e = record { tid = h.tid; tx = h.tx; place = h.place; result = h.result; ended = h.ended }
any_noted t k r d (p ∷ ps) n (inr h) = inr (any_noted t k r d ps n.1 h)

stays_ready : {C : Type 0} (w : Fixed C) (e : Event) (s : Machine C) (h : History) (k : ℕ) (d : Done) → IsAllowed w e s → AllControls (NoneNoted s) s → is_some (batch_of k s.desk.batches) ≡ true → records.BatchReady w e s (λ j b. j ≡ k → AnyPact (IsDonePact k d) b.pacts)
unfolding records.BatchReady conditions
stays_ready w (Form i) s h k d ok n e = λ j f q. absurd (true≢false (sym e ∙ ap is_some (ap (λ z. batch_of z s.desk.batches) (sym q) ∙ f)))
stays_ready w (End t a) s h k d ok n e = λ j b r f p q.
    let o = one_is (λ x. is_ended x.next) (outcome_of t (cell_at s a).outbox) (held (λ c. holds (λ x. is_ended x.next) (outcome_of t c.outbox)) s.cells a no_cell ok.0) in
    let g = all_found (λ x. NoneNoted s x.tid x.next) (λ x. x.tid == t) (cell_at s a).outbox o.0 (n.outboxes a) o.1 in
    let none : NoResult t s.desk.batches = subst (λ z. NoResult z s.desk.batches) (eqb-true o.0.tid t g.1) g.0 in
    by t k r d b (all_found (λ b. AllByRecursion (λ p. p.tid ≡ t → p.result ≡ None) b.pacts) (λ b. b.bid == j) s.desk.batches b none f).0 (p q) b.aborted
  where
    by : (t k : ℕ) (r : TxResult) (d : Done) (b : Batch) → AllByRecursion (λ p. p.tid ≡ t → p.result ≡ None) b.pacts → AnyPact (IsDonePact k d) b.pacts → (v : Bool) → AnyPact (IsDonePact k d) (if v then b.pacts else map (desk.with_result t r) b.pacts)
    by t k r d b n p true = p
    by t k r d b n p false = any_noted t k r d b.pacts n p
stays_ready w (Commit i) s h k d ok n e = λ b f p. p
stays_ready w (Settle i) s h k d ok n e = λ b f p. p
stays_ready w e s h k d ok n q = tt

kept_grows : {C : Type 0} (w : Fixed C) (e : Event) (s : Machine C) (h : History) (y : Who) → is_kept y h.kept ≡ true → is_kept y (grown w e s h).kept ≡ true
unfolding grown
kept_grows w (Commit k) s h y g = kept_join y h.kept _ g
kept_grows w (Decide t) s h y g = kept_join y h.kept _ g
kept_grows w e s h y g = g

stays_from : {C : Type 0} (w : Fixed C) (e : Event) (s : Machine C) (h : History) (ds : List Done) → IsAllowed w e s → AllControls (NoneNoted s) s → Known s h → FromBatches s.desk.batches h.kept ds → FromBatches (after w e s).desk.batches (grown w e s h).kept ds
unfolding Known
stays_from w e s h [] ok n kn g = tt
stays_from w e s h (d ∷ ds) ok n kn g = ((λ k q. let f = g.0 k q in record { kept = kept_grows w e s h (OfBatch k) f.kept; is_it = batches_keep w e s (λ j b. j ≡ k → AnyPact (IsDonePact k d) b.pacts) (any_holds k d) (stays_ready w e s h k d ok n (kn k f.kept)) f.is_it }), stays_from w e s h ds ok n kn g.1)

bid_of : (j k : ℕ) → OfBatch j ≡ OfBatch k → j ≡ k
bid_of j k e = cc e

-- the PACTs of the batch that commits
committed_now : (k : ℕ) (h : History) (bs : List Batch) (kept : List Who) (all ps : List Pact) → is_kept (OfBatch k) kept ≡ true → EachBatch (λ j b. j ≡ k → b.pacts ≡ all) bs → ((P : Pact → Type 0) → AnyPact P ps → AnyPact P all) → list_all (λ p. is_value p.result) ps ≡ true → FromBatches bs kept (map (done_pact k h) ps)
committed_now k h bs kept all [] m e i v = tt
committed_now k h bs kept all (p ∷ ps) m e i v =
    let q = and_parts (is_value p.result) (list_all (λ p. is_value p.result) ps) v in (
      (λ j f. let u : k ≡ j = bid_of k j f in record {
        kept = subst (λ z. is_kept (OfBatch z) kept ≡ true) u m;
        is_it = λ l b g o. subst (λ z. AnyPact (IsDonePact j (done_pact k h p)) z) (sym (e l b g (o ∙ sym u))) (i (IsDonePact j (done_pact k h p)) (inl (record { tid = refl; tx = refl; place = ap (λ z. pact_place z p.tid) u; result = refl; ended = value_some p.result q.0 })));
      }),
      committed_now k h bs kept all ps m e (λ P a. i P (inr a)) q.1,
    )

no_pact_acts : (c : ℕ) (h : History) (bs : List Batch) (kept : List Who) (o : Option Act) → FromBatches bs kept (done_act c h o)
no_pact_acts c h bs kept None = tt
no_pact_acts c h bs kept (Some x) = ((λ k e. absurd (cc e)), tt)

pub from_kept : {C : Type 0} (w : Fixed C) (e : Event) (s : Machine C) (h : History) → IsAllowed w e s → AllControls (NoneNoted s) s → Known s h → PactsFrom s h → PactsFrom (after w e s) (grown w e s h)
unfolding PactsFrom conditions after grown
from_kept {C} w (Commit k) s h ok n kn g = all_join _ h.committed _ (stays_from w (Commit k) s h h.committed ok n kn g) (by (batch_of k s.desk.batches) refl ok.1.0)
  where
    by : (o : Option Batch) → batch_of k s.desk.batches ≡ o → holds (λ b. list_all (λ p. is_value p.result) b.pacts) o ≡ true → FromBatches (after w (Commit k) s).desk.batches (h.kept ++ OfBatch k ∷ []) (done_batch k h o)
    by None e v = tt
    by (Some b) e v = committed_now k h (after w (Commit k) s).desk.batches (h.kept ++ OfBatch k ∷ []) b.pacts b.pacts (kept_last k h.kept)
        (records.batch_map (λ j c. j ≡ k → c.pacts ≡ b.pacts) (λ j c. j ≡ k → c.pacts ≡ b.pacts) (λ c. desk.change_if (c.bid == k) (desk.with_stage Committing) c) s.desk.batches (λ c. same_bid (c.bid == k) c) (λ j c f p q. same_pacts (c.bid == k) c ∙ p q) (λ j c f q. ap (λ z. z.pacts) (the_one c (ap (λ z. batch_of z s.desk.batches) (sym q) ∙ f))))
        (λ P a. a) v
      where
        same_bid : (v : Bool) (c : Batch) → (desk.change_if v (desk.with_stage Committing) c).bid ≡ c.bid
        same_bid true c = refl
        same_bid false c = refl

        same_pacts : (v : Bool) (c : Batch) → (desk.change_if v (desk.with_stage Committing) c).pacts ≡ c.pacts
        same_pacts true c = refl
        same_pacts false c = refl

        the_one : (c : Batch) → batch_of k s.desk.batches ≡ Some c → c ≡ b
        the_one c f = cc (sym f ∙ e)
from_kept w (Decide t) s h ok n kn g = all_join _ h.committed _ (stays_from w (Decide t) s h h.committed ok n kn g) (no_pact_acts s.book.next_c h _ _ (act_of t s.book.acts))
from_kept w e s h ok n kn g = stays_from w e s h h.committed ok n kn g

-- ---- a transaction in one place is told of there

one_more : (n m : ℕ) (ns : List ℕ) → (m == n) ≡ true → times n (m ∷ ns) ≡ 1 + times n ns
one_more n m ns e = omega (arith, Times.times_cons n m ns, ap one_if e)

other_more : (n m : ℕ) (ns : List ℕ) → (m == n) ≡ false → times n (m ∷ ns) ≡ times n ns
other_more n m ns e = omega (arith, Times.times_cons n m ns, ap one_if e)

at_least_one : (t : ℕ) (x : Act) (xs : List Act) → act_of t xs ≡ Some x → 1 ≤ times x.tx (map (λ y. y.tx) xs)
at_least_one t x [] e = absurd (cc e)
at_least_one t x (y ∷ ys) e = by (y.tid == t) e (at_least_one t x ys)
  where
    by : (v : Bool) → (if v then Some y else act_of t ys) ≡ Some x → (act_of t ys ≡ Some x → 1 ≤ times x.tx (map (λ y. y.tx) ys)) → 1 ≤ times x.tx (y.tx ∷ map (λ y. y.tx) ys)
    by true e k = let q : y ≡ x = cc e in omega (arith, one_more x.tx y.tx (map (λ y. y.tx) ys) (eq-eqb y.tx x.tx (ap (λ z. z.tx) q)))
    by false e k = omega (arith, k e, Times.times_cons x.tx y.tx (map (λ y. y.tx) ys))

act_is_told : (t : ℕ) (x : Act) (xs : List Act) → act_of t xs ≡ Some x → times x.tx (map (λ y. y.tx) xs) ≤ 1 → verdict_of_act x.tx xs ≡ act_verdict x.status x.m x.result
act_is_told t x [] e l = absurd (cc e)
act_is_told t x (y ∷ ys) e l = by (y.tid == t) e (act_is_told t x ys)
  where
    by : (v : Bool) → (if v then Some y else act_of t ys) ≡ Some x → (act_of t ys ≡ Some x → times x.tx (map (λ y. y.tx) ys) ≤ 1 → verdict_of_act x.tx ys ≡ act_verdict x.status x.m x.result) → (if y.tx == x.tx then act_verdict y.status y.m y.result else verdict_of_act x.tx ys) ≡ act_verdict x.status x.m x.result
    by true e k = let q : y ≡ x = cc e in rw (eq-eqb y.tx x.tx (ap (λ z. z.tx) q)) (ap (λ z. act_verdict z.status z.m z.result) q)
    by false e k = at (y.tx == x.tx) refl
      where
        at : (u : Bool) → (y.tx == x.tx) ≡ u → (if u then act_verdict y.status y.m y.result else verdict_of_act x.tx ys) ≡ act_verdict x.status x.m x.result
        at true f = absurd (omega (arith, l, one_more x.tx y.tx (map (λ y. y.tx) ys) f, at_least_one t x ys e))
        at false f = k e (omega (arith, l, other_more x.tx y.tx (map (λ y. y.tx) ys) f))

abbrev pub txs_of : List Batch → List (List ℕ)
txs_of bs = map (λ b. map (λ p. p.tx) b.pacts) bs

none_in_batch : (cs : List Cascade) (n : ℕ) (b : Batch) (ps : List Pact) → times n (map (λ p. p.tx) ps) ≡ 0 → verdict_in_batch cs n b ps ≡ None
none_in_batch cs n b [] l = refl
none_in_batch cs n b (p ∷ ps) l = by (p.tx == n) refl (none_in_batch cs n b ps)
  where
    by : (v : Bool) → (p.tx == n) ≡ v → (times n (map (λ p. p.tx) ps) ≡ 0 → verdict_in_batch cs n b ps ≡ None) → (if v then pact_verdict (find (covers b.bid) cs) b p else verdict_in_batch cs n b ps) ≡ None
    by true e r = absurd (omega (arith, l, one_more n p.tx (map (λ p. p.tx) ps) e))
    by false e r = r (omega (arith, l, other_more n p.tx (map (λ p. p.tx) ps) e))

none_of_pacts : (cs : List Cascade) (n : ℕ) (bs : List Batch) → times n (flat (txs_of bs)) ≡ 0 → verdict_of_pact cs n bs ≡ None
none_of_pacts cs n [] l = refl
none_of_pacts cs n (b ∷ bs) l =
    let t = Times.times_append n (map (λ p. p.tx) b.pacts) (flat (txs_of bs)) in
    rw (none_in_batch cs n b b.pacts (omega (arith, l, t))) (none_of_pacts cs n bs (omega (arith, l, t)))

-- the PACT among a batch's
record Among (n : ℕ) (P : Pact → Type 0) (cs : List Cascade) (b : Batch) (ps : List Pact) : Type 0 where
  pact : Pact
  is_it : P pact
  told : verdict_in_batch cs n b ps ≡ pact_verdict (find (covers b.bid) cs) b pact
  once : 1 ≤ times n (map (λ p. p.tx) ps)

told_past : (cs : List Cascade) (n : ℕ) (b : Batch) (p : Pact) (ps : List Pact) (z : Option Verdict) → (p.tx == n) ≡ false → verdict_in_batch cs n b ps ≡ z → verdict_in_batch cs n b (p ∷ ps) ≡ z
told_past cs n b p ps z e h = rw e h

in_batch : (n : ℕ) (P : Pact → Type 0) (cs : List Cascade) (b : Batch) (ps : List Pact) → ((p : Pact) → P p → p.tx ≡ n) → AnyPact P ps → times n (map (λ p. p.tx) ps) ≤ 1 → Among n P cs b ps
in_batch n P cs b [] k h l = absurd h
in_batch n P cs b (p ∷ ps) k (inl h) l = let e = eq-eqb p.tx n (k p h) in record { pact = p; is_it = h; told = rw e refl; once = omega (arith, one_more n p.tx (map (λ p. p.tx) ps) e) }
in_batch n P cs b (p ∷ ps) k (inr h) l = by (p.tx == n) refl (λ m. in_batch n P cs b ps k h m)
  where
    some_in : (qs : List Pact) → AnyPact P qs → 1 ≤ times n (map (λ p. p.tx) qs)
    some_in [] g = absurd g
    some_in (q ∷ qs) (inl g) = omega (arith, one_more n q.tx (map (λ p. p.tx) qs) (eq-eqb q.tx n (k q g)))
    some_in (q ∷ qs) (inr g) = omega (arith, some_in qs g, Times.times_cons n q.tx (map (λ p. p.tx) qs))

    by : (v : Bool) → (p.tx == n) ≡ v → (times n (map (λ p. p.tx) ps) ≤ 1 → Among n P cs b ps) → Among n P cs b (p ∷ ps)
    by true e r = absurd (omega (arith, l, one_more n p.tx (map (λ p. p.tx) ps) e, some_in ps h))
    by false e r = let g = r (omega (arith, l, other_more n p.tx (map (λ p. p.tx) ps) e)) in record { pact = g.pact; is_it = g.is_it; told = told_past cs n b p ps (pact_verdict (find (covers b.bid) cs) b g.pact) e g.told; once = omega (arith, g.once, other_more n p.tx (map (λ p. p.tx) ps) e) }

or_none : {X : Type 0} (x y : Option X) → x ≡ None → or_else x y ≡ y
or_none x y e = rw e refl

or_some : {X : Type 0} (x y : Option X) (v : X) → x ≡ Some v → or_else x y ≡ Some v
or_some x y v e = rw e refl

pact_is_told : (n k : ℕ) (v : Verdict) (P : Pact → Type 0) (cs : List Cascade) (b : Batch) (bs : List Batch) → ((p : Pact) → P p → p.tx ≡ n) → ((p : Pact) → P p → pact_verdict (find (covers b.bid) cs) b p ≡ Some v) → batch_of k bs ≡ Some b → AnyPact P b.pacts → times n (flat (txs_of bs)) ≤ 1
    → verdict_of_pact cs n bs ≡ Some v
pact_is_told n k v P cs b [] t u e a l = absurd (cc e)
pact_is_told n k v P cs b (c ∷ bs) t u e a l = by (c.bid == k) e (pact_is_told n k v P cs b bs t u)
  where
    parts : times n (flat (txs_of (c ∷ bs))) ≡ times n (map (λ p. p.tx) c.pacts) + times n (flat (txs_of bs))
    parts = Times.times_append n (map (λ p. p.tx) c.pacts) (flat (txs_of bs))

    here : AnyPact P c.pacts → 1 ≤ times n (map (λ p. p.tx) c.pacts)
    here g = some_in c.pacts g
      where
        some_in : (qs : List Pact) → AnyPact P qs → 1 ≤ times n (map (λ p. p.tx) qs)
        some_in [] g = absurd g
        some_in (q ∷ qs) (inl g) = omega (arith, one_more n q.tx (map (λ p. p.tx) qs) (eq-eqb q.tx n (t q g)))
        some_in (q ∷ qs) (inr g) = omega (arith, some_in qs g, Times.times_cons n q.tx (map (λ p. p.tx) qs))

    later : (ds : List Batch) → batch_of k ds ≡ Some b → 1 ≤ times n (flat (txs_of ds))
    later [] f = absurd (cc f)
    later (d ∷ ds) f = at (d.bid == k) f (later ds)
      where
        some_in : (qs : List Pact) → AnyPact P qs → 1 ≤ times n (map (λ p. p.tx) qs)
        some_in [] g = absurd g
        some_in (q ∷ qs) (inl g) = omega (arith, one_more n q.tx (map (λ p. p.tx) qs) (eq-eqb q.tx n (t q g)))
        some_in (q ∷ qs) (inr g) = omega (arith, some_in qs g, Times.times_cons n q.tx (map (λ p. p.tx) qs))

        at : (q : Bool) → (if q then Some d else batch_of k ds) ≡ Some b → (batch_of k ds ≡ Some b → 1 ≤ times n (flat (txs_of ds))) → 1 ≤ times n (flat (txs_of (d ∷ ds)))
        at true f g = let i : d ≡ b = cc f in omega (arith, some_in d.pacts (subst (λ z. AnyPact P z.pacts) (sym i) a), Times.times_append n (map (λ p. p.tx) d.pacts) (flat (txs_of ds)))
        at false f g = omega (arith, g f, Times.times_append n (map (λ p. p.tx) d.pacts) (flat (txs_of ds)))

    by : (q : Bool) → (if q then Some c else batch_of k bs) ≡ Some b → (batch_of k bs ≡ Some b → AnyPact P b.pacts → times n (flat (txs_of bs)) ≤ 1 → verdict_of_pact cs n bs ≡ Some v) → or_else (verdict_in_batch cs n c c.pacts) (verdict_of_pact cs n bs) ≡ Some v
    by true f r = let i : c ≡ b = cc f in let g = in_batch n P cs c c.pacts t (subst (λ z. AnyPact P z.pacts) (sym i) a) (omega (arith, l, parts)) in or_some _ _ v (g.told ∙ (ap (λ z. pact_verdict (find (covers z.bid) cs) z g.pact) i ∙ u g.pact g.is_it))
    by false f r = or_none _ _ (none_in_batch cs n c c.pacts (omega (arith, l, parts, later bs f))) ∙ r f a (omega (arith, l, parts))

-- ---- the quiet state

-- no cascade covers it
pub no_cascade : (k : ℕ) (cs : List Cascade) → is_aborted k cs ≡ false → find (covers k) cs ≡ None
no_cascade k [] e = refl
no_cascade k (c ∷ cs) e = let p = or_parts (covers k c) (is_aborted k cs) e in rw p.0 (no_cascade k cs p.1)

not_formed : (st : Stage) → is_formed st ≡ false → (is_committing st ≡ true → ⊥) → is_settled st ≡ true
not_formed Formed e n = absurd (true≢false e)
not_formed Committing e n = absurd (n refl)
not_formed Settled e n = refl

told_settled : (st : Stage) (k t : ℕ) (r : Option TxResult) → is_settled st ≡ true → settled_verdict st (pact_place k t) r ≡ ended_at (pact_place k t) r
told_settled Formed k t r e = absurd (true≢false (sym e))
told_settled Committing k t r e = absurd (true≢false (sym e))
told_settled Settled k t r e = refl

told_sealed : (c m : ℕ) (st : Status) (r : Option TxResult) → has_number c st ≡ true → is_decided st ≡ false → act_verdict st m r ≡ ended_at (act_place m c) r
told_sealed c m Live r a n = absurd (true≢false (sym a))
told_sealed c m (Doomed v) r a n = absurd (true≢false (sym a))
told_sealed c m (Decided d) r a n = absurd (true≢false n)
told_sealed c m (Sealed d) r a n = ap (λ z. ended_at (act_place m z) r) (eqb-true d c a)

seal_allowed : {C : Type 0} (w : Fixed C) (t : ℕ) (s : Machine C) (x : Act) → act_of t s.book.acts ≡ Some x → is_decided x.status ≡ true → holds (is_durable (is_act_commit t)) (Rattle.std.specs.Prelude.slice_get s.logs (t % w.text.logs)) ≡ true → IsAllowed w (Seal t) s
unfolding conditions
seal_allowed w t s x e d r = (ap (holds (λ x. is_decided x.status)) e ∙ d, (r, tt))

settle_allowed : {C : Type 0} (w : Fixed C) (k : ℕ) (s : Machine C) (b : Batch) → batch_of k s.desk.batches ≡ Some b → is_committing b.stage ≡ true → b.aborted ≡ false → holds (is_durable (is_commit k)) (Rattle.std.specs.Prelude.slice_get s.logs (k % w.text.logs)) ≡ true → IsAllowed w (Settle k) s
unfolding conditions
settle_allowed w k s b e c n r = (ap (holds (λ b. is_committing b.stage && not b.aborted)) e ∙ and_from (is_committing b.stage) (not b.aborted) c (ap not n), (r, tt))

sum_of : {C : Type 0} (w : Fixed C) (n : ℕ) (s : Machine C) → TransactionsInOnePlace w s → times n (flat (txs_of s.desk.batches)) + times n (map (λ x. x.tx) s.book.acts) ≤ 1
sum_of w n s t = omega (arith, t n, bound (once_in 0 s.ring.next_tx n) (one _), Times.times_append n (flat s.ring.pacts ++ flat s.ring.acts) (flat (txs_of s.desk.batches) ++ map (λ x. x.tx) s.book.acts), Times.times_append n (flat (txs_of s.desk.batches)) (map (λ x. x.tx) s.book.acts))
  where
    bound : (n : ℕ) → n ≤ 1 → n ≤ 1
    bound n l = l

    one : (b : Bool) → one_if b ≤ 1
    one true = omega arith
    one false = omega arith

abbrev pub IsTold : {C : Type 0} → Machine C → Done → Type 0
IsTold s d = verdict d.tx s.book s.desk ≡ ended_at d.place d.result

-- an ACT that is not only decided
pub act_told : {C : Type 0} (w : Fixed C) (s : Machine C) (t : ℕ) (d : Done) (x : Act) → TransactionsInOnePlace w s → is_decided x.status ≡ false → act_of t s.book.acts ≡ Some x → Rattle.protocol_laws.specs.Told.IsDoneOfAct d x → IsTold s d
act_told w s t d x o sealed e i =
    let l = sum_of w x.tx s o in
    let m = at_least_one t x s.book.acts e in
    ap (λ z. verdict z s.book s.desk) i.tx ∙ (or_none (verdict_of_pact s.book.cascades x.tx s.desk.batches) (verdict_of_act x.tx s.book.acts) (none_of_pacts s.book.cascades x.tx s.desk.batches (omega (arith, l, m)))
    ∙ (act_is_told t x s.book.acts e (omega (arith, l)) ∙ (told_sealed i.c x.m x.status x.result i.at sealed ∙ (ap (λ z. ended_at z x.result) (sym i.place) ∙ ap (ended_at d.place) (sym i.result)))))

quiet_sealed : {C : Type 0} (w : Fixed C) (s : Machine C) (t : ℕ) (d : Done) (x : Act) → IsQuiet w s → ActsRecorded w s → act_of t s.book.acts ≡ Some x → Rattle.protocol_laws.specs.Told.IsDoneOfAct d x → is_decided x.status ≡ false
unfolding ActsRecorded
quiet_sealed w s t d x q r e i = false_from_ne_true (is_decided x.status) (λ f. q (Seal t) (seal_allowed w t s x e f (records.quiet_durable w s (is_act_commit t) (t % w.text.logs) q ((r t x e).0 (at_placed i.c x.status i.at) ((r t x e).1 f)))))

ended_some : (p : Rattle.snap_base.specs.declared.verdicts.Place.Place) (r : Option TxResult) → is_some r ≡ true → (v : Verdict) × (ended_at p r ≡ Some v)
ended_some p None e = absurd (true≢false (sym e))
ended_some p (Some (Value x)) e = (Rattle.snap_base.specs.declared.verdicts.Verdict.TheVariants.Committed p x, refl)
ended_some p (Some (Fail c)) e = (Rattle.snap_base.specs.declared.verdicts.Verdict.TheVariants.Code p c, refl)

any_some : (k : ℕ) (d : Done) (ps : List Pact) → AnyPact (IsDonePact k d) ps → is_some d.result ≡ true
any_some k d [] a = absurd a
any_some k d (p ∷ ps) (inl a) = ap is_some a.result ∙ a.ended
any_some k d (p ∷ ps) (inr a) = any_some k d ps a

-- a PACT of a batch that settled
pub pact_told : {C : Type 0} (w : Fixed C) (s : Machine C) (h : History) (k : ℕ) (d : Done) (b : Batch) → TransactionsInOnePlace w s → settling.Settling w s → is_settled b.stage ≡ true → batch_of k s.desk.batches ≡ Some b → PactFrom s.desk.batches h.kept k d → IsTold s d
pact_told w s h k d b o g settled e f =
    let fine : is_aborted k s.book.cascades ≡ false = false_from_ne_true (is_aborted k s.book.cascades) (λ v. settled_past b.stage settled (settling.aborted_formed w s k b e g v)) in
    let bid : b.bid ≡ k = eqb-true b.bid k (marks.found_bid k b s.desk.batches e) in
    let v = ended_some d.place d.result (any_some k d b.pacts (f.is_it k b e refl)) in
    let none : find (covers b.bid) s.book.cascades ≡ None = no_cascade b.bid s.book.cascades (ap (λ z. is_aborted z s.book.cascades) bid ∙ fine) in
    or_some (verdict_of_pact s.book.cascades d.tx s.desk.batches) (verdict_of_act d.tx s.book.acts) v.0
    (pact_is_told d.tx k v.0 (IsDonePact k d) s.book.cascades b s.desk.batches (λ p i. sym i.tx)
    (λ p i. ap (λ z. pact_verdict z b p) none ∙ (told_settled b.stage b.bid p.tid p.result settled ∙ (ap (λ z. ended_at (pact_place z p.tid) p.result) bid ∙ (ap (λ z. ended_at z p.result) (sym i.place) ∙ (ap (ended_at d.place) (sym i.result) ∙ v.1)))))
    e (f.is_it k b e refl) (omega (arith, sum_of w d.tx s o)))
    ∙ sym v.1
  where
    settled_past : (st : Stage) → is_settled st ≡ true → is_formed st ≡ true → ⊥
    settled_past Formed e f = true≢false (sym e)
    settled_past Committing e f = true≢false (sym e)
    settled_past Settled e f = true≢false (sym f)

quiet_settled : {C : Type 0} (w : Fixed C) (s : Machine C) (h : History) (k : ℕ) (d : Done) (b : Batch) → IsQuiet w s → settling.Settling w s → Marked s h → BatchesRecorded w s → batch_of k s.desk.batches ≡ Some b → PactFrom s.desk.batches h.kept k d → is_settled b.stage ≡ true
unfolding Marked BatchesRecorded
quiet_settled w s h k d b q g m r e f =
    let formed : is_formed b.stage ≡ false = not-true (is_formed b.stage) (sym (m k b e).known ∙ f.kept) in
    let fine : is_aborted k s.book.cascades ≡ false = false_from_ne_true (is_aborted k s.book.cascades) (λ v. true≢false (sym (settling.aborted_formed w s k b e g v) ∙ formed)) in
    not_formed b.stage formed (λ c. q (Settle k) (settle_allowed w k s b e c (settling.mark_is w s k b e g ∙ fine) (records.quiet_durable w s (is_commit k) (k % w.text.logs) q (r k b e formed))))

-- In a quiet state all that committed is told.
pub all_told : {C : Type 0} (w : Fixed C) (s : Machine C) (h : History) → IsQuiet w s → TransactionsInOnePlace w s → settling.Settling w s → Marked s h → Known s h → ActsRecorded w s → BatchesRecorded w s → AllFrom s h → PactsFrom s h → AllByRecursion (λ d. IsTold s d) h.committed
unfolding AllFrom PactsFrom Known
all_told w s h q o g m kn ra rb fa fp = each h.committed fa fp
  where
    one : (d : Done) → ((t : ℕ) → d.who ≡ OfAct t → Rattle.protocol_laws.specs.Told.DoneFrom s.book.acts t d) → ((k : ℕ) → d.who ≡ OfBatch k → PactFrom s.desk.batches h.kept k d) → (y : Who) → d.who ≡ y → IsTold s d
    one d a b (OfBatch k) e = let f = b k e in let c = somebody (batch_of k s.desk.batches) (kn k f.kept) in pact_told w s h k d c.0 o g (quiet_settled w s h k d c.0 q g m rb c.1 f) c.1 f
    one d a b (OfAct t) e = let f = a t e in let x = somebody (act_of t s.book.acts) f.there in act_told w s t d x.0 o (quiet_sealed w s t d x.0 q ra x.1 (f.is_it t x.0 x.1 refl)) x.1 (f.is_it t x.0 x.1 refl)

    each : (ds : List Done) → AllByRecursion (λ d. (t : ℕ) → d.who ≡ OfAct t → Rattle.protocol_laws.specs.Told.DoneFrom s.book.acts t d) ds → FromBatches s.desk.batches h.kept ds → AllByRecursion (λ d. IsTold s d) ds
    each [] a b = tt
    each (d ∷ ds) a b = (one d a.0 b.0 d.who refl, each ds a.1 b.1)
