-- The numbers of what committed were drawn in this run.
use Rattle.std.specs.Prelude.{◌≡◌, refl, ℕ, ◌+◌, ◌<◌, ◌≤◌, ◌==◌, true, ◌&&◌, is_some, List, [], ◌∷◌, map, filter}
use Rattle.std.specs.List.{AllByRecursion}
use Rattle.std.proofs.Common.{arith, sym, ap, subst, inl, inr, ◌∙◌}
use Rattle.std.proofs.lemmas.Bool.{true≢false, and_parts, eqb-true}
use Rattle.snap_base.specs.declared.transactions.Tx.{Tx}
use Rattle.snap_base.specs.declared.transactions.State.{State}
use Rattle.protocol.specs.Facts.{Alone}
use Rattle.protocol.specs.Fixed.{Fixed, base}
use Rattle.protocol.specs.Parts.{Act, Batch, Pact, OfBatch, OfAct, Machine}
use Rattle.protocol.specs.Events.{Event, Admit, Ask, End, Decide}
use Rattle.protocol.specs.Words.{is_settled, is_live_status, is_ended, act_of, batch_of, outcome_of}
use Rattle.protocol.specs.Conditions.{IsAllowed, conditions}
use Rattle.protocol.specs.Effects.{after, no_cell}
use Rattle.protocol.specs.OnBook as book
use Rattle.protocol.specs.Runs.{IsRun, reached}
use Rattle.protocol.specs.Settling.{BatchesSettleInOrder}
use Rattle.protocol.specs.Standing.{PairsStand}
use Rattle.protocol.specs.History.{Done, History}
use Rattle.protocol_laws.specs.Told.{EachAct, has_number, DoneFrom, IsDonePact, AnyPact, PactFrom}
use Rattle.protocol_laws.specs.Ranges.{IsWithin, BatchInRange, ActInRange, NumbersInRange}
use Rattle.protocol_records.specs.NextNumbers.{IsPlaceWithin, IsNumberedWithin}
use Rattle.protocol_laws.proofs.first.Lists.{all_found, all_filter, weaker, some_of}
use Rattle.protocol_laws.proofs.first.OneWay.{c_went}
use Rattle.protocol_laws.proofs.machine.ActsFound as acts
use Rattle.protocol_laws.proofs.machine.ActsFound.{Holds}
use Rattle.protocol_laws.proofs.machine.ActsKept.{Acts}
use Rattle.protocol_laws.proofs.machine.ActsTold.{at_placed, at_sealed, at_now, unplaced}
use Rattle.protocol_laws.proofs.machine.ControlWalk.{AllControls}
use Rattle.protocol_laws.proofs.machine.ActResults as results
use Rattle.protocol_laws.proofs.machine.ActResults.{NoneActed}
use Rattle.protocol_laws.proofs.machine.TracksKept.{held}
use Rattle.protocol_laws.proofs.machine.TurnsKept.{one_is}
use Rattle.protocol_laws.proofs.machine.Good.{Given}
use Rattle.protocol_laws.proofs.machine.AllGood.{along_good}
use Rattle.protocol_laws.specs.Marks.{Known}
use Rattle.protocol_records.proofs.crash.KeptSure.{there_is}
use Rattle.protocol_laws.proofs.first.EpochsKept.{greatest_less}

-- ---- commit numbers

abbrev pub NumberedC : ℕ → ℕ → ℕ → Act → Type 0
NumberedC low high t x = (c : ℕ) → has_number c x.status ≡ true → IsWithin low high c

pub record CommitsDrawn {C : Type 0} (w : Fixed C) (s : Machine C) : Type 0 where
  pub low : w.text.opening.next_c ≤ s.book.next_c
  pub each : EachAct (NumberedC w.text.opening.next_c s.book.next_c) s.book.acts

c_holds : (low high : ℕ) → Holds (NumberedC low high)
c_holds low high = record {
  numbered = λ t x n p. p;
  marked = λ t a x f i p. p;
  sealed = λ t x p c e. p c (sym (at_sealed c x.status) ∙ e);
  doomed = λ t x v l p c e. absurd (true≢false (sym e));
  rises = λ t k x l p. p;
}

each_kept : {C : Type 0} (w : Fixed C) (e : Event) (s : Machine C) (h : History) (low : ℕ) → IsAllowed w e s → AllControls (NoneActed s) s → Acts s h → low ≤ s.book.next_c → EachAct (NumberedC low s.book.next_c) s.book.acts → EachAct (NumberedC low (after w e s).book.next_c) (after w e s).book.acts
unfolding acts.Ready conditions after
each_kept w (Admit t) s h low ok n i l g = acts.acts_keep w (Admit t) s (NumberedC low s.book.next_c) (c_holds low s.book.next_c) (λ e c a. absurd (true≢false (sym a))) g
each_kept w (Ask t a) s h low ok n i l g = acts.acts_keep w (Ask t a) s (NumberedC low s.book.next_c) (c_holds low s.book.next_c) (λ x e p c q. absurd (unplaced s h t c x i (results.posted_none t a s ok.0 n) e q)) g
each_kept w (End t a) s h low ok n i l g = acts.acts_keep w (End t a) s (NumberedC low s.book.next_c) (c_holds low s.book.next_c)
    (λ x r e p c q. absurd (unplaced s h t c x i (results.outcome_none (λ x. is_ended x.next) t a s (held (λ c. Rattle.protocol.specs.Words.holds (λ x. is_ended x.next) (outcome_of t c.outbox)) s.cells a no_cell ok.0) n) e q)) g
each_kept w (Decide t) s h low ok n i l g = acts.each_changed (NumberedC low s.book.next_c) (NumberedC low (s.book.next_c + 1)) t (book.decided_as s.book.next_c) s.book.acts (λ x. refl)
    (λ u x d e p c q. let k = p c q in record { reached = k.reached; below = omega (arith, k.below) })
    (λ x e p c q.
    let v = and_parts (is_some x.result) (is_live_status x.status) (some_of (λ x. is_some x.result && is_live_status x.status) (act_of t s.book.acts) x e ok.0) in
    let j : s.book.next_c ≡ c = at_now c s.book.next_c (Rattle.protocol.specs.Words.is_value x.result) x.status v.1 q in
    record { reached = omega (arith, l, j); below = omega (arith, j) }) g
each_kept w e s h low ok n i l g = acts.acts_keep w e s (NumberedC low s.book.next_c) (c_holds low s.book.next_c) tt g

pub commits_drawn : {C : Type 0} (w : Fixed C) (Of : Tx → C → Type 0) (finish : C → List State → Alone) (es : List Event) → Given w Of finish → IsRun w es → CommitsDrawn w (reached w es)
commits_drawn w Of finish es v run = along_good w Of finish (λ s h. CommitsDrawn w s) v
    (λ e s h ok g c. record { low = omega (arith, c.low, c_went w e s); each = each_kept w e s h w.text.opening.next_c ok g.none g.acts c.low c.each })
    (record { low = omega arith; each = λ t x e. absurd (cc e) }) es run

-- ---- the greatest settled number

bids_all : (low high : ℕ) (bs : List Batch) → AllByRecursion (λ b. IsWithin low high b.bid) bs → AllByRecursion (λ n. n < high) (map (λ b. b.bid) bs)
bids_all low high [] h = tt
bids_all low high (b ∷ bs) h = (h.0.below, bids_all low high bs h.1)

pub settled_below : {C : Type 0} (w : Fixed C) (s : Machine C) → 1 ≤ w.text.opening.next_bid → w.text.opening.next_bid ≤ s.ring.next_bid → BatchesSettleInOrder w s → NumbersInRange w s → s.desk.settled < s.ring.next_bid
settled_below w s one l b r =
    let g = greatest_less s.ring.next_bid (map (λ b. b.bid) (filter (λ b. is_settled b.stage) s.desk.batches)) (omega (arith, one, l))
    (bids_all w.text.opening.next_bid s.ring.next_bid (filter (λ b. is_settled b.stage) s.desk.batches) (all_filter (λ b. IsWithin w.text.opening.next_bid s.ring.next_bid b.bid) (λ b. is_settled b.stage) s.desk.batches (weaker (BatchInRange w s) (λ b. IsWithin w.text.opening.next_bid s.ring.next_bid b.bid) s.desk.batches (λ b p. p.bid) r.batches))) in
    omega (arith, b.settled_is, g, one, l)

-- ---- what committed

pub any_pact : (P : Pact → Type 0) (Q : Pact → Type 0) (R : Type 0) (ps : List Pact) → AllByRecursion P ps → AnyPact Q ps → ((p : Pact) → P p → Q p → R) → R
any_pact P Q R [] h a k = absurd a
any_pact P Q R (p ∷ ps) h (inl q) k = k p h.0 q
any_pact P Q R (p ∷ ps) h (inr q) k = any_pact P Q R ps h.1 q k

-- what is known of the numbers of a state
pub record Numbers {C : Type 0} (w : Fixed C) (s : Machine C) : Type 0 where
  pub range : NumbersInRange w s
  pub commits : CommitsDrawn w s
  pub pairs : PairsStand w s
  pub settled : s.desk.settled < s.ring.next_bid

pub of_pact : {C : Type 0} (w : Fixed C) (s : Machine C) (h : History) (k : ℕ) (d : Done) → Numbers w s → Known s h → PactFrom s.desk.batches h.kept k d → d.who ≡ OfBatch k → IsNumberedWithin w s.ring.next_tid s.ring.next_bid s.book.next_c d
unfolding Known
of_pact w s h k d n kn f i =
    let b = one_is (λ x. true) (batch_of k s.desk.batches) (there_is (batch_of k s.desk.batches) (kn k f.kept)) in
    let r = all_found (BatchInRange w s) (λ b. b.bid == k) s.desk.batches b.0 n.range.batches b.1 in
    any_pact (λ p. IsWithin w.text.opening.next_tid s.ring.next_tid p.tid) (IsDonePact k d) (IsNumberedWithin w s.ring.next_tid s.ring.next_bid s.book.next_c d) b.0.pacts r.0.tids (f.is_it k b.0 b.1 refl) (λ p t q. record {
      tid = subst (IsWithin w.text.opening.next_tid s.ring.next_tid) (sym q.tid) t;
      place = subst (λ z. IsPlaceWithin w s.ring.next_bid s.book.next_c z d.place) (sym i) (ap (λ z. z.side) q.place, ap (λ z. z.batch.0) q.place, subst (IsWithin w.text.opening.next_bid s.ring.next_bid) (eqb-true b.0.bid k r.1) r.0.bid);
    })

pub of_act : {C : Type 0} (w : Fixed C) (s : Machine C) (h : History) (t : ℕ) (d : Done) → Numbers w s → Acts s h → DoneFrom s.book.acts t d → d.who ≡ OfAct t → IsNumberedWithin w s.ring.next_tid s.ring.next_bid s.book.next_c d
unfolding Acts
of_act w s h t d n ac f i =
    let x = one_is (λ x. true) (act_of t s.book.acts) (there_is (act_of t s.book.acts) f.there) in
    let q = f.is_it t x.0 x.1 refl in
    let r = all_found (Rattle.protocol_laws.specs.Ranges.ActInRange w s) (λ x. x.tid == t) s.book.acts x.0 n.range.acts x.1 in
    let b = all_found (λ x. base w.text ≤ x.m) (λ x. x.tid == t) s.book.acts x.0 n.pairs.based x.1 in
    let m : d.place.batch.0 ≡ x.0.m = ap (λ z. z.batch.0) q.place in
    let l = (ac t x.0 x.1).settles (at_placed q.c x.0.status q.at) in
    record {
      tid = subst (IsWithin w.text.opening.next_tid s.ring.next_tid) (sym q.tid) r.0.tid;
      place = subst (λ z. IsPlaceWithin w s.ring.next_bid s.book.next_c z d.place) (sym i) (ap (λ z. z.side) q.place, record { reached = omega (arith, m, b.0); below = omega (arith, m, l, n.settled) }, subst (IsWithin w.text.opening.next_c s.book.next_c) (sym (ap (λ z. z.order) q.place)) (n.commits.each t x.0 x.1 q.c q.at));
    }
