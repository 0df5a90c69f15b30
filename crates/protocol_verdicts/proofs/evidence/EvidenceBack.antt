-- Each row gives its verdict.
use Rattle.std.specs.Prelude.{◌≡◌, ◌≢◌, refl, ℕ, ℤ, ◌-◌, ◌<◌, ◌≤◌, ◌==◌, nat_le, max, not, Bool, true, false, ◌&&◌, ◌⊎◌, if◌then◌else◌, unwrap_or, Option, Some, None, is_some, List, [], ◌∷◌, ◌++◌, map, find}
use Rattle.std.specs.List.{AllByRecursion}
use Rattle.std.proofs.Common.{arith, sym, ap, subst, inl, inr, ◌∙◌}
use Rattle.std.proofs.lemmas.Bool.{true≢false, eqb-true, leb-true, le-leb, eq-eqb, ne_eqb, and_parts, and_from, or_parts, or_from, not-true, false_from_ne_true, cases_lt}
use Rattle.snap_base.specs.declared.transactions.State.{State}
use Rattle.snap_base.specs.declared.transactions.Tx.{Tx}
use Rattle.snap_base.specs.declared.transactions.TxResult.{TxResult}
use Rattle.snap_base.specs.declared.transactions.TxResult.TheVariants.{Value, Fail}
use Rattle.snap_base.specs.declared.verdicts.Place.{Place}
use Rattle.snap_base.specs.declared.verdicts.Verdict.{Verdict}
use Rattle.snap_base.specs.declared.verdicts.Verdict.TheVariants as verdicts
use Rattle.snap_base.proofs.Options.{somebody}
use Rattle.protocol.specs.Fixed.{Fixed}
use Rattle.protocol.specs.Facts.{Alone}
use Rattle.protocol.specs.Parts.{Act, Pact, Batch, Cascade, Status, Live, Doomed, Decided, Sealed, Stage, Formed, Committing, Settled, Machine}
use Rattle.protocol.specs.Events.{Event, Arrive, Ask, Settle, Abort, Decide, Seal}
use Rattle.protocol.specs.Words.{holds, is_aborted, is_formed, is_committing, is_settled, is_live_status, act_of, batch_of, covers, is_open, is_next_to_commit, lock_of, floor_at}
use Rattle.protocol.specs.Verdicts.{verdict, pact_place, act_place, act_verdict, pact_verdict, out_of_order, taken_along, died, aborted_by, ended_at}
use Rattle.protocol.specs.Spread.{raised, crossed_out, is_crossed, reaches}
use Rattle.protocol.specs.Conditions.{IsAllowed, conditions}
use Rattle.protocol.specs.Effects.{after, cell_at}
use Rattle.protocol.specs.OnBook as book
use Rattle.protocol.specs.OnBook.{in_the_way, why, failed_tx, failed_code}
use Rattle.protocol.specs.OnDesk as desk
use Rattle.protocol.specs.History.{History}
use Rattle.protocol_verdicts.specs.Evidence.{PlacesOn, Crosses, Fails, Gives}
use Rattle.protocol_laws.proofs.first.SettlingKept as settling
use Rattle.protocol_laws.proofs.first.SettlingKeys as keys
use Rattle.protocol_laws.proofs.first.SettlingKeys.{OverBelow, IsIn}
use Rattle.protocol_laws.proofs.machine.ActsFound.{found_map, found_raised, found_tid}
use Rattle.protocol_laws.proofs.machine.Higher.{asks_live}
use Rattle.protocol_verdicts.proofs.evidence.EvidenceActs as acts
use Rattle.protocol_verdicts.proofs.evidence.EvidencePacts.{named, tells, find_more, found_bid}
use Rattle.protocol_verdicts.proofs.evidence.EvidenceSaid.{IsOnce, by_act, by_pact}
use Rattle.protocol_verdicts.proofs.evidence.EvidenceGiven.{Informed, in_way_back, why_is, same_some}
use Rattle.protocol_laws.proofs.first.Lists.{some_of}
use Rattle.protocol_laws.proofs.first.Statuses.{if_tid}
use Rattle.protocol_laws.proofs.machine.QuietTold.{no_cascade}
use Rattle.protocol_theorems.proofs.sets.AtPlacing.{status_joined}

abbrev pub Says : {C : Type 0} → Fixed C → ℕ → Verdict → Event → Machine C → Type 0
Says w n v e s = verdict n (after w e s).book (after w e s).desk ≡ Some v

-- ---- what is found after a change

act_map : (f : Act → Act) → ((x : Act) → (f x).tid ≡ x.tid) → (t : ℕ) (x : Act) (xs : List Act) → act_of t xs ≡ Some x → act_of t (map f xs) ≡ Some (f x)
act_map f i t x [] e = absurd (cc e)
act_map f i t x (y ∷ ys) e = subst (λ z. (if z == t then Some (f y) else act_of t (map f ys)) ≡ Some (f x)) (sym (i y)) (by (y.tid == t) e (act_map f i t x ys))
  where
    one : (u v : Act) → Some u ≡ Some v → u ≡ v
    one u v e = cc e

    by : (b : Bool) → (if b then Some y else act_of t ys) ≡ Some x → (act_of t ys ≡ Some x → act_of t (map f ys) ≡ Some (f x)) → (if b then Some (f y) else act_of t (map f ys)) ≡ Some (f x)
    by true e r = ap (λ z. Some (f z)) (one y x e)
    by false e r = r e

act_changed : (f : Act → Act) → ((x : Act) → (f x).tid ≡ x.tid) → (t : ℕ) (x : Act) (xs : List Act) → act_of t xs ≡ Some x → act_of t (book.changed_act t f xs) ≡ Some (f x)
act_changed f i t x xs e = act_map (λ y. book.change_if (y.tid == t) f y) (λ y. if_tid (y.tid == t) f y (i y)) t x xs e ∙ ap (λ b. Some (book.change_if b f x)) (eq-eqb x.tid t (found_tid t x xs e))

batch_map : (f : Batch → Batch) → ((b : Batch) → (f b).bid ≡ b.bid) → (k : ℕ) (b : Batch) (bs : List Batch) → batch_of k bs ≡ Some b → batch_of k (map f bs) ≡ Some (f b)
batch_map f i k b [] e = absurd (cc e)
batch_map f i k b (y ∷ ys) e = subst (λ z. (if z == k then Some (f y) else batch_of k (map f ys)) ≡ Some (f b)) (sym (i y)) (by (y.bid == k) e (batch_map f i k b ys))
  where
    one : (u v : Batch) → Some u ≡ Some v → u ≡ v
    one u v e = cc e

    by : (q : Bool) → (if q then Some y else batch_of k ys) ≡ Some b → (batch_of k ys ≡ Some b → batch_of k (map f ys) ≡ Some (f b)) → (if q then Some (f y) else batch_of k (map f ys)) ≡ Some (f b)
    by true e r = ap (λ z. Some (f z)) (one y b e)
    by false e r = r e

batch_changed : (f : Batch → Batch) → ((b : Batch) → (f b).bid ≡ b.bid) → (k : ℕ) (b : Batch) (bs : List Batch) → batch_of k bs ≡ Some b → batch_of k (desk.changed_batch k f bs) ≡ Some (f b)
batch_changed f i k b bs e = batch_map (λ y. desk.change_if (y.bid == k) f y) (λ y. if_bid (y.bid == k) y) k b bs e ∙ ap (λ q. Some (desk.change_if q f b)) (eq-eqb b.bid k (found_bid k b bs e))
  where
    if_bid : (q : Bool) (y : Batch) → (desk.change_if q f y).bid ≡ y.bid
    if_bid true y = i y
    if_bid false y = refl

-- ---- an older holder

dies_says : {C : Type 0} (w : Fixed C) (n a u t : ℕ) (x : Act) (s : Machine C) → holds (λ x. is_live_status x.status) (act_of t s.book.acts) ≡ true → IsOnce n (after w (Ask t a) s) → act_of t s.book.acts ≡ Some x → x.tx ≡ n → in_the_way (lock_of t s.book.acts) (cell_at s a).entries ≡ Some u → Says w n (died a u t) (Ask t a) s
unfolding after
dies_says w n a u t x s l o f i q =
    by_act (after w (Ask t a) s) n t (book.doomed_by (died a u t) x) o
    (subst (λ z. act_of t (book.asked_acts z (book.met (lock_of t s.book.acts) (cell_at s a).entries) t a (max (cell_at s a).last (floor_at t s.book.acts (cell_at s a))) s.book) ≡ Some (book.doomed_by (died a u t) x)) (sym q) (act_changed (book.doomed_by (died a u t)) (λ x. refl) t x s.book.acts f)) i
    ∙ said (is_live_status x.status) (some_of (λ x. is_live_status x.status) (act_of t s.book.acts) x f l)
  where
    said : (b : Bool) → b ≡ true → act_verdict (if b then Doomed (died a u t) else x.status) x.m x.result ≡ Some (died a u t)
    said true e = refl
    said false e = absurd (true≢false (sym e))

-- ---- numbers that cross

crossed_said : (a m k : ℕ) (z y : Act) → crossed_out a z ≡ y → is_live_status z.status ≡ true → y.m ≡ m → y.n ≡ Some k → k ≤ m → acts.said y ≡ Some (out_of_order m k a)
crossed_said a m k z y e l i j q = subst (λ v. acts.said v ≡ Some (out_of_order m k a)) e (by (is_crossed z) (crosses (is_live_status z.status) z.n l (ap (λ v. v.n) e ∙ j)))
  where
    zm : z.m ≡ m
    zm = ap (λ v. v.m) e ∙ i

    crosses : (b : Bool) (o : Option ℕ) → b ≡ true → o ≡ Some k → (b && reaches z.m o) ≡ true
    crosses b o f g = rw (f, g) (le-leb k z.m (omega (arith, q, zm)))

    num : (o : Option ℕ) → o ≡ Some k → unwrap_or o 0 ≡ k
    num o g = rw g refl

    by : (b : Bool) → b ≡ true → act_verdict (if b then Doomed (out_of_order z.m (unwrap_or z.n 0) a) else z.status) z.m z.result ≡ Some (out_of_order m k a)
    by true f = ap (λ v. Some (out_of_order v (unwrap_or z.n 0) a)) zm ∙ ap (λ v. Some (out_of_order m v a)) (num z.n (ap (λ v. v.n) e ∙ j))
    by false f = absurd (true≢false (sym f))

crosses_says : {C : Type 0} (w : Fixed C) (n m k a : ℕ) (e : Event) (s : Machine C) → IsOnce n (after w e s) → Crosses w n m k a e s → Says w n (out_of_order m k a) e s
unfolding after
crosses_says {C} w n m k a e s o r = by_act (after w e s) n r.tid r.next o r.found (tx r.event) ∙ said r.event
  where
    arrived : (j : ℕ) → act_of r.tid (after w (Arrive j a) s).book.acts ≡ Some r.next → (z : Act) × ((crossed_out a z ≡ r.next) × ((z.status ≡ r.act.status) × (z.tx ≡ r.act.tx)))
    arrived j f =
        let g = found_map (crossed_out a) (λ x. refl) r.tid r.next (map (book.lowered j (book.tids_on (cell_at s a).entries)) s.book.acts) f in
        let b = found_map (book.lowered j (book.tids_on (cell_at s a).entries)) (λ x. refl) r.tid g.from s.book.acts g.found in
        let q = same_some (act_of r.tid s.book.acts) b.from r.act b.found r.is_act.found in
        (g.from, (g.is_it, (ap (λ z. z.status) (sym b.is_it) ∙ ap (λ z. z.status) q, ap (λ z. z.tx) (sym b.is_it) ∙ ap (λ z. z.tx) q)))

    asked : (u : ℕ) → in_the_way (lock_of u s.book.acts) (cell_at s a).entries ≡ None → act_of r.tid (after w (Ask u a) s).book.acts ≡ Some r.next → (z : Act) × ((crossed_out a z ≡ r.next) × ((z.status ≡ r.act.status) × (z.tx ≡ r.act.tx)))
    asked u i f =
        let h = subst (λ z. act_of r.tid (book.asked_acts z (book.met (lock_of u s.book.acts) (cell_at s a).entries) u a (max (cell_at s a).last (floor_at u s.book.acts (cell_at s a))) s.book) ≡ Some r.next) i f in
        let own = book.changed_act u (book.joins a (max (cell_at s a).last (floor_at u s.book.acts (cell_at s a)))) s.book.acts in
        let g = found_map (crossed_out a) (λ x. refl) r.tid r.next (raised (s.book.pairs ++ book.new_pairs u a (book.met (lock_of u s.book.acts) (cell_at s a).entries) s.book.acts) own) h in
        let p = found_raised (s.book.pairs ++ book.new_pairs u a (book.met (lock_of u s.book.acts) (cell_at s a).entries) s.book.acts) r.tid g.from own g.found in
        let b = found_map (λ x. book.change_if (x.tid == u) (book.joins a (max (cell_at s a).last (floor_at u s.book.acts (cell_at s a)))) x) (λ x. if_tid (x.tid == u) (book.joins a (max (cell_at s a).last (floor_at u s.book.acts (cell_at s a)))) x refl) r.tid p.from s.book.acts p.found in
        let q = same_some (act_of r.tid s.book.acts) b.from r.act b.found r.is_act.found in (
          g.from,
          (
            g.is_it,
            (
              ap (λ z. z.status) (sym p.is_it) ∙ (ap (λ z. z.status) (sym b.is_it) ∙ (status_joined (b.from.tid == u) a _ b.from ∙ ap (λ z. z.status) q)),
              ap (λ z. z.tx) (sym p.is_it) ∙ (ap (λ z. z.tx) (sym b.is_it) ∙ (acts.joined_tx (b.from.tid == u) a _ b.from ∙ ap (λ z. z.tx) q)),
            ),
          ),
        )

    from : PlacesOn a e s → (z : Act) × ((crossed_out a z ≡ r.next) × ((z.status ≡ r.act.status) × (z.tx ≡ r.act.tx)))
    from (inl p) = arrived p.0 (subst (λ z. act_of r.tid (after w z s).book.acts ≡ Some r.next) p.1 r.found)
    from (inr p) = asked p.0 p.1.1 (subst (λ z. act_of r.tid (after w z s).book.acts ≡ Some r.next) p.1.0 r.found)

    tx : PlacesOn a e s → r.next.tx ≡ n
    tx p = let z = from p in ap (λ v. v.tx) (sym z.1.0) ∙ (z.1.1.1 ∙ r.is_act.tx)

    said : PlacesOn a e s → acts.said r.next ≡ Some (out_of_order m k a)
    said p = let z = from p in crossed_said a m k z.0 r.next z.1.0 (ap is_live_status z.1.1.0 ∙ r.live) r.before_is r.after_is r.cross

-- ---- a cascade

takes_act_says : {C : Type 0} (w : Fixed C) (n k by t : ℕ) (x : Act) (s : Machine C) → IsOnce n (after w (Abort k) s) → failed_tx (why k s.desk) ≡ by → act_of t s.book.acts ≡ Some x → x.tx ≡ n → is_live_status x.status ≡ true → k ≤ x.m → Says w n (taken_along k by) (Abort k) s
unfolding after
takes_act_says w n k by t x s o y f i l q =
    by_act (after w (Abort k) s) n t (book.cascaded k (failed_tx (why k s.desk)) x) o (act_map (book.cascaded k (failed_tx (why k s.desk))) (λ x. refl) t x s.book.acts f) i
    ∙ (said (is_live_status x.status && nat_le k x.m) (and_from (is_live_status x.status) (nat_le k x.m) l (le-leb k x.m q)) ∙ ap (λ z. Some (taken_along k z)) y)
  where
    said : (b : Bool) → b ≡ true → act_verdict (if b then Doomed (taken_along k (failed_tx (why k s.desk))) else x.status) x.m x.result ≡ Some (taken_along k (failed_tx (why k s.desk)))
    said true e = refl
    said false e = absurd (true≢false (sym e))

not_settled : (st : Stage) → is_formed st ≡ true → is_settled st ≡ false
not_settled Formed e = refl
not_settled Committing e = refl
not_settled Settled e = absurd (true≢false (sym e))

-- from the batch that is aborted on no cascade covers a batch
not_covered : (k j : ℕ) (y : keys.Key) (xs : List keys.Key) (cs : List Cascade) → k ≤ j → IsIn y xs → y.bid ≡ k → keys.is_over y ≡ false → AllByRecursion (λ c. OverBelow c.first xs) cs → is_aborted k cs ≡ false → is_aborted j cs ≡ false
unfolding OverBelow
not_covered k j y xs [] l i e v h a = refl
not_covered k j y xs (c ∷ cs) l i e v h a =
    let p = or_parts (covers k c) (is_aborted k cs) a in
    or_from (covers j c) (is_aborted j cs) (false_from_ne_true (covers j c) (λ q. one (and_parts (nat_le c.first j) (nat_le j c.upto) q) p.0 (cases_lt k c.first))) (not_covered k j y xs cs l i e v h.1 p.1)
  where
    one : (nat_le c.first j ≡ true) × (nat_le j c.upto ≡ true) → covers k c ≡ false → (k < c.first) ⊎ (c.first ≤ k) → ⊥
    one q n (inl m) = true≢false (sym (h.0 y i (omega (arith, e, m))) ∙ v)
    one q n (inr m) = true≢false (sym (and_from (nat_le c.first k) (nat_le k c.upto) (le-leb c.first k m) (le-leb k c.upto (omega (arith, leb-true j c.upto q.1, l)))) ∙ n)

free : {C : Type 0} (w : Fixed C) (k j : ℕ) (s : Machine C) → IsAllowed w (Abort k) s → settling.Settling w s → k ≤ j → find (covers j) s.book.cascades ≡ None
unfolding conditions settling.Settling
free w k j s ok g l =
    let f = settling.found k (λ b. is_open b && is_next_to_commit k s.desk.batches) s.desk.batches ok.0 in
    let q = and_parts (is_formed f.batch.stage) (not f.batch.aborted) (and_parts (is_open f.batch) (is_next_to_commit k s.desk.batches) f.holds).0 in
    let n = not-true f.batch.aborted q.1 in
    no_cascade j s.book.cascades (not_covered k j (settling.key_of f.batch) (map settling.key_of s.desk.batches) s.book.cascades l f.is_in f.bid (or_from f.batch.aborted (is_settled f.batch.stage) n (not_settled f.batch.stage q.0)) g.below_cascades
    (subst (λ z. is_aborted z s.book.cascades ≡ false) f.bid (sym (g.marked (settling.key_of f.batch) f.is_in) ∙ n)))

new_cascade : {C : Type 0} → ℕ → Machine C → Cascade
new_cascade k s = record { first = k; upto = s.ring.next_bid - 1; by = failed_tx (why k s.desk); at = s.book.next_c; code = failed_code (why k s.desk) }

aborted_says : {C : Type 0} (w : Fixed C) (n k j : ℕ) (b : Batch) (p : Pact) (s : Machine C) → IsAllowed w (Abort k) s → settling.Settling w s → IsOnce n (after w (Abort k) s) → batch_of j s.desk.batches ≡ Some b → named n b.pacts ≡ Some p → k ≤ j
    → verdict n (after w (Abort k) s).book (after w (Abort k) s).desk ≡ Some (aborted_by (new_cascade k s) p.tx)
unfolding after settling.Settling new_cascade
aborted_says w n k j b p s ok g o f m l =
    let i = found_bid j b s.desk.batches f in
    let free_b = free w k b.bid s ok g (omega (arith, i, l)) in
    let within = keys.rises_within w.text.opening.next_bid s.ring.next_bid (settling.key_of b) (map settling.key_of s.desk.batches) g.rises (settling.in_keys b (λ z. z.bid == j) s.desk.batches f).0 in
    let c = and_from (nat_le k b.bid) (nat_le b.bid (s.ring.next_bid - 1)) (le-leb k b.bid (omega (arith, i, l))) (le-leb b.bid (s.ring.next_bid - 1) (omega (arith, within.1))) in
    by_pact (after w (Abort k) s) n j (desk.taken k b) p o (batch_map (desk.taken k) (λ b. refl) j b s.desk.batches f) m
    ∙ (ap (tells (s.book.cascades ++ new_cascade k s ∷ []) (desk.taken k b)) m
    ∙ (ap (λ z. pact_verdict z (desk.taken k b) p) (find_more (covers b.bid) (new_cascade k s) s.book.cascades)
    ∙ covered (find (covers b.bid) s.book.cascades) (covers b.bid (new_cascade k s)) free_b c))
  where
    covered : (z : Option Cascade) (q : Bool) → z ≡ None → q ≡ true → pact_verdict (elim z [ None ↦ if q then Some (new_cascade k s) else None | Some y ↦ Some y ]) (desk.taken k b) p ≡ Some (aborted_by (new_cascade k s) p.tx)
    covered z q e f = rw (e, f) refl

named_tx : (n : ℕ) (p : Pact) (ps : List Pact) → named n ps ≡ Some p → p.tx ≡ n
named_tx n p [] e = absurd (cc e)
named_tx n p (q ∷ ps) e = by (q.tx == n) refl e (named_tx n p ps)
  where
    by : (b : Bool) → (q.tx == n) ≡ b → (if b then Some q else named n ps) ≡ Some p → (named n ps ≡ Some p → p.tx ≡ n) → p.tx ≡ n
    by true f e r = let i : q ≡ p = cc e in ap (λ z. z.tx) (sym i) ∙ eqb-true q.tx n f
    by false f e r = r e

takes_pact_says : {C : Type 0} (w : Fixed C) (n k by j : ℕ) (b : Batch) (p : Pact) (s : Machine C) → IsAllowed w (Abort k) s → settling.Settling w s → IsOnce n (after w (Abort k) s) → failed_tx (why k s.desk) ≡ by → by ≢ n → batch_of j s.desk.batches ≡ Some b → named n b.pacts ≡ Some p → k ≤ j
    → Says w n (taken_along k by) (Abort k) s
unfolding new_cascade
takes_pact_says w n k by j b p s ok g o y d f m l = aborted_says w n k j b p s ok g o f m l ∙ (other (failed_tx (why k s.desk) == p.tx) (ne_eqb (failed_tx (why k s.desk)) p.tx (λ q. d (sym y ∙ (q ∙ named_tx n p b.pacts m)))) ∙ ap (λ z. Some (taken_along k z)) y)
  where
    other : (q : Bool) → q ≡ false → ◌≡◌ {A = Option Verdict} (Some (if q then verdicts.BatchCode (record { 0 = k }) s.book.next_c (failed_code (why k s.desk)) else taken_along k (failed_tx (why k s.desk)))) (Some (taken_along k (failed_tx (why k s.desk))))
    other q e = rw e refl

named_in : (n : ℕ) (p : Pact) (front rest : List Pact) → p.tx ≡ n → is_some (named n (front ++ p ∷ rest)) ≡ true
named_in n p [] rest e = own (p.tx == n) (eq-eqb p.tx n e)
  where
    own : (b : Bool) → b ≡ true → is_some (if b then Some p else named n rest) ≡ true
    own b f = rw f refl
named_in n p (q ∷ front) rest e = by (q.tx == n) (named_in n p front rest e)
  where
    by : (b : Bool) → is_some (named n (front ++ p ∷ rest)) ≡ true → is_some (if b then Some q else named n (front ++ p ∷ rest)) ≡ true
    by true h = refl
    by false h = h

fails_says : {C : Type 0} (w : Fixed C) (n k c code : ℕ) (s : Machine C) → IsAllowed w (Abort k) s → settling.Settling w s → IsOnce n (after w (Abort k) s) → Fails n k c code (Abort k) s → Says w n (verdicts.BatchCode (record { 0 = k }) c code) (Abort k) s
unfolding new_cascade
fails_says w n k c code s ok g o r =
    let y = why_is n k c code (Abort k) s r in
    let q = somebody (named n r.batch.pacts) (subst (λ z. is_some (named n z) ≡ true) (sym r.splits) (named_in n r.pact r.front r.rest r.tx)) in
    aborted_says w n k k r.batch q.0 s ok g o r.found q.1 (omega arith)
    ∙ (own (failed_tx (why k s.desk) == q.0.tx) (eq-eqb (failed_tx (why k s.desk)) q.0.tx (ap failed_tx y ∙ sym (named_tx n q.0 r.batch.pacts q.1)))
    ∙ (ap (λ z. Some (verdicts.BatchCode (record { 0 = k }) z (failed_code (why k s.desk)))) r.next_c ∙ ap (λ z. Some (verdicts.BatchCode (record { 0 = k }) c (failed_code z))) y))
  where
    own : (q : Bool) → q ≡ true → ◌≡◌ {A = Option Verdict} (Some (if q then verdicts.BatchCode (record { 0 = k }) s.book.next_c (failed_code (why k s.desk)) else taken_along k (failed_tx (why k s.desk)))) (Some (verdicts.BatchCode (record { 0 = k }) s.book.next_c (failed_code (why k s.desk))))
    own q e = rw e refl

-- ---- its own code, or its value

alone_says : {C : Type 0} (w : Fixed C) (n t code : ℕ) (p : Place) (x : Act) (s : Machine C) → IsOnce n (after w (Decide t) s) → act_of t s.book.acts ≡ Some x → x.tx ≡ n → is_live_status x.status ≡ true → x.result ≡ Some (Fail code) → act_place x.m s.book.next_c ≡ p
    → Says w n (verdicts.Code p code) (Decide t) s
unfolding after
alone_says w n t code p x s o f i l r q =
    by_act (after w (Decide t) s) n t (book.decided_as s.book.next_c x) o (act_changed (book.decided_as s.book.next_c) (λ x. refl) t x s.book.acts f) i ∙ (said x.status x.result l r ∙ ap (λ z. Some (verdicts.Code z code)) q)
  where
    said : (st : Status) (z : Option TxResult) → is_live_status st ≡ true → z ≡ Some (Fail code) → act_verdict (book.decided_status s.book.next_c (Rattle.protocol.specs.Words.is_value z) st) x.m z ≡ Some (verdicts.Code (act_place x.m s.book.next_c) code)
    said Live z l e = rw e refl
    said (Doomed v) z l e = absurd (true≢false (sym l))
    said (Decided c) z l e = absurd (true≢false (sym l))
    said (Sealed c) z l e = absurd (true≢false (sym l))

seals_says : {C : Type 0} (w : Fixed C) (n t c : ℕ) (v : ℤ) (p : Place) (x : Act) (s : Machine C) → IsOnce n (after w (Seal t) s) → act_of t s.book.acts ≡ Some x → x.tx ≡ n → x.status ≡ Decided c → x.result ≡ Some (Value v) → act_place x.m c ≡ p
    → Says w n (verdicts.Committed p v) (Seal t) s
unfolding after
seals_says w n t c v p x s o f i l r q =
    by_act (after w (Seal t) s) n t (book.sealed x) o (act_changed book.sealed (λ x. refl) t x s.book.acts f) i ∙ (said x.status x.result l r ∙ ap (λ z. Some (verdicts.Committed z v)) q)
  where
    said : (st : Status) (z : Option TxResult) → st ≡ Decided c → z ≡ Some (Value v) → act_verdict (book.sealed_status st) x.m z ≡ Some (verdicts.Committed (act_place x.m c) v)
    said st z d e = rw (d, e) refl

settles_says : {C : Type 0} (w : Fixed C) (n k : ℕ) (v : ℤ) (p : Place) (b : Batch) (q : Pact) (s : Machine C) → IsAllowed w (Settle k) s → settling.Settling w s → IsOnce n (after w (Settle k) s) → batch_of k s.desk.batches ≡ Some b → named n b.pacts ≡ Some q → q.result ≡ Some (Value v) → pact_place k q.tid ≡ p
    → Says w n (verdicts.Committed p v) (Settle k) s
unfolding after conditions settling.Settling
settles_says w n k v p b q s ok g o f m r i =
    let a = and_parts (is_committing b.stage) (not b.aborted) (some_of (λ b. is_committing b.stage && not b.aborted) (batch_of k s.desk.batches) b f ok.0) in
    let none = no_cascade b.bid s.book.cascades (sym (g.marked (settling.key_of b) (settling.in_keys b (λ z. z.bid == k) s.desk.batches f).0) ∙ not-true b.aborted a.1) in
    by_pact (after w (Settle k) s) n k (desk.with_stage Settled b) q o (batch_changed (desk.with_stage Settled) (λ b. refl) k b s.desk.batches f) m
    ∙ (ap (tells s.book.cascades (desk.with_stage Settled b)) m
    ∙ (ap (λ z. pact_verdict z (desk.with_stage Settled b) q) none
    ∙ (ap (ended_at (pact_place b.bid q.tid)) r ∙ ap (λ z. Some (verdicts.Committed z v)) (ap (λ z. pact_place z q.tid) (found_bid k b s.desk.batches f) ∙ i))))

-- ---- all rows

at_event : {C : Type 0} (w : Fixed C) (n : ℕ) (v : Verdict) (e f : Event) (s : Machine C) → e ≡ f → IsAllowed w e s → IsOnce n (after w e s) → (IsAllowed w f s → IsOnce n (after w f s) → Says w n v f s) → Says w n v e s
at_event w n v e f s q ok o k = subst (λ z. Says w n v z s) (sym q) (k (subst (λ z. IsAllowed w z s) q ok) (subst (λ z. IsOnce n (after w z s)) q o))

pub back : {C : Type 0} (w : Fixed C) (Of : Tx → C → Type 0) (finish : C → List State → Alone) (e : Event) (s : Machine C) (h : History) (n : ℕ) (v : Verdict) → IsAllowed w e s → Informed w Of finish s h → IsOnce n (after w e s) → Gives w n v e s → Says w n v e s
back w Of finish e s h n (verdicts.Committed p v) ok g o (inl r) = at_event w n (verdicts.Committed p v) e (Seal r.tid) s r.event ok o (λ k u. seals_says w n r.tid r.c v p r.act s u r.is_act.found r.is_act.tx r.decided r.result r.place)
back w Of finish e s h n (verdicts.Committed p v) ok g o (inr r) = at_event w n (verdicts.Committed p v) e (Settle r.bid) s r.event ok o (λ k u. settles_says w n r.bid v p r.batch r.pact s k g.good.good.settling u r.is_pact.found r.is_pact.named r.result r.place)
back w Of finish e s h n (verdicts.Code p c) ok g o r = at_event w n (verdicts.Code p c) e (Decide r.tid) s r.event ok o (λ k u. alone_says w n r.tid c p r.act s u r.is_act.found r.is_act.tx r.live r.result r.place)
back w Of finish e s h n (verdicts.BatchCode j c code) ok g o r = at_event w n (verdicts.BatchCode j c code) e (Abort j.0) s r.event ok o (λ k u. fails_says w n j.0 c code s k g.good.good.settling u (subst (λ z. Fails n j.0 c code z s) r.event r))
back w Of finish e s h n (verdicts.Cascade j by) ok g o (inl r) = at_event w n (verdicts.Cascade j by) e (Abort j.0) s r.failing.event ok o (λ k u. takes_act_says w n j.0 by.0 r.tid r.act s u (ap failed_tx (why_is by.0 j.0 s.book.next_c r.code e s r.failing)) r.is_act.found r.is_act.tx r.live r.reached)
back w Of finish e s h n (verdicts.Cascade j by) ok g o (inr r) = at_event w n (verdicts.Cascade j by) e (Abort j.0) s r.failing.event ok o (λ k u. takes_pact_says w n j.0 by.0 r.bid r.batch r.pact s k g.good.good.settling u (ap failed_tx (why_is by.0 j.0 s.book.next_c r.code e s r.failing)) r.other r.is_pact.found r.is_pact.named r.reached)
back w Of finish e s h n (verdicts.Died a older own) ok g o r = at_event w n (verdicts.Died a older own) e (Ask own.0 a.0) s r.event ok o (λ k u. dies_says w n a.0 older.0 own.0 r.act s (asks_live w Of finish own.0 a.0 s h k g.good) u r.is_act.found r.is_act.tx (in_way_back s own.0 a.0 older.0 r.least r.is_older))
back w Of finish e s h n (verdicts.Order m k a) ok g o r = crosses_says w n m.0 k.0 a.0 e s o r
back w Of finish e s h n (verdicts.Unsure l) ok g o r = absurd r
