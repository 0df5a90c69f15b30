-- Who waits first at a coordinator is a transaction that was submitted, and begins with the next tid.
use Rattle.std.proofs.Common.{◌≡◌, ℕ, ◌<◌, ◌≤◌, Bool, true, not, Option, Some, None, List, [], ◌∷◌, ◌++◌, length, refl, ap, sym, subst, ◌∙◌, arith}
use Rattle.std.specs.Prelude.{map, slice_index_or}
use Rattle.std.proofs.lemmas.Bool.{eq-eqb, eqb-true, false≢true}
use Rattle.std.specs.Option.{OnSome}
use Rattle.snap_base.specs.declared.ids.Tid.{Tid}
use Rattle.snap_base.specs.declared.ids.TxNo.{TxNo}
use Rattle.book_part.specs.Halves.{Halves}
use Rattle.protocol.specs.Fixed.{Fixed}
use Rattle.protocol.specs.Parts.{Ring, Machine}
use Rattle.protocol.specs.Events.{Admit}
use Rattle.protocol.specs.Words.{is_empty}
use Rattle.protocol.specs.Conditions.{IsAllowed, conditions, queue}
use Rattle.protocol.specs.Numbers.{flat, times, one_if, TransactionsInOnePlace}
use Rattle.protocol.specs.OnBook.{act_admitted}
use Rattle.protocol.specs.OnPost.{next_act}
use Rattle.protocol_laws.proofs.first.Times.{times_cons, times_append}
use Rattle.protocol_theorems.specs.Sizes.{SizesHold}
use Rattle.token_ring.specs.Asked as asked
use Rattle.batch_table.proofs.Planning.{times_in_flat, in_range}

first_is_in : (xs : List ℕ) → not (is_empty xs) ≡ true → 1 ≤ times (slice_index_or xs 0 0) xs
first_is_in [] e = absurd (false≢true e)
first_is_in (x ∷ xs) e = omega (arith, times_cons x x xs, ap one_if (eq-eqb x x refl))

pub next_act_is_of_text : {C : Type 0} (w : Fixed C) (s : Machine C) (t : ℕ) → SizesHold w s → TransactionsInOnePlace w s → IsAllowed w (Admit t) s → next_act s.ring < length w.text.txs
unfolding conditions
next_act_is_of_text w s t sizes placed ok =
    let n = next_act s.ring in
    let others = flat (map (λ b. map (λ p. p.tx) b.pacts) s.desk.batches) ++ map (λ x. x.tx) s.book.acts in
    let here = first_is_in (queue s.ring.acts s.ring.holder) ok.1.0 in
    let queued = times_in_flat n s.ring.holder s.ring.acts in
    let waiting = times_append n (flat s.ring.pacts) (flat s.ring.acts) in
    let all = times_append n (flat s.ring.pacts ++ flat s.ring.acts) others in
    omega (arith, in_range 0 s.ring.next_tx n (omega (arith, here, queued, waiting, all, placed n)), sizes.next_tx)

-- the ring tells it with its tid
pub first_waits : {C : Type 0} (w : Fixed C) (s : Machine C) (t : ℕ) (r : Ring) → IsAllowed w (Admit t) s → s.ring ≡ r → asked.act_admitted_next r ≡ Some (record { 0 = t }, record { 0 = next_act s.ring })
unfolding conditions
first_waits w s t r ok shows =
    ap asked.act_admitted_next (sym shows)
    ∙ (first_of_some s.ring.next_tid (queue s.ring.acts s.ring.holder) ok.1.0
    ∙ ap (λ n. Some (record { 0 = n }, record { 0 = next_act s.ring })) (sym (eqb-true t s.ring.next_tid ok.0)))
  where
    first_of_some : (t : ℕ) (xs : List ℕ) → not (is_empty xs) ≡ true → asked.first_with t xs ≡ Some (record { 0 = t }, record { 0 = slice_index_or xs 0 0 })
    first_of_some t [] e = absurd (false≢true e)
    first_of_some t (x ∷ xs) e = refl

-- so the one that it tells has this tid, and is this transaction
pub admitted_is : {C : Type 0} (w : Fixed C) (s : Machine C) (t : ℕ) (r : Ring) (o : Option (Tid × TxNo)) (x : Tid × TxNo) → IsAllowed w (Admit t) s → s.ring ≡ r → o ≡ asked.act_admitted_next r → o ≡ Some x → (x.0.0 ≡ t) × (x.1.0 ≡ next_act s.ring)
admitted_is w s t r o x ok shows told is =
    let e : Some x ≡ Some (record { 0 = t }, record { 0 = next_act s.ring }) = sym is ∙ (told ∙ first_waits w s t r ok shows) in
    let p : x ≡ (record { 0 = t }, record { 0 = next_act s.ring }) = cc e in
    (ap (λ y. y.0.0) p, ap (λ y. y.1.0) p)

-- it is told
pub told_first : {C : Type 0} (w : Fixed C) (s : Machine C) (t : ℕ) (r : Ring) (P : Type 0) → IsAllowed w (Admit t) s → s.ring ≡ r → (o : Option (Tid × TxNo)) → o ≡ asked.act_admitted_next r → OnSome o P → P
told_first w s t r P ok shows o told on =
    by (asked.act_admitted_next r) (first_waits w s t r ok shows) (subst (λ z. OnSome z P) told on)
  where
    by : (o : Option (Tid × TxNo)) {x : Tid × TxNo} → o ≡ Some x → OnSome o P → P
    by None e h = absurd (cc e)
    by (Some y) e h = h

pub admitted_halves : (h : Halves) (t n m u k j : ℕ) (reads only : Bool) → t ≡ u → n ≡ k → reads ≡ only → m ≡ j
    → record h { orders = act_admitted t n reads m h.orders } ≡ record h { orders = act_admitted u k only j h.orders }
admitted_halves h t n m u k j reads only p q b r =
    ap (λ x. record h { orders = act_admitted x n reads m h.orders }) p
    ∙ (ap (λ x. record h { orders = act_admitted u x reads m h.orders }) q
    ∙ (ap (λ x. record h { orders = act_admitted u k x m h.orders }) b
    ∙ ap (λ x. record h { orders = act_admitted u k only x h.orders }) r))
