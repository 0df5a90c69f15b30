-- The cases of order, over every run.
use Rattle.std.specs.Prelude.{◌≡◌, refl, ℕ, zero, suc, ◌+◌, ◌<◌, ◌≤◌, ◌==◌, nat_lt, Bool, true, false, ◌&&◌, ◌⊎◌, Option, Some, None, is_some, List, [], ◌∷◌, ◌++◌, length, map, filter}
use Rattle.std.specs.List.{AllByRecursion}
use Rattle.std.proofs.Common.{arith, sym, ap, subst, inl, inr, ◌∙◌}
use Rattle.std.proofs.lemmas.Bool.{true≢false, eqb-true, ltb-true, and_parts, or_cases}
use Rattle.snap_base.specs.declared.transactions.State.{State}
use Rattle.snap_base.specs.declared.transactions.Tx.{Tx}
use Rattle.snap_base.specs.declared.verdicts.Place.{Place}
use Rattle.protocol_theorems.proofs.order.OrderImplied.{shuffled_all, shuffled_rise}
use Rattle.protocol_theorems.specs.Order.{Shuffled, Nobody, Put}
use Rattle.protocol.specs.Fixed.{Fixed}
use Rattle.protocol.specs.Facts.{Alone}
use Rattle.protocol.specs.Rests.{IsRest, IsTxIn}
use Rattle.protocol.specs.Laws.{AfterEveryRunWithHistory}
use Rattle.protocol.specs.Parts.{Act, Pact, Batch, Who, OfBatch, OfAct, Machine}
use Rattle.protocol.specs.Words.{act_of, batch_of}
use Rattle.protocol.specs.Events.{Event, Commit, Decide}
use Rattle.protocol.specs.Effects.{after}
use Rattle.protocol.specs.Runs.{IsRun, reached}
use Rattle.protocol.specs.Verdicts.{pact_place, act_place}
use Rattle.protocol.specs.History.{Done, History, history, grown, done_pact, done_batch, done_act}
use Rattle.protocol.specs.Chains.{chain, is_place_below, RivalsRise}
use Rattle.protocol_laws.specs.Told.{has_number, DoneFrom}
use Rattle.protocol_laws.specs.Rising.{first_number_of, visitors, visits}
use Rattle.protocol_theorems.specs.OrderCases.{OwnPlace, EachBehind, BatchBehindAct, ActBehindBatch, ActBehindAct, BatchBehindBatch, CasesHold}
use Rattle.protocol_laws.proofs.first.Lists.{all_join, all_filter, weaker, both_all}
use Rattle.protocol_laws.proofs.machine.ActsFound as acts
use Rattle.protocol_laws.proofs.machine.ActsTold.{AllFrom}
use Rattle.protocol_laws.proofs.machine.Good.{Given}
use Rattle.protocol_laws.proofs.machine.AllGood.{all_good, along_good, none_allowed}
use Rattle.protocol_laws.proofs.machine.Higher.{places_rise}
use Rattle.protocol_theorems.proofs.order.LastLaw.{facts_hold}

-- ---- numbers of commits rise

abbrev pub OrderBelow : ℕ → Done → Type 0
OrderBelow c d = (t : ℕ) → d.who ≡ OfAct t → d.place.order < c

abbrev pub OrdersRise : Done → Done → Type 0
OrdersRise d e = (t u : ℕ) → d.who ≡ OfAct t → e.who ≡ OfAct u → d.place.order < e.place.order

abbrev pub BatchPlace : Done → Type 0
BatchPlace d = (k : ℕ) → d.who ≡ OfBatch k → (d.place ≡ pact_place k d.tid) × (d.reader ≡ false)

pub record Orders (next : ℕ) (ds : List Done) : Type 0 where
  pub below : AllByRecursion (OrderBelow next) ds
  pub rise : EachBehind OrdersRise ds
  pub batches : AllByRecursion BatchPlace ds

behind_join : (R : Done → Done → Type 0) (ds es : List Done) → EachBehind R ds → EachBehind R es → AllByRecursion (λ d. AllByRecursion (R d) es) ds → EachBehind R (ds ++ es)
behind_join R [] es h g k = g
behind_join R (d ∷ ds) es h g k = (all_join (R d) ds es h.0 k.0, behind_join R ds es h.1 g k.1)

-- each of these is a PACT's
pacts_no_acts : (k : ℕ) (h : History) (ps : List Pact) → AllByRecursion (λ d. (t : ℕ) → d.who ≡ OfAct t → ⊥) (map (done_pact k h) ps)
pacts_no_acts k h [] = tt
pacts_no_acts k h (p ∷ ps) = ((λ t e. cc e), pacts_no_acts k h ps)

batch_no_acts : (k : ℕ) (h : History) (o : Option Batch) → AllByRecursion (λ d. (t : ℕ) → d.who ≡ OfAct t → ⊥) (done_batch k h o)
batch_no_acts k h None = tt
batch_no_acts k h (Some b) = pacts_no_acts k h b.pacts

pacts_placed : (k : ℕ) (h : History) (ps : List Pact) → AllByRecursion BatchPlace (map (done_pact k h) ps)
pacts_placed k h [] = tt
pacts_placed k h (p ∷ ps) = ((λ j e. let q : k ≡ j = cc e in (ap (λ z. pact_place z p.tid) q, refl)), pacts_placed k h ps)

batch_placed : (k : ℕ) (h : History) (o : Option Batch) → AllByRecursion BatchPlace (done_batch k h o)
batch_placed k h None = tt
batch_placed k h (Some b) = pacts_placed k h b.pacts

none_rise : (ds : List Done) → AllByRecursion (λ d. (t : ℕ) → d.who ≡ OfAct t → ⊥) ds → EachBehind OrdersRise ds
none_rise [] h = tt
none_rise (d ∷ ds) h = (weaker (λ e. (t : ℕ) → e.who ≡ OfAct t → ⊥) (OrdersRise d) ds (λ e k t u i j. absurd (k u j)) h.1, none_rise ds h.1)

act_orders : (c : ℕ) (h : History) (o : Option Act) → Orders c h.committed → Orders (c + 1) (h.committed ++ done_act c h o)
act_orders c h None g = record {
  below = all_join (OrderBelow (c + 1)) h.committed [] (weaker (OrderBelow c) (OrderBelow (c + 1)) h.committed (λ d k t e. omega (arith, k t e)) g.below) tt;
  rise = behind_join OrdersRise h.committed [] g.rise tt (weaker (OrderBelow c) (λ d. Unit {0}) h.committed (λ d k. tt) g.below);
  batches = all_join BatchPlace h.committed [] g.batches tt;
}
act_orders c h (Some x) g = record {
  below = all_join (OrderBelow (c + 1)) h.committed (done_act c h (Some x)) (weaker (OrderBelow c) (OrderBelow (c + 1)) h.committed (λ d k t e. omega (arith, k t e)) g.below) ((λ t e. omega arith), tt);
  rise = behind_join OrdersRise h.committed (done_act c h (Some x)) g.rise (tt, tt) (weaker (OrderBelow c) (λ d. AllByRecursion (OrdersRise d) (done_act c h (Some x))) h.committed (λ d k. ((λ t u i j. k t i), tt)) g.below);
  batches = all_join BatchPlace h.committed (done_act c h (Some x)) g.batches ((λ k e. absurd (cc e)), tt);
}

orders_kept : {C : Type 0} (w : Fixed C) (e : Event) (s : Machine C) (h : History) → Orders s.book.next_c h.committed → Orders (after w e s).book.next_c (grown w e s h).committed
unfolding after grown
orders_kept w (Commit k) s h g =
    let no = batch_no_acts k h (batch_of k s.desk.batches) in
    let new = done_batch k h (batch_of k s.desk.batches) in
    record {
      below = all_join (OrderBelow s.book.next_c) h.committed new g.below (weaker (λ d. (t : ℕ) → d.who ≡ OfAct t → ⊥) (OrderBelow s.book.next_c) new (λ d i t q. absurd (i t q)) no);
      rise = behind_join OrdersRise h.committed new g.rise (none_rise new no) (weaker (OrderBelow s.book.next_c) (λ d. AllByRecursion (OrdersRise d) new) h.committed (λ d i. weaker (λ d. (t : ℕ) → d.who ≡ OfAct t → ⊥) (OrdersRise d) new (λ e j t u p q. absurd (j u q)) no) g.below);
      batches = all_join BatchPlace h.committed new g.batches (batch_placed k h (batch_of k s.desk.batches));
    }
orders_kept w (Decide t) s h g = act_orders s.book.next_c h (act_of t s.book.acts) g
orders_kept w e s h g = g

pub orders_rise : {C : Type 0} (w : Fixed C) (Of : Tx → C → Type 0) (finish : C → List State → Alone) (es : List Event) → Given w Of finish → IsRun w es → Orders (reached w es).book.next_c (history w es).committed
orders_rise w Of finish es v run = along_good w Of finish (λ s h. Orders s.book.next_c h.committed) v (λ e s h ok g i. orders_kept w e s h i) (record { below = tt; rise = tt; batches = tt }) es run

-- ---- each has its own place

own_act : (xs : List Act) (t : ℕ) (d : Done) → DoneFrom xs t d → OwnPlace xs (OfAct t) d
own_act xs t d f = by (act_of t xs) refl f.there
  where
    by : (o : Option Act) → act_of t xs ≡ o → is_some o ≡ true → OwnPlace xs (OfAct t) d
    by None e h = absurd (true≢false (sym h))
    by (Some x) e h =
        let k = f.is_it t x e refl in
        let o : d.place.order ≡ k.c = ap (λ p. p.order) k.place in
        (x, (e, (k.tid ∙ acts.found_tid t x xs e, (subst (λ c. has_number c x.status ≡ true) (sym o) k.at, k.place ∙ ap (act_place x.m) (sym o)))))

own_place : (xs : List Act) (d : Done) → ((t : ℕ) → d.who ≡ OfAct t → DoneFrom xs t d) → BatchPlace d → OwnPlace xs d.who d
own_place xs d f g = by d.who refl
  where
    by : (y : Who) → d.who ≡ y → OwnPlace xs y d
    by (OfBatch k) e = (g k e).0
    by (OfAct t) e = own_act xs t d (f t e)

pub own_places : {C : Type 0} (s : Machine C) (h : History) → AllFrom s h → AllByRecursion BatchPlace h.committed → AllByRecursion (λ d. OwnPlace s.book.acts d.who d) h.committed
unfolding AllFrom
own_places s h f g = both_all (λ d. (t : ℕ) → d.who ≡ OfAct t → DoneFrom s.book.acts t d) BatchPlace (λ d. OwnPlace s.book.acts d.who d) h.committed (λ d k l. own_place s.book.acts d k l) f g

-- ---- places that rise

below_is : (p q : Place) → is_place_below p q ≡ true → (p.batch.0 < q.batch.0) ⊎ ((p.batch.0 ≡ q.batch.0) × ((p.side < q.side) ⊎ ((p.side ≡ q.side) × (p.order < q.order))))
below_is p q h = elim (or_cases (nat_lt p.batch.0 q.batch.0) _ h) [
  | inl a ↦ inl (ltb-true p.batch.0 q.batch.0 a)
  | inr b ↦
      let e = and_parts (p.batch.0 == q.batch.0) _ b in
      inr (
        eqb-true p.batch.0 q.batch.0 e.0,
        elim (or_cases (nat_lt p.side q.side) _ e.1) [
          | inl c ↦ inl (ltb-true p.side q.side c)
          | inr d ↦ let f = and_parts (p.side == q.side) _ d in inr (eqb-true p.side q.side f.0, ltb-true p.order q.order f.1)
        ],
      )
]

-- the numbers of a place, as its owner tells
sides : (xs : List Act) (d : Done) (t : ℕ) → OwnPlace xs d.who d → d.who ≡ OfAct t → d.place.side ≡ 1
sides xs d t h e = let f : OwnPlace xs (OfAct t) d = subst (λ y. OwnPlace xs y d) e h in ap (λ p. p.side) f.1.1.1.1

batch_is : (xs : List Act) (d : Done) (k : ℕ) → OwnPlace xs d.who d → d.who ≡ OfBatch k → d.place ≡ pact_place k d.tid
batch_is xs d k h e = subst (λ y. OwnPlace xs y d) e h

batch_act : (xs : List Act) (d e : Done) → OwnPlace xs d.who d → OwnPlace xs e.who e → is_place_below d.place e.place ≡ true → BatchBehindAct d e
batch_act xs d e g h b t k i j =
    let s : d.place.side ≡ 1 = sides xs d t g i in
    let p : e.place ≡ pact_place k e.tid = batch_is xs e k h j in
    let n : e.place.batch.0 ≡ k = ap (λ p. p.batch.0) p in
    let z : e.place.side ≡ 0 = ap (λ p. p.side) p in
    elim (below_is d.place e.place b) [
      | inl l ↦ omega (arith, l, n)
      | inr r ↦ elim r.1 [ inl l ↦ absurd (omega (arith, l, s, z)) | inr q ↦ absurd (omega (arith, q.0, s, z)) ]
    ]

act_batch : (xs : List Act) (d e : Done) → OwnPlace xs d.who d → OwnPlace xs e.who e → is_place_below d.place e.place ≡ true → ActBehindBatch d e
act_batch xs d e g h b k t i j =
    let n : d.place.batch.0 ≡ k = ap (λ p. p.batch.0) (batch_is xs d k g i) in
    elim (below_is d.place e.place b) [ inl l ↦ omega (arith, l, n) | inr r ↦ omega (arith, r.0, n) ]

not_lower : (d e : Done) → is_place_below d.place e.place ≡ true → first_number_of d ≤ first_number_of e
not_lower d e b = elim (below_is d.place e.place b) [ inl l ↦ omega (arith, l) | inr r ↦ omega (arith, r.0) ]

batch_batch : (xs : List Act) (d e : Done) → OwnPlace xs d.who d → OwnPlace xs e.who e → is_place_below d.place e.place ≡ true → BatchBehindBatch d e
batch_batch xs d e g h b j k i q =
    let p = batch_is xs d j g i in
    let r = batch_is xs e k h q in
    let m : d.place.batch.0 ≡ j = ap (λ p. p.batch.0) p in
    let n : e.place.batch.0 ≡ k = ap (λ p. p.batch.0) r in
    let y : d.place.side ≡ 0 = ap (λ p. p.side) p in
    let z : e.place.side ≡ 0 = ap (λ p. p.side) r in
    let u : d.place.order ≡ d.tid = ap (λ p. p.order) p in
    let v : e.place.order ≡ e.tid = ap (λ p. p.order) r in
    elim (below_is d.place e.place b) [
      | inl l ↦ inl (omega (arith, l, m, n))
      | inr f ↦ elim f.1 [ inl l ↦ absurd (omega (arith, l, y, z)) | inr l ↦ inr (omega (arith, f.0, m, n), omega (arith, l.1, u, v)) ]
    ]

-- from places that rise
each_case : (R : Done → Done → Type 0) (P : Done → Type 0) → ((d e : Done) → P d → P e → ((d.reader && e.reader) ≡ false → is_place_below d.place e.place ≡ true) → R d e) → (ds : List Done) → AllByRecursion P ds → RivalsRise ds → EachBehind R ds
each_case R P k [] h r = tt
each_case R P k (d ∷ ds) h r = (one ds h.1 r.0, each_case R P k ds h.1 r.1)
  where
    one : (es : List Done) → AllByRecursion P es → AllByRecursion (λ e. (d.reader && e.reader) ≡ false → is_place_below d.place e.place ≡ true) es → AllByRecursion (R d) es
    one [] g l = tt
    one (e ∷ es) g l = (k d e h.0 g.0 l.0, one es g.1 l.1)

behind_filter : (R : Done → Done → Type 0) (p : Done → Bool) (ds : List Done) → EachBehind R ds → EachBehind R (filter p ds)
behind_filter R p [] h = tt
behind_filter R p (d ∷ ds) h = by (p d) (behind_filter R p ds h.1)
  where
    by : (b : Bool) → EachBehind R (filter p ds) → EachBehind R (Rattle.std.specs.Prelude.cond b (d ∷ filter p ds) (filter p ds))
    by true g = (all_filter (R d) p ds h.0, g)
    by false g = g

behind_both : (R S T : Done → Done → Type 0) (ds : List Done) → ((d e : Done) → R d e → S d e → T d e) → EachBehind R ds → EachBehind S ds → EachBehind T ds
behind_both R S T [] k h g = tt
behind_both R S T (d ∷ ds) k h g = (both_all (R d) (S d) (T d) ds (λ e i j. k d e i j) h.0 g.0, behind_both R S T ds k h.1 g.1)

all_parts : (P : Done → Type 0) (xs ys : List Done) → AllByRecursion P (xs ++ ys) → AllByRecursion P xs × AllByRecursion P ys
all_parts P [] ys h = (tt, h)
all_parts P (x ∷ xs) ys h = let r = all_parts P xs ys h.1 in ((h.0, r.0), r.1)

-- of rivals, in the other order too
behind_last : (R : Done → Done → Type 0) (ds : List Done) (d : Done) → EachBehind R (ds ++ d ∷ []) → EachBehind R ds × AllByRecursion (λ e. R e d) ds
behind_last R [] d h = (tt, tt)
behind_last R (e ∷ ds) d h =
    let r = behind_last R ds d h.1 in
    let p = all_parts (R e) ds (d ∷ []) h.0 in
    ((p.0, r.0), (p.1.0, r.1))

put_behind : (R : Done → Done → Type 0) (front back : List Done) (d : Done) → AllByRecursion (λ x. (x.reader && d.reader) ≡ true) back → AllByRecursion (λ e. R e d) (front ++ back) → EachBehind (λ d e. (d.reader && e.reader) ≡ false → R d e) (front ++ back) → EachBehind (λ d e. (d.reader && e.reader) ≡ false → R d e) (front ++ d ∷ back)
put_behind R [] back d r k h = (weaker (λ x. (x.reader && d.reader) ≡ true) (λ e. (d.reader && e.reader) ≡ false → R d e) back (λ x q n. absurd (true≢false (sym (swapped x.reader d.reader q) ∙ n))) r, h)
  where
    swapped : (b c : Bool) → (b && c) ≡ true → (c && b) ≡ true
    swapped true true q = refl
    swapped true false q = q
    swapped false true q = q
    swapped false false q = q
put_behind R (x ∷ front) back d r k h =
    let p = all_parts (λ e. (x.reader && e.reader) ≡ false → R x e) front back h.0 in
    (all_join (λ e. (x.reader && e.reader) ≡ false → R x e) front (d ∷ back) p.0 ((λ n. k.0), p.1), put_behind R front back d r k.1 h.1)

pub shuffled_behind : (R : Done → Done → Type 0) (cs us : List Done) → Shuffled cs us → EachBehind R us → EachBehind (λ d e. (d.reader && e.reader) ≡ false → R d e) cs
shuffled_behind R cs us (Nobody c u i j) g = subst (EachBehind (λ d e. (d.reader && e.reader) ≡ false → R d e)) (sym i) tt
shuffled_behind R cs us (Put c u front back rest d i j r h) g =
    let l = behind_last R rest d (subst (EachBehind R) j g) in
    subst (EachBehind (λ d e. (d.reader && e.reader) ≡ false → R d e)) (sym i) (put_behind R front back d r (shuffled_all (λ e. R e d) (front ++ back) rest h l.1) (shuffled_behind R (front ++ back) rest h l.0))

cases_of : {C : Type 0} (w : Fixed C) (finish : C → List State → Alone) (s : Machine C) (h : History) → AllByRecursion (λ d. OwnPlace s.book.acts d.who d) h.committed → AllByRecursion BatchPlace h.committed → EachBehind OrdersRise h.committed
    → ((a : ℕ) → RivalsRise (visitors a h.committed)) → ((a : ℕ) → a < length w.text.opening.states → Shuffled (chain a h) (visitors a h.committed)) → CasesHold w finish s h
cases_of w finish s h own batches orders rise chains = record {
  own_places = own;
  batch_behind_act = λ a l. each_case BatchBehindAct P (λ d e p q b t k i j. batch_act s.book.acts d e p.0 q.0 (b (no_right d.reader (q.1 k j))) t k i j) (chain a h) (there a l) (risen a l);
  act_behind_batch = λ a l. each_case ActBehindBatch P (λ d e p q b k t i j. act_batch s.book.acts d e p.0 q.0 (b (no_left e.reader (p.1 k i))) k t i j) (chain a h) (there a l) (risen a l);
  act_behind_act = λ a l. behind_both (λ d e. (d.reader && e.reader) ≡ false → first_number_of d ≤ first_number_of e) (λ d e. (d.reader && e.reader) ≡ false → OrdersRise d e) ActBehindAct (chain a h) (λ d e i j t u p q n. (i n, j n t u p q))
      (each_case (λ d e. (d.reader && e.reader) ≡ false → first_number_of d ≤ first_number_of e) P (λ d e p q b n. not_lower d e (b n)) (chain a h) (there a l) (risen a l))
      (shuffled_behind OrdersRise (chain a h) (visitors a h.committed) (chains a l) (behind_filter OrdersRise (visits a) h.committed orders));
  batch_behind_batch = λ a l. each_case BatchBehindBatch P (λ d e p q b j k i g. batch_batch s.book.acts d e p.0 q.0 (b (no_left e.reader (p.1 j i))) j k i g) (chain a h) (there a l) (risen a l);
}
  where
    P : Done → Type 0
    P d = OwnPlace s.book.acts d.who d × ((k : ℕ) → d.who ≡ OfBatch k → d.reader ≡ false)

    no_left : {c : Bool} (b : Bool) → c ≡ false → (c && b) ≡ false
    no_left b e = rw e refl

    no_right : {b : Bool} (c : Bool) → b ≡ false → (c && b) ≡ false
    no_right true e = e
    no_right false e = refl

    both : AllByRecursion P h.committed
    both = both_all (λ d. OwnPlace s.book.acts d.who d) BatchPlace P h.committed (λ d p q. (p, λ k e. (q k e).1)) own batches

    there : (a : ℕ) → a < length w.text.opening.states → AllByRecursion P (chain a h)
    there a l = shuffled_all P (chain a h) (visitors a h.committed) (chains a l) (all_filter P (visits a) h.committed both)

    risen : (a : ℕ) → a < length w.text.opening.states → RivalsRise (chain a h)
    risen a l = shuffled_rise (chain a h) (visitors a h.committed) (chains a l) (rise a)

pub cases_hold : {C : Type 0} → AfterEveryRunWithHistory (CasesHold {C = C})
cases_hold {C} w finish es f t run = by es run (length w.text.opening.states) refl
  where
    by : (es : List Event) → IsRun w es → (n : ℕ) → length w.text.opening.states ≡ n → CasesHold w finish (reached w es) (history w es)
    by es run (suc n) l =
        let Of : Tx → C → Type 0 = IsRest w.code (IsTxIn w.text) in
        let v : Given w Of finish = record { text = t; actors = omega (arith, l); facts = f } in
        let o = orders_rise w Of finish es v run in
        cases_of w finish (reached w es) (history w es) (own_places (reached w es) (history w es) (all_good w Of finish es v run).from o.batches) o.batches o.rise (places_rise w Of finish es v run) (facts_hold w Of finish es v run).chains
    by [] run zero l = record { own_places = tt; batch_behind_act = λ a k. tt; act_behind_batch = λ a k. tt; act_behind_act = λ a k. tt; batch_behind_batch = λ a k. tt }
    by (e ∷ es) run zero l = absurd (none_allowed w e t l run.0)
