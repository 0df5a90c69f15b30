-- A transaction is in one place, so its verdict is what that place says.
use Rattle.std.specs.Prelude.{◌≡◌, refl, ℕ, ◌+◌, ◌≤◌, ◌==◌, nat_lt, nat_le, Bool, true, false, ◌&&◌, ◌⊎◌, if◌then◌else◌, Option, Some, None, List, [], ◌∷◌, ◌++◌, map}
use Rattle.std.proofs.Common.{arith, sym, ap, subst, inl, inr, ◌∙◌}
use Rattle.std.proofs.lemmas.Bool.{true≢false, eqb-true, eqb-false, eq-eqb, ne_eqb}
use Rattle.snap_base.specs.declared.verdicts.Verdict.{Verdict}
use Rattle.protocol.specs.Fixed.{Fixed}
use Rattle.protocol.specs.Parts.{Act, Pact, Batch, Cascade, Machine}
use Rattle.protocol.specs.Words.{act_of, batch_of}
use Rattle.protocol.specs.Verdicts.{verdict, verdict_of_pact, verdict_of_act, verdict_in_batch, act_verdict, or_else}
use Rattle.protocol.specs.Numbers.{flat, times, one_if, TransactionsInOnePlace}
use Rattle.protocol_laws.proofs.first.Times
use Rattle.protocol_laws.proofs.first.SettlingKept as settling
use Rattle.protocol_laws.proofs.first.SettlingKeys as keys
use Rattle.protocol_laws.proofs.first.PairsFound.{Ascend, TidsAscend, further}
use Rattle.protocol_verdicts.proofs.evidence.EvidenceActs as acts
use Rattle.protocol_verdicts.proofs.evidence.EvidencePacts as pacts
use Rattle.protocol_verdicts.proofs.evidence.EvidencePacts.{named, tells, in_batch}
use Rattle.protocol_laws.proofs.first.Controls.{at_most_one}

-- ---- how often a transaction is there

abbrev pub in_acts : ℕ → List Act → ℕ
in_acts n xs = times n (map (λ x. x.tx) xs)

abbrev pub in_pacts : ℕ → List Pact → ℕ
in_pacts n ps = times n (map (λ p. p.tx) ps)

abbrev pub in_batches : ℕ → List Batch → ℕ
in_batches n bs = times n (flat (map (λ b. map (λ p. p.tx) b.pacts) bs))

abbrev pub IsOnce : {C : Type 0} → ℕ → Machine C → Type 0
IsOnce n s = in_batches n s.desk.batches + in_acts n s.book.acts ≤ 1

pub is_once : {C : Type 0} (w : Fixed C) (s : Machine C) (n : ℕ) → TransactionsInOnePlace w s → IsOnce n s
is_once w s n h =
    let b = map (λ b. map (λ p. p.tx) b.pacts) s.desk.batches in
    let a = map (λ x. x.tx) s.book.acts in
    omega (arith, h n, at_most_one (nat_le 0 n && nat_lt n s.ring.next_tx), Times.times_append n (flat s.ring.pacts ++ flat s.ring.acts) (flat b ++ a), Times.times_append n (flat b) a)

one_there : (b : Bool) → b ≡ true → one_if b ≡ 1
one_there true e = refl
one_there false e = absurd (true≢false (sym e))

here : (n x : ℕ) (xs : List ℕ) → x ≡ n → times n (x ∷ xs) ≡ 1 + times n xs
here n x xs e = omega (arith, Times.times_cons n x xs, one_there (x == n) (eq-eqb x n e))

-- ---- ACTs

pub act_there : (n t : ℕ) (x : Act) (xs : List Act) → act_of t xs ≡ Some x → x.tx ≡ n → 1 ≤ in_acts n xs
act_there n t x [] e i = absurd (cc e)
act_there n t x (y ∷ ys) e i = by (y.tid == t) e (act_there n t x ys)
  where
    by : (b : Bool) → (if b then Some y else act_of t ys) ≡ Some x → (act_of t ys ≡ Some x → x.tx ≡ n → 1 ≤ in_acts n ys) → 1 ≤ in_acts n (y ∷ ys)
    by true e r = let j : y ≡ x = cc e in omega (arith, here n y.tx (map (λ x. x.tx) ys) (ap (λ z. z.tx) j ∙ i))
    by false e r = omega (arith, r e i, Times.times_cons n y.tx (map (λ x. x.tx) ys))

pub acts_none : (n : ℕ) (xs : List Act) → in_acts n xs ≡ 0 → verdict_of_act n xs ≡ None
acts_none n [] e = refl
acts_none n (x ∷ xs) e = by (x.tx == n) refl (acts_none n xs)
  where
    by : (b : Bool) → (x.tx == n) ≡ b → (in_acts n xs ≡ 0 → verdict_of_act n xs ≡ None) → (if b then act_verdict x.status x.m x.result else verdict_of_act n xs) ≡ None
    by true f r = absurd (omega (arith, e, here n x.tx (map (λ x. x.tx) xs) (eqb-true x.tx n f)))
    by false f r = r (omega (arith, e, Times.times_cons n x.tx (map (λ x. x.tx) xs)))

pub act_tells : (n t : ℕ) (x : Act) (xs : List Act) → in_acts n xs ≤ 1 → act_of t xs ≡ Some x → x.tx ≡ n → verdict_of_act n xs ≡ acts.said x
act_tells n t x [] o e i = absurd (cc e)
act_tells n t x (y ∷ ys) o e i = by (y.tid == t) (y.tx == n) refl e (act_tells n t x ys)
  where
    by : (b q : Bool) → (y.tx == n) ≡ q → (if b then Some y else act_of t ys) ≡ Some x → (in_acts n ys ≤ 1 → act_of t ys ≡ Some x → x.tx ≡ n → verdict_of_act n ys ≡ acts.said x) → (if q then acts.said y else verdict_of_act n ys) ≡ acts.said x
    by true true f e r = let j : y ≡ x = cc e in ap acts.said j
    by true false f e r = let j : y ≡ x = cc e in absurd (eqb-false y.tx n f (ap (λ z. z.tx) j ∙ i))
    by false true f e r = absurd (omega (arith, o, here n y.tx (map (λ x. x.tx) ys) (eqb-true y.tx n f), act_there n t x ys e i))
    by false false f e r = r (omega (arith, o, Times.times_cons n y.tx (map (λ x. x.tx) ys))) e i

pub record ActSays (n : ℕ) (v : Verdict) (xs : List Act) : Type 0 where
  pub tid : ℕ
  pub act : Act
  pub found : act_of tid xs ≡ Some act
  pub tx : act.tx ≡ n
  pub says : acts.said act ≡ Some v

pub act_says : (low high n : ℕ) (v : Verdict) (xs : List Act) → Ascend low high (map (λ x. x.tid) xs) → verdict_of_act n xs ≡ Some v → ActSays n v xs
unfolding Ascend
act_says low high n v [] a e = absurd (cc e)
act_says low high n v (x ∷ xs) a e = by (x.tx == n) refl e (act_says (x.tid + 1) high n v xs a.1)
  where
    first : (x.tid == x.tid) ≡ true → act_of x.tid (x ∷ xs) ≡ Some x
    first e = rw e refl

    later : (t : ℕ) (y : Act) → act_of t xs ≡ Some y → (x.tid == t) ≡ false → act_of t (x ∷ xs) ≡ Some y
    later t y e q = rw q e

    by : (q : Bool) → (x.tx == n) ≡ q → (if q then acts.said x else verdict_of_act n xs) ≡ Some v → (verdict_of_act n xs ≡ Some v → ActSays n v xs) → ActSays n v (x ∷ xs)
    by true f e r = record { tid = x.tid; act = x; found = first (eq-eqb x.tid x.tid refl); tx = eqb-true x.tx n f; says = e }
    by false f e r = let g = r e in record { tid = g.tid; act = g.act; found = later g.tid g.act g.found (ne_eqb x.tid g.tid (λ q. omega (arith, q, further (x.tid + 1) high g.tid xs g.act a.1 g.found))); tx = g.tx; says = g.says }

-- ---- PACTs

pub named_there : (n : ℕ) (p : Pact) (ps : List Pact) → named n ps ≡ Some p → 1 ≤ in_pacts n ps
named_there n p [] e = absurd (cc e)
named_there n p (q ∷ ps) e = by (q.tx == n) refl e (named_there n p ps)
  where
    by : (b : Bool) → (q.tx == n) ≡ b → (if b then Some q else named n ps) ≡ Some p → (named n ps ≡ Some p → 1 ≤ in_pacts n ps) → 1 ≤ in_pacts n (q ∷ ps)
    by true f e r = omega (arith, here n q.tx (map (λ p. p.tx) ps) (eqb-true q.tx n f))
    by false f e r = omega (arith, r e, Times.times_cons n q.tx (map (λ p. p.tx) ps))

named_none : (n : ℕ) (ps : List Pact) → in_pacts n ps ≡ 0 → named n ps ≡ None
named_none n [] e = refl
named_none n (q ∷ ps) e = by (q.tx == n) refl (named_none n ps)
  where
    by : (b : Bool) → (q.tx == n) ≡ b → (in_pacts n ps ≡ 0 → named n ps ≡ None) → (if b then Some q else named n ps) ≡ None
    by true f r = absurd (omega (arith, e, here n q.tx (map (λ p. p.tx) ps) (eqb-true q.tx n f)))
    by false f r = r (omega (arith, e, Times.times_cons n q.tx (map (λ p. p.tx) ps)))

in_both : (n : ℕ) (b : Batch) (bs : List Batch) → in_batches n (b ∷ bs) ≡ in_pacts n b.pacts + in_batches n bs
in_both n b bs = Times.times_append n (map (λ p. p.tx) b.pacts) (flat (map (λ b. map (λ p. p.tx) b.pacts) bs))

pub batch_there : (n k : ℕ) (b : Batch) (p : Pact) (bs : List Batch) → batch_of k bs ≡ Some b → named n b.pacts ≡ Some p → 1 ≤ in_batches n bs
batch_there n k b p [] e m = absurd (cc e)
batch_there n k b p (x ∷ xs) e m = by (x.bid == k) e (batch_there n k b p xs)
  where
    by : (q : Bool) → (if q then Some x else batch_of k xs) ≡ Some b → (batch_of k xs ≡ Some b → named n b.pacts ≡ Some p → 1 ≤ in_batches n xs) → 1 ≤ in_batches n (x ∷ xs)
    by true e r = let j : x ≡ b = cc e in omega (arith, in_both n x xs, named_there n p x.pacts (subst (λ z. named n z.pacts ≡ Some p) (sym j) m))
    by false e r = omega (arith, in_both n x xs, r e m)

said_none : (cascades : List Cascade) (n : ℕ) (b : Batch) → in_pacts n b.pacts ≡ 0 → pacts.said cascades n b ≡ None
said_none cascades n b e = ap (tells cascades b) (named_none n b.pacts e)

pub batches_none : (cascades : List Cascade) (n : ℕ) (bs : List Batch) → in_batches n bs ≡ 0 → verdict_of_pact cascades n bs ≡ None
batches_none cascades n [] e = refl
batches_none cascades n (b ∷ bs) e =
    ap (λ o. or_else o (verdict_of_pact cascades n bs)) (in_batch cascades n b b.pacts ∙ said_none cascades n b (omega (arith, e, in_both n b bs))) ∙ batches_none cascades n bs (omega (arith, e, in_both n b bs))

or_none : {X : Type 0} (o : Option X) → or_else o None ≡ o
or_none None = refl
or_none (Some x) = refl

pub batch_tells : (cascades : List Cascade) (n k : ℕ) (b : Batch) (p : Pact) (bs : List Batch) → in_batches n bs ≤ 1 → batch_of k bs ≡ Some b → named n b.pacts ≡ Some p → verdict_of_pact cascades n bs ≡ pacts.said cascades n b
batch_tells cascades n k b p [] o e m = absurd (cc e)
batch_tells cascades n k b p (x ∷ xs) o e m = by (x.bid == k) e (batch_tells cascades n k b p xs)
  where
    by : (q : Bool) → (if q then Some x else batch_of k xs) ≡ Some b → (in_batches n xs ≤ 1 → batch_of k xs ≡ Some b → named n b.pacts ≡ Some p → verdict_of_pact cascades n xs ≡ pacts.said cascades n b)
        → or_else (verdict_in_batch cascades n x x.pacts) (verdict_of_pact cascades n xs) ≡ pacts.said cascades n b
    by true e r =
        let j : x ≡ b = cc e in
        let rest = batches_none cascades n xs (omega (arith, o, in_both n x xs, named_there n p x.pacts (subst (λ z. named n z.pacts ≡ Some p) (sym j) m))) in
        ap (λ z. or_else (verdict_in_batch cascades n x x.pacts) z) rest ∙ (or_none (verdict_in_batch cascades n x x.pacts) ∙ (in_batch cascades n x x.pacts ∙ ap (pacts.said cascades n) j))
    by false e r =
        let none = said_none cascades n x (omega (arith, o, in_both n x xs, batch_there n k b p xs e m)) in
        ap (λ z. or_else z (verdict_of_pact cascades n xs)) (in_batch cascades n x x.pacts ∙ none) ∙ r (omega (arith, o, in_both n x xs)) e m

pub record PactSays (cascades : List Cascade) (n : ℕ) (v : Verdict) (bs : List Batch) : Type 0 where
  pub bid : ℕ
  pub batch : Batch
  pub pact : Pact
  pub found : batch_of bid bs ≡ Some batch
  pub is_named : named n batch.pacts ≡ Some pact
  pub says : pacts.said cascades n batch ≡ Some v

pub is_there : (cascades : List Cascade) (n : ℕ) (v : Verdict) (b : Batch) → pacts.said cascades n b ≡ Some v → (p : Pact) × (named n b.pacts ≡ Some p)
is_there cascades n v b e = by (named n b.pacts) refl e
  where
    by : (o : Option Pact) → named n b.pacts ≡ o → tells cascades b o ≡ Some v → (p : Pact) × (named n b.pacts ≡ Some p)
    by None f e = absurd (cc e)
    by (Some p) f e = (p, f)

pub pact_says : (cascades : List Cascade) (low high n : ℕ) (v : Verdict) (bs : List Batch) → keys.Rises low high (map settling.key_of bs) → verdict_of_pact cascades n bs ≡ Some v → PactSays cascades n v bs
unfolding keys.Rises
pact_says cascades low high n v [] r e = absurd (cc e)
pact_says cascades low high n v (b ∷ bs) r e = by (verdict_in_batch cascades n b b.pacts) refl e (pact_says cascades (b.bid + 1) high n v bs r.1)
  where
    first : (b.bid == b.bid) ≡ true → batch_of b.bid (b ∷ bs) ≡ Some b
    first e = rw e refl

    later : (k : ℕ) (y : Batch) → batch_of k bs ≡ Some y → (b.bid == k) ≡ false → batch_of k (b ∷ bs) ≡ Some y
    later k y e q = rw q e

    above : (k : ℕ) (y : Batch) → batch_of k bs ≡ Some y → b.bid + 1 ≤ k
    above k y e = let g = settling.in_keys y (λ z. z.bid == k) bs e in omega (arith, (keys.rises_within (b.bid + 1) high (settling.key_of y) (map settling.key_of bs) r.1 g.0).0, eqb-true y.bid k g.1)

    by : (o : Option Verdict) → verdict_in_batch cascades n b b.pacts ≡ o → or_else o (verdict_of_pact cascades n bs) ≡ Some v → (verdict_of_pact cascades n bs ≡ Some v → PactSays cascades n v bs) → PactSays cascades n v (b ∷ bs)
    by None f e k = let g = k e in record { bid = g.bid; batch = g.batch; pact = g.pact; found = later g.bid g.batch g.found (ne_eqb b.bid g.bid (λ q. omega (arith, q, above g.bid g.batch g.found))); is_named = g.is_named; says = g.says }
    by (Some u) f e k =
        let s : pacts.said cascades n b ≡ Some v = sym (in_batch cascades n b b.pacts) ∙ (f ∙ e) in
        let p = is_there cascades n v b s in
        record { bid = b.bid; batch = b; pact = p.0; found = first (eq-eqb b.bid b.bid refl); is_named = p.1; says = s }

-- ---- states

abbrev pub Speaks : {C : Type 0} → ℕ → Verdict → Machine C → Type 0
Speaks n v s = PactSays s.book.cascades n v s.desk.batches ⊎ ActSays n v s.book.acts

pub speaks : {C : Type 0} (w : Fixed C) (n : ℕ) (v : Verdict) (s : Machine C) → TidsAscend s → settling.Settling w s → verdict n s.book s.desk ≡ Some v → Speaks n v s
unfolding TidsAscend settling.Settling
speaks w n v s a g e = by (verdict_of_pact s.book.cascades n s.desk.batches) refl e
  where
    by : (o : Option Verdict) → verdict_of_pact s.book.cascades n s.desk.batches ≡ o → or_else o (verdict_of_act n s.book.acts) ≡ Some v → Speaks n v s
    by None f e = inr (act_says 0 s.ring.next_tid n v s.book.acts a e)
    by (Some u) f e = inl (pact_says s.book.cascades w.text.opening.next_bid s.ring.next_bid n v s.desk.batches g.rises (f ∙ e))

pub by_act : {C : Type 0} (s : Machine C) (n t : ℕ) (x : Act) → IsOnce n s → act_of t s.book.acts ≡ Some x → x.tx ≡ n → verdict n s.book s.desk ≡ acts.said x
by_act s n t x o f i =
    ap (λ z. or_else z (verdict_of_act n s.book.acts)) (batches_none s.book.cascades n s.desk.batches (omega (arith, o, act_there n t x s.book.acts f i))) ∙ act_tells n t x s.book.acts (omega (arith, o)) f i

pub by_pact : {C : Type 0} (s : Machine C) (n k : ℕ) (b : Batch) (p : Pact) → IsOnce n s → batch_of k s.desk.batches ≡ Some b → named n b.pacts ≡ Some p → verdict n s.book s.desk ≡ pacts.said s.book.cascades n b
by_pact s n k b p o f m =
    ap (λ z. or_else (verdict_of_pact s.book.cascades n s.desk.batches) z) (acts_none n s.book.acts (omega (arith, o, batch_there n k b p s.desk.batches f m)))
    ∙ (or_none (verdict_of_pact s.book.cascades n s.desk.batches) ∙ batch_tells s.book.cascades n k b p s.desk.batches (omega (arith, o)) f m)

pub spoken : {C : Type 0} (n : ℕ) (v : Verdict) (s : Machine C) → IsOnce n s → Speaks n v s → verdict n s.book s.desk ≡ Some v
spoken n v s o (inl p) = by_pact s n p.bid p.batch p.pact o p.found p.is_named ∙ p.says
spoken n v s o (inr a) = by_act s n a.tid a.act o a.found a.tx ∙ a.says
