-- What gives a verdict, event by event: a verdict stays, a new one has its row, and each row gives its verdict.
use Rattle.std.specs.Prelude.{◌≡◌, refl, ℕ, ◌<◌, ◌≤◌, ◌==◌, nat_lt, min, Bool, true, false, ◌⊎◌, if◌then◌else◌, Option, Some, None, is_some, List, [], ◌∷◌, ◌++◌, map}
use Rattle.std.specs.List.{AllByRecursion}
use Rattle.std.proofs.Common.{arith, sym, ap, subst, inl, inr, ◌∙◌}
use Rattle.std.proofs.lemmas.Bool.{true≢false, ltb-true, ltb-false, eq-eqb, or_left, or_right, cases_lt}
use Rattle.snap_base.specs.declared.transactions.State.{State}
use Rattle.snap_base.specs.declared.transactions.Tx.{Tx}
use Rattle.snap_base.specs.declared.transactions.TxResult.{TxResult}
use Rattle.snap_base.specs.declared.transactions.TxResult.TheVariants.{Value, Fail}
use Rattle.snap_base.specs.declared.verdicts.Verdict.{Verdict}
use Rattle.snap_base.specs.declared.verdicts.Verdict.TheVariants as verdicts
use Rattle.snap_base.proofs.Options.{somebody}
use Rattle.protocol.specs.Fixed.{Fixed}
use Rattle.protocol.specs.Facts.{Alone}
use Rattle.protocol.specs.Rivals.{Lock}
use Rattle.protocol.specs.Parts.{Act, Pact, Batch, Machine}
use Rattle.protocol.specs.Events.{Event, Abort}
use Rattle.protocol.specs.Words.{holds, is_among, is_value, act_of, batch_of, least_of, least_older, first_failed, Failure, lock_of, rivals_in_tail}
use Rattle.protocol.specs.Verdicts.{verdict}
use Rattle.protocol.specs.Conditions.{IsAllowed, conditions}
use Rattle.protocol.specs.Effects.{after, cell_at}
use Rattle.protocol.specs.OnBook as book
use Rattle.protocol.specs.OnBook.{in_the_way, why, failed_tx, failed_code}
use Rattle.protocol.specs.History.{History}
use Rattle.protocol_verdicts.specs.Evidence.{IsLeast, Fails, Gives}
use Rattle.protocol_laws.specs.Told.{EachAct}
use Rattle.protocol_laws.proofs.first.Lists.{weaker}
use Rattle.protocol_laws.proofs.machine.TurnsKept.{one_is}
use Rattle.protocol_laws.proofs.first.SettlingKept as settling
use Rattle.protocol_laws.proofs.first.PairsFound.{TidsAscend}
use Rattle.protocol_laws.proofs.machine.QueuedKept.{in_book}
use Rattle.protocol_laws.proofs.machine.FromDeskKept.{desk_stays}
use Rattle.protocol_laws.proofs.machine.Higher.{asks_live}
use Rattle.protocol_laws.proofs.machine.AllGood.{AllGood}
use Rattle.protocol_theorems.proofs.sets.AfterSets.{among_all}
use Rattle.protocol_verdicts.proofs.evidence.EvidenceActs as acts
use Rattle.protocol_verdicts.proofs.evidence.EvidenceActs.{DecidedHaveValues}
use Rattle.protocol_verdicts.proofs.evidence.EvidencePacts as pacts
use Rattle.protocol_verdicts.proofs.evidence.EvidencePacts.{BatchesHaveValues, named, Values}
use Rattle.protocol_verdicts.proofs.evidence.EvidenceSaid.{IsOnce, Speaks, ActSays, PactSays, speaks, spoken, by_act, by_pact}

-- ---- the least that is older

abbrev pub Spec : ℕ → List ℕ → Option ℕ → Type 0
Spec t ns None = AllByRecursion (λ k. t ≤ k) ns
Spec t ns (Some u) = IsLeast u ns × (u < t)

pub least_is : (t : ℕ) (xs : List Lock) → Spec t (map (λ x. x.tid) xs) (least_older t xs)
least_is t [] = tt
least_is t (x ∷ xs) = by (nat_lt x.tid t) refl (least_older t xs) (least_is t xs)
  where
    first : (ns : List ℕ) → is_among x.tid (x.tid ∷ ns) ≡ true
    first ns = or_left (x.tid == x.tid) (is_among x.tid ns) (eq-eqb x.tid x.tid refl)

    least : (u : ℕ) (ns : List ℕ) → IsLeast u ns → IsLeast (min x.tid u) (x.tid ∷ ns)
    least u ns h = pick (cases_lt u x.tid)
      where
        pick : (u < x.tid) ⊎ (x.tid ≤ u) → IsLeast (min x.tid u) (x.tid ∷ ns)
        pick (inl l) = let e : u ≡ min x.tid u = omega (arith, l) in subst (λ z. IsLeast z (x.tid ∷ ns)) e (record { is_there = or_right (x.tid == u) (is_among u ns) h.is_there; least = (omega (arith, l), h.least) })
        pick (inr l) = let e : x.tid ≡ min x.tid u = omega (arith, l) in subst (λ z. IsLeast z (x.tid ∷ ns)) e (record { is_there = first ns; least = (omega arith, weaker (λ k. u ≤ k) (λ k. x.tid ≤ k) ns (λ k g. omega (arith, g, l)) h.least) })

    by : (b : Bool) → nat_lt x.tid t ≡ b → (o : Option ℕ) → Spec t (map (λ x. x.tid) xs) o → Spec t (x.tid ∷ map (λ x. x.tid) xs) (if b then Some (least_of x.tid o) else o)
    by true e None h = let l = ltb-true x.tid t e in (record { is_there = first (map (λ x. x.tid) xs); least = (omega arith, weaker (λ k. t ≤ k) (λ k. x.tid ≤ k) (map (λ x. x.tid) xs) (λ k g. omega (arith, g, l)) h) }, l)
    by true e (Some u) h = (least u (map (λ x. x.tid) xs) h.0, omega (arith, ltb-true x.tid t e))
    by false e None h = (ltb-false x.tid t e, h)
    by false e (Some u) h = (record { is_there = or_right (x.tid == u) (is_among u (map (λ x. x.tid) xs)) h.0.is_there; least = (omega (arith, ltb-false x.tid t e, h.1), h.0.least) }, h.1)

one_least : (t u : ℕ) (ns : List ℕ) (o : Option ℕ) → Spec t ns o → IsLeast u ns → u < t → o ≡ Some u
one_least t u ns None h g l = absurd (omega (arith, l, among_all (λ k. t ≤ k) u ns g.is_there h))
one_least t u ns (Some v) h g l = let e : v ≡ u = omega (arith, among_all (λ k. u ≤ k) v ns h.0.is_there g.least, among_all (λ k. v ≤ k) u ns g.is_there h.0.least) in ap Some e

in_way : {C : Type 0} (s : Machine C) (t a u : ℕ) → in_the_way (lock_of t s.book.acts) (cell_at s a).entries ≡ Some u → IsLeast u (map (λ x. x.tid) (rivals_in_tail (lock_of t s.book.acts) (cell_at s a).entries)) × (u < t)
in_way s t a u e = subst (Spec t (map (λ x. x.tid) (rivals_in_tail (lock_of t s.book.acts) (cell_at s a).entries))) e (least_is t (rivals_in_tail (lock_of t s.book.acts) (cell_at s a).entries))

pub in_way_back : {C : Type 0} (s : Machine C) (t a u : ℕ) → IsLeast u (map (λ x. x.tid) (rivals_in_tail (lock_of t s.book.acts) (cell_at s a).entries)) → u < t → in_the_way (lock_of t s.book.acts) (cell_at s a).entries ≡ Some u
in_way_back s t a u h l = one_least t u _ (least_older t (rivals_in_tail (lock_of t s.book.acts) (cell_at s a).entries)) (least_is t (rivals_in_tail (lock_of t s.book.acts) (cell_at s a).entries)) h l

-- ---- the first that failed

record Split (ps : List Pact) (f : Failure) : Type 0 where
  pub pact : Pact
  pub front : List Pact
  pub rest : List Pact
  pub splits : ps ≡ front ++ pact ∷ rest
  pub values : Values front
  pub fails : pact.result ≡ Some (Fail f.code)
  pub tx : pact.tx ≡ f.tx

split_failed : (ps : List Pact) (f : Failure) → first_failed ps ≡ Some f → Split ps f
split_failed [] f e = absurd (cc e)
split_failed (p ∷ ps) f e = by p.result refl e (split_failed ps f)
  where
    by : (r : Option TxResult) → p.result ≡ r → elim r [ None ↦ None | Some (Value v) ↦ first_failed ps | Some (Fail code) ↦ Some (record { tx = p.tx; code = code }) ] ≡ Some f → (first_failed ps ≡ Some f → Split ps f) → Split (p ∷ ps) f
    by None i e k = absurd (cc e)
    by (Some (Value v)) i e k = let g = k e in record { pact = g.pact; front = p ∷ g.front; rest = g.rest; splits = ap (λ l. p ∷ l) g.splits; values = (ap is_value i, g.values); fails = g.fails; tx = g.tx }
    by (Some (Fail c)) i e k = let j : record { tx = p.tx; code = c } ≡ f = cc e in record { pact = p; front = []; rest = ps; splits = refl; values = tt; fails = i ∙ ap (λ z. Some (Fail z.code)) j; tx = ap (λ z. z.tx) j }

failed_split : (ps front rest : List Pact) (p : Pact) (c : ℕ) → ps ≡ front ++ p ∷ rest → Values front → p.result ≡ Some (Fail c) → first_failed ps ≡ Some (record { tx = p.tx; code = c })
failed_split ps front rest p c e v r = ap first_failed e ∙ go front v
  where
    value : (q : Pact) (qs : List Pact) (o : Option TxResult) → is_value o ≡ true → ◌≡◌ {A = Option Failure} (elim o [ None ↦ None | Some (Value v) ↦ first_failed qs | Some (Fail code) ↦ Some (record { tx = q.tx; code = code }) ]) (first_failed qs)
    value q qs None e = absurd (true≢false (sym e))
    value q qs (Some (Value v)) e = refl
    value q qs (Some (Fail c)) e = absurd (true≢false (sym e))

    own : (o : Option TxResult) → o ≡ Some (Fail c) → ◌≡◌ {A = Option Failure} (elim o [ None ↦ None | Some (Value v) ↦ first_failed rest | Some (Fail code) ↦ Some (record { tx = p.tx; code = code }) ]) (Some (record { tx = p.tx; code = c }))
    own o e = rw e refl

    go : (front : List Pact) → Values front → first_failed (front ++ p ∷ rest) ≡ Some (record { tx = p.tx; code = c })
    go [] v = own p.result r
    go (q ∷ qs) v = value q (qs ++ p ∷ rest) q.result v.0 ∙ go qs v.1

-- who fails at an Abort
failing : {C : Type 0} (w : Fixed C) (k : ℕ) (s : Machine C) → IsAllowed w (Abort k) s → Fails (failed_tx (why k s.desk)) k s.book.next_c (failed_code (why k s.desk)) (Abort k) s
unfolding conditions
failing w k s ok =
    let b = one_is (λ b. is_some (first_failed b.pacts)) (batch_of k s.desk.batches) ok.1.0 in
    by b.0 b.1 (first_failed b.0.pacts) refl b.2
  where
    by : (b : Batch) → batch_of k s.desk.batches ≡ Some b → (o : Option Failure) → first_failed b.pacts ≡ o → is_some o ≡ true → Fails (failed_tx (why k s.desk)) k s.book.next_c (failed_code (why k s.desk)) (Abort k) s
    by b e None f i = absurd (true≢false (sym i))
    by b e (Some x) f i =
        let g = split_failed b.pacts x f in
        let y : why k s.desk ≡ Some x = ap book.failure_of e ∙ f in
        record { batch = b; pact = g.pact; front = g.front; rest = g.rest; event = refl; found = e; splits = g.splits; values = g.values; fails = g.fails ∙ ap (λ o. Some (Fail (failed_code o))) (sym y); tx = g.tx ∙ ap failed_tx (sym y); next_c = refl }

pub why_is : {C : Type 0} (n k c code : ℕ) (e : Event) (s : Machine C) → Fails n k c code e s → why k s.desk ≡ Some (record { tx = n; code = code })
why_is n k c code e s r = ap book.failure_of r.found ∙ (failed_split r.batch.pacts r.front r.rest r.pact code r.splits r.values r.fails ∙ ap (λ z. Some (record { tx = z; code = code })) r.tx)

-- ---- what is carried

pub record Informed {C : Type 0} (w : Fixed C) (Of : Tx → C → Type 0) (finish : C → List State → Alone) (s : Machine C) (h : History) : Type 0 where
  pub good : AllGood w Of finish s h
  pub tids : TidsAscend s
  pub decided : DecidedHaveValues s
  pub valued : BatchesHaveValues s
  pub once : (n : ℕ) → IsOnce n s

-- ---- from causes to rows

act_row : {C : Type 0} (w : Fixed C) (n t : ℕ) (x y : Act) (e : Event) (s : Machine C) (v : Verdict) → IsAllowed w e s → act_of t s.book.acts ≡ Some x → x.tx ≡ n → act_of t (after w e s).book.acts ≡ Some y → acts.Cause t x y e s v → Gives w n v e s
act_row w n t x y e s (verdicts.Committed p v) ok f i g c = inl (record { tid = t; act = x; c = c.0; event = c.1.0; is_act = record { found = f; tx = i }; decided = c.1.1.0; result = c.1.1.1.0; place = c.1.1.1.1 })
act_row w n t x y e s (verdicts.Code p k) ok f i g c = record { tid = t; act = x; event = c.0; is_act = record { found = f; tx = i }; live = c.1.0; result = c.1.1.0; place = c.1.1.1 }
act_row w n t x y e s (verdicts.BatchCode k d code) ok f i g c = absurd c
act_row w n t x y e s (verdicts.Cascade k by) ok f i g c = inl (record { tid = t; act = x; code = failed_code (why k.0 s.desk); failing = subst (λ z. Fails z k.0 s.book.next_c (failed_code (why k.0 s.desk)) e s) c.1.1.1 (subst (λ z. Fails (failed_tx (why k.0 s.desk)) k.0 s.book.next_c (failed_code (why k.0 s.desk)) z s) (sym c.0) (failing w k.0 s (subst (λ z. IsAllowed w z s) c.0 ok))); is_act = record { found = f; tx = i }; live = c.1.0; reached = c.1.1.0 })
act_row w n t x y e s (verdicts.Died a older own) ok f i g c =
    let q = in_way s own.0 a.0 older.0 c.1.1.1 in
    record { act = x; event = c.0; is_act = record { found = subst (λ z. act_of z s.book.acts ≡ Some x) (sym c.1.0) f; tx = i }; least = q.0; is_older = q.1 }
act_row w n t x y e s (verdicts.Order m k a) ok f i g c = record { tid = t; act = x; next = y; event = c.0; is_act = record { found = f; tx = i }; live = c.1.0; found = g; before_is = c.1.1.0; after_is = c.1.1.1.0; cross = c.1.1.1.1 }
act_row w n t x y e s (verdicts.Unsure l) ok f i g c = absurd c

pact_row : {C : Type 0} (w : Fixed C) (n k : ℕ) (b : Batch) (e : Event) (s : Machine C) (v : Verdict) → IsAllowed w e s → batch_of k s.desk.batches ≡ Some b → pacts.Cause n k b e s v → Gives w n v e s
pact_row w n k b e s (verdicts.Committed p v) ok f c = inr (record { bid = k; batch = b; pact = c.0; event = c.1.0; is_pact = record { found = f; named = c.1.1.0 }; result = c.1.1.1.0; place = c.1.1.1.1 })
pact_row w n k b e s (verdicts.Code p d) ok f c = absurd c
pact_row {C} w n k b e s (verdicts.BatchCode j d code) ok f c =
    subst (λ z. Fails z j.0 d code e s) c.1.0 (subst (λ z. Fails (failed_tx (why j.0 s.desk)) j.0 z code e s) c.1.1.0 (subst (λ z. Fails (failed_tx (why j.0 s.desk)) j.0 s.book.next_c z e s) c.1.1.1
    (subst (λ z. Fails (failed_tx (why j.0 s.desk)) j.0 s.book.next_c (failed_code (why j.0 s.desk)) z s) (sym c.0) (failing w j.0 s (subst (λ z. IsAllowed w z s) c.0 ok)))))
pact_row w n k b e s (verdicts.Cascade j by) ok f c = inr (record { bid = k; batch = b; pact = c.0; code = failed_code (why j.0 s.desk); failing = subst (λ z. Fails z j.0 s.book.next_c (failed_code (why j.0 s.desk)) e s) c.1.1.1.1.0 (subst (λ z. Fails (failed_tx (why j.0 s.desk)) j.0 s.book.next_c (failed_code (why j.0 s.desk)) z s) (sym c.1.0) (failing w j.0 s (subst (λ z. IsAllowed w z s) c.1.0 ok))); is_pact = record { found = f; named = c.1.1.0 }; reached = c.1.1.1.0; other = c.1.1.1.1.1 })
pact_row w n k b e s (verdicts.Died a older own) ok f c = absurd c
pact_row w n k b e s (verdicts.Order m j a) ok f c = absurd c
pact_row w n k b e s (verdicts.Unsure l) ok f c = absurd c

-- ---- one event

pub became_acts : {C : Type 0} (w : Fixed C) (Of : Tx → C → Type 0) (finish : C → List State → Alone) (e : Event) (s : Machine C) (h : History) → IsAllowed w e s → Informed w Of finish s h → EachAct (acts.Became e s) (after w e s).book.acts
became_acts w Of finish e s h ok g = acts.became w e s h ok (λ t a q. asks_live w Of finish t a s h (subst (λ z. IsAllowed w z s) q ok) g.good) g.good.none g.good.acts g.decided

pub became_batches : {C : Type 0} (w : Fixed C) (Of : Tx → C → Type 0) (finish : C → List State → Alone) (e : Event) (s : Machine C) (h : History) → IsAllowed w e s → Informed w Of finish s h → pacts.EachBatch (pacts.Became e s (after w e s).book.cascades) (after w e s).desk.batches
became_batches w Of finish e s h ok g = pacts.became w e s ok g.good.good.settling (settling.kept w e s ok g.good.good.settling) g.good.good.none g.valued

pub same_some : {X : Type 0} (o : Option X) (x y : X) → o ≡ Some x → o ≡ Some y → x ≡ y
same_some o x y e f = cc (sym e ∙ f)

pub none_some : {X : Type 0} (o : Option X) (x : X) → o ≡ None → o ≡ Some x → ⊥
none_some o x e f = cc (sym e ∙ f)

in_desk : {C : Type 0} (w : Fixed C) (e : Event) (s : Machine C) (k : ℕ) (b : Batch) → batch_of k s.desk.batches ≡ Some b → (c : Batch) × (batch_of k (after w e s).desk.batches ≡ Some c)
in_desk w e s k b f = let g = one_is (λ b. true) (batch_of k (after w e s).desk.batches) (desk_stays w e s (λ b. true) (record { places = λ b a f i h. refl; pacts = λ b t r h. refl; stage = λ b st h. refl; aborted = λ b v h. refl }) k (subst (λ o. holds (λ b. true) o ≡ true) (sym f) refl)) in (g.0, g.1)

pub stays : {C : Type 0} (w : Fixed C) (Of : Tx → C → Type 0) (finish : C → List State → Alone) (e : Event) (s : Machine C) (h : History) (n : ℕ) (v : Verdict) → IsAllowed w e s → Informed w Of finish s h → IsOnce n (after w e s)
    → verdict n s.book s.desk ≡ Some v → verdict n (after w e s).book (after w e s).desk ≡ Some v
stays w Of finish e s h n v ok g o q = spoken n v (after w e s) o (by (speaks w n v s g.tids g.good.good.settling q))
  where
    act : (a : ActSays n v s.book.acts) (y : Act) → act_of a.tid (after w e s).book.acts ≡ Some y → acts.Became e s a.tid y → Speaks n v (after w e s)
    act a y f (inl m) = let i = same_some (act_of a.tid s.book.acts) m.from a.act m.found a.found in inr (record { tid = a.tid; act = y; found = f; tx = m.moves.tx ∙ (ap (λ z. z.tx) i ∙ a.tx); says = m.moves.stays v (ap acts.said i ∙ a.says) })
    act a y f (inr m) = absurd (none_some (act_of a.tid s.book.acts) a.act m.fresh a.found)

    pact : (p : PactSays s.book.cascades n v s.desk.batches) (c : Batch) → batch_of p.bid (after w e s).desk.batches ≡ Some c → pacts.Became e s (after w e s).book.cascades p.bid c → Speaks n v (after w e s)
    pact p c f (inl m) =
        let i = same_some (batch_of p.bid s.desk.batches) m.from p.batch m.found p.found in
        let y = m.moves.stays n v (ap (pacts.said s.book.cascades n) i ∙ p.says) in
        let z = Rattle.protocol_verdicts.proofs.evidence.EvidenceSaid.is_there (after w e s).book.cascades n v c y in
        inl (record { bid = p.bid; batch = c; pact = z.0; found = f; is_named = z.1; says = y })
    pact p c f (inr m) = absurd (none_some (batch_of p.bid s.desk.batches) p.batch m.fresh p.found)

    by : Speaks n v s → Speaks n v (after w e s)
    by (inl p) = let c = in_desk w e s p.bid p.batch p.found in pact p c.0 c.1 (became_batches w Of finish e s h ok g p.bid c.0 c.1)
    by (inr a) = let y = somebody (act_of a.tid (after w e s).book.acts) (in_book w e s a.tid (ap is_some a.found)) in act a y.0 y.1 (became_acts w Of finish e s h ok g a.tid y.0 y.1)

pub cause : {C : Type 0} (w : Fixed C) (Of : Tx → C → Type 0) (finish : C → List State → Alone) (e : Event) (s : Machine C) (h : History) (n : ℕ) (v : Verdict) → IsAllowed w e s → Informed w Of finish s h → TidsAscend (after w e s)
    → verdict n s.book s.desk ≡ None → verdict n (after w e s).book (after w e s).desk ≡ Some v → Gives w n v e s
cause w Of finish e s h n v ok g a z q = by (speaks w n v (after w e s) a (settling.kept w e s ok g.good.good.settling) q)
  where
    act : (a : ActSays n v (after w e s).book.acts) → acts.Became e s a.tid a.act → Gives w n v e s
    act a (inl m) = at (acts.said m.from) refl
      where
        at : (o : Option Verdict) → acts.said m.from ≡ o → Gives w n v e s
        at None f = act_row w n a.tid m.from a.act e s v ok m.found (sym m.moves.tx ∙ a.tx) a.found (m.moves.cause v f a.says)
        at (Some u) f = absurd (none_some (verdict n s.book s.desk) u z (by_act s n a.tid m.from (g.once n) m.found (sym m.moves.tx ∙ a.tx) ∙ f))
    act a (inr m) = absurd (none_some (acts.said a.act) v m.silent a.says)

    pact : (p : PactSays (after w e s).book.cascades n v (after w e s).desk.batches) → pacts.Became e s (after w e s).book.cascades p.bid p.batch → Gives w n v e s
    pact p (inl m) = at (pacts.said s.book.cascades n m.from) refl
      where
        at : (o : Option Verdict) → pacts.said s.book.cascades n m.from ≡ o → Gives w n v e s
        at None f = pact_row w n p.bid m.from e s v ok m.found (m.moves.cause n v f p.says)
        at (Some u) f = let y = Rattle.protocol_verdicts.proofs.evidence.EvidenceSaid.is_there s.book.cascades n u m.from f in absurd (none_some (verdict n s.book s.desk) u z (by_pact s n p.bid m.from y.0 (g.once n) m.found y.1 ∙ f))
    pact p (inr m) = absurd (none_some (pacts.said (after w e s).book.cascades n p.batch) v (m.silent n) p.says)

    by : Speaks n v (after w e s) → Gives w n v e s
    by (inl p) = pact p (became_batches w Of finish e s h ok g p.bid p.batch p.found)
    by (inr a) = act a (became_acts w Of finish e s h ok g a.tid a.act a.found)
