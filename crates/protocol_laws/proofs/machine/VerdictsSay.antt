-- What a verdict says of the place that it names, from what holds of PACTs and ACTs.
use Rattle.std.specs.Prelude.{◌≡◌, refl, ℕ, ◌==◌, Bool, true, false, if◌then◌else◌, Option, Some, None, List, [], ◌∷◌, find}
use Rattle.std.specs.List.{AllByRecursion}
use Rattle.std.proofs.Common.{subst}
use Rattle.std.proofs.lemmas.Bool.{eqb-true}
use Rattle.snap_base.specs.declared.transactions.TxResult.{TxResult}
use Rattle.snap_base.specs.declared.transactions.TxResult.TheVariants.{Value, Fail}
use Rattle.snap_base.specs.declared.verdicts.Place.{Place}
use Rattle.snap_base.specs.declared.verdicts.Verdict.{Verdict}
use Rattle.snap_base.specs.declared.verdicts.Verdict.TheVariants as verdicts
use Rattle.protocol.specs.Parts.{Act, Batch, Cascade, Pact, Stage, Formed, Committing, Settled, Status, Live, Doomed, Decided, Sealed, Machine}
use Rattle.protocol.specs.Words.{covers}
use Rattle.protocol.specs.Verdicts.{verdict, verdict_of_pact, verdict_of_act, verdict_in_batch, pact_verdict, settled_verdict, act_verdict, ended_at, aborted_by, or_else, pact_place, act_place}

-- of a place that it names, with the result there
abbrev pub Says : (Place → TxResult → Type 0) → Verdict → Type 0
Says P (verdicts.Committed p v) = P p (Value v)
Says P (verdicts.Code p c) = P p (Fail c)
Says P (verdicts.BatchCode b a c) = Unit {0}
Says P (verdicts.Cascade b x) = Unit {0}
Says P (verdicts.Died a x y) = Unit {0}
Says P (verdicts.Order x y a) = Unit {0}
Says P (verdicts.Unsure l) = Unit {0}

abbrev pub IsNoPlace : Verdict → Type 0
IsNoPlace v = Says (λ p r. ⊥) v

no_place_says : (P : Place → TxResult → Type 0) (v : Verdict) → IsNoPlace v → Says P v
no_place_says P (verdicts.Committed p v) h = absurd h
no_place_says P (verdicts.Code p c) h = absurd h
no_place_says P (verdicts.BatchCode b a c) h = tt
no_place_says P (verdicts.Cascade b x) h = tt
no_place_says P (verdicts.Died a x y) h = tt
no_place_says P (verdicts.Order x y a) h = tt
no_place_says P (verdicts.Unsure l) h = tt

-- what has to hold where they are of transaction n
abbrev pub PactSays : ℕ → (Place → TxResult → Type 0) → ℕ → Pact → Type 0
PactSays n P k p = p.tx ≡ n → (r : TxResult) → p.result ≡ Some r → P (pact_place k p.tid) r

abbrev pub BatchSays : ℕ → (Place → TxResult → Type 0) → Batch → Type 0
BatchSays n P b = b.stage ≡ Settled → AllByRecursion (PactSays n P b.bid) b.pacts

abbrev pub ActSays : ℕ → (Place → TxResult → Type 0) → Act → Type 0
ActSays n P x = x.tx ≡ n → (c : ℕ) → x.status ≡ Sealed c → (r : TxResult) → x.result ≡ Some r → P (act_place x.m c) r

-- an ACT that is given up is told no place
abbrev pub DoomedWell : Act → Type 0
DoomedWell x = (u : Verdict) → x.status ≡ Doomed u → IsNoPlace u

-- ---- PACTs

ended_says : (P : Place → TxResult → Type 0) (p : Place) (r : Option TxResult) (v : Verdict) → ((x : TxResult) → r ≡ Some x → P p x) → ended_at p r ≡ Some v → Says P v
ended_says P p None v h e = absurd (cc e)
ended_says P p (Some (Value x)) v h e = let i : verdicts.Committed p x ≡ v = cc e in subst (Says P) i (h (Value x) refl)
ended_says P p (Some (Fail c)) v h e = let i : verdicts.Code p c ≡ v = cc e in subst (Says P) i (h (Fail c) refl)

aborted_says : (P : Place → TxResult → Type 0) (n : ℕ) (c : Cascade) → Says P (aborted_by c n)
aborted_says P n c = by (c.by == n)
  where
    by : (b : Bool) → Says P (if b then verdicts.BatchCode (record { 0 = c.first }) c.at c.code else verdicts.Cascade (record { 0 = c.first }) (record { 0 = c.by }))
    by true = tt
    by false = tt

pact_says : (n : ℕ) (P : Place → TxResult → Type 0) (b : Batch) (p : Pact) (v : Verdict) → p.tx ≡ n → (b.stage ≡ Settled → PactSays n P b.bid p) → (o : Option Cascade) → pact_verdict o b p ≡ Some v → Says P v
pact_says n P b p v t h (Some c) e = let i : aborted_by c p.tx ≡ v = cc e in subst (Says P) i (aborted_says P p.tx c)
pact_says n P b p v t h None e = by b.stage refl e
  where
    by : (st : Stage) → b.stage ≡ st → settled_verdict st (pact_place b.bid p.tid) p.result ≡ Some v → Says P v
    by Formed s e = absurd (cc e)
    by Committing s e = absurd (cc e)
    by Settled s e = ended_says P (pact_place b.bid p.tid) p.result v (h s t) e

batch_says : (cascades : List Cascade) (n : ℕ) (P : Place → TxResult → Type 0) (b : Batch) (v : Verdict) (ps : List Pact) → (b.stage ≡ Settled → AllByRecursion (PactSays n P b.bid) ps) → verdict_in_batch cascades n b ps ≡ Some v → Says P v
batch_says cascades n P b v [] h e = absurd (cc e)
batch_says cascades n P b v (p ∷ ps) h e = by (p.tx == n) refl e (λ f. batch_says cascades n P b v ps (λ i. (h i).1) f)
  where
    by : (q : Bool) → (p.tx == n) ≡ q → (if q then pact_verdict (find (covers b.bid) cascades) b p else verdict_in_batch cascades n b ps) ≡ Some v → (verdict_in_batch cascades n b ps ≡ Some v → Says P v) → Says P v
    by true f e k = pact_says n P b p v (eqb-true p.tx n f) (λ i. (h i).0) (find (covers b.bid) cascades) e
    by false f e k = k e

either_says : (P : Place → TxResult → Type 0) (v : Verdict) (x y : Option Verdict) → (x ≡ Some v → Says P v) → (y ≡ Some v → Says P v) → or_else x y ≡ Some v → Says P v
either_says P v None y h k e = k e
either_says P v (Some u) y h k e = h e

batches_say : (cascades : List Cascade) (n : ℕ) (P : Place → TxResult → Type 0) (v : Verdict) (bs : List Batch) → AllByRecursion (BatchSays n P) bs → verdict_of_pact cascades n bs ≡ Some v → Says P v
batches_say cascades n P v [] h e = absurd (cc e)
batches_say cascades n P v (b ∷ bs) h e = either_says P v (verdict_in_batch cascades n b b.pacts) (verdict_of_pact cascades n bs) (batch_says cascades n P b v b.pacts h.0) (batches_say cascades n P v bs h.1) e

-- ---- ACTs

act_says : (n : ℕ) (P : Place → TxResult → Type 0) (v : Verdict) (x : Act) → x.tx ≡ n → ActSays n P x → DoomedWell x → (st : Status) → x.status ≡ st → act_verdict st x.m x.result ≡ Some v → Says P v
act_says n P v x t h d Live i e = absurd (cc e)
act_says n P v x t h d (Doomed u) i e = let j : u ≡ v = cc e in subst (Says P) j (no_place_says P u (d u i))
act_says n P v x t h d (Decided c) i e = absurd (cc e)
act_says n P v x t h d (Sealed c) i e = ended_says P (act_place x.m c) x.result v (h t c i) e

acts_say : (n : ℕ) (P : Place → TxResult → Type 0) (v : Verdict) (xs : List Act) → AllByRecursion (ActSays n P) xs → AllByRecursion DoomedWell xs → verdict_of_act n xs ≡ Some v → Says P v
acts_say n P v [] h d e = absurd (cc e)
acts_say n P v (x ∷ xs) h d e = by (x.tx == n) refl e (λ f. acts_say n P v xs h.1 d.1 f)
  where
    by : (q : Bool) → (x.tx == n) ≡ q → (if q then act_verdict x.status x.m x.result else verdict_of_act n xs) ≡ Some v → (verdict_of_act n xs ≡ Some v → Says P v) → Says P v
    by true f e k = act_says n P v x (eqb-true x.tx n f) h.0 d.0 x.status refl e
    by false f e k = k e

pub verdict_says : {C : Type 0} (n : ℕ) (P : Place → TxResult → Type 0) (s : Machine C) (v : Verdict) → AllByRecursion (BatchSays n P) s.desk.batches → AllByRecursion (ActSays n P) s.book.acts → AllByRecursion DoomedWell s.book.acts → verdict n s.book s.desk ≡ Some v → Says P v
verdict_says n P s v p a d e = either_says P v (verdict_of_pact s.book.cascades n s.desk.batches) (verdict_of_act n s.book.acts) (batches_say s.book.cascades n P v s.desk.batches p) (acts_say n P v s.book.acts a d) e
