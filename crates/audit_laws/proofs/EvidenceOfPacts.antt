-- What a PACT is told: its place, or the cascade that covers its batch; and that cascade is one of the cuts that the events tell.
use Rattle.std.specs.Prelude.{◌≡◌, ◌≢◌, refl, ℕ, ◌==◌, ◌≤◌, nat_le, Bool, true, false, ◌&&◌, ◌||◌, if◌then◌else◌, Option, Some, None, List, [], ◌∷◌, find, map}
use Rattle.std.specs.List.{list_any}
use Rattle.std.proofs.Common.{arith, sym, ap, subst, inl, inr, ◌∙◌}
use Rattle.std.proofs.lemmas.Bool.{true≢false, and_parts, and_from, eqb-true, eq-eqb, or_left, or_right}
use Rattle.snap_base.specs.declared.transactions.TxResult.{TxResult}
use Rattle.snap_base.specs.declared.verdicts.Place.{Place}
use Rattle.snap_base.specs.declared.verdicts.Verdict.{Verdict}
use Rattle.snap_base.specs.declared.verdicts.Verdict.TheVariants as verdicts
use Rattle.snap_base.proofs.Options.{none_is_some, same_some}
use Rattle.protocol.specs.Numbers.{flat, times}
use Rattle.protocol.specs.OnRing as ring
use Rattle.protocol.specs.Parts.{Batch, Cascade, Committing, Formed, Pact, Settled, Stage}
use Rattle.protocol.specs.Verdicts.{aborted_by, pact_place, pact_verdict, settled_verdict, taken_along, verdict_in_batch, verdict_of_pact}
use Rattle.protocol.specs.Words.{covers, is_among}
use Rattle.protocol_laws.proofs.first.Times.{times_append}
use Rattle.audit_words.specs.Seen.{Cut}
use Rattle.audit_laws.proofs.EvidenceOfActs.{ended_places, one_of_both, tells_place}
use Rattle.audit_laws.proofs.Premises.{among_left, among_right, once_there}

-- one of them is transaction n
abbrev pub names : ℕ → List Pact → Bool
names n ps = list_any (λ p. p.tx == n) ps

names_txs : (n : ℕ) (ps : List Pact) → is_among n (map (λ p. p.tx) ps) ≡ names n ps
names_txs n [] = refl
names_txs n (p ∷ ps) = ap (λ (b : Bool). (p.tx == n) || b) (names_txs n ps)

-- ---- which verdicts a PACT may have

abbrev pub is_of_pact : Verdict → Bool
is_of_pact (verdicts.BatchCode k at code) = true
is_of_pact (verdicts.Cascade k by) = true
is_of_pact v = tells_place v

settled_places : (st : Stage) (p : Place) (r : Option TxResult) (v : Verdict) → settled_verdict st p r ≡ Some v → tells_place v ≡ true
settled_places Formed p r v e = absurd (none_is_some v e)
settled_places Committing p r v e = absurd (none_is_some v e)
settled_places Settled p r v e = ended_places p r v e

placed_is : (v : Verdict) → tells_place v ≡ true → is_of_pact v ≡ true
placed_is (verdicts.Committed p z) e = refl
placed_is (verdicts.Code p c) e = refl
placed_is (verdicts.BatchCode k at code) e = refl
placed_is (verdicts.Cascade k by) e = refl
placed_is (verdicts.Died a older own) e = e
placed_is (verdicts.Order m n a) e = e
placed_is (verdicts.Unsure l) e = e

one_kind : (o : Option Cascade) (b : Batch) (p : Pact) (v : Verdict) → pact_verdict o b p ≡ Some v → is_of_pact v ≡ true
one_kind None b p v e = placed_is v (settled_places b.stage (pact_place b.bid p.tid) p.result v e)
one_kind (Some c) b p v e = subst (λ (u : Verdict). is_of_pact u ≡ true) (same_some (aborted_by c p.tx) v e) (by (c.by == p.tx))
  where
    by : (q : Bool) → is_of_pact (if q then verdicts.BatchCode (record { 0 = c.first }) c.at c.code else taken_along c.first c.by) ≡ true
    by true = refl
    by false = refl

-- ---- the PACT with the transaction

pub record PactTold (cs : List Cascade) (n : ℕ) (b : Batch) (ps : List Pact) (v : Verdict) : Type 0 where
  pub pact : Pact
  pub named : names n ps ≡ true
  pub tx : pact.tx ≡ n
  pub told : pact_verdict (find (covers b.bid) cs) b pact ≡ Some v

in_batch : (cs : List Cascade) (n : ℕ) (b : Batch) (ps : List Pact) (v : Verdict) → verdict_in_batch cs n b ps ≡ Some v → PactTold cs n b ps v
in_batch cs n b [] v e = absurd (none_is_some v e)
in_batch cs n b (p ∷ ps) v e = by (p.tx == n) refl e (in_batch cs n b ps v)
  where
    by : (q : Bool) → (p.tx == n) ≡ q → (if q then pact_verdict (find (covers b.bid) cs) b p else verdict_in_batch cs n b ps) ≡ Some v → (verdict_in_batch cs n b ps ≡ Some v → PactTold cs n b ps v) → PactTold cs n b (p ∷ ps) v
    by true q e r = record { pact = p; named = or_left (p.tx == n) (names n ps) q; tx = eqb-true p.tx n q; told = e }
    by false q e r = let k = r e in record { pact = k.pact; named = or_right (p.tx == n) (names n ps) k.named; tx = k.tx; told = k.told }

-- the transactions of the batches
abbrev txs_of : List Batch → List ℕ
txs_of bs = flat (map (λ b. map (λ p. p.tx) b.pacts) bs)

pub record BatchTold (cs : List Cascade) (n : ℕ) (bs : List Batch) (v : Verdict) : Type 0 where
  pub batch : Batch
  pub found : find (λ b. names n b.pacts) bs ≡ Some batch
  pub there : is_among n (txs_of bs) ≡ true
  pub pact : PactTold cs n batch batch.pacts v

-- who is named once is named by the first batch that names it
pub batch_told : (cs : List Cascade) (n : ℕ) (bs : List Batch) (v : Verdict) → times n (txs_of bs) ≤ 1 → verdict_of_pact cs n bs ≡ Some v → BatchTold cs n bs v
batch_told cs n [] v once e = absurd (none_is_some v e)
batch_told cs n (b ∷ bs) v once e = elim (one_of_both (verdict_in_batch cs n b b.pacts) (verdict_of_pact cs n bs) v e) [
  | inl i ↦
      let k = in_batch cs n b b.pacts v i in
      record {
        batch = b;
        found = ap (λ (q : Bool). if q then Some b else find (λ (c : Batch). names n c.pacts) bs) k.named;
        there = among_left n (map (λ (p : Pact). p.tx) b.pacts) (txs_of bs) (names_txs n b.pacts ∙ k.named);
        pact = k;
      }
  | inr i ↦
      let k = batch_told cs n bs v (omega (arith, once, times_append n (map (λ (p : Pact). p.tx) b.pacts) (txs_of bs))) i.1 in
      record {
        batch = k.batch;
        found = ap (λ (q : Bool). if q then Some b else find (λ (c : Batch). names n c.pacts) bs) (not_here (names n b.pacts) refl k.there) ∙ k.found;
        there = among_right n (map (λ (p : Pact). p.tx) b.pacts) (txs_of bs) k.there;
        pact = k.pact;
      }
]
  where
    not_here : (q : Bool) → names n b.pacts ≡ q → is_among n (txs_of bs) ≡ true → names n b.pacts ≡ false
    not_here true q h =
        absurd (omega (arith, once, times_append n (map (λ (p : Pact). p.tx) b.pacts) (txs_of bs), once_there n (map (λ (p : Pact). p.tx) b.pacts) (names_txs n b.pacts ∙ q), once_there n (txs_of bs) h))
    not_here false q h = q

pub pact_kind : (cs : List Cascade) (n : ℕ) (bs : List Batch) (v : Verdict) → verdict_of_pact cs n bs ≡ Some v → is_of_pact v ≡ true
pact_kind cs n [] v e = absurd (none_is_some v e)
pact_kind cs n (b ∷ bs) v e = elim (one_of_both (verdict_in_batch cs n b b.pacts) (verdict_of_pact cs n bs) v e) [
  | inl i ↦ let k = in_batch cs n b b.pacts v i in one_kind (find (covers b.bid) cs) b k.pact v k.told
  | inr i ↦ pact_kind cs n bs v i.1
]

-- ---- a cascade covers its batch

pub record CoveredBy (o : Option Cascade) (p : Pact) (k by : ℕ) : Type 0 where
  pub cascade : Cascade
  pub is_it : o ≡ Some cascade
  pub first : cascade.first ≡ k
  pub other : p.tx ≢ by

-- what a cascade's verdict tells
abbrev cascade_first : Verdict → ℕ
cascade_first (verdicts.Cascade k by) = k.0
cascade_first _ = 0

abbrev cascade_by : Verdict → ℕ
cascade_by (verdicts.Cascade k by) = by.0
cascade_by _ = 0

pub covered_by : (o : Option Cascade) (b : Batch) (p : Pact) (k by : ℕ) → pact_verdict o b p ≡ Some (taken_along k by) → CoveredBy o p k by
covered_by None b p k by e = absurd (true≢false (sym (settled_places b.stage (pact_place b.bid p.tid) p.result (taken_along k by) e)))
covered_by (Some c) b p k by e = one (c.by == p.tx) refl (same_some (aborted_by c p.tx) (taken_along k by) e)
  where
    one : (q : Bool) → (c.by == p.tx) ≡ q → (if q then verdicts.BatchCode (record { 0 = c.first }) c.at c.code else taken_along c.first c.by) ≡ taken_along k by → CoveredBy (Some c) p k by
    one true q h = absurd (cc h)
    one false q h =
        let first : c.first ≡ k = ap cascade_first h in
        let who : c.by ≡ by = ap cascade_by h in
        record { cascade = c; is_it = refl; first = first; other = λ i. true≢false (sym (eq-eqb c.by p.tx (who ∙ sym i)) ∙ q) }

-- ---- by what the events tell

-- the batch that names the transaction
pub batch_named : (n : ℕ) (b : Batch) (xs : List ring.Formed) (bs : List Batch) → map (λ x. x.bid) xs ≡ map (λ c. c.bid) bs → map (λ x. map (λ p. p.tx) x.pacts) xs ≡ map (λ c. map (λ p. p.tx) c.pacts) bs
    → find (λ c. names n c.pacts) bs ≡ Some b → (x : ring.Formed) × ((find (λ y. names n y.pacts) xs ≡ Some x) × (x.bid ≡ b.bid))
batch_named n b [] [] e f i = absurd (none_is_some b i)
batch_named n b [] (c ∷ bs) e f i = absurd (cc e)
batch_named n b (x ∷ xs) [] e f i = absurd (cc e)
batch_named n b (x ∷ xs) (c ∷ bs) e f i =
    let j : x.bid ≡ c.bid = cc e in
    let js : map (λ (y : ring.Formed). y.bid) xs ≡ map (λ (y : Batch). y.bid) bs = cc e in
    let u : map (λ (p : Pact). p.tx) x.pacts ≡ map (λ (p : Pact). p.tx) c.pacts = cc f in
    let us : map (λ (y : ring.Formed). map (λ (p : Pact). p.tx) y.pacts) xs ≡ map (λ (y : Batch). map (λ (p : Pact). p.tx) y.pacts) bs = cc f in
    by (names n c.pacts) (sym (names_txs n x.pacts) ∙ (ap (is_among n) u ∙ names_txs n c.pacts)) i j (batch_named n b xs bs js us)
  where
    by : (q : Bool) → names n x.pacts ≡ q → (if q then Some c else find (λ y. names n y.pacts) bs) ≡ Some b → x.bid ≡ c.bid
        → (find (λ y. names n y.pacts) bs ≡ Some b → (x : ring.Formed) × ((find (λ y. names n y.pacts) xs ≡ Some x) × (x.bid ≡ b.bid)))
        → (y : ring.Formed) × ((find (λ z. names n z.pacts) (x ∷ xs) ≡ Some y) × (y.bid ≡ b.bid))
    by true q e j r = (x, (ap (λ (d : Bool). if d then Some x else find (λ (y : ring.Formed). names n y.pacts) xs) q, j ∙ ap (λ (z : Batch). z.bid) (same_some c b e)))
    by false q e j r = let k = r e in (k.0, (ap (λ (d : Bool). if d then Some x else find (λ (y : ring.Formed). names n y.pacts) xs) q ∙ k.1.0, k.1.1))

-- the cut that takes the batch along
pub cut_told : (k j : ℕ) (c : Cascade) (cuts : List Cut) (cs : List Cascade) → map (λ x. x.first) cuts ≡ map (λ x. x.first) cs → map (λ x. x.upto) cuts ≡ map (λ x. x.upto) cs → find (covers j) cs ≡ Some c → c.first ≡ k
    → list_any (λ x. (x.first == k) && (nat_le k j && nat_le j x.upto)) cuts ≡ true
cut_told k j c [] [] e f i h = absurd (none_is_some c i)
cut_told k j c [] (d ∷ cs) e f i h = absurd (cc e)
cut_told k j c (x ∷ cuts) [] e f i h = absurd (cc e)
cut_told k j c (x ∷ cuts) (d ∷ cs) e f i h =
    let u : x.first ≡ d.first = cc e in
    let us : map (λ (y : Cut). y.first) cuts ≡ map (λ (y : Cascade). y.first) cs = cc e in
    let v : x.upto ≡ d.upto = cc f in
    let vs : map (λ (y : Cut). y.upto) cuts ≡ map (λ (y : Cascade). y.upto) cs = cc f in
    by (covers j d) refl u v i (λ q. cut_told k j c cuts cs us vs q h)
  where
    by : (q : Bool) → covers j d ≡ q → x.first ≡ d.first → x.upto ≡ d.upto → (if q then Some d else find (covers j) cs) ≡ Some c → (find (covers j) cs ≡ Some c → list_any (λ y. (y.first == k) && (nat_le k j && nat_le j y.upto)) cuts ≡ true)
        → list_any (λ y. (y.first == k) && (nat_le k j && nat_le j y.upto)) (x ∷ cuts) ≡ true
    by true q u v i r =
        let first : d.first ≡ k = ap (λ (z : Cascade). z.first) (same_some d c i) ∙ h in
        let both = and_parts (nat_le d.first j) (nat_le j d.upto) q in
        or_left ((x.first == k) && (nat_le k j && nat_le j x.upto)) (list_any (λ (y : Cut). (y.first == k) && (nat_le k j && nat_le j y.upto)) cuts)
        (and_from (x.first == k) (nat_le k j && nat_le j x.upto) (eq-eqb x.first k (u ∙ first))
        (and_from (nat_le k j) (nat_le j x.upto) (ap (λ (z : ℕ). nat_le z j) (sym first) ∙ both.0) (ap (nat_le j) v ∙ both.1)))
    by false q u v i r = or_right ((x.first == k) && (nat_le k j && nat_le j x.upto)) (list_any (λ (y : Cut). (y.first == k) && (nat_le k j && nat_le j y.upto)) cuts) (r i)
