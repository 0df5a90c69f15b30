-- The first of some PACTs that fails is where all before it give values.
use Rattle.std.specs.Prelude.{◌≡◌, refl, ℕ, ℤ, zero, suc, ◌+◌, ◌<◌, ◌==◌, ◌&&◌, Bool, true, Some, List, [], ◌∷◌, ◌++◌, drop, length, map, slice_index_or}
use Rattle.std.specs.List.{AllByRecursion}
use Rattle.std.proofs.Common.{arith, sym, ap, subst, ◌∙◌}
use Rattle.std.proofs.lemmas.Bool.{and_parts, eqb-true, eq-eqb, true≢false}
use Rattle.std.proofs.lemmas.List.{drop_more, get_or_read}
use Rattle.snap_base.specs.Outcomes.{Alone}
use Rattle.snap_base.specs.declared.ids.Tid.{Tid}
use Rattle.snap_base.specs.declared.ids.TxNo.{TxNo}
use Rattle.snap_base.specs.declared.transactions.State.{State}
use Rattle.snap_base.specs.declared.transactions.Tx.{Tx}
use Rattle.snap_base.specs.declared.transactions.TxResult.{TxResult}
use Rattle.snap_base.specs.declared.transactions.TxResult.TheVariants.{Value, Fail}
use Rattle.protocol.specs.Fixed.{no_tx}
use Rattle.protocol.specs.Meant.{batch_pact}
use Rattle.protocol.specs.Parts.{Pact}
use Rattle.protocol.specs.Words.{is_value}
use Rattle.audit_words.specs.Clauses.{FailsLast, Meaning, serial}
use Rattle.trace_audit.specs.Failures.{fails_by, first_fails, tx_of}

-- some PACT among these is transaction n; all before it give values, and it fails with this code
pub record FailsAmong (m : Meaning) (txs : List Tx) (n code : ℕ) (world : List State) (pacts : List Pact) : Type 0 where
  pub pact : Pact
  pub front : List Pact
  pub rest : List Pact
  pub splits : pacts ≡ front ++ pact ∷ rest
  pub tx : pact.tx ≡ n
  pub fails : FailsLast code (serial m world (map (tx_of txs) (front ++ pact ∷ []))).results

fails_here : (tx n code c : ℕ) (r : TxResult) → r ≡ Fail c → ((tx == n) && (c == code)) ≡ true → (tx ≡ n) × (r ≡ Fail code)
fails_here tx n code c r e h =
    let parts = and_parts (tx == n) (c == code) h in
    (eqb-true tx n parts.0, e ∙ ap Fail (eqb-true c code parts.1))

pub fails_among : (m : Meaning) (txs : List Tx) (n code : ℕ) (world : List State) (pacts : List Pact) → first_fails m txs n code world pacts ≡ true → FailsAmong m txs n code world pacts
fails_among m txs n code world [] h = absurd (true≢false (sym h))
fails_among m txs n code world (p ∷ ps) h = by (m world (tx_of txs p)).result refl h (fails_among m txs n code (m world (tx_of txs p)).world ps)
  where
    by : (r : TxResult) → (m world (tx_of txs p)).result ≡ r → fails_by p.tx n code r (first_fails m txs n code (m world (tx_of txs p)).world ps) ≡ true
        → (first_fails m txs n code (m world (tx_of txs p)).world ps ≡ true → FailsAmong m txs n code (m world (tx_of txs p)).world ps) → FailsAmong m txs n code world (p ∷ ps)
    by (Value v) e h k =
        let g = k h in
        record {
          pact = g.pact;
          front = p ∷ g.front;
          rest = g.rest;
          splits = ap (λ z. p ∷ z) g.splits;
          tx = g.tx;
          fails = record {
            values = (m world (tx_of txs p)).result ∷ g.fails.values;
            splits = ap (λ z. (m world (tx_of txs p)).result ∷ z) g.fails.splits;
            all = (ap (λ (z : TxResult). is_value (Some z)) e, g.fails.all);
          };
        }
    by (Fail c) e h k =
        let here = fails_here p.tx n code c (m world (tx_of txs p)).result e h in
        record { pact = p; front = []; rest = ps; splits = refl; tx = here.0; fails = record { values = []; splits = ap (λ z. z ∷ []) here.1; all = tt } }

never_nothing : (m : Meaning) (txs : List Tx) (world : List State) (front : List Pact) (pact : Pact) → (serial m world (map (tx_of txs) (front ++ pact ∷ []))).results ≡ [] → ⊥
never_nothing m txs world [] pact e = absurd cc
never_nothing m txs world (p ∷ front) pact e = absurd cc

cut_last : (r : TxResult) (rs vs : List TxResult) (v x : TxResult) → r ∷ rs ≡ (v ∷ vs) ++ x ∷ [] → (r ≡ v) × (rs ≡ vs ++ x ∷ [])
cut_last r rs vs v x e = (cc e, cc e)

not_longer : (r v x : TxResult) (vs : List TxResult) → r ∷ [] ≡ (v ∷ vs) ++ x ∷ [] → ⊥
not_longer r v x [] e = absurd (cc (cut_last r [] [] v x e).1)
not_longer r v x (y ∷ vs) e = absurd (cc (cut_last r [] (y ∷ vs) v x e).1)

pub first_among : (m : Meaning) (txs : List Tx) (n code : ℕ) (world : List State) (front : List Pact) (pact : Pact) (rest : List Pact) → pact.tx ≡ n → FailsLast code (serial m world (map (tx_of txs) (front ++ pact ∷ []))).results
    → first_fails m txs n code world (front ++ pact ∷ rest) ≡ true
first_among m txs n code world [] pact rest e h = by h.values h.splits
  where
    others : Bool
    others = first_fails m txs n code (m world (tx_of txs pact)).world rest

    by : (vs : List TxResult) → (m world (tx_of txs pact)).result ∷ [] ≡ vs ++ Fail code ∷ [] → fails_by pact.tx n code (m world (tx_of txs pact)).result others ≡ true
    by [] q =
        let is : (m world (tx_of txs pact)).result ≡ Fail code = cc q in
        ap (λ (r : TxResult). fails_by pact.tx n code r others) is ∙ (ap (λ (b : Bool). b && (code == code)) (eq-eqb pact.tx n e) ∙ eq-eqb code code refl)
    by (v ∷ vs) q = absurd (not_longer (m world (tx_of txs pact)).result v (Fail code) vs q)
first_among m txs n code world (p ∷ front) pact rest e h = by h.values h.splits h.all (first_among m txs n code (m world (tx_of txs p)).world front pact rest e)
  where
    others : Bool
    others = first_fails m txs n code (m world (tx_of txs p)).world (front ++ pact ∷ rest)

    goes_on : (r : TxResult) → is_value (Some r) ≡ true → others ≡ true → fails_by p.tx n code r others ≡ true
    goes_on (Value v) q k = k
    goes_on (Fail c) q k = absurd (true≢false (sym q))

    by : (vs : List TxResult) → (serial m world (map (tx_of txs) (p ∷ front ++ pact ∷ []))).results ≡ vs ++ Fail code ∷ [] → AllByRecursion (λ r. is_value (Some r) ≡ true) vs
        → (FailsLast code (serial m (m world (tx_of txs p)).world (map (tx_of txs) (front ++ pact ∷ []))).results → others ≡ true) → fails_by p.tx n code (m world (tx_of txs p)).result others ≡ true
    by [] q all k = absurd (never_nothing m txs (m world (tx_of txs p)).world front pact (cc q))
    by (v ∷ vs) q all k =
        let cut = cut_last (m world (tx_of txs p)).result (serial m (m world (tx_of txs p)).world (map (tx_of txs) (front ++ pact ∷ []))).results vs v (Fail code) q in
        goes_on (m world (tx_of txs p)).result (subst (λ (r : TxResult). is_value (Some r) ≡ true) (sym cut.0) all.0) (k (record { values = vs; splits = cut.1; all = all.1 }))

-- ---- a run along PACTs that are kept

pub pact_below : (n : ℕ) (ps : List (Tid × TxNo)) (i : ℕ) (d : Tid × TxNo) → i < length ps → AllByRecursion (λ q. q.tx < n) (map batch_pact ps) → (slice_index_or ps i d).1.0 < n
pact_below n [] i d l h = absurd (omega (arith, l))
pact_below n (p ∷ ps) zero d l h = h.0
pact_below n (p ∷ ps) (suc i) d l h = pact_below n ps i d (omega (arith, l)) h.1

-- the PACT at place i gives r, and leaves these states
next_failure : (m : Meaning) (txs : List Tx) (n code : ℕ) (world next : List State) (pacts : List (Tid × TxNo)) (i : ℕ) (d : Tid × TxNo) (tx : Tx) (r : TxResult) → i < length pacts → (slice_index_or pacts i d).1.0 < length txs
    → tx ≡ slice_index_or txs (slice_index_or pacts i d).1.0 tx → m world tx ≡ record { result = r; world = next }
    → first_fails m txs n code world (map batch_pact (drop i pacts)) ≡ fails_by (slice_index_or pacts i d).1.0 n code r (first_fails m txs n code next (map batch_pact (drop (i + 1) pacts)))
next_failure m txs n code world next pacts i d tx r l k is e =
    let x : Tid × TxNo = slice_index_or pacts i d in
    let others : List Pact = map batch_pact (drop (i + 1) pacts) in
    ap (λ (ps : List (Tid × TxNo)). first_fails m txs n code world (map batch_pact ps)) (drop_more pacts i d l)
    ∙ (ap (λ (t : Tx). fails_by x.1.0 n code (m world t).result (first_fails m txs n code (m world t).world others)) (sym (get_or_read txs x.1.0 tx k is no_tx))
    ∙ ap (λ (a : Alone). fails_by x.1.0 n code a.result (first_fails m txs n code a.world others)) e)

pub failed_here : (m : Meaning) (txs : List Tx) (n code : ℕ) (world next : List State) (pacts : List (Tid × TxNo)) (i : ℕ) (d : Tid × TxNo) (tx : Tx) (r : TxResult) (c : ℕ) (b whole : Bool) → i < length pacts → (slice_index_or pacts i d).1.0 < length txs
    → tx ≡ slice_index_or txs (slice_index_or pacts i d).1.0 tx → m world tx ≡ record { result = r; world = next } → r ≡ Fail c → b ≡ (((slice_index_or pacts i d).1.0 == n) && (c == code))
    → first_fails m txs n code world (map batch_pact (drop i pacts)) ≡ whole → b ≡ whole
failed_here m txs n code world next pacts i d tx r c b whole l k is e f q left =
    q
    ∙ (sym (ap (λ (z : TxResult). fails_by (slice_index_or pacts i d).1.0 n code z (first_fails m txs n code next (map batch_pact (drop (i + 1) pacts)))) f)
    ∙ (sym (next_failure m txs n code world next pacts i d tx r l k is e) ∙ left))

pub passed_here : (m : Meaning) (txs : List Tx) (n code : ℕ) (world next : List State) (pacts : List (Tid × TxNo)) (i : ℕ) (d : Tid × TxNo) (tx : Tx) (r : TxResult) (v : ℤ) (whole : Bool) → i < length pacts → (slice_index_or pacts i d).1.0 < length txs
    → tx ≡ slice_index_or txs (slice_index_or pacts i d).1.0 tx → m world tx ≡ record { result = r; world = next } → r ≡ Value v
    → first_fails m txs n code world (map batch_pact (drop i pacts)) ≡ whole → first_fails m txs n code next (map batch_pact (drop (i + 1) pacts)) ≡ whole
passed_here m txs n code world next pacts i d tx r v whole l k is e f left =
    sym (ap (λ (z : TxResult). fails_by (slice_index_or pacts i d).1.0 n code z (first_fails m txs n code next (map batch_pact (drop (i + 1) pacts)))) f)
    ∙ (sym (next_failure m txs n code world next pacts i d tx r l k is e) ∙ left)
