-- PACTs whose tids are one after another: who has a tid, and what it is to note how that one ended.
use Rattle.std.proofs.Common.{◌≡◌, ℕ, zero, suc, ◌+◌, ◌<◌, ◌≤◌, ◌==◌, false, ◌||◌, Some, None, List, [], ◌∷◌, length, map, refl, ap, ◌∙◌, arith}
use Rattle.std.specs.Prelude.{slice_get, slice_set, slice_index_or}
use Rattle.std.specs.List.{AllByRecursion, list_any}
use Rattle.std.specs.Option.{option_and_then, option_map}
use Rattle.std.proofs.lemmas.Bool.{eq-eqb, ne_eqb, cond-true, cond-false, cond_both, or_parts}
use Rattle.snap_base.specs.declared.transactions.TxResult.{TxResult}
use Rattle.protocol.specs.Parts.{Pact, Batch}
use Rattle.protocol.specs.Words.{result_among}
use Rattle.protocol.specs.OnDesk.{with_result, with_results}
use Rattle.protocol.specs.Numbers.{from}
use Rattle.batch_table.specs.Joining.{pact_tids}
use Rattle.batch_table.specs.Listed.{tx_named}
use Rattle.batch_table.proofs.ByNumber.{cons_parts, cons_same}

-- none of them has the tid
abbrev pub AreWithout : ℕ → List Pact → Type 0
AreWithout t ps = AllByRecursion (λ p. (p.tid == t) ≡ false) ps

pub below_without : (t h : ℕ) (ps : List Pact) → pact_tids ps ≡ from h (length (pact_tids ps)) → t < h → AreWithout t ps
below_without t h [] e l = tt
below_without t h (p ∷ ps) e l =
    let parts = cons_parts p.tid h (pact_tids ps) (from (h + 1) (length (pact_tids ps))) e in
    (ne_eqb p.tid t (λ q. omega (arith, parts.0)), below_without t (h + 1) ps parts.1 (omega arith))

pub above_without : (t h : ℕ) (ps : List Pact) → pact_tids ps ≡ from h (length (pact_tids ps)) → h + length (pact_tids ps) ≤ t → AreWithout t ps
above_without t h [] e l = tt
above_without t h (p ∷ ps) e l =
    let parts = cons_parts p.tid h (pact_tids ps) (from (h + 1) (length (pact_tids ps))) e in
    (ne_eqb p.tid t (λ q. omega (arith, parts.0)), above_without t (h + 1) ps parts.1 (omega arith))

-- ---- what that says

pub without_names : (t : ℕ) (ps : List Pact) → AreWithout t ps → list_any (λ p. p.tid == t) ps ≡ false
without_names t [] h = refl
without_names t (p ∷ ps) h = ap (λ v. v || list_any (λ p. p.tid == t) ps) h.0 ∙ without_names t ps h.1

pub unnamed_result : (t : ℕ) (ps : List Pact) → list_any (λ p. p.tid == t) ps ≡ false → result_among t ps ≡ None
unnamed_result t [] e = refl
unnamed_result t (p ∷ ps) e =
    let parts = or_parts (p.tid == t) (list_any (λ p. p.tid == t) ps) e in
    cond-false (p.tid == t) p.result (result_among t ps) parts.0 ∙ unnamed_result t ps parts.1

pub without_result : (t : ℕ) (ps : List Pact) → AreWithout t ps → result_among t ps ≡ None
without_result t ps h = unnamed_result t ps (without_names t ps h)

pub unnamed_tx : (t : ℕ) (ps : List Pact) → list_any (λ p. p.tid == t) ps ≡ false → tx_named t ps ≡ None
unnamed_tx t [] e = refl
unnamed_tx t (p ∷ ps) e =
    let parts = or_parts (p.tid == t) (list_any (λ p. p.tid == t) ps) e in
    cond-false (p.tid == t) (Some p.tx) (tx_named t ps) parts.0 ∙ unnamed_tx t ps parts.1

pub without_tx : (t : ℕ) (ps : List Pact) → AreWithout t ps → tx_named t ps ≡ None
without_tx t ps h = unnamed_tx t ps (without_names t ps h)

pub unnoted : (t : ℕ) (r : TxResult) (p : Pact) → (p.tid == t) ≡ false → with_result t r p ≡ p
unnoted t r p e = ap (λ x. record p { result = x }) (cond-false (p.tid == t) (Some r) p.result e)

pub without_noted : (t : ℕ) (r : TxResult) (ps : List Pact) → AreWithout t ps → map (with_result t r) ps ≡ ps
without_noted t r [] h = refl
without_noted t r (p ∷ ps) h = cons_same (with_result t r p) p (map (with_result t r) ps) ps (unnoted t r p h.0) (without_noted t r ps h.1)

pub batch_unnoted : (t : ℕ) (r : TxResult) (b : Batch) → AreWithout t b.pacts → with_results t r b ≡ b
batch_unnoted t r b h =
    ap (λ x. record b { pacts = x }) (cond_both b.aborted b.pacts (map (with_result t r) b.pacts) (λ x. x ≡ b.pacts) (λ e. refl) (λ e. without_noted t r b.pacts h))

-- ---- the one at a place

abbrev pub ended : TxResult → Pact → Pact
ended r p = record p { result = Some r }

pub noted_at : (t h i : ℕ) (r : TxResult) (d : Pact) (ps : List Pact) → pact_tids ps ≡ from h (length (pact_tids ps)) → t ≡ h + i → map (with_result t r) ps ≡ slice_set ps i (ended r (slice_index_or ps i d))
noted_at t h i r d [] e q = refl
noted_at t h zero r d (p ∷ ps) e q =
    let parts = cons_parts p.tid h (pact_tids ps) (from (h + 1) (length (pact_tids ps))) e in
    cons_same (with_result t r p) (ended r p) (map (with_result t r) ps) ps
    (ap (λ x. record p { result = x }) (cond-true (p.tid == t) (Some r) p.result (eq-eqb p.tid t (omega (arith, parts.0)))))
    (without_noted t r ps (below_without t (h + 1) ps parts.1 (omega arith)))
noted_at t h (suc i) r d (p ∷ ps) e q =
    let parts = cons_parts p.tid h (pact_tids ps) (from (h + 1) (length (pact_tids ps))) e in
    cons_same (with_result t r p) p (map (with_result t r) ps) (slice_set ps i (ended r (slice_index_or ps i d)))
    (unnoted t r p (ne_eqb p.tid t (λ x. omega (arith, parts.0))))
    (noted_at t (h + 1) i r d ps parts.1 (omega arith))

pub result_at : (t h i : ℕ) (ps : List Pact) → pact_tids ps ≡ from h (length (pact_tids ps)) → t ≡ h + i → result_among t ps ≡ option_and_then (λ p. p.result) (slice_get ps i)
result_at t h i [] e q = refl
result_at t h zero (p ∷ ps) e q =
    let parts = cons_parts p.tid h (pact_tids ps) (from (h + 1) (length (pact_tids ps))) e in
    cond-true (p.tid == t) p.result (result_among t ps) (eq-eqb p.tid t (omega (arith, parts.0)))
result_at t h (suc i) (p ∷ ps) e q =
    let parts = cons_parts p.tid h (pact_tids ps) (from (h + 1) (length (pact_tids ps))) e in
    cond-false (p.tid == t) p.result (result_among t ps) (ne_eqb p.tid t (λ x. omega (arith, parts.0))) ∙ result_at t (h + 1) i ps parts.1 (omega arith)

pub tx_at : (t h i : ℕ) (ps : List Pact) → pact_tids ps ≡ from h (length (pact_tids ps)) → t ≡ h + i → tx_named t ps ≡ option_map (λ p. p.tx) (slice_get ps i)
tx_at t h i [] e q = refl
tx_at t h zero (p ∷ ps) e q =
    let parts = cons_parts p.tid h (pact_tids ps) (from (h + 1) (length (pact_tids ps))) e in
    cond-true (p.tid == t) (Some p.tx) (tx_named t ps) (eq-eqb p.tid t (omega (arith, parts.0)))
tx_at t h (suc i) (p ∷ ps) e q =
    let parts = cons_parts p.tid h (pact_tids ps) (from (h + 1) (length (pact_tids ps))) e in
    cond-false (p.tid == t) (Some p.tx) (tx_named t ps) (ne_eqb p.tid t (λ x. omega (arith, parts.0))) ∙ tx_at t (h + 1) i ps parts.1 (omega arith)
