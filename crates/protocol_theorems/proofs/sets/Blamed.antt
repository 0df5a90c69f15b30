-- The first PACT of a batch that failed, where all before it ended with a value, is the one that failed where all smaller tids
-- ended with a value: PACTs stand by their tids.
use Rattle.std.specs.Prelude.{◌≡◌, refl, ℕ, ◌+◌, ◌≤◌, nat_le, Bool, true, false, ◌||◌, Option, Some, None, List, [], ◌∷◌, find}
use Rattle.std.specs.List.{AllByRecursion, list_all}
use Rattle.std.proofs.Common.{arith, sym, ap, ◌∙◌}
use Rattle.std.proofs.lemmas.Bool.{le-leb, lt-leb}
use Rattle.snap_base.specs.declared.transactions.TxResult.{TxResult}
use Rattle.snap_base.specs.declared.transactions.TxResult.TheVariants.{Value, Fail}
use Rattle.snap_base.proofs.Lists.{none_passes}
use Rattle.snap_base.proofs.Booleans.{and_false}
use Rattle.protocol.specs.Parts.{Pact}
use Rattle.protocol.specs.Words.{is_value, is_failure, first_failed}
use Rattle.protocol.specs.Rows.{is_blamed, failure_in, blamed}
use Rattle.protocol_laws.specs.Told.{PactsAscend}
use Rattle.protocol_laws.proofs.first.Lists.{weaker, or_true}

-- ---- lists

pub find_same : {X : Type 0} (p q : X → Bool) (xs : List X) → AllByRecursion (λ x. p x ≡ q x) xs → find p xs ≡ find q xs
find_same p q [] h = refl
find_same p q (x ∷ xs) h = rw (h.0, find_same p q xs h.1) refl

-- ---- PACTs by their tids

above : (low : ℕ) (ps : List Pact) → PactsAscend low ps → AllByRecursion (λ q. low ≤ q.tid) ps
above low [] a = tt
above low (p ∷ ps) a = (a.0, weaker (λ q. p.tid + 1 ≤ q.tid) (λ q. low ≤ q.tid) ps (λ q l. omega (arith, l, a.0)) (above (p.tid + 1) ps a.1))

none_smaller : (t : ℕ) (ps : List Pact) → AllByRecursion (λ q. t + 1 ≤ q.tid) ps → list_all (λ q. nat_le t q.tid || is_value q.result) ps ≡ true
none_smaller t [] h = refl
none_smaller t (p ∷ ps) h = rw (le-leb t p.tid (omega (arith, h.0)), none_smaller t ps h.1) refl

pub first_is_blamed : (low : ℕ) (ps : List Pact) → PactsAscend low ps → first_failed ps ≡ blamed ps
first_is_blamed low [] a = refl
first_is_blamed low (p ∷ ps) a = by p.result refl (first_is_blamed (p.tid + 1) ps a.1)
  where
    behind : AllByRecursion (λ q. p.tid + 1 ≤ q.tid) ps
    behind = above (p.tid + 1) ps a.1

    by : (r : Option TxResult) → p.result ≡ r → first_failed ps ≡ blamed ps → first_failed (p ∷ ps) ≡ blamed (p ∷ ps)
    by None e h =
        let none : find (is_blamed (p ∷ ps)) ps ≡ None = none_passes (is_blamed (p ∷ ps)) ps (weaker (λ q. p.tid + 1 ≤ q.tid) (λ q. is_blamed (p ∷ ps) q ≡ false) ps (λ q l. rw (e, lt-leb q.tid p.tid (omega (arith, l))) (and_false (is_failure q.result))) behind) in
        let blames : blamed (p ∷ ps) ≡ None = rw (e) (ap failure_in none) in
        let fails : first_failed (p ∷ ps) ≡ None = rw (e) refl in
        fails ∙ sym blames
    by (Some (Value v)) e h =
        let same : find (is_blamed (p ∷ ps)) ps ≡ find (is_blamed ps) ps = find_same (is_blamed (p ∷ ps)) (is_blamed ps) ps (weaker (λ q. p.tid + 1 ≤ q.tid) (λ q. is_blamed (p ∷ ps) q ≡ is_blamed ps q) ps (λ q l. rw (e, or_true (nat_le q.tid p.tid)) refl) behind) in
        let blames : blamed (p ∷ ps) ≡ blamed ps = rw (e) (ap failure_in same) in
        let fails : first_failed (p ∷ ps) ≡ first_failed ps = rw (e) refl in
        fails ∙ (h ∙ sym blames)
    by (Some (Fail c)) e h =
        let blames : blamed (p ∷ ps) ≡ Some (record { tx = p.tx; code = c }) = rw (e, le-leb p.tid p.tid (omega arith), none_smaller p.tid ps behind) refl in
        let fails : first_failed (p ∷ ps) ≡ Some (record { tx = p.tx; code = c }) = rw (e) refl in
        fails ∙ sym blames
