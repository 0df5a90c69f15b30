-- Where each transaction's PACT is written down: what a look at that place finds, and what writing adds.
use Rattle.std.proofs.Common.{◌≡◌, ℕ, zero, suc, ◌+◌, ◌<◌, ◌≤◌, ◌==◌, Bool, true, false, cond, Option, Some, None, List, [], ◌∷◌, ◌++◌, length, refl, ap, sym, ◌∙◌, subst, arith, add-zero, zero-add}
use Rattle.std.specs.Prelude.{slice_get, slice_set, slice_index_or, find}
use Rattle.std.specs.List.{AllByRecursion}
use Rattle.std.specs.Option.{option_and_then}
use Rattle.std.proofs.lemmas.Bool.{eqb-true, eqb-false, eq-eqb, ne_eqb, cond-false, cond_both}
use Rattle.std.proofs.lemmas.List.{length-set}
use Rattle.snap_base.specs.declared.verdicts.Verdict.{Verdict}
use Rattle.snap_base.proofs.Options.{none_is_some}
use Rattle.protocol.specs.Parts.{Cascade, Pact, Batch}
use Rattle.protocol.specs.Words.{covers}
use Rattle.protocol.specs.Numbers.{flat, times, one_if}
use Rattle.protocol.specs.Verdicts.{or_else, pact_verdict, aborted_by, verdict_in_batch, verdict_of_pact}
use Rattle.batch_table.specs.declared.spots.Spot.{Spot}
use Rattle.batch_table.specs.Found.{Found, found_at, found_in, found_if, pact_with_tx, verdict_of_found, verdict_found}
use Rattle.batch_table.specs.Joining.{pact_txs, batch_txs, AllTxsBelow}
use Rattle.batch_table.specs.Spots.{spot_at, with_spots, AreSpottedIn, AreSpotted}
use Rattle.batch_table.proofs.LiveCount.{count_head, count_append}

-- ---- the transactions of a text have a spot

tx_at_within : (n i : ℕ) (d : Pact) (ps : List Pact) → AllTxsBelow n ps → i < length ps → (slice_index_or ps i d).tx < n
tx_at_within n i d [] h l = absurd (omega arith)
tx_at_within n zero d (p ∷ ps) h l = h.0
tx_at_within n (suc i) d (p ∷ ps) h l = tx_at_within n i d ps h.1 (omega arith)

pub tx_within : (n i : ℕ) (p : Pact) (ps : List Pact) → AllTxsBelow n ps → i < length ps → p ≡ slice_index_or ps i p → p.tx < n
tx_within n i p ps h l e = omega (arith, tx_at_within n i p ps h l, ap (λ (x : Pact). x.tx) e)

-- ---- a PACT is nowhere but at its spot

some_place : (i j k m : ℕ) → Some (spot_at i j) ≡ Some (spot_at k m) → (i ≡ k) × (j ≡ m)
some_place i j k m e =
    let same : spot_at i j ≡ spot_at k m = cc in (ap (λ (s : Spot). s.batch) same, ap (λ (s : Spot). s.place) same)

same_spot : (i k j m : ℕ) → i ≡ k → j ≡ m → spot_at i j ≡ spot_at k m
same_spot i k j m e f = ap (λ x. spot_at x j) e ∙ ap (λ y. spot_at k y) f

missed : (n i j : ℕ) (b : Batch) (spots : List Spot) (ps : List Pact) → AreSpottedIn i j spots (pact_txs ps) → ((k : ℕ) → j ≤ k → slice_get spots n ≡ Some (spot_at i k) → ⊥) → found_in n b ps ≡ None
missed n i j b spots [] h away = refl
missed n i j b spots (p ∷ ps) h away =
    cond-false (p.tx == n) (Some (found_at b p)) (found_in n b ps)
    (ne_eqb p.tx n (λ e. away j (omega arith) (ap (λ x. slice_get spots x) (sym e) ∙ h.0)))
    ∙ missed n i (j + 1) b spots ps h.1 (λ k l. away k (omega arith))

here : (n i j m : ℕ) (b : Batch) (spots : List Spot) (ps : List Pact) → AreSpottedIn i j spots (pact_txs ps) → slice_get spots n ≡ Some (spot_at i (j + m)) → found_in n b ps ≡ found_if n b (slice_get ps m)
here n i j m b spots [] h s = refl
here n i j zero b spots (p ∷ ps) h s =
    ap (λ z. cond (p.tx == n) (Some (found_at b p)) z) (missed n i (j + 1) b spots ps h.1 (λ k l g. elsewhere i j k (omega arith) (sym s ∙ g)))
  where
    elsewhere : (i j k : ℕ) → j + 1 ≤ k → Some (spot_at i (j + zero)) ≡ Some (spot_at i k) → ⊥
    elsewhere i j k l e = omega (arith, (some_place i (j + zero) i k e).1)
here n i j (suc m) b spots (p ∷ ps) h s =
    cond-false (p.tx == n) (Some (found_at b p)) (found_in n b ps)
    (ne_eqb p.tx n (λ e. omega (arith, (some_place i j i (j + suc m) (sym h.0 ∙ (ap (λ x. slice_get spots x) e ∙ s))).1)))
    ∙ here n i (j + 1) m b spots ps h.1 (s ∙ ap (λ x. Some (spot_at i x)) (shift j m))
  where
    shift : (j m : ℕ) → j + suc m ≡ j + 1 + m
    shift j m = omega arith

missed_everywhere : (n i : ℕ) (spots : List Spot) (bs : List Batch) → AreSpotted i spots (batch_txs bs) → ((k m : ℕ) → i ≤ k → slice_get spots n ≡ Some (spot_at k m) → ⊥) → pact_with_tx n bs ≡ None
missed_everywhere n i spots [] h away = refl
missed_everywhere n i spots (b ∷ bs) h away =
    ap (λ o. or_else o (pact_with_tx n bs)) (missed n i 0 b spots b.pacts h.0 (λ k l. away i k (omega arith)))
    ∙ missed_everywhere n (i + 1) spots bs h.1 (λ k m l. away k m (omega arith))

or_none : {X : Type 0} (o : Option X) → or_else o None ≡ o
or_none None = refl
or_none (Some x) = refl

pub found_there : (n i x m : ℕ) (spots : List Spot) (bs : List Batch) → AreSpotted i spots (batch_txs bs) → slice_get spots n ≡ Some (spot_at (i + x) m)
    → pact_with_tx n bs ≡ option_and_then (λ b. found_if n b (slice_get b.pacts m)) (slice_get bs x)
found_there n i x m spots [] h s = refl
found_there n i zero m spots (b ∷ bs) h s =
    ap (λ o. or_else (found_in n b b.pacts) o) (missed_everywhere n (i + 1) spots bs h.1 (λ k y l g. omega (arith, (some_place (i + zero) m k y (sym s ∙ g)).0)))
    ∙ (or_none (found_in n b b.pacts) ∙ here n i 0 m b spots b.pacts h.0 (s ∙ ap (λ y. Some y) (same_spot (i + zero) i m (0 + m) (omega arith) (omega arith))))
found_there n i (suc x) m spots (b ∷ bs) h s =
    ap (λ o. or_else o (pact_with_tx n bs)) (missed n i 0 b spots b.pacts h.0 (λ k l g. omega (arith, (some_place (i + suc x) m i k (sym s ∙ g)).0)))
    ∙ found_there n (i + 1) x m spots bs h.1 (s ∙ ap (λ y. Some y) (same_spot (i + suc x) (i + 1 + x) m m (omega arith) refl))

pub found_at_spot : (n : ℕ) (sp : Spot) (spots : List Spot) (bs : List Batch) → AreSpotted 0 spots (batch_txs bs) → slice_get spots n ≡ Some sp
    → pact_with_tx n bs ≡ option_and_then (λ b. found_if n b (slice_get b.pacts sp.place)) (slice_get bs sp.batch)
found_at_spot n sp spots bs h s = found_there n 0 sp.batch sp.place spots bs h (s ∙ ap (λ z. Some (spot_at z sp.place)) (sym (zero-add sp.batch)))

pub found_nowhere : (n i : ℕ) (spots : List Spot) (bs : List Batch) → AreSpotted i spots (batch_txs bs) → slice_get spots n ≡ None → pact_with_tx n bs ≡ None
found_nowhere n i spots bs h s = missed_everywhere n i spots bs h (λ k m l g. none_is_some (spot_at k m) (sym s ∙ g))

-- ---- the verdict of that PACT is the verdict

by_cascade : (o : Option Cascade) (n : ℕ) (b : Batch) (p : Pact) → p.tx ≡ n → pact_verdict o b p ≡ verdict_of_found o n (found_at b p)
by_cascade None n b p e = refl
by_cascade (Some c) n b p e = ap (λ x. Some (aborted_by c x)) e

in_batch : (cascades : List Cascade) (n : ℕ) (b : Batch) (ps : List Pact) → verdict_in_batch cascades n b ps ≡ verdict_found cascades n (found_in n b ps)
in_batch cascades n b [] = refl
in_batch cascades n b (p ∷ ps) =
    by_test (p.tx == n) (pact_verdict (find (covers b.bid) cascades) b p) (verdict_in_batch cascades n b ps) (found_at b p) (found_in n b ps) (λ e. by_cascade (find (covers b.bid) cascades) n b p (eqb-true p.tx n e)) (in_batch cascades n b ps)
  where
    by_test : (c : Bool) (v w : Option Verdict) (x : Found) (o : Option Found) → (c ≡ true → v ≡ verdict_found cascades n (Some x)) → w ≡ verdict_found cascades n o → cond c v w ≡ verdict_found cascades n (cond c (Some x) o)
    by_test true v w x o h g = h refl
    by_test false v w x o h g = g

-- who was found has a spot in the batch
spot_of_found : (n i j : ℕ) (b : Batch) (x : Found) (spots : List Spot) (ps : List Pact) → AreSpottedIn i j spots (pact_txs ps) → found_in n b ps ≡ Some x → (k : ℕ) × (slice_get spots n ≡ Some (spot_at i k))
spot_of_found n i j b x spots [] h e = absurd (none_is_some x e)
spot_of_found n i j b x spots (p ∷ ps) h e =
    cond_both (p.tx == n) (Some (found_at b p)) (found_in n b ps) (λ o. o ≡ Some x → (k : ℕ) × (slice_get spots n ≡ Some (spot_at i k)))
    (λ q g. (j, ap (λ y. slice_get spots y) (sym (eqb-true p.tx n q)) ∙ h.0))
    (λ q g. spot_of_found n i (j + 1) b x spots ps h.1 g)
    e

pub verdict_is : (cascades : List Cascade) (n i : ℕ) (spots : List Spot) (bs : List Batch) → AreSpotted i spots (batch_txs bs) → verdict_of_pact cascades n bs ≡ verdict_found cascades n (pact_with_tx n bs)
verdict_is cascades n i spots [] h = refl
verdict_is cascades n i spots (b ∷ bs) h =
    ap (λ v. or_else v (verdict_of_pact cascades n bs)) (in_batch cascades n b b.pacts)
    ∙ (ap (λ v. or_else (verdict_found cascades n (found_in n b b.pacts)) v) (verdict_is cascades n (i + 1) spots bs h.1)
    ∙ joined (found_in n b b.pacts) (λ x e.
    let s = spot_of_found n i 0 b x spots b.pacts h.0 e in
    missed_everywhere n (i + 1) spots bs h.1 (λ k m l g. omega (arith, (some_place i s.0 k m (sym s.1 ∙ g)).0))))
  where
    joined : (o : Option Found) → ((x : Found) → o ≡ Some x → pact_with_tx n bs ≡ None) → or_else (verdict_found cascades n o) (verdict_found cascades n (pact_with_tx n bs)) ≡ verdict_found cascades n (or_else o (pact_with_tx n bs))
    joined None away = refl
    joined (Some x) away = ap (λ o. or_else (verdict_found cascades n (Some x)) (verdict_found cascades n o)) (away x refl) ∙ or_none (verdict_found cascades n (Some x))

-- ---- writing

-- a transaction is not among these
abbrev pub Misses : ℕ → List ℕ → Type 0
Misses n ns = AllByRecursion (λ x. (x == n) ≡ false) ns

misses_from_times : (n : ℕ) (ns : List ℕ) → times n ns ≡ 0 → Misses n ns
misses_from_times n [] e = tt
misses_from_times n (x ∷ xs) e =
    let h = count_head (λ y. y == n) x xs in
    (not_one (x == n) (omega (arith, h)), misses_from_times n xs (omega (arith, h)))
  where
    not_one : (c : Bool) → one_if c ≡ 0 → c ≡ false
    not_one true e = absurd (omega arith)
    not_one false e = refl

get_other : (spots : List Spot) (n m : ℕ) (s : Spot) → (m ≡ n → ⊥) → slice_get (slice_set spots n s) m ≡ slice_get spots m
get_other [] n m s other = refl
get_other (x ∷ xs) zero zero s other = absurd (other refl)
get_other (x ∷ xs) zero (suc m) s other = refl
get_other (x ∷ xs) (suc n) zero s other = refl
get_other (x ∷ xs) (suc n) (suc m) s other = get_other xs n m s (λ e. other (ap (λ y. suc y) e))

get_set : (spots : List Spot) (n : ℕ) (s : Spot) → n < length spots → slice_get (slice_set spots n s) n ≡ Some s
get_set [] n s l = absurd (omega arith)
get_set (x ∷ xs) zero s l = refl
get_set (x ∷ xs) (suc n) s l = get_set xs n s (omega arith)

kept_in : (n i j : ℕ) (s : Spot) (spots : List Spot) (ns : List ℕ) → Misses n ns → AreSpottedIn i j spots ns → AreSpottedIn i j (slice_set spots n s) ns
kept_in n i j s spots [] away h = tt
kept_in n i j s spots (x ∷ xs) away h = (get_other spots n x s (eqb-false x n away.0) ∙ h.0, kept_in n i (j + 1) s spots xs away.1 h.1)

kept : (n i : ℕ) (s : Spot) (spots : List Spot) (nss : List (List ℕ)) → times n (flat nss) ≡ 0 → AreSpotted i spots nss → AreSpotted i (slice_set spots n s) nss
kept n i s spots [] away h = tt
kept n i s spots (ns ∷ nss) away h =
    let both = count_append (λ y. y == n) ns (flat nss) in
    (kept_in n i 0 s spots ns (misses_from_times n ns (omega (arith, both))) h.0, kept n (i + 1) s spots nss (omega (arith, both)) h.1)

pub length_written : (i j : ℕ) (ns : List ℕ) (spots : List Spot) → length (with_spots i j ns spots) ≡ length spots
length_written i j [] spots = refl
length_written i j (n ∷ ns) spots = length_written i (j + 1) ns (slice_set spots n (spot_at i j)) ∙ length-set spots n (spot_at i j)

left_alone : (n i j : ℕ) (ns : List ℕ) (spots : List Spot) → Misses n ns → slice_get (with_spots i j ns spots) n ≡ slice_get spots n
left_alone n i j [] spots away = refl
left_alone n i j (x ∷ xs) spots away =
    left_alone n i (j + 1) xs (slice_set spots x (spot_at i j)) away.1 ∙ get_other spots x n (spot_at i j) (λ e. eqb-false x n away.0 (sym e))

pub written : (i j k : ℕ) (ns : List ℕ) (spots : List Spot) (nss : List (List ℕ)) → ((n : ℕ) → times n (flat nss ++ ns) ≤ 1) → AllByRecursion (λ x. x < length spots) ns → AreSpotted k spots nss
    → AreSpotted k (with_spots i j ns spots) nss × AreSpottedIn i j (with_spots i j ns spots) ns
written i j k [] spots nss once l h = (h, tt)
written i j k (n ∷ ns) spots nss once l h =
    let all = count_append (λ y. y == n) (flat nss) (n ∷ ns) in
    let own = count_head (λ y. y == n) n ns in
    let one : one_if (n == n) ≡ 1 = ap one_if (eq-eqb n n refl) in
    let later = written i (j + 1) k ns (slice_set spots n (spot_at i j)) nss (λ m. fewer m) (subst (λ z. AllByRecursion (λ x. x < z) ns) (sym (length-set spots n (spot_at i j))) l.1)
    (kept n k (spot_at i j) spots nss (omega (arith, once n, all, own, one)) h) in (
      later.0,
      (
        left_alone n i (j + 1) ns (slice_set spots n (spot_at i j)) (misses_from_times n ns (omega (arith, once n, all, own, one))) ∙ get_set spots n (spot_at i j) l.0,
        later.1,
      ),
    )
  where
    fewer : (m : ℕ) → times m (flat nss ++ ns) ≤ 1
    fewer m = omega (arith, once m, count_append (λ y. y == m) (flat nss) (n ∷ ns), count_append (λ y. y == m) (flat nss) ns, count_head (λ y. y == m) n ns)

pub spotted_joined : (i j : ℕ) (spots : List Spot) (ns : List ℕ) (nss : List (List ℕ)) → i ≡ j + length nss → AreSpotted j spots nss → AreSpottedIn i 0 spots ns → AreSpotted j spots (nss ++ ns ∷ [])
spotted_joined i j spots ns [] e h g = (subst (λ z. AreSpottedIn z 0 spots ns) (e ∙ add-zero j) g, tt)
spotted_joined i j spots ns (ms ∷ mss) e h g = (h.0, spotted_joined i (j + 1) spots ns mss (omega arith) h.1 g)
