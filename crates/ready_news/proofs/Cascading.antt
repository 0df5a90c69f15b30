-- Whom a cascade gives a verdict: the transactions of the batches from the one that fails on, and ACTs that stand behind it.
use Rattle.std.specs.Prelude.{◌≡◌, refl, ℕ, ◌+◌, ◌-◌, ◌<◌, ◌≤◌, ◌==◌, zero, suc, nat_le, Bool, true, false, ◌&&◌, if◌then◌else◌, is_some, Some, List, [], ◌∷◌, ◌++◌, ◌⊎◌, length, map, find}
use Rattle.std.specs.List.{list_any}
use Rattle.std.proofs.Common.{arith, sym, ap, subst, inl, inr, ◌∙◌}
use Rattle.std.proofs.lemmas.Bool.{eqb-true, eqb-false, cases_lt, or_parts}
use Rattle.snap_base.proofs.Booleans.{not_so}
use Rattle.protocol.specs.Numbers.{from}
use Rattle.protocol.specs.OnBook as book
use Rattle.protocol.specs.OnDesk as desk
use Rattle.protocol.specs.Parts.{Doomed, Act, Cascade, Pact, Batch}
use Rattle.protocol.specs.Verdicts.{or_else, taken_along, pact_verdict, act_verdict, verdict_in_batch, verdict_of_pact, verdict_of_act}
use Rattle.protocol.specs.Words.{holds, covers, batch_of, is_live_status}
use Rattle.protocol_ready.proofs.Listing.{Has}
use Rattle.protocol_ready.proofs.TouchedVerdicts.{pact_same}
use Rattle.ready_news.proofs.Replies.{either_some, first_some}

-- the batch is one of those, and has this transaction
abbrev pub is_cut : ℕ → ℕ → Batch → Bool
is_cut k n b = nat_le k b.bid && list_any (λ p. p.tx == n) b.pacts

-- the ACT goes with them
abbrev pub falls : ℕ → Act → Bool
falls k x = is_live_status x.status && nat_le k x.m

-- ---- the batches before it are covered as they were

covered_as : (j : ℕ) (cs : List Cascade) (c : Cascade) → covers j c ≡ false → find (covers j) (cs ++ c ∷ []) ≡ find (covers j) cs
covered_as j [] c h = rw h refl
covered_as j (d ∷ cs) c h = by (covers j d) (covered_as j cs c h)
  where
    by : (v : Bool) → find (covers j) (cs ++ c ∷ []) ≡ find (covers j) cs → (if v then Some d else find (covers j) (cs ++ c ∷ [])) ≡ (if v then Some d else find (covers j) cs)
    by true e = refl
    by false e = e

in_batch_as : (n : ℕ) (cs ds : List Cascade) (b c : Batch) (ps : List Pact) → find (covers c.bid) ds ≡ find (covers b.bid) cs → c.bid ≡ b.bid → c.stage ≡ b.stage → is_some (verdict_in_batch ds n c ps) ≡ true → is_some (verdict_in_batch cs n b ps) ≡ true
in_batch_as n cs ds b c [] e i j h = h
in_batch_as n cs ds b c (p ∷ ps) e i j h = by (p.tx == n) h (in_batch_as n cs ds b c ps e i j)
  where
    same : pact_verdict (find (covers c.bid) ds) c p ≡ pact_verdict (find (covers b.bid) cs) b p
    same = ap (λ o. pact_verdict o c p) e ∙ pact_same (find (covers b.bid) cs) b c p i j

    by : (v : Bool) → is_some (if v then pact_verdict (find (covers c.bid) ds) c p else verdict_in_batch ds n c ps) ≡ true → (is_some (verdict_in_batch ds n c ps) ≡ true → is_some (verdict_in_batch cs n b ps) ≡ true) → is_some (if v then pact_verdict (find (covers b.bid) cs) b p else verdict_in_batch cs n b ps) ≡ true
    by true g k = subst (λ v. is_some v ≡ true) same g
    by false g k = k g

none_named : (n : ℕ) (cs : List Cascade) (b : Batch) (ps : List Pact) → list_any (λ p. p.tx == n) ps ≡ false → is_some (verdict_in_batch cs n b ps) ≡ true → false ≡ true
none_named n cs b [] e h = h
none_named n cs b (p ∷ ps) e h = let q = or_parts (p.tx == n) (list_any (λ p. p.tx == n) ps) e in none_named n cs b ps q.1 (subst (λ v. is_some (if v then pact_verdict (find (covers b.bid) cs) b p else verdict_in_batch cs n b ps) ≡ true) q.0 h)

module _ (k by n : ℕ) (c : Cascade) (first : c.first ≡ k) (cs : List Cascade) where
  batch_as : (b : Batch) → is_cut k n b ≡ false → is_some (verdict_in_batch (cs ++ c ∷ []) n (desk.taken k b) b.pacts) ≡ true → is_some (verdict_in_batch cs n b b.pacts) ≡ true
  batch_as b e h = at (nat_le k b.bid) refl e
    where
      at : (v : Bool) → nat_le k b.bid ≡ v → (v && list_any (λ p. p.tx == n) b.pacts) ≡ false → is_some (verdict_in_batch cs n b b.pacts) ≡ true
      at true q g = not_so (none_named n (cs ++ c ∷ []) (desk.taken k b) b.pacts g h)
      at false q g = in_batch_as n cs (cs ++ c ∷ []) b (desk.taken k b) b.pacts (covered_as b.bid cs c (ap (λ v. v && nat_le b.bid c.upto) (ap (λ m. nat_le m b.bid) first ∙ q))) refl refl h

  batches_as : (bs : List Batch) → list_any (is_cut k n) bs ≡ false → is_some (verdict_of_pact (cs ++ c ∷ []) n (map (desk.taken k) bs)) ≡ true → is_some (verdict_of_pact cs n bs) ≡ true
  batches_as [] e h = h
  batches_as (b ∷ bs) e h =
      let q = or_parts (is_cut k n b) (list_any (is_cut k n) bs) e in
      let now = verdict_in_batch (cs ++ c ∷ []) n (desk.taken k b) b.pacts in
      let later = verdict_of_pact (cs ++ c ∷ []) n (map (desk.taken k) bs) in
      either_some (verdict_in_batch cs n b b.pacts) later (verdict_of_pact cs n bs) (batches_as bs q.1) (first_some now (verdict_in_batch cs n b b.pacts) later (batch_as b q.0) h)

  acts_as : (xs : List Act) → list_any (λ x. falls k x && (x.tx == n)) xs ≡ false → is_some (verdict_of_act n (map (book.cascaded k by) xs)) ≡ true → is_some (verdict_of_act n xs) ≡ true
  acts_as [] e h = h
  acts_as (x ∷ xs) e h =
      let q = or_parts (falls k x && (x.tx == n)) (list_any (λ x. falls k x && (x.tx == n)) xs) e in
      at (falls k x) (x.tx == n) q.0 h (acts_as xs q.1)
    where
      at : (u v : Bool) → (u && v) ≡ false
          → is_some (if v then act_verdict (if u then Doomed (taken_along k by) else x.status) x.m x.result else verdict_of_act n (map (book.cascaded k by) xs)) ≡ true
          → (is_some (verdict_of_act n (map (book.cascaded k by) xs)) ≡ true → is_some (verdict_of_act n xs) ≡ true)
          → is_some (if v then act_verdict x.status x.m x.result else verdict_of_act n xs) ≡ true
      at true true f g r = not_so (sym f)
      at true false f g r = r g
      at false true f g r = g
      at false false f g r = r g

  -- who has a verdict afterwards and had none
  pub cascade_tells : (bs : List Batch) (xs : List Act) → is_some (or_else (verdict_of_pact (cs ++ c ∷ []) n (map (desk.taken k) bs)) (verdict_of_act n (map (book.cascaded k by) xs))) ≡ true
      → (list_any (is_cut k n) bs ≡ true) ⊎ ((list_any (λ x. falls k x && (x.tx == n)) xs ≡ true) ⊎ (is_some (or_else (verdict_of_pact cs n bs) (verdict_of_act n xs)) ≡ true))
  cascade_tells bs xs h = at (list_any (is_cut k n) bs) refl (list_any (λ x. falls k x && (x.tx == n)) xs) refl
    where
      at : (u : Bool) → list_any (is_cut k n) bs ≡ u → (v : Bool) → list_any (λ x. falls k x && (x.tx == n)) xs ≡ v
          → (list_any (is_cut k n) bs ≡ true) ⊎ ((list_any (λ x. falls k x && (x.tx == n)) xs ≡ true) ⊎ (is_some (or_else (verdict_of_pact cs n bs) (verdict_of_act n xs)) ≡ true))
      at true e v f = inl e
      at false e true f = inr (inl f)
      at false e false f =
          let pacts = verdict_of_pact (cs ++ c ∷ []) n (map (desk.taken k) bs) in
          let acts = verdict_of_act n (map (book.cascaded k by) xs) in
          inr (inr (either_some (verdict_of_pact cs n bs) acts (verdict_of_act n xs) (acts_as xs f) (first_some pacts (verdict_of_pact cs n bs) acts (batches_as bs e) h)))

-- ---- batches have the numbers from the first on

pub is_within : (low : ℕ) (b : Batch) (bs : List Batch) → map (λ b. b.bid) bs ≡ from low (length bs) → Has bs b → (low ≤ b.bid) × (b.bid < low + length bs)
is_within low b [] e h = absurd h
is_within low b (x ∷ bs) e (inl i) = let head : x.bid ≡ low = cc e in let same : x.bid ≡ b.bid = ap (λ z. z.bid) i in (omega arith, omega arith)
is_within low b (x ∷ bs) e (inr h) = let tail : map (λ b. b.bid) bs ≡ from (low + 1) (length bs) = cc e in let r = is_within (low + 1) b bs tail h in (omega (arith, r.0), omega (arith, r.1))

pub is_above : (low k : ℕ) (test : Batch → Bool) (bs : List Batch) → map (λ b. b.bid) bs ≡ from low (length bs) → holds test (batch_of k bs) ≡ true → low ≤ k
is_above low k test [] e h = not_so h
is_above low k test (b ∷ bs) e h =
    let head : b.bid ≡ low = cc e in
    let tail : map (λ b. b.bid) bs ≡ from (low + 1) (length bs) = cc e in
    at head (b.bid == k) refl h (is_above (low + 1) k test bs tail)
  where
    at : b.bid ≡ low → (v : Bool) → (b.bid == k) ≡ v → holds test (if v then Some b else batch_of k bs) ≡ true → (holds test (batch_of k bs) ≡ true → low + 1 ≤ k) → low ≤ k
    at head true q g r = omega (arith, head, eqb-true b.bid k q)
    at head false q g r = omega (arith, r g)

-- the numbers from one on have what lies between
in_from : (k m j : ℕ) → k ≤ j → j < k + m → Has (from k m) j
in_from k zero j low high = absurd (omega (arith, low, high))
in_from k (suc m) j low high = at (k == j) refl (in_from (k + 1) m j)
  where
    at : (v : Bool) → (k == j) ≡ v → (k + 1 ≤ j → j < k + 1 + m → Has (from (k + 1) m) j) → Has (from k (suc m)) j
    at true q r = inl (eqb-true k j q)
    at false q r = let apart = eqb-false k j q in inr (r (strictly apart) (omega (arith, high)))
      where
        strictly : (k ≡ j → ⊥) → k + 1 ≤ j
        strictly f = elim (cases_lt k j) [ inl a ↦ omega (arith, a) | inr b ↦ absurd (f (omega (arith, low, b))) ]

pub is_from : (k next j : ℕ) → k ≤ j → j < next → Has (from k (next - k)) j
is_from k next j low high = in_from k (next - k) j low (omega (arith, low, high))
