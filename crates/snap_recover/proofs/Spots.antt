-- The spots of all that is in, and what is kept at each in their order.
use Rattle.std.proofs.Common.{◌≡◌, ◌≢◌, ℕ, ℤ, Option, ◌+◌, ◌<◌, ◌≤◌, ◌⊎◌, inl, inr, List, [], ◌∷◌, ◌++◌, length, map, take, get_or, refl, sym, ap, subst, ◌∙◌, arith, ◌↔◌}
use Rattle.std.proofs.lemmas.Bool.Decides.{nat_tests}
use Rattle.std.proofs.lemmas.List.{take_all, map-append}
use Rattle.std.proofs.lemmas.List.Elements.{All-from_recursion}
use Rattle.std.proofs.lemmas.List.Kept.{AllPairs-cons}
use Rattle.std.proofs.lemmas.Map.Keys.{sorted_head, sorted_tail}
use Rattle.std.specs.List.{AllByRecursion, AllPairs, Contains}
use Rattle.std.specs.List.Sorted.{IsStrictlySortedBy}
use Rattle.std.specs.declared.cmp.Ordering.{Ordering}
use Rattle.std.specs.declared.cmp.Ordering.TheVariants.{Less, Equal, Greater}
use Rattle.std.specs.Ordering.{nat_cmp, ordering_then}
use Rattle.snap_base.specs.declared.ids.ActorId.{ActorId}
use Rattle.snap_base.specs.declared.ids.Bid.{Bid}
use Rattle.snap_base.specs.declared.ids.Tid.{Tid}
use Rattle.snap_base.proofs.Lists.{all_join, weaker}
use Rattle.txn_records.specs.declared.records.Record.{Record}
use Rattle.txn_records.specs.declared.keys.Key.{Key}
use Rattle.txn_records.specs.declared.keys.Key.TheVariants as keys
use Rattle.snap_recover.specs.declared.kinds.Kind.TheVariants as kinds
use Rattle.snap_recover.specs.declared.openings.Kept.{Kept}
use Rattle.snap_recover.specs.declared.openings.Kept.TheVariants as kept
use Rattle.snap_recover.specs.Opening.{IsIn, IsActIn, IsActOf, commit_of, IsKeptIn, ComesBefore, IsCommitted}
use Rattle.snap_recover.specs.Passes.{bid_at, tid_at, Spot, spot_cmp, InSpots, spot_of, IsBatchSpot, IsActSpot, AddsSpots, IsSpotIn, HasSpots, IsKeptAt, IsAllWhole}
use Rattle.snap_recover.proofs.Lists.{contains_here, contains_left, contains_right, contains_append, contains_cases, contains_none, contains_map, contains_unmap}
use Rattle.snap_recover.proofs.Homes.{Inserts, empty_list}
use Rattle.snap_recover.proofs.Checking.{AreNumbers}
use Rattle.snap_recover.proofs.OneOpening.{one_act}
use Rattle.snap_recover.proofs.Steps.{taken, mapped}

-- ---- one spot more

pub spots_none : (IsSpot : ℕ → Spot → Type 0) (old : List Spot) → AddsSpots IsSpot [] old old
spots_none IsSpot old x = (λ i. inl i, λ h. elim h [ inl i ↦ i | inr p ↦ absurd (contains_none p.0 p.1) ])

pub spots_step : (IsSpot : ℕ → Spot → Type 0) (numbers : List ℕ) (i n : ℕ) (x : Spot) (old mid new : List Spot) → i < length numbers → n ≡ get_or numbers i n → IsSpot n x → ((y : Spot) → IsSpot n y → x ≡ y)
    → Inserts x (InSpots mid) (InSpots new) → AddsSpots IsSpot (take i numbers) old mid → AddsSpots IsSpot (take (i + 1) numbers) old new
spots_step IsSpot numbers i n x old mid new l at is one ins adds =
    subst (λ (z : List ℕ). AddsSpots IsSpot z old new) (sym (taken numbers i n l at))
    (λ y. (
      λ h. elim ((ins y).0 h) [
        | inl m ↦ elim ((adds y).0 m) [ inl o ↦ inl o | inr p ↦ inr (p.0, contains_left (take i numbers) (n ∷ []) p.0 p.1, p.2) ]
        | inr e ↦ inr (n, contains_right (take i numbers) (n ∷ []) n (contains_here n []), subst (IsSpot n) e is)
      ],
      λ h. elim h [
        | inl o ↦ (ins y).1 (inl ((adds y).1 (inl o)))
        | inr p ↦ elim (contains_append (take i numbers) (n ∷ []) p.0 p.1) [
          | inl m ↦ (ins y).1 (inl ((adds y).1 (inr (p.0, m, p.2))))
          | inr m ↦ elim (contains_cases n p.0 [] m) [
            | inl e ↦ (ins y).1 (inr (one y (subst (λ (z : ℕ). IsSpot z y) (sym e) p.2)))
            | inr q ↦ absurd (contains_none p.0 q)
          ]
        ]
      ],
    ))

pub act_spot_one : (logs : List (List Record)) (n : ℕ) (x y : Spot) → IsActSpot logs n x → IsActSpot logs n y → x ≡ y
act_spot_one logs n x y (m, c, v, a, p, e) (m', c', v', a', p', e') =
    let same = one_act logs (tid_at n) m m' c c' v v' a a' p p' in
    let between : (m.0, 1, c, n) ≡ (m'.0, 1, c', n) = λ i. ((same.0 i).0, 1, same.1 i, n) in
    e ∙ between ∙ sym e'

pub spots_end : (logs : List (List Record)) (bids tids : List ℕ) (old mid new : List Spot) → AreNumbers kinds.Batch logs bids → AreNumbers kinds.Act logs tids → old ≡ []
    → AddsSpots IsBatchSpot bids old mid → AddsSpots (IsActSpot logs) tids mid new → (x : Spot) → InSpots new x ↔ IsSpotIn logs x
spots_end logs bids tids old mid new are_b are_a none batches acts x = (
  λ h. elim ((acts x).0 h) [
    | inl m ↦ elim ((batches x).0 m) [ inl o ↦ absurd (empty_list old none x o) | inr p ↦ inl (p.0, are_b.are_in p.0 p.1, p.2) ]
    | inr p ↦ inr (p.0, are_a.are_in p.0 p.1, p.2)
  ],
  λ h. elim h [
    | inl p ↦ (acts x).1 (inl ((batches x).1 (inr (p.0, are_b.all p.0 p.1, p.2))))
    | inr p ↦ (acts x).1 (inr (p.0, are_a.all p.0 p.1, p.2))
  ],
)

-- ---- what is kept at a spot

pub batch_spot : (logs : List (List Record)) (x : Spot) → IsSpotIn logs x → x.1 ≡ 0 → IsIn logs (bid_at x.0) × (x ≡ (x.0, 0, 0, 0))
batch_spot logs x (inl (n, i, e)) zero =
    let P : Spot → Type 0 = λ y. IsIn logs (bid_at y.0) × (y ≡ (y.0, 0, 0, 0)) in
    subst P (sym e) (i, refl)
batch_spot logs x (inr (n, i, (m, c, v, a, p, e))) zero = absurd (let one : x.1 ≡ 1 = ap (λ (y : Spot). y.1) e in omega (arith, one, zero))

pub act_spot : (logs : List (List Record)) (x : Spot) → IsSpotIn logs x → x.1 ≢ 0 → IsActIn logs (tid_at x.3)
act_spot logs x (inl (n, i, e)) some = absurd (some (ap (λ (y : Spot). y.1) e))
act_spot logs x (inr (n, i, (m, c, v, a, p, e))) some =
    let P : Spot → Type 0 = λ y. IsActIn logs (tid_at y.3) in
    subst P (sym e) i

pub act_kept : (logs : List (List Record)) (x : Spot) (m : Bid) (c : ℕ) (v : Option ℤ) (a : List ActorId) → IsSpotIn logs x → x.1 ≢ 0 → IsActOf logs (tid_at x.3) m c v a → IsKeptAt logs x (kept.Act (tid_at x.3) m c v)
act_kept logs x m c v a (inl (n, i, e)) some h = absurd (some (ap (λ (y : Spot). y.1) e))
act_kept logs x m c v a (inr (n, i, (m', c', v', a', p, e))) some h =
    let P : Spot → Type 0 = λ y. IsActOf logs (tid_at y.3) m c v a → IsKeptAt logs y (kept.Act (tid_at y.3) m c v) in
    subst P (sym e) (λ k. let same = one_act logs (tid_at n) m m' c c' v v' a a' k p in record { at = λ i. ((same.0 i).0, 1, same.1 i, n); is_kept = (a, k) }) h

-- ---- the order

then_less : (o p : Ordering) → ordering_then o p ≡ Less → (o ≡ Less) ⊎ ((o ≡ Equal) × (p ≡ Less))
then_less Less p e = inl refl
then_less Equal p e = inr (refl, e)
then_less Greater p e = absurd (cc)

then_equal : (o p : Ordering) → ordering_then o p ≡ Equal → (o ≡ Equal) × (p ≡ Equal)
then_equal Less p e = absurd (cc)
then_equal Equal p e = (refl, e)
then_equal Greater p e = absurd (cc)

less_is : (a b : ℕ) → nat_cmp a b ≡ Less → a < b
less_is a b h = grind (arith, nat_tests)

equal_is : (a b : ℕ) → nat_cmp a b ≡ Equal → a ≡ b
equal_is a b h = grind (arith, nat_tests)

abbrev SpotBefore : Spot → Spot → Type 0
SpotBefore x y = (x.0 < y.0) ⊎ ((x.0 ≡ y.0) × ((x.1 < y.1) ⊎ ((x.1 ≡ y.1) × ((x.2 < y.2) ⊎ ((x.2 ≡ y.2) × (x.3 < y.3))))))

first_two : (x y : Spot) → ordering_then (nat_cmp x.0 y.0) (nat_cmp x.1 y.1) ≡ Less → SpotBefore x y
first_two x y h = elim (then_less (nat_cmp x.0 y.0) (nat_cmp x.1 y.1) h) [
  | inl l ↦ inl (less_is x.0 y.0 l)
  | inr p ↦ inr (equal_is x.0 y.0 p.0, inl (less_is x.1 y.1 p.1))
]

first_three : (x y : Spot) → ordering_then (ordering_then (nat_cmp x.0 y.0) (nat_cmp x.1 y.1)) (nat_cmp x.2 y.2) ≡ Less → SpotBefore x y
first_three x y h = elim (then_less (ordering_then (nat_cmp x.0 y.0) (nat_cmp x.1 y.1)) (nat_cmp x.2 y.2) h) [
  | inl l ↦ first_two x y l
  | inr p ↦ let e = then_equal (nat_cmp x.0 y.0) (nat_cmp x.1 y.1) p.0 in inr (equal_is x.0 y.0 e.0, inr (equal_is x.1 y.1 e.1, inl (less_is x.2 y.2 p.1)))
]

spot_less : (x y : Spot) → spot_cmp x y ≡ Less → SpotBefore x y
spot_less x y h = elim (then_less (ordering_then (ordering_then (nat_cmp x.0 y.0) (nat_cmp x.1 y.1)) (nat_cmp x.2 y.2)) (nat_cmp x.3 y.3) h) [
  | inl l ↦ first_three x y l
  | inr p ↦
      let d = then_equal (ordering_then (nat_cmp x.0 y.0) (nat_cmp x.1 y.1)) (nat_cmp x.2 y.2) p.0 in
      let e = then_equal (nat_cmp x.0 y.0) (nat_cmp x.1 y.1) d.0 in
      inr (equal_is x.0 y.0 e.0, inr (equal_is x.1 y.1 e.1, inr (equal_is x.2 y.2 d.1, less_is x.3 y.3 p.1)))
]

before_kept : (a b : Kept) → SpotBefore (spot_of a) (spot_of b) → ComesBefore a b
before_kept (kept.Batch k t v) (kept.Batch j u w) (inl h) = h
before_kept (kept.Batch k t v) (kept.Batch j u w) (inr (e, inl h)) = absurd (omega (arith, h))
before_kept (kept.Batch k t v) (kept.Batch j u w) (inr (e, inr (f, inl h))) = absurd (omega (arith, h))
before_kept (kept.Batch k t v) (kept.Batch j u w) (inr (e, inr (f, inr (g, h)))) = absurd (omega (arith, h))
before_kept (kept.Batch k t v) (kept.Act u n d w) (inl h) = omega (arith, h)
before_kept (kept.Batch k t v) (kept.Act u n d w) (inr (e, h)) = omega (arith, e)
before_kept (kept.Act t m c v) (kept.Batch j u w) (inl h) = h
before_kept (kept.Act t m c v) (kept.Batch j u w) (inr (e, inl h)) = absurd (omega (arith, h))
before_kept (kept.Act t m c v) (kept.Batch j u w) (inr (e, inr (f, h))) = absurd (omega (arith, f))
before_kept (kept.Act t m c v) (kept.Act u n d w) (inl h) = inl h
before_kept (kept.Act t m c v) (kept.Act u n d w) (inr (e, inl h)) = absurd (omega (arith, h))
before_kept (kept.Act t m c v) (kept.Act u n d w) (inr (e, inr (f, h))) = inr (e, h)

sorted_ascends : (ks : List Kept) → IsStrictlySortedBy spot_cmp (map spot_of ks) → AllPairs ComesBefore ks
sorted_ascends [] s = λ i j d l m. absurd (omega arith)
sorted_ascends (k ∷ ks) s =
    let low : AllByRecursion (λ (b : Kept). spot_cmp (spot_of k) (spot_of b) ≡ Less) ks = mapped spot_of (λ (y : Spot). spot_cmp (spot_of k) y ≡ Less) ks (sorted_head spot_cmp (spot_of k) (map spot_of ks) s) in
    let before : AllByRecursion (ComesBefore k) ks =
    weaker (λ (b : Kept). spot_cmp (spot_of k) (spot_of b) ≡ Less) (ComesBefore k) ks (λ b e. before_kept k b (spot_less (spot_of k) (spot_of b) e)) low in
    AllPairs-cons ComesBefore k ks (All-from_recursion (ComesBefore k) ks before) (sorted_ascends ks (sorted_tail spot_cmp (spot_of k) (map spot_of ks) s))

-- ---- so many of them

-- the spots are those of all that is in, in their order
pub record AreSpots (logs : List (List Record)) (spots : List Spot) : Type 0 where
  pub ascend : IsStrictlySortedBy spot_cmp spots
  pub are_in : (x : Spot) → Contains spots x → IsSpotIn logs x
  pub all : (x : Spot) → IsSpotIn logs x → Contains spots x

pub are_spots : (logs : List (List Record)) (spots : List Spot) → HasSpots logs spots → AreSpots logs spots
are_spots logs spots has = record { ascend = has.ascend; are_in = λ x h. (has.all x).0 h; all = λ x h. (has.all x).1 h }

pub record KeptThrough (logs : List (List Record)) (spots : List Spot) (i : ℕ) (ks : List Kept) : Type 0 where
  pub are : map spot_of ks ≡ take i spots
  pub each : AllByRecursion (IsKeptIn logs) ks

pub kept_begin : (logs : List (List Record)) (spots : List Spot) → KeptThrough logs spots 0 []
kept_begin logs spots = record { are = refl; each = tt }

pub kept_step : (logs : List (List Record)) (spots : List Spot) (i : ℕ) (x : Spot) (ks : List Kept) (k : Kept) → i < length spots → x ≡ get_or spots i x → IsKeptAt logs x k
    → KeptThrough logs spots i ks → KeptThrough logs spots (i + 1) (ks ++ k ∷ [])
kept_step logs spots i x ks k l at w h = record {
  are = map-append spot_of ks (k ∷ []) ∙ ap (λ (z : List Spot). z ++ spot_of k ∷ []) h.are ∙ ap (λ (z : Spot). take i spots ++ z ∷ []) w.at ∙ sym (taken spots i x l at);
  each = all_join (IsKeptIn logs) ks (k ∷ []) h.each (w.is_kept, tt);
}

pub spot_in : (logs : List (List Record)) (spots : List Spot) (i : ℕ) (x : Spot) → i < length spots → x ≡ get_or spots i x → AreSpots logs spots → IsSpotIn logs x
spot_in logs spots i x l at are = are.are_in x (i, l, sym at)

batch_of_spot : (k : Kept) (b : Bid) → spot_of k ≡ (b.0, 0, 0, 0) → commit_of k ≡ keys.Commit b
batch_of_spot (kept.Batch j t v) b e = ap (λ (x : Spot). keys.Commit (bid_at x.0)) e
batch_of_spot (kept.Act t m c v) b e = absurd (let bad : 1 ≡ 0 = ap (λ (x : Spot). x.1) e in omega (arith, bad))

act_of_spot : (k : Kept) (m : Bid) (c : ℕ) (t : Tid) → spot_of k ≡ (m.0, 1, c, t.0) → commit_of k ≡ keys.Act t
act_of_spot (kept.Batch j u v) m c t e = absurd (let bad : 0 ≡ 1 = ap (λ (x : Spot). x.1) e in omega (arith, bad))
act_of_spot (kept.Act u n d v) m c t e = ap (λ (x : Spot). keys.Act (tid_at x.3)) e

listed : (logs : List (List Record)) (spots : List Spot) (ks : List Kept) (x : Spot) (k : Key) → map spot_of ks ≡ spots → AreSpots logs spots → IsSpotIn logs x → ((y : Kept) → spot_of y ≡ x → commit_of y ≡ k) → Contains (map commit_of ks) k
listed logs spots ks x k same are i told =
    let here : Contains (map spot_of ks) x = subst (λ (z : List Spot). Contains z x) (sym same) (are.all x i) in
    let r = contains_unmap spot_of ks x here in
    subst (λ (z : Key). Contains (map commit_of ks) z) (told r.0 r.2) (contains_map commit_of ks r.0 r.1)

pub kept_end : (logs : List (List Record)) (spots : List Spot) (i : ℕ) (ks : List Kept) → length spots ≤ i → IsAllWhole logs → AreSpots logs spots → KeptThrough logs spots i ks → IsCommitted logs ks
kept_end logs spots i ks l whole are h =
    let same : map spot_of ks ≡ spots = h.are ∙ take_all i spots l in
    record {
      ascend = sorted_ascends ks (subst (IsStrictlySortedBy spot_cmp) (sym same) are.ascend);
      each = h.each;
      all_batches = λ b p. listed logs spots ks (b.0, 0, 0, 0) (keys.Commit b) same are (inl (b.0, p, refl)) (λ y e. batch_of_spot y b e);
      all_acts = λ t p. let w = whole.acts t p in listed logs spots ks (w.0.0, 1, w.1, t.0) (keys.Act t) same are (inr (t.0, p, (w.0, w.1, w.2, w.3, w.4, refl))) (λ y e. act_of_spot y w.0 w.1 t e);
    }
