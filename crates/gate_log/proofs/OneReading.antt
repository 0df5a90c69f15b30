-- Bytes are a log in one way at most.
use Rattle.std.proofs.Common.{◌≡◌, ◌≢◌, ℕ, ◌<◌, ◌^◌, inl, inr, List, [], ◌∷◌, ◌++◌, length, get_or, take, drop, refl, sym, ◌∙◌, ap, arith, append_assoc}
use Rattle.std.proofs.lemmas.List.{take_at, drop_at}
use Rattle.std.proofs.lemmas.Nat.{from_be_bytes-to_be_bytes_2, from_be_bytes-to_be_bytes_4}
use Rattle.std.specs.Int.{to_be_bytes, from_be_bytes, w16, w32}
use Rattle.std.specs.List.{AllByRecursion}
use Rattle.gate_log.specs.Bytes.{header, item_bytes, items_bytes, group_bytes, blocks, items_of, IsGroup, IsLog, IsLogAt}
use Rattle.gate_log.proofs.ReadingItems.{items_same}

-- equal lists have equal fronts of one length
pub same_front : (us vs xs ys : List ℕ) → length us ≡ length vs → us ++ xs ≡ vs ++ ys → (us ≡ vs) × (xs ≡ ys)
same_front us vs xs ys size same = (
  sym (take_at us xs (length us) refl) ∙ ap (λ (l : List ℕ). take (length us) l) same ∙ take_at vs ys (length us) (sym size),
  sym (drop_at us xs (length us) refl) ∙ ap (λ (l : List ℕ). drop (length us) l) same ∙ drop_at vs ys (length us) (sym size),
)

pub one_item : (u v xs ys : List ℕ) → length u < 2 ^ 16 → length v < 2 ^ 16 → item_bytes u ++ xs ≡ item_bytes v ++ ys → (u ≡ v) × (xs ≡ ys)
one_item u v xs ys u_short v_short same =
    let heads = same_front (to_be_bytes w16 (length u)) (to_be_bytes w16 (length v)) (u ++ xs) (v ++ ys) refl same in
    let size : length u ≡ length v =
    sym (from_be_bytes-to_be_bytes_2 (length u) u_short) ∙ ap (λ (l : List ℕ). from_be_bytes w16 l) heads.0 ∙ from_be_bytes-to_be_bytes_2 (length v) v_short in
    same_front u v xs ys size heads.1

pub one_group : (us vs : List (List ℕ)) (xs ys : List ℕ) → IsGroup us → IsGroup vs → group_bytes us ++ xs ≡ group_bytes vs ++ ys → (us ≡ vs) × (xs ≡ ys)
one_group us vs xs ys us_is vs_is same =
    let n = length (items_bytes us) in
    let m = length (items_bytes vs) in
    let heads = same_front (to_be_bytes w32 n) (to_be_bytes w32 m) (items_bytes us ++ xs) (items_bytes vs ++ ys) refl same in
    let size : n ≡ m =
    sym (from_be_bytes-to_be_bytes_4 n us_is.short) ∙ ap (λ (l : List ℕ). from_be_bytes w32 l) heads.0 ∙ from_be_bytes-to_be_bytes_4 m vs_is.short in
    let parts = same_front (items_bytes us) (items_bytes vs) xs ys size heads.1 in
    (items_same us vs us_is.items vs_is.items parts.0, parts.1)

behind_gate : (group front rest : List ℕ) → ((1 ∷ group) ++ front) ++ rest ≡ 1 ∷ (group ++ (front ++ rest))
behind_gate group front rest = ap (λ (l : List ℕ). 1 ∷ l) (append_assoc group front rest)

one_groups : (gs hs : List (List (List ℕ))) (g h : ℕ) (xs ys : List ℕ) → AllByRecursion IsGroup gs → AllByRecursion IsGroup hs
    → g ≢ 1 → h ≢ 1 → blocks gs ++ g ∷ xs ≡ blocks hs ++ h ∷ ys → gs ≡ hs
one_groups [] [] g h xs ys gs_are hs_are g_closed h_closed same = refl
one_groups [] (l ∷ hs) g h xs ys gs_are hs_are g_closed h_closed same = absurd (g_closed (cc))
one_groups (k ∷ gs) [] g h xs ys gs_are hs_are g_closed h_closed same = absurd (h_closed (cc))
one_groups (k ∷ gs) (l ∷ hs) g h xs ys gs_are hs_are g_closed h_closed same =
    let tails : group_bytes k ++ (blocks gs ++ g ∷ xs) ≡ group_bytes l ++ (blocks hs ++ h ∷ ys) =
    ap (λ (b : List ℕ). drop 1 b) (sym (behind_gate (group_bytes k) (blocks gs) (g ∷ xs)) ∙ same ∙ behind_gate (group_bytes l) (blocks hs) (h ∷ ys)) in
    let first = one_group k l (blocks gs ++ g ∷ xs) (blocks hs ++ h ∷ ys) gs_are.0 hs_are.0 tails in
    let rest = one_groups gs hs g h xs ys gs_are.1 hs_are.1 g_closed h_closed first.1 in
    ap (λ (u : List (List ℕ)). u ∷ gs) first.0 ∙ ap (λ (us : List (List (List ℕ))). l ∷ us) rest

-- two logs in the same bytes have one mark
pub same_mark : (m n : ℕ) (xs ys bytes : List ℕ) → bytes ≡ header m ++ xs → bytes ≡ header n ++ ys → (m ≡ n) × (xs ≡ ys)
same_mark m n xs ys bytes e f =
    let same : header m ++ xs ≡ header n ++ ys = sym e ∙ f in
    (ap (λ (l : List ℕ). get_or l 7 0) same, ap (λ (l : List ℕ). drop 8 l) same)

pub reading : (bytes : List ℕ) (e f : ℕ) (xs ys : List (List ℕ)) → IsLogAt bytes e xs → IsLogAt bytes f ys → (e ≡ f) × (xs ≡ ys)
reading bytes e f xs ys one other =
    let p = one.parts in
    let q = other.parts in
    let same : blocks p.0 ++ p.1 ∷ p.2 ≡ blocks q.0 ++ q.1 ∷ q.2 =
    (same_mark one.mark other.mark (blocks p.0 ++ p.1 ∷ p.2) (blocks q.0 ++ q.1 ∷ q.2) bytes
    (p.5 ∙ append_assoc (header one.mark) (blocks p.0) (p.1 ∷ p.2)) (q.5 ∙ append_assoc (header other.mark) (blocks q.0) (q.1 ∷ q.2))).1 in
    let groups : p.0 ≡ q.0 = one_groups p.0 q.0 p.1 q.1 p.2 q.2 p.3 q.3 p.4 q.4 same in
    let sized : (gs : List (List (List ℕ))) → length (header one.mark ++ blocks gs) ≡ length (header other.mark ++ blocks gs) = λ gs. refl in (
      p.6 ∙ ap (λ (gs : List (List (List ℕ))). length (header one.mark ++ blocks gs)) groups ∙ sized q.0 ∙ sym q.6,
      p.7 ∙ ap (λ (gs : List (List (List ℕ))). items_of gs) groups ∙ sym q.7,
    )

-- also where a file is too short to hold an item
pub one_list : (bytes : List ℕ) (xs ys : List (List ℕ)) → IsLog bytes xs → IsLog bytes ys → xs ≡ ys
one_list bytes xs ys (inl one) (inl other) = one.1 ∙ sym other.1
one_list bytes xs ys (inl one) (inr other) = absurd (omega (arith, one.0, other.0))
one_list bytes xs ys (inr one) (inl other) = absurd (omega (arith, one.0, other.0))
one_list bytes xs ys (inr one) (inr other) = (reading bytes one.1.0 other.1.0 xs ys one.1.1 other.1.1).1
