-- Bytes are the items of one list alone, and a list of items is read one after the other.
use Rattle.std.proofs.Common.{◌≡◌, ◌≢◌, ℕ, ◌+◌, ◌^◌, ◌<◌, List, [], ◌∷◌, ◌++◌, length, refl, sym, ap, ◌∙◌, append_assoc, arith}
use Rattle.std.specs.List.{AllByRecursion}
use Rattle.std.specs.Int.{Width, w16, to_be_bytes}
use Rattle.std.proofs.lemmas.List.{length-append, append-nil}
use Rattle.std.proofs.lemmas.List.Concat.{flat_map-append}
use Rattle.snap_base.proofs.Lists.{all_push}
use Rattle.gate_log.specs.declared.logs.LogItem.{LogItem}
use Rattle.gate_log.specs.Bytes.{IsItem, item_bytes, items_bytes, placed_items}
use Rattle.gate_log.specs.Reading.{counted_piece, BeginsItem, BeginsNoItem, FillsNoItems}
use Rattle.gate_log.proofs.ReadingCounted.{IsWide, wide16, counted_same}

-- ---- items

item_same : (a x b y : List ℕ) → IsItem a → IsItem b → item_bytes a ++ x ≡ item_bytes b ++ y → (a ≡ b) × (x ≡ y)
item_same a x b y p q e = counted_same w16 (2 ^ 16) wide16 a x b y (omega (arith, p.short)) (omega (arith, q.short)) e

item_bytes-some : (w : Width) (limit : ℕ) → IsWide w limit → (item rest : List ℕ) → 0 < length item → 0 < length (counted_piece w item ++ rest)
item_bytes-some w limit wide item rest some = omega (arith, length-append (to_be_bytes w (length item) ++ item) rest, length-append (to_be_bytes w (length item)) item)

not_empty : (bytes : List ℕ) → 0 < length bytes → bytes ≢ []
not_empty bytes some e = omega (arith, ap length e)

item_not_empty : (item rest : List ℕ) → IsItem item → item_bytes item ++ rest ≢ []
item_not_empty item rest ok e = not_empty (counted_piece w16 item ++ rest) (item_bytes-some w16 (2 ^ 16) wide16 item rest (omega (arith, ok.some))) e

-- the items of the one list begin the other
pub record Continues (items others : List (List ℕ)) (rest : List ℕ) : Type 0 where
  pub parts : (more : List (List ℕ)) × (others ≡ items ++ more) × AllByRecursion IsItem more × (rest ≡ items_bytes more)

pub items_begin : (items others : List (List ℕ)) (rest : List ℕ) → AllByRecursion IsItem items → AllByRecursion IsItem others → items_bytes items ++ rest ≡ items_bytes others → Continues items others rest
items_begin [] others rest p q e = record { parts = (others, refl, q, e) }
items_begin (i ∷ is) [] rest p q e = absurd (item_not_empty i (items_bytes is ++ rest) p.0 (sym (append_assoc (item_bytes i) (items_bytes is) rest) ∙ e))
items_begin (i ∷ is) (o ∷ os) rest p q e =
    let s = item_same i (items_bytes is ++ rest) o (items_bytes os) p.0 q.0 (sym (append_assoc (item_bytes i) (items_bytes is) rest) ∙ e) in
    let r = (items_begin is os rest p.1 q.1 s.1).parts in
    record { parts = (r.0, ap (λ (x : List ℕ). x ∷ os) (sym s.0) ∙ ap (λ (xs : List (List ℕ)). i ∷ xs) r.1, r.2, r.3) }

-- bytes are the items of one list
pub items_same : (items others : List (List ℕ)) → AllByRecursion IsItem items → AllByRecursion IsItem others → items_bytes items ≡ items_bytes others → items ≡ others
items_same [] [] p q e = refl
items_same [] (o ∷ os) p q e = absurd (item_not_empty o (items_bytes os) q.0 (sym e))
items_same (i ∷ is) [] p q e = absurd (item_not_empty i (items_bytes is) p.0 e)
items_same (i ∷ is) (o ∷ os) p q e =
    let s = item_same i (items_bytes is) o (items_bytes os) p.0 q.0 e in
    ap (λ (x : List ℕ). x ∷ is) s.0 ∙ ap (λ (xs : List (List ℕ)). o ∷ xs) (items_same is os p.1 q.1 s.1)

-- ---- reading them

-- items stand before `place`, and are added to those found
pub record ItemsSoFar (first : ℕ) (bytes : List ℕ) (old : List LogItem) (place : ℕ) (rest : List ℕ) (new : List LogItem) : Type 0 where
  pub parts : (items : List (List ℕ)) × AllByRecursion IsItem items × (bytes ≡ items_bytes items ++ rest) × (place ≡ first + length (items_bytes items)) × (new ≡ old ++ placed_items first items)

length-item_bytes : (item : List ℕ) → length (item_bytes item) ≡ 2 + length item
length-item_bytes item = length-append (to_be_bytes w16 (length item)) item ∙ ap (λ (n : ℕ). n + length item) (wide16.len (length item))

placed_items-push : (place : ℕ) (items : List (List ℕ)) (item : List ℕ) → placed_items place (items ++ item ∷ []) ≡ placed_items place items ++ record { at = place + length (items_bytes items) + 2; bytes = item } ∷ []
placed_items-push place [] item = ap (λ (n : ℕ). record { at = n; bytes = item } ∷ []) (omega arith)
placed_items-push place (i ∷ is) item =
    let here : place + 2 + length i + length (items_bytes is) + 2 ≡ place + length (items_bytes (i ∷ is)) + 2 = omega (arith, length-append (item_bytes i) (items_bytes is), length-item_bytes i) in
    ap (λ (xs : List LogItem). record { at = place + 2; bytes = i } ∷ xs) (placed_items-push (place + 2 + length i) is item ∙ ap (λ (n : ℕ). placed_items (place + 2 + length i) is ++ record { at = n; bytes = item } ∷ []) here)

pub items_more : (first : ℕ) (bytes : List ℕ) (old : List LogItem) (place : ℕ) (rest : List ℕ) (new : List LogItem) (item behind : List ℕ) (newer : List LogItem)
    → ItemsSoFar first bytes old place rest new → BeginsItem rest item behind → newer ≡ new ++ record { at = place + 2; bytes = item } ∷ []
    → ItemsSoFar first bytes old (place + (2 + length item)) behind newer
items_more first bytes old place rest new item behind newer so_far begins e =
    let s = so_far.parts in
    let all : items_bytes (s.0 ++ item ∷ []) ≡ items_bytes s.0 ++ item_bytes item = flat_map-append item_bytes s.0 (item ∷ []) ∙ ap (λ (x : List ℕ). items_bytes s.0 ++ x) (append-nil (item_bytes item)) in
    let whole : bytes ≡ items_bytes (s.0 ++ item ∷ []) ++ behind =
    s.2 ∙ ap (λ (x : List ℕ). items_bytes s.0 ++ x) begins.parts ∙ sym (append_assoc (items_bytes s.0) (item_bytes item) behind) ∙ ap (λ (x : List ℕ). x ++ behind) (sym all) in
    let placed : newer ≡ old ++ placed_items first (s.0 ++ item ∷ []) =
    e ∙ ap (λ (x : List LogItem). x ++ record { at = place + 2; bytes = item } ∷ []) s.4 ∙ append_assoc old (placed_items first s.0) (record { at = place + 2; bytes = item } ∷ [])
    ∙ ap (λ (n : ℕ). old ++ (placed_items first s.0 ++ record { at = n + 2; bytes = item } ∷ [])) s.3
    ∙ ap (λ (x : List LogItem). old ++ x) (sym (placed_items-push first s.0 item)) in
    record { parts = (s.0 ++ item ∷ [], all_push IsItem s.0 item s.1 begins.is_item, whole, omega (arith, s.3, ap length all, length-append (items_bytes s.0) (item_bytes item), length-item_bytes item), placed) }

no_more : (rest : List ℕ) (more : List (List ℕ)) → rest ≢ [] → BeginsNoItem rest → AllByRecursion IsItem more → rest ≡ items_bytes more → ⊥
no_more rest [] some none p e = some e
no_more rest (m ∷ ms) some none p e = none.none m (items_bytes ms) p.0 e

pub items_torn : (first : ℕ) (bytes : List ℕ) (old : List LogItem) (place : ℕ) (rest : List ℕ) (new : List LogItem)
    → ItemsSoFar first bytes old place rest new → rest ≢ [] → BeginsNoItem rest → FillsNoItems bytes
items_torn first bytes old place rest new so_far some none = record {
  none = λ others p e.
      let s = so_far.parts in
      let c = (items_begin s.0 others rest s.1 p (sym s.2 ∙ e)).parts in
      no_more rest c.0 some none c.2 c.3;
}

pub length-item_begins : (bytes item rest : List ℕ) → BeginsItem bytes item rest → length bytes ≡ 2 + length item + length rest
length-item_begins bytes item rest h = ap length h.parts ∙ length-append (item_bytes item) rest ∙ ap (λ (n : ℕ). n + length rest) (length-item_bytes item)
