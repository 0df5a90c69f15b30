-- Groups are read one after the other, and in one way alone.
use Rattle.std.proofs.Common.{◌≡◌, ◌≢◌, ℕ, ◌+◌, ◌-◌, ◌<◌, ◌≤◌, List, [], ◌∷◌, ◌++◌, length, get_or, take, drop, refl, sym, ap, subst, ◌∙◌, append_assoc, arith}
use Rattle.std.specs.List.{AllByRecursion}
use Rattle.std.specs.Int.{w32, to_be_bytes}
use Rattle.std.proofs.Math.Seq.{drop-cons}
use Rattle.std.proofs.lemmas.List.{length-append, append-nil, take_all, take-append-drop, length-drop}
use Rattle.std.proofs.lemmas.List.Concat.{flat_map-append}
use Rattle.snap_base.proofs.Lists.{all_push}
use Rattle.gate_log.specs.declared.logs.LogItem.{LogItem}
use Rattle.gate_log.specs.Bytes.{magic, header, IsGroup, items_bytes, group_bytes, blocks, placed_items, placed_groups, IsLogAt, IsDamagedAt}
use Rattle.gate_log.specs.Reading.{BeginsGroup, GroupsSoFar}
use Rattle.gate_log.proofs.ReadingCounted.{wide32}
use Rattle.gate_log.proofs.OneReading.{same_mark, one_group}

-- ---- groups

length-group_bytes : (group : List (List ℕ)) → length (group_bytes group) ≡ 4 + length (items_bytes group)
length-group_bytes group = length-append (to_be_bytes w32 (length (items_bytes group))) (items_bytes group) ∙ ap (λ (n : ℕ). n + length (items_bytes group)) (wide32.len (length (items_bytes group)))

pub length-group_begins : (place : ℕ) (bytes rest : List ℕ) (old new : List LogItem) → BeginsGroup place bytes rest old new → length rest ≤ length bytes
length-group_begins place bytes rest old new h = omega (arith, ap length h.parts.2, length-append (group_bytes h.parts.0) rest)

blocks-push : (groups : List (List (List ℕ))) (group : List (List ℕ)) → blocks (groups ++ group ∷ []) ≡ blocks groups ++ 1 ∷ group_bytes group
blocks-push groups group = flat_map-append (λ (g : List (List ℕ)). 1 ∷ group_bytes g) groups (group ∷ []) ∙ ap (λ (x : List ℕ). blocks groups ++ 1 ∷ x) (append-nil (group_bytes group))

placed-push : (place : ℕ) (groups : List (List (List ℕ))) (group : List (List ℕ)) → placed_groups place (groups ++ group ∷ []) ≡ placed_groups place groups ++ placed_items (place + length (blocks groups) + 5) group
placed-push place [] group = append-nil (placed_items (place + 5) group) ∙ ap (λ (n : ℕ). placed_items n group) (omega arith)
placed-push place (g ∷ gs) group =
    let here : place + 5 + length (items_bytes g) + length (blocks gs) + 5 ≡ place + length (blocks (g ∷ gs)) + 5 = omega (arith, length-append (1 ∷ group_bytes g) (blocks gs), length-group_bytes g) in
    ap (λ (xs : List LogItem). placed_items (place + 5) g ++ xs) (placed-push (place + 5 + length (items_bytes g)) gs group ∙ ap (λ (n : ℕ). placed_groups (place + 5 + length (items_bytes g)) gs ++ placed_items n group) here)
    ∙ sym (append_assoc (placed_items (place + 5) g) (placed_groups (place + 5 + length (items_bytes g)) gs) (placed_items (place + length (blocks (g ∷ gs)) + 5) group))

-- one more group, over any front in the header's place
grown : (front : List ℕ) (bytes rest tail behind : List ℕ) (groups : List (List (List ℕ))) (group : List (List ℕ))
    → bytes ≡ (front ++ blocks groups) ++ rest → rest ≡ 1 ∷ tail → tail ≡ group_bytes group ++ behind
    → (bytes ≡ (front ++ blocks (groups ++ group ∷ [])) ++ behind) × (length (front ++ blocks (groups ++ group ∷ [])) + length behind ≡ length (front ++ blocks groups) + length rest)
grown front bytes rest tail behind groups group e gate begins =
    let open_gate : rest ≡ (1 ∷ group_bytes group) ++ behind = gate ∙ ap (λ (x : List ℕ). 1 ∷ x) begins in
    let all : front ++ blocks (groups ++ group ∷ []) ≡ (front ++ blocks groups) ++ 1 ∷ group_bytes group = ap (λ (x : List ℕ). front ++ x) (blocks-push groups group) ∙ sym (append_assoc front (blocks groups) (1 ∷ group_bytes group)) in (
      e ∙ ap (λ (x : List ℕ). (front ++ blocks groups) ++ x) open_gate ∙ sym (append_assoc (front ++ blocks groups) (1 ∷ group_bytes group) behind) ∙ ap (λ (x : List ℕ). x ++ behind) (sym all),
      omega (arith, ap length open_gate, length-append (1 ∷ group_bytes group) behind, ap length all, length-append (front ++ blocks groups) (1 ∷ group_bytes group)),
    )

-- what is read behind an open gate
pub behind_gate : (rest : List ℕ) (n : ℕ) → 0 < length rest → get_or rest 0 0 ≡ 1 → n ≡ length rest - 1 → rest ≡ 1 ∷ take n (drop 1 rest)
behind_gate [] n some gate e = absurd (omega arith)
behind_gate (x ∷ xs) n some gate e = ap (λ (y : ℕ). y ∷ xs) gate ∙ ap (λ (ys : List ℕ). 1 ∷ ys) (sym (take_all n xs (omega arith)))

-- behind the header, before any group
pub groups_begin : (bytes : List ℕ) (found : List LogItem) → 8 < length bytes → take 7 bytes ≡ magic → found ≡ []
    → GroupsSoFar bytes 8 (take (length bytes - 8) (drop 8 bytes)) found × (8 + length (take (length bytes - 8) (drop 8 bytes)) ≡ length bytes)
groups_begin bytes found long begins none =
    let rest : List ℕ = drop 8 bytes in
    let few : length rest ≡ length bytes - 8 = length-drop 8 bytes in
    let all : take (length bytes - 8) rest ≡ rest = take_all (length bytes - 8) rest (omega (arith, few)) in
    let eighth : drop 7 bytes ≡ get_or bytes 7 0 ∷ rest = drop-cons bytes 7 0 (omega (arith, long)) in
    let parted : bytes ≡ header (get_or bytes 7 0) ++ rest =
    sym (take-append-drop 7 bytes) ∙ ap (λ (l : List ℕ). l ++ drop 7 bytes) begins ∙ ap (λ (l : List ℕ). magic ++ l) eighth ∙ sym (append_assoc magic (get_or bytes 7 0 ∷ []) rest) in
    subst (λ (l : List ℕ). GroupsSoFar bytes 8 l found × (8 + length l ≡ length bytes)) (sym all)
    (record { some = omega (arith, few, long); mark = get_or bytes 7 0; parts = ([], tt, parted, refl, none) }, omega (arith, few, long))

pub groups_more : (bytes : List ℕ) (place : ℕ) (rest : List ℕ) (found : List LogItem) (tail behind : List ℕ) (newer : List LogItem)
    → GroupsSoFar bytes place rest found → rest ≡ 1 ∷ tail → BeginsGroup place tail behind found newer
    → GroupsSoFar bytes (place + (length rest - length behind)) behind newer
groups_more bytes place rest found tail behind newer so_far gate begins =
    let s = so_far.parts in
    let b = begins.parts in
    let g = grown (header so_far.mark) bytes rest tail behind s.0 b.0 s.2 gate b.2 in
    let items : newer ≡ placed_groups 8 (s.0 ++ b.0 ∷ []) =
    b.3 ∙ ap (λ (xs : List LogItem). xs ++ placed_items (place + 5) b.0) s.4
    ∙ ap (λ (n : ℕ). placed_groups 8 s.0 ++ placed_items (n + 5) b.0) (s.3 ∙ length-append (header so_far.mark) (blocks s.0))
    ∙ sym (placed-push 8 s.0 b.0) in
    record {
      some = begins.some;
      mark = so_far.mark;
      parts = (s.0 ++ b.0 ∷ [], all_push IsGroup s.0 b.0 s.1 b.1, g.0, omega (arith, g.1, s.3, ap length gate, ap length b.2, length-append (group_bytes b.0) behind), items);
    }

pub groups_length : (total place : ℕ) (rest : List ℕ) (gate : ℕ) (tail behind : List ℕ) (found newer : List LogItem)
    → place + length rest ≡ total → rest ≡ 1 ∷ tail → BeginsGroup gate tail behind found newer
    → place + (length rest - length behind) + length behind ≡ total
groups_length total place rest gate tail behind found newer e open_gate begins =
    omega (arith, ap length open_gate, length-group_begins gate tail behind found newer begins)

-- ---- one reading

no_group_again : (rest tail more : List ℕ) (group : List (List ℕ)) (gate : ℕ) → ((group : List (List ℕ)) (gate : ℕ) (more : List ℕ) → IsGroup group → rest ≢ group_bytes group ++ gate ∷ more)
    → IsGroup group → rest ≡ group_bytes group ++ tail → tail ≡ gate ∷ more → ⊥
no_group_again rest tail more group gate none ok e f = none group gate more ok (e ∙ ap (λ (x : List ℕ). group_bytes group ++ x) f)

next_gate : (groups : List (List (List ℕ))) (gate : ℕ) (rest : List ℕ) → (head : ℕ) × (more : List ℕ) × (blocks groups ++ gate ∷ rest ≡ head ∷ more)
next_gate [] gate rest = (gate, rest, refl)
next_gate (g ∷ gs) gate rest = (1, (group_bytes g ++ blocks gs) ++ gate ∷ rest, refl)

-- an open gate with no group behind it stands where the groups end, and the gate there is it
pub damage_place : (groups others : List (List (List ℕ))) (rest more : List ℕ) (gate : ℕ) → AllByRecursion IsGroup groups → AllByRecursion IsGroup others
    → ((group : List (List ℕ)) (gate : ℕ) (more : List ℕ) → IsGroup group → rest ≢ group_bytes group ++ gate ∷ more)
    → blocks groups ++ 1 ∷ rest ≡ blocks others ++ gate ∷ more → (gate ≢ 1) → ⊥
damage_place [] [] rest more gate p q none e closed = closed (sym (ap (λ (b : List ℕ). get_or b 0 0) e))
damage_place [] (o ∷ os) rest more gate p q none e closed =
    let n = next_gate os gate more in
    no_group_again rest (blocks os ++ gate ∷ more) n.1 o n.0 none q.0 (ap (drop 1) e ∙ append_assoc (group_bytes o) (blocks os) (gate ∷ more)) n.2
damage_place (g ∷ gs) [] rest more gate p q none e closed = closed (sym (ap (λ (b : List ℕ). get_or b 0 0) e))
damage_place (g ∷ gs) (o ∷ os) rest more gate p q none e closed =
    let s = one_group g o (blocks gs ++ 1 ∷ rest) (blocks os ++ gate ∷ more) p.0 q.0 (sym (append_assoc (group_bytes g) (blocks gs) (1 ∷ rest)) ∙ ap (drop 1) e ∙ append_assoc (group_bytes o) (blocks os) (gate ∷ more)) in
    damage_place gs os rest more gate p.1 q.1 none s.1 closed

pub damage_once : (groups others : List (List (List ℕ))) (rest more : List ℕ) → AllByRecursion IsGroup groups → AllByRecursion IsGroup others
    → ((group : List (List ℕ)) (gate : ℕ) (more : List ℕ) → IsGroup group → rest ≢ group_bytes group ++ gate ∷ more)
    → ((group : List (List ℕ)) (gate : ℕ) (after : List ℕ) → IsGroup group → more ≢ group_bytes group ++ gate ∷ after)
    → blocks groups ++ 1 ∷ rest ≡ blocks others ++ 1 ∷ more → groups ≡ others
damage_once [] [] rest more p q none nor e = refl
damage_once [] (o ∷ os) rest more p q none nor e =
    let n = next_gate os 1 more in
    absurd (no_group_again rest (blocks os ++ 1 ∷ more) n.1 o n.0 none q.0 (ap (drop 1) e ∙ append_assoc (group_bytes o) (blocks os) (1 ∷ more)) n.2)
damage_once (g ∷ gs) [] rest more p q none nor e =
    let n = next_gate gs 1 rest in
    absurd (no_group_again more (blocks gs ++ 1 ∷ rest) n.1 g n.0 nor p.0 (sym (ap (drop 1) e) ∙ append_assoc (group_bytes g) (blocks gs) (1 ∷ rest)) n.2)
damage_once (g ∷ gs) (o ∷ os) rest more p q none nor e =
    let s = one_group g o (blocks gs ++ 1 ∷ rest) (blocks os ++ 1 ∷ more) p.0 q.0 (sym (append_assoc (group_bytes g) (blocks gs) (1 ∷ rest)) ∙ ap (drop 1) e ∙ append_assoc (group_bytes o) (blocks os) (1 ∷ more)) in
    ap (λ (x : List (List ℕ)). x ∷ gs) s.0 ∙ ap (λ (xs : List (List (List ℕ))). o ∷ xs) (damage_once gs os rest more p.1 q.1 none nor s.1)

-- the same behind two headers
past_header : (m n : ℕ) (a b x y : List ℕ) (bytes : List ℕ) → bytes ≡ (header m ++ a) ++ x → bytes ≡ (header n ++ b) ++ y → a ++ x ≡ b ++ y
past_header m n a b x y bytes e f = (same_mark m n (a ++ x) (b ++ y) bytes (e ∙ append_assoc (header m) a x) (f ∙ append_assoc (header n) b y)).1

pub damaged_or_log : (bytes : List ℕ) (offset end : ℕ) (items : List (List ℕ)) → IsDamagedAt bytes offset → IsLogAt bytes end items → ⊥
damaged_or_log bytes offset end items d l =
    let a = d.parts in
    let b = l.parts in
    damage_place a.0 b.0 a.1 b.2 b.1 a.2 b.3 a.5 (past_header d.mark l.mark (blocks a.0) (blocks b.0) (1 ∷ a.1) (b.1 ∷ b.2) bytes a.3 b.5) b.4

pub damaged_once : (bytes : List ℕ) (offset other : ℕ) → IsDamagedAt bytes offset → IsDamagedAt bytes other → offset ≡ other
damaged_once bytes offset other d f =
    let a = d.parts in
    let b = f.parts in
    let same = damage_once a.0 b.0 a.1 b.1 a.2 b.2 a.5 b.5 (past_header d.mark f.mark (blocks a.0) (blocks b.0) (1 ∷ a.1) (1 ∷ b.1) bytes a.3 b.3) in
    let sized : (gs : List (List (List ℕ))) → length (header d.mark ++ blocks gs) ≡ length (header f.mark ++ blocks gs) = λ gs. refl in
    a.4 ∙ ap (λ (gs : List (List (List ℕ))). length (header d.mark ++ blocks gs)) same ∙ sized b.0 ∙ sym b.4
