-- A log behind its last gate, and a log with one group more.
use Rattle.std.proofs.Common.{◌≡◌, ◌≢◌, ℕ, ◌+◌, ◌≤◌, inl, inr, List, [], ◌∷◌, ◌++◌, length, refl, sym, ◌∙◌, ap, arith, append_assoc, length-append}
use Rattle.std.proofs.lemmas.List.{append-nil}
use Rattle.std.proofs.lemmas.Grind.{flat_map-append}
use Rattle.std.proofs.lemmas.Bool.{cases_lt}
use Rattle.std.specs.List.{AllByRecursion}
use Rattle.snap_base.proofs.Lists.{all_push}
use Rattle.gate_log.specs.Bytes.{header, group_bytes, blocks, items_of, IsGroup, IsLog, IsLogAt}

-- where there is room for no block, there is no item
no_items : (head : List ℕ) (groups : List (List (List ℕ))) (gate : ℕ) (rest : List ℕ)
    → length head ≡ 8 → length ((head ++ blocks groups) ++ gate ∷ rest) ≤ 9 → items_of groups ≡ []
no_items head [] gate rest eight short = refl
no_items head (group ∷ groups) gate rest eight short =
    absurd (omega (arith, length-append (head ++ blocks (group ∷ groups)) (gate ∷ rest), length-append head (blocks (group ∷ groups))))

-- a log at a gate is a log
pub log_of : (bytes : List ℕ) (end : ℕ) (items : List (List ℕ)) → IsLogAt bytes end items → IsLog bytes items
log_of bytes end items log = elim (cases_lt 9 (length bytes)) [
  | inl long ↦ inr (long, (end, log))
  | inr short ↦
      let p = log.parts in
      let same : length ((header log.mark ++ blocks p.0) ++ p.1 ∷ p.2) ≡ length bytes = sym (ap (λ (l : List ℕ). length l) p.5) in
      inl (short, p.7 ∙ no_items (header log.mark) p.0 p.1 p.2 refl (omega (arith, same, short)))
]

-- whatever stands behind a gate that is not open, and whatever else that gate is
pub closed_log : (mark : ℕ) (groups : List (List (List ℕ))) → AllByRecursion IsGroup groups → (gate : ℕ) (rest : List ℕ) → gate ≢ 1
    → IsLogAt ((header mark ++ blocks groups) ++ gate ∷ rest) (length (header mark ++ blocks groups)) (items_of groups)
closed_log mark groups all gate rest closed = record { mark = mark; parts = (groups, gate, rest, all, closed, refl, refl, refl) }

regrouped : (head front group tail : List ℕ)
    → (head ++ front) ++ 1 ∷ ((group ++ 0 ∷ []) ++ tail) ≡ (head ++ (front ++ ((1 ∷ group) ++ []))) ++ 0 ∷ tail
regrouped head front group tail = simp (append_assoc, append-nil)

regrouped_length : (head front group : List ℕ)
    → length (head ++ front) + length (group ++ 0 ∷ []) ≡ length (head ++ (front ++ ((1 ∷ group) ++ [])))
regrouped_length head front group =
    omega (arith, length-append head front, length-append group (0 ∷ []), length-append head (front ++ ((1 ∷ group) ++ [])), length-append front ((1 ∷ group) ++ []), length-append (1 ∷ group) [])

-- behind an open gate a group and a closed gate
pub grown_log : (mark : ℕ) (groups : List (List (List ℕ))) → AllByRecursion IsGroup groups → (added : List (List ℕ)) → IsGroup added → (rest : List ℕ)
    → IsLogAt ((header mark ++ blocks groups) ++ 1 ∷ ((group_bytes added ++ 0 ∷ []) ++ rest))
    (length (header mark ++ blocks groups) + length (group_bytes added ++ 0 ∷ [])) (items_of groups ++ added)
grown_log mark groups all added group rest =
    let more : blocks groups ++ ((1 ∷ group_bytes added) ++ []) ≡ blocks (groups ++ added ∷ []) =
    sym (flat_map-append (λ (g : List (List ℕ)). 1 ∷ group_bytes g) groups (added ∷ [])) in
    record {
      mark = mark;
      parts = (
        groups ++ added ∷ [],
        0,
        rest,
        all_push IsGroup groups added all group,
        (λ is. omega arith),
        regrouped (header mark) (blocks groups) (group_bytes added) rest ∙ ap (λ (l : List ℕ). (header mark ++ l) ++ 0 ∷ rest) more,
        regrouped_length (header mark) (blocks groups) (group_bytes added) ∙ ap (λ (l : List ℕ). length (header mark ++ l)) more,
        ap (λ (l : List (List ℕ)). items_of groups ++ l) (sym (append-nil added)) ∙ sym (flat_map-append (λ (g : List (List ℕ)). g) groups (added ∷ [])),
      );
    }
