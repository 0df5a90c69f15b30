-- The ACTs on a schedule, listed.
use Rattle.std.proofs.Common.{◌≡◌, ◌+◌, ◌-◌, ◌≤◌, Bool, true, false, not, ◌&&◌, List, [], ◌∷◌, ◌++◌, length, map, drop, filter, refl, sym, ap, ◌∙◌, arith, length-append}
use Rattle.std.specs.Prelude.{if◌then◌else◌}
use Rattle.std.proofs.lemmas.List.{append_assoc, map-append, append-nil, length-map}
use Rattle.std.proofs.lemmas.List.Prefix.{end_rest}
use Rattle.protocol.specs.Rivals.{Lock}
use Rattle.protocol.specs.Parts.{Entry, BatchEntry, ActEntry}
use Rattle.protocol.specs.Words.{group_behind, tail_group}
use Rattle.protocol.specs.OnBook.{tids_on}
use Rattle.hybrid_schedule.specs.Listed.{rivals_among}

-- of an ACT that does not only read all others are rivals
pub all_are_rivals : (es : List Entry) → rivals_among false es ≡ tids_on es
all_are_rivals [] = refl
all_are_rivals (BatchEntry b ∷ es) = all_are_rivals es
all_are_rivals (ActEntry x ∷ es) = ap (λ ts. x.tid ∷ ts) (all_are_rivals es)

pub rivals_of_locks : (reader : Bool) (locks : List Lock) → rivals_among reader (map ActEntry locks) ≡ map (λ x. x.tid) (filter (λ x. not (reader && x.reader)) locks)
rivals_of_locks reader [] = refl
rivals_of_locks reader (x ∷ locks) =
    let step = rivals_of_locks reader locks in
    elim (reader && x.reader) as (λ b. (if b then [] else x.tid ∷ []) ++ rivals_among reader (map ActEntry locks) ≡ map (λ y. y.tid) (if not b then x ∷ filter (λ y. not (reader && y.reader)) locks else filter (λ y. not (reader && y.reader)) locks))
    [ true ↦ step | false ↦ ap (λ ts. x.tid ∷ ts) step ]

-- some entries, and then the group behind
ends_with_group : (seen : List Lock) (es : List Entry) → (front : List Entry) × (map ActEntry seen ++ es ≡ front ++ map ActEntry (group_behind seen es))
ends_with_group seen [] = ([], append-nil (map ActEntry seen))
ends_with_group seen (BatchEntry b ∷ es) =
    let rest = ends_with_group [] es in
    (map ActEntry seen ++ BatchEntry b ∷ rest.0, ap (λ xs. map ActEntry seen ++ BatchEntry b ∷ xs) rest.1 ∙ sym (append_assoc (map ActEntry seen) (BatchEntry b ∷ rest.0) (map ActEntry (group_behind [] es))))
ends_with_group seen (ActEntry x ∷ es) =
    let rest = ends_with_group (seen ++ x ∷ []) es in
    (rest.0, sym (ap (λ xs. xs ++ es) (map-append ActEntry seen (x ∷ [])) ∙ append_assoc (map ActEntry seen) (ActEntry x ∷ []) es) ∙ rest.1)

pub tail_fits : (es : List Entry) → length (tail_group es) ≤ length es
tail_fits es =
    let parts = ends_with_group [] es in
    let sum : length es ≡ length parts.0 + length (map ActEntry (tail_group es)) = ap length parts.1 ∙ length-append parts.0 (map ActEntry (tail_group es)) in
    omega (arith, sum, length-map (tail_group es) ActEntry)

-- the tail group is what the entries end with
pub tail_is_rest : (es : List Entry) → drop (length es - length (tail_group es)) es ≡ map ActEntry (tail_group es)
tail_is_rest es =
    let parts = ends_with_group [] es in
    ap (λ n. drop (length es - n) es) (sym (length-map (tail_group es) ActEntry))
    ∙ end_rest es (map ActEntry (tail_group es)) parts.0 parts.1
