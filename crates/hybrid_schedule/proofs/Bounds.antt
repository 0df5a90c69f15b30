-- Slots that lie between two tids.
use Rattle.std.proofs.Common.{◌≡◌, ℕ, ◌+◌, ◌<◌, length, take, get_or, min, max, Bool, true, false, not, ◌&&◌, ◌||◌, List, [], ◌∷◌, ◌++◌, map, refl, sym, ap, ◌∙◌, arith}
use Rattle.std.specs.Prelude.{nat_le}
use Rattle.std.specs.List.{list_any}
use Rattle.std.proofs.lemmas.Bool.{leb-true, le-leb, ne_eqb, and_parts, and_from, or_from, or_parts, true≢false}
use Rattle.std.proofs.lemmas.List.{take_more, map-append}
use Rattle.snap_base.specs.declared.ids.Tid.{Tid}
use Rattle.snap_base.proofs.Booleans.{or_false}
use Rattle.protocol.specs.Parts.{Slot}
use Rattle.protocol.specs.OnCell.{done_if, not_done}
use Rattle.protocol.specs.Meant.{tid_number}
use Rattle.hybrid_schedule.specs.Slots.{is_slot_of, is_undone_of, is_within, are_within}

within_more : (least greatest t u : ℕ) → is_within least greatest u ≡ true → is_within (min least t) (max greatest t) u ≡ true
within_more least greatest t u h =
    let parts = and_parts (nat_le least u) (nat_le u greatest) h in
    let low = leb-true least u parts.0 in
    let high = leb-true u greatest parts.1 in
    and_from (nat_le (min least t) u) (nat_le u (max greatest t)) (le-leb (min least t) u (omega arith)) (le-leb u (max greatest t) (omega arith))

within_one : (least greatest t : ℕ) → is_within (min least t) (max greatest t) t ≡ true
within_one least greatest t = and_from (nat_le (min least t) t) (nat_le t (max greatest t)) (le-leb (min least t) t (omega arith)) (le-leb t (max greatest t) (omega arith))

-- one more, and the bounds that take it in
pub are_within_push : (least greatest t : ℕ) (slots : List Slot) → are_within least greatest slots ≡ true → are_within (min least t) (max greatest t) (slots ++ not_done t ∷ []) ≡ true
are_within_push least greatest t [] h = and_from (is_within (min least t) (max greatest t) t) true (within_one least greatest t) refl
are_within_push least greatest t (s ∷ slots) h =
    let parts = and_parts (is_within least greatest s.tid) (are_within least greatest slots) h in
    and_from (is_within (min least t) (max greatest t) s.tid) (are_within (min least t) (max greatest t) (slots ++ not_done t ∷ [])) (within_more least greatest t s.tid parts.0) (are_within_push least greatest t slots parts.1)

-- who lies beyond the bounds has no slot
pub none_beyond : (least greatest t : ℕ) (slots : List Slot) → are_within least greatest slots ≡ true → is_within least greatest t ≡ false → list_any (is_slot_of t) slots ≡ false
none_beyond least greatest t [] h out = refl
none_beyond least greatest t (s ∷ slots) h out =
    let parts = and_parts (is_within least greatest s.tid) (are_within least greatest slots) h in
    or_from (is_slot_of t s) (list_any (is_slot_of t) slots) (ne_eqb s.tid t (λ e. true≢false (sym parts.0 ∙ ap (is_within least greatest) e ∙ out))) (none_beyond least greatest t slots parts.1 out)

-- who has no slot has none that is not done, and changes none
pub none_undone : (t : ℕ) (slots : List Slot) → list_any (is_slot_of t) slots ≡ false → list_any (is_undone_of t) slots ≡ false
none_undone t [] h = refl
none_undone t (s ∷ slots) h =
    let parts = or_parts (is_slot_of t s) (list_any (is_slot_of t) slots) h in
    or_from (is_undone_of t s) (list_any (is_undone_of t) slots) (ap (λ b. b && not s.done) parts.0) (none_undone t slots parts.1)

pub none_marked : (t : ℕ) (slots : List Slot) → list_any (is_slot_of t) slots ≡ false → map (done_if t) slots ≡ slots
none_marked t [] h = refl
none_marked t (s ∷ slots) h =
    let parts = or_parts (is_slot_of t s) (list_any (is_slot_of t) slots) h in
    let done = ap (λ b. s.done || b) parts.0 ∙ or_false s.done in
    let first : done_if t s ≡ s = ap (λ (b : Bool). let x : Slot = record { tid = s.tid; done = b } in x) done in
    ap (λ x. x ∷ map (done_if t) slots) first ∙ ap (λ xs. s ∷ xs) (none_marked t slots parts.1)

pub within_when_marked : (least greatest t : ℕ) (slots : List Slot) → are_within least greatest (map (done_if t) slots) ≡ are_within least greatest slots
within_when_marked least greatest t [] = refl
within_when_marked least greatest t (s ∷ slots) = ap (λ b. is_within least greatest s.tid && b) (within_when_marked least greatest t slots)

-- the slots of one tid more
pub slots_more : (tids : List Tid) (i : ℕ) (d : Tid) → i < length tids → map not_done (map tid_number (take i tids)) ++ not_done (get_or tids i d).0 ∷ [] ≡ map not_done (map tid_number (take (i + 1) tids))
slots_more tids i d within =
    let t : Tid = get_or tids i d in
    sym (ap (λ ts. map not_done (map tid_number ts)) (take_more tids i d within)
    ∙ ap (λ ns. map not_done ns) (map-append tid_number (take i tids) (t ∷ []))
    ∙ map-append not_done (map tid_number (take i tids)) (t.0 ∷ []))
