-- What moves from a source in memory.
use Rattle.std.proofs.Common.{◌≡◌, ℕ, ◌+◌, ◌<◌, min, List, [], ◌++◌, length, take, drop, sym, ap, ◌∙◌, arith}
use Rattle.std.proofs.lemmas.List.{take-append-drop, drop-drop, length-drop, nil_from_length}

-- n bytes from a place on move to the front of a buffer: they are what is gone behind, and none move into
-- a buffer that has room only where none was left
pub moved_front : (bytes to : List ℕ) (at n : ℕ) → n ≡ min (length to) (length (drop at bytes)) → take n to ≡ take n (drop at bytes)
    → (drop at bytes ≡ take n to ++ drop (at + n) bytes) × (n ≡ 0 → 0 < length to → drop (at + n) bytes ≡ [])
moved_front bytes to at n count same = (
  sym (take-append-drop n (drop at bytes)) ∙ ap (λ l. l ++ drop n (drop at bytes)) (sym same) ∙ ap (λ l. take n to ++ l) (drop-drop n at bytes),
  λ none room. nil_from_length _ (omega (arith, length-drop (at + n) bytes, length-drop at bytes)),
)
