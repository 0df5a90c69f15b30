-- Fronts of what is written bit by bit.
use Rattle.std.proofs.Common.{◌≡◌, ℕ, ◌≤◌, inl, inr, Option, List, [], ◌++◌, flat_map, sym, ap, ◌∙◌, append_assoc, append-nil, arith, Result, Ok, Err, IsOkUnless}
use Rattle.std.specs.Io.KnownBytes.{Appends}
use Rattle.std.proofs.KnownBytes.{Appends-trans, Appends-kept}
use Rattle.std.proofs.lemmas.Grind.{flat_map-append}
use Rattle.run_printing.specs.declared.writes.WriteNo.{WriteNo}
use Rattle.run_printing.specs.declared.writes.WriteNo.TheVariants as writing
use Rattle.run_printing.specs.Printed.{AppendsFront, AppendsLines, IsBrokenOff}

-- some bytes, and a front of those behind them
pub front_on : (a b c : Option (List ℕ)) (before piece behind bytes : List ℕ) → bytes ≡ before ++ (piece ++ behind) → Appends a b before → AppendsFront b c piece
    → AppendsFront a c bytes
front_on a b c before piece behind bytes are h f = (
  before ++ f.0,
  f.1 ++ behind,
  are ∙ ap (λ l. before ++ (l ++ behind)) f.2 ∙ ap (λ l. before ++ l) (append_assoc f.0 f.1 behind) ∙ sym (append_assoc before f.0 (f.1 ++ behind)),
  Appends-trans _ _ _ _ _ h f.3,
)

-- some lines were written, and then what comes next was cut
pub lines_cut : {X : Type 0} (line : X → List ℕ) (old mid new : Option (List ℕ)) (before since now : ℕ) (first piece rest xs : List X) → xs ≡ first ++ (piece ++ rest)
    → Appends old mid (flat_map line first) → before ≤ since → IsBrokenOff mid new since now (flat_map line piece) → AppendsLines line old new before now xs
lines_cut line old mid new before since now first piece rest xs are taken later (inl none) = inl (first, piece ++ rest, are, Appends-kept old mid new (flat_map line first) taken none)
lines_cut line old mid new before since now first piece rest xs are taken later (inr cut) = inr (
  omega (arith, later, cut.0),
  front_on old mid new (flat_map line first) (flat_map line piece) (flat_map line rest) (flat_map line xs)
      (ap (flat_map line) are ∙ flat_map-append line first (piece ++ rest) ∙ ap (λ l. flat_map line first ++ l) (flat_map-append line piece rest)) taken cut.1,
)

-- all lines are whole lines
pub lines_whole : {X : Type 0} (line : X → List ℕ) (old new : Option (List ℕ)) (before now : ℕ) (xs : List X) → Appends old new (flat_map line xs) → AppendsLines line old new before now xs
lines_whole line old new before now xs whole = inl (xs, [], sym (append-nil xs), whole)

-- who fails at the sink alone does not lack memory
pub not_memory : {T : Type 0} (r : Result T WriteNo) → IsOkUnless r writing.Fault → r ≡ Err writing.Memory → ⊥
not_memory (Ok x) only is = cc
not_memory (Err why) only is = cc
