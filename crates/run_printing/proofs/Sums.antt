-- Sums of whole numbers, one number after the other.
use Rattle.std.proofs.Common.{◌≡◌, ℕ, ◌+◌, ◌<◌, ◌≤◌, ℤ, ◌+ℤ◌, unsigned_abs, List, [], ◌∷◌, ◌++◌, map, take, get_or, length, refl, ap, ◌∙◌, arith}
use Rattle.std.proofs.lemmas.Int.{ints}
use Rattle.std.proofs.lemmas.List.{take_more, map_more}
use Rattle.protocol.specs.Effects.{cell_at, no_cell}
use Rattle.protocol.specs.Parts.{Cell, Machine}
use Rattle.run_printing.specs.Summed.{sum_of, total_of}
use Rattle.snap_base.specs.declared.transactions.State.{State}
use Rattle.snap_report.specs.declared.summaries.Summary.{Summary}

sum_push : (zs : List ℤ) (z : ℤ) → sum_of (zs ++ z ∷ []) ≡ sum_of zs +ℤ z
sum_push [] z = omega (arith, ints)
sum_push (y ∷ zs) z = let h = sum_push zs z in omega (arith, ints, h)

pub sum_more : (zs : List ℤ) (n : ℕ) (none : ℤ) → n < length zs → sum_of (take (n + 1) zs) ≡ sum_of (take n zs) +ℤ get_or zs n none
sum_more zs n none within = ap sum_of (take_more zs n none within) ∙ sum_push (take n zs) (get_or zs n none)

total_push : (states : List State) (s : State) → total_of (states ++ s ∷ []) ≡ total_of states +ℤ sum_of s.0
total_push [] s = omega (arith, ints)
total_push (t ∷ states) s = let h = total_push states s in omega (arith, ints, h)

-- one more actor
pub total_more : {C : Type 0} (s : Machine C) (n : ℕ) → n < length s.cells
    → total_of (map (λ c. c.state) (take (n + 1) s.cells)) ≡ total_of (map (λ c. c.state) (take n s.cells)) +ℤ sum_of (cell_at s n).state.0
total_more {C} s n within =
    ap total_of (map_more (λ (c : Cell C). c.state) s.cells n no_cell within) ∙ total_push (map (λ (c : Cell C). c.state) (take n s.cells)) (cell_at s n).state

pub abs_add : (a b : ℤ) → unsigned_abs (a +ℤ b) ≤ unsigned_abs a + unsigned_abs b
abs_add a b = omega (arith, ints)

-- ---- a summary, field by field

abbrev pub summary : ℕ → ℕ → ℕ → ℕ → ℕ → ℤ → Summary
summary transactions committed aborted batches events total =
    record { transactions = transactions; committed = committed; aborted = aborted; batches = batches; events = events; total = total }

pub same_summary : (t u c d a b k l e f : ℕ) (y z : ℤ) → t ≡ u → c ≡ d → a ≡ b → k ≡ l → e ≡ f → y ≡ z
    → summary t c a k e y ≡ summary u d b l f z
same_summary t u c d a b k l e f y z txs committed aborted batches events total = rw (txs, committed, aborted, batches, events, total) refl
