-- Counts along a schedule.
use Rattle.std.proofs.Common.{◌≡◌, ℕ, ◌+◌, max, List, [], ◌∷◌, ◌++◌, length, refl, ap, ◌∙◌, arith, length-append}
use Rattle.std.specs.Prelude.{if◌then◌else◌}
use Rattle.protocol.specs.Rivals.{Lock}
use Rattle.protocol.specs.Parts.{Entry, BatchEntry, ActEntry}
use Rattle.protocol.specs.Words.{group_behind, tail_group, batches_on, greatest}
use Rattle.hybrid_schedule.specs.Schedules.{is_any_act}

-- how many ACTs stand behind the last batch, after so many
abbrev pub tail_count : ℕ → List Entry → ℕ
tail_count n [] = n
tail_count n (e ∷ es) = tail_count (if is_any_act e then n + 1 else 0) es

length-group_behind : (seen : List Lock) (es : List Entry) → length (group_behind seen es) ≡ tail_count (length seen) es
length-group_behind seen [] = refl
length-group_behind seen (BatchEntry b ∷ es) = length-group_behind [] es
length-group_behind seen (ActEntry x ∷ es) = length-group_behind (seen ++ x ∷ []) es ∙ ap (λ n. tail_count n es) (length-append seen (x ∷ []))

pub tail_counted : (es : List Entry) → length (tail_group es) ≡ tail_count 0 es
tail_counted es = length-group_behind [] es

pub greatest_more : (e : Entry) (es : List Entry) → greatest (batches_on (e ∷ es)) ≡ max (greatest (batches_on (e ∷ []))) (greatest (batches_on es))
greatest_more (BatchEntry b) es = omega arith
greatest_more (ActEntry x) es = omega arith
