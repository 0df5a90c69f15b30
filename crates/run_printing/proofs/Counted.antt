-- The counts of the report, one event after the other.
use Rattle.std.proofs.Common.{◌≡◌, ℕ, ◌+◌, ◌<◌, not, List, [], ◌∷◌, ◌++◌, map, take, get_or, length, refl, sym, ap, ◌∙◌, arith}
use Rattle.std.proofs.lemmas.List.{map_more}
use Rattle.core_events.specs.declared.events.Event as code
use Rattle.core_events.specs.Meant.{event_meant}
use Rattle.protocol.specs.Events.{Event, Reply, Settle}
use Rattle.protocol.specs.Numbers.{one_if}
use Rattle.protocol.specs.Parts.{Machine}
use Rattle.protocol.specs.Report.{Answer, answer, answers, is_committed}
use Rattle.protocol.specs.Verdicts.{verdict}
use Rattle.protocol.specs.Words.{count, holds}
use Rattle.protocol.specs.Left.{total}
use Rattle.machine_laws.proofs.protocol_theorems.quiet.LimitsHold.{count_cons}
use Rattle.run_effects.specs.Laws.{settles}
use Rattle.run_effects.specs.Replies.{commits_of, aborts_of}
use Rattle.run_printing.specs.Counted.{settled_by}

none_more : (n : ℕ) → n ≡ 0 + n
none_more n = omega arith

pub committed_total : {C : Type 0} (s : Machine C) (es : List Event) → count (λ x. holds is_committed x.verdict) (answers es s) ≡ total (commits_of s) es
committed_total s [] = refl
committed_total s (Reply n ∷ es) =
    count_cons (λ (x : Answer). holds is_committed x.verdict) (answer s n) (answers es s)
    ∙ ap (λ m. one_if (holds is_committed (verdict n s.book s.desk)) + m) (committed_total s es)
committed_total s (_ ∷ es) = committed_total s es ∙ none_more _

pub aborted_total : {C : Type 0} (s : Machine C) (es : List Event) → count (λ x. not (holds is_committed x.verdict)) (answers es s) ≡ total (aborts_of s) es
aborted_total s [] = refl
aborted_total s (Reply n ∷ es) =
    count_cons (λ (x : Answer). not (holds is_committed x.verdict)) (answer s n) (answers es s)
    ∙ ap (λ m. one_if (not (holds is_committed (verdict n s.book s.desk))) + m) (aborted_total s es)
aborted_total s (_ ∷ es) = aborted_total s es ∙ none_more _

pub settles_total : (es : List Event) → settles es ≡ total settled_by es
settles_total [] = refl
settles_total (Settle k ∷ es) = let h = settles_total es in omega (arith, h)
settles_total (_ ∷ es) = settles_total es ∙ none_more _

-- one more
pub total_push : {X : Type 0} (f : X → ℕ) (xs : List X) (x : X) → total f (xs ++ x ∷ []) ≡ total f xs + f x
total_push f [] x = omega arith
total_push f (y ∷ xs) x = let h = total_push f xs x in omega (arith, h)

-- of a list of events, one more
pub total_more : (f : Event → ℕ) (es : List code.Event) (i : ℕ) (first : code.Event) → i < length es → (n k : ℕ)
    → n ≡ total f (map event_meant (take i es)) → k ≡ f (event_meant (get_or es i first)) → n + k ≡ total f (map event_meant (take (i + 1) es))
total_more f es i first within n k before is =
    ap (λ m. m + k) before ∙ ap (λ m. total f (map event_meant (take i es)) + m) is
    ∙ sym (total_push f (map event_meant (take i es)) (event_meant (get_or es i first)))
    ∙ ap (total f) (sym (map_more event_meant es i first within))
