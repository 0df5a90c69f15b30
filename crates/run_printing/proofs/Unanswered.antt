-- Who is answered, and who is not, one after the other.
use Rattle.std.proofs.Common.{◌≡◌, ℕ, zero, suc, ◌+◌, ◌-◌, ◌<◌, Bool, true, false, not, ◌||◌, List, [], ◌∷◌, ◌++◌, map, filter, take, get_or, length, nat_eq, sym, ap, ◌∙◌, refl, arith, append_assoc, append-nil}
use Rattle.std.proofs.lemmas.List.{map_more}
use Rattle.std.proofs.lemmas.List.Elements.{filter-append}
use Rattle.std.proofs.lemmas.List.Folds.{list_any-append}
use Rattle.core_events.specs.declared.events.Event as code
use Rattle.core_events.specs.Meant.{event_meant}
use Rattle.protocol.specs.Events.{Event}
use Rattle.protocol.specs.Report.{replied}
use Rattle.protocol.specs.Words.{below, is_among}
use Rattle.run_effects.proofs.RepliesGrown.{replied_join}
use Rattle.run_printing.specs.Printed.{unanswered}

-- one more event
pub among_more : (es : List code.Event) (i n : ℕ) (e d : code.Event) → i < length es → get_or es i d ≡ e
    → is_among n (replied (map event_meant (take (i + 1) es))) ≡ (is_among n (replied (map event_meant (take i es))) || is_among n (replied (event_meant e ∷ [])))
among_more es i n e d within is =
    ap (λ l. is_among n (replied l)) (map_more event_meant es i d within ∙ ap (λ x. map event_meant (take i es) ++ event_meant x ∷ []) is)
    ∙ ap (is_among n) (replied_join (map event_meant (take i es)) (event_meant e ∷ []))
    ∙ list_any-append (λ x. nat_eq x n) (replied (map event_meant (take i es))) (replied (event_meant e ∷ []))

-- a mark that is not set
pub open_at : (marks : List Bool) (n : ℕ) (b : Bool) → b ≡ get_or marks n b → b ≡ false → get_or marks n false ≡ false
open_at marks n true is unset = cc
open_at marks n false is unset = sym is

-- the numbers below m begin with those below n
below_on : (n d : ℕ) → (rest : List ℕ) × (below (n + d) ≡ below n ++ rest)
below_on n zero = ([], let same : n + 0 ≡ n = omega arith in ap below same ∙ sym (append-nil (below n)))
below_on n (suc d) = let before = below_on n d in (
  before.0 ++ (n + d) ∷ [],
  let next : n + suc d ≡ suc (n + d) = omega arith in ap below next ∙ ap (λ l. l ++ (n + d) ∷ []) before.1 ∙ append_assoc (below n) before.0 ((n + d) ∷ []),
)

-- one more transaction
unanswered_more : (es : List Event) (n : ℕ) → unanswered es (n + 1) ≡ unanswered es n ++ filter (λ m. not (is_among m (replied es))) (n ∷ [])
unanswered_more es n = let next : n + 1 ≡ suc n = omega arith in ap (unanswered es) next ∙ filter-append (λ m. not (is_among m (replied es))) (below n) (n ∷ [])

-- where it is answered
pub unanswered_skip : (es : List Event) (n : ℕ) → is_among n (replied es) ≡ true → unanswered es (n + 1) ≡ unanswered es n
unanswered_skip es n is = unanswered_more es n ∙ rw is (append-nil (unanswered es n))

-- and where it is not
pub unanswered_next : (es : List Event) (n : ℕ) → is_among n (replied es) ≡ false → unanswered es (n + 1) ≡ unanswered es n ++ n ∷ []
unanswered_next es n is = unanswered_more es n ∙ rw is refl

-- those below n come first, of any n
unanswered_on : (es : List Event) (n d : ℕ) → (rest : List ℕ) × (unanswered es (n + d) ≡ unanswered es n ++ rest)
unanswered_on es n d = let cut = below_on n d in (
  filter (λ m. not (is_among m (replied es))) cut.0,
  ap (filter (λ m. not (is_among m (replied es)))) cut.1 ∙ filter-append (λ m. not (is_among m (replied es))) (below n) cut.0,
)

-- behind them lies one that is not answered, and more
pub unanswered_behind : (es : List Event) (n count : ℕ) → n < count → is_among n (replied es) ≡ false
    → (rest : List ℕ) × (unanswered es count ≡ unanswered es n ++ (n ∷ [] ++ rest))
unanswered_behind es n count within is =
    let on = unanswered_on es (n + 1) (count - (n + 1)) in
    let all : n + 1 + (count - (n + 1)) ≡ count = omega arith in (
      on.0,
      ap (unanswered es) (sym all) ∙ on.1 ∙ ap (λ l. l ++ on.0) (unanswered_next es n is) ∙ append_assoc (unanswered es n) (n ∷ []) on.0,
    )
