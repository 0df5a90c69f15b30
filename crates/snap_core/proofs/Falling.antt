-- What is left stays within what it is at the opening, so that it is counted to the end.
use Rattle.std.proofs.Common.{◌≡◌, ℕ, ◌-◌, ◌*◌, ◌^◌, ◌≤◌, min, List, [], ◌∷◌, ◌++◌, length, sym, subst, ◌∙◌, arith}
use Rattle.snap_base.specs.declared.transactions.State.{State}
use Rattle.aml_slice.specs.Controls.{Rest}
use Rattle.snap_hand.specs.core_rows.OnRuns.{HasRun}
use Rattle.protocol.specs.Effects.{after}
use Rattle.protocol.specs.Events.{Event}
use Rattle.protocol.specs.Facts.{Alone}
use Rattle.protocol.specs.Fixed.{Fixed, IsText}
use Rattle.protocol.specs.Laws.{OfEveryRun}
use Rattle.protocol.specs.Left.{left}
use Rattle.protocol.specs.Parts.{Machine}
use Rattle.protocol.specs.Rests.{HasFacts}
use Rattle.protocol.specs.Runs.{EachAllowed, IsRun, opening, reached, state_after}
use Rattle.protocol_theorems.specs.Left.{RunsEnd}
use Rattle.protocol_theorems.specs.Sizes.{SizesHold}
use Rattle.snap_core.specs.Cores.{CoreState, IsAt, IsCore, state_at}
use Rattle.snap_core.proofs.CoreRuns.{core_of, one_more, then}
use Rattle.snap_hand.specs.Hands.{Parts}
use Rattle.snap_hand.specs.Left.{FitsAll}
use Rattle.snap_hand.specs.Tables.{fixed_of}
use Rattle.snap_hand.specs.declared.tables.Tables.{Tables}

module _ (w : Fixed Rest) (finish : Rest → List State → Alone) (facts : HasFacts w finish) (text : IsText w.text) (ends : OfEveryRun (RunsEnd {C = Rest})) (most : ℕ) where
  -- it falls along a run that goes on
  falls_along : (front rest : List Event) → IsRun w front → EachAllowed w rest (reached w front) → left w (reached w front) ≤ most → left w (state_after w rest (reached w front)) ≤ most
  falls_along front [] run more few = few
  falls_along front (e ∷ rest) run more few =
      let less = (ends w finish front facts text run).falls e more.0 in
      let next : reached w (front ++ e ∷ []) ≡ after w e (reached w front) = then w front e (opening w) in
      subst (λ s. left w (state_after w rest s) ≤ most) next
      (falls_along (front ++ e ∷ []) rest (one_more w front e (opening w) run more.0)
      (subst (λ s. EachAllowed w rest s) (sym next) more.1)
      (subst (λ s. left w s ≤ most) (sym next) (omega (arith, less))))

-- so on every run of a text it is a number of 64 bits
pub few_left : (w : Fixed Rest) (s : Machine Rest) → HasRun w s → OfEveryRun (RunsEnd {C = Rest}) → left w s ≤ 2 ^ 64 - 1
few_left w s is ends =
    let most = 1024 * length w.text.txs in
    let opens = (ends w is.finish [] is.facts is.text tt).opens in
    let all : left w (reached w is.events) ≤ most = falls_along w is.finish is.facts is.text ends most [] is.events tt is.run opens in
    let few = is.text.few_txs in
    subst (λ z. left w z ≤ 2 ^ 64 - 1) (sym is.is_reached) (omega arith)

-- wherever the core is, the hand counts all
pub left_at : (core : CoreState) (t : Tables) (h : Parts) → core_of t h ≡ core → IsCore t h → ((es : List Event) → IsRun (fixed_of t) es → HasRun (fixed_of t) (reached (fixed_of t) es))
    → ((v : Fixed Rest) (es : List Event) → IsText v.text → IsRun v es → SizesHold v (reached v es))
    → OfEveryRun (RunsEnd {C = Rest})
    → (n : ℕ) → ((s : Machine Rest) → FitsAll h s → n ≡ min (left (fixed_of t) s) (2 ^ 64 - 1))
    → (es : List Event) → IsAt core es → n ≡ left (fixed_of core.tables) (state_at core es)
left_at core t h view is lead sizes ends n counted =
    subst (λ z. (es : List Event) → IsAt z es → n ≡ left (fixed_of z.tables) (state_at z es)) view (λ es at.
    let w = fixed_of t in
    let run = lead es at.run in
    let size = sizes w es run.text at.run in
    let all : FitsAll h (reached w es) = record { fits = at.fits; logs = size.logs ∙ sym is.places.logs; cells = size.cells ∙ sym is.places.cells } in
    let few : left w (reached w es) ≤ 2 ^ 64 - 1 = few_left w (reached w es) run ends in
    let told = counted (reached w es) all in
    omega (arith, told, few))
