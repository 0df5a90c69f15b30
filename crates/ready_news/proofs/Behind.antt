-- What holds after the event: a run has come to that state too, and what its book lists is all that it has to tell.
use Rattle.std.specs.Prelude.{Bool, List}
use Rattle.std.proofs.Common.{sym, subst}
use Rattle.aml_slice.specs.Controls.{Rest}
use Rattle.snap_hand.specs.core_rows.OnRuns.{HasRun}
use Rattle.listing_facts.specs.Listing.{BookLists, ListsAreEnough}
use Rattle.protocol.specs.Conditions.{IsAllowed}
use Rattle.protocol.specs.Effects.{after}
use Rattle.protocol.specs.Events.{Event}
use Rattle.protocol.specs.Fixed.{Fixed}
use Rattle.protocol.specs.Laws.{AfterEveryRunWithHistory}
use Rattle.protocol.specs.Parts.{Machine}
use Rattle.protocol_ready.specs.Telling.{BookTells}
use Rattle.snap_hand.specs.Hands.{Parts}
use Rattle.ready_news.specs.New.{IsBehind}

abbrev pub RunsGoOn : Type 0
RunsGoOn = (w : Fixed Rest) (e : Event) (s : Machine Rest) → HasRun w s → IsAllowed w e s → HasRun w (after w e s)

module _ (go_on : RunsGoOn) (w : Fixed Rest) (e : Event) (s : Machine Rest) (h : Parts) (behind : IsBehind w e s h) where
  pub run_after : HasRun w (after w e s)
  run_after = go_on w e s behind.run behind.allowed

  pub book_enough : AfterEveryRunWithHistory (ListsAreEnough {C = Rest}) → (asked : Event → Bool) (es : List Event) → BookLists asked (after w e s).book es → BookTells asked (after w e s).book es
  book_enough enough =
      subst (λ z. (asked : Event → Bool) (es : List Event) → BookLists asked z.book es → BookTells asked z.book es) (sym run_after.is_reached)
      (enough w run_after.finish run_after.events run_after.facts run_after.text run_after.run).book
