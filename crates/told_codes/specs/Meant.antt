-- Who is told a place, and nobody else, in the language's own words: also where a run stopped early.
use Rattle.std.specs.Prelude.{◌≡◌, ℕ, true, Some, List, ◌∷◌, ◌++◌}
use Rattle.std.specs.List.{AllByRecursion}
use Rattle.snap_base.specs.declared.transactions.State.{State}
use Rattle.snap_base.specs.declared.transactions.TxResult.{TxResult}
use Rattle.snap_base.specs.declared.transactions.TxResult.TheVariants.{Fail}
use Rattle.snap_base.specs.declared.verdicts.Place.{Place}
use Rattle.snap_base.specs.declared.verdicts.Verdict.TheVariants as verdicts
use Rattle.aml_tree.specs.Tree.{CheckedMethod}
use Rattle.aml_check.specs.Meaning as meaning
use Rattle.aml_slice.specs.Controls.{Rest}
use Rattle.protocol.specs.Fixed.{Fixed, tx_at}
use Rattle.protocol.specs.Facts.{Alone}
use Rattle.protocol.specs.Events.{Event, Abort}
use Rattle.protocol.specs.Runs.{reached}
use Rattle.protocol.specs.History.{Done, history}
use Rattle.protocol.specs.Verdicts.{verdict}
use Rattle.protocol.specs.Chains.{by_place, is_place_below, txs_of, IsBelowAll}
use Rattle.protocol_records.specs.AsTold.{told_committed}
use Rattle.machine_laws.specs.Meant.{FailsAsMeant, IsAsMeant}
use Rattle.told_codes.specs.Places.{told_places, ToldPlacesStand}

-- Behind those of these whose places are below this one, and ahead of all others of them, transaction n alone means this result.
pub record MeansBehind (p : List CheckedMethod) (w : Fixed Rest) (n : ℕ) (at : Place) (r : TxResult) (ds : List Done) : Type 0 where
  pub front : List Done
  pub rest : List Done
  pub splits : by_place ds ≡ front ++ rest
  pub below : AllByRecursion (λ d. is_place_below d.place at ≡ true) front
  pub above : IsBelowAll at rest
  pub means : (meaning.alone p (meaning.serial p w.text.opening.states (txs_of w front)).world (tx_at w.text n)).result ≡ r

-- One of the events aborted the batch, and the PACT failed so, behind what counts of those alone that are told that they committed.
pub record FailedBehindAsMeant (p : List CheckedMethod) (w : Fixed Rest) (n k c code : ℕ) (es : List Event) : Type 0 where
  pub front : List Event
  pub later : List Event
  pub splits : es ≡ front ++ Abort k ∷ later
  pub next_c : (reached w front).book.next_c ≡ c
  pub there : FailsAsMeant p w n k c code (reached w front) (told_committed (reached w es) (history w es))

-- ---- what every run of a program owes

pub record CodesAsMeant (p : List CheckedMethod) (w : Fixed Rest) (finish : Rest → List State → Alone) (es : List Event) : Type 0 where
  -- those that are told a place, with a value or with a code of their own, and what they give with nobody else in the machine's words
  pub stand : ToldPlacesStand w finish (reached w es) (history w es)
  -- one after the other in the order of places, with nobody else, they mean the results that they are told
  pub results : IsAsMeant p w (told_places (reached w es) (history w es))
  -- who is told a code of its own means it behind those alone that are told that they committed at a place below its own
  pub code_told : (n : ℕ) (at : Place) (c : ℕ) → verdict n (reached w es).book (reached w es).desk ≡ Some (verdicts.Code at c) → MeansBehind p w n at (Fail c) (told_committed (reached w es) (history w es))
  -- who is told that it failed with its batch does so behind those of them alone that count for it
  pub batch_code_told : (n k c code : ℕ) → verdict n (reached w es).book (reached w es).desk ≡ Some (verdicts.BatchCode (record { 0 = k }) c code) → FailedBehindAsMeant p w n k c code es
