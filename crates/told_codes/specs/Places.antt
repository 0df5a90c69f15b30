-- Who is told a place, with a value or with a code of its own, and nobody else: what they give, also where a run stopped early.
use Rattle.std.specs.Prelude.{◌≡◌, ℕ, true, Some, List, ◌++◌, filter}
use Rattle.std.specs.List.{AllByRecursion}
use Rattle.snap_base.specs.declared.transactions.State.{State}
use Rattle.snap_base.specs.declared.transactions.TxResult.{TxResult}
use Rattle.snap_base.specs.declared.transactions.TxResult.TheVariants.{Fail}
use Rattle.snap_base.specs.declared.verdicts.Place.{Place}
use Rattle.snap_base.specs.declared.verdicts.Verdict.TheVariants as verdicts
use Rattle.protocol.specs.Fixed.{Fixed, tx_at}
use Rattle.protocol.specs.Facts.{Alone, alone, serial}
use Rattle.protocol.specs.Parts.{Machine}
use Rattle.protocol.specs.Verdicts.{verdict, ended_at}
use Rattle.protocol.specs.History.{Done, History}
use Rattle.protocol.specs.Chains.{by_place, is_place_below, txs_of, IsBelowAll, IsSerial}
use Rattle.protocol_laws.specs.Told.{IsAmongDone}
use Rattle.protocol_records.specs.AsTold.{is_over, told_committed}

-- of all that have a place those that are over: each PACT of a batch that settled, and each ACT that is sealed, with a value or
-- with a code
abbrev pub told_places : {C : Type 0} → Machine C → History → List Done
told_places s h = filter (λ d. is_over s d.who) h.committed

-- Behind those of these whose places are below this one, and ahead of all others of them, transaction n alone gives this result.
pub record GivesBehind {C : Type 0} (w : Fixed C) (finish : C → List State → Alone) (n : ℕ) (at : Place) (r : TxResult) (ds : List Done) : Type 0 where
  pub front : List Done
  pub rest : List Done
  pub splits : by_place ds ≡ front ++ rest
  pub below : AllByRecursion (λ d. is_place_below d.place at ≡ true) front
  pub above : IsBelowAll at rest
  pub gives : (alone w.code finish (serial w.code finish w.text.opening.states (txs_of w front)).world (tx_at w.text n)).result ≡ r

-- ---- what every run owes

pub record ToldPlacesStand {C : Type 0} (w : Fixed C) (finish : C → List State → Alone) (s : Machine C) (h : History) : Type 0 where
  -- who is told a code of its own is one of those that are told a place, there, with that code
  pub among : (n : ℕ) (at : Place) (c : ℕ) → verdict n s.book s.desk ≡ Some (verdicts.Code at c) → IsAmongDone n at (Fail c) (told_places s h)
  -- and each of those is told its place and its result
  pub are_told : AllByRecursion (λ d. verdict d.tx s.book s.desk ≡ ended_at d.place d.result) (told_places s h)
  -- one after the other in the order of places, with nobody else, they give the results that they are told
  pub serial : IsSerial w finish (told_places s h)
  -- so who is told a code of its own gives it behind those alone that are told that they committed at a place below its own
  pub code : (n : ℕ) (at : Place) (c : ℕ) → verdict n s.book s.desk ≡ Some (verdicts.Code at c) → GivesBehind w finish n at (Fail c) (told_committed s h)
