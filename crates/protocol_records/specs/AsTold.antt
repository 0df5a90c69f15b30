-- Who is told that it committed: each PACT of a batch that settled, and each ACT that is sealed with a value. It is what a run
-- that stopped early has committed; others may have a place already, and it is not sure yet.
use Rattle.std.specs.Prelude.{◌≡◌, ℕ, ℤ, Bool, ◌&&◌, Some, List, filter}
use Rattle.std.specs.List.{AllByRecursion}
use Rattle.snap_base.specs.declared.transactions.State.{State}
use Rattle.snap_base.specs.declared.transactions.TxResult.TheVariants.{Value}
use Rattle.snap_base.specs.declared.verdicts.Place.{Place}
use Rattle.snap_base.specs.declared.verdicts.Verdict.TheVariants as verdicts
use Rattle.protocol.specs.Fixed.{Fixed}
use Rattle.protocol.specs.Facts.{Alone}
use Rattle.protocol.specs.Parts.{Who, OfBatch, OfAct, Machine}
use Rattle.protocol.specs.Words.{holds, is_value, is_settled, is_sealed, act_of, batch_of}
use Rattle.protocol.specs.Verdicts.{verdict, ended_at}
use Rattle.protocol.specs.History.{Done, History}
use Rattle.protocol.specs.Chains.{IsClosedSet, IsSerial}
use Rattle.protocol_laws.specs.Told.{IsAmongDone}
use Rattle.protocol_records.specs.Crash.{HasMember}

-- its batch is settled, or the ACT is sealed
abbrev pub is_over : {C : Type 0} → Machine C → Who → Bool
is_over s (OfBatch k) = holds (λ b. is_settled b.stage) (batch_of k s.desk.batches)
is_over s (OfAct t) = holds (λ x. is_sealed x.status) (act_of t s.book.acts)

-- of all that have a place those that are over, with a value
abbrev pub told_committed : {C : Type 0} → Machine C → History → List Done
told_committed s h = filter (λ d. is_over s d.who && is_value d.result) h.committed

-- ---- what every run owes

pub record ToldStands {C : Type 0} (w : Fixed C) (finish : C → List State → Alone) (s : Machine C) (h : History) : Type 0 where
  -- who is told that it committed is one of them, at that place, with that value
  pub among : (n : ℕ) (p : Place) (v : ℤ) → verdict n s.book s.desk ≡ Some (verdicts.Committed p v) → IsAmongDone n p (Value v) (told_committed s h)
  -- and each of them is told so
  pub are_told : AllByRecursion (λ d. verdict d.tx s.book s.desk ≡ ended_at d.place d.result) (told_committed s h)
  -- with each of them is all that committed with a value and was placed before it
  pub closed : IsClosedSet (λ t. HasMember t (told_committed s h)) h
  -- one after the other in the order of places they give their results
  pub serial : IsSerial w finish (told_committed s h)
