-- What a row that runs a slice asks of the closure which runs it. The closure gets the actor's state and the control; it leaves the
-- state behind the slice, and tells where the transaction goes from there, and whether it is through on the actor.
use Rattle.std.specs.Prelude.{◌≡◌, ℕ, Bool, Some}
use Rattle.std.specs.Borrow.{MutBor}
use Rattle.std.specs.Fn.{Once, FnOnceReturns}
use Rattle.protocol.specs.Meant.{next_meant}
use Rattle.snap_base.specs.declared.transactions.State.{State}
use Rattle.protocol.specs.Fixed.{Code}
use Rattle.protocol.specs.OnCell.{is_through}
use Rattle.protocol.specs.Parts.{Waiting, Cell}
use Rattle.protocol.specs.Words.{waiting_of}
use Rattle.snap_base.specs.declared.next.Next.{Next}

module _ {C F : Type 0} (g : Once F (MutBor State × (C × Unit {0})) ((Next C × Bool) × (MutBor State × Unit {0}))) where
  -- it may be called at the state of the cell and the control of transaction t that waits there
  abbrev pub MaySlice : F → ℕ → Cell C → Type 0
  MaySlice f t c = (x : Waiting C) → waiting_of t c.inbox ≡ Some x → (state : MutBor State) → state.now ≡ c.state → g.pre f (state, (x.control, tt))

  -- what it leaves and tells there, on actor a, is what this code does
  abbrev pub Slices : F → Code C → ℕ → ℕ → Cell C → Type 0
  Slices f code t a c = (x : Waiting C) → waiting_of t c.inbox ≡ Some x → (state left : MutBor State) (next : Next C) (through : Bool) → state.now ≡ c.state
      → FnOnceReturns g f (state, (x.control, tt)) ((next, through), (left, tt))
      → (code.slice x.control c.state ≡ record { state = left.now; next = next_meant next }) × (is_through code a (next_meant next) ≡ through)
