-- What is over of an ACT, so that it needs to be looked at no more.
use Rattle.std.specs.Prelude.{◌≡◌, ℕ, true, false, not, ◌||◌, Some, List}
use Rattle.snap_base.specs.declared.transactions.State.{State}
use Rattle.protocol.specs.Fixed.{Fixed}
use Rattle.protocol.specs.Facts.{Alone}
use Rattle.protocol.specs.History.{History}
use Rattle.protocol.specs.Parts.{Act, Machine}
use Rattle.protocol.specs.Words.{holds, act_of, joined_of, is_doomed, is_sealed, is_value, is_live_act}

pub record EndsWhole (x : Act) : Type 0 where
  -- who has left all its actors is doomed or sealed
  pub left : is_live_act x ≡ false → (is_doomed x.status || is_sealed x.status) ≡ true
  -- who is sealed with a value is prepared on all its actors
  pub prepared : is_sealed x.status ≡ true → is_value x.result ≡ true → (a : ℕ) → holds (λ p. not p.prepared) (joined_of a x) ≡ false

-- so it is of each ACT
abbrev pub ActsEndWhole : {C : Type 0} → Fixed C → (C → List State → Alone) → Machine C → History → Type 0
ActsEndWhole w finish s h = (t : ℕ) (x : Act) → act_of t s.book.acts ≡ Some x → EndsWhole x
