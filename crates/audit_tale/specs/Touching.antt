-- What becomes of some elements of a list, and of who gains from those that are given up.
use Rattle.std.specs.Prelude.{◌≡◌, ◌≢◌, ℕ, ◌&&◌, not, Bool, true, false, if◌then◌else◌, Option, Some, None, is_some, option_map, List, [], length, slice_get}
use Rattle.audit_tale.specs.declared.tales.ActTale.{ActTale}
use Rattle.audit_tale.specs.declared.told.ActTies.{ActTies}

-- f of it where it is where_touched, else as it was
abbrev pub where_touched : {X : Type 0} → (X → X) → Bool → X → X
where_touched f true x = f x
where_touched f false x = x

-- those at places that pass are where_touched, and the others are as they were
abbrev pub AreTouched : {X : Type 0} → (X → X) → (ℕ → Bool) → List X → List X → Type 0
AreTouched f test old new = (i : ℕ) → slice_get new i ≡ option_map (where_touched f (test i)) (slice_get old i)

-- such a change at this place, and none at the others
pub record IsChangedAt {X : Type 0} (R : X → X → Type 0) (at : ℕ) (old new : List X) : Type 0 where
  pub count : length new ≡ length old
  pub here : (x y : X) → slice_get old at ≡ Some x → slice_get new at ≡ Some y → R x y
  pub there : (i : ℕ) → i ≢ at → slice_get new i ≡ slice_get old i

-- ---- ACTs, as they are kept

-- neither given up nor decided
abbrev pub lives : ActTale → Bool
lives x = not (is_some x.given_up) && not x.decided

-- there is one, and it is given up
abbrev pub gave_up : Option ActTale → Bool
gave_up None = false
gave_up (Some x) = is_some x.given_up

-- ---- who gains from them

-- nobody gains from it any more where it is over; it left what it left
pub record IsEased (over : Bool) (x y : ActTies) : Type 0 where
  pub left : y.left.items ≡ x.left.items
  pub waiters : y.waiters.items ≡ (if over then [] else x.waiters.items)

-- nobody gains any more from those at places that pass that are given up
pub record AreEased (test : ℕ → Bool) (acts : List ActTale) (old new : List ActTies) : Type 0 where
  pub count : length new ≡ length old
  pub each : (i : ℕ) (x y : ActTies) → slice_get old i ≡ Some x → slice_get new i ≡ Some y → IsEased (test i && gave_up (slice_get acts i)) x y
