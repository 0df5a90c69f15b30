-- Batches along an actor's long schedule.
-- Proofs cite this, and `OnActors` its `Ascends`; the rule is `OrderHolds` (Order).
use Rattle.std.specs.Prelude.{◌≡◌, ℕ, ◌<◌, ◌≤◌, Bool, true, false, ◌||◌, List, [], ◌∷◌, length, ⊤}
use Rattle.std.specs.List.{AllByRecursion}
use Rattle.protocol.specs.Cutting.{Ascends}
use Rattle.protocol.specs.Parts.{Cascade, Who, OfBatch, OfAct}
use Rattle.protocol.specs.Words.{is_aborted, epoch_of, is_who}
use Rattle.protocol.specs.History.{Ran, Stands, Gone, batches_in}
use Rattle.protocol_laws.specs.Tracks.{keys_in, is_key_among}

abbrev pub has_gone : List Ran → Bool
has_gone [] = false
has_gone (Stands y c ss ∷ rs) = has_gone rs
has_gone (Gone y ss ∷ rs) = true

-- a batch that no cascade will take: it is not above the last settled one, and none has taken it
abbrev pub IsFirm : ℕ → List Cascade → Who → Type 0
IsFirm settled cs (OfBatch k) = (k ≤ settled) × (is_aborted k cs ≡ false)
IsFirm settled cs (OfAct t) = ⊤

-- what left for good, and all batches ahead of it, are firm
abbrev pub FirmUpToGone : ℕ → List Cascade → List Ran → Type 0
FirmUpToGone settled cs [] = ⊤
FirmUpToGone settled cs (Stands y c ss ∷ rs) = (has_gone rs ≡ true → IsFirm settled cs y) × FirmUpToGone settled cs rs
FirmUpToGone settled cs (Gone y ss ∷ rs) = IsFirm settled cs y × FirmUpToGone settled cs rs

-- all batches up to one that stands there are firm
abbrev pub FirmUpTo : ℕ → List Cascade → Who → List Ran → Type 0
FirmUpTo settled cs who [] = ⊤
FirmUpTo settled cs who (Stands y c ss ∷ rs) = ((is_who y who || is_key_among who (keys_in rs)) ≡ true → IsFirm settled cs y) × FirmUpTo settled cs who rs
FirmUpTo settled cs who (Gone y ss ∷ rs) = FirmUpTo settled cs who rs

-- a batch was formed, is not of a later epoch than its cell, and of just that one where it is aborted; where it is
-- of the cell's epoch it is not above the tail
pub record FitsCell (next : ℕ) (cs : List Cascade) (epoch tail k : ℕ) : Type 0 where
  pub formed : k < next
  pub placed : epoch_of k cs ≤ epoch
  pub aborted : is_aborted k cs ≡ true → epoch_of k cs ≡ epoch
  pub is_last : epoch_of k cs ≡ epoch → k ≤ tail

pub record Places (next settled : ℕ) (cs : List Cascade) (epoch tail : ℕ) (long : List Ran) : Type 0 where
  pub behind : epoch ≤ length cs
  pub fit : AllByRecursion (FitsCell next cs epoch tail) (batches_in long)
  pub ascends : Ascends (batches_in long)
  pub firm : FirmUpToGone settled cs long
