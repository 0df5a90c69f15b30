-- Where a rollback cuts a schedule, and which images there may be.
use Rattle.std.specs.Prelude.{◌≡◌, ℕ, Bool, true, false, List, []}
use Rattle.std.specs.List.{AllByRecursion}
use Rattle.protocol.specs.Cutting.{Ascends, AreAbortedFrom}
use Rattle.protocol.specs.OnCell.{is_entry_among, staying, going}
use Rattle.protocol.specs.Parts.{Cascade, Entry, Image}
use Rattle.protocol.specs.Words.{is_empty, is_aborted, batches_on, acts_on}

-- of the batches here none is aborted
abbrev pub NoneIsAborted : List Cascade → List Entry → Type 0
NoneIsAborted cascades entries = AllByRecursion (λ j. is_aborted j cascades ≡ false) (batches_on entries)

-- A schedule is cut from batch k on, and ACTs are meant too or not.
pub record IsCutFrom (k : ℕ) (acts : Bool) (cascades : List Cascade) (entries : List Entry) (images : List Image) : Type 0 where
  pub ascends : Ascends (batches_on entries)
  pub aborted : AreAbortedFrom k cascades entries
  -- they are where none of them is ahead of the cut
  pub ahead : acts ≡ is_empty (acts_on (staying cascades entries))
  -- an image is of an entry
  pub entered : AllByRecursion (λ i. is_entry_among i.who entries ≡ true) images
  -- behind an ACT that is ahead of the cut, nothing of the cut has run
  pub waited : acts ≡ false → AllByRecursion (λ i. is_entry_among i.who (going cascades entries) ≡ false) images
