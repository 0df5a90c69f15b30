-- What holds of an actor's schedule and its images where it is cut from a batch on.
use Rattle.std.specs.Prelude.{◌≡◌, ℕ, ◌<◌, false, nat_le, List, [], ◌∷◌, ⊤}
use Rattle.std.specs.List.{AllByRecursion}
use Rattle.protocol.specs.OnCell.{is_entry_among}
use Rattle.protocol.specs.Parts.{Cascade, Entry, Image}
use Rattle.protocol.specs.Words.{is_aborted, is_complete_batch, batches_on}

-- each is below all that follow
abbrev pub Ascends : List ℕ → Type 0
Ascends [] = ⊤
Ascends (k ∷ ks) = AllByRecursion (λ j. k < j) ks × Ascends ks

-- of the batches here those from k on are aborted, and no others
abbrev pub AreAbortedFrom : ℕ → List Cascade → List Entry → Type 0
AreAbortedFrom k cascades entries = AllByRecursion (λ j. is_aborted j cascades ≡ nat_le k j) (batches_on entries)

-- behind an entry that is no complete batch, nothing has an image: there nobody ran but who only reads
abbrev pub HaveRunInOrder : List Entry → List Image → Type 0
HaveRunInOrder [] images = ⊤
HaveRunInOrder (e ∷ es) images = (is_complete_batch e ≡ false → AllByRecursion (λ i. is_entry_among i.who es ≡ false) images) × HaveRunInOrder es images
