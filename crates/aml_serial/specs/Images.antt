-- Only private contracts cite this; the rule is `alone` of aml_check/specs/Meaning, where a failure leaves the world as
-- it was. Here: the states that a transaction came upon are put back.
use Rattle.std.specs.Prelude.{ℕ, ◌<◌, Bool, true, false, Result, Ok, Err, List, [], ◌∷◌, slice_set}
use Rattle.std.specs.List.{AllByRecursion}
use Rattle.snap_base.specs.declared.memory.Memory.{Memory}
use Rattle.snap_base.specs.declared.transactions.State.{State}
use Rattle.snap_base.specs.declared.transactions.TxResult.{TxResult}
use Rattle.snap_base.specs.declared.transactions.TxResult.TheVariants as result
use Rattle.aml_serial.specs.declared.images.BeforeImage.{BeforeImage}

-- the world with the states of these images in it
abbrev pub put_back : List BeforeImage → List State → List State
put_back [] w = w
put_back (image ∷ images) w = put_back images (slice_set w image.actor image.state)

-- the images are of actors of a world of so many
abbrev pub AreImagesWithin : ℕ → List BeforeImage → Type 0
AreImagesWithin count images = AllByRecursion (λ (image : BeforeImage). image.actor < count) images

-- the transaction ended with a value, so what it made of the world stays
abbrev pub has_value : Result TxResult Memory → Bool
has_value (Ok (result.Value v)) = true
has_value (Ok (result.Fail code)) = false
has_value (Err memory) = false
