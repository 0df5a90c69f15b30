-- The long schedule of an actor: its schedule as if nothing that stays had ever left it.
-- Proofs cite this, and `Undo` its `slices_in`; the rule is `OrderHolds` (Order).
use Rattle.std.specs.Prelude.{◌≡◌, ℕ, ◌==◌, Bool, true, false, ◌||◌, List, [], ◌∷◌, ◌++◌, ⊤}
use Rattle.std.specs.List.{list_any}
use Rattle.snap_base.specs.declared.transactions.State.{State}
use Rattle.protocol.specs.Parts.{Cascade, Who, Entry, Image}
use Rattle.protocol.specs.Words.{who_of, is_who}
use Rattle.protocol.specs.Contents.{complete_mark}
use Rattle.protocol.specs.OnCell.{is_cut}
use Rattle.protocol.specs.History.{Slice, Ran, Stands, Gone}

-- ---- who stands, and whether it is a complete batch

pub record Key : Type 0 where
  pub who : Who
  pub complete : Bool

abbrev pub key_of : Entry → Key
key_of e = record { who = who_of e; complete = complete_mark e }

abbrev pub keys_in : List Ran → List Key
keys_in [] = []
keys_in (Stands y c ss ∷ rs) = record { who = y; complete = c } ∷ keys_in rs
keys_in (Gone y ss ∷ rs) = keys_in rs

abbrev pub is_key_among : Who → List Key → Bool
is_key_among who [] = false
is_key_among who (k ∷ ks) = is_who k.who who || is_key_among who ks

-- nobody stands there twice
abbrev pub Differ : List Key → Type 0
Differ [] = ⊤
Differ (k ∷ ks) = (is_key_among k.who ks ≡ false) × Differ ks

-- ---- what ran

abbrev pub slices_in : List Ran → List Slice
slices_in [] = []
slices_in (Stands y c ss ∷ rs) = ss ++ slices_in rs
slices_in (Gone y ss ∷ rs) = ss ++ slices_in rs

-- the image that the first slice took
abbrev pub first_image : Who → List Slice → List Image
first_image who [] = []
first_image who (x ∷ xs) = record { who = who; state = x.found } ∷ []

abbrev pub images_in : List Ran → List Image
images_in [] = []
images_in (Stands y c ss ∷ rs) = first_image y ss ++ images_in rs
images_in (Gone y ss ∷ rs) = images_in rs

-- each slice found what the one before it left, from the first state to the last
abbrev pub Linked : State → List Slice → State → Type 0
Linked first [] last = first ≡ last
Linked first (x ∷ xs) last = (x.found ≡ first) × Linked x.left xs last

-- behind one that stands and is no complete batch nothing ran
abbrev pub InOrder : List Ran → Type 0
InOrder [] = ⊤
InOrder (Stands y c ss ∷ rs) = (c ≡ false → slices_in rs ≡ []) × InOrder rs
InOrder (Gone y ss ∷ rs) = InOrder rs

-- the reader has run, by these slices of readers
abbrev pub has_read : List Slice → ℕ → Bool
has_read reads t = list_any (λ x. x.tid == t) reads

-- where this one stands it has no slices
abbrev pub Bare : Who → List Ran → Type 0
Bare who [] = ⊤
Bare who (Stands y c ss ∷ rs) = (is_who y who ≡ true → ss ≡ []) × Bare who rs
Bare who (Gone y ss ∷ rs) = Bare who rs

-- ---- an actor's long schedule, beside what its cell holds

pub record Tracks (first : State) (keys : List Key) (images : List Image) (now : State) (long : List Ran) : Type 0 where
  -- who stands in the schedule
  pub stands : keys ≡ keys_in long
  pub differ : Differ keys
  pub in_order : InOrder long
  -- an image is what the first slice of its entry found
  pub images_are : images ≡ images_in long
  pub links : Linked first (slices_in long) now

-- ---- where a rollback cuts

abbrev pub NoneGone : List Ran → Type 0
NoneGone [] = ⊤
NoneGone (Stands y c ss ∷ rs) = NoneGone rs
NoneGone (Gone y ss ∷ rs) = ⊥

-- nothing behind an aborted batch has left for good
abbrev pub CutIsEnd : List Cascade → List Ran → Type 0
CutIsEnd cascades [] = ⊤
CutIsEnd cascades (Stands y c ss ∷ rs) = (is_cut cascades y ≡ true → NoneGone rs) × CutIsEnd cascades rs
CutIsEnd cascades (Gone y ss ∷ rs) = CutIsEnd cascades rs
