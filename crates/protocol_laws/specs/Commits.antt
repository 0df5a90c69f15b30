-- What committed along an actor's long schedule, and how its states link.
use Rattle.std.specs.Prelude.{◌≡◌, ℕ, Bool, true, false, ◌||◌, if◌then◌else◌, Option, Some, None, List, [], ◌∷◌, ◌++◌, ⊤}
use Rattle.std.specs.List.{list_any}
use Rattle.snap_base.specs.declared.transactions.State.{State}
use Rattle.protocol.specs.Parts.{Act, Who, OfBatch, OfAct}
use Rattle.protocol.specs.Words.{is_who, is_value, act_of}
use Rattle.protocol.specs.History.{View, Done, Slice, Ran, Stands, Gone, is_reader_act}
use Rattle.protocol_laws.specs.Tracks.{keys_in, is_key_among, Linked}

-- ---- the states of what committed, at one actor

abbrev pub Finds : Option View → State → Type 0
Finds None s = ⊤
Finds (Some v) s = v.found ≡ s

abbrev pub left_by : Option View → State → State
left_by None s = s
left_by (Some v) s = v.left

-- a failed one leaves the state as it was
abbrev pub left_as : Bool → Option View → State → State
left_as true o s = left_by o s
left_as false o s = s

abbrev pub left_of : ℕ → Done → State → State
left_of a d s = left_as (is_value d.result) (d.views a) s

-- each found what the last one with a value before it left
abbrev pub StatesLink : ℕ → State → List Done → Type 0
StatesLink a s [] = ⊤
StatesLink a s (d ∷ ds) = Finds (d.views a) s × StatesLink a (left_of a d s) ds

abbrev pub last_state : ℕ → State → List Done → State
last_state a s [] = s
last_state a s (d ∷ ds) = last_state a (left_of a d s) ds

-- ---- what committed along a long schedule

abbrev pub is_kept : Who → List Who → Bool
is_kept who kept = list_any (λ y. is_who y who) kept

abbrev pub has_kept : List Who → List Ran → Bool
has_kept kept [] = false
has_kept kept (Stands y c ss ∷ rs) = is_kept y kept || has_kept kept rs
has_kept kept (Gone y ss ∷ rs) = true

-- ahead of what committed all committed; what left for good did
abbrev pub KeptFront : List Who → List Ran → Type 0
KeptFront kept [] = ⊤
KeptFront kept (Stands y c ss ∷ rs) = (has_kept kept rs ≡ true → is_kept y kept ≡ true) × KeptFront kept rs
KeptFront kept (Gone y ss ∷ rs) = (is_kept y kept ≡ true) × KeptFront kept rs

abbrev pub kept_slices : List Who → List Ran → List Slice
kept_slices kept [] = []
kept_slices kept (Stands y c ss ∷ rs) = if is_kept y kept then ss ++ kept_slices kept rs else kept_slices kept rs
kept_slices kept (Gone y ss ∷ rs) = ss ++ kept_slices kept rs

-- all ahead of one that stands there committed
abbrev pub KeptAhead : List Who → Who → List Ran → Type 0
KeptAhead kept who [] = ⊤
KeptAhead kept who (Stands y c ss ∷ rs) = (is_key_among who (keys_in rs) ≡ true → is_kept y kept ≡ true) × KeptAhead kept who rs
KeptAhead kept who (Gone y ss ∷ rs) = KeptAhead kept who rs

-- an ACT that only reads
abbrev pub reads_who : List Act → Who → Bool
reads_who acts (OfBatch k) = false
reads_who acts (OfAct t) = is_reader_act (act_of t acts)

-- each that stands ahead of it has committed, or only reads
abbrev pub KeptOrReads : List Who → List Act → Who → List Ran → Type 0
KeptOrReads kept acts who [] = ⊤
KeptOrReads kept acts who (Stands y c ss ∷ rs) = (is_key_among who (keys_in rs) ≡ true → (is_kept y kept || reads_who acts y) ≡ true) × KeptOrReads kept acts who rs
KeptOrReads kept acts who (Gone y ss ∷ rs) = KeptOrReads kept acts who rs

-- At one actor: what committed is the front of the long schedule, and its slices go from the first state to the one
-- that the last of what committed left.
pub record Commits (a : ℕ) (first : State) (kept : List Who) (committed : List Done) (long : List Ran) : Type 0 where
  pub front : KeptFront kept long
  pub ends : Linked first (kept_slices kept long) (last_state a first committed)
  pub links : StatesLink a first committed
