-- Only private contracts cite this; the rule is Slicing.
use Rattle.std.specs.Prelude.{◌≡◌, ℕ, ◌+◌, ◌-◌, ◌*◌, ◌<◌, ◌≤◌, ◌⊎◌, ℤ, Result, Ok, Err, Option, Some, None, List, [], ◌∷◌, length, take, drop, reverse, option_map, vec_capacity}
use Rattle.std.specs.List.{AllByRecursion, sum_by}
use Rattle.snap_base.specs.declared.ids.ActorId.{ActorId}
use Rattle.snap_base.specs.declared.transactions.State.{State}
use Rattle.snap_base.specs.declared.transactions.TxResult.{TxResult}
use Rattle.aml_tree.specs.declared.limits.TheConstants.{MOST_LEVELS, MOST_NAMES}
use Rattle.aml_check.specs.declared.limits.TheConstants.{MOST_CALLED_ACTORS, MOST_CALLS}
use Rattle.aml_check.specs.Meaning.{Progress, actor_of, admitted, too_deep}
use Rattle.aml_resume.specs.Rooms.{standing_of, HasRoom}
use Rattle.aml_resume.specs.declared.places.Spot.{Spot}
use Rattle.aml_slice.specs.declared.allowances.Allowance.{Allowance}
use Rattle.aml_slice.specs.declared.frames.Frame as code
use Rattle.aml_slice.specs.declared.running.Running.{Running}
use Rattle.aml_slice.specs.declared.saved.SavedFrame.{SavedFrame}
use Rattle.aml_slice.specs.declared.saved.SavedFrames.{SavedFrames}
use Rattle.aml_slice.specs.Controls.{Frame, Rest, fresh, most_waiting, progress_in, with_given}
use Rattle.aml_slice.specs.Slicing.{Move, To, Out}

-- ---- what the values of the code are

abbrev pub frame_of : code.Frame → Frame
frame_of f = record { actor = f.actor; method = f.method; standing = standing_of f.activation }

-- the last so many of a list, and those before them
abbrev pub last_of : {X : Type 0} → ℕ → List X → List X
last_of n xs = drop (length xs - n) xs

abbrev pub before_last : {X : Type 0} → ℕ → List X → List X
before_last n xs = take (length xs - n) xs

-- a frame that waits, with its variables and its open blocks
abbrev pub saved_frame : SavedFrame → List ℤ → List Spot → Frame
saved_frame f vs qs = record { actor = f.actor; method = f.method; standing = record { path = reverse qs; next = f.next; variables = vs } }

-- frames that wait, the innermost first: the last variables and open blocks that are saved are its, and those before them
-- are the others'
abbrev pub frames_in : List SavedFrame → List ℤ → List Spot → List Frame
frames_in [] vs qs = []
frames_in (f ∷ fs) vs qs = saved_frame f (last_of f.variables vs) (last_of f.levels qs) ∷ frames_in fs (before_last f.variables vs) (before_last f.levels qs)

abbrev pub frames_of : SavedFrames → List Frame
frames_of s = frames_in (reverse s.frames.items) s.variables.items s.path.items

abbrev pub rest_of : Running → Rest
rest_of c = record {
  tid = c.tid;
  top = frame_of c.top;
  waiting = frames_of c.waiting;
  statements = c.statements;
  calls = c.allowance.calls;
  actors = c.allowance.actors.items;
  left = option_map (λ us. us.items) c.allowance.left;
}

-- a run with such an allowance
abbrev pub progress_with : Allowance → ℕ → List State → Progress
progress_with a n w = record { world = w; statements = n; calls = a.calls; actors = a.actors.items; left = option_map (λ us. us.items) a.left }

-- a step of a run: what it gives, or its code
abbrev pub Moves : {T : Type 0} → Result Progress ℕ → Progress → Result T ℕ → Type 0
Moves meant after (Ok x) = meant ≡ Ok after
Moves meant after (Err code) = meant ≡ Err code

-- a move of the code
abbrev pub move_at : State → Rest → Result ℕ TxResult → Move
move_at t d (Ok a) = To d t
move_at t d (Err r) = Out r t

-- a frame that waits on the actor
abbrev pub WaitsOn : List SavedFrame → ℕ → Type 0
WaitsOn [] a = ⊥
WaitsOn (f ∷ fs) a = (f.actor ≡ a) ⊎ WaitsOn fs a

-- ---- room

-- how many calls are left of those that were declared
abbrev pub calls_of : List (ActorId × ℕ) → ℕ
calls_of [] = 0
calls_of (u ∷ us) = u.1 + calls_of us

-- beside so many frames that wait, so many more are enough: as many as may wait in all, or of a PACT as many as calls are left
-- of those that it declared
abbrev pub IsEnough : ℕ → ℕ → Option (List (ActorId × ℕ)) → Type 0
IsEnough waiting spare None = most_waiting ≤ waiting + spare
IsEnough waiting spare (Some us) = (most_waiting ≤ waiting + spare) ⊎ (calls_of us ≤ spare)

-- A row of what frames keep, so many of each and at most so many: they add up to its length, and there is room for those of
-- so many frames.
pub record IsRow (of : SavedFrame → ℕ) (most : ℕ) (frames : List SavedFrame) (room size capacity : ℕ) : Type 0 where
  pub few : AllByRecursion (λ (f : SavedFrame). of f ≤ most) frames
  pub all : sum_by of frames ≡ size
  pub fits : room * most ≤ capacity

-- the variables and the open blocks of the frames that wait
pub record AreKept (s : SavedFrames) : Type 0 where
  pub variables : IsRow (λ (f : SavedFrame). f.variables) MOST_NAMES s.frames.items (vec_capacity s.frames) (length s.variables.items) (vec_capacity s.variables)
  pub path : IsRow (λ (f : SavedFrame). f.levels) MOST_LEVELS s.frames.items (vec_capacity s.frames) (length s.path.items) (vec_capacity s.path)

-- no slice needs memory: there is room for all frames that may come to wait, and for the variables and the place of each; and no
-- more calls were made than a transaction may make
pub record HasRooms (c : Running) : Type 0 where
  pub top : HasRoom c.top.activation
  pub kept : AreKept c.waiting
  pub frames : IsEnough (length c.waiting.frames.items) (vec_capacity c.waiting.frames - length c.waiting.frames.items) (option_map (λ us. us.items) c.allowance.left)
  pub few : length c.waiting.frames.items ≤ most_waiting
  pub arguments : MOST_NAMES ≤ vec_capacity c.arguments
  pub actors : MOST_CALLED_ACTORS ≤ vec_capacity c.allowance.actors
  pub calls : c.allowance.calls ≤ MOST_CALLS

-- each frame that waits has room for one variable more
abbrev pub HasPlace : List Frame → Type 0
HasPlace fs = AllByRecursion (λ (f : Frame). length f.standing.variables + 1 ≤ MOST_NAMES) fs

-- ---- from frame to frame

-- the frame that runs is gone, and the next has taken its value
abbrev pub NextFrame : Rest → Rest → ℤ → ℕ → Type 0
NextFrame c d v a = (f : Frame) × (c.waiting ≡ f ∷ d.waiting) × (d ≡ record c { top = with_given f v; waiting = d.waiting }) × (a ≡ f.actor)

-- the frame that ran waits, and a new one runs
abbrev pub NewFrame : Rest → Rest → ℕ → ℕ → List ℤ → Type 0
NewFrame c d a m arguments = d ≡ record c { top = fresh a m arguments; waiting = c.top ∷ c.waiting }

-- a call that is admitted: the frame waits, and one for the method runs
pub record Enters (count : ℕ) (c d : Rest) (target : ℤ) (m : ℕ) (arguments : List ℤ) (a : ℕ) : Type 0 where
  pub actor : actor_of count target ≡ Ok a
  pub known : a < count
  pub few : length c.waiting < most_waiting
  pub admits : (w : List State) → admitted a (progress_in c w) ≡ Ok (progress_in d w)
  pub frames : (d.top ≡ fresh a m arguments) × (d.waiting ≡ c.top ∷ c.waiting)
  pub tid : d.tid ≡ c.tid

-- a call that is refused, and why: there is no such actor, too many calls are open, or it is not admitted
abbrev pub RefusesCall : ℕ → Rest → ℤ → ℕ → Type 0
RefusesCall count c target code =
    (actor_of count target ≡ Err code)
    ⊎ ((a : ℕ) × (actor_of count target ≡ Ok a)
    × (((most_waiting ≤ length c.waiting) × (code ≡ too_deep)) ⊎ ((length c.waiting < most_waiting) × ((w : List State) → admitted a (progress_in c w) ≡ Err code))))
