-- What a crash leaves of four devices while a set is compacted to the other side, at each moment and for each choice of images.
use Rattle.std.specs.Prelude.{◌≡◌, ◌≢◌, ℕ, ◌+◌, ◌<◌, ◌≤◌, ◌==◌, ◌⊎◌, if◌then◌else◌, List, [], ◌∷◌}
use Rattle.txn_records.specs.declared.records.Record.{Record}
use Rattle.txn_records.specs.declared.records.Record.TheVariants.{Genesis, Checkpoint}
use Rattle.snap_recover.specs.declared.ranges.TheConstants.{GREATEST_NUMBER}
use Rattle.log_compact.specs.declared.folds.Folded.{Folded}
use Rattle.log_compact.specs.Finding.{IsUsed}
use Rattle.log_compact.specs.Sets.{IsSet, IsFolded, IsSameFold, logs_from}

-- of the two sides the one that does not begin at this device
abbrev pub other_side : ℕ → ℕ → ℕ
other_side head logs = if head == 0 then logs else 0

pub record IsOnSide (from logs d : ℕ) : Type 0 where
  pub behind : from ≤ d
  pub before : d < from + logs

-- the group that is appended to the other side's first log
abbrev pub group_for : ℕ → Folded → List Record
group_for logs f =
    Genesis logs f.first
    ∷ Checkpoint (f.generation + 1) f.opening.next_tid f.opening.next_bid f.opening.next_c f.batches f.acts f.opening.states
    ∷ []

-- Said of lists of anything, of the items of logs too.
-- Until the group is there: the logs of the other side are cleared one after the other, and each of them holds what it
-- held, or none; all other devices hold what they held.
pub record IsBefore {X : Type 0} (devices now : ℕ → List X) (other logs : ℕ) : Type 0 where
  pub cleared : (d : ℕ) → IsOnSide other logs d → (now d ≡ devices d) ⊎ (now d ≡ [])
  pub same : (d : ℕ) → ¬ IsOnSide other logs d → now d ≡ devices d

-- Once it is there: the other side holds just the group, in its first log; the logs of the old side are cleared one after the
-- other; and what is on no side holds what it held.
pub record IsBehind {X : Type 0} (devices now : ℕ → List X) (head other logs : ℕ) (group : List X) : Type 0 where
  pub there : now other ≡ group
  pub empty : (d : ℕ) → IsOnSide other logs d → d ≢ other → now d ≡ []
  pub cleared : (d : ℕ) → IsOnSide head logs d → (now d ≡ devices d) ⊎ (now d ≡ [])
  pub same : (d : ℕ) → ¬ IsOnSide other logs d → ¬ IsOnSide head logs d → now d ≡ devices d

-- Every moment is one of these: the append adds its group all at once, and each clearing takes all of its log at once.
abbrev pub IsMoment : (devices now : ℕ → List Record) (head logs : ℕ) (f : Folded) → Type 0
IsMoment devices now head logs f =
    IsBefore devices now (other_side head logs) logs ⊎ IsBehind devices now head (other_side head logs) logs (group_for logs f)

-- What a few logs in use that are not refused are: those of a set, or device 0 alone where there is none.
pub record MayCompact (devices : ℕ → List Record) (head logs : ℕ) (f : Folded) : Type 0 where
  pub used : IsUsed devices 1 head logs f.generation
  pub some : 1 ≤ logs
  pub few : logs ≤ 2
  pub folded : IsFolded (logs_from devices head logs) f
  -- no number is spent
  pub generation : f.generation + 1 ≤ GREATEST_NUMBER
  pub next_tid : f.opening.next_tid.0 ≤ GREATEST_NUMBER
  pub next_bid : f.opening.next_bid.0 ≤ GREATEST_NUMBER
  pub next_c : f.opening.next_c ≤ GREATEST_NUMBER
  pub batches : f.batches ≤ GREATEST_NUMBER
  pub acts : f.acts ≤ GREATEST_NUMBER

-- The logs in use are the same as before, hold what they held, and so fold to the same; or they are those of the other side, one generation
-- later, and nothing is committed since the checkpoint.
abbrev pub AreSameOrNext : (devices now : ℕ → List Record) (was head logs : ℕ) (f g : Folded) → Type 0
AreSameOrNext devices now was head logs f g =
    ((head ≡ was) × (logs_from now was logs ≡ logs_from devices was logs) × (g ≡ f))
    ⊎ ((head ≡ other_side was logs) × (g.generation ≡ f.generation + 1) × (g.opening.committed ≡ []))

-- As many logs are in use as before, when the head was this device, and what they fold to is the same.
pub record FoldsTheSame (devices now : ℕ → List Record) (was logs : ℕ) (f : Folded) : Type 0 where
  pub head : ℕ
  pub fold : Folded
  pub used : IsUsed now 1 head logs fold.generation
  pub folded : IsFolded (logs_from now head logs) fold
  pub same : IsSameFold f fold
  pub which : AreSameOrNext devices now was head logs f fold

-- Clearing the other side, or a part of it, leaves the logs in use and their lists.
abbrev pub ClearingKeeps : Type 0
ClearingKeeps =
    (devices now : ℕ → List Record) (many head logs generation : ℕ)
    → 1 ≤ logs → IsUsed devices many head logs generation → IsBefore devices now (other_side head logs) logs
    → IsUsed now many head logs generation × (logs_from now head logs ≡ logs_from devices head logs)

-- At every moment, whatever each device is left with, the logs in use fold to what they folded to before.
abbrev pub CompactingKeeps : Type 0
CompactingKeeps =
    (devices now : ℕ → List Record) (head logs : ℕ) (f : Folded)
    → MayCompact devices head logs f → IsMoment devices now head logs f → FoldsTheSame devices now head logs f

-- In the end, with the group there, it is the other side's first log that is the head, one generation later.
abbrev pub CompactingEnds : Type 0
CompactingEnds =
    (devices now : ℕ → List Record) (head logs : ℕ) (f : Folded)
    → MayCompact devices head logs f → IsBehind devices now head (other_side head logs) logs (group_for logs f) → IsSet now (other_side head logs) logs (f.generation + 1)
