-- Of four devices, which hold the logs in use, and what these fold to.
use Rattle.std.specs.Prelude.{⊤, ◌≡◌, ℕ, ◌+◌, ◌<◌, ◌≤◌, ◌⊎◌, max, if◌then◌else◌, List, [], ◌∷◌, ◌++◌, length, map, take, drop, Option, Some, None}
use Rattle.std.specs.List.{AllByRecursion, range_with_len}
use Rattle.snap_base.specs.declared.transactions.State.{State}
use Rattle.txn_records.specs.declared.records.Record.{Record}
use Rattle.txn_records.specs.declared.records.Record.TheVariants.{Genesis}
use Rattle.snap_recover.specs.declared.openings.Kept.{Kept}
use Rattle.snap_recover.specs.declared.openings.Kept.TheVariants as kept
use Rattle.snap_recover.specs.declared.openings.Opening.{Opening}
use Rattle.snap_recover.specs.declared.ranges.TheConstants.{GREATEST_NUMBER}
use Rattle.snap_recover.specs.Logs.{is_genesis, geneses}
use Rattle.snap_recover.specs.Opening.{IsRecovered}
use Rattle.log_compact.specs.declared.folds.Folded.{Folded}
use Rattle.log_compact.specs.Points.{Point, point_told, IsPlain, plains}

-- ---- heads

-- A device of 0, 1 and 2 whose log begins with a Genesis; of the devices 1 and 2 this says that there are so many logs.
pub record IsHead (d : ℕ) (log : List Record) (logs : ℕ) (first : List State) : Type 0 where
  pub low : d < 3
  pub rest : List Record
  pub begins : log ≡ Genesis logs first ∷ rest
  pub side : (d ≡ 0) ⊎ (logs ≡ d)

-- a number of the point, where there is one
abbrev pub number_of : (Point → ℕ) → Option Point → ℕ
number_of f None = 0
number_of f (Some p) = f p

-- the generation of a log: that of the checkpoint in second place, else 0
abbrev pub generation_of : List Record → ℕ
generation_of [] = 0
generation_of (r ∷ []) = 0
generation_of (r ∷ x ∷ rs) = number_of (λ p. p.generation) (point_told x)

-- The head has the greatest generation, and of those that have it the lowest number; the set is so many logs as it says.
pub record IsSet (devices : ℕ → List Record) (head logs generation : ℕ) : Type 0 where
  pub first : List State
  pub is_head : IsHead head (devices head) logs first
  pub its : generation ≡ generation_of (devices head)
  pub greatest : (d many : ℕ) (states : List State) → IsHead d (devices d) many states → (generation_of (devices d) < generation) ⊎ ((generation_of (devices d) ≡ generation) × (head ≤ d))

-- so many devices from the head on
abbrev pub logs_from : (ℕ → List Record) → ℕ → ℕ → List (List Record)
logs_from devices head logs = map devices (range_with_len head logs)

-- ---- the fold

-- what the list tells of a checkpoint: of the one in second place behind a Genesis
abbrev pub point_in : List Record → Option Point
point_in [] = None
point_in (r ∷ []) = None
point_in (r ∷ x ∷ rs) = if is_genesis r then point_told x else None

abbrev pub point_of : List (List Record) → Option Point
point_of [] = None
point_of (rs ∷ lists) = point_in rs

-- the states of the Genesis in first place, where one stands there
abbrev pub states_at : List Record → List State
states_at (Genesis count states ∷ rs) = states
states_at rs = []

-- the states of the first Genesis that there is
abbrev pub first_of : List (List Record) → List State
first_of lists = states_at (geneses lists)

-- a checkpoint stands nowhere else than in second place of the first list, behind a Genesis with as many states
abbrev pub IsFirstList : List Record → Option Point → Type 0
IsFirstList rs None = AllByRecursion IsPlain rs
IsFirstList rs (Some p) = (length (states_at rs) ≡ length p.states) × AllByRecursion IsPlain (drop 2 rs)

abbrev pub HasNoStray : List (List Record) → Type 0
HasNoStray [] = ⊤
HasNoStray (rs ∷ lists) = IsFirstList rs (point_in rs) × AllByRecursion (AllByRecursion IsPlain) lists

-- Genesis has the checkpoint's states
abbrev pub restated : List State → Record → Record
restated states (Genesis count first) = Genesis count states
restated states r = r

-- Genesis has the checkpoint's states, and the checkpoint is left out
abbrev pub without_point : List Record → Option Point → List Record
without_point rs None = plains rs
without_point rs (Some p) = map (restated p.states) (take 1 rs) ++ plains (drop 2 rs)

abbrev pub plain_lists : List (List Record) → List (List Record)
plain_lists [] = []
plain_lists (rs ∷ lists) = without_point rs (point_in rs) ∷ map plains lists

-- no number of it is too large
pub record IsPointInRange (p : Point) : Type 0 where
  pub generation : p.generation ≤ GREATEST_NUMBER
  pub next_tid : p.next_tid ≤ GREATEST_NUMBER
  pub next_bid : p.next_bid ≤ GREATEST_NUMBER
  pub next_c : p.next_c ≤ GREATEST_NUMBER
  pub batches : p.batches ≤ GREATEST_NUMBER
  pub acts : p.acts ≤ GREATEST_NUMBER

abbrev pub OfPoint : (Point → Type 0) → Option Point → Type 0
OfPoint P None = ⊤
OfPoint P (Some p) = P p

abbrev pub count_batches : List Kept → ℕ
count_batches [] = 0
count_batches (kept.Batch bid tids values ∷ ks) = 1 + count_batches ks
count_batches (kept.Act tid m c value ∷ ks) = count_batches ks

abbrev pub count_acts : List Kept → ℕ
count_acts [] = 0
count_acts (kept.Batch bid tids values ∷ ks) = count_acts ks
count_acts (kept.Act tid m c value ∷ ks) = 1 + count_acts ks

-- The lists recover, with the checkpoint's states in place of Genesis's. Next numbers are the greater of these and the
-- checkpoint's, and its counts are added to what is committed.
pub record IsFolded (lists : List (List Record)) (f : Folded) : Type 0 where
  pub no_stray : HasNoStray lists
  pub in_range : OfPoint IsPointInRange (point_of lists)
  pub found : Opening
  pub recovered : IsRecovered (plain_lists lists) found
  pub states : f.opening.states ≡ found.states
  pub next_tid : f.opening.next_tid.0 ≡ max found.next_tid.0 (number_of (λ p. p.next_tid) (point_of lists))
  pub next_bid : f.opening.next_bid.0 ≡ max found.next_bid.0 (number_of (λ p. p.next_bid) (point_of lists))
  pub next_c : f.opening.next_c ≡ max found.next_c (number_of (λ p. p.next_c) (point_of lists))
  pub batches : f.batches ≡ count_batches found.committed + number_of (λ p. p.batches) (point_of lists)
  pub acts : f.acts ≡ count_acts found.committed + number_of (λ p. p.acts) (point_of lists)
  pub first : f.first ≡ first_of lists
  pub generation : f.generation ≡ number_of (λ p. p.generation) (point_of lists)
  -- what is committed since the checkpoint
  pub since : f.opening.committed ≡ found.committed

-- a later run prints the same of both
pub record IsSameFold (f g : Folded) : Type 0 where
  pub states : g.opening.states ≡ f.opening.states
  pub next_tid : g.opening.next_tid ≡ f.opening.next_tid
  pub next_bid : g.opening.next_bid ≡ f.opening.next_bid
  pub next_c : g.opening.next_c ≡ f.opening.next_c
  pub batches : g.batches ≡ f.batches
  pub acts : g.acts ≡ f.acts
  pub first : g.first ≡ f.first

-- ---- laws

-- there is one set at most
abbrev pub OneSet : Type 0
OneSet =
    (devices : ℕ → List Record) (a b many other g h : ℕ) → IsSet devices a many g → IsSet devices b other h
    → (a ≡ b) × (many ≡ other) × (g ≡ h)

-- lists fold to one thing at most
abbrev pub OneFold : Type 0
OneFold = (lists : List (List Record)) (f g : Folded) → IsFolded lists f → IsFolded lists g → f ≡ g

-- Lists without a checkpoint fold to what they recover to: generation 0, and the counts of what is committed.
abbrev pub PlainFolds : Type 0
PlainFolds =
    (lists : List (List Record)) (f : Folded) → AllByRecursion (AllByRecursion IsPlain) lists → IsFolded lists f
    → IsRecovered lists f.opening × (f.generation ≡ 0) × (f.batches ≡ count_batches f.opening.committed) × (f.acts ≡ count_acts f.opening.committed)
