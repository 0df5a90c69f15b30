-- What a run begins with, by what its log holds.
use Rattle.std.specs.Prelude.{◌≡◌, ◌≢◌, ℕ, ◌<◌, ◌≤◌, ◌⊎◌, ℤ, pos, List, [], ◌∷◌, ◌++◌, length}
use Rattle.std.specs.List.{AllByRecursion}
use Rattle.snap_base.specs.declared.transactions.State.{State}
use Rattle.txn_records.specs.declared.records.Record.{Record}
use Rattle.txn_records.specs.declared.records.Record.TheVariants.{Genesis}
use Rattle.snap_recover.specs.declared.openings.Opening.{Opening}
use Rattle.snap_recover.specs.Logs.{geneses}
use Rattle.log_compact.specs.declared.folds.Folded.{Folded}
use Rattle.log_compact.specs.Sets.{IsFolded}
use Rattle.snap_recover.specs.declared.causes.LogCause.{LogCause}
use Rattle.snap_recover.specs.declared.causes.LogCause.TheVariants as cause
use Rattle.snap_recover.specs.declared.causes.What.{What}
use Rattle.snap_recover.specs.declared.causes.What.TheVariants.{Actors, Field}
use Rattle.log_opening.specs.Found.{IsFoldCause}
use Rattle.run_opening.specs.declared.comparisons.TheConstants.{GREATEST_TO_BEGIN}

-- ---- what a run may begin with

-- what the first run begins with
abbrev pub fresh_opening : List State → Opening
fresh_opening states = record { states = states; committed = []; next_tid = record { 0 = 1 }; next_bid = record { 0 = 1 }; next_c = 1 }

-- no next number is too large to begin with
pub record IsUnspent (o : Opening) : Type 0 where
  pub tid : o.next_tid.0 ≤ GREATEST_TO_BEGIN
  pub bid : o.next_bid.0 ≤ GREATEST_TO_BEGIN
  pub c : o.next_c ≤ GREATEST_TO_BEGIN

-- no log has a record
abbrev pub AreEmpty : List (List Record) → Type 0
AreEmpty logs = AllByRecursion (λ (rs : List Record). rs ≡ []) logs

-- the first run on these logs began with these states
abbrev pub BeganWith : List (List Record) → List State → Type 0
BeganWith logs states = geneses logs ≡ Genesis (length logs) states ∷ []

-- the records fold to the opening, and began with the text's states
pub record GoesOn (logs : List (List Record)) (states : List State) (o : Opening) : Type 0 where
  pub some : ¬ AreEmpty logs
  pub folded : (f : Folded) × IsFolded logs f × (f.opening ≡ o)
  pub same : BeganWith logs states
  pub unspent : IsUnspent o

-- A run of a text with these states, on logs of these records, begins with the opening.
abbrev pub Begins : List (List Record) → List State → Opening → Type 0
Begins logs states o = (AreEmpty logs × (o ≡ fresh_opening states)) ⊎ GoesOn logs states o

-- ---- why a run does not begin

-- the first number that is spent
abbrev pub IsFirstSpent : Opening → ℕ → Type 0
IsFirstSpent o n =
    ((GREATEST_TO_BEGIN < o.next_tid.0) × (n ≡ o.next_tid.0))
    ⊎ (((o.next_tid.0 ≤ GREATEST_TO_BEGIN) × (GREATEST_TO_BEGIN < o.next_bid.0) × (n ≡ o.next_bid.0))
    ⊎ ((o.next_tid.0 ≤ GREATEST_TO_BEGIN) × (o.next_bid.0 ≤ GREATEST_TO_BEGIN) × (GREATEST_TO_BEGIN < o.next_c) × (n ≡ o.next_c)))

-- the first field that differs
abbrev pub IsFieldDifference : List ℤ → List ℤ → ℕ → ℤ → ℤ → Type 0
IsFieldDifference kept text field k t =
    (same kept_rest text_rest : List ℤ) × (kept ≡ same ++ k ∷ kept_rest) × (text ≡ same ++ t ∷ text_rest)
    × (field ≡ length same) × (k ≢ t)

-- what differs first between the states that the log began with and the text's
abbrev pub IsDifference : List State → List State → What → ℤ → ℤ → Type 0
IsDifference kept text Actors k t = (length kept ≢ length text) × (k ≡ pos (length kept)) × (t ≡ pos (length text))
IsDifference kept text (Field actor field) k t =
    (length kept ≡ length text)
    × ((same kept_rest text_rest : List State) × (x y : State) × (kept ≡ same ++ x ∷ kept_rest) × (text ≡ same ++ y ∷ text_rest)
    × (actor.0 ≡ length same) × IsFieldDifference x.0 y.0 field k t)

-- why a run of a text with these states does not go on from the records
abbrev pub IsCause : List (List Record) → List State → ℕ → LogCause → Type 0
IsCause logs states log (cause.Spent number) = (log ≡ 0) × ((f : Folded) × IsFolded logs f × IsFirstSpent f.opening number)
IsCause logs states log (cause.Differs what kept text) =
    (log ≡ 0) × ((f : Folded)
    × IsFolded logs f × IsUnspent f.opening × BeganWith logs f.first × IsDifference f.first states what kept text)
IsCause logs states log cause.NotALog = ⊥
IsCause logs states log cause.Damage = ⊥
IsCause logs states log cause.OldFormat = ⊥
IsCause logs states log cause.BadRecord = ⊥
IsCause logs states log cause.Back = ⊥
IsCause logs states log cause.Stray = IsFoldCause logs log cause.Stray
IsCause logs states log cause.NoGenesis = IsFoldCause logs log cause.NoGenesis
IsCause logs states log cause.TwoGenesis = IsFoldCause logs log cause.TwoGenesis
IsCause logs states log (cause.LogCount kept found) = IsFoldCause logs log (cause.LogCount kept found)
IsCause logs states log (cause.Range k) = IsFoldCause logs log (cause.Range k)
IsCause logs states log (cause.Missing k) = IsFoldCause logs log (cause.Missing k)
IsCause logs states log (cause.Values k u v) = IsFoldCause logs log (cause.Values k u v)
