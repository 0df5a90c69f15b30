-- The set among lists of records, one for each device, as it is found.
use Rattle.std.specs.Prelude.{◌≡◌, ◌≢◌, ◌↔◌, ℕ, ◌<◌, nat_lt, ◌⊎◌, if◌then◌else◌, List, [], ◌∷◌, get_or, take, Option, Some, None}
use Rattle.snap_base.specs.declared.transactions.State.{State}
use Rattle.txn_records.specs.declared.records.Record.{Record}
use Rattle.txn_records.specs.declared.records.Record.TheVariants.{Genesis}
use Rattle.log_compact.specs.declared.founds.Found.{Found}
use Rattle.log_compact.specs.Sets.{IsHead, IsSet, generation_of}

-- what the devices hold; those behind the last one hold nothing
abbrev pub lists_at : List (List Record) → ℕ → List Record
lists_at lists d = get_or lists d []

-- no device is a head
abbrev pub HasNoSet : (ℕ → List Record) → Type 0
HasNoSet devices = (d many : ℕ) (states : List State) → ¬ IsHead d (devices d) many states

-- the device is a head, with its number of logs and its generation; or it is none
abbrev pub IsHeadIn : ℕ → List Record → Option Found → Type 0
IsHeadIn d log None = (many : ℕ) (states : List State) → ¬ IsHead d log many states
IsHeadIn d log (Some f) = (f.head ≡ d) × (f.generation ≡ generation_of log) × ((states : List State) × IsHead d log f.logs states)

-- the later one where its generation is greater
abbrev pub better : Option Found → Option Found → Option Found
better None next = next
better (Some f) None = Some f
better (Some f) (Some g) = if nat_lt f.generation g.generation then Some g else Some f

-- the devices hold this set, or none
abbrev pub IsFoundSet : (ℕ → List Record) → Option Found → Type 0
IsFoundSet devices None = HasNoSet devices
IsFoundSet devices (Some f) = IsSet devices f.head f.logs f.generation

-- ---- the logs in use

-- The logs in use are those of the set; where there is none, so many from device 0 on.
abbrev pub IsUsed : (devices : ℕ → List Record) (many head logs generation : ℕ) → Type 0
IsUsed devices many head logs generation = IsSet devices head logs generation ⊎ (HasNoSet devices × (head ≡ 0) × (logs ≡ many) × (generation ≡ 0))

-- So many logs from the head on, as runs and compactions leave them: they are a set; or there is none, and no log of so many holds a record.
pub data IsLeftByRuns (devices : ℕ → List Record) (head logs : ℕ) : Type 0 where
  begun : (generation : ℕ) → IsSet devices head logs generation → IsLeftByRuns devices head logs
  unbegun : HasNoSet devices → head ≡ 0 → ((l : ℕ) → l < logs → devices l ≡ []) → IsLeftByRuns devices head logs

-- ---- laws

-- there is one choice of the logs in use
abbrev pub OneUse : Type 0
OneUse =
    (devices : ℕ → List Record) (many head logs generation other more later : ℕ)
    → IsUsed devices many head logs generation → IsUsed devices many other more later
    → (head ≡ other) × (logs ≡ more) × (generation ≡ later)

-- of each device that may be a head these are the first two records
abbrev pub AreFronts : (devices fronts : ℕ → List Record) → Type 0
AreFronts devices fronts = (d : ℕ) → d < 3 → fronts d ≡ take 2 (devices d)

-- the ones tell the same logs in use as the others
pub record TellTheSame (devices fronts : ℕ → List Record) : Type 0 where
  pub set : (head logs generation : ℕ) → IsSet devices head logs generation ↔ IsSet fronts head logs generation
  pub none : HasNoSet devices ↔ HasNoSet fronts
  pub used : (many head logs generation : ℕ) → IsUsed devices many head logs generation ↔ IsUsed fronts many head logs generation

-- The first two records of each device tell which logs are in use.
abbrev pub FrontsTell : Type 0
FrontsTell = (devices fronts : ℕ → List Record) → AreFronts devices fronts → TellTheSame devices fronts

-- Where no device is a head, and device 0 gets a Genesis alone while each other one holds what it held, or none, that is the set.
abbrev pub BegunIsSet : Type 0
BegunIsSet =
    (devices now : ℕ → List Record) (logs : ℕ) (states : List State)
    → HasNoSet devices → now 0 ≡ Genesis logs states ∷ [] → ((d : ℕ) → d ≢ 0 → (now d ≡ devices d) ⊎ (now d ≡ [])) → IsSet now 0 logs 0
