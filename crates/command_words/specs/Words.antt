-- The words of the command line: which lists of them are a form, and which word is the first wrong one.
use Rattle.std.specs.Prelude.{◌≡◌, ℕ, ◌+◌, ◌<◌, ◌≤◌, ◌^◌, ◌⊎◌, List, [], ◌∷◌, ◌++◌, length, take, codes}
use Rattle.std.specs.Fmt.{decimal}
use Rattle.command_words.specs.declared.limits.TheConstants.{FEWEST_ROUNDS, MOST_ROUNDS}
use Rattle.snap_work.specs.declared.limits.TheConstants.{MOST_TRANSACTIONS, MOST_WORKERS}

-- ---- options

-- so many workers
abbrev pub with_workers : ℕ → List (List ℕ)
with_workers n = codes "--workers" ∷ decimal n ∷ []

-- this seed
abbrev pub with_seed : ℕ → List (List ℕ)
with_seed n = codes "--seed" ∷ decimal n ∷ []

-- which of them are said, and in which order
pub data Said : Type 0 where
  nothing : Said
  workers : Said
  seed : Said
  workers_and_seed : Said
  seed_and_workers : Said

abbrev pub options : Said → ℕ → ℕ → List (List ℕ)
options nothing n s = []
options workers n s = with_workers n
options seed n s = with_seed s
options workers_and_seed n s = with_workers n ++ with_seed s
options seed_and_workers n s = with_seed s ++ with_workers n

-- What is not said is 0, and a seed is said only where there are no workers.
abbrev pub MaySay : Said → ℕ → ℕ → Type 0
MaySay nothing n s = (n ≡ 0) × (s ≡ 0)
MaySay workers n s = s ≡ 0
MaySay seed n s = n ≡ 0
MaySay workers_and_seed n s = n ≡ 0
MaySay seed_and_workers n s = n ≡ 0

-- ---- forms

-- Runs the work text: with no workers by the schedule of the seed, and else with so many.
abbrev pub IsRunCommand : List (List ℕ) → ℕ → ℕ → Type 0
IsRunCommand words n s = (said : Said) × (words ≡ codes "run" ∷ options said n s) × MaySay said n s × (n ≤ MOST_WORKERS) × (s < 2 ^ 64)

-- prints what the logs recover to
abbrev pub IsRecover : List (List ℕ) → Type 0
IsRecover words = words ≡ codes "recover" ∷ []

-- makes those logs in use that are of format 1 ones of format 2
abbrev pub IsMigrate : List (List ℕ) → Type 0
IsMigrate words = words ≡ codes "migrate" ∷ []

-- writes a checkpoint in place of old records
abbrev pub IsCompact : List (List ℕ) → Type 0
IsCompact words = words ≡ codes "compact" ∷ []

-- reads the logs so many times, and prints what a follower of them has then
abbrev pub IsFollow : List (List ℕ) → ℕ → Type 0
IsFollow words n = (words ≡ codes "follow" ∷ decimal n ∷ []) × (FEWEST_ROUNDS ≤ n) × (n ≤ MOST_ROUNDS)

-- says whether the input is the papers of a run
abbrev pub IsAudit : List (List ℕ) → Type 0
IsAudit words = words ≡ codes "audit" ∷ []

-- prints the text of so many transactions that the seed draws
abbrev pub IsGen : List (List ℕ) → ℕ → ℕ → Type 0
IsGen words count s = (words ≡ codes "gen" ∷ decimal count ∷ decimal s ∷ []) × (count ≤ MOST_TRANSACTIONS) × (s < 2 ^ 64)

-- behind the count and the seed the workers, or nothing where there are none
abbrev pub AreLastWorkers : List (List ℕ) → ℕ → Type 0
AreLastWorkers words n = ((words ≡ []) × (n ≡ 0)) ⊎ ((words ≡ with_workers n) × (n ≤ MOST_WORKERS))

-- runs that text, alone or with so many workers, and prints the summary of its run
abbrev pub IsBench : List (List ℕ) → ℕ → ℕ → ℕ → Type 0
IsBench words count s n =
    (last : List (List ℕ)) × (words ≡ codes "bench" ∷ decimal count ∷ decimal s ∷ last) × AreLastWorkers last n × (count ≤ MOST_TRANSACTIONS) × (s < 2 ^ 64)

abbrev pub IsForm : List (List ℕ) → Type 0
IsForm words =
    ((n s : ℕ) × IsRunCommand words n s)
    ⊎ (IsRecover words ⊎ (((count s : ℕ) × IsGen words count s) ⊎ (((count s n : ℕ) × IsBench words count s n)
    ⊎ (IsMigrate words ⊎ (IsAudit words ⊎ (IsCompact words ⊎ ((n : ℕ) × IsFollow words n)))))))

-- ---- a wrong word

-- some words behind these make them a form
abbrev pub BeginsForm : List (List ℕ) → Type 0
BeginsForm front = (rest : List (List ℕ)) × IsForm (front ++ rest)

-- The words are no form. The place is that of the last word of the shortest front that begins none, or
-- the number of the words where all of them begin one.
pub record IsUsageFault (words : List (List ℕ)) (place : ℕ) : Type 0 where
  pub no_form : ¬ IsForm words
  pub wrong : ((place ≡ length words) × BeginsForm words)
      ⊎ ((place < length words) × BeginsForm (take place words) × ¬ BeginsForm (take (place + 1) words))
