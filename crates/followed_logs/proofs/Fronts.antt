-- The lists that a round finds, with the checkpoint's states in place of Genesis's.
use Rattle.std.specs.Prelude.{◌≡◌, refl, ℕ, zero, suc, ◌+◌, ◌-◌, ◌<◌, ◌≤◌, Bool, true, false, if◌then◌else◌, List, [], ◌∷◌, ◌++◌, length, map, filter, replicate, slice_index_or}
use Rattle.std.specs.List.{AllByRecursion}
use Rattle.std.proofs.Common.{arith, ap, ◌∙◌}
use Rattle.snap_base.specs.declared.transactions.State.{State}
use Rattle.protocol.specs.Records.{LogRecord}
use Rattle.protocol_records.specs.SeveralRuns.{CutRun}
use Rattle.followed_runs.specs.FollowingRuns.{runs_read}
use Rattle.txn_records.specs.declared.records.Record.{Record}
use Rattle.txn_records.specs.declared.records.Record.TheVariants.{Genesis}
use Rattle.log_set.specs.Told.{all_told}
use Rattle.recovery_laws.specs.Grown.{grown}
use Rattle.recovery_laws.proofs.WrittenLists.{grown_at}
use Rattle.snap_recover.specs.Logs.{all_of, is_genesis, geneses}
use Rattle.log_compact.specs.Points.{plains}
use Rattle.log_compact.specs.Sets.{plain_lists}
use Rattle.compact_laws.proofs.ListsGrown.{plain_grown}
use Rattle.followed_logs.specs.OnRecords.{IsRunsFront, in_first, Finding, lists_found}
use Rattle.followed_logs.proofs.Written.{OnlyGenesis}

-- ---- the records in front

-- Genesis alone in the first list, where it is there
unfoldable pub plain_front : ℕ → List State → Bool → List (List Record)
plain_front many first b = in_first many (if b then Genesis many first ∷ [] else [])

plains_none : (n : ℕ) → map plains (replicate n []) ≡ replicate n []
plains_none zero = refl
plains_none (suc n) = ap (λ z. [] ∷ z) (plains_none n)

front_plain : (many : ℕ) (first : List State) (front : List Record) (b : Bool) → IsRunsFront many first front → plain_lists (in_first many (if b then front else [])) ≡ plain_front many first b
unfolding plain_front
front_plain many first front true h = ap (λ z. z ∷ map plains (replicate (many - 1) [])) h ∙ ap (λ z. (Genesis many first ∷ []) ∷ z) (plains_none (many - 1))
front_plain many first front false h = ap (λ z. [] ∷ z) (plains_none (many - 1))

pub plain_found : {C : Type 0} (many : ℕ) (first : List State) (front : List Record) (xs : List (CutRun C)) (x : Finding xs) → IsRunsFront many first front
    → plain_lists (lists_found many front xs x) ≡ grown (plain_front many first x.is_begun) (runs_read xs x.reading)
plain_found many first front xs x h = plain_grown (in_first many (if x.is_begun then front else [])) (runs_read xs x.reading) ∙ ap (λ z. grown z (runs_read xs x.reading)) (front_plain many first front x.is_begun h)

none_long : (n : ℕ) → length (replicate {A = List Record} n []) ≡ n
none_long zero = refl
none_long (suc n) = ap suc (none_long n)

pub first_long : (many : ℕ) (rs : List Record) → 1 ≤ many → length (in_first many rs) ≡ many
first_long many rs some = omega (arith, some, none_long (many - 1))

pub others_none : (n : ℕ) → AllByRecursion (λ rs. rs ≡ []) (replicate {A = List Record} n [])
others_none zero = tt
others_none (suc n) = (refl, others_none n)

pub front_only : (many : ℕ) (first : List State) (b : Bool) → 1 ≤ many → OnlyGenesis many first (plain_front many first b)
unfolding plain_front
front_only many first b some = record { many_are = first_long many (if b then Genesis many first ∷ [] else []) some; each = (head b, tail (many - 1)) }
  where
    head : (v : Bool) → AllByRecursion (λ r. (count : ℕ) × (r ≡ Genesis count first)) (if v then Genesis many first ∷ [] else [])
    head true = ((many, refl), tt)
    head false = tt

    tail : (n : ℕ) → AllByRecursion (AllByRecursion (λ r. (count : ℕ) × (r ≡ Genesis count first))) (replicate n [])
    tail zero = tt
    tail (suc n) = (tt, tail n)

all_none : (n : ℕ) → all_of (replicate n []) ≡ []
all_none zero = refl
all_none (suc n) = all_none n

pub front_genesis : (many : ℕ) (first : List State) (b : Bool) → geneses (plain_front many first b) ≡ (if b then Genesis many first ∷ [] else [])
unfolding plain_front
front_genesis many first true = ap (λ z. filter is_genesis (Genesis many first ∷ z)) (all_none (many - 1))
front_genesis many first false = ap (λ z. filter is_genesis z) (all_none (many - 1))

-- ---- list by list

nothing_behind : (lists : List (List Record)) (i : ℕ) → AllByRecursion (λ rs. rs ≡ []) lists → slice_index_or lists i [] ≡ []
nothing_behind [] i h = refl
nothing_behind (x ∷ xs) zero h = h.0
nothing_behind (x ∷ xs) (suc i) h = nothing_behind xs i h.1

-- the records that stand in front of those of the runs in this list
unfoldable pub front_at : List Record → ℕ → List Record
front_at rs zero = rs
front_at rs (suc i) = []

pub list_grown : (many : ℕ) (rs : List Record) (logs : ℕ → List LogRecord) (i : ℕ) → 1 ≤ many → i < many → slice_index_or (grown (in_first many rs) logs) i [] ≡ front_at rs i ++ all_told (logs i)
unfolding front_at
list_grown many rs logs i some l =
    let e : 0 + i ≡ i = omega arith in
    grown_at 0 i (in_first many rs) logs (omega (arith, l, first_long many rs some)) ∙ (ap (λ z. slice_index_or (in_first many rs) i [] ++ all_told (logs z)) e ∙ ap (λ z. z ++ all_told (logs i)) (here i))
  where
    here : (j : ℕ) → slice_index_or (in_first many rs) j [] ≡ front_at rs j
    here zero = refl
    here (suc j) = nothing_behind (replicate (many - 1) []) j (others_none (many - 1))
