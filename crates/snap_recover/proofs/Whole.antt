-- The parts of an opening put together, and the answers of a refusal.
use Rattle.std.proofs.Common.{◌≡◌, ◌≢◌, ℕ, ◌<◌, ◌≤◌, min, List, [], ◌∷◌, ◌++◌, length, ap, arith}
use Rattle.std.specs.List.{AllByRecursion, flat_map}
use Rattle.snap_base.specs.declared.transactions.State.{State}
use Rattle.snap_base.proofs.Lists.{all_front, all_back, weaker}
use Rattle.txn_records.specs.declared.records.Record.{Record}
use Rattle.snap_recover.specs.declared.refusals.RecoverNo.{RecoverNo}
use Rattle.snap_recover.specs.declared.ranges.TheConstants.{GREATEST_NUMBER}
use Rattle.snap_recover.specs.declared.refusals.RecoverNo.TheVariants.{NoGenesis, TwoGenesis, LogCount, Range, Missing, Values, Memory}
use Rattle.snap_recover.specs.Logs.{all_of, bids_in, tids_in, commits_in, geneses}
use Rattle.snap_recover.specs.Opening.{IsInRange, AreBegunWith, greatest}
use Rattle.snap_recover.specs.Refusals.{IsLack, IsNotBegun, IsRefused}
use Rattle.snap_recover.specs.Passes.{IsFirstLackOf, IsFirstValuesLackOf, IsAllWhole}
use Rattle.snap_recover.proofs.Greatest.{numbers_within}

-- the numbers of one kind in records that are in range
abbrev Small : (Record → List ℕ) → Record → Type 0
Small numbers r = AllByRecursion (λ x. x ≤ GREATEST_NUMBER) (numbers r)

pub bids_small : (n : ℕ) (logs : List (List Record)) → AllByRecursion (IsInRange n) (all_of logs) → greatest (flat_map bids_in (all_of logs)) ≤ GREATEST_NUMBER
bids_small n logs h =
    numbers_within bids_in (all_of logs) GREATEST_NUMBER (weaker (IsInRange n) (Small bids_in) (all_of logs) (λ r p. all_front (λ x. x ≤ GREATEST_NUMBER) (bids_in r) (commits_in r ++ tids_in r) p.numbers_below) h)

pub commits_small : (n : ℕ) (logs : List (List Record)) → AllByRecursion (IsInRange n) (all_of logs) → greatest (flat_map commits_in (all_of logs)) ≤ GREATEST_NUMBER
commits_small n logs h =
    numbers_within commits_in (all_of logs) GREATEST_NUMBER
    (weaker (IsInRange n) (Small commits_in) (all_of logs) (λ r p. all_front (λ x. x ≤ GREATEST_NUMBER) (commits_in r) (tids_in r) (all_back (λ x. x ≤ GREATEST_NUMBER) (bids_in r) (commits_in r ++ tids_in r) p.numbers_below)) h)

pub tids_small : (n : ℕ) (logs : List (List Record)) → AllByRecursion (IsInRange n) (all_of logs) → greatest (flat_map tids_in (all_of logs)) ≤ GREATEST_NUMBER
tids_small n logs h =
    numbers_within tids_in (all_of logs) GREATEST_NUMBER
    (weaker (IsInRange n) (Small tids_in) (all_of logs) (λ r p. all_back (λ x. x ≤ GREATEST_NUMBER) (commits_in r) (tids_in r) (all_back (λ x. x ≤ GREATEST_NUMBER) (bids_in r) (commits_in r ++ tids_in r) p.numbers_below)) h)

pub some_logs : (logs : List (List Record)) (g : Record) (rest : List Record) → geneses logs ≡ g ∷ rest → 0 < length logs
some_logs [] g rest e = absurd (let bad : [] ≡ g ∷ rest = e in cc)
some_logs (rs ∷ logs) g rest e = omega arith

-- not two, so one
pub only_one : (logs : List (List Record)) (g : Record) (rest : List Record) (count : ℕ) → geneses logs ≡ g ∷ rest → count ≡ min 2 (length (geneses logs)) → count ≢ 2 → geneses logs ≡ g ∷ []
only_one logs g [] count e c n = e
only_one logs g (s ∷ rest) count e c n = absurd (let size = ap (λ (z : List Record). length z) e in omega (arith, size, c, n))

pub first_lack : (logs : List (List Record)) (answer : RecoverNo) → IsFirstLackOf logs answer → IsLack logs answer
first_lack logs NoGenesis h = h
first_lack logs TwoGenesis h = h
first_lack logs (LogCount c f) h = h
first_lack logs (Range k l) h = h
first_lack logs (Missing k l) h = h
first_lack logs (Values k l u v) h = absurd h
first_lack logs Memory h = tt

pub first_values_lack : (logs : List (List Record)) (answer : RecoverNo) → IsAllWhole logs → IsFirstValuesLackOf logs answer → IsLack logs answer
first_values_lack logs NoGenesis w h = h
first_values_lack logs TwoGenesis w h = h
first_values_lack logs (LogCount c f) w h = h
first_values_lack logs (Range k l) w h = h
first_values_lack logs (Missing k l) w h = absurd h
first_values_lack logs (Values k l u v) w h = ((w.batches, w.acts), h)
first_values_lack logs Memory w h = tt

pub lack_is_refused : (logs : List (List Record)) (first : List State) (answer : RecoverNo) → AreBegunWith logs first → IsLack logs answer → IsRefused logs answer
lack_is_refused logs first NoGenesis b h = absurd h
lack_is_refused logs first TwoGenesis b h = absurd h
lack_is_refused logs first (LogCount c f) b h = absurd h
lack_is_refused logs first (Range k l) b h = absurd h
lack_is_refused logs first (Missing k l) b h = (first, b, h)
lack_is_refused logs first (Values k l u v) b h = (first, b, h.0, h.1)
lack_is_refused logs first Memory b h = tt

pub unbegun_is_refused : (logs : List (List Record)) (answer : RecoverNo) → IsNotBegun logs answer → IsRefused logs answer
unbegun_is_refused logs NoGenesis h = h
unbegun_is_refused logs TwoGenesis h = h
unbegun_is_refused logs (LogCount c f) h = h
unbegun_is_refused logs (Range k l) h = h
unbegun_is_refused logs (Missing k l) h = absurd h
unbegun_is_refused logs (Values k l u v) h = absurd h
unbegun_is_refused logs Memory h = absurd h
