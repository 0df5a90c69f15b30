-- Rounds one after the other.
use Rattle.std.proofs.Common.{◌≡◌, ℕ, ◌+◌, inr, List, [], ◌∷◌, ◌++◌, refl, sym, ap, subst, ◌∙◌, length-append, Result, Ok, Err}
use Rattle.std.specs.Prelude.{IfErr, IfOk, MatchResult}
use Rattle.std.specs.List.{AllByRecursion, AllZip}
use Rattle.gate_log.specs.declared.logs.LogItem.{LogItem}
use Rattle.txn_records.specs.declared.records.Record.{Record}
use Rattle.record_log.specs.Records.{AreItemsOf}
use Rattle.log_compact.specs.declared.checkpoints.Counts.{Counts}
use Rattle.log_compact.specs.Counts.{CountsBefore}
use Rattle.log_compact.specs.Sets.{IsPointInRange, OfPoint, point_of}
use Rattle.log_opening.specs.Devices.{Device}
use Rattle.log_opening.specs.declared.refusals.LogsNo.{LogsNo}
use Rattle.snap_follow.specs.Rounds.{Following, IsRound}
use Rattle.log_following.specs.Followed.{RoundsAreMade, IsOneReading}
use Rattle.log_following.specs.Readings.{AreAllRead}
use Rattle.log_following.specs.Steps.{IsNextRound, IsNoNextRound, used_of}
use Rattle.log_following.specs.Rounds.{AreRounds, IsNoRound, IsRefusedReading, MayBeRead, nothing_known}

-- one round more
pub rounds_more : (f : Following) (readings : List (List (List Record))) (known next : Following) (lists : List (List Record)) → AreRounds f readings known → MayBeRead lists
    → IsRound known lists next → AreRounds f (readings ++ lists ∷ []) next
rounds_more f [] known next lists made may round = (next, may, subst (λ (x : Following). IsRound x lists next) made round, refl)
rounds_more f (r ∷ readings) known next lists made may round = (made.0, made.1, made.2, rounds_more made.0 readings known next lists made.3 may round)

pub all_more : {X : Type 0} (P : X → Type 0) (xs : List X) (x : X) → AllByRecursion P xs → P x → AllByRecursion P (xs ++ x ∷ [])
all_more P [] x all is = (is, tt)
all_more P (y ∷ xs) x all is = (all.0, all_more P xs x all.1 is)

pub made_more : (devices : List Device) (head count n : ℕ) (known next : Following) (lists : List (List Record)) → RoundsAreMade devices head count n known → IsOneReading devices head count lists → MayBeRead lists
    → IsRound known lists next → RoundsAreMade devices head count (n + 1) next
made_more devices head count n known next lists so_far reading may round = record {
  readings = so_far.readings ++ lists ∷ [];
  many = length-append so_far.readings (lists ∷ []) ∙ ap (λ (k : ℕ). k + 1) so_far.many;
  each = all_more (IsOneReading devices head count) so_far.readings lists so_far.each reading;
  made = rounds_more (nothing_known count) so_far.readings known next lists so_far.made may round;
}

pub none_made : (devices : List Device) (head count : ℕ) (known : Following) → known ≡ nothing_known count → RoundsAreMade devices head count 0 known
none_made devices head count known is = record { readings = []; many = refl; each = tt; made = is }

pub range_stays : (known next : Following) (lists : List (List Record)) → IsRound known lists next → MayBeRead lists → OfPoint IsPointInRange (point_of next.before)
range_stays known next lists round may = subst (λ (ls : List (List Record)). OfPoint IsPointInRange (point_of ls)) (sym round.before) may.1

-- a round over what the items of logs are is one over these
pub round_read : (head : ℕ) (used : List (List LogItem)) (lists : List (List Record)) (old new : Following) (r : Result Counts LogsNo) → AllZip AreItemsOf used lists
    → MatchResult r (λ counts. MayBeRead lists × IsRound old lists new × CountsBefore lists counts) (λ answer. (new ≡ old) × IsNoRound head old.before lists answer)
    → MatchResult r (λ counts. (ls : List (List Record)) × AllZip AreItemsOf used ls × MayBeRead ls × IsRound old ls new × CountsBefore ls counts)
    (λ answer. (new ≡ old) × IsRefusedReading head used old.before answer)
round_read head used lists old new (Ok counts) are made = (lists, are, made.0, made.1, made.2)
round_read head used lists old new (Err why) are refused = (refused.0, inr (lists, are, refused.1))

-- the round over what was read of the devices, as it was asked for by the items
pub next_made : (devices : List Device) (head count : ℕ) (items now : List (List LogItem)) (f known : Following) (r : Result Counts LogsNo) → now ≡ items → AreAllRead devices items
    → MatchResult r (λ counts. (ls : List (List Record)) × AllZip AreItemsOf (used_of head count now) ls × MayBeRead ls × IsRound f ls known × CountsBefore ls counts)
    (λ answer. (known ≡ f) × IsRefusedReading head (used_of head count now) f.before answer)
    → IfOk r (λ counts. IsNextRound devices head count f known counts)
next_made devices head count items now f known (Ok counts) same read made = record {
  items = items;
  read = read;
  lists = made.0;
  are = subst (λ (is : List (List LogItem)). AllZip AreItemsOf (used_of head count is) made.0) same made.1;
  may = made.2;
  round = made.3;
  counted = made.4;
}
next_made devices head count items now f known (Err why) same read refused = tt

pub none_next : (devices after : List Device) (head count : ℕ) (items now : List (List LogItem)) (f known : Following) (r : Result Counts LogsNo) → now ≡ items → AreAllRead devices items
    → MatchResult r (λ counts. (ls : List (List Record)) × AllZip AreItemsOf (used_of head count now) ls × MayBeRead ls × IsRound f ls known × CountsBefore ls counts)
    (λ answer. (known ≡ f) × IsRefusedReading head (used_of head count now) f.before answer)
    → IfErr r (λ answer. (known ≡ f) × IsNoNextRound devices after head count f.before answer)
none_next devices after head count items now f known (Ok counts) same read made = tt
none_next devices after head count items now f known (Err why) same read refused =
    (refused.0, inr (items, read, subst (λ (is : List (List LogItem)). IsRefusedReading head (used_of head count is) f.before why) same refused.1))
