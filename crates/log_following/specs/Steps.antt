-- What the steps of following go by. The rules are Followed.antt and Rounds.antt.
use Rattle.std.specs.Prelude.{◌≡◌, ◌⊎◌, ℕ, ◌+◌, List, slice_range, ⊤}
use Rattle.std.specs.List.{AllZip}
use Rattle.gate_log.specs.declared.logs.LogItem.{LogItem}
use Rattle.gate_log.specs.Opened.{bytes_of}
use Rattle.txn_records.specs.declared.records.Record.{Record}
use Rattle.record_log.specs.Records.{AreItemsOf}
use Rattle.snap_recover.specs.declared.causes.LogCause.TheVariants as cause
use Rattle.log_compact.specs.declared.checkpoints.Counts.{Counts}
use Rattle.log_compact.specs.declared.founds.Found.{Found}
use Rattle.log_compact.specs.Counts.{CountsBefore}
use Rattle.log_compact.specs.Finding.{HasNoSet, lists_at}
use Rattle.log_compact.specs.Fronts.{IsFront}
use Rattle.log_compact.specs.Sets.{IsSet}
use Rattle.log_opening.specs.Devices.{Device}
use Rattle.log_opening.specs.declared.refusals.LogsNo.{LogsNo}
use Rattle.log_opening.specs.declared.refusals.LogsNo.TheVariants as ending
use Rattle.snap_follow.specs.Rounds.{Following, IsRound}
use Rattle.log_following.specs.Readings.{AreAllRead, IsNoItems}
use Rattle.log_following.specs.Rounds.{IsRefusedReading, MayBeRead}

-- these records stand in front of the items of each log
abbrev pub HaveFronts : List (List LogItem) → List (List Record) → Type 0
HaveFronts items fronts = AllZip (λ (is : List LogItem) (front : List Record). IsFront (bytes_of is) front) items fronts

-- the logs with these items are a set
abbrev pub IsSetOfItems : List (List LogItem) → Found → Type 0
IsSetOfItems items set = (fronts : List (List Record)) × HaveFronts items fronts × IsSet (lists_at fronts) set.head set.logs set.generation

-- why they are none
abbrev pub IsNoSetOfItems : List (List LogItem) → LogsNo → Type 0
IsNoSetOfItems items (ending.Refused log offset cause.NoGenesis) =
    (log ≡ 0) × (offset ≡ 0) × ((fronts : List (List Record)) × HaveFronts items fronts × HasNoSet (lists_at fronts))
IsNoSetOfItems items (ending.Refused log offset c) = ⊥
IsNoSetOfItems items (ending.Device log) = ⊥
IsNoSetOfItems items ending.Memory = ⊤

-- of the items of all logs those of the logs in use
abbrev pub used_of : {X : Type 0} → ℕ → ℕ → List X → List X
used_of head count items = slice_range items head (head + count)

-- a round was made over the logs in use, as they were read
pub record IsNextRound (devices : List Device) (head count : ℕ) (f known : Following) (counts : Counts) : Type 0 where
  pub items : List (List LogItem)
  pub read : AreAllRead devices items
  pub lists : List (List Record)
  pub are : AllZip AreItemsOf (used_of head count items) lists
  pub may : MayBeRead lists
  pub round : IsRound f lists known
  pub counted : CountsBefore lists counts

-- why none was made: the logs were not read, or what was read is refused
abbrev pub IsNoNextRound : (before after : List Device) → ℕ → ℕ → List (List Record) → LogsNo → Type 0
IsNoNextRound before after head count earlier answer =
    IsNoItems before after answer ⊎ ((items : List (List LogItem)) × AreAllRead before items × IsRefusedReading head (used_of head count items) earlier answer)
