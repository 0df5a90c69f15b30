-- What following the logs in use comes to, and why they are not followed. What a device holds is what it tells; what a device that tells
-- nothing holds may be another thing in each reading.
use Rattle.std.specs.Prelude.{◌≡◌, ℕ, ◌+◌, ◌<◌, List, length, ⊤, IfSome, Some}
use Rattle.std.specs.List.{AllByRecursion}
use Rattle.snap_outside.specs.Disk.{content}
use Rattle.gate_log.specs.declared.logs.LogItem.{LogItem}
use Rattle.gate_log.specs.declared.opens.OpenNo.TheVariants as refusal
use Rattle.txn_records.specs.declared.records.Record.{Record}
use Rattle.txn_records.specs.Records.{IsRecord}
use Rattle.record_log.specs.Records.{IsFirstBadIn}
use Rattle.snap_recover.specs.declared.causes.LogCause.{LogCause}
use Rattle.snap_recover.specs.declared.causes.LogCause.TheVariants as cause
use Rattle.log_compact.specs.Finding.{HasNoSet}
use Rattle.log_compact.specs.Fronts.{HoldsFront}
use Rattle.log_compact.specs.Sets.{IsSet, count_acts, count_batches, number_of, point_of}
use Rattle.log_opening.specs.Devices.{Device, device_at}
use Rattle.log_opening.specs.Kept.{HoldLists}
use Rattle.log_opening.specs.declared.refusals.LogsNo.{LogsNo}
use Rattle.log_opening.specs.declared.refusals.LogsNo.TheVariants as ending
use Rattle.snap_follow.specs.Rounds.{Following}
use Rattle.log_following.specs.declared.following.Followed.{Followed}
use Rattle.log_following.specs.Readings.{IsNotRead, IsReadOn}
use Rattle.log_following.specs.Rounds.{AreRounds, IsRoundCause, nothing_known}

-- these records stand in front of what the four devices hold
abbrev pub HoldFronts : List Device → (ℕ → List Record) → Type 0
HoldFronts devices fronts = (d : ℕ) → d < 4 → IfSome (device_at devices d).told (λ h. HoldsFront (content h) (fronts d))

-- So many logs from the head on are in use: by the records in front they are a set.
pub record HoldSet (devices : List Device) (head count generation : ℕ) : Type 0 where
  pub fronts : ℕ → List Record
  pub each : HoldFronts devices fronts
  pub set : IsSet fronts head count generation

-- no device is a head
pub record HoldNoSet (devices : List Device) : Type 0 where
  pub fronts : ℕ → List Record
  pub each : HoldFronts devices fronts
  pub none : HasNoSet fronts

-- a reading of the logs in use gave these records
pub record IsOneReading (devices : List Device) (head count : ℕ) (lists : List (List Record)) : Type 0 where
  pub many : length lists ≡ count
  pub each : AllByRecursion (AllByRecursion IsRecord) lists
  pub held : HoldLists devices head lists

-- So many rounds were made, each over a reading of so many logs from the head on; and the follower knows this.
pub record RoundsAreMade (devices : List Device) (head count rounds : ℕ) (known : Following) : Type 0 where
  pub readings : List (List (List Record))
  pub many : length readings ≡ rounds
  pub each : AllByRecursion (IsOneReading devices head count) readings
  pub made : AreRounds (nothing_known count) readings known

-- They are the logs in use.
pub record AreFollowed (rounds : ℕ) (devices : List Device) (known : Following) : Type 0 where
  pub head : ℕ
  pub count : ℕ
  pub generation : ℕ
  pub set : HoldSet devices head count generation
  pub made : RoundsAreMade devices head count rounds known

-- The states that the members left, and how many they are, with those before the checkpoint of the last reading.
pub record TellsFollowed (known : Following) (f : Followed) : Type 0 where
  pub states : known.states ≡ Some f.states
  pub batches : f.batches ≡ count_batches known.members + number_of (λ p. p.batches) (point_of known.before)
  pub acts : f.acts ≡ count_acts known.members + number_of (λ p. p.acts) (point_of known.before)

-- ---- refusals: a log is named by its device

-- In a reading this log is in use, the next one behind logs that hold records, and the first byte at which no record goes on is here.
pub record HasBadItem (devices : List Device) (log offset : ℕ) : Type 0 where
  pub head : ℕ
  pub count : ℕ
  pub generation : ℕ
  pub set : HoldSet devices head count generation
  pub below : List (List Record)
  pub held : HoldLists devices head below
  pub asked : length below < count
  pub is : log ≡ head + length below
  pub items : List LogItem
  pub read : IsReadOn (device_at devices log) items
  pub bad : IsFirstBadIn items offset

-- Behind rounds over readings of the logs in use, less than so many, the round over the next reading is refused, for this cause, which is
-- of this log.
pub record IsRoundRefused (rounds : ℕ) (devices : List Device) (log : ℕ) (why : LogCause) : Type 0 where
  pub head : ℕ
  pub count : ℕ
  pub generation : ℕ
  pub set : HoldSet devices head count generation
  pub earlier : ℕ
  pub few : earlier < rounds
  pub known : Following
  pub made : RoundsAreMade devices head count earlier known
  pub lists : List (List Record)
  pub reading : IsOneReading devices head count lists
  pub number : ℕ
  pub is : log ≡ head + number
  pub cause_is : IsRoundCause known.before lists number why

-- the log is refused, for this cause: it was not read, or is not decoded; there is no set; or a round is refused
abbrev pub IsFollowRefused : ℕ → List Device → List Device → ℕ → ℕ → LogCause → Type 0
IsFollowRefused rounds before after log offset cause.NotALog = IsNotRead before after log (refusal.NotALog offset)
IsFollowRefused rounds before after log offset cause.Damage = IsNotRead before after log (refusal.Damage offset)
IsFollowRefused rounds before after log offset cause.BadRecord = HasBadItem before log offset
IsFollowRefused rounds before after log offset cause.NoGenesis = (log ≡ 0) × (offset ≡ 0) × HoldNoSet before
IsFollowRefused rounds before after log offset c = (offset ≡ 0) × IsRoundRefused rounds before log c

-- why the logs are not followed, from the devices before and after
abbrev pub IsFollowNo : ℕ → List Device → List Device → LogsNo → Type 0
IsFollowNo rounds before after (ending.Refused log offset c) = IsFollowRefused rounds before after log offset c
IsFollowNo rounds before after (ending.Device log) = IsNotRead before after log refusal.Device
IsFollowNo rounds before after ending.Memory = ⊤
