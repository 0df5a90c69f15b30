-- What stands behind each round of a follower of the logs in use.
use Rattle.std.proofs.Common.{◌≡◌, ℕ, ◌+◌, ◌<◌, ◌≤◌, inl, inr, List, length, refl, sym, ◌∙◌, ap, subst, arith, Result, Ok, Err}
use Rattle.std.specs.Prelude.{IfOk}
use Rattle.std.specs.List.{AllByRecursion, AllZip}
use Rattle.gate_log.specs.declared.logs.LogItem.{LogItem}
use Rattle.gate_log.specs.LogLaws.{LogAtIsLog, PlacedIsLogAt}
use Rattle.txn_records.specs.declared.records.Record.{Record}
use Rattle.record_log.specs.RecordLogLaws.{ItemsAreRecords, OpenedHeld}
use Rattle.record_log.specs.Records.{AreItemsOf}
use Rattle.log_compact.specs.declared.checkpoints.Counts.{Counts}
use Rattle.log_compact.specs.Counts.{CountsBefore}
use Rattle.log_compact.specs.Fronts.{FrontsOfRecords}
use Rattle.log_compact.specs.Sets.{IsPointInRange, OfPoint, point_of}
use Rattle.log_reading.specs.ReadLaws.{ReadIsOpened}
use Rattle.log_opening.specs.Devices.{Device}
use Rattle.log_opening.specs.Found.{ArePlaced}
use Rattle.log_opening.specs.declared.refusals.LogsNo.{LogsNo}
use Rattle.snap_follow.specs.Rounds.{Following, IsRound, list_at}
use Rattle.log_following.specs.declared.following.Followed.{Followed}
use Rattle.log_following.specs.Followed.{AreFollowed, RoundsAreMade, IsFollowNo, IsOneReading, TellsFollowed}
use Rattle.log_following.specs.Readings.{AreAllRead, AreUntouched}
use Rattle.log_following.specs.Rounds.{IsRefusedReading, MayBeRead, nothing_known}
use Rattle.log_following.specs.Steps.{IsNextRound, IsNoNextRound, IsSetOfItems, used_of}
use Rattle.log_following.proofs.Begun.{IsBegun, IsBegunList, begun_by, begun_more, first_begun}
use Rattle.log_following.proofs.WhatIsRead.{reading_of, set_read}
use Rattle.log_following.proofs.Refused.{reading_refused, unread_refused}
use Rattle.log_following.proofs.Since.{no_items_since, read_since}
use Rattle.log_following.proofs.RoundsMade.{made_more, none_made, range_stays}

-- what the laws of logs, of records and of readings say
pub record FollowingLaws : Type 0 where
  pub opened : ReadIsOpened
  pub held : OpenedHeld
  pub items : ItemsAreRecords
  pub log_at : LogAtIsLog
  pub placed : PlacedIsLogAt
  pub fronts : FrontsOfRecords

pub laws_of : ReadIsOpened → OpenedHeld → ItemsAreRecords → LogAtIsLog → PlacedIsLogAt → FrontsOfRecords → FollowingLaws
laws_of opened held items log_at placed fronts = record { opened = opened; held = held; items = items; log_at = log_at; placed = placed; fronts = fronts }

-- so many rounds are made over the logs in use, the follower knows states, and so much was committed before their checkpoint
pub record IsGoing (devices : List Device) (head count n : ℕ) (known : Following) (counts : Counts) : Type 0 where
  pub made : RoundsAreMade devices head count n known
  pub begun : IsBegun known
  pub range : OfPoint IsPointInRange (point_of known.before)
  pub counted : CountsBefore known.before counts
  pub many : length known.before ≡ count

counted_now : (known before : Following) (lists : List (List Record)) (counts : Counts) → IsRound before lists known → CountsBefore lists counts → CountsBefore known.before counts
counted_now known before lists counts round counted = subst (λ (ls : List (List Record)). CountsBefore ls counts) (sym round.before) counted

module _ (laws : FollowingLaws) (devices : List Device) (head count : ℕ) (some : 1 ≤ count) (within : head + count ≤ 4) where
  reading_in : (items : List (List LogItem)) (lists : List (List Record)) → AreAllRead devices items → AllZip AreItemsOf (used_of head count items) lists → IsOneReading devices head count lists
  reading_in items lists read are = reading_of laws.opened laws.held laws.items devices items head count lists read within are

  pub going_more : (n : ℕ) (f known : Following) (old counts : Counts) → IsGoing devices head count n f old → IsNextRound devices head count f known counts → IsGoing devices head count (n + 1) known counts
  going_more n f known old counts going next =
      let reading = reading_in next.items next.lists next.read next.are in
      record {
        made = made_more devices head count n f known next.lists going.made reading next.may next.round;
        begun = begun_more f known next.lists (omega (arith, some, reading.many)) going.begun next.may.0 next.round;
        range = range_stays f known next.lists next.round next.may;
        counted = counted_now known f next.lists counts next.round next.counted;
        many = ap (λ (ls : List (List Record)). length ls) next.round.before ∙ reading.many;
      }

  pub going_first : (items : List (List LogItem)) (generation : ℕ) (f known : Following) (counts : Counts) → AllByRecursion ArePlaced items
      → IsSetOfItems items (record { head = head; logs = count; generation = generation }) → f ≡ nothing_known count → (next : IsNextRound devices head count f known counts) → next.items ≡ items
      → IsGoing devices head count 1 known counts
  going_first items generation f known counts placed set begins next same =
      let reading = reading_in next.items next.lists next.read next.are in
      let four : length items ≡ 4 = ap (λ (l : List (List LogItem)). length l) (sym same) ∙ next.read.many in
      let are : AllZip AreItemsOf (used_of head count items) next.lists = subst (λ (l : List (List LogItem)). AllZip AreItemsOf (used_of head count l) next.lists) same next.are in
      let begun : IsBegunList (list_at next.lists 0) =
      first_begun laws.opened laws.log_at laws.placed laws.held laws.fronts items set.0 next.lists head count generation four placed set.1 set.2 some within are in
      record {
        made = made_more devices head count 0 f known next.lists (none_made devices head count f begins) reading next.may next.round;
        begun = begun_by f known next.lists (omega (arith, some, reading.many)) begun next.may.0 next.round;
        range = range_stays f known next.lists next.round next.may;
        counted = counted_now known f next.lists counts next.round next.counted;
        many = ap (λ (ls : List (List Record)). length ls) next.round.before ∙ reading.many;
      }

  -- the first round is made over what was read
  pub going_made : (items now : List (List LogItem)) (generation : ℕ) (f known : Following) (counts : Counts) → now ≡ items → AreAllRead devices items → AllByRecursion ArePlaced items
      → IsSetOfItems items (record { head = head; logs = count; generation = generation }) → f ≡ nothing_known count
      → ((lists : List (List Record)) × AllZip AreItemsOf (used_of head count now) lists × MayBeRead lists × IsRound f lists known × CountsBefore lists counts)
      → IsGoing devices head count 1 known counts
  going_made items now generation f known counts same read placed set begins made =
      let next : IsNextRound devices head count f known counts = record {
        items = items;
        read = read;
        lists = made.0;
        are = subst (λ (is : List (List LogItem)). AllZip AreItemsOf (used_of head count is) made.0) same made.1;
        may = made.2;
        round = made.3;
        counted = made.4;
      } in
      going_first items generation f known counts placed set begins next refl

  -- all rounds are made
  pub all_followed : (items : List (List LogItem)) (generation rounds : ℕ) (known : Following) (counts : Counts) → AreAllRead devices items
      → IsSetOfItems items (record { head = head; logs = count; generation = generation }) → IsGoing devices head count rounds known counts → AreFollowed rounds devices known
  all_followed items generation rounds known counts read set going = record {
    head = head;
    count = count;
    generation = generation;
    set = set_read laws.opened laws.placed devices items head count generation read set.0 set.1 set.2;
    made = going.made;
  }

  -- ---- why not

  pub first_refused : (items : List (List LogItem)) (generation rounds : ℕ) (after : List Device) (f : Following) (no : LogsNo) → AreAllRead devices items
      → IsSetOfItems items (record { head = head; logs = count; generation = generation }) → f ≡ nothing_known count → 1 ≤ rounds → IsRefusedReading head (used_of head count items) f.before no
      → IsFollowNo rounds devices after no
  first_refused items generation rounds after f answer read set begins more why =
      reading_refused laws.opened laws.held laws.items rounds devices after head count generation 0 (set_read laws.opened laws.placed devices items head count generation read set.0 set.1 set.2)
      f (none_made devices head count f begins) (omega (arith, more)) within items read answer why

  pub next_refused : (items : List (List LogItem)) (generation rounds n : ℕ) (now after : List Device) (f : Following) (counts : Counts) (no : LogsNo) → AreAllRead devices items
      → IsSetOfItems items (record { head = head; logs = count; generation = generation }) → IsGoing devices head count n f counts → n < rounds → AreUntouched devices now
      → IsNoNextRound now after head count f.before no → IsFollowNo rounds devices after no
  next_refused items generation rounds n now after f counts answer read set going lt same (inl unread) = unread_refused rounds devices after answer (no_items_since devices now after answer same unread)
  next_refused items generation rounds n now after f counts answer read set going lt same (inr (later, found, why)) =
      reading_refused laws.opened laws.held laws.items rounds devices after head count generation n (set_read laws.opened laws.placed devices items head count generation read set.0 set.1 set.2)
      f going.made lt within later (read_since devices now later same found) answer why

-- ---- what is told in the end

pub told_followed : (rounds : ℕ) (devices : List Device) (known : Following) (r : Result Followed LogsNo) → AreFollowed rounds devices known → IfOk r (λ f. TellsFollowed known f)
    → IfOk r (λ f. (k : Following) × AreFollowed rounds devices k × TellsFollowed k f)
told_followed rounds devices known (Ok f) all told = (known, all, told)
told_followed rounds devices known (Err why) all told = tt
