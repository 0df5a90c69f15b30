-- Why the logs in use are not followed, from what the steps tell.
use Rattle.std.proofs.Common.{◌≡◌, ℕ, zero, suc, ◌+◌, ◌-◌, ◌<◌, ◌≤◌, inl, inr, List, [], ◌∷◌, length, take, drop, refl, sym, ◌∙◌, ap, subst, arith}
use Rattle.std.specs.List.{AllZip}
use Rattle.gate_log.specs.declared.logs.LogItem.{LogItem}
use Rattle.gate_log.specs.declared.opens.OpenNo.{OpenNo}
use Rattle.gate_log.specs.declared.opens.OpenNo.TheVariants as refusal
use Rattle.gate_log.specs.LogLaws.{PlacedIsLogAt}
use Rattle.txn_records.specs.declared.records.Record.{Record}
use Rattle.record_log.specs.RecordLogLaws.{ItemsAreRecords, OpenedHeld}
use Rattle.record_log.specs.Records.{AreItemsOf}
use Rattle.snap_recover.specs.declared.causes.LogCause.TheVariants as cause
use Rattle.log_reading.specs.ReadLaws.{ReadIsOpened}
use Rattle.log_opening.specs.Devices.{Device, device_at}
use Rattle.log_opening.specs.Found.{IsNoDecoding, no_of_opening}
use Rattle.log_opening.specs.Upgrades.{items_at}
use Rattle.log_opening.specs.declared.refusals.LogsNo.{LogsNo}
use Rattle.log_opening.specs.declared.refusals.LogsNo.TheVariants as ending
use Rattle.snap_follow.specs.Rounds.{Following}
use Rattle.log_following.specs.Followed.{RoundsAreMade, HoldSet, IsFollowNo, IsOneReading}
use Rattle.log_following.specs.Readings.{AreAllRead, IsNoItems, IsNotRead, IsReadOn, no_log, no_memory}
use Rattle.log_following.specs.Rounds.{IsNoRound, IsRefusedReading}
use Rattle.log_following.specs.Steps.{IsNoSetOfItems, used_of}
use Rattle.log_following.proofs.WhatIsRead.{no_set_read, reading_of, used_at, used_length}

-- ---- the devices are not read

not_read : (rounds : ℕ) (before after : List Device) (log : ℕ) (why : OpenNo) → IsNotRead before after log why → IsFollowNo rounds before after (no_of_opening log why)
not_read rounds before after log (refusal.NotALog offset) is = is
not_read rounds before after log (refusal.Damage offset) is = is
not_read rounds before after log refusal.Device is = is
not_read rounds before after log refusal.Memory is = tt

pub unread_refused : (rounds : ℕ) (before after : List Device) (no : LogsNo) → IsNoItems before after no → IsFollowNo rounds before after no
unread_refused rounds before after _ no_memory = tt
unread_refused rounds before after _ (no_log log why is) = not_read rounds before after log why is

-- ---- there is no set

pub set_refused : ReadIsOpened → PlacedIsLogAt → (rounds : ℕ) (before after : List Device) (items : List (List LogItem)) (no : LogsNo) → AreAllRead before items → IsNoSetOfItems items no
    → IsFollowNo rounds before after no
set_refused opened placed rounds before after items (ending.Refused log offset cause.NoGenesis) read why =
    (why.0, why.1, no_set_read opened placed before items read why.2.0 why.2.1 why.2.2)
set_refused opened placed rounds before after items (ending.Refused log offset c) read why = absurd why
set_refused opened placed rounds before after items (ending.Device log) read why = absurd why
set_refused opened placed rounds before after items ending.Memory read why = tt

-- ---- a round is refused

take_twice : {X : Type 0} (m n : ℕ) (xs : List X) → m ≤ n → take m (take n xs) ≡ take m xs
take_twice zero n xs le = refl
take_twice (suc m) zero xs le = absurd (omega (arith, le))
take_twice (suc m) (suc n) [] le = refl
take_twice (suc m) (suc n) (x ∷ xs) le = ap (λ (l : List _). x ∷ l) (take_twice m n xs (omega (arith, le)))

-- the first of the logs in use
front_of_used : (head count n : ℕ) (items : List (List LogItem)) → n < count → take n (used_of head count items) ≡ used_of head n items
front_of_used head count n items lt =
    let less : n ≤ head + count - head = omega (arith, lt) in
    let same : n ≡ head + n - head = omega arith in
    take_twice n (head + count - head) (drop head items) less ∙ ap (λ (k : ℕ). take k (drop head items)) same

module _ (opened : ReadIsOpened) (held : OpenedHeld) (law : ItemsAreRecords) (rounds : ℕ) (before after : List Device) (head count generation earlier : ℕ) (set : HoldSet before head count generation)
    (known : Following) (made : RoundsAreMade before head count earlier known) (few : earlier < rounds) (within : head + count ≤ 4) (items : List (List LogItem)) (read : AreAllRead before items)
  where
    undecoded : (no : LogsNo) → IsNoDecoding head (used_of head count items) no → IsFollowNo rounds before after no
    undecoded (ending.Refused log offset cause.BadRecord) why =
        let below = why.0 in
        let size : length (used_of head count items) ≡ count = used_length head count items (omega (arith, within, read.many)) in
        let lt : length below < count = omega (arith, why.2, size) in
        let part : AllZip AreItemsOf (used_of head (length below) items) below =
        subst (λ (is : List (List LogItem)). AllZip AreItemsOf is below) (front_of_used head count (length below) items lt) why.3 in
        let fronts : IsOneReading before head (length below) below = reading_of opened held law before items head (length below) below read (omega (arith, lt, within)) part in
        record {
          head = head;
          count = count;
          generation = generation;
          set = set;
          below = below;
          held = fronts.held;
          asked = lt;
          is = why.1;
          items = items_at (used_of head count items) (length below);
          read = subst (λ (d : ℕ). IsReadOn (device_at before d) (items_at (used_of head count items) (length below))) (sym why.1)
              (subst (λ (is : List LogItem). IsReadOn (device_at before (head + length below)) is) (sym (used_at head count (length below) items lt))
              (read.each (head + length below) (omega (arith, lt, within))));
          bad = why.4;
        }
    undecoded (ending.Refused log offset c) why = absurd why
    undecoded (ending.Device log) why = absurd why
    undecoded ending.Memory why = tt

    unrounded : (lists : List (List Record)) (no : LogsNo) → IsOneReading before head count lists → IsNoRound head known.before lists no → IsFollowNo rounds before after no
    unrounded lists (ending.Refused log offset cause.NotALog) reading why = absurd why.1.2
    unrounded lists (ending.Refused log offset cause.Damage) reading why = absurd why.1.2
    unrounded lists (ending.Refused log offset cause.BadRecord) reading why = absurd why.1.2
    unrounded lists (ending.Refused log offset cause.NoGenesis) reading why = absurd why.1.2
    unrounded lists (ending.Refused log offset c) reading why = (
      why.0,
      record {
        head = head;
        count = count;
        generation = generation;
        set = set;
        earlier = earlier;
        few = few;
        known = known;
        made = made;
        lists = lists;
        reading = reading;
        number = why.1.0;
        is = why.1.1;
        cause_is = why.1.2;
      },
    )
    unrounded lists (ending.Device log) reading why = absurd why
    unrounded lists ending.Memory reading why = tt

    pub reading_refused : (no : LogsNo) → IsRefusedReading head (used_of head count items) known.before no → IsFollowNo rounds before after no
    reading_refused answer (inl why) = undecoded answer why
    reading_refused answer (inr why) = unrounded why.0 answer (reading_of opened held law before items head count why.0 read within why.1) why.2
