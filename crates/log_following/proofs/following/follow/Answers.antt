use Rattle.std.proofs.Common.{◌≡◌, ℕ, List, length, ap, subst, arith}
use Rattle.gate_log.specs.declared.logs.LogItem.{LogItem}
use Rattle.log_opening.specs.Devices.{devices_of}
use Rattle.log_following.specs.Rounds.{IsRefusedReading}
use Rattle.log_following.specs.Steps.{IsNoSetOfItems, IsSetOfItems, used_of}
use Rattle.log_following.proofs.Going.{IsGoing, all_followed, first_refused, going_made, going_more, laws_of, next_refused, told_followed}
use Rattle.log_following.proofs.Refused.{set_refused, unread_refused}
use Rattle.log_following.proofs.Since.{next_since, untouched_since}
use Rattle.log_following.proofs.following.follow.Goals as goal

pub set_in-requires : goal.set_in-requires
set_in-requires g c = omega (arith, ap (λ (l : List (List LogItem)). length l) c.as_slice.ensures, c.in-Ok.ensures.read.many)

pub returns-in-Err-clause-refused : goal.returns-in-Err-clause-refused
returns-in-Err-clause-refused g c = unread_refused c.args.rounds _ _ c.in-Err.no c.in-Err.ensures.refused

pub returns-in-Err-set_in-clause-refused : goal.returns-in-Err-set_in-clause-refused
returns-in-Err-set_in-clause-refused g c =
    let told = g.D.LogDev.told in
    let faults = g.D.LogDev.faults in
    set_refused c.read_is_opened.ensures c.logs_are_lists.ensures.placed c.args.rounds (devices_of told faults c.args.devices.now.items) (devices_of told faults c.read_all.new.devices.items) c.in-Ok.items
    c.in-Err-set_in.no c.in-Ok.ensures.read (subst (λ (l : List (List LogItem)). IsNoSetOfItems l c.in-Err-set_in.no) c.as_slice.ensures c.in-Err-set_in.ensures.set)

pub returns-in-Err-make_round-clause-refused : goal.returns-in-Err-make_round-clause-refused
returns-in-Err-make_round-clause-refused g c =
    let told = g.D.LogDev.told in
    let faults = g.D.LogDev.faults in
    let set = c.in-Ok-set_in.set in
    let within = c.in-Ok-set_in.ensures.within in
    let laws = laws_of c.read_is_opened.ensures c.opened_holds.ensures.before c.records_are_held.ensures.items c.logs_are_lists.ensures.at c.logs_are_lists.ensures.placed c.fronts_of_records.ensures in
    first_refused laws (devices_of told faults c.args.devices.now.items) set.head set.logs within.0 within.1 c.in-Ok.items set.generation c.args.rounds (devices_of told faults c.read_all.new.devices.items)
    c.in-Ok-new.follower c.in-Err-make_round.no c.in-Ok.ensures.read (subst (λ (l : List (List LogItem)). IsSetOfItems l set) c.as_slice.ensures c.in-Ok-set_in.ensures.set) c.in-Ok-new.ensures c.requires.some
    (subst (λ (l : List (List LogItem)). IsRefusedReading set.head (used_of set.head set.logs l) c.in-Ok-new.follower.before c.in-Err-make_round.no) c.as_slice-2.ensures c.in-Err-make_round.ensures.1)

pub loop-round-init : goal.loop-round-init
loop-round-init g c =
    let set = c.in-Ok-set_in.set in
    let within = c.in-Ok-set_in.ensures.within in
    let laws = laws_of c.read_is_opened.ensures c.opened_holds.ensures.before c.records_are_held.ensures.items c.logs_are_lists.ensures.at c.logs_are_lists.ensures.placed c.fronts_of_records.ensures in
    record {
      going = going_made laws (devices_of g.D.LogDev.told g.D.LogDev.faults c.args.devices.now.items) set.head set.logs within.0 within.1 c.in-Ok.items c.as_slice-2.result.now set.generation
          c.in-Ok-new.follower c.make_round.new.follower c.in-Ok-make_round.counts c.as_slice-2.ensures c.in-Ok.ensures.read c.in-Ok.ensures.placed
          (subst (λ (l : List (List LogItem)). IsSetOfItems l set) c.as_slice.ensures c.in-Ok-set_in.ensures.set) c.in-Ok-new.ensures c.in-Ok-make_round.ensures;
      untouched = c.in-Ok.ensures.untouched;
      four = c.in-Ok.ensures.four;
    }

pub returns-in-Err-read_and_round-clause-refused : goal.returns-in-Err-read_and_round-clause-refused
returns-in-Err-read_and_round-clause-refused g c =
    let told = g.D.LogDev.told in
    let faults = g.D.LogDev.faults in
    let set = c.in-Ok-set_in.set in
    let within = c.in-Ok-set_in.ensures.within in
    let laws = laws_of c.read_is_opened.ensures c.opened_holds.ensures.before c.records_are_held.ensures.items c.logs_are_lists.ensures.at c.logs_are_lists.ensures.placed c.fronts_of_records.ensures in
    next_refused laws (devices_of told faults c.args.devices.now.items) set.head set.logs within.0 within.1 c.in-Ok.items set.generation c.args.rounds c.loop-round._round
    (devices_of told faults c.loop-round.devices.items) (devices_of told faults c.read_and_round.new.devices.items) c.loop-round.follower c.loop-round.counts c.in-Err-read_and_round.no
    c.in-Ok.ensures.read (subst (λ (l : List (List LogItem)). IsSetOfItems l set) c.as_slice.ensures c.in-Ok-set_in.ensures.set) c.loop-round.invariant.going c.loop-round-test.true
    c.loop-round.invariant.untouched c.in-Err-read_and_round.ensures.refused.1

pub loop-round-preserved : goal.loop-round-preserved
loop-round-preserved g c =
    let told = g.D.LogDev.told in
    let faults = g.D.LogDev.faults in
    let before = devices_of told faults c.args.devices.now.items in
    let now = devices_of told faults c.loop-round.devices.items in
    let set = c.in-Ok-set_in.set in
    let within = c.in-Ok-set_in.ensures.within in
    let laws = laws_of c.read_is_opened.ensures c.opened_holds.ensures.before c.records_are_held.ensures.items c.logs_are_lists.ensures.at c.logs_are_lists.ensures.placed c.fronts_of_records.ensures in
    record {
      going = going_more laws before set.head set.logs within.0 within.1 c.loop-round._round c.loop-round.follower c.read_and_round.new.follower c.loop-round.counts c.in-Ok-read_and_round.counts
          c.loop-round.invariant.going
          (next_since before now set.head set.logs c.loop-round.follower c.read_and_round.new.follower c.in-Ok-read_and_round.counts c.loop-round.invariant.untouched c.in-Ok-read_and_round.ensures.round);
      untouched = untouched_since before now (devices_of told faults c.read_and_round.new.devices.items) c.loop-round.invariant.untouched c.in-Ok-read_and_round.ensures.untouched;
      four = c.in-Ok-read_and_round.ensures.four;
    }

pub returns-clause-followed : goal.returns-clause-followed
returns-clause-followed g c =
    let before = devices_of g.D.LogDev.told g.D.LogDev.faults c.args.devices.now.items in
    let set = c.in-Ok-set_in.set in
    let within = c.in-Ok-set_in.ensures.within in
    let laws = laws_of c.read_is_opened.ensures c.opened_holds.ensures.before c.records_are_held.ensures.items c.logs_are_lists.ensures.at c.logs_are_lists.ensures.placed c.fronts_of_records.ensures in
    let known = c.loop-round.follower in
    let all : c.loop-round._round ≡ c.args.rounds = omega (arith, c.loop-round-test.false, c.loop-round.auto._round-end, c.requires.some) in
    told_followed c.args.rounds before known c.told.result
    (all_followed laws before set.head set.logs within.0 within.1 c.in-Ok.items set.generation c.args.rounds known c.loop-round.counts c.in-Ok.ensures.read
    (subst (λ (l : List (List LogItem)). IsSetOfItems l set) c.as_slice.ensures c.in-Ok-set_in.ensures.set)
    (subst (λ (n : ℕ). IsGoing before set.head set.logs n known c.loop-round.counts) all c.loop-round.invariant.going)) c.told.ensures.told
