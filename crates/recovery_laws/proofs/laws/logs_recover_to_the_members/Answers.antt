use Rattle.std.proofs.Common.{◌≡◌, ◌+◌, arith, ap, ◌∙◌}
use Rattle.protocol.specs.Facts.{state_in}
use Rattle.protocol.specs.Runs.{reached}
use Rattle.protocol.specs.Moments.{left_in}
use Rattle.protocol.specs.History.{history}
use Rattle.protocol_records.specs.Crash.{recovered_state, members}
use Rattle.recovery_laws.specs.Grown.{grown, opening_after}
use Rattle.recovery_laws.proofs.MembersOrdered.{members_ordered}
use Rattle.recovery_laws.proofs.RunsAgain.{alone_of}
use Rattle.protocol.specs.Chains.{by_place}
use Rattle.recovery_laws.proofs.LogsGrown.{begins_from, recovers}
use Rattle.recovery_laws.proofs.MomentsJoined.{front_runs, known, state_recovered}
use Rattle.recovery_laws.proofs.laws.logs_recover_to_the_members.Goals as goal

pub returns : goal.returns
returns g c w finish es m kept earlier o f t run left many before begins =
    let s = reached w m.events in
    let logs = left_in (reached w m.events) kept in
    let r = front_runs w es m run in
    let crash = c.recovered_transactions_are_in_order.ensures w finish es m kept f t run left in
    let k = known w finish es earlier o s (history w m.events) kept t many before (begins_from w.text o begins) crash (c.records_are_added_once.ensures w finish m.events f t r) (c.records_tell_what_is.ensures w finish m.events f t r) (c.numbers_are_in_range.ensures w m.events t r) (c.numbers_are_drawn_once.ensures w m.events t r) (c.pairs_carry_before_numbers.ensures w m.events t r) (c.sizes_hold.ensures w m.events t r) (c.places_are_drawn.ensures w finish m.events f t r) in
    let all = recovers w earlier o s logs begins k in
    let ordered = members_ordered w earlier o s (history w m.events) logs k (c.committed_are_those_with_places.ensures w finish m.events f t r) in
    record {
      recovered = all;
      ordered = ordered;
      alone = alone_of _ (by_place (members w.text.logs logs (history w m.events))) _ ordered crash.stands.serial;
      above = (c.next_numbers_are_above_all.ensures w finish es m kept f t run left).above_members;
      taken = λ no n x. c.refused_is_not_recovered.ensures (grown earlier logs) no (opening_after w o s logs) n x all;
      states = λ a l. let e : 0 + a ≡ a = omega arith in state_recovered w.text.logs logs 0 a w.text.opening.states l ∙ (ap (λ z. recovered_state w.text.logs logs z (state_in w.text.opening.states a)) e ∙ crash.states a l);
    }
