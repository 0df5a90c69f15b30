use Rattle.std.proofs.Common.{◌≡◌, rules}
use Rattle.turn_table.specs.Words.{HoldsNothing}
use Rattle.turn_rows.proofs.Handed.{handed_in}
use Rattle.turn_rows.proofs.runs.two_workers.Goals as goal

pub closed-requires-clause-own : goal.closed-requires-clause-own
closed-requires-clause-own g c =
    handed_in c.in_ok-passes.passes.items c.count_all.new.passes c.push.new.self.items c.split_off-two.new.pass c.in_ok-passes.passes.len
    (λ pass. pass.seat.table_id ≡ c.in_ok-made.made.0.table.shared.table_id) c.in_ok-push.ensures.items (search rules) c.count_all.ensures.own c.split_off-two.ensures.own

pub closed-requires-clause-idle : goal.closed-requires-clause-idle
closed-requires-clause-idle g c =
    handed_in c.in_ok-passes.passes.items c.count_all.new.passes c.push.new.self.items c.split_off-two.new.pass c.in_ok-passes.passes.len
    (λ pass. HoldsNothing pass.seat) c.in_ok-push.ensures.items (search rules) c.count_all.ensures.idle c.split_off-two.ensures.idle
