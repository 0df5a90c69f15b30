use Rattle.std.proofs.Common.{ap, rules, arith, ◌+◌, sym}
use Rattle.turn_table.proofs.Seats.{opens}
use Rattle.turn_table.proofs.turns.Turns.new.Goals as goal

pub new-requires : goal.new-requires
new-requires g c = opens _ _ _ _ _ (c.len-count.result + 1) c.args.parts.items (search rules) (omega arith) (search rules) (ap (λ v. v.items) (sym c.of-2.ensures))
