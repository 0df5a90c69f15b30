use Rattle.std.proofs.Common.{◌≡◌, length, refl, rules}
use Rattle.log_compact.specs.Compacting.{group_for, other_side}
use Rattle.log_compaction.proofs.Stages.{AreSides}
use Rattle.log_compaction.proofs.Writing.{nothing_made, written}
use Rattle.log_compaction.proofs.writes.write_checkpoint.Goals as goal

pub returns-in-Err-clause-written : goal.returns-in-Err-clause-written
returns-in-Err-clause-written g c = λ devices on.
    let logs = c.args.logs.now.items in
    let four : length logs ≡ 4 = search rules in
    let other = other_side c.args.head c.args.count in
    let group = group_for c.args.count c.args.folded in
    let sides : AreSides c.args.head other c.args.count = record { is_other = refl; some = c.requires.some; few = c.requires.few; side = c.requires.side } in
    written logs devices on c.requires.format four c.args.head other c.args.count group sides logs (nothing_made logs devices on c.requires.format four c.args.head other c.args.count group sides)
