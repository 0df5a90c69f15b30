use Rattle.std.proofs.Common.{set, refl, rules}
use Rattle.run_opening.proofs.Writing.{first_written}
use Rattle.run_opening.proofs.preparing.write_first.Goals as goal

pub returns-clause-written : goal.returns-clause-written
returns-clause-written g c =
    first_written c.write.result c.args.logs.now.items (set c.args.logs.now.items 0 c.write.new.log) c.index_mut.result.now c.write.new.log c.args.added.now (search rules) c.index_mut.ensures.value refl c.write.ensures
