use Rattle.std.proofs.Common.{rules}
use Rattle.log_reading.proofs.Copies.{last_put}
use Rattle.log_reading.proofs.reading.read_all.Goals as goal

pub returns-clause-bytes : goal.returns-clause-bytes
returns-clause-bytes g c =
    last_put (g.D.LogDev.told c.args.dev.now) c.in_ok-bytes.bytes.items c.with_last.result.items c.in_ok-last.last c.args.len (search rules) c.in_ok-bytes.ensures.count c.in_ok-last.ensures.byte c.with_last.ensures
