use Rattle.std.proofs.Common.{ap, length, eq-eqb}
use Rattle.txn_records.proofs.Parts.{end_stops}
use Rattle.txn_records.proofs.reading.end_of.Goals as goal

pub returns-else-is_empty : goal.returns-else-is_empty
returns-else-is_empty c = end_stops c.args.bytes.now (λ e. let yes = eq-eqb (length c.args.bytes.now) 0 (ap length e) in cc (yes, c.is_empty.ensures))
