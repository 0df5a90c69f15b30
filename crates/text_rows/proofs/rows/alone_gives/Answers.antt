use Rattle.std.proofs.Common.{length}
use Rattle.aml_check.specs.Checked.{methods_of}
use Rattle.aml_check.specs.Transactions.{IsTransaction}
use Rattle.text_rows.proofs.FirstOf.{first_of}
use Rattle.text_rows.proofs.rows.alone_gives.Goals as goal

pub run_alone-requires : goal.run_alone-requires
run_alone-requires c =
    rw (c.in_ok-world.ensures.items, c.as_slice-2.ensures)
    (first_of (IsTransaction (methods_of c.args.work.now.program) (length c.args.work.now.states)) c.as_slice.result.now c.tx-item.result c.in-len1.len_at_least c.tx-item.is (rw c.as_slice.ensures c.requires.transactions))
