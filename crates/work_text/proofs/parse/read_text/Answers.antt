use Rattle.std.proofs.Common.{arith}
use Rattle.work_text.proofs.Whole.{no_utf8}
use Rattle.work_text.proofs.parse.read_text.Goals as goal

pub returns-in-Err : goal.returns-in-Err
returns-in-Err c = no_utf8 c.args.bytes.now _ c.valid_up_to.result c.line_at-line.result c.at_line-in-Err.result (omega arith) c.in-Err.ensures.cases.1 c.valid_up_to.ensures c.line_at-line.ensures c.at_line-in-Err.ensures
