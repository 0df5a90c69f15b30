use Rattle.std.proofs.Common.{subst}
use Rattle.std.specs.Prelude.{map, string_bytes}
use Rattle.command_words.specs.Workers.{AskFor}
use Rattle.snap_rows.proofs.growing.call.Goals as goal

pub run_solo-requires-clause-alone : goal.run_solo-requires-clause-alone
run_solo-requires-clause-alone c = subst (AskFor (map string_bytes c.args.words.now)) c.if-workers_of-ne0.false c.workers_of.ensures
