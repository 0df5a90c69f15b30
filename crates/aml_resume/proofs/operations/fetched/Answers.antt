use Rattle.std.proofs.Common.{length, refl}
use Rattle.std.proofs.lemmas.Option.{slice_get_read}
use Rattle.aml_resume.proofs.operations.fetched.Goals as goal

pub returns-clause-here : goal.returns-clause-here
returns-clause-here c = slice_get_read c.args.operations.now (length c.args.operations.now) c.args.from c.index-operations-from.result refl c.requires c.index-operations-from.is
