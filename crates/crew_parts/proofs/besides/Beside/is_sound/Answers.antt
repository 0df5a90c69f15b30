use Rattle.std.proofs.Common.{◌∙◌, ◌-◌, arith}
use Rattle.crew_parts.proofs.besides.Beside.is_sound.Goals as goal

pub returns-clause-all : goal.returns-clause-all
returns-clause-all g c sound =
    c.has_journal.ensures ∙ sound.journal (c.args.part - 4) (omega (arith, c.if-part-lt-FIRST_LOG.false, c.if-part-logs.false)) (omega (arith, c.if-part-lt-FIRST_LOG.false))
