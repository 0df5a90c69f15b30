use Rattle.std.proofs.Common.{ap, ◌∙◌}
use Rattle.snap_base.specs.Lines.{lines}
use Rattle.trace_text.proofs.Traces.{lines_front, last_line}
use Rattle.trace_text.proofs.lines.next_line.Goals as goal

pub returns-in-Some-clause-cut : goal.returns-in-Some-clause-cut
returns-in-Some-clause-cut c = ap lines c.in-Some.ensures.0 ∙ lines_front _ _ c.in-Some.ensures.1

pub returns-in-None-clause-cut : goal.returns-in-None-clause-cut
returns-in-None-clause-cut c = last_line c.args.rest.now c.requires c.in-None.ensures
