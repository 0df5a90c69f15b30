use Rattle.std.proofs.Common.{◌∷◌, ap, sym, ◌∙◌}
use Rattle.snap_base.specs.Lines.{lines}
use Rattle.audit_papers.proofs.CutLines.{lines_next, rest_is}
use Rattle.audit_papers.proofs.line_words.next_line.Goals as goal

pub returns-clause-cut : goal.returns-clause-cut
returns-clause-cut c =
    lines_next c.args.rest.now c.first_line-next.result.0.now c.first_line-next.result.1 c.requires c.first_line-next.ensures.line c.first_line-next.ensures.cut
    ∙ ap (λ z. c.first_line-next.result.0.now ∷ lines z) (sym (rest_is c.args.rest.now c.first_line-next.result.1))
