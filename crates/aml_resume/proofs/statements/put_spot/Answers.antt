use Rattle.std.proofs.Common.{◌∙◌, ap, reverse, [], ◌∷◌}
use Rattle.std.proofs.lemmas.List.{reverse-append}
use Rattle.aml_resume.proofs.statements.put_spot.Goals as goal

pub returns-clause-innermost : goal.returns-clause-innermost
returns-clause-innermost c = ap reverse c.push_reserved.ensures.items ∙ reverse-append c.args.path.now.items (c.args.spot ∷ [])
