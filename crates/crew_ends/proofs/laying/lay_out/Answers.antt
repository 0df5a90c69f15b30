use Rattle.std.proofs.Common.{◌∙◌, ap, arith, reverse, sym}
use Rattle.crew_ends.specs.Lists.{besides_of, laid, parts_of}
use Rattle.crew_ends.proofs.LaidOut.{all_besides, all_laid, stand_beside}
use Rattle.crew_ends.proofs.laying.lay_out.Goals as goal

pub returns-clause-parts : goal.returns-clause-parts
returns-clause-parts g c =
    ap parts_of c.reverse.ensures.items
    ∙ all_laid c.args.parts.items c.lay_bare-2.new.parts.items c.lay_bare-2.new.shares.items
    (c.lay_bare-2.ensures.parts ∙ (c.lay_last.ensures.parts ∙ (c.lay_logs.ensures.parts ∙ (c.lay_bare.ensures.parts ∙ ap (laid c.args.parts.items) c.requires.empty))))
    (sym c.lay_bare-2.new.parts.ok.0 ∙ omega arith)

pub returns-clause-beside : goal.returns-clause-beside
returns-clause-beside g c out is = stand_beside c.reverse.new.self.items c.args.logs.now.items out _
    (ap besides_of c.reverse.ensures.items
    ∙ all_besides _ _ _ _ _ c.args.logs.now.items _ _ _ (ap (λ xs. besides_of (reverse xs)) c.requires.empty) c.lay_bare.ensures.besides c.lay_logs.ensures.besides c.lay_last.ensures.besides is c.lay_bare-2.ensures.besides)
