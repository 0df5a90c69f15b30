use Rattle.std.proofs.Common.{◌∙◌, ◌∷◌, ap, reverse, sym}
use Rattle.crew_ends.specs.Lists.{besides_of}
use Rattle.crew_ends.proofs.OneOver.{last_first, one_over}
use Rattle.crew_parts.specs.Shares.{ShareState}
use Rattle.snap_hand.specs.Shown.{shown}
use Rattle.crew_ends.proofs.laying.lay_last.Goals as goal

pub returns-clause-parts : goal.returns-clause-parts
returns-clause-parts g c = one_over shown (λ (x : ShareState). x.part) c.pop.new.self.items c.args.parts.now.items c.args.shares.now.items c.push_reserved.new.self.items c.in-Some.part c.new.result c.in-Some.ensures.items c.push_reserved.ensures.items (sym (ap (λ (x : ShareState). x.part) c.new.ensures))

pub returns-clause-besides : goal.returns-clause-besides
returns-clause-besides g c = last_first (λ (x : ShareState). x.beside) c.args.shares.now.items c.push_reserved.new.self.items c.new.result c.push_reserved.ensures.items
    ∙ ap (λ b. b ∷ besides_of (reverse c.args.shares.now.items)) (ap (λ (x : ShareState). x.beside) c.new.ensures)
