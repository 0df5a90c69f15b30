use Rattle.std.proofs.Common.{◌∙◌, ◌∷◌, ◌++◌, [], ap}
use Rattle.std.proofs.lemmas.List.{map-append}
use Rattle.crew_ends.specs.Lists.{besides_of}
use Rattle.crew_ends.proofs.OneOver.{one_over}
use Rattle.crew_parts.specs.Shares.{ShareState}
use Rattle.snap_hand.specs.Shown.{shown}
use Rattle.crew_ends.proofs.taking.take_last.Goals as goal

pub returns-clause-parts : goal.returns-clause-parts
returns-clause-parts g c = one_over (λ (x : ShareState). x.part) shown c.pop.new.self.items c.args.shares.now.items c.args.parts.now.items c.push_reserved.new.self.items c.in-Some.share c.open-part.result.0 c.in-Some.ensures.items c.push_reserved.ensures.items (ap (λ (x : ShareState). x.part) c.open-part.ensures)

pub returns-clause-beside : goal.returns-clause-beside
returns-clause-beside g c =
    ap besides_of c.in-Some.ensures.items
    ∙ (map-append (λ (x : ShareState). x.beside) c.pop.new.self.items (c.in-Some.share ∷ [])
    ∙ ap (λ b. besides_of c.pop.new.self.items ++ b ∷ []) (ap (λ (x : ShareState). x.beside) c.open-part.ensures))
