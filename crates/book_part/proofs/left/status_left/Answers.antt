use Rattle.std.proofs.Common.{ap, sym, ◌∙◌}
use Rattle.protocol.specs.Parts.{Act}
use Rattle.protocol.specs.Words.{act_of, holds, is_decided}
use Rattle.book_part.specs.Told.{left_told}
use Rattle.book_part.proofs.LeftTold.{status_told}
use Rattle.book_part.proofs.left.status_left.Goals as goal

pub returns : goal.returns
returns c =
    let x = c.args.act.now.act in
    let votes = c.args.votes.now.acts in
    let decided = c.is_decided.ensures.decided ∙ ap (λ t. holds (λ (y : Act). is_decided y.status) (act_of t votes)) c.tid.ensures in
    c.left_told.ensures
    ∙ (λ j. left_told (c.is_undecided.ensures j) (c.is_placed.ensures.ordered j) (decided j))
    ∙ sym (status_told (act_of x.tid votes) x.status (sym c.is_placed.ensures.ordered ∙ c.is_placed.ensures.sealed))
