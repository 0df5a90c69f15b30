use Rattle.std.proofs.Common.{map, ap, ◌∙◌}
use Rattle.protocol.specs.Words.{is_among}
use Rattle.protocol_theorems.proofs.halves.OrdersFit.{some_act}
use Rattle.book_part.proofs.part.BookPart.is_act.Goals as goal

pub returns : goal.returns
returns c =
    c.is_act.ensures
    ∙ some_act c.args.t.0 c.self.inside.orders.acts
    ∙ ap (λ h. is_among c.args.t.0 (map (λ x. x.tid) h.orders.acts)) c.self.view_is
