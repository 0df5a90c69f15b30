use Rattle.std.proofs.Common.{ap, ◌∙◌}
use Rattle.protocol_laws.specs.OneWay.{actors_of}
use Rattle.book_part.proofs.Live.{actors_shown}
use Rattle.book_part.proofs.part.BookPart.actors_of.Goals as goal

pub returns : goal.returns
returns c = λ b s. c.in_ok-actors.ensures ∙ ap actors_of c.joined.ensures ∙ actors_shown _ _ c.self.view_is b c.args.t.0 s
