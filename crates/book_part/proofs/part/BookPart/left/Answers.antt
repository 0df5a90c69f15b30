use Rattle.std.proofs.Common.{◌-◌, ◌^◌, min, ap, sym, ◌∙◌}
use Rattle.protocol.specs.BookParts.{with_votes}
use Rattle.protocol.specs.Left.{act_left, total}
use Rattle.book_part.proofs.LeftTold.{acts_told}
use Rattle.book_part.proofs.Shown.{is_book}
use Rattle.book_part.proofs.part.BookPart.left.Goals as goal

pub returns : goal.returns
returns c = λ b shows.
    let votes = c.self.inside.votes.acts in
    c.acts_left.ensures
    ∙ ap (λ n. min n (2 ^ 64 - 1)) (sym (acts_told votes c.acts.ensures.0 c.acts.result.now))
    ∙ ap (λ xs. min (total act_left (with_votes votes xs)) (2 ^ 64 - 1)) (sym c.acts.ensures.1)
    ∙ ap (λ h. min (total act_left (with_votes h.votes.acts h.orders.acts)) (2 ^ 64 - 1)) c.self.view_is
    ∙ ap (λ z. min (total act_left z.acts) (2 ^ 64 - 1)) (sym (is_book c.args.self.now b shows))
