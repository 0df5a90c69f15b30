use Rattle.std.proofs.Common.{◌≡◌, map, sym, ◌∙◌, arith}
use Rattle.protocol.proofs.Totals.{total-map}
use Rattle.protocol.specs.BookParts.{place_by}
use Rattle.protocol.specs.Left.{joined_left, total}
use Rattle.protocol.specs.Words.{act_of}
use Rattle.book_part.proofs.left.act_left.Goals as goal

pub returns : goal.returns
returns c =
    let x = c.args.act.now.act in
    let votes = c.args.votes.now.acts in
    let places : total (λ p. joined_left (place_by (act_of c.tid.result.0 votes) p)) c.marks.result.now ≡ total joined_left (map (place_by (act_of x.tid votes)) x.places) =
    (λ j. total (λ p. joined_left (place_by (act_of (c.tid.ensures j) votes) p)) (c.marks.ensures j)) ∙ sym (total-map joined_left (place_by (act_of x.tid votes)) x.places) in
    omega (arith, places, c.status_left.ensures, c.marks_left.ensures, c.saturating_add.ensures)
