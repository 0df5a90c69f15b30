use Rattle.std.proofs.Common.{ap, ◌∙◌, arith}
use Rattle.protocol.specs.Left.{unless}
use Rattle.protocol.specs.Parts.{Act}
use Rattle.protocol.specs.Words.{act_of, holds, joined_of}
use Rattle.book_part.proofs.LeftTold.{place_told}
use Rattle.book_part.proofs.left.mark_left.Goals as goal

pub returns : goal.returns
returns c =
    let p = c.args.mark.now in
    let v = act_of c.args.t.0 c.args.votes.now.acts in
    let told = place_told v p c.is_finished.ensures.unprepared c.is_finished.ensures.unvouched in
    let prepared = ap (λ b. unless b 2) (c.is_prepared.ensures ∙ ap (λ a. holds (λ (x : Act). holds (λ z. z.prepared) (joined_of a x)) v) c.actor-a.ensures) in
    let vouched = ap (λ b. unless b 1) (c.is_vouched.ensures ∙ ap (λ a. holds (λ (x : Act). holds (λ z. z.vouched) (joined_of a x)) v) c.actor-a.ensures) in
    let finished = ap (λ b. unless b 1) c.is_finished.ensures.finished in
    omega (arith, told, prepared, vouched, finished)
