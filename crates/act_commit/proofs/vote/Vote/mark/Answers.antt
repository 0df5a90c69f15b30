use Rattle.std.proofs.Common.{length, drop, map, ap, ◌∙◌, arith}
use Rattle.std.specs.Prelude.{◌==◌}
use Rattle.protocol.specs.OnBook.{mark_if}
use Rattle.act_commit.specs.Changes.{marking_of}
use Rattle.act_commit.proofs.Ready.{ready_after, written_back}
use Rattle.act_commit.proofs.vote.Vote.mark.Goals as goal

pub invariant_of-self : goal.invariant_of-self
invariant_of-self c =
    let s = c.self.inside in
    let news = c.note_on.new.seats in
    let back = written_back s.seats.len news (drop (length news) s.seats.items) (omega (arith, s.seats.ok.0)) in
    let marks = c.note_on.ensures ∙ ap (map (λ p. mark_if (p.actor == c.args.actor.0) (marking_of c.args.mark) p)) c.as_mut_slice.ensures.value in
    λ ordered. ready_after s.result c.args.mark c.args.actor.0 s.seats.items _ (back ∙ marks) (c.self.invariant ordered)
