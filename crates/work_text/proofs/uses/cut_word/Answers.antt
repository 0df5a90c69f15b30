use Rattle.std.proofs.Common.{◌≡◌, sym, ap, ◌∙◌, arith, take, drop, ◌+◌}
use Rattle.std.proofs.lemmas.List.{take_rest}
use Rattle.std.proofs.Math.Seq.{take-length}
use Rattle.work_text.proofs.Words.{cut_one, no_cut, parts}
use Rattle.work_text.proofs.uses.cut_word.Goals as goal

pub returns-then-word-at-eq58-clause-only : goal.returns-then-word-at-eq58-clause-only
returns-then-word-at-eq58-clause-only c a b free e =
    let both = cut_one (take c.loop-at.at c.args.word.now) (drop (c.loop-at.at + 1) c.args.word.now) a b c.loop-at.invariant.free free (sym (parts c.args.word.now c.loop-at.at 0 (omega arith) (omega arith)) ∙ e) in
    (both.0, take_rest c.args.word.now (c.loop-at.at + 1) ∙ both.1)

pub returns-clause-only : goal.returns-clause-only
returns-clause-only c a b free e =
    let whole : take c.loop-at.at c.args.word.now ≡ c.args.word.now = ap (λ n. take n c.args.word.now) (omega arith) ∙ take-length c.args.word.now in
    absurd (no_cut a b (rw (whole ∙ e) at c.loop-at.invariant.free))
