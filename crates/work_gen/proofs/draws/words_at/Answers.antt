use Rattle.std.proofs.Common.{◌+◌, refl, ap, ◌∙◌, arith}
use Rattle.rand_pcg.specs.Lcg.{advance}
use Rattle.rand_pcg.specs.Pcg.{multiplier_64}
use Rattle.work_gen.specs.Generated.{text_generator}
use Rattle.work_gen.proofs.NextWords.{word_next}
use Rattle.work_gen.proofs.draws.words_at.Goals as goal

pub returns : goal.returns
returns c =
    let start = text_generator c.args.seed in
    let i = c.args.first in
    let a = word_next start _ _ i (i + 1) _ (c.advance.ensures ∙ ap (advance 64 multiplier_64 i) c.new-generator.ensures) refl c.next_word-first.ensures in
    let b = word_next start _ _ (i + 1) (i + 2) _ a.1 (omega arith) c.next_word-second.ensures in
    let d = word_next start _ _ (i + 2) (i + 3) _ b.1 (omega arith) c.next_word-third.ensures in
    let e = word_next start _ _ (i + 3) (i + 4) _ d.1 (omega arith) c.next_word-fourth.ensures in
    let f = word_next start _ _ (i + 4) (i + 5) _ e.1 (omega arith) c.next_word-fifth.ensures in
    rw (a.0, b.0, d.0, e.0, f.0) refl
