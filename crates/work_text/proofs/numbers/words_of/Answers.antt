use Rattle.std.proofs.Common.{◌≡◌, ◌+◌, Bor, List, ℕ, refl, sym, arith, rules}
use Rattle.std.proofs.lemmas.List.{take_rest}
use Rattle.work_text.proofs.WordCuts.{one_found, none_found, all_found}
use Rattle.work_text.proofs.numbers.words_of.Goals as goal
use Rattle.work_text.proofs.numbers.words_of.Goals.{then-line-at-eq32+in_ok-push, else-line-at-eq32}

pub loop-at-preserved : goal.loop-at-preserved
loop-at-preserved c =
    elim c.if-line-at-eq32.branch [
      | then-line-at-eq32+in_ok-push w ↦ rw (w.words-is, w.from-is, w.in_ok-push.ensures.items) (one_found (λ (word : Bor (List ℕ)). word.now) c.args.line.now c.loop-at.words.items c.loop-at.from c.loop-at.at 0 _ c.loop-at.invariant c.loop-at-test.true (search rules) refl)
      | else-line-at-eq32 w ↦ rw (w.words-is, w.from-is) (none_found (λ (word : Bor (List ℕ)). word.now) c.args.line.now c.loop-at.words.items c.loop-at.from c.loop-at.at 0 c.loop-at.invariant c.loop-at-test.true (search rules))
    ]

pub returns : goal.returns
returns c = rw c.in_ok-push-2.ensures.items (all_found (λ (word : Bor (List ℕ)). word.now) c.args.line.now c.loop-at.words.items c.loop-at.from c.loop-at.at _ c.loop-at.invariant (omega arith) (take_rest c.args.line.now c.loop-at.from))
