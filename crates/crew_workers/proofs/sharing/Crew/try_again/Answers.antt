use Rattle.std.proofs.Common.{◌≡◌, ◌∙◌, false, subst, sym, true≢false}
use Rattle.protocol.specs.Words.{is_among}
use Rattle.crew_workers.proofs.sharing.Crew.try_again.Goals as goal

-- the part that was tried is one of these
pub returns-clause-within : goal.returns-clause-within
returns-clause-within g c i out =
    c.take-taken.ensures.others i (λ same. true≢false (sym c.requires.among ∙ subst (λ k. is_among k c.args.parts ≡ false) same out)) ∙ c.requires.others i out
