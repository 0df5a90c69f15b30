use Rattle.std.proofs.Common.{ℕ, List, length, ap, ◌∙◌, subst}
use Rattle.snap_run.proofs.works.generated_work.Goals as goal
use Rattle.snap_work.specs.Works.{Work, work_of}
use Rattle.work_gen.specs.Generated.{generated_text}
use Rattle.work_gen.specs.work_text.Reads.{IsWork}

pub returns-in-Ok-clause-work : goal.returns-in-Ok-clause-work
returns-in-Ok-clause-work c =
    subst (λ (text : List ℕ). IsWork text (work_of c.in-Ok.work)) (c.as_slice.ensures.value ∙ c.in_ok-text.ensures) c.in-Ok.ensures.found

pub returns-in-Ok-clause-count : goal.returns-in-Ok-clause-count
returns-in-Ok-clause-count c =
    let text = generated_text c.args.count c.args.seed in
    let is : IsWork text (work_of c.in-Ok.work) = subst (λ (t : List ℕ). IsWork t (work_of c.in-Ok.work)) (c.as_slice.ensures.value ∙ c.in_ok-text.ensures) c.in-Ok.ensures.found in
    let known = c.generated_texts_are_works.ensures c.args.count c.args.seed c.requires in
    ap (λ (w : Work). length w.txs) (c.one_work.ensures text (work_of c.in-Ok.work) known.0 is known.1) ∙ known.2

pub returns-in-Ok-clause-limits : goal.returns-in-Ok-clause-limits
returns-in-Ok-clause-limits c = c.transactions_may_run.ensures _ _ c.in-Ok.ensures.found
