use Rattle.crew_rows.proofs.texts.work_asked.Goals as goal

pub returns : goal.returns
returns c = c.transactions_may_run.ensures _ _ c.in_ok-parse_work.ensures.found
