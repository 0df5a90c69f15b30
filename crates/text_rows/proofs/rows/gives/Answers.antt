use Rattle.text_rows.proofs.rows.gives.Goals as goal

pub work_gives-requires : goal.work_gives-requires
work_gives-requires c = c.transactions_may_run.ensures _ _ c.in-Ok.ensures.found
