use Rattle.snap_work.specs.Works.{work_of}
use Rattle.audited_runs.proofs.InOrder.{run_in_order}
use Rattle.audited_runs.proofs.runs.work_runs_are_in_order.Goals as goal

pub returns : goal.returns
returns c = λ u schedule text trace report is_work began a.
    run_in_order c.one_list_of_records.ensures c.fronts_of_records.ensures c.seeds_pick_runs.ensures.runs c.printed_traces.ensures (work_of c.args.work.now) c.first_events_are_in_range.ensures c.quiet_runs_are_in_order.ensures u schedule text trace report is_work began a
