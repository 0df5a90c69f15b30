use Rattle.snap_run.proofs.AuditComplete.{audited_in_order, audited_with_fault}
use Rattle.snap_run.proofs.Complete.{completed, completed_gen, completed_bench}
use Rattle.snap_run.proofs.FollowComplete.{completed_follow}
use Rattle.snap_run.proofs.RecoverComplete.{laws_of, completed_compact, completed_migrate, completed_recover}
use Rattle.snap_run.proofs.endings.done_or_no_memory.Goals as goal

pub returns-clause-complete : goal.returns-clause-complete
returns-clause-complete c = λ u s text w records o out untroubled not.
    completed c.one_command.ensures c.fault_or_work.ensures u text w records o untroubled s not out.answer

pub returns-clause-complete_recover : goal.returns-clause-complete_recover
returns-clause-complete_recover c = λ u s kept out may.
    let are = may.recovers in
    completed_recover c.one_command.ensures (laws_of c.one_list.ensures c.one_difference.ensures.no_log c.damage_is_no_log.ensures c.one_list_of_records.ensures c.no_more_records.ensures.bad
    c.one_front.ensures c.fronts_tell.ensures c.one_use.ensures c.one_fold.ensures c.refused_are_not_folded.ensures) u kept are.0 are.1 are.2 may.devices may.sink may.recover s out.answer

pub returns-clause-complete_migrate : goal.returns-clause-complete_migrate
returns-clause-complete_migrate c = λ u s kept out may.
    let are = may.recovers in
    completed_migrate c.one_command.ensures (laws_of c.one_list.ensures c.one_difference.ensures.no_log c.damage_is_no_log.ensures c.one_list_of_records.ensures c.no_more_records.ensures.bad
    c.one_front.ensures c.fronts_tell.ensures c.one_use.ensures c.one_fold.ensures c.refused_are_not_folded.ensures) u kept are.0 are.1 are.2 may.devices may.sink may.migrate s out.answer

pub returns-clause-complete_compact : goal.returns-clause-complete_compact
returns-clause-complete_compact c = λ u s kept out may.
    let are = may.recovers in
    completed_compact c.one_command.ensures (laws_of c.one_list.ensures c.one_difference.ensures.no_log c.damage_is_no_log.ensures c.one_list_of_records.ensures c.no_more_records.ensures.bad
    c.one_front.ensures c.fronts_tell.ensures c.one_use.ensures c.one_fold.ensures c.refused_are_not_folded.ensures) u kept are.0 are.1 are.2 may.devices may.sink are.3 may.compact s out.answer

pub returns-clause-complete_follow : goal.returns-clause-complete_follow
returns-clause-complete_follow c = λ u s kept out may.
    let are = may.recovers in
    completed_follow c.one_command.ensures (laws_of c.one_list.ensures c.one_difference.ensures.no_log c.damage_is_no_log.ensures c.one_list_of_records.ensures c.no_more_records.ensures.bad
    c.one_front.ensures c.fronts_tell.ensures c.one_use.ensures c.one_fold.ensures c.refused_are_not_folded.ensures) c.read_is_opened.ensures c.folded_are_followed.ensures u kept are.0 are.1 are.2
    may.devices may.sink may.set.0 may.set.1 may.set.2 may.set.3 may.follow.0 may.follow.1 s out.answer

pub returns-clause-complete_gen : goal.returns-clause-complete_gen
returns-clause-complete_gen c = λ u s out may. completed_gen c.one_command.ensures u may s out.answer

pub returns-clause-complete_audit : goal.returns-clause-complete_audit
returns-clause-complete_audit c = λ u s input out may order quiet. audited_in_order c.one_command.ensures u input may c.an_input_in_order_has_no_fault.ensures order quiet s out.answer

pub returns-clause-complete_fault : goal.returns-clause-complete_fault
returns-clause-complete_fault c = λ u s input fault out may first.
    audited_with_fault c.one_command.ensures u input may c.an_input_in_order_has_no_fault.ensures c.one_first_fault.ensures fault first s out.answer

pub returns-clause-complete_bench : goal.returns-clause-complete_bench
returns-clause-complete_bench c = λ u s count seed workers w records o out bench may not.
    completed_bench c.one_command.ensures u count seed workers w records o bench may s not out.answer
