use Rattle.aml_check.specs.Checked.{methods_of}
use Rattle.followed_bytes.proofs.NextOn.{all_next}
use Rattle.followed_bytes.proofs.laws.runs_on_what_is_left_go_on.Goals as goal

pub returns : goal.returns
returns c = all_next c.one_list_of_records.ensures c.one_fold.ensures (methods_of c.args.program.now) c.logs_fold_to_the_members.ensures
