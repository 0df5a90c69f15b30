use Rattle.std.proofs.Common.{map}
use Rattle.aml_check.specs.Checked.{methods_of}
use Rattle.followed_bytes.proofs.Series.{series_goes_on, series_tells}
use Rattle.followed_bytes.proofs.laws.looks_at_series_tell_meant_states.Goals as goal

pub returns-clause-tell : goal.returns-clause-tell
returns-clause-tell c =
    series_tells (record { keeps = c.groups_are_whole.ensures.moment; durable = c.groups_grow.ensures.durable; logs = c.logs_stay.ensures; list = c.one_list_of_records.ensures }) (map methods_of c.args.programs.now)
    c.followers_tell_meant_states.ensures.tell

pub returns-clause-go_on : goal.returns-clause-go_on
returns-clause-go_on c =
    series_goes_on (record { keeps = c.groups_are_whole.ensures.moment; durable = c.groups_grow.ensures.durable; logs = c.logs_stay.ensures; list = c.one_list_of_records.ensures }) (map methods_of c.args.programs.now)
    c.followers_tell_meant_states.ensures.go_on
