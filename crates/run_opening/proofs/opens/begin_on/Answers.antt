use Rattle.std.proofs.Common.{◌≡◌, ◌≢◌, ◌≤◌, List, [], sym, subst, arith, rules, length}
use Rattle.std.specs.List.{AllByRecursion}
use Rattle.gate_log.specs.State.{log_at}
use Rattle.txn_records.specs.declared.records.Record.{Record}
use Rattle.txn_records.specs.Records.{IsRecord}
use Rattle.log_opening.specs.Devices.{Device, devices_now}
use Rattle.log_opening.proofs.Places.{now_all}
use Rattle.run_opening.specs.Starts.{IsStart}
use Rattle.run_opening.specs.Writes.{ArePrepared, AreNotPrepared}
use Rattle.run_opening.proofs.Clearing.{ClearLaws}
use Rattle.run_opening.proofs.RunLogs.{LogLaws}
use Rattle.run_opening.proofs.RunOpening.{Laws, all_open, group_is, low_end, not_read, prepared_run, second_first, unprepared_run, unstarted, within_four}
use Rattle.run_opening.proofs.opens.begin_on.Goals as goal

pub start_from-requires-clause-logs : goal.start_from-requires-clause-logs
start_from-requires-clause-logs g c =
    let log_laws : LogLaws = record {
      one_reading = c.one_reading.ensures;
      adds = c.opening_is_safe.ensures.adds;
      gives = c.beginning_is_safe.ensures.gives;
      before = c.opened_holds.ensures.before;
      after = c.opened_holds.ensures.after;
      one_list = c.one_list_of_records.ensures;
      grows = c.history_grows.ensures.opening;
      group = c.history_grows.ensures.group;
      fault = c.history_grows.ensures.fault;
      append = record { mark = c.append_is_whole.ensures.mark; second = c.upgrade_is_safe.ensures.second };
    } in
    let clear_laws : ClearLaws = record {
      one_reading = c.one_reading.ensures;
      lists = c.one_list.ensures;
      placed = c.logs_are_lists.ensures.placed;
      adds = c.opening_is_safe.ensures.adds;
      gives = c.opening_is_safe.ensures.gives;
    } in
    let laws : Laws = record { logs = log_laws; clears = clear_laws; of_records = c.folds_are_of_records.ensures; begun = c.folds_are_begun.ensures; fresh = c.begun_lists_fold.ensures } in
    let told = g.D.LogDev.told in
    let faults = g.D.LogDev.faults in
    let before : List Device = devices_now told faults c.args.opened.now.logs.items c.args.devices.now.items in
    let logs = c.open_and_decode.new.opened.logs.items in
    let records = c.in-Ok.read.0 in
    let found = c.in-Ok.read.1 in
    let lie = c.in-Ok.ensures.read in
    let many : length records ≡ c.args.count = c.in-Ok.ensures.count.0 in
    let within = within_four laws c.args.count c.args.states.now before logs found.head found.generation records many c.requires.some_logs lie in
    omega (arith, within, many)

pub prepare-requires-clause-open : goal.prepare-requires-clause-open
prepare-requires-clause-open g c =
    let log_laws : LogLaws = record {
      one_reading = c.one_reading.ensures;
      adds = c.opening_is_safe.ensures.adds;
      gives = c.beginning_is_safe.ensures.gives;
      before = c.opened_holds.ensures.before;
      after = c.opened_holds.ensures.after;
      one_list = c.one_list_of_records.ensures;
      grows = c.history_grows.ensures.opening;
      group = c.history_grows.ensures.group;
      fault = c.history_grows.ensures.fault;
      append = record { mark = c.append_is_whole.ensures.mark; second = c.upgrade_is_safe.ensures.second };
    } in
    let clear_laws : ClearLaws = record {
      one_reading = c.one_reading.ensures;
      lists = c.one_list.ensures;
      placed = c.logs_are_lists.ensures.placed;
      adds = c.opening_is_safe.ensures.adds;
      gives = c.opening_is_safe.ensures.gives;
    } in
    let laws : Laws = record { logs = log_laws; clears = clear_laws; of_records = c.folds_are_of_records.ensures; begun = c.folds_are_begun.ensures; fresh = c.begun_lists_fold.ensures } in
    let told = g.D.LogDev.told in
    let faults = g.D.LogDev.faults in
    let before : List Device = devices_now told faults c.args.opened.now.logs.items c.args.devices.now.items in
    let logs = c.open_and_decode.new.opened.logs.items in
    let records = c.in-Ok.read.0 in
    let found = c.in-Ok.read.1 in
    let lie = c.in-Ok.ensures.read in
    let many : length records ≡ c.args.count = c.in-Ok.ensures.count.0 in
    all_open laws c.args.count c.args.states.now before logs found.head found.generation records many c.requires.some_logs lie

pub prepare-requires-clause-low : goal.prepare-requires-clause-low
prepare-requires-clause-low g c =
    let log_laws : LogLaws = record {
      one_reading = c.one_reading.ensures;
      adds = c.opening_is_safe.ensures.adds;
      gives = c.beginning_is_safe.ensures.gives;
      before = c.opened_holds.ensures.before;
      after = c.opened_holds.ensures.after;
      one_list = c.one_list_of_records.ensures;
      grows = c.history_grows.ensures.opening;
      group = c.history_grows.ensures.group;
      fault = c.history_grows.ensures.fault;
      append = record { mark = c.append_is_whole.ensures.mark; second = c.upgrade_is_safe.ensures.second };
    } in
    let clear_laws : ClearLaws = record {
      one_reading = c.one_reading.ensures;
      lists = c.one_list.ensures;
      placed = c.logs_are_lists.ensures.placed;
      adds = c.opening_is_safe.ensures.adds;
      gives = c.opening_is_safe.ensures.gives;
    } in
    let laws : Laws = record { logs = log_laws; clears = clear_laws; of_records = c.folds_are_of_records.ensures; begun = c.folds_are_begun.ensures; fresh = c.begun_lists_fold.ensures } in
    let told = g.D.LogDev.told in
    let faults = g.D.LogDev.faults in
    let before : List Device = devices_now told faults c.args.opened.now.logs.items c.args.devices.now.items in
    let logs = c.open_and_decode.new.opened.logs.items in
    let records = c.in-Ok.read.0 in
    let found = c.in-Ok.read.1 in
    let lie = c.in-Ok.ensures.read in
    let many : length records ≡ c.args.count = c.in-Ok.ensures.count.0 in
    low_end laws c.args.count c.args.states.now before logs found.head found.generation records many c.requires.some_logs lie

pub prepare-requires-clause-records : goal.prepare-requires-clause-records
prepare-requires-clause-records g c =
    let log_laws : LogLaws = record {
      one_reading = c.one_reading.ensures;
      adds = c.opening_is_safe.ensures.adds;
      gives = c.beginning_is_safe.ensures.gives;
      before = c.opened_holds.ensures.before;
      after = c.opened_holds.ensures.after;
      one_list = c.one_list_of_records.ensures;
      grows = c.history_grows.ensures.opening;
      group = c.history_grows.ensures.group;
      fault = c.history_grows.ensures.fault;
      append = record { mark = c.append_is_whole.ensures.mark; second = c.upgrade_is_safe.ensures.second };
    } in
    let clear_laws : ClearLaws = record {
      one_reading = c.one_reading.ensures;
      lists = c.one_list.ensures;
      placed = c.logs_are_lists.ensures.placed;
      adds = c.opening_is_safe.ensures.adds;
      gives = c.opening_is_safe.ensures.gives;
    } in
    let laws : Laws = record { logs = log_laws; clears = clear_laws; of_records = c.folds_are_of_records.ensures; begun = c.folds_are_begun.ensures; fresh = c.begun_lists_fold.ensures } in
    let told = g.D.LogDev.told in
    let faults = g.D.LogDev.faults in
    let before : List Device = devices_now told faults c.args.opened.now.logs.items c.args.devices.now.items in
    let logs = c.open_and_decode.new.opened.logs.items in
    let records = c.in-Ok.read.0 in
    let found = c.in-Ok.read.1 in
    let lie = c.in-Ok.ensures.read in
    let many : length records ≡ c.args.count = c.in-Ok.ensures.count.0 in
    let start : IsStart records c.args.states.now c.in-Ok-start_from.start.opening c.in-Ok-start_from.start.added = c.in-Ok-start_from.ensures in
    let group = group_is laws c.args.count c.args.states.now before logs found.head found.generation records many c.requires.some_logs lie c.in-Ok-start_from.start.opening c.in-Ok-start_from.start.added start c.requires.states c.requires.some c.requires.few in
    subst (λ (l : List Record). AllByRecursion IsRecord l) (sym c.as_slice.ensures) group.0

pub prepare-requires-clause-one : goal.prepare-requires-clause-one
prepare-requires-clause-one g c =
    let log_laws : LogLaws = record {
      one_reading = c.one_reading.ensures;
      adds = c.opening_is_safe.ensures.adds;
      gives = c.beginning_is_safe.ensures.gives;
      before = c.opened_holds.ensures.before;
      after = c.opened_holds.ensures.after;
      one_list = c.one_list_of_records.ensures;
      grows = c.history_grows.ensures.opening;
      group = c.history_grows.ensures.group;
      fault = c.history_grows.ensures.fault;
      append = record { mark = c.append_is_whole.ensures.mark; second = c.upgrade_is_safe.ensures.second };
    } in
    let clear_laws : ClearLaws = record {
      one_reading = c.one_reading.ensures;
      lists = c.one_list.ensures;
      placed = c.logs_are_lists.ensures.placed;
      adds = c.opening_is_safe.ensures.adds;
      gives = c.opening_is_safe.ensures.gives;
    } in
    let laws : Laws = record { logs = log_laws; clears = clear_laws; of_records = c.folds_are_of_records.ensures; begun = c.folds_are_begun.ensures; fresh = c.begun_lists_fold.ensures } in
    let told = g.D.LogDev.told in
    let faults = g.D.LogDev.faults in
    let before : List Device = devices_now told faults c.args.opened.now.logs.items c.args.devices.now.items in
    let logs = c.open_and_decode.new.opened.logs.items in
    let records = c.in-Ok.read.0 in
    let found = c.in-Ok.read.1 in
    let lie = c.in-Ok.ensures.read in
    let many : length records ≡ c.args.count = c.in-Ok.ensures.count.0 in
    let start : IsStart records c.args.states.now c.in-Ok-start_from.start.opening c.in-Ok-start_from.start.added = c.in-Ok-start_from.ensures in
    let group = group_is laws c.args.count c.args.states.now before logs found.head found.generation records many c.requires.some_logs lie c.in-Ok-start_from.start.opening c.in-Ok-start_from.start.added start c.requires.states c.requires.some c.requires.few in
    subst (λ (l : List Record). length l ≤ 1) (sym c.as_slice.ensures) group.1

pub prepare-requires-clause-format : goal.prepare-requires-clause-format
prepare-requires-clause-format g c =
    let log_laws : LogLaws = record {
      one_reading = c.one_reading.ensures;
      adds = c.opening_is_safe.ensures.adds;
      gives = c.beginning_is_safe.ensures.gives;
      before = c.opened_holds.ensures.before;
      after = c.opened_holds.ensures.after;
      one_list = c.one_list_of_records.ensures;
      grows = c.history_grows.ensures.opening;
      group = c.history_grows.ensures.group;
      fault = c.history_grows.ensures.fault;
      append = record { mark = c.append_is_whole.ensures.mark; second = c.upgrade_is_safe.ensures.second };
    } in
    let clear_laws : ClearLaws = record {
      one_reading = c.one_reading.ensures;
      lists = c.one_list.ensures;
      placed = c.logs_are_lists.ensures.placed;
      adds = c.opening_is_safe.ensures.adds;
      gives = c.opening_is_safe.ensures.gives;
    } in
    let laws : Laws = record { logs = log_laws; clears = clear_laws; of_records = c.folds_are_of_records.ensures; begun = c.folds_are_begun.ensures; fresh = c.begun_lists_fold.ensures } in
    let told = g.D.LogDev.told in
    let faults = g.D.LogDev.faults in
    let before : List Device = devices_now told faults c.args.opened.now.logs.items c.args.devices.now.items in
    let logs = c.open_and_decode.new.opened.logs.items in
    let records = c.in-Ok.read.0 in
    let found = c.in-Ok.read.1 in
    let lie = c.in-Ok.ensures.read in
    let many : length records ≡ c.args.count = c.in-Ok.ensures.count.0 in
    let start : IsStart records c.args.states.now c.in-Ok-start_from.start.opening c.in-Ok-start_from.start.added = c.in-Ok-start_from.ensures in
    subst (λ (l : List Record). l ≢ [] → (log_at logs 0).format ≡ 2) (sym c.as_slice.ensures) (second_first laws c.args.count c.args.states.now before logs found.head found.generation records many c.requires.some_logs lie c.in-Ok-start_from.start.opening c.in-Ok-start_from.start.added start)

pub returns-in-Err-clause-begun : goal.returns-in-Err-clause-begun
returns-in-Err-clause-begun g c =
    let told = g.D.LogDev.told in
    let faults = g.D.LogDev.faults in
    let before : List Device = devices_now told faults c.args.opened.now.logs.items c.args.devices.now.items in
    let mid : List Device = devices_now told faults c.open_and_decode.new.opened.logs.items c.open_and_decode.new.devices.items in
    not_read c.args.count c.args.states.now before mid c.in-Err.no c.in-Err.ensures.read.0 c.in-Err.ensures.read.1

pub returns-in-Err-start_from-clause-begun : goal.returns-in-Err-start_from-clause-begun
returns-in-Err-start_from-clause-begun g c =
    let log_laws : LogLaws = record {
      one_reading = c.one_reading.ensures;
      adds = c.opening_is_safe.ensures.adds;
      gives = c.beginning_is_safe.ensures.gives;
      before = c.opened_holds.ensures.before;
      after = c.opened_holds.ensures.after;
      one_list = c.one_list_of_records.ensures;
      grows = c.history_grows.ensures.opening;
      group = c.history_grows.ensures.group;
      fault = c.history_grows.ensures.fault;
      append = record { mark = c.append_is_whole.ensures.mark; second = c.upgrade_is_safe.ensures.second };
    } in
    let clear_laws : ClearLaws = record {
      one_reading = c.one_reading.ensures;
      lists = c.one_list.ensures;
      placed = c.logs_are_lists.ensures.placed;
      adds = c.opening_is_safe.ensures.adds;
      gives = c.opening_is_safe.ensures.gives;
    } in
    let laws : Laws = record { logs = log_laws; clears = clear_laws; of_records = c.folds_are_of_records.ensures; begun = c.folds_are_begun.ensures; fresh = c.begun_lists_fold.ensures } in
    let told = g.D.LogDev.told in
    let faults = g.D.LogDev.faults in
    let before : List Device = devices_now told faults c.args.opened.now.logs.items c.args.devices.now.items in
    let logs = c.open_and_decode.new.opened.logs.items in
    let records = c.in-Ok.read.0 in
    let found = c.in-Ok.read.1 in
    let lie = c.in-Ok.ensures.read in
    let many : length records ≡ c.args.count = c.in-Ok.ensures.count.0 in
    let none : length c.open_and_decode.new.devices.items ≡ 0 = search rules in
    let after : List Device = devices_now told faults logs c.open_and_decode.new.devices.items in
    unstarted laws c.args.count c.args.states.now before logs found.head found.generation records many c.requires.some_logs lie after c.in-Err-start_from.no (now_all told faults logs c.open_and_decode.new.devices.items none) c.in-Err-start_from.ensures

pub returns-in-Ok-prepare-clause-begun : goal.returns-in-Ok-prepare-clause-begun
returns-in-Ok-prepare-clause-begun g c =
    let log_laws : LogLaws = record {
      one_reading = c.one_reading.ensures;
      adds = c.opening_is_safe.ensures.adds;
      gives = c.beginning_is_safe.ensures.gives;
      before = c.opened_holds.ensures.before;
      after = c.opened_holds.ensures.after;
      one_list = c.one_list_of_records.ensures;
      grows = c.history_grows.ensures.opening;
      group = c.history_grows.ensures.group;
      fault = c.history_grows.ensures.fault;
      append = record { mark = c.append_is_whole.ensures.mark; second = c.upgrade_is_safe.ensures.second };
    } in
    let clear_laws : ClearLaws = record {
      one_reading = c.one_reading.ensures;
      lists = c.one_list.ensures;
      placed = c.logs_are_lists.ensures.placed;
      adds = c.opening_is_safe.ensures.adds;
      gives = c.opening_is_safe.ensures.gives;
    } in
    let laws : Laws = record { logs = log_laws; clears = clear_laws; of_records = c.folds_are_of_records.ensures; begun = c.folds_are_begun.ensures; fresh = c.begun_lists_fold.ensures } in
    let told = g.D.LogDev.told in
    let faults = g.D.LogDev.faults in
    let before : List Device = devices_now told faults c.args.opened.now.logs.items c.args.devices.now.items in
    let logs = c.open_and_decode.new.opened.logs.items in
    let records = c.in-Ok.read.0 in
    let found = c.in-Ok.read.1 in
    let lie = c.in-Ok.ensures.read in
    let many : length records ≡ c.args.count = c.in-Ok.ensures.count.0 in
    let start : IsStart records c.args.states.now c.in-Ok-start_from.start.opening c.in-Ok-start_from.start.added = c.in-Ok-start_from.ensures in
    let none : length c.open_and_decode.new.devices.items ≡ 0 = search rules in
    let new = c.prepare.new.logs.items in
    let after : List Device = devices_now told faults new c.open_and_decode.new.devices.items in
    prepared_run laws c.args.count c.args.states.now before logs found.head found.generation records many c.requires.some_logs lie c.in-Ok-start_from.start.opening c.in-Ok-start_from.start.added start c.requires.states new after (now_all told faults new c.open_and_decode.new.devices.items none)
    (subst (λ (l : List Record). ArePrepared found.head c.args.count found.generation l logs new) c.as_slice.ensures c.in-Ok-prepare.ensures.prepared)

pub returns-in-Ok-prepare-clause-within : goal.returns-in-Ok-prepare-clause-within
returns-in-Ok-prepare-clause-within g c =
    let log_laws : LogLaws = record {
      one_reading = c.one_reading.ensures;
      adds = c.opening_is_safe.ensures.adds;
      gives = c.beginning_is_safe.ensures.gives;
      before = c.opened_holds.ensures.before;
      after = c.opened_holds.ensures.after;
      one_list = c.one_list_of_records.ensures;
      grows = c.history_grows.ensures.opening;
      group = c.history_grows.ensures.group;
      fault = c.history_grows.ensures.fault;
      append = record { mark = c.append_is_whole.ensures.mark; second = c.upgrade_is_safe.ensures.second };
    } in
    let clear_laws : ClearLaws = record {
      one_reading = c.one_reading.ensures;
      lists = c.one_list.ensures;
      placed = c.logs_are_lists.ensures.placed;
      adds = c.opening_is_safe.ensures.adds;
      gives = c.opening_is_safe.ensures.gives;
    } in
    let laws : Laws = record { logs = log_laws; clears = clear_laws; of_records = c.folds_are_of_records.ensures; begun = c.folds_are_begun.ensures; fresh = c.begun_lists_fold.ensures } in
    let told = g.D.LogDev.told in
    let faults = g.D.LogDev.faults in
    let before : List Device = devices_now told faults c.args.opened.now.logs.items c.args.devices.now.items in
    let logs = c.open_and_decode.new.opened.logs.items in
    let records = c.in-Ok.read.0 in
    let found = c.in-Ok.read.1 in
    let lie = c.in-Ok.ensures.read in
    let many : length records ≡ c.args.count = c.in-Ok.ensures.count.0 in
    within_four laws c.args.count c.args.states.now before logs found.head found.generation records many c.requires.some_logs lie

pub returns-in-Err-prepare-clause-begun : goal.returns-in-Err-prepare-clause-begun
returns-in-Err-prepare-clause-begun g c =
    let log_laws : LogLaws = record {
      one_reading = c.one_reading.ensures;
      adds = c.opening_is_safe.ensures.adds;
      gives = c.beginning_is_safe.ensures.gives;
      before = c.opened_holds.ensures.before;
      after = c.opened_holds.ensures.after;
      one_list = c.one_list_of_records.ensures;
      grows = c.history_grows.ensures.opening;
      group = c.history_grows.ensures.group;
      fault = c.history_grows.ensures.fault;
      append = record { mark = c.append_is_whole.ensures.mark; second = c.upgrade_is_safe.ensures.second };
    } in
    let clear_laws : ClearLaws = record {
      one_reading = c.one_reading.ensures;
      lists = c.one_list.ensures;
      placed = c.logs_are_lists.ensures.placed;
      adds = c.opening_is_safe.ensures.adds;
      gives = c.opening_is_safe.ensures.gives;
    } in
    let laws : Laws = record { logs = log_laws; clears = clear_laws; of_records = c.folds_are_of_records.ensures; begun = c.folds_are_begun.ensures; fresh = c.begun_lists_fold.ensures } in
    let told = g.D.LogDev.told in
    let faults = g.D.LogDev.faults in
    let before : List Device = devices_now told faults c.args.opened.now.logs.items c.args.devices.now.items in
    let logs = c.open_and_decode.new.opened.logs.items in
    let records = c.in-Ok.read.0 in
    let found = c.in-Ok.read.1 in
    let lie = c.in-Ok.ensures.read in
    let many : length records ≡ c.args.count = c.in-Ok.ensures.count.0 in
    let start : IsStart records c.args.states.now c.in-Ok-start_from.start.opening c.in-Ok-start_from.start.added = c.in-Ok-start_from.ensures in
    let none : length c.open_and_decode.new.devices.items ≡ 0 = search rules in
    let new = c.prepare.new.logs.items in
    let after : List Device = devices_now told faults new c.open_and_decode.new.devices.items in
    unprepared_run laws c.args.count c.args.states.now before logs found.head found.generation records many c.requires.some_logs lie c.in-Ok-start_from.start.opening c.in-Ok-start_from.start.added start new after c.in-Err-prepare.no (now_all told faults new c.open_and_decode.new.devices.items none)
    (subst (λ (l : List Record). AreNotPrepared found.head c.args.count found.generation l logs new c.in-Err-prepare.no) c.as_slice.ensures c.in-Err-prepare.ensures.prepared)
