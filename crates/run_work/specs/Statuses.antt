-- How refusals from below end the top call.
use Rattle.run_opening.specs.log_opening.declared.refusals.LogsNo.{LogsNo}
use Rattle.run_opening.specs.log_opening.declared.refusals.LogsNo.TheVariants as ending
use Rattle.snap_report.specs.declared.statuses.Status.{Status}
use Rattle.snap_report.specs.declared.statuses.Status.TheVariants as status

abbrev pub logs_status : LogsNo → Status
logs_status (ending.Refused log offset cause) = status.Logs log offset cause
logs_status (ending.Device log) = status.LogFault log
logs_status ending.Memory = status.Memory
