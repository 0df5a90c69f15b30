use Rattle.std.proofs.Common.{◌∙◌, ℕ}
use Rattle.std.specs.Prelude.{Ok, codes}
use Rattle.aml_check.specs.Checked.{methods_of}
use Rattle.work_text.specs.Lines.{up_to_end, said}
use Rattle.work_text.specs.Cursors.{ahead}
use Rattle.work_text.specs.Reads.{exactly}
use Rattle.work_text.specs.Settings as setting
use Rattle.std.proofs.lemmas.Result.{err_from_is_err_and}
use Rattle.work_text.proofs.Steps.{stops, goes}
use Rattle.work_text.proofs.Whole.{at_last, no_at_last, at_program, no_at_program, whole_put, whole_fails}
use Rattle.work_text.proofs.reading.read_lines.Goals as goal

pub returns-in_err-coordinators : goal.returns-in_err-coordinators
returns-in_err-coordinators c =
    let p = err_from_is_err_and c.from_residual-in_err-coordinators.result c.from_residual-in_err-coordinators.ensures.1 in
    let h-header = c.in_ok-header.ensures.reads in
    let e-header = c.in_ok-header.ensures.kept.0 in
    rw (p.1, p.2) (goes _ _ (c.in_ok-header.header.0, ahead c.in_ok-header.header.1) c.in_err-coordinators.field-0.0 h-header (stops _ _ c.in_err-coordinators.field-0.0 (no_at_last {A = ℕ} _ _ (ahead c.in_ok-header.header.1) (setting.setting setting.coordinators) c.in_err-coordinators.field-0.0 e-header c.in_err-coordinators.ensures.reads)))

pub returns-in_err-logs : goal.returns-in_err-logs
returns-in_err-logs c =
    let p = err_from_is_err_and c.from_residual-in_err-logs.result c.from_residual-in_err-logs.ensures.1 in
    let h-header = c.in_ok-header.ensures.reads in
    let e-header = c.in_ok-header.ensures.kept.0 in
    let h-coordinators = at_last {A = ℕ} _ _ (ahead c.in_ok-header.header.1) (setting.setting setting.coordinators) (Ok (c.in_ok-coordinators.coordinators.0, ahead c.in_ok-coordinators.coordinators.1)) e-header c.in_ok-coordinators.ensures.reads in
    let e-coordinators = c.in_ok-coordinators.ensures.kept.0 ∙ e-header in
    rw (p.1, p.2) (goes _ _ (c.in_ok-header.header.0, ahead c.in_ok-header.header.1) c.in_err-logs.field-0.0 h-header (goes _ _ (c.in_ok-coordinators.coordinators.0, ahead c.in_ok-coordinators.coordinators.1) c.in_err-logs.field-0.0 h-coordinators (stops _ _ c.in_err-logs.field-0.0 (no_at_last {A = ℕ} _ _ (ahead c.in_ok-coordinators.coordinators.1) (setting.setting setting.logs) c.in_err-logs.field-0.0 e-coordinators c.in_err-logs.ensures.reads))))

pub returns-in_err-batch : goal.returns-in_err-batch
returns-in_err-batch c =
    let p = err_from_is_err_and c.from_residual-in_err-batch.result c.from_residual-in_err-batch.ensures.1 in
    let h-header = c.in_ok-header.ensures.reads in
    let e-header = c.in_ok-header.ensures.kept.0 in
    let h-coordinators = at_last {A = ℕ} _ _ (ahead c.in_ok-header.header.1) (setting.setting setting.coordinators) (Ok (c.in_ok-coordinators.coordinators.0, ahead c.in_ok-coordinators.coordinators.1)) e-header c.in_ok-coordinators.ensures.reads in
    let e-coordinators = c.in_ok-coordinators.ensures.kept.0 ∙ e-header in
    let h-logs = at_last {A = ℕ} _ _ (ahead c.in_ok-coordinators.coordinators.1) (setting.setting setting.logs) (Ok (c.in_ok-logs.logs.0, ahead c.in_ok-logs.logs.1)) e-coordinators c.in_ok-logs.ensures.reads in
    let e-logs = c.in_ok-logs.ensures.kept.0 ∙ e-coordinators in
    rw (p.1, p.2) (goes _ _ (c.in_ok-header.header.0, ahead c.in_ok-header.header.1) c.in_err-batch.field-0.0 h-header (goes _ _ (c.in_ok-coordinators.coordinators.0, ahead c.in_ok-coordinators.coordinators.1) c.in_err-batch.field-0.0 h-coordinators (goes _ _ (c.in_ok-logs.logs.0, ahead c.in_ok-logs.logs.1) c.in_err-batch.field-0.0 h-logs (stops _ _ c.in_err-batch.field-0.0 (no_at_last {A = ℕ} _ _ (ahead c.in_ok-logs.logs.1) (setting.setting setting.batch) c.in_err-batch.field-0.0 e-logs c.in_err-batch.ensures.reads)))))

pub returns-in_err-batches : goal.returns-in_err-batches
returns-in_err-batches c =
    let p = err_from_is_err_and c.from_residual-in_err-batches.result c.from_residual-in_err-batches.ensures.1 in
    let h-header = c.in_ok-header.ensures.reads in
    let e-header = c.in_ok-header.ensures.kept.0 in
    let h-coordinators = at_last {A = ℕ} _ _ (ahead c.in_ok-header.header.1) (setting.setting setting.coordinators) (Ok (c.in_ok-coordinators.coordinators.0, ahead c.in_ok-coordinators.coordinators.1)) e-header c.in_ok-coordinators.ensures.reads in
    let e-coordinators = c.in_ok-coordinators.ensures.kept.0 ∙ e-header in
    let h-logs = at_last {A = ℕ} _ _ (ahead c.in_ok-coordinators.coordinators.1) (setting.setting setting.logs) (Ok (c.in_ok-logs.logs.0, ahead c.in_ok-logs.logs.1)) e-coordinators c.in_ok-logs.ensures.reads in
    let e-logs = c.in_ok-logs.ensures.kept.0 ∙ e-coordinators in
    let h-batch = at_last {A = ℕ} _ _ (ahead c.in_ok-logs.logs.1) (setting.setting setting.batch) (Ok (c.in_ok-batch.batch.0, ahead c.in_ok-batch.batch.1)) e-logs c.in_ok-batch.ensures.reads in
    let e-batch = c.in_ok-batch.ensures.kept.0 ∙ e-logs in
    rw (p.1, p.2) (goes _ _ (c.in_ok-header.header.0, ahead c.in_ok-header.header.1) c.in_err-batches.field-0.0 h-header (goes _ _ (c.in_ok-coordinators.coordinators.0, ahead c.in_ok-coordinators.coordinators.1) c.in_err-batches.field-0.0 h-coordinators (goes _ _ (c.in_ok-logs.logs.0, ahead c.in_ok-logs.logs.1) c.in_err-batches.field-0.0 h-logs (goes _ _ (c.in_ok-batch.batch.0, ahead c.in_ok-batch.batch.1) c.in_err-batches.field-0.0 h-batch (stops _ _ c.in_err-batches.field-0.0 (no_at_last {A = ℕ} _ _ (ahead c.in_ok-batch.batch.1) (setting.setting setting.batches) c.in_err-batches.field-0.0 e-batch c.in_err-batches.ensures.reads))))))

pub returns-in_err-acts : goal.returns-in_err-acts
returns-in_err-acts c =
    let p = err_from_is_err_and c.from_residual-in_err-acts.result c.from_residual-in_err-acts.ensures.1 in
    let h-header = c.in_ok-header.ensures.reads in
    let e-header = c.in_ok-header.ensures.kept.0 in
    let h-coordinators = at_last {A = ℕ} _ _ (ahead c.in_ok-header.header.1) (setting.setting setting.coordinators) (Ok (c.in_ok-coordinators.coordinators.0, ahead c.in_ok-coordinators.coordinators.1)) e-header c.in_ok-coordinators.ensures.reads in
    let e-coordinators = c.in_ok-coordinators.ensures.kept.0 ∙ e-header in
    let h-logs = at_last {A = ℕ} _ _ (ahead c.in_ok-coordinators.coordinators.1) (setting.setting setting.logs) (Ok (c.in_ok-logs.logs.0, ahead c.in_ok-logs.logs.1)) e-coordinators c.in_ok-logs.ensures.reads in
    let e-logs = c.in_ok-logs.ensures.kept.0 ∙ e-coordinators in
    let h-batch = at_last {A = ℕ} _ _ (ahead c.in_ok-logs.logs.1) (setting.setting setting.batch) (Ok (c.in_ok-batch.batch.0, ahead c.in_ok-batch.batch.1)) e-logs c.in_ok-batch.ensures.reads in
    let e-batch = c.in_ok-batch.ensures.kept.0 ∙ e-logs in
    let h-batches = at_last {A = ℕ} _ _ (ahead c.in_ok-batch.batch.1) (setting.setting setting.batches) (Ok (c.in_ok-batches.batches.0, ahead c.in_ok-batches.batches.1)) e-batch c.in_ok-batches.ensures.reads in
    let e-batches = c.in_ok-batches.ensures.kept.0 ∙ e-batch in
    rw (p.1, p.2) (goes _ _ (c.in_ok-header.header.0, ahead c.in_ok-header.header.1) c.in_err-acts.field-0.0 h-header (goes _ _ (c.in_ok-coordinators.coordinators.0, ahead c.in_ok-coordinators.coordinators.1) c.in_err-acts.field-0.0 h-coordinators (goes _ _ (c.in_ok-logs.logs.0, ahead c.in_ok-logs.logs.1) c.in_err-acts.field-0.0 h-logs (goes _ _ (c.in_ok-batch.batch.0, ahead c.in_ok-batch.batch.1) c.in_err-acts.field-0.0 h-batch (goes _ _ (c.in_ok-batches.batches.0, ahead c.in_ok-batches.batches.1) c.in_err-acts.field-0.0 h-batches (stops _ _ c.in_err-acts.field-0.0 (no_at_last {A = ℕ} _ _ (ahead c.in_ok-batches.batches.1) (setting.setting setting.acts) c.in_err-acts.field-0.0 e-batches c.in_err-acts.ensures.reads)))))))

pub returns-in_err-begin : goal.returns-in_err-begin
returns-in_err-begin c =
    let p = err_from_is_err_and c.from_residual-in_err-begin.result c.from_residual-in_err-begin.ensures.1 in
    let h-header = c.in_ok-header.ensures.reads in
    let e-header = c.in_ok-header.ensures.kept.0 in
    let h-coordinators = at_last {A = ℕ} _ _ (ahead c.in_ok-header.header.1) (setting.setting setting.coordinators) (Ok (c.in_ok-coordinators.coordinators.0, ahead c.in_ok-coordinators.coordinators.1)) e-header c.in_ok-coordinators.ensures.reads in
    let e-coordinators = c.in_ok-coordinators.ensures.kept.0 ∙ e-header in
    let h-logs = at_last {A = ℕ} _ _ (ahead c.in_ok-coordinators.coordinators.1) (setting.setting setting.logs) (Ok (c.in_ok-logs.logs.0, ahead c.in_ok-logs.logs.1)) e-coordinators c.in_ok-logs.ensures.reads in
    let e-logs = c.in_ok-logs.ensures.kept.0 ∙ e-coordinators in
    let h-batch = at_last {A = ℕ} _ _ (ahead c.in_ok-logs.logs.1) (setting.setting setting.batch) (Ok (c.in_ok-batch.batch.0, ahead c.in_ok-batch.batch.1)) e-logs c.in_ok-batch.ensures.reads in
    let e-batch = c.in_ok-batch.ensures.kept.0 ∙ e-logs in
    let h-batches = at_last {A = ℕ} _ _ (ahead c.in_ok-batch.batch.1) (setting.setting setting.batches) (Ok (c.in_ok-batches.batches.0, ahead c.in_ok-batches.batches.1)) e-batch c.in_ok-batches.ensures.reads in
    let e-batches = c.in_ok-batches.ensures.kept.0 ∙ e-batch in
    let h-acts = at_last {A = ℕ} _ _ (ahead c.in_ok-batches.batches.1) (setting.setting setting.acts) (Ok (c.in_ok-acts.acts.0, ahead c.in_ok-acts.acts.1)) e-batches c.in_ok-acts.ensures.reads in
    let e-acts = c.in_ok-acts.ensures.kept.0 ∙ e-batches in
    rw (p.1, p.2) (goes _ _ (c.in_ok-header.header.0, ahead c.in_ok-header.header.1) c.in_err-begin.field-0.0 h-header (goes _ _ (c.in_ok-coordinators.coordinators.0, ahead c.in_ok-coordinators.coordinators.1) c.in_err-begin.field-0.0 h-coordinators (goes _ _ (c.in_ok-logs.logs.0, ahead c.in_ok-logs.logs.1) c.in_err-begin.field-0.0 h-logs (goes _ _ (c.in_ok-batch.batch.0, ahead c.in_ok-batch.batch.1) c.in_err-begin.field-0.0 h-batch (goes _ _ (c.in_ok-batches.batches.0, ahead c.in_ok-batches.batches.1) c.in_err-begin.field-0.0 h-batches (goes _ _ (c.in_ok-acts.acts.0, ahead c.in_ok-acts.acts.1) c.in_err-begin.field-0.0 h-acts (stops _ _ c.in_err-begin.field-0.0 (no_at_last {A = ℕ} _ _ (ahead c.in_ok-acts.acts.1) (exactly (codes "program")) c.in_err-begin.field-0.0 e-acts c.in_err-begin.ensures.reads))))))))

pub returns-in_err-program : goal.returns-in_err-program
returns-in_err-program c =
    let p = err_from_is_err_and c.from_residual-in_err-program.result c.from_residual-in_err-program.ensures.1 in
    let h-header = c.in_ok-header.ensures.reads in
    let e-header = c.in_ok-header.ensures.kept.0 in
    let h-coordinators = at_last {A = ℕ} _ _ (ahead c.in_ok-header.header.1) (setting.setting setting.coordinators) (Ok (c.in_ok-coordinators.coordinators.0, ahead c.in_ok-coordinators.coordinators.1)) e-header c.in_ok-coordinators.ensures.reads in
    let e-coordinators = c.in_ok-coordinators.ensures.kept.0 ∙ e-header in
    let h-logs = at_last {A = ℕ} _ _ (ahead c.in_ok-coordinators.coordinators.1) (setting.setting setting.logs) (Ok (c.in_ok-logs.logs.0, ahead c.in_ok-logs.logs.1)) e-coordinators c.in_ok-logs.ensures.reads in
    let e-logs = c.in_ok-logs.ensures.kept.0 ∙ e-coordinators in
    let h-batch = at_last {A = ℕ} _ _ (ahead c.in_ok-logs.logs.1) (setting.setting setting.batch) (Ok (c.in_ok-batch.batch.0, ahead c.in_ok-batch.batch.1)) e-logs c.in_ok-batch.ensures.reads in
    let e-batch = c.in_ok-batch.ensures.kept.0 ∙ e-logs in
    let h-batches = at_last {A = ℕ} _ _ (ahead c.in_ok-batch.batch.1) (setting.setting setting.batches) (Ok (c.in_ok-batches.batches.0, ahead c.in_ok-batches.batches.1)) e-batch c.in_ok-batches.ensures.reads in
    let e-batches = c.in_ok-batches.ensures.kept.0 ∙ e-batch in
    let h-acts = at_last {A = ℕ} _ _ (ahead c.in_ok-batches.batches.1) (setting.setting setting.acts) (Ok (c.in_ok-acts.acts.0, ahead c.in_ok-acts.acts.1)) e-batches c.in_ok-acts.ensures.reads in
    let e-acts = c.in_ok-acts.ensures.kept.0 ∙ e-batches in
    let h-begin = at_last {A = ℕ} _ _ (ahead c.in_ok-acts.acts.1) (exactly (codes "program")) (Ok (c.in_ok-begin.begin.0, ahead c.in_ok-begin.begin.1)) e-acts c.in_ok-begin.ensures.reads in
    let e-begin = c.in_ok-begin.ensures.kept.0 ∙ e-acts in
    rw (p.1, p.2) (goes _ _ (c.in_ok-header.header.0, ahead c.in_ok-header.header.1) c.in_err-program.field-0.0 h-header (goes _ _ (c.in_ok-coordinators.coordinators.0, ahead c.in_ok-coordinators.coordinators.1) c.in_err-program.field-0.0 h-coordinators (goes _ _ (c.in_ok-logs.logs.0, ahead c.in_ok-logs.logs.1) c.in_err-program.field-0.0 h-logs (goes _ _ (c.in_ok-batch.batch.0, ahead c.in_ok-batch.batch.1) c.in_err-program.field-0.0 h-batch (goes _ _ (c.in_ok-batches.batches.0, ahead c.in_ok-batches.batches.1) c.in_err-program.field-0.0 h-batches (goes _ _ (c.in_ok-acts.acts.0, ahead c.in_ok-acts.acts.1) c.in_err-program.field-0.0 h-acts (goes _ _ (c.in_ok-begin.begin.0, ahead c.in_ok-begin.begin.1) c.in_err-program.field-0.0 h-begin (stops _ _ c.in_err-program.field-0.0 (no_at_program _ _ c.in_ok-begin.begin.0 (up_to_end (ahead c.in_ok-begin.begin.1)) c.in_err-program.field-0.0 e-begin c.in_err-program.ensures.reads)))))))))

pub returns-in_err-actors : goal.returns-in_err-actors
returns-in_err-actors c =
    let p = err_from_is_err_and c.from_residual-in_err-actors.result c.from_residual-in_err-actors.ensures.1 in
    let h-header = c.in_ok-header.ensures.reads in
    let e-header = c.in_ok-header.ensures.kept.0 in
    let h-coordinators = at_last {A = ℕ} _ _ (ahead c.in_ok-header.header.1) (setting.setting setting.coordinators) (Ok (c.in_ok-coordinators.coordinators.0, ahead c.in_ok-coordinators.coordinators.1)) e-header c.in_ok-coordinators.ensures.reads in
    let e-coordinators = c.in_ok-coordinators.ensures.kept.0 ∙ e-header in
    let h-logs = at_last {A = ℕ} _ _ (ahead c.in_ok-coordinators.coordinators.1) (setting.setting setting.logs) (Ok (c.in_ok-logs.logs.0, ahead c.in_ok-logs.logs.1)) e-coordinators c.in_ok-logs.ensures.reads in
    let e-logs = c.in_ok-logs.ensures.kept.0 ∙ e-coordinators in
    let h-batch = at_last {A = ℕ} _ _ (ahead c.in_ok-logs.logs.1) (setting.setting setting.batch) (Ok (c.in_ok-batch.batch.0, ahead c.in_ok-batch.batch.1)) e-logs c.in_ok-batch.ensures.reads in
    let e-batch = c.in_ok-batch.ensures.kept.0 ∙ e-logs in
    let h-batches = at_last {A = ℕ} _ _ (ahead c.in_ok-batch.batch.1) (setting.setting setting.batches) (Ok (c.in_ok-batches.batches.0, ahead c.in_ok-batches.batches.1)) e-batch c.in_ok-batches.ensures.reads in
    let e-batches = c.in_ok-batches.ensures.kept.0 ∙ e-batch in
    let h-acts = at_last {A = ℕ} _ _ (ahead c.in_ok-batches.batches.1) (setting.setting setting.acts) (Ok (c.in_ok-acts.acts.0, ahead c.in_ok-acts.acts.1)) e-batches c.in_ok-acts.ensures.reads in
    let e-acts = c.in_ok-acts.ensures.kept.0 ∙ e-batches in
    let h-begin = at_last {A = ℕ} _ _ (ahead c.in_ok-acts.acts.1) (exactly (codes "program")) (Ok (c.in_ok-begin.begin.0, ahead c.in_ok-begin.begin.1)) e-acts c.in_ok-begin.ensures.reads in
    let e-begin = c.in_ok-begin.ensures.kept.0 ∙ e-acts in
    let h-program = at_program _ _ c.in_ok-begin.begin.0 (up_to_end (ahead c.in_ok-begin.begin.1)) (Ok (methods_of c.in_ok-program.program, ahead c.in_ok-program.behind)) e-begin c.in_ok-program.ensures.reads in
    let e-program = c.in_ok-program.ensures.kept.0 ∙ e-begin in
    rw (p.1, p.2) (goes _ _ (c.in_ok-header.header.0, ahead c.in_ok-header.header.1) c.in_err-actors.field-0.0 h-header (goes _ _ (c.in_ok-coordinators.coordinators.0, ahead c.in_ok-coordinators.coordinators.1) c.in_err-actors.field-0.0 h-coordinators (goes _ _ (c.in_ok-logs.logs.0, ahead c.in_ok-logs.logs.1) c.in_err-actors.field-0.0 h-logs (goes _ _ (c.in_ok-batch.batch.0, ahead c.in_ok-batch.batch.1) c.in_err-actors.field-0.0 h-batch (goes _ _ (c.in_ok-batches.batches.0, ahead c.in_ok-batches.batches.1) c.in_err-actors.field-0.0 h-batches (goes _ _ (c.in_ok-acts.acts.0, ahead c.in_ok-acts.acts.1) c.in_err-actors.field-0.0 h-acts (goes _ _ (c.in_ok-begin.begin.0, ahead c.in_ok-begin.begin.1) c.in_err-actors.field-0.0 h-begin (goes _ _ (methods_of c.in_ok-program.program, ahead c.in_ok-program.behind) c.in_err-actors.field-0.0 h-program (stops _ _ c.in_err-actors.field-0.0 (no_at_last {A = ℕ} _ _ (ahead c.in_ok-program.behind) (setting.setting setting.actors) c.in_err-actors.field-0.0 e-program c.in_err-actors.ensures.reads))))))))))

pub returns-in_err-states : goal.returns-in_err-states
returns-in_err-states c =
    let p = err_from_is_err_and c.from_residual-in_err-states.result c.from_residual-in_err-states.ensures.1 in
    let h-header = c.in_ok-header.ensures.reads in
    let e-header = c.in_ok-header.ensures.kept.0 in
    let h-coordinators = at_last {A = ℕ} _ _ (ahead c.in_ok-header.header.1) (setting.setting setting.coordinators) (Ok (c.in_ok-coordinators.coordinators.0, ahead c.in_ok-coordinators.coordinators.1)) e-header c.in_ok-coordinators.ensures.reads in
    let e-coordinators = c.in_ok-coordinators.ensures.kept.0 ∙ e-header in
    let h-logs = at_last {A = ℕ} _ _ (ahead c.in_ok-coordinators.coordinators.1) (setting.setting setting.logs) (Ok (c.in_ok-logs.logs.0, ahead c.in_ok-logs.logs.1)) e-coordinators c.in_ok-logs.ensures.reads in
    let e-logs = c.in_ok-logs.ensures.kept.0 ∙ e-coordinators in
    let h-batch = at_last {A = ℕ} _ _ (ahead c.in_ok-logs.logs.1) (setting.setting setting.batch) (Ok (c.in_ok-batch.batch.0, ahead c.in_ok-batch.batch.1)) e-logs c.in_ok-batch.ensures.reads in
    let e-batch = c.in_ok-batch.ensures.kept.0 ∙ e-logs in
    let h-batches = at_last {A = ℕ} _ _ (ahead c.in_ok-batch.batch.1) (setting.setting setting.batches) (Ok (c.in_ok-batches.batches.0, ahead c.in_ok-batches.batches.1)) e-batch c.in_ok-batches.ensures.reads in
    let e-batches = c.in_ok-batches.ensures.kept.0 ∙ e-batch in
    let h-acts = at_last {A = ℕ} _ _ (ahead c.in_ok-batches.batches.1) (setting.setting setting.acts) (Ok (c.in_ok-acts.acts.0, ahead c.in_ok-acts.acts.1)) e-batches c.in_ok-acts.ensures.reads in
    let e-acts = c.in_ok-acts.ensures.kept.0 ∙ e-batches in
    let h-begin = at_last {A = ℕ} _ _ (ahead c.in_ok-acts.acts.1) (exactly (codes "program")) (Ok (c.in_ok-begin.begin.0, ahead c.in_ok-begin.begin.1)) e-acts c.in_ok-begin.ensures.reads in
    let e-begin = c.in_ok-begin.ensures.kept.0 ∙ e-acts in
    let h-program = at_program _ _ c.in_ok-begin.begin.0 (up_to_end (ahead c.in_ok-begin.begin.1)) (Ok (methods_of c.in_ok-program.program, ahead c.in_ok-program.behind)) e-begin c.in_ok-program.ensures.reads in
    let e-program = c.in_ok-program.ensures.kept.0 ∙ e-begin in
    let h-actors = at_last {A = ℕ} _ _ (ahead c.in_ok-program.behind) (setting.setting setting.actors) (Ok (c.in_ok-actors.actors.0, ahead c.in_ok-actors.actors.1)) e-program c.in_ok-actors.ensures.reads in
    let e-actors = c.in_ok-actors.ensures.kept.0 ∙ e-program in
    rw (p.1, p.2) (goes _ _ (c.in_ok-header.header.0, ahead c.in_ok-header.header.1) c.in_err-states.field-0.0 h-header (goes _ _ (c.in_ok-coordinators.coordinators.0, ahead c.in_ok-coordinators.coordinators.1) c.in_err-states.field-0.0 h-coordinators (goes _ _ (c.in_ok-logs.logs.0, ahead c.in_ok-logs.logs.1) c.in_err-states.field-0.0 h-logs (goes _ _ (c.in_ok-batch.batch.0, ahead c.in_ok-batch.batch.1) c.in_err-states.field-0.0 h-batch (goes _ _ (c.in_ok-batches.batches.0, ahead c.in_ok-batches.batches.1) c.in_err-states.field-0.0 h-batches (goes _ _ (c.in_ok-acts.acts.0, ahead c.in_ok-acts.acts.1) c.in_err-states.field-0.0 h-acts (goes _ _ (c.in_ok-begin.begin.0, ahead c.in_ok-begin.begin.1) c.in_err-states.field-0.0 h-begin (goes _ _ (methods_of c.in_ok-program.program, ahead c.in_ok-program.behind) c.in_err-states.field-0.0 h-program (goes _ _ (c.in_ok-actors.actors.0, ahead c.in_ok-actors.actors.1) c.in_err-states.field-0.0 h-actors (whole_fails c.in_ok-coordinators.coordinators.0 c.in_ok-logs.logs.0 c.in_ok-batch.batch.0 c.in_ok-batches.batches.0 c.in_ok-acts.acts.0 (methods_of c.in_ok-program.program) c.in_ok-actors.actors.0 (said (ahead c.in_ok-actors.actors.1)) c.in_err-states.field-0.0 c.in_err-states.ensures))))))))))

pub returns : goal.returns
returns c =
    let h-header = c.in_ok-header.ensures.reads in
    let e-header = c.in_ok-header.ensures.kept.0 in
    let h-coordinators = at_last {A = ℕ} _ _ (ahead c.in_ok-header.header.1) (setting.setting setting.coordinators) (Ok (c.in_ok-coordinators.coordinators.0, ahead c.in_ok-coordinators.coordinators.1)) e-header c.in_ok-coordinators.ensures.reads in
    let e-coordinators = c.in_ok-coordinators.ensures.kept.0 ∙ e-header in
    let h-logs = at_last {A = ℕ} _ _ (ahead c.in_ok-coordinators.coordinators.1) (setting.setting setting.logs) (Ok (c.in_ok-logs.logs.0, ahead c.in_ok-logs.logs.1)) e-coordinators c.in_ok-logs.ensures.reads in
    let e-logs = c.in_ok-logs.ensures.kept.0 ∙ e-coordinators in
    let h-batch = at_last {A = ℕ} _ _ (ahead c.in_ok-logs.logs.1) (setting.setting setting.batch) (Ok (c.in_ok-batch.batch.0, ahead c.in_ok-batch.batch.1)) e-logs c.in_ok-batch.ensures.reads in
    let e-batch = c.in_ok-batch.ensures.kept.0 ∙ e-logs in
    let h-batches = at_last {A = ℕ} _ _ (ahead c.in_ok-batch.batch.1) (setting.setting setting.batches) (Ok (c.in_ok-batches.batches.0, ahead c.in_ok-batches.batches.1)) e-batch c.in_ok-batches.ensures.reads in
    let e-batches = c.in_ok-batches.ensures.kept.0 ∙ e-batch in
    let h-acts = at_last {A = ℕ} _ _ (ahead c.in_ok-batches.batches.1) (setting.setting setting.acts) (Ok (c.in_ok-acts.acts.0, ahead c.in_ok-acts.acts.1)) e-batches c.in_ok-acts.ensures.reads in
    let e-acts = c.in_ok-acts.ensures.kept.0 ∙ e-batches in
    let h-begin = at_last {A = ℕ} _ _ (ahead c.in_ok-acts.acts.1) (exactly (codes "program")) (Ok (c.in_ok-begin.begin.0, ahead c.in_ok-begin.begin.1)) e-acts c.in_ok-begin.ensures.reads in
    let e-begin = c.in_ok-begin.ensures.kept.0 ∙ e-acts in
    let h-program = at_program _ _ c.in_ok-begin.begin.0 (up_to_end (ahead c.in_ok-begin.begin.1)) (Ok (methods_of c.in_ok-program.program, ahead c.in_ok-program.behind)) e-begin c.in_ok-program.ensures.reads in
    let e-program = c.in_ok-program.ensures.kept.0 ∙ e-begin in
    let h-actors = at_last {A = ℕ} _ _ (ahead c.in_ok-program.behind) (setting.setting setting.actors) (Ok (c.in_ok-actors.actors.0, ahead c.in_ok-actors.actors.1)) e-program c.in_ok-actors.ensures.reads in
    let e-actors = c.in_ok-actors.ensures.kept.0 ∙ e-program in
    (Ok (c.in_ok-header.header.0, ahead c.in_ok-header.header.1), h-header, (Ok (c.in_ok-coordinators.coordinators.0, ahead c.in_ok-coordinators.coordinators.1), h-coordinators, (Ok (c.in_ok-logs.logs.0, ahead c.in_ok-logs.logs.1), h-logs, (Ok (c.in_ok-batch.batch.0, ahead c.in_ok-batch.batch.1), h-batch, (Ok (c.in_ok-batches.batches.0, ahead c.in_ok-batches.batches.1), h-batches, (Ok (c.in_ok-acts.acts.0, ahead c.in_ok-acts.acts.1), h-acts, (Ok (c.in_ok-begin.begin.0, ahead c.in_ok-begin.begin.1), h-begin, (Ok (methods_of c.in_ok-program.program, ahead c.in_ok-program.behind), h-program, (Ok (c.in_ok-actors.actors.0, ahead c.in_ok-actors.actors.1), h-actors, whole_put c.in_ok-coordinators.coordinators.0 c.in_ok-logs.logs.0 c.in_ok-batch.batch.0 c.in_ok-batches.batches.0 c.in_ok-acts.acts.0 (methods_of c.in_ok-program.program) c.in_ok-actors.actors.0 (said (ahead c.in_ok-actors.actors.1)) (c.in_ok-states.states, c.in_ok-states.txs) _ c.put_together.ensures c.in_ok-states.ensures)))))))))
