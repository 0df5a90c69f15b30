use Rattle.std.proofs.Common.{◌≡◌, ◌∙◌, true, length, sym, subst, rules, Result, Ok, Err, OnErr}
use Rattle.std.proofs.KnownBytes.{Keeps-refl}
use Rattle.std.proofs.lemmas.Bool.{true≢false}
use Rattle.std.proofs.lemmas.List.{length-map}
use Rattle.std.specs.Result.{is_err}
use Rattle.log_compaction.specs.Compacted.{IsNoCompaction}
use Rattle.log_compaction.specs.declared.refusals.CompactNo.{CompactNo}
use Rattle.log_following.specs.log_opening.Devices.{devices_of}
use Rattle.run_work.specs.Writings.{Writing, Writes, WritesFront, writing_of}
use Rattle.snap_run.proofs.Recovering.{compaction_refused}
use Rattle.snap_run.proofs.compactions.print_compacted.Goals as goal
use Rattle.snap_run.specs.Compactions.{compact_done, compact_out_fault, compact_too_many}

pub returns-in-Err-Logs-clause-answer : goal.returns-in-Err-Logs-clause-answer
returns-in-Err-Logs-clause-answer g c =
    let told = g.D.LogDev.told in
    let faults = g.D.LogDev.faults in
    let out : Writing = writing_of g.O.Sink c.args.out.now c.args.out.now in
    let xs = c.args.devices.now in
    let ys = c.compact.new.devices in
    let many : length (devices_of told faults xs.items) ≡ 4 = length-map xs.items (λ d. record { told = told d; faults = faults d }) ∙ (sym xs.ok.0 ∙ c.requires) in
    let long : length (devices_of told faults ys.items) ≡ 4 = length-map ys.items (λ d. record { told = told d; faults = faults d }) ∙ (sym ys.ok.0 ∙ c.compact.ensures.four) in
    compaction_refused (devices_of told faults xs.items) (devices_of told faults ys.items) out c.in-Err-Logs.no c.status_of.result many long c.status_of.ensures
    (subst (λ (no : CompactNo). IsNoCompaction (devices_of told faults xs.items) (devices_of told faults ys.items) no) c.in-Err-Logs.field-0-is c.in-Err-Logs.ensures.refused) (Keeps-refl _)

pub returns-in-Err-TooMany-clause-answer : goal.returns-in-Err-TooMany-clause-answer
returns-in-Err-TooMany-clause-answer g c =
    let before = devices_of g.D.LogDev.told g.D.LogDev.faults c.args.devices.now.items in
    let after = devices_of g.D.LogDev.told g.D.LogDev.faults c.compact.new.devices.items in
    compact_too_many c.in-Err-TooMany.logs (subst (λ (no : CompactNo). IsNoCompaction before after no) c.in-Err-TooMany.field-0-is c.in-Err-TooMany.ensures.refused) (Keeps-refl _)

-- what holds of a call that failed
where_failed : {T E : Type 0} (r : Result T E) (P : Type 0) → is_err r ≡ true → OnErr r P → P
where_failed (Ok x) P failed on = absurd (true≢false (sym failed))
where_failed (Err e) P failed on = on

pub returns-then-is_err-clause-answer : goal.returns-then-is_err-clause-answer
returns-then-is_err-clause-answer g c =
    let out : Writing = writing_of g.O.Sink c.args.out.now c.write_all.new.out in
    let is = c.in-Ok.ensures.compacted in
    let front = where_failed c.write_all.result (WritesFront out c.as_bytes.result.now) (sym c.is_err.ensures.value ∙ c.if-is_err.true) c.write_all.ensures.front in
    compact_out_fault is.0 is.2 (subst (λ bytes. WritesFront out bytes) (c.as_bytes.ensures.value ∙ is.1) front) (search rules)

pub returns-clause-answer : goal.returns-clause-answer
returns-clause-answer g c =
    let out : Writing = writing_of g.O.Sink c.args.out.now c.write_all.new.out in
    let is = c.in-Ok.ensures.compacted in
    compact_done is.0 is.2 (subst (λ bytes. Writes out bytes) (c.as_bytes.ensures.value ∙ is.1) (search rules))
