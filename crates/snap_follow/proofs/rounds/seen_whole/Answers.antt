use Rattle.std.proofs.Common.{◌≡◌, List, subst, ◌∙◌}
use Rattle.txn_records.specs.declared.records.Record.{Record}
use Rattle.snap_recover.specs.declared.refusals.RecoverNo.TheVariants as recovery
use Rattle.snap_recover.specs.Refusals.{IsLack}
use Rattle.snap_follow.proofs.rounds.seen_whole.Goals as goal

pub returns-in-Err-Missing : goal.returns-in-Err-Missing
returns-in-Err-Missing c =
    let x = c.in-Err-Missing in
    let e : x.field-0 ≡ recovery.Missing x.key x.log = cc in
    subst (λ (z : List (List Record)). IsLack z (recovery.Missing x.key x.log)) (c.as_slice.ensures ∙ c.in_ok-some.ensures) (subst (IsLack c.as_slice.result.now) e x.ensures.refused)

pub returns-in-Err-Values : goal.returns-in-Err-Values
returns-in-Err-Values c =
    let x = c.in-Err-Values in
    let e : x.field-0 ≡ recovery.Values x.key x.log x.kept x.found = cc in
    subst (λ (z : List (List Record)). IsLack z (recovery.Values x.key x.log x.kept x.found)) (c.as_slice.ensures ∙ c.in_ok-some.ensures) (subst (IsLack c.as_slice.result.now) e x.ensures.refused)
