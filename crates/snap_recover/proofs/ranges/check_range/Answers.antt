use Rattle.std.proofs.Common.{◌≡◌, ◌+◌, ◌++◌, ◌∷◌, List, take, drop, subst, sym, ap, ◌∙◌, refl, arith}
use Rattle.txn_records.specs.declared.records.Record.{Record}
use Rattle.std.specs.List.{AllByRecursion}
use Rattle.snap_recover.specs.Logs.{all_of}
use Rattle.snap_recover.specs.Opening.{IsInRange}
use Rattle.std.proofs.lemmas.List.{length-take-le}
use Rattle.snap_base.proofs.Lists.{all_join}
use Rattle.snap_recover.proofs.Steps.{same_at, split_at, logs_step}
use Rattle.snap_recover.proofs.ranges.check_range.Goals as goal

pub returns-in-Some : goal.returns-in-Some
returns-in-Some c =
    let logs = c.args.logs.now in
    let i = c.loop-i.i in
    let rs = c.as_slice.result.now in
    let p = c.in-Some.ensures in
    let at = same_at logs i c.index-logs-i.result rs c.as_slice.ensures c.index-logs-i.is in
    let is : logs ≡ take i logs ++ (p.0 ++ c.in-Some.r.now ∷ p.1) ∷ drop (i + 1) logs = split_at logs i rs c.loop-i-test.true at ∙ ap (λ (z : List Record). take i logs ++ z ∷ drop (i + 1) logs) p.2 in (
      c.in-Some.r.now,
      c.key_of.result,
      i,
      refl,
      (take i logs, drop (i + 1) logs, p.0, p.1, is, sym (length-take-le i logs (omega arith)), all_join (IsInRange c.args.actors) (all_of (take i logs)) p.0 c.loop-i.invariant p.3, p.4),
      c.key_of.ensures,
    )

pub loop-i-preserved : goal.loop-i-preserved
loop-i-preserved c =
    let logs = c.args.logs.now in
    let i = c.loop-i.i in
    let rs = c.as_slice.result.now in
    let at = same_at logs i c.index-logs-i.result rs c.as_slice.ensures c.index-logs-i.is in
    subst (AllByRecursion (IsInRange c.args.actors)) (sym (logs_step logs i rs c.loop-i-test.true at)) (all_join (IsInRange c.args.actors) (all_of (take i logs)) rs c.loop-i.invariant c.in_default.ensures)
