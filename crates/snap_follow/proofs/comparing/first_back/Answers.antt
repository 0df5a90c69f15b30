use Rattle.std.proofs.Common.{◌<◌, List, length, sym, subst, below_more, arith}
use Rattle.txn_records.specs.declared.records.Record.{Record}
use Rattle.snap_recover.proofs.Steps.{same_at}
use Rattle.snap_follow.specs.Rounds.{StartsWith, list_at}
use Rattle.snap_follow.proofs.Fronts.{listed}
use Rattle.snap_follow.proofs.comparing.first_back.Goals as goal

pub returns-then-not-begins_with : goal.returns-then-not-begins_with
returns-then-not-begins_with c =
    let i = c.loop-log.log in
    let low : i < length c.args.before.now = omega (arith, c.requires, c.loop-log-test.true) in
    let rs = c.as_slice.result.now in
    let front = c.as_slice-in-loop-log.result.now in
    let list = listed c.args.lists.now i rs c.loop-log-test.true (same_at c.args.lists.now i c.index-lists-log.result rs c.as_slice.ensures c.index-lists-log.is) in
    let old = listed c.args.before.now i front low (same_at c.args.before.now i c.index-before-log.result front c.as_slice-in-loop-log.ensures c.index-before-log.is) in
    record {
      low = c.loop-log-test.true;
      is_back = λ b. let yes = c.begins_with.ensures.1 (subst (λ (z : List Record). StartsWith rs z) old (subst (λ (z : List Record). StartsWith z (list_at c.args.before.now i)) list b)) in absurd (cc);
      lower = c.loop-log.invariant;
    }

pub loop-log-preserved : goal.loop-log-preserved
loop-log-preserved c =
    let i = c.loop-log.log in
    let low : i < length c.args.before.now = omega (arith, c.requires, c.loop-log-test.true) in
    let rs = c.as_slice.result.now in
    let front = c.as_slice-in-loop-log.result.now in
    let list = listed c.args.lists.now i rs c.loop-log-test.true (same_at c.args.lists.now i c.index-lists-log.result rs c.as_slice.ensures c.index-lists-log.is) in
    let old = listed c.args.before.now i front low (same_at c.args.before.now i c.index-before-log.result front c.as_slice-in-loop-log.ensures c.index-before-log.is) in
    below_more _ _ c.loop-log.invariant
    (subst (λ (z : List Record). StartsWith z (list_at c.args.before.now i)) (sym list) (subst (λ (z : List Record). StartsWith rs z) (sym old) (c.begins_with.ensures.0 c.if-not-begins_with.false)))

pub returns : goal.returns
returns c = λ n l. c.loop-log.invariant n (omega (arith, l, c.loop-log-test.false))
