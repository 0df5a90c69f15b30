use Rattle.std.proofs.Common.{◌≢◌, ◌<◌, length, refl, arith}
use Rattle.snap_follow.proofs.Fronts.{alike_more, begins, begins_not, too_short}
use Rattle.snap_follow.proofs.comparing.begins_with.Goals as goal

pub returns-then-rs-front : goal.returns-then-rs-front
returns-then-rs-front c = ((λ bad. absurd (cc)), λ b. absurd (too_short c.args.rs.now c.args.front.now c.if-rs-front.true b))

pub returns-then-not-is_same : goal.returns-then-not-is_same
returns-then-not-is_same c =
    let low : c.loop-at.at < length c.args.rs.now = omega (arith, c.if-rs-front.false, c.loop-at-test.true) in
    let differ : c.index-rs-at.result ≢ c.index-front-at.result = λ e. let yes = c.is_same.ensures.1 e in absurd (cc) in
    ((λ bad. absurd (cc)), λ b. absurd (begins_not c.args.rs.now c.args.front.now c.loop-at.at c.index-rs-at.result c.index-front-at.result low c.loop-at-test.true c.index-rs-at.is c.index-front-at.is differ b))

pub loop-at-preserved : goal.loop-at-preserved
loop-at-preserved c =
    let low : c.loop-at.at < length c.args.rs.now = omega (arith, c.if-rs-front.false, c.loop-at-test.true) in
    alike_more c.args.rs.now c.args.front.now c.loop-at.at c.index-rs-at.result c.index-front-at.result low c.loop-at-test.true c.index-rs-at.is c.index-front-at.is (c.is_same.ensures.0 c.if-not-is_same.false) c.loop-at.invariant

pub returns : goal.returns
returns c = ((λ yes. begins c.args.rs.now c.args.front.now c.loop-at.at c.loop-at-test.false c.loop-at.invariant), λ b. refl)
