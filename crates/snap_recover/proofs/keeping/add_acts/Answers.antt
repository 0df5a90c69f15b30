use Rattle.std.proofs.Common.{ℕ, List, get_or, subst}
use Rattle.std.proofs.lemmas.List.{get_or_default, take_all}
use Rattle.snap_recover.specs.Passes.{IsActSpot, AddsSpots}
use Rattle.snap_recover.proofs.Homes.{inserts}
use Rattle.snap_recover.proofs.Spots.{spots_step, act_spot_one}
use Rattle.snap_recover.proofs.keeping.add_acts.Goals as goal

pub loop-i-preserved : goal.loop-i-preserved
loop-i-preserved c =
    let logs = c.args.logs.now in
    let tids = c.args.tids.now in
    let i = c.loop-i.i in
    let n : ℕ = get_or tids i 0 in
    let x = c.spot_of_act-spot.result in
    spots_step (IsActSpot logs) tids i n x c.args.spots.now.items c.loop-i.spots.items c.push.new.self.items c.loop-i-test.true (get_or_default tids i 0 n c.loop-i-test.true) c.spot_of_act-spot.ensures
    (λ y p. act_spot_one logs n x y c.spot_of_act-spot.ensures p) (inserts x c.loop-i.spots.items c.push.new.self.items c.in_ok-push.ensures.items) c.loop-i.invariant

pub returns : goal.returns
returns c = subst (λ (z : List ℕ). AddsSpots (IsActSpot c.args.logs.now) z c.args.spots.now.items c.loop-i.spots.items) (take_all c.loop-i.i c.args.tids.now c.loop-i-test.false) c.loop-i.invariant
