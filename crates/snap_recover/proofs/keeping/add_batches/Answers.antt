use Rattle.std.proofs.Common.{ℕ, List, get_or, refl, sym, subst}
use Rattle.std.proofs.lemmas.List.{get_or_default, take_all}
use Rattle.snap_recover.specs.Passes.{IsBatchSpot, AddsSpots}
use Rattle.snap_recover.proofs.Homes.{inserts}
use Rattle.snap_recover.proofs.Spots.{spots_step}
use Rattle.snap_recover.proofs.keeping.add_batches.Goals as goal

pub loop-i-preserved : goal.loop-i-preserved
loop-i-preserved c =
    let bids = c.args.bids.now in
    let i = c.loop-i.i in
    let n : ℕ = get_or bids i 0 in
    spots_step IsBatchSpot bids i n (n, 0, 0, 0) c.args.spots.now.items c.loop-i.spots.items c.push.new.self.items c.loop-i-test.true (get_or_default bids i 0 n c.loop-i-test.true) refl (λ y e. sym e)
    (inserts (n, 0, 0, 0) c.loop-i.spots.items c.push.new.self.items c.in_ok-push.ensures.items) c.loop-i.invariant

pub returns : goal.returns
returns c = subst (λ (z : List ℕ). AddsSpots IsBatchSpot z c.args.spots.now.items c.loop-i.spots.items) (take_all c.loop-i.i c.args.bids.now c.loop-i-test.false) c.loop-i.invariant
