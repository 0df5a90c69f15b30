use Rattle.std.proofs.Common.{◌<◌, ◌≤◌, length, arith}
use Rattle.snap_recover.proofs.Spots.{are_spots, spot_in, kept_end}
use Rattle.snap_recover.proofs.keeping.keep_all.Goals as goal

pub keep-requires-clause-is_in : goal.keep-requires-clause-is_in
keep-requires-clause-is_in c =
    let spots = c.in_ok-spots.spots.items in
    let low : c.loop-i.i < length spots = omega (arith, c.in_ok-spots.spots.ok) in
    spot_in c.args.logs.now spots c.loop-i.i c.index.result.now low c.index.ensures (are_spots c.args.logs.now spots c.in_ok-spots.ensures)

pub returns : goal.returns
returns c =
    let spots = c.in_ok-spots.spots.items in
    let end : length spots ≤ c.loop-i.i = omega (arith, c.in_ok-spots.spots.ok) in
    kept_end c.args.logs.now spots c.loop-i.i c.loop-i.kept end c.requires.whole (are_spots c.args.logs.now spots c.in_ok-spots.ensures) c.loop-i.invariant
