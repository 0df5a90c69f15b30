use Rattle.std.proofs.Common.{sym}
use Rattle.snap_hand.specs.Shown.{shown}
use Rattle.snap_hand.specs.Tables.{fixed_of}
use Rattle.footprint_rows.proofs.moving.move_part.Goals as goal

pub put_free-requires : goal.put_free-requires
put_free-requires c =
    let w = fixed_of c.args.tables.now in
    let b = c.requires.both in
    c.putting_fits.ensures.belongs w c.args.to.now b.state c.args.i (shown c.in-Some.part) c.requires.to
    (c.taking_fits.ensures.is w c.args.from.now b.state c.args.i (shown c.in-Some.part) c.requires.from b.first (sym c.in-Some.ensures.taken))

pub returns-in-Some-clause-places : goal.returns-in-Some-clause-places
returns-in-Some-clause-places c =
    let w = fixed_of c.args.tables.now in
    let b = c.requires.both in
    c.put_free.ensures.places w b.state c.requires.to
    (c.taking_fits.ensures.is w c.args.from.now b.state c.args.i (shown c.in-Some.part) c.requires.from b.first (sym c.in-Some.ensures.taken))

pub returns-in-Some-clause-fits : goal.returns-in-Some-clause-fits
returns-in-Some-clause-fits c s from to =
    let w = fixed_of c.args.tables.now in
    c.put_free.ensures.fits w s c.requires.to to
    (c.taking_fits.ensures.is w c.args.from.now s c.args.i (shown c.in-Some.part) c.requires.from from (sym c.in-Some.ensures.taken))
