use Rattle.std.proofs.Common.{sym, subst}
use Rattle.snap_hand.specs.Hands.{Fits, IsHandOf}
use Rattle.snap_hand.specs.Shown.{shown}
use Rattle.footprint_rows.proofs.Moved.{free_at}
use Rattle.footprint_rows.proofs.moving.put_free.Goals as goal

pub put-requires-clause-free : goal.put-requires-clause-free
put-requires-clause-free c = free_at c.args.hand.now c.args.i c.has.result c.places_are_set.ensures.told c.has.ensures c.if-has.false

pub returns-clause-places : goal.returns-clause-places
returns-clause-places c w s places of =
    subst (IsHandOf w) (sym c.put.ensures) (c.putting_fits.ensures.stays w c.args.hand.now s c.args.i (shown c.args.part) places of)

pub returns-clause-fits : goal.returns-clause-fits
returns-clause-fits c w s places fits of =
    subst (λ h. Fits h s) (sym c.put.ensures) (c.putting_fits.ensures.fits w c.args.hand.now s c.args.i (shown c.args.part) places fits of)
