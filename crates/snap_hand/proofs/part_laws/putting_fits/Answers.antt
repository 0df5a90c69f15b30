use Rattle.snap_hand.proofs.PartsFit.{belongs, fits_with, places_stay_with}
use Rattle.snap_hand.proofs.part_laws.putting_fits.Goals as goal

pub returns-clause-belongs : goal.returns-clause-belongs
returns-clause-belongs c = belongs

pub returns-clause-fits : goal.returns-clause-fits
returns-clause-fits c = fits_with

pub returns-clause-stays : goal.returns-clause-stays
returns-clause-stays c = places_stay_with
