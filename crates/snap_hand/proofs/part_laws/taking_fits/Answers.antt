use Rattle.snap_hand.proofs.PartsFit.{taken_is_of_state, fits_without, places_stay_without}
use Rattle.snap_hand.proofs.part_laws.taking_fits.Goals as goal

pub returns-clause-is : goal.returns-clause-is
returns-clause-is c = taken_is_of_state

pub returns-clause-fits : goal.returns-clause-fits
returns-clause-fits c = fits_without

pub returns-clause-stays : goal.returns-clause-stays
returns-clause-stays c = places_stay_without
