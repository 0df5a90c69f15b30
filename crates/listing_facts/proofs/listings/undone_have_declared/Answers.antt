use Rattle.listing_facts.proofs.Owing.{undone_declared}
use Rattle.listing_facts.proofs.listings.undone_have_declared.Goals as goal

pub returns : goal.returns
returns g c w es text run = undone_declared w es c.frame.ensures
