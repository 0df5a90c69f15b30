use Rattle.ready_news.proofs.InRing.{logs_told}
use Rattle.ready_news.proofs.laws.logs_are_told.Goals as goal

pub returns : goal.returns
returns c w e s h es behind more = logs_told w e s es h.logs behind.fits.logs more
