use Rattle.ready_news.proofs.InRing.{ring_told}
use Rattle.ready_news.proofs.laws.ring_is_told.Goals as goal

pub returns : goal.returns
returns c w e s es more = ring_told w e s (c.frame.ensures w) es more
