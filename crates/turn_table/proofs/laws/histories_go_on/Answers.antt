use Rattle.turn_table.proofs.Later.{goes_on, goes_on_none, goes_on_next}
use Rattle.turn_table.proofs.laws.histories_go_on.Goals as goal

pub returns-clause-more : goal.returns-clause-more
returns-clause-more g c start s t k l later = goes_on _ _ start s t k l later

pub returns-clause-none : goal.returns-clause-none
returns-clause-none g c start s t k l later same = goes_on_none _ _ start s t k l later same

pub returns-clause-next : goal.returns-clause-next
returns-clause-next g c start s t k l e later there = goes_on_next _ _ start s t k l later e there
