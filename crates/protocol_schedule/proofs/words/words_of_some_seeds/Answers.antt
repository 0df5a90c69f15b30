use Rattle.protocol_schedule.proofs.SomeWords.{of_one, of_seven, of_greatest}
use Rattle.protocol_schedule.proofs.words.words_of_some_seeds.Goals as goal

pub returns-clause-one : goal.returns-clause-one
returns-clause-one c = of_one

pub returns-clause-seven : goal.returns-clause-seven
returns-clause-seven c = of_seven

pub returns-clause-greatest : goal.returns-clause-greatest
returns-clause-greatest c = of_greatest
