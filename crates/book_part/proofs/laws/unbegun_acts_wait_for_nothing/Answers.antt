use Rattle.book_part.proofs.Asked.{not_decided, not_sealed, not_to_vouch}
use Rattle.book_part.proofs.laws.unbegun_acts_wait_for_nothing.Goals as goal

pub returns-clause-decided : goal.returns-clause-decided
returns-clause-decided c = λ h b t s e. not_decided h b t s e

pub returns-clause-sealed : goal.returns-clause-sealed
returns-clause-sealed c = λ h b t s e. not_sealed h b t s e

pub returns-clause-vouched : goal.returns-clause-vouched
returns-clause-vouched c = λ h b t s e a. not_to_vouch h b t s e a
