use Rattle.std.proofs.Common.{sym, ap, ◌∙◌}
use Rattle.std.specs.Prelude.{refl}
use Rattle.book_part.proofs.Asked.{undoomed_shown, ready_if_to_decide}
use Rattle.book_part.proofs.laws.conditions_are_met_in_halves.Goals as goal

pub returns-clause-asks : goal.returns-clause-asks
returns-clause-asks c = λ h b t s e. undoomed_shown h h refl b t s ∙ e

pub returns-clause-decides : goal.returns-clause-decides
returns-clause-decides c = λ h b t s e k. ready_if_to_decide h b t s e k

pub returns-clause-numbers : goal.returns-clause-numbers
returns-clause-numbers c = λ h b s. sym (ap (λ b. b.next_c) s.0.is)
