use Rattle.std.proofs.Common.{◌∙◌}
use Rattle.protocol.specs.Conditions.{is_given_up}
use Rattle.post_box.specs.Posting.{message_who}
use Rattle.core_rows.proofs.Found.{test_of_told, nothing_told}
use Rattle.core_rows.proofs.given_up.is_of_given_up.Goals as goal

pub returns-in-Some : goal.returns-in-Some
returns-in-Some g c = λ b s. c.is_given_up.ensures b s ∙ test_of_told (λ x. is_given_up x b) message_who _ _ c.in-Some.ensures

pub returns-in-None : goal.returns-in-None
returns-in-None g c = λ b s. nothing_told (λ x. is_given_up x b) message_who _ c.in-None.ensures
