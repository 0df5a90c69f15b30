use Rattle.std.proofs.Common.{is_some, ap, sym, ◌∙◌}
use Rattle.protocol.specs.Conditions.{conditions, is_given_up}
use Rattle.protocol.specs.Words.{holds, control_of}
use Rattle.protocol.specs.Meant.{actor_number}
use Rattle.post_box.specs.Posting.{message_to}
use Rattle.core_rows.proofs.Rules.{refused, two}
use Rattle.core_rows.proofs.Found.{same_some}
use Rattle.core_rows.proofs.given_up.drop_control_refusal.Goals as goal

pub returns : goal.returns
unfolding conditions
returns g c w s r shows = refused w _ s _ _ (two
    (ap (λ p. is_some (control_of c.args.t.0 p.controls)) shows.1 ∙ (same_some actor_number message_to c.control_to.result _ c.control_to.ensures ∙ sym c.is_some-under_way.ensures))
    (ap (λ p. holds (λ m. is_given_up m.who s.book) (control_of c.args.t.0 p.controls)) shows.1 ∙ sym (c.is_of_given_up-given_up.ensures s.book shows.0))) c.first_no.ensures
