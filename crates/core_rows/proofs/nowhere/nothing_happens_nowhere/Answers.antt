use Rattle.std.proofs.Common.{nat_lt, not, is_some, find, refl, ap}
use Rattle.protocol.specs.Conditions.{conditions, epoch}
use Rattle.protocol.specs.Events.{Run, Send, End, Complete, Rollback}
use Rattle.protocol.specs.Words.{holds, is_complete_batch, is_going, is_ended, is_batch_entry, outcome_of, waiting_of}
use Rattle.core_rows.proofs.Rules.{first_rule}
use Rattle.core_rows.proofs.nowhere.nothing_happens_nowhere.Goals as goal

pub returns-clause-run : goal.returns-clause-run
unfolding conditions
returns-clause-run g c w s t a none = first_rule w (Run t a) s _ _ refl (ap (holds (λ x. is_some (waiting_of t x.inbox))) none)

pub returns-clause-send : goal.returns-clause-send
unfolding conditions
returns-clause-send g c w s t a none = first_rule w (Send t a) s _ _ refl (ap (holds (λ x. holds (λ y. is_going y.next) (outcome_of t x.outbox))) none)

pub returns-clause-end : goal.returns-clause-end
unfolding conditions
returns-clause-end g c w s t a none = first_rule w (End t a) s _ _ refl (ap (holds (λ x. holds (λ y. is_ended y.next) (outcome_of t x.outbox))) none)

pub returns-clause-complete : goal.returns-clause-complete
unfolding conditions
returns-clause-complete g c w s k a none = first_rule w (Complete k a) s _ _ refl (ap (holds (λ x. holds (λ e. not (is_complete_batch e)) (find (is_batch_entry k) x.entries))) none)

pub returns-clause-rollback : goal.returns-clause-rollback
unfolding conditions
returns-clause-rollback g c w s a none = first_rule w (Rollback a) s _ _ refl (ap (holds (λ x. nat_lt x.epoch (epoch s.book))) none)
