use Rattle.protocol.specs.Runs.{reached}
use Rattle.protocol_ready.proofs.Again.{are_queues, not_again}
use Rattle.protocol_ready.proofs.refusing.no_event_is_allowed_again.Goals as goal

pub returns : goal.returns
returns g c w es text run = not_again w (reached w es) text.some_coordinators (are_queues w es)
