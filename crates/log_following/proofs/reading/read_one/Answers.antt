use Rattle.log_following.proofs.reading.read_one.Goals as goal

pub returns-in-Err-clause-read : goal.returns-in-Err-clause-read
returns-in-Err-clause-read g c = (c.in-Err.no, record { refused = c.in-Err.ensures.refused; failed = c.in-Err.ensures.device }, c.of_opening.ensures)
