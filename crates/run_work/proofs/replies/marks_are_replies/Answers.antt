use Rattle.run_work.proofs.Replied.{all_replied}
use Rattle.run_work.proofs.replies.marks_are_replies.Goals as goal

pub returns : goal.returns
returns g c w es all = all_replied w es c.frame.ensures all
