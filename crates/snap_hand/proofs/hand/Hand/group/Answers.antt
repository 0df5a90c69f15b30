use Rattle.snap_hand.proofs.Held.{log_there}
use Rattle.snap_hand.proofs.Waiting.{group_told}
use Rattle.snap_hand.proofs.hand.Hand.group.Goals as goal

pub log-requires : goal.log-requires
log-requires c = log_there c.args.self.now c.args.l c.requires.log c.requires.exists

pub returns : goal.returns
returns c =
    group_told c.group.result.now c.log.result.now.log c.group.ensures.shows c.args.l
    (λ s fits. fits.logs c.args.l _ c.log.ensures)
