use Rattle.std.proofs.Common.{not, sym, ap, ◌∙◌}
use Rattle.std.specs.List.{list_all}
use Rattle.std.proofs.lemmas.List.{take_rest}
use Rattle.protocol.specs.Words.{is_empty}
use Rattle.token_ring.proofs.Busy.{busy_behind}
use Rattle.token_ring.proofs.queue.is_busy_from.Goals as goal

pub returns : goal.returns
returns c =
    ap not (c.all_empty.ensures ∙ ap (list_all is_empty) (take_rest c.args.queues.now c.args.place))
    ∙ sym (busy_behind c.args.place c.args.queues.now)
