use Rattle.std.proofs.Common.{◌-◌, length, drop, ap, ◌∙◌}
use Rattle.std.proofs.lemmas.List.{take_rest}
use Rattle.hybrid_schedule.proofs.OfActs.{tail_is_rest}
use Rattle.hybrid_schedule.proofs.askings.tail.Goals as goal

pub returns : goal.returns
returns c =
    let entries = c.args.entries.now in
    take_rest entries (length entries - c.tail_length-length.result)
    ∙ ap (λ n. drop (length entries - n) entries) c.tail_length-length.ensures
    ∙ tail_is_rest entries
