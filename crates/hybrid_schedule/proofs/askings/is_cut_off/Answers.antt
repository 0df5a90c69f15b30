use Rattle.std.proofs.Common.{drop, ap, ◌∙◌}
use Rattle.std.proofs.lemmas.List.{take_rest}
use Rattle.protocol.specs.Words.{has_entry}
use Rattle.hybrid_schedule.proofs.Cutting.{going_is_rest}
use Rattle.hybrid_schedule.proofs.askings.is_cut_off.Goals as goal

pub returns : goal.returns
returns c =
    let entries = c.args.entries.now in
    let behind = take_rest entries c.count_below-staying.result ∙ ap (λ n. drop n entries) c.count_below-staying.ensures ∙ going_is_rest c.args.k.0 entries in
    c.has_entry.ensures ∙ ap (λ es. has_entry c.args.t.0 es) behind
