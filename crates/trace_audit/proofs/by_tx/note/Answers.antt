use Rattle.std.proofs.Common.{◌<◌, Option, Some, ℕ, length, rules, ap, sym, ◌∙◌}
use Rattle.std.proofs.lemmas.Option.{slice_get-get_or}
use Rattle.trace_audit.proofs.Finding.{noted_new, noted_old}
use Rattle.trace_audit.proofs.by_tx.note.Goals as goal

pub returns-in-Some : goal.returns-in-Some
returns-in-Some c =
    let within : c.args.n.0 < length c.args.places.now.items = search rules in
    noted_old c.args.n.0 c.args.at c.in-Some.field-0 c.args.places.now.items
    (slice_get-get_or c.args.places.now.items c.args.n.0 c.index.result.now within ∙ ap (λ (o : Option ℕ). Some o) (sym c.index.ensures ∙ c.in-Some.is))

pub returns-in-None : goal.returns-in-None
returns-in-None c =
    let within : c.args.n.0 < length c.args.places.now.items = search rules in
    noted_new c.args.n.0 c.args.at c.args.places.now.items
    (slice_get-get_or c.args.places.now.items c.args.n.0 c.index.result.now within ∙ ap (λ (o : Option ℕ). Some o) (sym c.index.ensures ∙ c.in-None.is))
