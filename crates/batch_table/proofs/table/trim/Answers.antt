use Rattle.std.proofs.Common.{Option, ap, sym, ◌∙◌}
use Rattle.std.specs.Prelude.{slice_set}
use Rattle.std.proofs.lemmas.Option.{slice_get-get_or}
use Rattle.protocol.specs.Parts.{Batch}
use Rattle.protocol.specs.Words.{holds, is_live_batch}
use Rattle.protocol.specs.OnDesk as desk
use Rattle.batch_table.proofs.table.trim.Goals as goal

pub returns-in-Some-clause-trimmed : goal.returns-in-Some-clause-trimmed
returns-in-Some-clause-trimmed c =
    ap (λ (x : Batch). slice_set c.args.batches.now c.in-Some.place x) c.trim.ensures
    ∙ sym (c.in-Some.ensures.0.changed (desk.marked c.args.actor.0 desk.is_trimmed) c.index-batches-place.result)

pub returns-in-Some-clause-live : goal.returns-in-Some-clause-live
returns-in-Some-clause-live c =
    let p = c.in-Some.ensures.0 in
    c.is_live.ensures ∙ (ap (λ (x : Batch). is_live_batch x) c.trim.ensures
    ∙ sym (ap (λ (o : Option Batch). holds (λ (b : Batch). is_live_batch (desk.marked c.args.actor.0 desk.is_trimmed b)) o)
    (p.found ∙ slice_get-get_or c.args.batches.now c.in-Some.place c.index-batches-place.result p.within)))
