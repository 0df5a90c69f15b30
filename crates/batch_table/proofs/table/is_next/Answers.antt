use Rattle.std.proofs.Common.{Bool, ◌&&◌, length, refl, ap, sym, ◌∙◌}
use Rattle.std.specs.Prelude.{nat_le}
use Rattle.std.proofs.lemmas.Option.{slice_get_read}
use Rattle.batch_table.proofs.FrontOver.{next_at}
use Rattle.batch_table.proofs.table.is_next.Goals as goal

pub returns-then-is_open : goal.returns-then-is_open
returns-then-is_open c =
    let bs = c.args.batches.now in
    let i = c.in-Some.place in
    let b = c.index-batches-place.result in
    let p = c.in-Some.ensures.0 in
    sym (next_at c.args.bid.0 c.args.base i c.args.front b bs c.requires.numbered c.requires.parted p c.in-Some.ensures.1 (slice_get_read bs (length bs) i b refl p.within c.index-batches-place.is)
    ∙ ap (λ (v : Bool). v && nat_le i c.args.front) (sym c.is_open.ensures ∙ c.if-is_open.true))

pub returns-else-is_open : goal.returns-else-is_open
returns-else-is_open c =
    let bs = c.args.batches.now in
    let i = c.in-Some.place in
    let b = c.index-batches-place.result in
    let p = c.in-Some.ensures.0 in
    c.if-is_open.false
    ∙ sym (next_at c.args.bid.0 c.args.base i c.args.front b bs c.requires.numbered c.requires.parted p c.in-Some.ensures.1 (slice_get_read bs (length bs) i b refl p.within c.index-batches-place.is)
    ∙ ap (λ (v : Bool). v && nat_le i c.args.front) (sym c.is_open.ensures ∙ c.if-is_open.false))
