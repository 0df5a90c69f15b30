use Rattle.std.proofs.Common.{List, map, ap, sym, ◌∙◌}
use Rattle.std.specs.Prelude.{filter}
use Rattle.protocol.specs.Parts.{Act}
use Rattle.protocol.specs.Words.{count, is_live_act}
use Rattle.order_book.specs.Kept.{Kept, is_leaving, is_leaving_kept, is_live_kept, tid_kept}
use Rattle.order_book.specs.Registered.{tids_of_acts}
use Rattle.order_book.proofs.Living.{live_count_seen, leaving_tids_seen}
use Rattle.order_book.proofs.acts.Acts.leaving.Goals as goal

pub first_live-first-requires : goal.first_live-first-requires
first_live-first-requires c =
    c.requires ∙ ap (λ (xs : List Act). count is_live_act xs) (sym c.self.view_is) ∙ live_count_seen c.self.inside.epoch c.self.inside.rows.items
    ∙ ap (λ (xs : List Kept). count is_live_kept xs) (sym c.as_slice-rows.ensures.value)

pub returns : goal.returns
returns c =
    c.in_ok-tids.ensures
    ∙ ap (λ (xs : List Kept). map tid_kept (filter is_leaving_kept xs)) c.as_slice-rows.ensures.value
    ∙ sym (leaving_tids_seen c.self.inside.epoch c.self.inside.rows.items)
    ∙ ap (λ (xs : List Act). tids_of_acts (filter is_leaving xs)) c.self.view_is
