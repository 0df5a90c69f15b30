use Rattle.std.proofs.Common.{◌<◌, Box, Global, Option, None, List, option_map, length, slice_get, slice_set, map, sym, ap, subst, ◌∙◌}
use Rattle.std.specs.Option.{option_flatten}
use Rattle.std.proofs.lemmas.List.{map-set}
use Rattle.aml_slice.specs.Controls.{Rest}
use Rattle.core_rows.specs.cell_part.Room.{Roomed}
use Rattle.protocol.specs.Parts.{Cell}
use Rattle.snap_hand.specs.Hands.{Parts}
use Rattle.snap_hand.specs.Shown.{TheCell}
use Rattle.snap_hand.proofs.Numbered.{taken_read}
use Rattle.snap_hand.proofs.hand.Hand.take_cell_in.Goals as goal

pub returns-clause-taken : goal.returns-clause-taken
returns-clause-taken c =
    c.cell_part.ensures
    ∙ (ap (option_map (λ (x : Box (Roomed Rest) Global). TheCell x.value.cell)) c.take.ensures.value
    ∙ (taken_read (λ (x : Box (Roomed Rest) Global). x.value.cell) (λ x. TheCell x) c.self.inside.cells.items c.args.a c.index_mut.result.now
    (subst (λ (h : Parts). c.args.a < length h.cells) (sym c.self.view_is) c.requires) c.index_mut.ensures.value
    ∙ ap (λ (h : Parts). option_flatten (slice_get (map (option_map (λ x. TheCell x)) h.cells) c.args.a)) c.self.view_is))

pub returns-clause-left : goal.returns-clause-left
returns-clause-left c =
    let with_cells : List (Option (Cell Rest)) → Parts = λ xs. record { ring = option_map (λ x. x.value) c.self.inside.ring; book = option_map (λ x. x.value) c.self.inside.book; post = option_map (λ p. p.value.messages) c.self.inside.post; desk = option_map (λ x. x.value) c.self.inside.desk; logs = map (option_map (λ l. l.value.log)) c.self.inside.logs.items; cells = xs } in
    ap with_cells (map-set (option_map (λ x. x.value.cell)) c.self.inside.cells.items c.args.a c.take.new.self ∙ ap (λ o. slice_set (map (option_map (λ x. x.value.cell)) c.self.inside.cells.items) c.args.a (option_map (λ x. x.value.cell) o)) c.take.ensures.after)
    ∙ ap (λ (h : Parts). record h { cells = slice_set h.cells c.args.a None }) c.self.view_is
