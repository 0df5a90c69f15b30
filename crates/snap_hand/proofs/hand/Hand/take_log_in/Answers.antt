use Rattle.std.proofs.Common.{◌<◌, Box, Global, Option, None, List, option_map, length, slice_get, slice_set, map, sym, ap, subst, ◌∙◌}
use Rattle.std.specs.Option.{option_flatten}
use Rattle.std.proofs.lemmas.List.{map-set}
use Rattle.core_rows.specs.log_set.Logs.{LogList, PendingState}
use Rattle.snap_hand.specs.Hands.{Parts}
use Rattle.snap_hand.specs.Shown.{TheLog}
use Rattle.snap_hand.proofs.Numbered.{taken_read}
use Rattle.snap_hand.proofs.hand.Hand.take_log_in.Goals as goal

pub returns-clause-taken : goal.returns-clause-taken
returns-clause-taken c =
    c.log_part.ensures
    ∙ (ap (option_map (λ (l : Box PendingState Global). TheLog l.value.log)) c.take.ensures.value
    ∙ (taken_read (λ (l : Box PendingState Global). l.value.log) (λ x. TheLog x) c.self.inside.logs.items c.args.l c.index_mut.result.now
    (subst (λ (h : Parts). c.args.l < length h.logs) (sym c.self.view_is) c.requires) c.index_mut.ensures.value
    ∙ ap (λ (h : Parts). option_flatten (slice_get (map (option_map (λ x. TheLog x)) h.logs) c.args.l)) c.self.view_is))

pub returns-clause-left : goal.returns-clause-left
returns-clause-left c =
    let with_logs : List (Option LogList) → Parts = λ xs. record { ring = option_map (λ x. x.value) c.self.inside.ring; book = option_map (λ x. x.value) c.self.inside.book; post = option_map (λ p. p.value.messages) c.self.inside.post; desk = option_map (λ x. x.value) c.self.inside.desk; logs = xs; cells = map (option_map (λ x. x.value.cell)) c.self.inside.cells.items } in
    ap with_logs (map-set (option_map (λ x. x.value.log)) c.self.inside.logs.items c.args.l c.take.new.self ∙ ap (λ o. slice_set (map (option_map (λ x. x.value.log)) c.self.inside.logs.items) c.args.l (option_map (λ x. x.value.log) o)) c.take.ensures.after)
    ∙ ap (λ (h : Parts). record h { logs = slice_set h.logs c.args.l None }) c.self.view_is
