use Rattle.std.proofs.Common.{Option, Some, List, option_map, slice_set, map, ap, ◌∙◌}
use Rattle.std.proofs.lemmas.List.{map-set}
use Rattle.core_rows.specs.log_set.Logs.{LogList}
use Rattle.snap_hand.specs.Hands.{Parts}
use Rattle.snap_hand.proofs.hand.Hand.put_log.Goals as goal

pub returns : goal.returns
returns c =
    let with_logs : List (Option LogList) → Parts = λ xs. record { ring = option_map (λ x. x.value) c.self.inside.ring; book = option_map (λ x. x.value) c.self.inside.book; post = option_map (λ p. p.value.messages) c.self.inside.post; desk = option_map (λ x. x.value) c.self.inside.desk; logs = xs; cells = map (option_map (λ x. x.value.cell)) c.self.inside.cells.items } in
    ap with_logs (map-set (option_map (λ x. x.value.log)) c.self.inside.logs.items c.args.l (Some c.args.log))
    ∙ ap (λ (h : Parts). record h { logs = slice_set h.logs c.args.l (Some c.args.log.value.log) }) c.self.view_is
