use Rattle.std.proofs.Common.{Option, Some, None, List, option_map, slice_get, slice_set, map, sym, ap, ◌∙◌}
use Rattle.std.proofs.lemmas.List.{map-set}
use Rattle.core_rows.specs.log_set.Logs.{LogList}
use Rattle.std.proofs.lemmas.Option.{slice_get-map}
use Rattle.snap_hand.specs.Hands.{Parts}
use Rattle.snap_hand.proofs.InLists.{there_is}
use Rattle.snap_hand.proofs.hand.Hand.take_log.Goals as goal

pub returns-clause-there : goal.returns-clause-there
returns-clause-there c =
    ap (λ h. slice_get h.logs c.args.l) (sym c.self.view_is)
    ∙ (slice_get-map (option_map (λ x. x.value.log)) c.self.inside.logs.items c.args.l
    ∙ ap (option_map (option_map (λ x. x.value.log))) (there_is (option_map (λ x. x.value.log)) c.self.inside.logs.items c.args.l c.index_mut.result.now _ c.index_mut.ensures.value (ap (λ h. slice_get h.logs c.args.l) c.self.view_is ∙ c.requires.1) ∙ ap Some (sym c.take.ensures.value ∙ c.unwrap.ensures)))

pub returns-clause-taken : goal.returns-clause-taken
returns-clause-taken c =
    let with_logs : List (Option LogList) → Parts = λ xs. record { ring = option_map (λ x. x.value) c.self.inside.ring; book = option_map (λ x. x.value) c.self.inside.book; post = option_map (λ p. p.value.messages) c.self.inside.post; desk = option_map (λ x. x.value) c.self.inside.desk; logs = xs; cells = map (option_map (λ x. x.value.cell)) c.self.inside.cells.items } in
    ap with_logs (map-set (option_map (λ x. x.value.log)) c.self.inside.logs.items c.args.l c.take.new.self ∙ ap (λ o. slice_set (map (option_map (λ x. x.value.log)) c.self.inside.logs.items) c.args.l (option_map (λ x. x.value.log) o)) c.take.ensures.after)
    ∙ ap (λ (h : Parts). record h { logs = slice_set h.logs c.args.l None }) c.self.view_is
