use Rattle.std.proofs.Common.{◌≡◌, Some, None, ap, ◌∙◌}
use Rattle.log_set.specs.Firsts.{first_place}
use Rattle.log_set.specs.Logs.{LogList, PendingState, is_key_durable}
use Rattle.log_set.proofs.Placing.{is_below, durable_by_place}
use Rattle.log_set.proofs.pending.Pending.is_durable.Goals as goal

pub returns-in-Some : goal.returns-in-Some
returns-in-Some c =
    let s = c.self.inside in
    let key = c.args.key in
    let log : LogList = record { keys = s.keys.items; synced = s.synced; waiting = s.waiting.items } in
    let place : Some c.in-Some.place.now ≡ first_place key s.keys.items = c.in-Some.ensures.value ∙ c.self.invariant.0 key in
    ap (is_below s.synced) place ∙ (durable_by_place key log ∙ ap (λ (x : PendingState). is_key_durable key x.log) c.self.view_is)

pub returns-in-None : goal.returns-in-None
returns-in-None c =
    let s = c.self.inside in
    let key = c.args.key in
    let log : LogList = record { keys = s.keys.items; synced = s.synced; waiting = s.waiting.items } in
    let place : None ≡ first_place key s.keys.items = c.in-None.ensures.value ∙ c.self.invariant.0 key in
    ap (is_below s.synced) place ∙ (durable_by_place key log ∙ ap (λ (x : PendingState). is_key_durable key x.log) c.self.view_is)
