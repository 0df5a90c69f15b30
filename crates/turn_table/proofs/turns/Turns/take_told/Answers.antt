use Rattle.std.proofs.Common.{add-one, None, arith}
use Rattle.turn_table.specs.Views.{gained}
use Rattle.turn_table.proofs.TakeStep.{take_allowed}
use Rattle.turn_table.proofs.TurnSteps.{lay_allowed}
use Rattle.turn_table.proofs.Calls.{out_first, out_value, out_after, view_of, slots_out, laid, holds_it, has_out, if_some, if_none}
use Rattle.turn_table.proofs.turns.Turns.take_told.Goals as goal

pub compare_exchange-found-requires : goal.compare_exchange-found-requires
compare_exchange-found-requires g c = (c.requires.own, omega arith, take_allowed _ _ _ g.W.Told.facts _ _ _ c.args.part _ _ (add-one c.args.part) c.requires.rest.0 (omega arith) c.requires.rest.1 c.requires.rest.2 c.requires.told)

pub returns-then-found-ne0-clause-none : goal.returns-then-found-ne0-clause-none
returns-then-found-ne0-clause-none g c = (c.compare_exchange-found.ensures.2 c.args.part (add-one c.args.part)).1 (λ z. omega arith)

pub exchange-value-requires : goal.exchange-value-requires
exchange-value-requires g c =
    let t = (c.compare_exchange-found.ensures.2 c.args.part (add-one c.args.part)).0 (omega arith) in
    (cc, (_, out_first _ _ _ _ t.2))

pub load-requires : goal.load-requires
load-requires g c =
    let t = (c.compare_exchange-found.ensures.2 c.args.part (add-one c.args.part)).0 (omega arith) in
    let e = out_after _ _ _ _ _ None t.2 c.exchange-value.ensures.3 in
    (cc, omega arith, lay_allowed _ _ _ _ _ _ c.args.part _ _ t.0 (add-one c.args.part) (slots_out _ _ _ e) (holds_it c.args.seat.now.me.0 _ _ _ t.1 t.0 (view_of _ _ _ e)) (has_out (gained c.args.seat.now.me.0 c.args.part t.0 t.1) _ _ (view_of _ _ _ e)))

pub returns-clause-some : goal.returns-clause-some
returns-clause-some g c =
    let t = (c.compare_exchange-found.ensures.2 c.args.part (add-one c.args.part)).0 (omega arith) in
    let e = out_after _ _ _ _ _ None t.2 c.exchange-value.ensures.3 in
    if_some _ t.0 _ (out_value _ _ _ _ _ t.2 c.exchange-value.ensures.2) (t.1, laid (gained c.args.seat.now.me.0 c.args.part t.0 t.1) _ _ _ _ c.requires.rest.1 e c.load.ensures.2, t.3)

pub returns-clause-none : goal.returns-clause-none
returns-clause-none g c =
    let t = (c.compare_exchange-found.ensures.2 c.args.part (add-one c.args.part)).0 (omega arith) in
    if_none _ t.0 _ (out_value _ _ _ _ _ t.2 c.exchange-value.ensures.2)

pub returns-clause-value : goal.returns-clause-value
returns-clause-value g c =
    let t = (c.compare_exchange-found.ensures.2 c.args.part (add-one c.args.part)).0 (omega arith) in
    let e = out_after _ _ _ _ _ None t.2 c.exchange-value.ensures.3 in
    let l = laid (gained c.args.seat.now.me.0 c.args.part t.0 t.1) _ _ _ _ c.requires.rest.1 e c.load.ensures.2 in
    if_some _ t.0 _ (out_value _ _ _ _ _ t.2 c.exchange-value.ensures.2) (holds_it c.args.seat.now.me.0 _ _ c.args.seat.now.me.0.hand t.1 t.0 (view_of _ _ _ l))
