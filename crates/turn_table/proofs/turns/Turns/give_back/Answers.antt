use Rattle.std.proofs.Common.{add-one, Some, arith}
use Rattle.turn_table.proofs.TurnSteps.{pick_allowed, give_allowed}
use Rattle.turn_table.proofs.Calls.{out_first, out_after, view_of, slots_out, left, still_holds, has_out}
use Rattle.turn_table.proofs.turns.Turns.give_back.Goals as goal

pub load-requires : goal.load-requires
load-requires g c = (c.requires.own, omega arith, pick_allowed _ _ _ _ _ _ c.args.part _ _ c.args.value (add-one c.args.part) c.requires.rest.0 c.requires.held c.requires.rest.1)

pub exchange-none-requires : goal.exchange-none-requires
exchange-none-requires g c = (cc, (_, out_first _ _ _ _ (c.load.ensures.2 c.args.part (add-one c.args.part))))

pub store-requires : goal.store-requires
store-requires g c =
    let t = c.load.ensures.2 c.args.part (add-one c.args.part) in
    let e = out_after _ _ _ _ _ (Some c.args.value) t c.exchange-none.ensures.3 in
    (cc, omega arith, give_allowed _ _ _ _ _ _ c.args.part _ _ c.args.value (add-one c.args.part) (slots_out _ _ _ e) (still_holds c.args.seat.now.me.0 _ _ _ _ (view_of _ _ _ e) c.requires.held) (has_out c.args.seat.now.me.0 _ _ (view_of _ _ _ e)))

pub returns-clause-view : goal.returns-clause-view
returns-clause-view g c =
    let t = c.load.ensures.2 c.args.part (add-one c.args.part) in
    let e = out_after _ _ _ _ _ (Some c.args.value) t c.exchange-none.ensures.3 in
    left c.args.seat.now.me.0 c.args.part _ _ _ _ c.requires.rest.1 e (c.store.ensures.2 c.args.part (add-one c.args.part))
