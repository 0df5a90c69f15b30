use Rattle.std.proofs.Common.{◌≡◌, ◌<◌, false, Some, length, arith, map, is_some, ap, sym, ◌∙◌}
use Rattle.std.specs.Prelude.{slice_get}
use Rattle.std.proofs.lemmas.Option.{slice_get-get_or}
use Rattle.protocol.specs.Meant.{who_meant}
use Rattle.protocol.specs.Parts.{OfAct}
use Rattle.audit_words.specs.Seen.{is_one_of_these}
use Rattle.audit_tale.specs.declared.tales.ActTale.{ActTale}
use Rattle.audit_tale.proofs.Standing.{asks_again, asks_given_up, asks_nobody, asks_rightly}
use Rattle.audit_tale.proofs.asking.asker.Goals as goal

pub returns-in_default : goal.returns-in_default
returns-in_default c w s h = asks_nobody w c.args.t.0 c.args.a.0 c.args.told.now s h (c.in_default.ensures w s h.names)

pub returns-then-is_some : goal.returns-then-is_some
returns-then-is_some c w s h =
    asks_given_up w c.args.t.0 c.args.a.0 c.args.told.now s h c.in-Some.at c.index.result.now c.in-Some.ensures.0 c.in-Some.ensures.1 (ap (λ (x : ActTale). is_some x.given_up) (sym c.index.ensures) ∙ (sym c.is_some.ensures ∙ c.if-is_some.true))

pub returns-then-stands : goal.returns-then-stands
returns-then-stands c w s h =
    let near : c.args.a.0 < length c.args.told.now.actors.items = omega arith in
    let here : slice_get c.args.told.now.actors.items c.args.a.0 ≡ Some c.index-2.result.now = slice_get-get_or c.args.told.now.actors.items c.args.a.0 c.index-2.result.now near ∙ ap Some (sym c.index-2.ensures) in
    asks_again w c.args.t.0 c.args.a.0 c.args.told.now s h c.index-2.result.now here (ap (λ ws. is_one_of_these (OfAct c.args.t.0) (map who_meant ws)) (sym c.as_slice.ensures.value) ∙ (sym c.stands.ensures ∙ c.if-stands.true))

pub returns : goal.returns
returns c =
    let near : c.args.a.0 < length c.args.told.now.actors.items = omega arith in
    let here : slice_get c.args.told.now.actors.items c.args.a.0 ≡ Some c.index-2.result.now = slice_get-get_or c.args.told.now.actors.items c.args.a.0 c.index-2.result.now near ∙ ap Some (sym c.index-2.ensures) in
    let still : is_some c.index.result.now.given_up ≡ false = sym c.is_some.ensures ∙ c.if-is_some.false in (
      c.in-Some.ensures.1,
      near,
      c.in-Some.ensures.0,
      λ w s h. asks_rightly w c.args.t.0 c.args.a.0 c.args.told.now s h c.in-Some.at c.index.result.now c.index-2.result.now c.in-Some.ensures.0 c.in-Some.ensures.1 (ap (λ (x : ActTale). is_some x.given_up) (sym c.index.ensures) ∙ still) near here
          (ap (λ ws. is_one_of_these (OfAct c.args.t.0) (map who_meant ws)) (sym c.as_slice.ensures.value) ∙ (sym c.stands.ensures ∙ c.if-stands.false)),
    )
