use Rattle.std.proofs.Common.{◌≡◌, ◌+◌, ◌<◌, Some, length, map, refl, subst, sym, ◌∙◌, ap, arith}
use Rattle.snap_hand.specs.Hands.{IsHandOf}
use Rattle.snap_hand.specs.Shown.{shown}
use Rattle.snap_hand.specs.Tables.{fixed_of}
use Rattle.snap_core.proofs.Together.{all_out, count_of, next_out, next_there, next_taken, next_rest}
use Rattle.snap_core.proofs.parting.all_parts.Goals as goal

pub loop-i-init : goal.loop-i-init
loop-i-init c = record {
  rest = refl;
  taken = ap (λ ps. map Some (map shown ps)) c.requires.empty;
  len = c.args.room.ok.0 ∙ ap length c.requires.empty;
  room = refl;
  hand = c.requires.hand;
  out = refl;
}

pub take_next-requires-clause-there : goal.take_next-requires-clause-there
take_next-requires-clause-there c =
    next_there c.args.whole c.loop-i.hand c.loop-i.i c.places_are_set.ensures.told c.requires.whole (subst (λ n. c.loop-i.i < n) c.requires.count c.loop-i-test.true) c.loop-i.invariant.rest

pub loop-i-preserved : goal.loop-i-preserved
loop-i-preserved c =
    let w = fixed_of c.args.tables.now in
    record {
      rest = next_rest c.args.whole c.loop-i.hand c.take_next.new.hand c.loop-i.i _ refl c.places_are_set.ensures.without c.take_next.ensures.left c.loop-i.invariant.rest;
      taken = next_taken c.args.whole c.loop-i.hand c.loop-i.i _ (map shown c.loop-i.parts.items) (map shown c.take_next.new.parts.items) refl c.places_are_set.ensures.told c.requires.whole
          (subst (λ n. c.loop-i.i < n) c.requires.count c.loop-i-test.true) c.loop-i.invariant.rest c.loop-i.invariant.taken c.take_next.ensures.pushed;
      len = c.take_next.ensures.len ∙ ap (λ n. n + 1) c.loop-i.invariant.len;
      room = c.take_next.ensures.room ∙ c.loop-i.invariant.room;
      hand = subst (IsHandOf w) (sym c.take_next.ensures.left) (c.taking_fits.ensures.stays w c.loop-i.hand c.loop-i.i c.loop-i.invariant.hand);
      out = next_out w c.loop-i.hand c.take_next.new.hand c.loop-i.i _ c.args.count refl c.places_are_set.ensures.without c.take_next.ensures.left c.loop-i.invariant.hand c.loop-i-test.true
          (c.requires.count ∙ count_of w c.args.whole c.requires.hand) c.loop-i.invariant.out;
    }

pub returns-clause-hand : goal.returns-clause-hand
returns-clause-hand c =
    let w = fixed_of c.args.tables.now in
    let whole = c.requires.count ∙ count_of w c.args.whole c.requires.hand in
    let end : c.loop-i.i ≡ c.args.count = omega arith in
    all_out c.places_tell_the_hand.ensures w c.loop-i.hand c.loop-i.i c.loop-i.invariant.hand (end ∙ whole) c.loop-i.invariant.out
